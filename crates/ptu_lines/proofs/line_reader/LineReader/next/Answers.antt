use Rattle.std.proofs.Common.{◌≡◌, ◌<◌, Some, None, length, take, ap, sym, ◌∙◌, arith}
use Rattle.std.proofs.lemmas.{List.{take-take}, Result.{err_from_is_err_and}}
use Rattle.std.proofs.lemmas.List.Sums.{AllPass-from_list_all}
use Rattle.ptu_lines.specs.{Script.{is_plain, cause_of, text_of}, Reading.{Reader, known_of}}
use Rattle.ptu_lines.proofs.Cutting.{HasNoEnd-from_position, cause_of-none}
use Rattle.ptu_lines.proofs.NextLine.{all_given, is_given, is_refused, is_stopped}
use Rattle.ptu_lines.proofs.line_reader.LineReader.next.Goals as goal

pub returns-clause-next : goal.returns-clause-next
returns-clause-next g c =
    let inside = c.self.inside in
    let from : Reader = record { number = inside.number; text = inside.buffer.text; before = inside.before; waiting = inside.buffer.waiting; is_ended = inside.buffer.is_ended } in
    let found = c.in_ok-end.ensures in
    let now = c.find_end.new.buffer.waiting in
    let known = known_of c.in_ok-end.end now in
    let waits : c.waiting-waiting.result.now ≡ now = c.waiting-waiting.ensures in
    let is_known : take c.extent-text.result.1 now ≡ known = rw waits at c.extent-text.ensures.known in
    let size : c.extent-text.result.1 ≡ length known = rw waits at c.extent-text.ensures.size in
    let some : 0 < length known = omega (arith, c.if-size-eq0.false, size) in
    let none : cause_of inside.before known ≡ None = ap (cause_of inside.before) (sym is_known) ∙ (rw waits at (sym c.refusal.ensures) ∙ c.in_default.is) in
    let text : text_of known ≡ take c.extent-text.result.0 now =
    let whole : take c.extent-text.result.0 known ≡ text_of known = rw waits at c.extent-text.ensures.text in
    sym whole ∙ (ap (take c.extent-text.result.0) (sym is_known) ∙ take-take _ _ now c.extent-text.ensures.order) in
    rw (← c.self.view_is, c.take_line.ensures)
    (is_given from now c.find_end.new.buffer.is_ended _ _ found.read.0 found.read.1 found.read.2 found.stays c.in_ok-end.end found.place found.enough found.in_step
    c.self.invariant.1 _ c.extent-text.result.1 some none size text)

pub returns-clause-plain : goal.returns-clause-plain
returns-clause-plain g c =
    let inside = c.self.inside in
    let now = c.find_end.new.buffer.waiting in
    let known = known_of c.in_ok-end.end now in
    let waits : c.waiting-waiting.result.now ≡ now = c.waiting-waiting.ensures in
    let is_known : take c.extent-text.result.1 now ≡ known = rw waits at c.extent-text.ensures.known in
    let none : cause_of inside.before known ≡ None = ap (cause_of inside.before) (sym is_known) ∙ (rw waits at (sym c.refusal.ensures) ∙ c.in_default.is) in
    let text : text_of known ≡ take c.extent-text.result.0 now =
    let whole : take c.extent-text.result.0 known ≡ text_of known = rw waits at c.extent-text.ensures.text in
    sym whole ∙ (ap (take c.extent-text.result.0) (sym is_known) ∙ take-take _ _ now c.extent-text.ensures.order) in
    let given : text_of known ≡ c.take_line.new.self.text = text ∙ ap (λ held. held.text) (sym c.take_line.ensures) in
    let plain = cause_of-none inside.before known none in
    (rw (← given) plain.0, rw (← given) (AllPass-from_list_all is_plain (text_of known) plain.1))

pub returns-in-Some-clause-next : goal.returns-in-Some-clause-next
returns-in-Some-clause-next g c =
    let inside = c.self.inside in
    let from : Reader = record { number = inside.number; text = inside.buffer.text; before = inside.before; waiting = inside.buffer.waiting; is_ended = inside.buffer.is_ended } in
    let found = c.in_ok-end.ensures in
    let now = c.find_end.new.buffer.waiting in
    let known = known_of c.in_ok-end.end now in
    let waits : c.waiting-waiting.result.now ≡ now = c.waiting-waiting.ensures in
    let is_known : take c.extent-text.result.1 now ≡ known = rw waits at c.extent-text.ensures.known in
    let size : c.extent-text.result.1 ≡ length known = rw waits at c.extent-text.ensures.size in
    let some : 0 < length known = omega (arith, c.if-size-eq0.false, size) in
    let cause : cause_of inside.before known ≡ Some c.in-Some.cause =
    ap (cause_of inside.before) (sym is_known) ∙ (rw waits at (sym c.refusal.ensures) ∙ c.in-Some.is) in
    rw (← c.self.view_is)
    (is_refused from now c.find_end.new.buffer.is_ended _ _ found.read.0 found.read.1 found.read.2 found.stays c.in_ok-end.end found.place found.enough found.in_step
    c.self.invariant.1 c.find_end.new.buffer.text c.in-Some.cause some cause)

pub returns-then-size-eq0-clause-next : goal.returns-then-size-eq0-clause-next
returns-then-size-eq0-clause-next g c =
    let inside = c.self.inside in
    let from : Reader = record { number = inside.number; text = inside.buffer.text; before = inside.before; waiting = inside.buffer.waiting; is_ended = inside.buffer.is_ended } in
    let found = c.in_ok-end.ensures in
    let now = c.find_end.new.buffer.waiting in
    let known = known_of c.in_ok-end.end now in
    let waits : c.waiting-waiting.result.now ≡ now = c.waiting-waiting.ensures in
    let size : c.extent-text.result.1 ≡ length known = rw waits at c.extent-text.ensures.size in
    let zero : length known ≡ 0 = sym size ∙ c.if-size-eq0.true in
    rw (← c.self.view_is)
    (all_given from now c.find_end.new.buffer.is_ended _ _ found.read.0 found.read.1 found.read.2 found.stays c.in_ok-end.end found.place found.enough found.in_step
    c.self.invariant.1 c.find_end.new.buffer.text zero)

pub returns-in_err-end-clause-next : goal.returns-in_err-end-clause-next
returns-in_err-end-clause-next g c =
    let inside = c.self.inside in
    let from : Reader = record { number = inside.number; text = inside.buffer.text; before = inside.before; waiting = inside.buffer.waiting; is_ended = inside.buffer.is_ended } in
    let found = c.in_err-end.ensures in
    let now = c.find_end.new.buffer.waiting in
    let p = err_from_is_err_and c.from_residual.result c.from_residual.ensures.1 in
    rw (p.1, p.2, ← c.self.view_is)
    (is_stopped from now c.find_end.new.buffer.is_ended _ _ found.read.0 found.read.1 found.read.2 found.stays c.find_end.new.buffer.text
    (HasNoEnd-from_position now found.unended) found.no_end)

pub returns-in_err-end-clause-faults : goal.returns-in_err-end-clause-faults
returns-in_err-end-clause-faults g c =
    let p = err_from_is_err_and c.from_residual.result c.from_residual.ensures.1 in
    rw (p.1, p.2) c.in_err-end.ensures.risen
