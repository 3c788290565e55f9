use Rattle.std.proofs.Common.{rules, ◌≡◌, ◌≤◌, ◌==◌, false, length, take, subst}
use Rattle.std.proofs.lemmas.Bool.{ne_eqb}
use Rattle.ptu_lines.proofs.Ranges.{written_over}
use Rattle.ptu_outside.specs.Ends.{CountsEnd}
use Rattle.ptu_config.proofs.Taking.{IsTaking-start, IsTaking-more, IsTaking-end, IsTaking-full, counted_once, not_counted, taken_some}
use Rattle.ptu_config.proofs.octets.read_octets.Goals as goal

pub loop-count-init : goal.loop-count-init
loop-count-init g c = IsTaking-start g.S.Source.left g.S.Source.ends g.S.Source.faults c.args.source.now c.in_ok-octets.octets.items (search rules)

pub loop-count-preserved : goal.loop-count-preserved
loop-count-preserved g c =
    let octets = c.loop-count.octets in
    let new = c.read_behind.new.octets in
    let same : length new ≡ length octets.items = search rules in
    let front : take c.loop-count.count new ≡ take c.loop-count.count octets.items = search rules in
    let none : (c.in_ok-taken.taken == 0) ≡ false = ne_eqb c.in_ok-taken.taken 0 c.if-taken-eq0.false in
    rw (written_over octets.items new octets.len (search rules) same) (IsTaking-more g.S.Source.left g.S.Source.ends g.S.Source.faults c.args.source.now c.loop-count.source c.read_behind.new.source octets.items new c.loop-count.count c.in_ok-taken.taken
    c.loop-count.invariant front same c.in_ok-taken.ensures.read c.in_ok-taken.ensures.fits
    (subst (λ b. CountsEnd b (g.S.Source.ends c.loop-count.source) (g.S.Source.ends c.read_behind.new.source)) none c.in_ok-taken.ensures.ends) c.in_ok-taken.ensures.still)

pub returns-in_err-taken-clause-ends : goal.returns-in_err-taken-clause-ends
returns-in_err-taken-clause-ends g c = λ fresh.
    counted_once false (g.S.Source.ends c.loop-count.source) (g.S.Source.ends c.read_behind.new.source) c.in_err-taken.ensures.no_end (c.loop-count.invariant.no_end fresh)

pub returns-then-taken-eq0-clause-taken : goal.returns-then-taken-eq0-clause-taken
returns-then-taken-eq0-clause-taken g c =
    let octets = c.loop-count.octets in
    let new = c.read_behind.new.octets in
    let same : length new ≡ length octets.items = search rules in
    let front : take c.loop-count.count new ≡ take c.loop-count.count octets.items = search rules in
    let none : c.in_ok-taken.taken ≡ 0 = search rules in
    rw (c.truncate.ensures.items, written_over octets.items new octets.len (search rules) same)
    (IsTaking-end g.S.Source.left g.S.Source.ends g.S.Source.faults c.args.source.now c.loop-count.source c.read_behind.new.source octets.items new c.loop-count.count c.in_ok-taken.taken
    c.loop-count.invariant front same c.in_ok-taken.ensures.read none (c.in_ok-taken.ensures.end none))

pub returns-then-taken-eq0-clause-some : goal.returns-then-taken-eq0-clause-some
returns-then-taken-eq0-clause-some g c = taken_some _ _ _ (returns-then-taken-eq0-clause-taken g c)

pub returns-then-taken-eq0-clause-ends : goal.returns-then-taken-eq0-clause-ends
returns-then-taken-eq0-clause-ends g c = λ fresh.
    counted_once (c.in_ok-taken.taken == 0) (g.S.Source.ends c.loop-count.source) (g.S.Source.ends c.read_behind.new.source) c.in_ok-taken.ensures.ends (c.loop-count.invariant.no_end fresh)

pub returns-clause-taken : goal.returns-clause-taken
returns-clause-taken g c =
    let octets = c.loop-count.octets in
    let size : octets.len ≡ length octets.items = search rules in
    let full : length octets.items ≤ c.loop-count.count = search rules in
    IsTaking-full g.S.Source.left g.S.Source.ends g.S.Source.faults c.args.source.now c.loop-count.source octets.items c.loop-count.count c.loop-count.invariant full

pub returns-clause-ends : goal.returns-clause-ends
returns-clause-ends g c = λ fresh. not_counted (g.S.Source.ends c.loop-count.source) (c.loop-count.invariant.no_end fresh)
