use Rattle.std.proofs.Common.{rules, ◌≡◌, ◌≤◌, ◌+◌, length, take, ap, ◌∙◌}
use Rattle.std.specs.List.{slice_range}
use Rattle.std.proofs.lemmas.{Result.{err_from_is_err_and}, Slice.{between_from_start}}
use Rattle.ptu_lines.proofs.Ranges.{range-same, range-grow, written_over, length-range}
use Rattle.ptu_lines.proofs.line_buffer.LineBuffer.fill.Goals.{then-self-ge-LONGEST_LINE, else-self-ge-LONGEST_LINE}
use Rattle.ptu_lines.proofs.line_buffer.LineBuffer.fill.Goals as goal

pub returns-in_err-taken-clause-kept : goal.returns-in_err-taken-clause-kept
returns-in_err-taken-clause-kept g c =
    let b = c.if-self-ge-LONGEST_LINE.self-inside in
    let new = c.read_behind.new.octets in
    let p = err_from_is_err_and c.from_residual.result c.from_residual.ensures.1 in
    let size : b.octets.len ≡ length b.octets.items = search rules in
    let same : length new ≡ length b.octets.items = search rules in
    let over = written_over b.octets.items new b.octets.len size same in
    let front : take b.end new ≡ take b.end b.octets.items = search rules in
    let waits : slice_range b.octets.items b.start b.end ≡ c.args.self.now.waiting =
    elim c.if-self-ge-LONGEST_LINE.branch [ then-self-ge-LONGEST_LINE w ↦ rw w.self-inside-is (between_from_start w.move_to_front.new.octets.items _ ∙ (w.move_to_front.ensures.front ∙ ap (λ held. held.waiting) c.self.view_is)) | else-self-ge-LONGEST_LINE w ↦ search rules ] in
    rw (p.1, over) (range-same b.octets.items new b.start b.end front ∙ waits)

pub returns-clause-read : goal.returns-clause-read
returns-clause-read g c =
    let b = c.if-self-ge-LONGEST_LINE.self-inside in
    let new = c.read_behind.new.octets in
    let n = c.in_ok-taken.taken in
    let size : b.octets.len ≡ length b.octets.items = search rules in
    let same : length new ≡ length b.octets.items = search rules in
    let over = written_over b.octets.items new b.octets.len size same in
    let front : take b.end new ≡ take b.end b.octets.items = search rules in
    let waits : slice_range b.octets.items b.start b.end ≡ c.args.self.now.waiting =
    elim c.if-self-ge-LONGEST_LINE.branch [ then-self-ge-LONGEST_LINE w ↦ rw w.self-inside-is (between_from_start w.move_to_front.new.octets.items _ ∙ (w.move_to_front.ensures.front ∙ ap (λ held. held.waiting) c.self.view_is)) | else-self-ge-LONGEST_LINE w ↦ search rules ] in
    let order : b.start ≤ b.end =
    elim c.if-self-ge-LONGEST_LINE.branch [ then-self-ge-LONGEST_LINE w ↦ search rules | else-self-ge-LONGEST_LINE w ↦ search rules ] in
    let fits : b.end ≤ length new = search rules in
    let taken : length (slice_range new b.end (b.end + n)) ≡ n = length-range new b.end n c.in_ok-taken.ensures.fits in
    (slice_range new b.end (b.end + n), taken, rw (over, ← waits) (range-grow b.octets.items new b.start b.end n order fits front), search rules)
