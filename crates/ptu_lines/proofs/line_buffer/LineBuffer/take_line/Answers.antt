use Rattle.std.proofs.Common.{◌≡◌, ◌≤◌, ◌+◌, ◌-◌, length, ap, sym, ◌∙◌, refl, arith}
use Rattle.std.specs.List.{slice_range}
use Rattle.ptu_lines.proofs.Ranges.{take-range, drop-range, length-between_places}
use Rattle.ptu_lines.proofs.line_buffer.LineBuffer.take_line.Goals as goal

pub returns : goal.returns
returns c =
    let b = c.self.inside in
    let waits : slice_range b.octets.items b.start b.end ≡ c.args.self.now.waiting = ap (λ held. held.waiting) c.self.view_is in
    let fits : b.start + c.args.size ≤ b.end =
    let len : length c.args.self.now.waiting ≡ b.end - b.start =
    ap length (sym waits) ∙ length-between_places b.octets.items b.start b.end c.self.invariant.2 c.self.invariant.3 in
    omega arith in
    let ended : b.is_ended ≡ c.args.self.now.is_ended = ap (λ held. held.is_ended) c.self.view_is in
    rw (← waits, ← ended, take-range b.octets.items b.start b.end c.args.text (omega arith), drop-range b.octets.items b.start b.end c.args.size fits) refl
