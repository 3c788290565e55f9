-- The part that is looked for is one of the rest.
use Rattle.std.proofs.Common.{◌≡◌, ◌-◌, ◌==◌}
use Rattle.std.specs.List.{slice_get, slice_split}
use Rattle.ptu_lines.proofs.line_words.part.Given as goal

abbrev pub invariant-loop : goal.invariant-loop
invariant-loop l =
    slice_get (slice_split (λ octet. octet == l.separator) l.text) l.place
    ≡ slice_get (slice_split (λ octet. octet == l.separator) l.rest) (l.place - l.counter)
