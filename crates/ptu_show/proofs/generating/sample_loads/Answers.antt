use Rattle.std.proofs.Common.{◌∙◌, ◌+◌, suc, refl, ap, arith}
use Rattle.std.specs.Fmt.{digits}
use Rattle.std.proofs.lemmas.{List.{length-append}, List.FromFn.{length-map-range_with_len}}
use Rattle.hex.specs.Hex.{encode_with}
use Rattle.ptu_show.specs.Generated.{ask_line, ask_lines, request_of, turn_lines}
use Rattle.ptu_show.proofs.generating.sample_loads.Goals as goal

pub returns-clause-lines : goal.returns-clause-lines
unfolding digits encode_with request_of turn_lines
returns-clause-lines c = (refl, refl, refl)

pub returns-clause-counted : goal.returns-clause-counted
unfolding turn_lines
returns-clause-counted c = λ n.
    ap suc (length-append (ask_lines n) (turn_lines 8) ∙ ap (λ k. k + 32) (length-map-range_with_len ask_line 0 n)) ∙ (omega arith)
