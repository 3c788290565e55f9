-- The lines of output on a script of pools. The words are the project's own choice.
use Rattle.std.specs.{Prelude.{ℕ, List, [], ◌∷◌, ◌++◌, codes}, Fmt.{decimal}}
use Rattle.hex.specs.Hex.{encode_lower}
use Rattle.ptu_lines.specs.Texts.{address_text}
use Rattle.ptu_report_lines.specs.Statements.{channel_text, words_text}
use Rattle.ptu_pool_run.specs.{Cause.{pool_cause_text}, declared.cause.PoolCause.{PoolCause}}
use Rattle.ptu_pool_run.specs.declared.output.PoolLine.{PoolLine}
use Rattle.ptu_pool_run.specs.declared.output.PoolLine.TheVariants.{Sent, Stranger, Bad, End}

-- that a line is refused for this cause
abbrev pub pool_refusal_text : PoolCause → List ℕ
pool_refusal_text cause = words_text (codes "bad" ∷ pool_cause_text cause ∷ [])

-- the octets of a line, with the 0A at its end
abbrev pub pool_line_text : PoolLine → List ℕ
pool_line_text (Sent line pool channel to octets) =
    words_text (decimal line ∷ codes "pool" ∷ decimal pool ∷ codes "send" ∷ channel_text channel ∷ address_text to
    ∷ encode_lower octets ∷ []) ++ codes "\n"
pool_line_text (Stranger line) = decimal line ++ codes " stranger\n"
pool_line_text (Bad line cause) = words_text (decimal line ∷ pool_refusal_text cause ∷ []) ++ codes "\n"
pool_line_text (End lines) = words_text (codes "end" ∷ decimal lines ∷ []) ++ codes "\n"
