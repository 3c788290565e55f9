-- For which causes `join` refuses a line.
use Rattle.std.proofs.Common.{ℕ, ◌+◌, Bool, true, false, List, [], ◌∷◌, Option, Some, None, Ok, inl, inr, refl}
use Rattle.std.specs.Prelude.{if◌then◌else◌}
use Rattle.ptu_lines.specs.declared.cause.LineCause.{LineCause}
use Rattle.ptu_lines.specs.Script.{ScriptLine, Whole, Refused, pieces, script_lines}
use Rattle.ptu_lines.specs.Words.{octets_of}
use Rattle.ptu_script.specs.Command.{is_comment}
use Rattle.ptu_report.specs.{declared.ending.Ending.{Ending}, Rules.{ending_after, ending_at}}
use Rattle.ptu_show.specs.Reading.{datagram_by}
use Rattle.ptu_show.specs.Joined.{HasJoinCause, join_rules, joined_by_line, joined_ending}
use Rattle.ptu_show.proofs.ShowCauses.{AreOfReader, lines_from-causes}

step_by : (past : List (List ℕ)) (number : ℕ) (b : Bool) (octets : Option (List ℕ)) (later : List (List ℕ) → Ending LineCause) → ((m : List (List ℕ)) → HasJoinCause (later m))
    → HasJoinCause (ending_at number (joined_by_line past number (if b then Ok None else datagram_by octets)) later)
step_by past number true octets later h = h past
step_by past number false None later h = inr (inr (inr refl))
step_by past number false (Some octets) later h = h (octets ∷ past)

ending-causes : (past : List (List ℕ)) (before : ℕ) (lines : List ScriptLine) → AreOfReader lines → HasJoinCause (ending_after join_rules past before lines)
ending-causes past before [] h = tt
ending-causes past before (Refused cause ∷ rest) h =
    elim h.0 [
      | inl e ↦ inl e
      | inr o ↦ elim o [ inl e ↦ inr (inl e) | inr e ↦ inr (inr (inl e)) ]
    ]
ending-causes past before (Whole text ∷ rest) h =
    step_by past (before + 1) (is_comment text) (octets_of text) (λ after. ending_after join_rules after (before + 1) rest) (λ after. ending-causes after (before + 1) rest h)

pub joined_ending-causes : (input : List ℕ) → HasJoinCause (joined_ending input)
joined_ending-causes input = ending-causes [] 0 (script_lines input) (lines_from-causes 0 (pieces input))
