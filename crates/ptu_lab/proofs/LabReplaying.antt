-- What a replay has come to, where no line was refused.
use Rattle.std.proofs.Common.{◌≡◌, ◌≤◌, ◌∙◌, ℕ, ◌+◌, ◌-◌, ◌^◌, true, false, List, [], ◌∷◌, length, Option, Some, None, IfSome, IsSome, refl, sym, ap, subst, arith}
use Rattle.std.specs.{Prelude.{nat_eq}, HashMap.{get}}
use Rattle.ptu_lines.specs.Script.{ScriptLine, Whole, Refused, script_lines}
use Rattle.ptu_report.specs.declared.ending.Ending.{Ending}
use Rattle.ptu_report.specs.declared.ending.Ending.TheVariants as endings
use Rattle.ptu_report.specs.Rules.{Goes, IsOutcome, Outcome, Refuses, Rules, ending_after, ending_at, ending_of, meaning_after, meaning_at, meaning_of}
use Rattle.ptu_judges.specs.Held.{Held}
use Rattle.ptu_outside.specs.Handing.{HasPut}
use Rattle.ptu_units.specs.Counts.{counted}
use Rattle.ptu_units.proofs.Counts.{counted-whole}
use Rattle.ptu_report.specs.{declared.fault.RunFault.{RunFault}, Reported.{HasReported}}
use Rattle.ptu_report.specs.Runs.{IfRefused}
use Rattle.ptu_report.proofs.Answered.{refused_weaker}
use Rattle.ptu_script.specs.declared.cause.Cause.{Cause}
use Rattle.ptu_outside.specs.MemoryPort.{MemoryPort}
use Rattle.ptu_slave.specs.Seen.{Seen}
use Rattle.ptu_world.specs.{Facts.{AreCounted, EndsBy, world_of}, World.{Stock, node_at}}
use Rattle.ptu_world.specs.Report.{Course, course_opening, granted_count, report, report_lines, rules, short_count}
use Rattle.ptu_world.proofs.Reported.{counts_of_rules, ends_of_rules, texts_of_rules}
use Rattle.ptu_lab.specs.declared.{done.Done.{Done}, slave_node.SlaveNode.{SlaveNode}}
use Rattle.ptu_lab.specs.{declared.lab.Lab.{Lab}, Replayed.{AreCounts, HasReplayed}}
use Rattle.ptu_lab.specs.Standing.{Agrees, StandsFor}

-- where no line is refused there is a meaning at the end
module _ {M C : Type 0} (r : Rules M C) (lines : ℕ) where
  at_outcome : (number : ℕ) (o : Outcome M C) (ends : M → Ending C) (later : M → Option M) → ((m : M) → ends m ≡ endings.Whole lines → IsSome (later m))
      → ending_at number o ends ≡ endings.Whole lines → IsSome (meaning_at o later)
  at_outcome number (Refuses cause) ends later same e = absurd cc
  at_outcome number (Goes m texts) ends later same e = same m e

  meant : (left : List ScriptLine) (m : M) (before : ℕ) → ending_after r m before left ≡ endings.Whole lines → IsSome (meaning_after r m before left)
  meant [] m before e = at_outcome (before + 1) (r.close m before) (λ after. endings.Whole before) Some (λ after e. refl) e
  meant (Refused cause ∷ rest) m before e = absurd cc
  meant (Whole text ∷ rest) m before e =
      at_outcome (before + 1) (r.step m (before + 1) text) (λ after. ending_after r after (before + 1) rest) (λ after. meaning_after r after (before + 1) rest)
      (λ after e. meant rest after (before + 1) e) e

module _ {J B : Type 0} {I : J → Type 0} (see : SlaveNode J I → Seen MemoryPort B) where
  -- the lab that stands for what all lines lead to has the numbers of the report
  pub numbers_told : (flags gaps : List Held) (lab : Lab J I) (stock : Stock) (script : List ℕ) (lines : ℕ) (done : Done)
      → IfSome (meaning_of rules (course_opening stock) (script_lines script)) (StandsFor see flags gaps lab)
      → endings.Whole lines ≡ ending_of rules (course_opening stock) (script_lines script)
      → done.datagrams ≡ length lab.journal.sent
      → done.granted ≡ lab.journal.granted
      → done.refused ≡ lab.journal.short
      → granted_count (report_lines stock script) ≤ 2 ^ 64 - 1
      → short_count (report_lines stock script) ≤ 2 ^ 64 - 1
      → AreCounts stock script done
  numbers_told flags gaps lab stock script lines done stands whole datagrams granted refused few_granted few_short =
      by (meaning_of rules (course_opening stock) (script_lines script)) (meant rules lines (script_lines script) (course_opening stock) 0 (sym whole)) stands (counts_of_rules stock script)
    where
      by : (o : Option Course) → IsSome o → IfSome o (StandsFor see flags gaps lab) → IfSome o (AreCounted stock script) → AreCounts stock script done
      by None some s c = absurd (let no : false ≡ true = some in cc)
      by (Some course) some s c = record {
        datagrams = datagrams ∙ (ap length s.sent ∙ ap (λ w. length w.sent) c.world);
        granted = granted ∙ (s.granted ∙ (ap counted c.granted ∙ counted-whole (granted_count (report_lines stock script)) few_granted));
        refused = refused ∙ (s.short ∙ (ap counted c.short ∙ counted-whole (short_count (report_lines stock script)) few_short));
      }

  -- whatever texts the journal holds, the lab stands for what it stood for
  pub texts_aside : (flags gaps : List Held) (lab lab' : Lab J I) (c : Course) → StandsFor see flags gaps lab c → lab'.nodes ≡ lab.nodes → lab'.has_begun ≡ lab.has_begun
      → lab'.journal.sent ≡ lab.journal.sent → lab'.journal.granted ≡ lab.journal.granted → lab'.journal.short ≡ lab.journal.short → StandsFor see flags gaps lab' c
  texts_aside flags gaps lab lab' c stands nodes begun sent granted short = record {
    nodes = λ q. subst (λ m. Agrees see q c.world.has_begun (get nat_eq m q) (node_at c.world.nodes q)) (sym nodes) (stands.nodes q);
    sent = sent ∙ stands.sent;
    has_begun = begun ∙ stands.has_begun;
    flags = stands.flags;
    gaps = stands.gaps;
    stock = stands.stock;
    granted = granted ∙ stands.granted;
    short = short ∙ stands.short;
  }

-- the outcome of a line whose texts were handed over
pub handed_texts : (o : Outcome Course Cause) (texts given : List (List ℕ)) (refused : Option Cause) (P Q : Course → Type 0) → ((c : Course) → P c → Q c) → given ≡ texts
    → IsOutcome o P texts refused → IsOutcome o Q given refused
handed_texts (Goes m said) texts given None P Q also same h = (also m h.0, same ∙ h.1)
handed_texts (Goes m said) texts given (Some cause) P Q also same h = absurd h
handed_texts (Refuses cause) texts given None P Q also same h = absurd h
handed_texts (Refuses cause) texts given (Some found) P Q also same h = h

-- what was put for the rules is the report
pub replayed : {K : Type 0} (written : K → Option (List ℕ)) (handed : K → Option (List (List ℕ))) (old new : K) (stock : Stock) (script : List ℕ) (ending : Ending Cause)
    → HasReported written handed old new rules (course_opening stock) (script_lines script) ending
    → HasReplayed written handed old new stock script ending
replayed written handed old new stock script ending reported =
    let put : HasPut written handed old new (report stock script) = subst (HasPut written handed old new) (texts_of_rules stock script) reported.put in
    record {
      written_is = put.written_is;
      in_pieces = put;
      ends = subst (λ e. EndsBy e (world_of stock script) (report_lines stock script)) (sym reported.ends) (ends_of_rules stock script);
    }

-- the same where a line is refused
pub has_replayed : {K : Type 0} (written : K → Option (List ℕ)) (handed : K → Option (List (List ℕ))) (old new : K) (stock : Stock) (script : List ℕ) (fault : RunFault Cause)
    → IfRefused fault (λ ending. HasReported written handed old new rules (course_opening stock) (script_lines script) ending)
    → IfRefused fault (λ ending. HasReplayed written handed old new stock script ending)
has_replayed written handed old new stock script fault h =
    refused_weaker _ _ (λ ending reported. replayed written handed old new stock script ending reported) fault h
