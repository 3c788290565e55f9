-- What was put for the rules is the output on a script.
use Rattle.std.proofs.Common.{ℕ, List, Option, Result, subst}
use Rattle.ptu_lines.specs.Script.{script_lines}
use Rattle.ptu_outside.specs.Handing.{HasPut}
use Rattle.ptu_report.specs.declared.{ending.Ending.{Ending}, fault.RunFault.{RunFault}}
use Rattle.ptu_report.specs.{Reported.{HasReported}, Runs.{IfWritten}}
use Rattle.ptu_report.proofs.Answered.{written_weaker}
use Rattle.ptu_pool_run.specs.{declared.cause.PoolCause.{PoolCause}, Answers.{HasPoured}}
use Rattle.ptu_pool_run.specs.{Poured.{poured_texts}, Reading.{none_told, pool_rules}}
use Rattle.ptu_pool_run.proofs.Keeping.{texts_of_script}

pub poured_whole : {K : Type 0} (written : K → Option (List ℕ)) (handed : K → Option (List (List ℕ))) (old new : K) (script : List ℕ) (ending : Ending PoolCause)
    → HasReported written handed old new pool_rules none_told (script_lines script) ending
    → HasPoured written handed old new script ending
poured_whole written handed old new script ending reported =
    let put : HasPut written handed old new (poured_texts script) = subst (HasPut written handed old new) (texts_of_script script) reported.put in
    record { written_is = put.written_is; in_pieces = put; ends = reported.ends }

-- the answer, likewise
pub has_poured : {K : Type 0} (written : K → Option (List ℕ)) (handed : K → Option (List (List ℕ))) (old new : K) (script : List ℕ) (r : Result ℕ (RunFault PoolCause))
    → IfWritten r (λ ending. HasReported written handed old new pool_rules none_told (script_lines script) ending)
    → IfWritten r (λ ending. HasPoured written handed old new script ending)
has_poured written handed old new script r h = written_weaker _ _ (λ ending reported. poured_whole written handed old new script ending reported) r h
