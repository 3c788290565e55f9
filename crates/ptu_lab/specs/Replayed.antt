-- What a replay has written and answered.
use Rattle.std.specs.Prelude.{◌≡◌, ℕ, List, length, Option, Result, Ok, Err}
use Rattle.std.specs.Io.KnownBytes.{append_known}
use Rattle.ptu_outside.specs.Handing.{HasPut, joined}
use Rattle.ptu_report.specs.declared.ending.Ending.{Ending}
use Rattle.ptu_report.specs.declared.ending.Ending.TheVariants as endings
use Rattle.ptu_report.specs.{declared.fault.RunFault.{RunFault}, Runs.{IfRefused}}
use Rattle.ptu_script.specs.declared.cause.Cause.{Cause}
use Rattle.ptu_world.specs.{World.{Stock}, Facts.{EndsBy, world_of}}
use Rattle.ptu_world.specs.Report.{granted_count, report, report_lines, short_count}
use Rattle.ptu_lab.specs.declared.done.Done.{Done}

-- it says that the report was written to its end; with this ending it then meets P
abbrev pub IfReplayed : Result Done (RunFault Cause) → (Ending Cause → Type 0) → Type 0
IfReplayed (Ok done) P = P (endings.Whole done.lines)
IfReplayed (Err fault) P = IfRefused fault P

-- the report on the script was written, each line handed over in one piece, and it ends so
pub record HasReplayed {K : Type 0} (written : K → Option (List ℕ))
    (handed : K → Option (List (List ℕ))) (old new : K) (stock : Stock) (script : List ℕ)
    (ending : Ending Cause) : Type 0 where
  pub written_is : written new ≡ append_known (written old) (joined (report stock script))
  pub in_pieces : HasPut written handed old new (report stock script)
  pub ends : EndsBy ending (world_of stock script) (report_lines stock script)

-- the numbers are those of the report: of the datagrams that were sent, and of the asks that it
-- says were granted and short
pub record AreCounts (stock : Stock) (script : List ℕ) (done : Done) : Type 0 where
  pub datagrams : done.datagrams ≡ length (world_of stock script).sent
  pub granted : done.granted ≡ granted_count (report_lines stock script)
  pub refused : done.refused ≡ short_count (report_lines stock script)
