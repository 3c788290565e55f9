-- What the answer of the program says.
use Rattle.std.specs.Prelude.{ℕ, List, Option}
use Rattle.ptu_report.specs.{declared.ending.Ending.{Ending}, Reported.{HasWritten}}
use Rattle.ptu_pool_run.specs.{declared.cause.PoolCause.{PoolCause}, Poured.{pool_ending, poured_texts}}

-- the whole output on the script was written, each line handed over in one piece, and it ends so
abbrev pub HasPoured : {K : Type 0} → (K → Option (List ℕ)) → (K → Option (List (List ℕ))) → K → K → List ℕ → Ending PoolCause → Type 0
HasPoured written handed old new script ending = HasWritten written handed old new (poured_texts script) (pool_ending script) ending
