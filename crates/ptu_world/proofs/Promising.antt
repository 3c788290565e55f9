-- The promises hold of the history of each grandmaster.
use Rattle.std.proofs.Common.{ℕ, sym, subst}
use Rattle.ptu_laws.specs.Promises.{KeepsPromises}
use Rattle.ptu_laws.proofs.Promises.{core_keeps}
use Rattle.ptu_world.specs.{Deeds.{Grandmaster}, Grandmasters.{opening}, Promises.{IsRun}}

pub run_keeps : (ip : ℕ) (gm : Grandmaster) → IsRun ip gm → KeepsPromises gm.capacity gm.past
run_keeps ip gm run = subst (λ h. KeepsPromises gm.capacity h) (sym run.past) (core_keeps (opening gm) run.events)
