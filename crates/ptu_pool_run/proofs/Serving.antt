-- What each client of a pool gets is within the time that it holds, and comes in time where the pool's turns do.
use Rattle.std.proofs.Common.{ℕ, List, refl}
use Rattle.ptu_history.specs.History.{Record}
use Rattle.ptu_laws.specs.Sound.{IsSound}
use Rattle.ptu_laws.proofs.{Served.{periods-sound, rate-sound}, Stands.{sound-core}, Turned.{met-in-each}}
use Rattle.ptu_script.specs.declared.command.GrandmasterSetup.{GrandmasterSetup}
use Rattle.ptu_pool_run.specs.Poured.{told_in}
use Rattle.ptu_pool_run.specs.Promises.{SendsInTimeToPools, ServesClientsOfPools, core_events, history_of, pool_opening}

module _ (script : List ℕ) (setup : GrandmasterSetup) (i : ℕ) where
  abbrev all : List Record
  all = history_of setup (told_in script) i

  abbrev capacity : ℕ
  capacity = (pool_opening setup (told_in script) i).capacity

  sound : IsSound capacity all
  sound = sound-core (pool_opening setup (told_in script) i) (core_events setup (told_in script) i)

pub serves_clients : (script : List ℕ) → ServesClientsOfPools script
serves_clients script = record {
  periods = λ setup i c k x is. periods-sound (capacity script setup i) (all script setup i) (sound script setup i) c k x;
  rate = λ setup i c k l x is. rate-sound (capacity script setup i) (all script setup i) (sound script setup i) c k l x;
}

pub sends_in_time : (script : List ℕ) → SendsInTimeToPools script
sends_in_time script = record {
  by_events = λ setup i is. refl;
  in_each = λ setup i c k n l u between from to is kind last begun within each.
      met-in-each (pool_opening setup (told_in script) i) (core_events setup (told_in script) i) c k n l u between from to kind last begun within each;
}
