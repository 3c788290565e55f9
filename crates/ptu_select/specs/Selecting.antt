-- Which records of a slave its selector stands for.
use Rattle.std.specs.Prelude.{◌≡◌, ℕ, List, map, slice_get, Some}
use Rattle.ptu_record.specs.{Record.{Record, record_of}, SignalFails.{Timeouts}}
use Rattle.ptu_select.specs.Watched.{StandsFor}
use Rattle.ptu_select.specs.declared.master.WatchedMaster.{WatchedMaster}

-- a selector with these timeouts and priority numbers stands for this record of its slave: each watch stands for the record of its master
pub record SelectsBy (masters : List WatchedMaster) (timeouts : Timeouts) (priorities : List ℕ) (L : Record) : Type 0 where
  pub priorities_are : map (λ master. master.priority) masters ≡ priorities
  pub watches_are : (m : ℕ) (master : WatchedMaster) → slice_get masters m ≡ Some master → StandsFor master.watch timeouts (record_of m L)
