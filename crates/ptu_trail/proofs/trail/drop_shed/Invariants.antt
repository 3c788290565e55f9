use Rattle.std.proofs.Common.{ℕ, List, ◌++◌, map, take}
use Rattle.ptu_history.specs.History.{Record}
use Rattle.ptu_trail.specs.{Clients.{AreKnown}, Faults.{record_of}, Live.{AreLive}}
use Rattle.ptu_trail.proofs.trail.drop_shed.Given as goal

-- what is live after the sheddings so far
abbrev pub invariant-loop-one : goal.invariant-loop-one
invariant-loop-one l = (history : List Record) (n at : ℕ) → AreKnown history l.clients → AreLive history n l.initial.live → AreLive (history ++ map (record_of at) (take l.one-index l.shed)) n l.live
