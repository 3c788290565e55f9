-- What a slave's daemon has done.
use Rattle.std.specs.Prelude.{◌≡◌, ℕ, ◌+◌, ◌*◌, ◌≤◌, List, [], ◌∷◌, ◌++◌, length, map, Option, Some, None, IsSome}
use Rattle.ptu_outside.specs.declared.{arrival.Arrival.{Arrival}, clock.Clock.{Ghosts as Clocks}}
use Rattle.ptu_outside.specs.declared.{opened.Opened.{Opened}, port.Port.{Ghosts as Ports}}
use Rattle.ptu_outside.specs.{Departure.{Departure}, Handing.{HasPut, HasPutPart}}
use Rattle.ptu_outside.specs.Telling.{IfTold, append_told}
use Rattle.ptu_config.specs.{declared.settings.SlaveSettings.{SlaveSettings}, Rounds.{all_slave_rounds}}
use Rattle.ptu_outside.specs.{Handed.{FailuresAre, SentPart}, Ports.{HaveNotRisen, ports_of}}
use Rattle.ptu_outside.specs.Taken.{Gave, HappenedAt, HaveTaken, Round, event_of, general_of}
use Rattle.ptu_slave_daemon.specs.Happenings.{SlaveHappening, Selection, Stops, happenings_of_rounds, happenings, selections_in, sent_by_happenings}
use Rattle.ptu_slave_daemon.specs.{Lines.{changes, output, slave_output_of, slave_texts}, Opening.{node_of}}
use Rattle.ptu_slave_daemon.specs.Running.{AreTimed}

-- what a daemon does not use is given back as it was opened: the ports but the last two, and the clocks but the first; by
-- port 5 nothing was sent
pub record AreAside {P C : Type 0} (sent : P → Option (List Departure)) (before after : Opened P C) : Type 0 where
  pub p0 : after.p0 ≡ before.p0
  pub p1 : after.p1 ≡ before.p1
  pub p2 : after.p2 ≡ before.p2
  pub p3 : after.p3 ≡ before.p3
  pub p5 : sent after.p5 ≡ sent before.p5
  pub c1 : after.c1 ≡ before.c1
  pub c2 : after.c2 ≡ before.c2
  pub c3 : after.c3 ≡ before.c3
  pub c4 : after.c4 ≡ before.c4
  pub c5 : after.c5 ≡ before.c5

-- all that waits at ports 4 and 5, and the moments of clock 0, were told, and are told when they are given back
pub record Tell {P C : Type 0} (ports : Ports P) (clocks : Clocks C) (before after : Opened P C) (general event : List Arrival) (times : List ℕ) : Type 0 where
  pub general_is : ports.waiting before.p4 ≡ Some general
  pub event_is : ports.waiting before.p5 ≡ Some event
  pub times_are : clocks.moments before.c0 ≡ Some times
  pub general_after : IsSome (ports.waiting after.p4)
  pub event_after : IsSome (ports.waiting after.p5)
  pub times_after : IsSome (clocks.moments after.c0)

-- what happened, whatever the counts did, and whether or not ports and clocks tell; so many datagrams were sent, so many sends
-- and receives failed, and these selections were written
pub record SlaveHappened {P C : Type 0} (ports : Ports P) (clocks : Clocks C) (settings : SlaveSettings) (before after : Opened P C)
    (selections : List Selection) (sent failed : ℕ) : Type 0 where
  -- each round took at most 64 datagrams of each channel, the first that waited where its port still tells that
  pub rounds : List Round
  pub taken : HaveTaken rounds (all_slave_rounds settings)
  pub general : Gave (ports.waiting before.p4) (ports.waiting after.p4) (general_of rounds)
  pub event : Gave (ports.waiting before.p5) (ports.waiting after.p5) (event_of rounds)
  -- what happens in such rounds, and the stop, happened: each thing at some moment, which is the next of clock 0 where that still
  -- tells its moments
  pub happenings : List SlaveHappening
  pub happened : HappenedAt (happenings_of_rounds rounds ++ Stops ∷ []) happenings
  pub moments : AreTimed (clocks.moments before.c0) (clocks.moments after.c0) (happenings_of_rounds rounds ++ Stops ∷ []) happenings
  -- port 4 was sent, in order, a part of what these make the slave send
  pub part : SentPart (ports.sent before.p4) (ports.sent after.p4) (ports.faults before.p4) (ports.faults after.p4)
      (sent_by_happenings (node_of settings) [] happenings) sent
  -- each of the others failed to be sent; each other call that failed is a receive, at most one of each channel and round, since it
  -- ends the channel for the round
  pub missed : ℕ
  pub once : missed ≤ 2 * all_slave_rounds settings
  pub each : sent + failed ≡ length (sent_by_happenings (node_of settings) [] happenings) + missed
  -- it selected by the record of these
  pub selects : changes None (selections_in (node_of settings) [] happenings) ≡ selections

module _ {P C K : Type 0} (ports : Ports P) (clocks : Clocks C) (written : K → Option (List ℕ)) (handed : K → Option (List (List ℕ))) where
  -- what port 4 was sent, and what was written, is what a slave does and selects to which these things happen
  pub record HasDone (settings : SlaveSettings) (before after : Opened P C) (old new : K) (hs : List SlaveHappening) : Type 0 where
    pub sends : IfTold (ports.sent after.p4) (append_told (ports.sent before.p4) (sent_by_happenings (node_of settings) [] hs))
    pub writes : HasPut written handed old new (slave_texts (slave_output_of settings hs))

  -- a daemon with these settings has run over the ports and clocks that were opened, and has given these back
  pub record HasServed (settings : SlaveSettings) (before after : Opened P C) (old new : K) : Type 0 where
    pub aside : AreAside ports.sent before after
    -- what was written, whatever the ports tell and however often they failed
    pub selections : List Selection
    pub sends : ℕ
    pub failures : ℕ
    pub writes : HasPut written handed old new (slave_texts (output (all_slave_rounds settings) selections sends failures))
    -- so many sends and receives failed
    pub failed : FailuresAre ports.counts_once failures (map ports.faults (ports_of before)) (map ports.faults (ports_of after))
    -- so many datagrams were sent by port 4, a part of what the record of what came makes the slave send
    pub happened : SlaveHappened ports clocks settings before after selections sends failures
    -- where all is told and no port failed, all is as the rounds say
    pub exact : (general event : List Arrival) (times : List ℕ) → Tell ports clocks before after general event times
        → HaveNotRisen (map ports.faults (ports_of before)) (map ports.faults (ports_of after))
        → HasDone settings before after old new (happenings (all_slave_rounds settings) general event times)

  -- a daemon with these settings has run over the ports and clocks that were opened until the sink failed, and has given these
  -- back
  pub record HasStopped (settings : SlaveSettings) (before after : Opened P C) (old new : K) : Type 0 where
    pub aside : AreAside ports.sent before after
    -- where all is told and no port failed, what was written is a front of what the rounds say
    pub front : (general event : List Arrival) (times : List ℕ) → Tell ports clocks before after general event times
        → HaveNotRisen (map ports.faults (ports_of before)) (map ports.faults (ports_of after))
        → HasPutPart written handed old new (slave_texts (slave_output_of settings (happenings (all_slave_rounds settings) general event times)))
