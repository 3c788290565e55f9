-- What a call that serves has done with the ports and clocks that it opened.
use Rattle.std.specs.Prelude.{◌≡◌, ◌≤◌, ◌⊎◌, ℕ, ◌+◌, ◌*◌, List, [], map, Option, Some, None, IsSome, IfSome}
use Rattle.std.specs.List.{AllByRecursion}
use Rattle.ptu_outside.specs.declared.{arrival.Arrival.{Arrival}, clock.Clock.{Ghosts as Clocks}}
use Rattle.ptu_outside.specs.declared.{opened.Opened.{Opened}, port.Port.{Ghosts as Ports}}
use Rattle.ptu_outside.specs.{Faults.{HasRisen}, Telling.{IfTold}}
use Rattle.ptu_grandmaster.specs.declared.driving.GmEvent.{GmEvent}
use Rattle.ptu_config.specs.{declared.settings.GmSettings.{GmSettings}, Rounds.{all_rounds}}
use Rattle.ptu_outside.specs.{Handed.{FailuresAre, WereHanded}, Ports.{HaveNotRisen, WereSent, senders_of}}
use Rattle.ptu_outside.specs.Taken.{Gave, HaveTaken, event_of, general_of}
use Rattle.ptu_lanes.specs.{Sending.{GoesOn, WasSent}, Served.{ServesByLanes, faults_of}}
use Rattle.ptu_daemon.specs.Commands.{AreAll, AreCounted, AreRoundsOf, AreSpoken, DoneRound, HaveHappened, IsSpoken, WasHandedAt, answers_from, done_events, faults_at, happens_from, many_from, rounds_of, spoken_of, waits_at}
use Rattle.ptu_daemon.specs.{Events.{Given, Takes, config_of}, Lawful.{IsLawful}}
use Rattle.ptu_daemon.specs.Served.{Said, numbers_in, opened_as, served_by, served_said}
use Rattle.ptu_daemon.specs.Sends.{sends_by}

-- what the ports of the two channels tell that waits, and clock 0 of its moments
pub record Told : Type 0 where
  pub general : Option (List Arrival)
  pub event : Option (List Arrival)
  pub moments : Option (List ℕ)

abbrev pub told_of : {P C : Type 0} → Ports P → Clocks C → Opened P C → Told
told_of ports clocks o = record { general = ports.waiting o.p4; event = ports.waiting o.p5; moments = clocks.moments o.c0 }

-- what is told is what is given, and something is still told later
pub record TellGiven (opened closed : Told) (given : Given) : Type 0 where
  pub general : opened.general ≡ Some given.general
  pub event : opened.event ≡ Some given.event
  pub moments : opened.moments ≡ Some given.moments
  pub general_still : IsSome closed.general
  pub event_still : IsSome closed.event
  pub moments_still : IsSome closed.moments

-- the ports and clocks tell that this is given, and still tell it when they are given back
abbrev pub IsGiven : {P C : Type 0} → Ports P → Clocks C → Opened P C → Opened P C → Given → Type 0
IsGiven ports clocks opened closed given = TellGiven (told_of ports clocks opened) (told_of ports clocks closed) given

-- each port was sent what is served for what is given, and goes on to tell, unless it was such that it may cease to; and the
-- numbers of the last line are those of this
pub record AreServed {P C : Type 0} (ports : Ports P) (settings : GmSettings) (given : Given) (opened closed : Opened P C) (said : Said) : Type 0 where
  pub p0 : WasSent ports opened.p0 closed.p0 (served_by settings given 0)
  pub p1 : WasSent ports opened.p1 closed.p1 (served_by settings given 1)
  pub p2 : WasSent ports opened.p2 closed.p2 (served_by settings given 2)
  pub p3 : WasSent ports opened.p3 closed.p3 (served_by settings given 3)
  pub p4 : WasSent ports opened.p4 closed.p4 (served_by settings given 4)
  pub p5 : ports.sent closed.p5 ≡ ports.sent opened.p5
  pub tells0 : GoesOn ports opened.p0 closed.p0 (served_by settings given 0)
  pub tells1 : GoesOn ports opened.p1 closed.p1 (served_by settings given 1)
  pub tells2 : GoesOn ports opened.p2 closed.p2 (served_by settings given 2)
  pub tells3 : GoesOn ports opened.p3 closed.p3 (served_by settings given 3)
  pub tells4 : GoesOn ports opened.p4 closed.p4 (served_by settings given 4)
  pub line : said ≡ served_said settings given

-- how many datagrams the events make the grandmaster send, by all of its ports
abbrev pub many_by : GmSettings → List GmEvent → ℕ
many_by settings events = many_from (opened_as settings) events

-- what happened, whatever the counts did, and whether or not ports and clocks tell
pub record Happened {P C : Type 0} (ports : Ports P) (clocks : Clocks C) (settings : GmSettings) (opened closed : Opened P C) (control control' : Option P)
    (said : Said) : Type 0 where
  -- each round took at most 64 datagrams of each channel, and one of the control port: the first that waited where its port still tells that
  pub done : List DoneRound
  pub taken : HaveTaken (rounds_of done) said.rounds
  pub general : Gave (ports.waiting opened.p4) (ports.waiting closed.p4) (general_of (rounds_of done))
  pub event : Gave (ports.waiting opened.p5) (ports.waiting closed.p5) (event_of (rounds_of done))
  pub spoken : Gave (waits_at ports control) (waits_at ports control') (spoken_of done)
  -- where that still tells, and its count did not rise, each round took the next that waited there, whatever failed elsewhere
  pub heard : (waiting : List Arrival) → waits_at ports control ≡ Some waiting → IsSome (waits_at ports control') →
      ¬ HasRisen (faults_at ports control) (faults_at ports control') → AreSpoken done waiting
  -- they are all rounds, or less where one was told to be the last
  pub all : AreAll settings (all_rounds settings) done
  -- the events are what happens in such rounds: each at some moment, which is the next of clock 0 where that still tells its moments
  pub happened : HaveHappened settings 0 done
  pub moments : Takes (clocks.moments opened.c0) (clocks.moments closed.c0) (happens_from settings 0 done) (done_events done)
  -- their history keeps a grandmaster's promises, and what they make it send is what that history decides and sends
  pub lawful : IsLawful settings (done_events done)
  -- ports 0 to 4 were sent, each in order, a part of what the events make the grandmaster send by it; so many together
  pub handed : WereHanded ports (λ i. sends_by (opened_as settings) i (done_events done)) 0 said.sent (senders_of opened) (senders_of closed)
  -- and the control port a part of the answers, each by the grandmaster as it stood then, with what was sent and failed so far
  pub answered : WasHandedAt ports control control' (answers_from settings (opened_as settings) 0 done)
  pub counted : AreCounted (opened_as settings) 0 0 done
  pub within : AllByRecursion (λ (d : DoneRound). (d.sent ≤ said.sent) × (d.failed ≤ said.failed)) done
  -- each of the others failed to be sent; each other call that failed is a receive, at most one of each channel and round, since it
  -- ends the channel for the round
  pub missed : ℕ
  pub once : missed ≤ 2 * said.rounds
  pub each : said.sent + said.failed ≡ many_by settings (done_events done) + missed

-- none of these rounds took or obeyed anything of a control port
abbrev pub AreUnspoken : List DoneRound → Type 0
AreUnspoken done = AllByRecursion (λ (d : DoneRound). (d.spoken ≡ None) × (d.obeyed ≡ [])) done

-- between these ports and clocks as they were opened, and as they are to be given back, and the control port, where there is one, this was
-- said of the serving; of the control port no fault is counted
pub record Serves {P C : Type 0} (ports : Ports P) (clocks : Clocks C) (settings : GmSettings) (opened closed : Opened P C) (control control' : Option P)
    (said : Said) : Type 0 where
  -- what failed is at most what the counts of faults rose by together, and just that where each call that fails counts one
  -- fault; where nothing failed, no count rose
  pub failures : FailuresAre ports.counts_once said.failed (faults_of ports opened) (faults_of ports closed)
  -- what was sent is the number of datagrams that ports 0 to 4 were sent, whatever the counts did
  pub sent : WereSent said.sent (map ports.sent (senders_of opened)) (map ports.sent (senders_of closed))
  -- and they are a part of what the events make the grandmaster send, which are those that came
  pub happened : Happened ports clocks settings opened closed control control' said
  -- without a control port each round is done, and nothing comes but of the two channels
  pub alone : control ≡ None → (said.rounds ≡ all_rounds settings) × AreUnspoken happened.done
  -- where no count rose, it is what is served
  pub served : (given : Given) → IsGiven ports clocks opened closed given → IsSpoken ports control control' given →
      HaveNotRisen (faults_of ports opened) (faults_of ports closed) → AreServed ports settings given opened closed said
  -- and each round took what is given for it, so that each answer is by just what came before it
  pub by_rounds : (given : Given) → IsGiven ports clocks opened closed given → IsSpoken ports control control' given →
      HaveNotRisen (faults_of ports opened) (faults_of ports closed) → AreRoundsOf given 0 happened.done
  -- the other clocks are given back as they were opened
  pub c1 : closed.c1 ≡ opened.c1
  pub c2 : closed.c2 ≡ opened.c2
  pub c3 : closed.c3 ≡ opened.c3
  pub c4 : closed.c4 ≡ opened.c4
  pub c5 : closed.c5 ≡ opened.c5

-- likewise: lanes served it, or where a lane is refused its thread, it is served on one thread, as where there are no lanes
abbrev pub ServesEitherWay : {P C : Type 0} → Ports P → Clocks C → GmSettings → Opened P C → Opened P C → Option P → Option P → Said → Type 0
ServesEitherWay ports clocks settings opened closed control control' said =
    ServesByLanes ports clocks settings (config_of settings) opened closed control control' said.rounds (numbers_in said)
    ⊎ Serves ports clocks settings opened closed control control' said

-- the control port is opened where the settings name one, as its host tells it
pub record IsOpenedFor {P : Type 0} (settings : GmSettings) (opening : Option P) (control : Option P) : Type 0 where
  pub none : settings.control_port ≡ None → control ≡ None
  pub some : IsSome settings.control_port → IsSome control
  pub opens : IfSome control (λ port. IfSome opening (λ told. port ≡ told))

-- likewise, where a host that told that it opens `opening`, and `speaking` as its control port, tells that it was given `back` and
-- `spoken`: on one thread, or by lanes
pub record HasServed {P C : Type 0} (ports : Ports P) (clocks : Clocks C) (settings : GmSettings) (opening back : Option (Opened P C))
    (speaking spoken : Option P) (said : Said) : Type 0 where
  pub opened : Opened P C
  pub closed : Opened P C
  pub opens : IfSome opening (λ told. opened ≡ told)
  pub gives_back : IfTold back (Some closed)
  pub control : Option P
  pub control' : Option P
  pub speaks : IsOpenedFor settings speaking control
  pub speaks_back : IfSome control' (λ port. IfTold spoken (Some port))
  pub serves : settings.senders ≡ 0 → Serves ports clocks settings opened closed control control' said
  pub by_lanes : 1 ≤ settings.senders → ServesEitherWay ports clocks settings opened closed control control' said
