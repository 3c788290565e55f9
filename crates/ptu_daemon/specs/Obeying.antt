-- What the daemon has done so far in rounds, and by its control port.
use Rattle.std.specs.Prelude.{◌≡◌, ◌≤◌, ℕ, ◌+◌, ◌*◌, List, [], ◌∷◌, drop, Option, Some, None, Result, Ok, IfNone, IfSome}
use Rattle.std.specs.List.{AllByRecursion}
use Rattle.ptu_outside.specs.declared.{arrival.Arrival.{Arrival}, clock.Clock.{Ghosts as Clocks}, port.Port.{Ghosts as Ports}}
use Rattle.ptu_outside.specs.{Departure.{Departure}, Faults.{HasNotFallen, HasRisen}, HandsOver.{HandsOver}}
use Rattle.ptu_history.specs.History.{Record}
use Rattle.ptu_grandmaster.specs.Gm.{StandsFor}
use Rattle.ptu_config.specs.{declared.settings.GmSettings.{GmSettings}, Rounds.{all_rounds}}
use Rattle.ptu_config.specs.Commands.{is_stop_order}
use Rattle.ptu_config.specs.declared.{answer.Reply.{Reply}, command.Command.{Command}, command.Cause.{Cause}}
use Rattle.ptu_outside.specs.Rounds.{in_rounds, left_after}
use Rattle.ptu_outside.specs.Taken.{Gave, HaveTaken, event_of, general_of}
use Rattle.ptu_outside.specs.declared.tally.Tally.{Tally}
use Rattle.ptu_daemon.specs.declared.{daemon.Daemon.{Daemon}, obeying.Obeyed.{Obeyed}}
use Rattle.ptu_lanes.specs.{Heard.{answer_sent}, Orders.{listed, order_with}}
use Rattle.ptu_daemon.specs.Commands.{AreAll, AreCounted, AreRoundsOf, AreSpoken, DoneRound, HaveHappened, Situation, order_answers, answers_from, done_events, happens_by, happens_from, is_last, faults_at, command_reply, round_of, rounds_of, spoken_of, waits_at}
use Rattle.ptu_daemon.specs.{Events.{Given}, Sends.{Standing}}
use Rattle.ptu_daemon.specs.Ran.{DidRound, Handled, IsSmall, Ran, standing_as}

-- ---- the control port

-- what was handed to it; where there is none, nothing was
abbrev pub HandledAt : {P : Type 0} → Ports P → List Departure → ℕ → ℕ → ℕ → Option P → Option P → Type 0
HandledAt ports sends sent failed missed None None = (sends ≡ []) × (sent ≡ 0) × (failed ≡ 0) × (missed ≡ 0)
HandledAt ports sends sent failed missed (Some old) (Some new) = Handled ports sends sent failed missed old new
HandledAt ports sends sent failed missed _ _ = ⊥

-- ---- a command

-- what the daemon knows that is asked in a round before which there were so many, when so much was counted
abbrev pub situation_at : Standing → ℕ → Tally → Situation
situation_at gm before tally = record { gm = gm; round = before + 1; sent = tally.sent; failed = tally.failed }

-- it obeyed a command, and answers this
pub record Executed {P C : Type 0} (ports : Ports P) (clocks : Clocks C) (command : Command) (before : ℕ) (tally : Tally) (old new : Daemon P C)
    (reply : Reply) (more : Tally) : Type 0 where
  pub ran : Ran ports clocks old new (happens_by (Some (Ok command))) [] [] more.sent more.failed 0
  pub replied : (opening : ℕ) (past : List Record) → StandsFor opening old.gm past →
      reply ≡ command_reply (situation_at (standing_as old.gm opening past) before tally) command ran.events
  pub small : IsSmall 1 more

-- it did what is asked, and answered by its control port
pub record Follows {P C : Type 0} (ports : Ports P) (clocks : Clocks C) (order : Option (Result Command Cause)) (before : ℕ) (tally : Tally)
    (old new : Daemon P C) (port port' : Option P) (obeyed : Obeyed) : Type 0 where
  pub ran : Ran ports clocks old new (happens_by order) [] [] obeyed.tally.sent obeyed.tally.failed 0
  pub stops : obeyed.stops ≡ is_stop_order order
  pub small : IsSmall 1 obeyed.tally
  pub waits : waits_at ports port' ≡ waits_at ports port
  pub no_fall : HasNotFallen (faults_at ports port) (faults_at ports port')
  pub sent : ℕ
  pub failed : ℕ
  pub missed : ℕ
  pub answers : (opening : ℕ) (past : List Record) → StandsFor opening old.gm past →
      HandledAt ports (order_answers (situation_at (standing_as old.gm opening past) before tally) order ran.events) sent failed missed port port'

-- it took what is next of its control port, and did that
pub record Obeys {P C : Type 0} (ports : Ports P) (clocks : Clocks C) (key before : ℕ) (tally : Tally) (old new : Daemon P C) (port port' : Option P)
    (obeyed : Obeyed) : Type 0 where
  pub spoken : Option Arrival
  pub given : Gave (waits_at ports port) (waits_at ports port') (listed spoken)
  pub drained : ¬ HasRisen (faults_at ports port) (faults_at ports port') → IfNone spoken (IfSome (waits_at ports port') (λ left. left ≡ []))
  pub ran : Ran ports clocks old new (happens_by (order_with key spoken)) [] [] obeyed.tally.sent obeyed.tally.failed 0
  pub stops : obeyed.stops ≡ is_stop_order (order_with key spoken)
  pub small : IsSmall 1 obeyed.tally
  pub no_fall : HasNotFallen (faults_at ports port) (faults_at ports port')
  pub sent : ℕ
  pub failed : ℕ
  pub missed : ℕ
  pub answers : (opening : ℕ) (past : List Record) → StandsFor opening old.gm past →
      HandledAt ports (order_answers (situation_at (standing_as old.gm opening past) before tally) (order_with key spoken) ran.events) sent failed missed port port'

-- ---- rounds

-- a whole round, before which there were so many and so much was counted
pub record DidWhole {P C : Type 0} (ports : Ports P) (clocks : Clocks C) (settings : GmSettings) (key before : ℕ) (tally : Tally) (old new : Daemon P C)
    (port port' : Option P) (after : Obeyed) : Type 0 where
  pub turned : Daemon P C
  pub round : Tally
  pub did : DidRound ports clocks settings before old turned round
  pub small : IsSmall 256 round
  pub told : Daemon P C
  pub obeyed : Obeyed
  pub obeys : Obeys ports clocks key before (record { sent = tally.sent + round.sent; failed = tally.failed + round.failed }) turned told port port' obeyed
  pub waits : Ran ports clocks told new [] [] [] 0 0 0
  pub sent : after.tally.sent ≡ tally.sent + round.sent + obeyed.tally.sent
  pub failed : after.tally.failed ≡ tally.failed + round.failed + obeyed.tally.failed
  pub stops : after.stops ≡ obeyed.stops

-- what waits at its two ports
abbrev pub Waits : {P C : Type 0} → Ports P → Daemon P C → List Arrival → List Arrival → Type 0
Waits ports daemon general event = (ports.waiting daemon.gm.reply ≡ Some general) × (ports.waiting daemon.event ≡ Some event)

-- the daemon did so many rounds, where none but the last may have been told to be the last
pub record DidRounds {P C : Type 0} (ports : Ports P) (clocks : Clocks C) (settings : GmSettings) (rounds : ℕ) (old new : Daemon P C) (port port' : Option P)
    (tally : Tally) : Type 0 where
  pub done : List DoneRound
  pub taken : HaveTaken (rounds_of done) rounds
  pub happened : HaveHappened settings 0 done
  pub missed : ℕ
  pub once : missed ≤ 2 * rounds
  pub ran : Ran ports clocks old new (happens_from settings 0 done) (general_of (rounds_of done)) (event_of (rounds_of done)) tally.sent tally.failed missed
  pub events : ran.events ≡ done_events done
  pub given : Gave (waits_at ports port) (waits_at ports port') (spoken_of done)
  pub no_fall : HasNotFallen (faults_at ports port) (faults_at ports port')
  pub within : AllByRecursion (λ (d : DoneRound). (d.sent ≤ tally.sent) × (d.failed ≤ tally.failed)) done
  pub sent : ℕ
  pub failed : ℕ
  pub unheard : ℕ
  pub answers : (opening : ℕ) (past : List Record) → StandsFor opening old.gm past →
      let gm = standing_as old.gm opening past in
      AreCounted gm 0 0 done × HandledAt ports (answers_from settings gm 0 done) sent failed unheard port port'
  -- where no count of the control port rose, each took the next that waited there, whatever failed elsewhere
  pub heard : (waiting left : List Arrival) → ¬ HasRisen (faults_at ports port) (faults_at ports port') →
      waits_at ports port ≡ Some waiting → waits_at ports port' ≡ Some left → (left ≡ drop rounds waiting) × AreSpoken done waiting
  -- where nothing failed, what each took of the two channels is what waited, too
  pub all : (given : Given) (general_left event_left spoken_left : List Arrival) → tally.failed ≡ 0 → ¬ HasRisen (faults_at ports port) (faults_at ports port') →
      Waits ports old given.general given.event → waits_at ports port ≡ Some given.spoken →
      Waits ports new general_left event_left → waits_at ports port' ≡ Some spoken_left →
      (happens_from settings 0 done ≡ in_rounds (round_of settings given) rounds) × AreRoundsOf given 0 done
      × (general_left ≡ left_after rounds given.general) × (event_left ≡ left_after rounds given.event)

-- it did all rounds that were to be done, which are so many
pub record DidAll {P C : Type 0} (ports : Ports P) (clocks : Clocks C) (settings : GmSettings) (rounds : ℕ) (old new : Daemon P C) (port port' : Option P)
    (tally : Tally) : Type 0 where
  pub did : DidRounds ports clocks settings rounds old new port port' tally
  pub all : AreAll settings (all_rounds settings) did.done
