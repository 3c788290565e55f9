-- What the control port asks for, and what nobody but it can (the project's own choice).
use Rattle.std.specs.Prelude.{◌≡◌, ℕ, false, List, [], Option, Result}
use Rattle.ptu_grandmaster.specs.declared.driving.GmEvent.{GmEvent}
use Rattle.ptu_config.specs.{declared.settings.GmSettings.{GmSettings}, Commands.{is_stop_order}}
use Rattle.ptu_config.specs.declared.{command.Cause.{Cause}, command.Command.{Command}}
use Rattle.ptu_daemon.specs.Commands.{DoneRound, Situation, answers_from, done_events, happens_by, order_answers}
use Rattle.ptu_daemon.specs.Sends.{Standing, class_after}

-- nothing happens by it, no round is the last by it, and it is answered by nothing
pub record AsksNothing (order : Option (Result Command Cause)) : Type 0 where
  pub happens : happens_by order ≡ []
  pub goes_on : is_stop_order order ≡ false
  pub silent : (s : Situation) (obeyed : List GmEvent) → order_answers s order obeyed ≡ []

-- by these rounds the class stays, and nothing was answered
pub record CommandNothing (settings : GmSettings) (done : List DoneRound) : Type 0 where
  pub class_stays : (class : ℕ) → class_after class (done_events done) ≡ class
  pub silent : (gm : Standing) (before : ℕ) → answers_from settings gm before done ≡ []
