-- Which Signaling messages a grandmaster sends: the one reply to each that it hears, and the CANCEL of each grant that it
-- sheds (IEEE 1588-2019 clause 16.1).
use Rattle.std.specs.Prelude.{◌≡◌, ℕ, Bool, ⊤, ◌==◌, filter, List, [], ◌∷◌, ◌++◌, map, Ok}
use Rattle.ptu_messages.specs.declared.tlv.{Tlv.{Tlv}, Tlv.TheVariants.{Ack, Grant}}
use Rattle.ptu_outside.specs.Departure.{Departure}
use Rattle.ptu_history.specs.{Core.{core_moment}, Counts.{counts}, Live.{Grant as LiveGrant}, Shedding.{shed_grants}}
use Rattle.ptu_history.specs.Events as events
use Rattle.ptu_gm_messages.specs.declared.item.{Item.{Item}, Item.TheVariants.{Request, Cancel}}
use Rattle.ptu_gm_messages.specs.Replies.{cancels_to, lease_of}
use Rattle.ptu_script.specs.declared.command.Command.{Command}
use Rattle.ptu_report_lines.specs.declared.sent.Sent.{Sent}
use Rattle.ptu_world.specs.{Deeds.{Grandmaster}, Promises.{type_of}, World.{World, Done, sent_from, step}}

-- a datagram is a Signaling (clause 13.3.2.3)
abbrev pub is_signaling : Departure → Bool
is_signaling d = type_of d.bytes == 12

-- the node at the address sent it
abbrev pub is_sent_by : ℕ → Sent → Bool
is_sent_by ip sent = sent.from == ip

-- a command is taken, and the node at an address sends some datagrams, of which these are the Signalings, in order
pub record Signals (w : World) (command : Command) (ip : ℕ) (signalings : List Departure) : Type 0 where
  pub done : Done
  pub step : step w command ≡ Ok done
  pub sends : List Departure
  pub sent : done.world.sent ≡ w.sent ++ map (sent_from ip) sends
  pub just : filter is_signaling sends ≡ signalings

-- a REQUEST is answered by a GRANT of its messageType and logInterMessagePeriod, a CANCEL by its acknowledgement
abbrev pub AnswersItem : Item → Tlv → Type 0
AnswersItem (Request ask) answer =
    (seconds : ℕ) × (renewal : Bool) × (answer ≡ Grant (record { code = ask.code; log = ask.log; seconds = seconds }) renewal)
AnswersItem (Cancel code) answer = answer ≡ Ack code

-- each item is answered, in order, and nothing else is
unfoldable pub AnswerEach : List Item → List Tlv → Type 0
AnswerEach [] [] = ⊤
AnswerEach [] (answer ∷ answers) = ⊥
AnswerEach (item ∷ items) [] = ⊥
AnswerEach (item ∷ items) (answer ∷ answers) = AnswersItem item answer × AnswerEach items answers

-- the grants that a change of capacity sheds, where it is handed a moment
abbrev pub shed_by : Grandmaster → ℕ → ℕ → List LiveGrant
shed_by g t capacity = shed_grants g.past (core_moment g.past t (events.Resize capacity)) capacity

-- the CANCELs that tell the clients of these, one each
abbrev pub cancels_of : Grandmaster → List LiveGrant → List Departure
cancels_of g shed = cancels_to g.config (counts g.past).shed (map lease_of shed)
