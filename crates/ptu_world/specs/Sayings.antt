-- What the report says of datagrams and of the masters that slaves select.
use Rattle.std.specs.Prelude.{◌≡◌, ℕ, ◌+◌, Bool, true, false, filter_map, List, [], ◌∷◌, Option, Some, None, option_map}
use Rattle.std.specs.List.{Contains}
use Rattle.ptu_record.specs.{Record.{event_moment}, Selection.{IsSelected}}
use Rattle.ptu_slave_messages.specs.declared.heard.Heard.{Heard}
use Rattle.ptu_slave_messages.specs.declared.heard.Heard.TheVariants as heard
use Rattle.ptu_profile.specs.Slave.{address_of, priorities, timeouts}
use Rattle.ptu_script.specs.declared.command.Command.{Command}
use Rattle.ptu_script.specs.declared.act.Act.TheVariants as acts
use Rattle.ptu_script.specs.declared.command.Command.TheVariants as commands
use Rattle.ptu_report_lines.specs.declared.sent.Sent as sending
use Rattle.ptu_report_lines.specs.declared.statement.Statement.{Statement}
use Rattle.ptu_report_lines.specs.declared.statement.Statement.TheVariants.{Sent, Selected}
use Rattle.ptu_world.specs.{Deeds.{Slave, IsSlave}, World.{World, Done, delivered_to, node_at}}

-- ---- datagrams

-- the number of a datagram, and what was sent, where it says that one was
abbrev pub sent_in : Statement → Option (ℕ × sending.Sent)
sent_in (Sent number datagram) = Some (number, datagram)
sent_in _ = None

-- datagrams with their numbers, of which the first has this one
abbrev pub numbered : ℕ → List sending.Sent → List (ℕ × sending.Sent)
numbered number [] = []
numbered number (sent ∷ rest) = (number, sent) ∷ numbered (number + 1) rest

-- a command hands over the datagram that was said to be sent under this number: its octets, as from its sender, to the node
-- of its address
pub record IsDelivered (w : World) (t number : ℕ) (said : List (ℕ × sending.Sent)) (done : Done) : Type 0 where
  pub sent : sending.Sent
  pub numbered : Contains said (number, sent)
  pub hands : done ≡ delivered_to w t sent (node_at w.nodes sent.to)

-- ---- selections

-- the slave, and the master that it selects, where it says that one selects
abbrev pub selected_in : Statement → Option (ℕ × Option ℕ)
selected_in (Selected slave master) = Some (slave, master)
selected_in _ = None

-- the moment that a command hands over; it hands a slave none in setting up
abbrev pub moment_handed : Command → ℕ
moment_handed (commands.Event t ip act) = t
moment_handed (commands.Deliver t number) = t
moment_handed _ = 0

-- the slave to which a tick, the operator's word, another judge or the stop is handed
abbrev pub slave_of : Command → Option ℕ
slave_of (commands.Event t ip acts.Tick) = Some ip
slave_of (commands.Event t ip (acts.Flag master unusable)) = Some ip
slave_of (commands.Event t ip (acts.Judge master rule)) = Some ip
slave_of (commands.Event t ip acts.Stop) = Some ip
slave_of _ = None

-- a datagram that a slave ignores is no event
abbrev pub is_event : Heard → Bool
is_event (heard.Ignored reason) = false
is_event _ = true

-- the selection of the slave at the address is named, once, and no other
abbrev pub NamesSelection : ℕ → List Statement → Type 0
NamesSelection ip said = (named : Option ℕ) × (filter_map selected_in said ≡ (ip, named) ∷ [])

-- the master that is named is the best of those that are eligible, by the slave's record in this world and at the moment of
-- its last event, or it is none, and none is eligible (G.8265.1)
pub record IsBestChoice (w : World) (t ip : ℕ) (named : Option ℕ) : Type 0 where
  pub slave : Slave
  pub node : node_at w.nodes ip ≡ Some (IsSlave slave)
  pub choice : Option ℕ
  pub best : IsSelected (timeouts slave.opened.config) (priorities slave.opened.masters) slave.taken (event_moment slave.taken t) choice
  pub names : named ≡ option_map (address_of slave.opened.masters) choice
