-- The headline: what every script keeps to, in each world that it reaches, and that the report says so.
use Rattle.std.specs.Prelude.{◌≡◌, ◌≢◌, ℕ, ◌+◌, ◌*◌, ◌≤◌, ◌==◌, Bool, true, false, filter, filter_map, List, [], ◌∷◌, ◌++◌, length, map, ℤ, Some, Ok, Err}
use Rattle.std.specs.List.{All, AllPairs}
use Rattle.ptu_units.specs.{declared.kind.Kind.{Kind}, Kind.{kind_of}, Log.{period_of}}
use Rattle.ptu_units.specs.declared.{client.Client.{Client}, kind.Kind.TheVariants.{DelayResp}}
use Rattle.ptu_messages.specs.declared.header.Header.{Header}
use Rattle.ptu_messages.specs.declared.tlv.Tlv.{Tlv}
use Rattle.ptu_history.specs.{Core.{history_after}, Live.{live}}
use Rattle.ptu_history.specs.Events as events
use Rattle.ptu_history.specs.{Held.{budget, count, force, held, payments}, History.{Record}}
use Rattle.ptu_units.specs.{Client.{table_of}, Time.{second}}
use Rattle.ptu_history.specs.{History.{Granted}, Live.{last_decision}, Runs.{chain}}
use Rattle.ptu_laws.specs.{Paid.{IsBefore}, Promises.{IsSentAfter, PaysItsPeriod}}
use Rattle.ptu_laws.specs.Served.{held_time, held_time_at, periods_sent, sent_at}
use Rattle.ptu_laws.specs.Turned.{IsInEach, sent_moments}
use Rattle.ptu_gm_messages.specs.declared.item.Item.{Item}
use Rattle.ptu_gm_messages.specs.declared.item.Item.TheVariants as items
use Rattle.ptu_gm_messages.specs.declared.heard.Heard.TheVariants as heard
use Rattle.ptu_gm_messages.specs.Deciding.{client_of, events_of_datagram, events_of_items}
use Rattle.ptu_gm_messages.specs.{Items.{heard_in}, Replies.{reply_to}}
use Rattle.ptu_lines.specs.declared.cause.LineCause.{LineCause}
use Rattle.ptu_lines.specs.Script.{ScriptLine, Whole, Refused}
use Rattle.ptu_script.specs.declared.{cause.Cause.{Cause}, command.Command.{Command}}
use Rattle.ptu_script.specs.declared.act.Act.TheVariants as acts
use Rattle.ptu_script.specs.declared.command.Command.TheVariants as commands
use Rattle.ptu_script.specs.Cause.{cause_of_line}
use Rattle.ptu_script.specs.Command.{command_of}
use Rattle.ptu_report_lines.specs.declared.report_line.ReportLine.{ReportLine}
use Rattle.ptu_report_lines.specs.declared.report_line.ReportLine.TheVariants.{At, End}
use Rattle.ptu_report_lines.specs.declared.statement.Statement.TheVariants.{Bad}
use Rattle.ptu_messages.specs.declared.message.Message.{Message}
use Rattle.ptu_record.specs.declared.rule.Rule.{Rule}
use Rattle.ptu_record.specs.Record as entries
use Rattle.ptu_record.specs.Step as slave_events
use Rattle.ptu_record.specs.{Record.{event_moment}, Step.{SlaveEvent, SlaveSetup, slave_step}}
use Rattle.ptu_profile.specs.Slave.{place_of}
use Rattle.ptu_slave_messages.specs.declared.reason.SlaveReason.{SlaveReason}
use Rattle.ptu_slave_messages.specs.{Heard.{event_of}, Node.{datagram_heard}, Reception.{reception}}
use Rattle.ptu_profile.specs.Target.{all_ones}
use Rattle.ptu_world.specs.Deeds.{Grandmaster, Slave, IsGrandmaster, IsSlave}
use Rattle.ptu_world.specs.Grandmasters.{opening as opening_of}
use Rattle.ptu_world.specs.World.{World, Stock, Done, judges_of, node_at, opening, step}
use Rattle.ptu_world.specs.Report.{report_lines}
use Rattle.ptu_world.specs.Reached.{Reaches, done_by_line, lines_said, said_of}
use Rattle.ptu_world.specs.Turning.{turns_of}
use Rattle.ptu_world.specs.Promises.{AreMessagesSent, GoesOn, Handed, IsAnswered, IsDecidedByRoom, IsHanded, Request, addressed, handed_by}
use Rattle.ptu_world.specs.Receiving.{AreJudged, EntersEvent, Ignores, IsOwn, is_received, received_by}
use Rattle.ptu_world.specs.Signaling.{AnswerEach, Signals, cancels_of, is_sent_by, shed_by}
use Rattle.ptu_world.specs.Sayings.{IsBestChoice, IsDelivered, NamesSelection, is_event, moment_handed, numbered, selected_in, sent_in, slave_of}

-- the script reaches the world, in which this grandmaster stands at the address
pub record HasGrandmaster (stock : Stock) (script : List ℕ) (w : World) (ip : ℕ) (g : Grandmaster) : Type 0 where
  pub reached : Reaches stock script w
  pub node : node_at w.nodes ip ≡ Some (IsGrandmaster g)

-- the script reaches the world, in which this slave stands at the address
pub record HasSlave (stock : Stock) (script : List ℕ) (w : World) (ip : ℕ) (s : Slave) : Type 0 where
  pub reached : Reaches stock script w
  pub node : node_at w.nodes ip ≡ Some (IsSlave s)

-- at every moment the granted rates of each grandmaster sum to at most its capacity, which is that in force
pub record WithinCapacity (stock : Stock) (script : List ℕ) : Type 0 where
  pub within : (w : World) (ip : ℕ) (g : Grandmaster) → HasGrandmaster stock script w ip g → (x : ℕ) → held g.past x ≤ force g.capacity g.past x

-- each REQUEST that a datagram brings to a grandmaster is granted exactly where its rate fits beside the other live grants,
-- and else answered with the duration zero, and the report and the reply say so (IEEE 1588-2019 clause 16.1)
pub record DecidesByRoom (stock : Stock) (script : List ℕ) : Type 0 where
  pub answered : (w : World) (command : Command) (r : Request) → Reaches stock script w → IsHanded w command r → IsAnswered w command r
  pub decided : (w : World) (command : Command) (r : Request) → Reaches stock script w → IsHanded w command r → IsDecidedByRoom r

-- each message of a grandmaster takes one whole period of its own inside a live grant; no two of one client and kind take
-- the same time; and the messages of its history are the datagrams that it sent
pub record PaysPeriods (stock : Stock) (script : List ℕ) : Type 0 where
  pub paid : (w : World) (ip : ℕ) (g : Grandmaster) → HasGrandmaster stock script w ip g
      → (before : List Record) (x : ℕ) (c : Client) (k : Kind) → IsSentAfter g.past before x c k → PaysItsPeriod g.past before x c k
  pub apart : (w : World) (ip : ℕ) (g : Grandmaster) → HasGrandmaster stock script w ip g → AllPairs IsBefore (payments g.past)
  pub sent : (w : World) (ip : ℕ) (g : Grandmaster) → HasGrandmaster stock script w ip g → AreMessagesSent w ip g

-- each datagram that a grandmaster is handed, each of its turns and each change of its capacity makes its history go on with
-- just the events that it is; behind a CANCEL that stands among its items no grant of that client and kind is live at any moment; a
-- change of its clockClass is no event; and a command leaves each node as it is but the one that it addresses (IEEE 1588-2019 clause 16.1)
pub record RecordsEvents (stock : Stock) (script : List ℕ) : Type 0 where
  pub datagram : (w : World) (command : Command) (d : Handed) (g : Grandmaster) → HasGrandmaster stock script w d.node g → handed_by w command ≡ Some d
      → GoesOn w command d.node g (events_of_datagram g.config d.at d.from d.octets)
  pub cancelled : (w : World) (command : Command) (d : Handed) (g : Grandmaster) (header : Header) (before : List Item) (code : ℕ) (k : Kind) (behind : List Item) (x : ℕ)
      → HasGrandmaster stock script w d.node g → handed_by w command ≡ Some d → heard_in g.config d.octets ≡ Ok (heard.Asks header (before ++ items.Cancel code ∷ behind))
      → kind_of code ≡ Some k
      → live (history_after (opening_of g) g.past (events_of_items d.at (client_of d.from header) (before ++ items.Cancel code ∷ []))) x (client_of d.from header) k ≡ false
  pub turn : (w : World) (ip : ℕ) (g : Grandmaster) (t table : ℕ) → HasGrandmaster stock script w ip g → GoesOn w (commands.Event t ip (acts.Turn table)) ip g ((t, events.Turn table) ∷ [])
  pub capacity : (w : World) (ip : ℕ) (g : Grandmaster) (t capacity : ℕ) → HasGrandmaster stock script w ip g
      → GoesOn w (commands.Event t ip (acts.Capacity capacity)) ip g ((t, events.Resize capacity) ∷ [])
  pub class : (w : World) (ip : ℕ) (g : Grandmaster) (t class : ℕ) → HasGrandmaster stock script w ip g
      → (done : Done) × (step w (commands.Event t ip (acts.Class class)) ≡ Ok done) × (node_at done.world.nodes ip ≡ Some (IsGrandmaster (record g { config = record (g.config) { class = class } })))
  pub others : (w : World) (command : Command) (done : Done) (ip : ℕ) → Reaches stock script w → step w command ≡ Ok done → addressed w command ≢ Some ip
      → node_at done.world.nodes ip ≡ node_at w.nodes ip

-- each Signaling of a grandmaster is the one reply to a Signaling that it is handed with REQUESTs or CANCELs, with an answer for
-- each, to its sender, or the CANCEL of a grant that a change of its capacity sheds, one for each; nothing else that it is handed,
-- no turn, no change of its clockClass and no event at another node makes it send one (clause 16.1)
pub record SignalsAnswers (stock : Stock) (script : List ℕ) : Type 0 where
  pub replied : (w : World) (command : Command) (d : Handed) (g : Grandmaster) (header : Header) (item : Item) (items : List Item) → HasGrandmaster stock script w d.node g
      → handed_by w command ≡ Some d → heard_in g.config d.octets ≡ Ok (heard.Asks header (item ∷ items))
      → (answers : List Tlv) × AnswerEach (item ∷ items) answers × Signals w command d.node (reply_to g.config d.from header answers ∷ [])
  pub unheard : (w : World) (command : Command) (d : Handed) (g : Grandmaster) → HasGrandmaster stock script w d.node g → handed_by w command ≡ Some d
      → ((header : Header) (item : Item) (items : List Item) → heard_in g.config d.octets ≢ Ok (heard.Asks header (item ∷ items))) → Signals w command d.node []
  pub turn : (w : World) (ip : ℕ) (g : Grandmaster) (t table : ℕ) → HasGrandmaster stock script w ip g → Signals w (commands.Event t ip (acts.Turn table)) ip []
  pub class : (w : World) (ip : ℕ) (g : Grandmaster) (t class : ℕ) → HasGrandmaster stock script w ip g → Signals w (commands.Event t ip (acts.Class class)) ip []
  pub capacity : (w : World) (ip : ℕ) (g : Grandmaster) (t capacity : ℕ) → HasGrandmaster stock script w ip g
      → Signals w (commands.Event t ip (acts.Capacity capacity)) ip (cancels_of g (shed_by g t capacity))
  pub others : (w : World) (command : Command) (done : Done) (ip : ℕ) → Reaches stock script w → step w command ≡ Ok done → addressed w command ≢ Some ip
      → filter (is_sent_by ip) done.world.sent ≡ filter (is_sent_by ip) w.sent

-- up to every moment the messages of each grandmaster, at sixteen seconds of one sixteenth each, are at most its capacity
-- summed over the nanoseconds before it
pub record WithinBudget (stock : Stock) (script : List ℕ) : Type 0 where
  pub within : (w : World) (ip : ℕ) (g : Grandmaster) → HasGrandmaster stock script w ip g
      → (x : ℕ) → count g.past x * (16 * second) ≤ budget g.capacity g.past x

-- of each grandmaster, up to every moment: the messages of a kind to a client, each as long as the period that was granted for it, are
-- together no longer than the time in which the client held a grant of the kind; and so it is with the messages and the time of each
-- logarithm alone: at most one message for each whole period in which the client held a grant at it (IEEE 1588-2019 clause 16.1)
pub record ServesEachClient (stock : Stock) (script : List ℕ) : Type 0 where
  pub periods : (w : World) (ip : ℕ) (g : Grandmaster) → HasGrandmaster stock script w ip g
      → (c : Client) (k : Kind) (x : ℕ) → periods_sent g.past c k x ≤ held_time g.past c k x
  pub rate : (w : World) (ip : ℕ) (g : Grandmaster) → HasGrandmaster stock script w ip g
      → (c : Client) (k : Kind) (l : ℤ) (x : ℕ) → sent_at g.past c k l x * period_of l ≤ held_time_at g.past c k l x

-- of each grandmaster: where a grant of Announce or Sync is live from the start of its chain on, through renewals at its logarithm, and
-- each stretch of so many nanoseconds has a turn of the client's table by a line that was taken, each stretch of one period more has a
-- message of the kind to the client: between two of them, and up to the first, there is no more time than that
pub record SendsInTime (stock : Stock) (script : List ℕ) : Type 0 where
  pub in_each : (w : World) (ip : ℕ) (g : Grandmaster) (h : HasGrandmaster stock script w ip g)
      → (c : Client) (k : Kind) (n : ℕ) (l : ℤ) (u between from to : ℕ) → k ≢ DelayResp
      → last_decision g.past c k ≡ Some (Granted n c k l u) → chain g.past c k ≤ from → to ≤ u
      → IsInEach between (turns_of ip (table_of c) (opening stock) h.reached.taken w h.reached.leads) from to
      → IsInEach (period_of l + between) (sent_moments g.past c k) from to

-- each slave selects its best eligible master: each line that names a selection names that, by the slave's record, and each
-- event of a slave has one such line (G.8265.1)
pub record SelectsBest (stock : Stock) (script : List ℕ) : Type 0 where
  pub best : (w : World) (command : Command) (done : Done) → Reaches stock script w → step w command ≡ Ok done
      → All (λ p. IsBestChoice done.world (moment_handed command) p.0 p.1) (filter_map selected_in done.said)
  pub event : (w : World) (command : Command) (done : Done) (ip : ℕ) → Reaches stock script w → slave_of command ≡ Some ip → step w command ≡ Ok done
      → NamesSelection ip done.said
  pub datagram : (w : World) (command : Command) (done : Done) (d : Handed) (s : Slave) → Reaches stock script w → handed_by w command ≡ Some d
      → node_at w.nodes d.node ≡ Some (IsSlave s) → is_event (datagram_heard s.opened s.taken d.at d.from d.octets) ≡ true → step w command ≡ Ok done
      → NamesSelection d.node done.said

-- the record of a slave is what was delivered to it, and nothing else: each datagram that it accepts enters what it says, at its
-- moment, and one that it ignores nothing; a tick, the stop, the operator's word and another judge enter theirs; each entry of a
-- judge is that judge's answer; and what the slave sends is what its record makes it send (IEEE 1588-2019 clauses 13 and 16.1)
pub record RecordsDeliveries (stock : Stock) (script : List ℕ) : Type 0 where
  pub accepted : (w : World) (command : Command) (d : Handed) (s : Slave) (m : ℕ) (message : Message) → HasSlave stock script w d.node s → handed_by w command ≡ Some d
      → reception s.opened.config s.opened.masters d.from d.octets ≡ Ok (m, message) → EntersEvent w command d.node s d.at (event_of m message) message.header.source
  pub ignored : (w : World) (command : Command) (d : Handed) (s : Slave) (reason : SlaveReason) → HasSlave stock script w d.node s → handed_by w command ≡ Some d
      → reception s.opened.config s.opened.masters d.from d.octets ≡ Err reason → Ignores w command d.node s
  pub tick : (w : World) (ip : ℕ) (s : Slave) (t : ℕ) → HasSlave stock script w ip s → EntersEvent w (commands.Event t ip acts.Tick) ip s t slave_events.Tick all_ones
  pub stop : (w : World) (ip : ℕ) (s : Slave) (t : ℕ) → HasSlave stock script w ip s → EntersEvent w (commands.Event t ip acts.Stop) ip s t slave_events.Stop all_ones
  pub flag : (w : World) (ip : ℕ) (s : Slave) (t master m : ℕ) (unusable : Bool) → HasSlave stock script w ip s → place_of s.opened.masters master ≡ Some m
      → EntersEvent w (commands.Event t ip (acts.Flag master unusable)) ip s t (slave_events.TellFlag m unusable) all_ones
  pub judge : (w : World) (ip : ℕ) (s : Slave) (t master m : ℕ) (rule : Rule) → HasSlave stock script w ip s → place_of s.opened.masters master ≡ Some m
      → (judges_of rule w.stock == 0) ≡ false → EntersEvent w (commands.Event t ip (acts.Judge master rule)) ip s t (slave_events.ReplaceJudge m (Some rule)) all_ones
  pub says : (setup : SlaveSetup) (L : entries.Record) (t m : ℕ) (message : Message)
      → filter is_received (slave_step setup L t (event_of m message)).entries ≡ received_by setup.wants (event_moment L t) m message
  pub quiet : (setup : SlaveSetup) (L : entries.Record) (t : ℕ) (e : SlaveEvent) → IsOwn e → filter is_received (slave_step setup L t e).entries ≡ []
  pub judged : (setup : SlaveSetup) (L : entries.Record) (t : ℕ) (e : SlaveEvent) → AreJudged setup L t e

-- the lines of the report that say what is said of the lines that were taken, each with the number of its line
abbrev pub said_so_far : (stock : Stock) (script : List ℕ) (w : World) → Reaches stock script w → List ReportLine
said_so_far stock script w r = lines_said 0 (opening stock) r.taken w r.leads

-- the report is what is said of the lines that were taken, and, behind that, what is said at the next line that is taken, which
-- leads on to a world that the script reaches, or the line that names the one that is refused, for what it says or for its
-- form, or, when all lines were taken, their number and that of the datagrams; nothing else stands in it
pub record SaysSo (stock : Stock) (script : List ℕ) : Type 0 where
  pub said : (w : World) (r : Reaches stock script w) (text : List ℕ) (rest : List ScriptLine) (done : Done) → r.left ≡ Whole text ∷ rest
      → done_by_line w (command_of text) ≡ Ok done
      → (later : List ReportLine) × (report_lines stock script ≡ said_so_far stock script w r ++ (map (At (length r.taken + 1)) done.said ++ later))
  pub leads_on : (w : World) (r : Reaches stock script w) (text : List ℕ) (rest : List ScriptLine) (done : Done) → r.left ≡ Whole text ∷ rest
      → done_by_line w (command_of text) ≡ Ok done → Reaches stock script done.world
  pub refused : (w : World) (r : Reaches stock script w) (text : List ℕ) (rest : List ScriptLine) (cause : Cause) → r.left ≡ Whole text ∷ rest
      → done_by_line w (command_of text) ≡ Err cause
      → report_lines stock script ≡ said_so_far stock script w r ++ At (length r.taken + 1) (Bad cause) ∷ []
  pub malformed : (w : World) (r : Reaches stock script w) (rest : List ScriptLine) (cause : LineCause) → r.left ≡ Refused cause ∷ rest
      → report_lines stock script ≡ said_so_far stock script w r ++ At (length r.taken + 1) (Bad (cause_of_line cause)) ∷ []
  pub ended : (w : World) (r : Reaches stock script w) → r.left ≡ []
      → report_lines stock script ≡ said_so_far stock script w r ++ End (length r.taken) (length w.sent) ∷ []

-- the datagrams are numbered from 1 in the order in which they are sent, over the whole script, by the lines that say so, each
-- once; and what is delivered under a number is the datagram that was said to be sent under it, to the node that it was sent to
pub record NumbersDatagrams (stock : Stock) (script : List ℕ) : Type 0 where
  pub in_order : (w : World) (r : Reaches stock script w) → filter_map sent_in (said_of (opening stock) r.taken w r.leads) ≡ numbered 1 w.sent
  pub delivered : (w : World) (r : Reaches stock script w) (t number : ℕ) (done : Done) → step w (commands.Deliver t number) ≡ Ok done
      → IsDelivered w t number (filter_map sent_in (said_of (opening stock) r.taken w r.leads)) done
