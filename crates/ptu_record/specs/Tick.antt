-- What a slave sends at a tick and at the stop, and under which sequenceIds (IEEE 1588-2019 clauses 7.3.7, 9.5.11 and 16.1).
use Rattle.std.specs.Prelude.{ℕ, ◌+◌, ◌%◌, Bool, true, false, ◌&&◌, cond, List, [], ◌∷◌, ◌++◌, map, filter_map, flat_map, count_by, Option, Some, None, option_map, option_to_list, unwrap_or, ◌==◌, nat_le, ℤ}
use Rattle.std.specs.List.{list_any}
use Rattle.ptu_units.specs.declared.kind.{Kind.{Kind}, Kind.TheVariants.{DelayResp}}
use Rattle.ptu_units.specs.Log.{period_of}
use Rattle.ptu_record.specs.{declared.wants.Wants.{Wants}, Lists.{last, maximum, places}}
use Rattle.ptu_record.specs.Record.{Entry, Record, record_of, Asked, Probed, Signalled, Stopped}
use Rattle.ptu_record.specs.{Grants.{is_live, live_kinds, run_start}, Asks.{due_kinds}}

-- ---- Delay_Req and sequence numbers, over the record of one master

abbrev pub probe_moment : Entry → Option ℕ
probe_moment (Probed at master) = Some at
probe_moment e = None

abbrev pub probes : Record → List ℕ
probes L = filter_map probe_moment L

-- from when on a Delay_Req may be sent: one period after the later of the last one and the start of the live run
abbrev pub probe_gate : ℤ → Record → ℕ
probe_gate log L = maximum (option_to_list (last (probes L)) ++ option_to_list (run_start DelayResp L)) + period_of log

-- a tick sends the master a Delay_Req
abbrev pub is_probe_due : Wants → Record → ℕ → Bool
is_probe_due wants L t = unwrap_or (option_map (λ log. is_live DelayResp L t && nat_le (probe_gate log L) t) wants.delay) false

abbrev pub is_signalled : Entry → Bool
is_signalled (Signalled at master) = true
is_signalled e = false

abbrev pub is_probed : Entry → Bool
is_probed (Probed at master) = true
is_probed e = false

-- the sequenceId of the next Signaling to the master, that of the stop included; a reply to a CANCEL is not counted
abbrev pub signaling_number : Record → ℕ
signaling_number L = count_by is_signalled L % 65536

-- the sequenceId of the next Delay_Req to the master
abbrev pub delay_req_number : Record → ℕ
delay_req_number L = count_by is_probed L % 65536

-- ---- what a slave sends, in the record of all masters

-- a message to a master, with its sequenceId
pub data Sending : Type 0 where
  -- a Signaling with a REQUEST for each of these kinds
  Requests : (master number : ℕ) (kinds : List Kind) → Sending
  -- a Signaling with a CANCEL for each of these kinds
  Cancels : (master number : ℕ) (kinds : List Kind) → Sending
  -- a Signaling with an ACKNOWLEDGE_CANCEL for each of these messageTypes
  Acknowledgements : (master number : ℕ) (codes : List ℕ) → Sending
  -- a Delay_Req
  DelayReq : (master number : ℕ) → Sending

-- what is entered of it, whether or not the send failed
abbrev pub sending_entries : ℕ → Sending → Record
sending_entries x (Requests m number kinds) = Signalled x m ∷ map (Asked x m) kinds
sending_entries x (Cancels m number kinds) = Signalled x m ∷ []
sending_entries x (Acknowledgements m number codes) = []
sending_entries x (DelayReq m number) = Probed x m ∷ []

-- a Signaling to the master that is no reply
abbrev pub is_signaling_to : ℕ → Sending → Bool
is_signaling_to m (Requests master number kinds) = master == m
is_signaling_to m (Cancels master number kinds) = master == m
is_signaling_to m sending = false

-- a Delay_Req to the master
abbrev pub is_delay_req_to : ℕ → Sending → Bool
is_delay_req_to m (DelayReq master number) = master == m
is_delay_req_to m sending = false

-- one Signaling for these kinds, where there are some
abbrev pub one_signaling : (List Kind → Sending) → List Kind → List Sending
one_signaling signaling [] = []
one_signaling signaling (k ∷ ks) = signaling (k ∷ ks) ∷ []

-- to one master first the Signaling with all kinds that are due, and then the Delay_Req
abbrev pub requests_to : Wants → Record → ℕ → ℕ → List Sending
requests_to wants L x m =
    one_signaling (Requests m (signaling_number (record_of m L))) (due_kinds wants (record_of m L) x)
    ++ cond (is_probe_due wants (record_of m L) x) (DelayReq m (delay_req_number (record_of m L)) ∷ []) []

-- to one master the Signaling with a CANCEL for each grant that is live
abbrev pub cancels_to : Record → ℕ → ℕ → List Sending
cancels_to L x m = one_signaling (Cancels m (signaling_number (record_of m L))) (live_kinds (record_of m L) x)

abbrev pub is_stop : Entry → Bool
is_stop (Stopped at) = true
is_stop e = false

-- what a tick at x sends to so many masters, in their order; nothing after a stop
abbrev pub tick_sendings : Wants → ℕ → Record → ℕ → List Sending
tick_sendings wants masters L x = cond (list_any is_stop L) [] (flat_map (requests_to wants L x) (places masters))

-- what the stop at x sends to so many masters, in their order
abbrev pub stop_sendings : ℕ → Record → ℕ → List Sending
stop_sendings masters L x = flat_map (cancels_to L x) (places masters)
