-- Records to compute on: what slaves took and did in some small cases. Moments are in nanoseconds.
use Rattle.std.specs.Prelude.{ℕ, ◌+◌, ◌*◌, true, false, not, List, [], ◌∷◌, ◌++◌, map, filter, fold, replicate, Option, Some, None, is_some, nat_le, ℤ, pos}
use Rattle.std.specs.List.{range_with_len}
use Rattle.ptu_units.specs.{declared.kind.Kind.{Kind}, Time.{second}}
use Rattle.ptu_record.specs.declared.{rule.Rule.TheVariants.{Flag, Gap}, wants.Wants.{Wants}}
use Rattle.ptu_record.specs.Record.{Record, Announce, Sync, Resp, Told, Judge, Judged, Asked, Granted, Denied, Cancelled, Probed, Signalled, moment_of}
use Rattle.ptu_record.specs.{SignalFails.{Timeouts, judgement}, Selection.{selected_master}}
use Rattle.ptu_record.specs.Wants.{timeouts_of}
use Rattle.ptu_record.specs.Step.{SlaveEvent, SlaveSetup, TakeSync, ReplaceJudge, Tick, slave_step}

-- the entries that are not later than t
abbrev pub record_until : ℕ → Record → Record
record_until t L = filter (λ e. nat_le (moment_of e) t) L

-- an entry of each kind of the master, at the moments from 1 to 12
abbrev pub one_of_each : ℕ → Record
one_of_each m =
    Announce 1 m 84 ∷ Sync 2 m 0 ∷ Resp 3 m 0 ∷ Told 4 m true ∷ Judge 5 m None ∷ Judged 6 m true
    ∷ Asked 7 m Kind.Sync ∷ Granted 8 m Kind.Sync 60 ∷ Denied 9 m Kind.Sync ∷ Cancelled 10 m Kind.Sync
    ∷ Probed 11 m ∷ Signalled 12 m ∷ []

-- an Announce of the class and a Sync, after which the judge finds nothing
abbrev pub message_pair : ℕ → ℕ → ℕ → Record
message_pair at master class = Announce at master class ∷ Sync at master 0 ∷ Judged at master false ∷ []

-- ---- two masters, loss and restoration

-- Announce and Sync at logarithm 4, no Delay_Resp
abbrev pub slow_wants : Wants
slow_wants = record { announce = pos 4; sync = pos 4; delay = None; seconds = 300 }

-- the choice at t after all that is not later, with three periods of each kind as timeouts and 60 seconds of waiting
abbrev pub choice : List ℕ → Record → ℕ → Option ℕ
choice priorities L t = selected_master (timeouts_of slow_wants 3 3 3 60) priorities (record_until t L) t

-- master 0, of class 84, is silent for too long before 100 s; master 1, of class 90, is not
abbrev pub restored_master : Record
restored_master =
    message_pair 0 0 84 ++ message_pair 0 1 90
    ++ message_pair (48 * second) 0 84 ++ message_pair (48 * second) 1 90
    ++ message_pair (96 * second) 1 90
    ++ message_pair (100 * second) 0 84
    ++ message_pair (140 * second) 0 84 ++ message_pair (140 * second) 1 90

-- a master goes on with Announces alone, or with Syncs alone
abbrev pub syncs_missing : Record
syncs_missing = message_pair 0 0 84 ++ Announce (40 * second) 0 84 ∷ []

abbrev pub announces_missing : Record
announces_missing = message_pair 0 0 84 ++ Sync (40 * second) 0 1 ∷ []

-- both masters have class 84, and class 110 a second later
abbrev pub tied_masters : Record
tied_masters = message_pair 0 0 84 ++ message_pair 0 1 84 ++ Announce second 0 110 ∷ Announce second 1 110 ∷ []

-- ---- a judge of gaps

-- the record once these events, each handed its moment, have come to a slave whose judges have rules
abbrev pub record_after : SlaveSetup → Record → List (ℕ × SlaveEvent) → Record
record_after setup L events = fold (λ M p. M ++ (slave_step setup M p.0 p.1).entries) L events

-- one master, whose judge bears three clear places and no more
abbrev pub gap_setup : SlaveSetup
gap_setup = record { wants = slow_wants; openings = Some (Gap 4) ∷ [] }

-- an Announce and a Sync of number 0, then Syncs of 5 and 3
abbrev pub gaps : Record
gaps = record_after gap_setup (Announce 0 0 84 ∷ []) ((0, TakeSync 0 0) ∷ (second, TakeSync 0 5) ∷ (2 * second, TakeSync 0 3) ∷ [])

-- at the second Sync a judge takes over who asks the operator alone
abbrev pub replaced_judge : Record
replaced_judge = record_after gap_setup (record_until second gaps) ((second, ReplaceJudge 0 (Some Flag)) ∷ [])

-- the choice at t without waiting
abbrev pub prompt_choice : Record → ℕ → Option ℕ
prompt_choice L t = selected_master (timeouts_of slow_wants 3 3 3 0) (1 ∷ []) (record_until t L) t

-- ---- asks

-- Announce at logarithm 1 and Sync at logarithm 0
abbrev pub plain_wants : Wants
plain_wants = record { announce = pos 1; sync = pos 0; delay = None; seconds = 300 }

-- Announce and Sync at logarithm 4, Delay_Resp at logarithm 0
abbrev pub measuring_wants : Wants
measuring_wants = record { announce = pos 4; sync = pos 4; delay = Some (pos 0); seconds = 300 }

-- slaves with so many masters, whose judges ask the operator alone
abbrev pub plain_setup : ℕ → SlaveSetup
plain_setup masters = record { wants = plain_wants; openings = replicate masters (Some Flag) }

abbrev pub measuring_setup : ℕ → SlaveSetup
measuring_setup masters = record { wants = measuring_wants; openings = replicate masters (Some Flag) }

-- one judge asks the operator alone, and the other bears no clear place
abbrev pub two_judges : SlaveSetup
two_judges = record { wants = plain_wants; openings = Some Flag ∷ Some (Gap 1) ∷ [] }

-- Delay_Resp at another logarithm
abbrev pub measuring_at : ℤ → Wants
measuring_at log = record { announce = pos 4; sync = pos 4; delay = Some log; seconds = 300 }

-- three periods of each kind as timeouts, 6 s for Announce and 3 s for Sync, and a minute of waiting
abbrev pub prompt_timeouts : Timeouts
prompt_timeouts = timeouts_of plain_wants 3 3 3 60

-- the moments of the first six asks without an answer
abbrev pub six_asks : List ℕ
six_asks = 0 ∷ second ∷ 2 * second ∷ 62 * second ∷ 63 * second ∷ 64 * second ∷ []

-- what a tick handed t enters after the record, but for what the judges find
abbrev pub tick_requests : SlaveSetup → Record → ℕ → Record
tick_requests setup L t = filter (λ e. not (is_some (judgement e))) (slave_step setup L t Tick).entries

-- the record once ticks at these moments have come to a slave whose one master never answers
abbrev pub ticked_record : List ℕ → Record
ticked_record moments = filter (λ e. not (is_some (judgement e))) (record_after (plain_setup 1) [] (map (λ t. (t, Tick)) moments))

-- asked at 0 and answered a second later with 300 s, or with none
abbrev pub answered_ask : Record
answered_ask = Asked 0 0 Kind.Announce ∷ Granted second 0 Kind.Announce 300 ∷ []

abbrev pub denied_ask : Record
denied_ask = Asked 0 0 Kind.Announce ∷ Denied second 0 Kind.Announce ∷ []

-- ---- Delay_Req

-- Delay_Resp is granted for a minute at 0 and renewed at 30 s; then it is cancelled at 40 s and granted again at 50 s
abbrev pub renewed_grant : Record
renewed_grant = Granted 0 0 Kind.DelayResp 60 ∷ Granted (30 * second) 0 Kind.DelayResp 60 ∷ []

abbrev pub second_grant : Record
second_grant = renewed_grant ++ Cancelled (40 * second) 0 Kind.DelayResp ∷ Granted (50 * second) 0 Kind.DelayResp 60 ∷ []

-- ---- a lost Delay_Resp

-- Announce and Sync at 0 and at 40 s, Delay_Resps at 1 s and from 5 s on every 3 seconds to 65 s
abbrev pub late_resps : Record
late_resps =
    message_pair 0 0 84 ++ Resp second 0 0 ∷ []
    ++ map (λ n. Resp ((5 + 3 * n) * second) 0 0) (range_with_len 0 12)
    ++ message_pair (40 * second) 0 84
    ++ map (λ n. Resp ((5 + 3 * n) * second) 0 0) (range_with_len 12 9)

-- the choice at t of a slave that requests Delay_Resp
abbrev pub measured_choice : ℕ → Option ℕ
measured_choice t = selected_master (timeouts_of measuring_wants 3 3 3 60) (1 ∷ []) (record_until t late_resps) t
