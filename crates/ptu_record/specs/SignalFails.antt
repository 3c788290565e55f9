-- Which signal fails a master has, and how long it waits after one (G.8265.1; the name of the waiting is that of G.781). lossDelay is this project's own.
-- Each record here is the record of one master.
use Rattle.std.specs.Prelude.{ℕ, ◌+◌, Bool, true, false, not, ◌&&◌, List, [], ◌++◌, map, filter, filter_map, Option, Some, None, option_map, unwrap_or, nat_lt}
use Rattle.std.specs.List.{list_any}
use Rattle.ptu_record.specs.{declared.quality.Quality.{Quality}, Lists.{last, neighbours}}
use Rattle.ptu_record.specs.Quality.{level_of, is_usable}
use Rattle.ptu_record.specs.Record.{Entry, Record, Announce, Sync, Resp, Judged}

-- the receipt timeouts and the wait to restore of a slave, in nanoseconds; that of Delay_Resp is there where the slave requests it
pub record Timeouts : Type 0 where
  pub announce : ℕ
  pub sync : ℕ
  pub delay : Option ℕ
  pub wait : ℕ

abbrev pub announce_moment : Entry → Option ℕ
announce_moment (Announce at master class) = Some at
announce_moment e = None

abbrev pub announced_class : Entry → Option ℕ
announced_class (Announce at master class) = Some class
announced_class e = None

abbrev pub sync_moment : Entry → Option ℕ
sync_moment (Sync at master number) = Some at
sync_moment e = None

abbrev pub resp_moment : Entry → Option ℕ
resp_moment (Resp at master number) = Some at
resp_moment e = None

-- what a judge found, with its moment
abbrev pub judgement : Entry → Option (ℕ × Bool)
judgement (Judged at master unusable) = Some (at, unusable)
judgement e = None

-- the moments of the accepted Announces, Syncs and Delay_Resps, and what the judges found
abbrev pub announces : Record → List ℕ
announces L = filter_map announce_moment L

abbrev pub syncs : Record → List ℕ
syncs L = filter_map sync_moment L

abbrev pub resps : Record → List ℕ
resps L = filter_map resp_moment L

abbrev pub judgements : Record → List (ℕ × Bool)
judgements L = filter_map judgement L

-- none came, or the last one more than the timeout before t; exactly at the timeout is no loss
abbrev pub is_lost : ℕ → ℕ → Option ℕ → Bool
is_lost timeout t None = true
is_lost timeout t (Some at) = nat_lt (at + timeout) t

abbrev pub loss_announce : Timeouts → Record → ℕ → Bool
loss_announce timeouts L t = is_lost timeouts.announce t (last (announces L))

-- by Sync messages alone
abbrev pub loss_sync : Timeouts → Record → ℕ → Bool
loss_sync timeouts L t = is_lost timeouts.sync t (last (syncs L))

-- never, for a slave that does not request Delay_Resp
abbrev pub loss_delay : Timeouts → Record → ℕ → Bool
loss_delay timeouts L t = unwrap_or (option_map (λ timeout. is_lost timeout t (last (resps L))) timeouts.delay) false

-- its judge found so last
abbrev pub is_unusable : Record → Bool
is_unusable L = unwrap_or (option_map (λ j. j.1) (last (judgements L))) false

-- the moments that come more than the timeout after the one before
abbrev pub late_moments : ℕ → List ℕ → List ℕ
late_moments timeout moments = map (λ p. p.1) (filter (λ p. nat_lt (p.0 + timeout) p.1) (neighbours moments))

-- the moments at which what the judge found changed from unusable to usable
abbrev pub cleared_moments : List (ℕ × Bool) → List ℕ
cleared_moments found = map (λ p. p.1.0) (filter (λ p. p.0.1 && not p.1.1) (neighbours found))

-- the moments at which an outage ended; the first message ever ends none
abbrev pub outage_ends : Timeouts → Record → List ℕ
outage_ends timeouts L =
    late_moments timeouts.announce (announces L) ++ late_moments timeouts.sync (syncs L)
    ++ unwrap_or (option_map (λ timeout. late_moments timeout (resps L)) timeouts.delay) []
    ++ cleared_moments (judgements L)

-- an outage ended less than the wait to restore before t
abbrev pub is_waiting : Timeouts → Record → ℕ → Bool
is_waiting timeouts L t = list_any (λ end. nat_lt t (end + timeouts.wait)) (outage_ends timeouts L)

-- the quality level of the class of its last Announce
abbrev pub quality : Record → Option Quality
quality L = unwrap_or (option_map level_of (last (filter_map announced_class L))) None

-- it has no signal fail
abbrev pub is_good : Timeouts → Record → ℕ → Bool
is_good timeouts L t = not (loss_announce timeouts L t) && not (loss_sync timeouts L t) && not (loss_delay timeouts L t) && not (is_unusable L)

-- it is good, it is not waiting, and its last class maps to a level other than QL-DNU
abbrev pub is_eligible : Timeouts → Record → ℕ → Bool
is_eligible timeouts L t = is_good timeouts L t && not (is_waiting timeouts L t) && is_usable (quality L)
