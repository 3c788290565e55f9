-- What a watch keeps of the record of its master, and which records it stands for.
use Rattle.std.specs.Prelude.{◌≡◌, ℕ, Bool, true, false, Option}
use Rattle.ptu_record.specs.{declared.quality.Quality.{Quality}, Lists.{last, latest_of}}
use Rattle.ptu_record.specs.Record.{Entry, Record, Announce, Sync, Resp, Judged}
use Rattle.ptu_record.specs.SignalFails.{Timeouts, announces, is_unusable, outage_ends, quality, resps, syncs}

-- the timeouts and the wait to restore; the moments of the last Announce, Sync and Delay_Resp, as far as they came; the quality level of the last Announce; what the judge found last; and the latest moment at which an outage ended
pub record Watched : Type 0 where
  pub timeouts : Timeouts
  pub announced : Option ℕ
  pub synced : Option ℕ
  pub responded : Option ℕ
  pub quality : Option Quality
  pub unusable : Bool
  pub ended : Option ℕ

-- a watch with these timeouts stands for this record of its master
pub record StandsFor (w : Watched) (timeouts : Timeouts) (L : Record) : Type 0 where
  pub timeouts_are : w.timeouts ≡ timeouts
  pub announced_is : w.announced ≡ last (announces L)
  pub synced_is : w.synced ≡ last (syncs L)
  pub responded_is : w.responded ≡ last (resps L)
  pub quality_is : w.quality ≡ quality L
  pub unusable_is : w.unusable ≡ is_unusable L
  pub ended_is : w.ended ≡ latest_of (outage_ends timeouts L)

-- the entries that a watch goes by; all others leave what it stands for
abbrev pub is_watched : Entry → Bool
is_watched (Announce at master class) = true
is_watched (Sync at master number) = true
is_watched (Resp at master number) = true
is_watched (Judged at master unusable) = true
is_watched e = false
