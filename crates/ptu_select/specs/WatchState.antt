-- What a slave finds of a master at a moment.
use Rattle.std.specs.Prelude.{ℕ, Bool, false, not, ◌&&◌, option_map, unwrap_or}
use Rattle.ptu_record.specs.{Quality.{is_usable}, Record.{Record}}
use Rattle.ptu_record.specs.SignalFails.{Timeouts, is_lost, is_unusable, is_waiting, loss_announce, loss_delay, loss_sync, quality}
use Rattle.ptu_record.specs.OutageEnds.{is_within}
use Rattle.ptu_select.specs.{Watched.{Watched}, declared.state.WatchState.{WatchState}}

-- the state at t of the master that has this record
abbrev pub state_at : Timeouts → Record → ℕ → WatchState
state_at timeouts L t = record {
  loss_announce = loss_announce timeouts L t;
  loss_sync = loss_sync timeouts L t;
  loss_delay = loss_delay timeouts L t;
  unusable = is_unusable L;
  waiting = is_waiting timeouts L t;
  quality = quality L;
}

-- the state at t of a master of whose record this is kept
abbrev pub state_of : Watched → ℕ → WatchState
state_of w t = record {
  loss_announce = is_lost w.timeouts.announce t w.announced;
  loss_sync = is_lost w.timeouts.sync t w.synced;
  loss_delay = unwrap_or (option_map (λ timeout. is_lost timeout t w.responded) w.timeouts.delay) false;
  unusable = w.unusable;
  waiting = is_within w.timeouts.wait t w.ended;
  quality = w.quality;
}

-- a master in this state may be selected
abbrev pub is_eligible_state : WatchState → Bool
is_eligible_state s =
    not s.loss_announce && not s.loss_sync && not s.loss_delay && not s.unusable && not s.waiting && is_usable s.quality
