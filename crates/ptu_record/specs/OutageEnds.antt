-- Which outage end one entry more brings, so that a watch can keep the last one alone. Each record here is the record of one master.
use Rattle.std.specs.Prelude.{ℕ, ◌+◌, Bool, false, cond, not, ◌&&◌, Option, Some, None, option_map, unwrap_or, nat_lt}
use Rattle.ptu_record.specs.{Lists.{last}, Record.{Entry, Record, Announce, Sync, Resp, Judged}}
use Rattle.ptu_record.specs.SignalFails.{Timeouts, announces, syncs, resps, is_unusable}

-- the moment, where it comes more than the timeout after the one before
abbrev pub late_at : ℕ → Option ℕ → ℕ → Option ℕ
late_at timeout None at = None
late_at timeout (Some before) at = cond (nat_lt (before + timeout) at) (Some at) None

-- the moment of the entry, where it ends an outage
abbrev pub end_at : Timeouts → Record → Entry → Option ℕ
end_at timeouts L (Announce at master class) = late_at timeouts.announce (last (announces L)) at
end_at timeouts L (Sync at master number) = late_at timeouts.sync (last (syncs L)) at
end_at timeouts L (Resp at master number) = unwrap_or (option_map (λ timeout. late_at timeout (last (resps L)) at) timeouts.delay) None
end_at timeouts L (Judged at master now) = cond (is_unusable L && not now) (Some at) None
end_at timeouts L e = None

-- the moment is there, and less than the wait before t
abbrev pub is_within : ℕ → ℕ → Option ℕ → Bool
is_within wait t None = false
is_within wait t (Some end) = nat_lt t (end + wait)
