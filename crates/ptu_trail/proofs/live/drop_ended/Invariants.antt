use Rattle.std.proofs.Common.{◌≡◌, length}
use Rattle.std.specs.List.{filter}
use Rattle.ptu_trail.specs.Live.{is_live_entry, total_of}
use Rattle.ptu_trail.proofs.live.drop_ended.Given as goal

-- what is dropped is over, and the sum is that of what is left
abbrev pub invariant-loop-rate : goal.invariant-loop-rate
invariant-loop-rate l = record {
  total : l.total ≡ total_of l.rates.entries;
  entries : filter (is_live_entry l.n) l.rates.entries ≡ filter (is_live_entry l.n) l.initial.rates.entries;
}

abbrev pub decreases-loop-rate : goal.decreases-loop-rate
decreases-loop-rate l = length l.rates.entries
