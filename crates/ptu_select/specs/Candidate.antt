-- Eligible masters as they are compared, and the best of them.
use Rattle.std.specs.Prelude.{ℕ, Bool, ◌&&◌, ◌||◌, cond, List, fold, Option, Some, None, option_map, ◌==◌, nat_lt}
use Rattle.std.specs.List.{enumerate_from}
use Rattle.ptu_record.specs.Quality.{rank_of}
use Rattle.ptu_select.specs.declared.state.WatchState.{WatchState}
use Rattle.ptu_select.specs.WatchState.{is_eligible_state, state_of}
use Rattle.ptu_select.specs.declared.master.WatchedMaster.{WatchedMaster}
use Rattle.ptu_select.specs.declared.candidate.Candidate.{Candidate}

-- a master of this priority number and place, in this state, where it is eligible
abbrev pub candidate_in : WatchState → ℕ → ℕ → Option Candidate
candidate_in s priority place =
    cond (is_eligible_state s) (option_map (λ level. record { quality = level; priority = priority; place = place }) s.quality) None

-- the first is better: by level, then by priority number, then by place
abbrev pub is_better_candidate : Candidate → Candidate → Bool
is_better_candidate a b =
    nat_lt (rank_of (Some a.quality)) (rank_of (Some b.quality))
    || ((rank_of (Some a.quality) == rank_of (Some b.quality)) && (nat_lt a.priority b.priority
    || ((a.priority == b.priority) && nat_lt a.place b.place)))

-- the better of two, as far as they are there
abbrev pub better_of : Option Candidate → Option Candidate → Option Candidate
better_of None next = next
better_of (Some best) None = Some best
better_of (Some best) (Some next) = Some (cond (is_better_candidate next best) next best)

-- the best of these masters at t, as far as there is one
abbrev pub best_of : ℕ → List WatchedMaster → Option Candidate
best_of t masters =
    fold (λ best p. better_of best (candidate_in (state_of p.1.watch t) p.1.priority p.0)) None (enumerate_from 0 masters)
