-- A choice stands as long as each master's state.
use Rattle.std.proofs.Common.{◌≡◌, ℕ, ◌+◌, ◌<◌, ◌≤◌, List, [], ◌∷◌, map, length, take, Option, None, refl, ap, subst, ◌∙◌}
use Rattle.std.proofs.lemmas.List.{take_all}
use Rattle.std.specs.List.{enumerate_from, fold}
use Rattle.ptu_select.specs.{declared.state.WatchState.{WatchState}, WatchState.{state_of}}
use Rattle.ptu_select.specs.declared.master.WatchedMaster.{WatchedMaster}
use Rattle.ptu_select.specs.declared.candidate.Candidate.{Candidate}
use Rattle.ptu_select.specs.Candidate.{best_of, better_of, candidate_in}

-- the states of these masters at a moment
abbrev pub states_at : ℕ → List WatchedMaster → List WatchState
states_at t masters = map (λ master. state_of master.watch t) masters

-- from t on, before the second moment, the states of these masters are those at t
abbrev pub Last : ℕ → ℕ → List WatchedMaster → Type 0
Last t until masters = (x : ℕ) → t ≤ x → x < until → states_at x masters ≡ states_at t masters

same_fold : (x t place : ℕ) (first : Option Candidate) (masters : List WatchedMaster) → states_at x masters ≡ states_at t masters
    → fold (λ best p. better_of best (candidate_in (state_of p.1.watch x) p.1.priority p.0)) first (enumerate_from place masters)
    ≡ fold (λ best p. better_of best (candidate_in (state_of p.1.watch t) p.1.priority p.0)) first (enumerate_from place masters)
same_fold x t place first [] same = refl
same_fold x t place first (master ∷ masters) same =
    let own : state_of master.watch x ≡ state_of master.watch t = cc in
    let rest : states_at x masters ≡ states_at t masters = cc in
    ap (λ s. fold (λ best p. better_of best (candidate_in (state_of p.1.watch x) p.1.priority p.0)) (better_of first (candidate_in s master.priority place)) (enumerate_from (place + 1) masters)) own
    ∙ same_fold x t (place + 1) (better_of first (candidate_in (state_of master.watch t) master.priority place)) masters rest

-- where the states are the same, so is the best
pub same_best : (x t : ℕ) (masters : List WatchedMaster) → states_at x masters ≡ states_at t masters → best_of x masters ≡ best_of t masters
same_best x t masters = same_fold x t 0 None masters

-- once every master was looked at
pub last_all : (t until : ℕ) (masters : List WatchedMaster) (i : ℕ) → length masters ≤ i → Last t until (take i masters)
    → (x : ℕ) → t ≤ x → x < until → best_of x masters ≡ best_of t masters
last_all t until masters i le last = λ x low high.
    same_best x t masters (subst (λ ms. states_at x ms ≡ states_at t ms) (take_all i masters le) (last x low high))
