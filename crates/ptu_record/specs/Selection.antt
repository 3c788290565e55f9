-- Which master a slave selects (G.8265.1: by quality level, then by priority; by place after that is this project's own). It is revertive.
use Rattle.std.specs.Prelude.{◌≡◌, ℕ, ◌<◌, Bool, false, not, ◌&&◌, ◌||◌, List, length, slice_index, Option, Some, None, IsTrue, ◌==◌, nat_lt, find}
use Rattle.std.specs.List.{list_all}
use Rattle.ptu_record.specs.{Lists.{places}, Quality.{rank_of}, Record.{Record, record_of}}
use Rattle.ptu_record.specs.SignalFails.{Timeouts, is_eligible, quality}

-- the rank of a master's quality level, 0 for the best
abbrev pub level : Record → ℕ → ℕ
level L m = rank_of (quality (record_of m L))

-- m is better than n: its level is better; or levels are equal and its priority number is lower; or both are equal and its place is earlier
abbrev pub is_better : List ℕ → Record → ℕ → ℕ → Bool
is_better priorities L m n =
    nat_lt (level L m) (level L n)
    || ((level L m == level L n) && (nat_lt (slice_index priorities m) (slice_index priorities n)
    || ((slice_index priorities m == slice_index priorities n) && nat_lt m n)))

-- the master at this place may be selected at t
abbrev pub is_candidate : Timeouts → Record → ℕ → ℕ → Bool
is_candidate timeouts L t m = is_eligible timeouts (record_of m L) t

-- one of the slave's masters is eligible at t, and no eligible one is better
pub record IsBest (timeouts : Timeouts) (priorities : List ℕ) (L : Record) (t m : ℕ) : Type 0 where
  pub within : m < length priorities
  pub eligible : IsTrue (is_candidate timeouts L t m)
  pub none_better : (n : ℕ) → n < length priorities → IsTrue (is_candidate timeouts L t n) → is_better priorities L n m ≡ false

-- the choice at t of a slave with these priorities of its masters
abbrev pub IsSelected : Timeouts → List ℕ → Record → ℕ → Option ℕ → Type 0
IsSelected timeouts priorities L t (Some m) = IsBest timeouts priorities L t m
IsSelected timeouts priorities L t None = (m : ℕ) → m < length priorities → is_candidate timeouts L t m ≡ false

-- the relation's test, for one master
abbrev pub is_best : Timeouts → List ℕ → Record → ℕ → ℕ → Bool
is_best timeouts priorities L t m =
    is_candidate timeouts L t m
    && list_all (λ n. not (is_candidate timeouts L t n && is_better priorities L n m)) (places (length priorities))

-- the one choice for which the relation holds
abbrev pub selected_master : Timeouts → List ℕ → Record → ℕ → Option ℕ
selected_master timeouts priorities L t = find (is_best timeouts priorities L t) (places (length priorities))
