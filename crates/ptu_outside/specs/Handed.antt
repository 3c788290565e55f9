-- What became of the datagrams that a daemon handed to its ports, and of the counts of faults.
use Rattle.std.specs.Prelude.{◌≡◌, ℕ, ◌+◌, Bool, true, false, List, [], ◌∷◌, Option}
use Rattle.std.specs.List.{AllByRecursion}
use Rattle.ptu_outside.specs.{declared.port.Port.{Ghosts as Ports}, Departure.{Departure}}
use Rattle.ptu_outside.specs.{Faults.{HasRisen}, HandsOver.{SentOf}, Telling.{IfTold, TellsOn, append_told}}
use Rattle.ptu_outside.specs.Ports.{HaveRisenBy, HaveRisenJust}

-- so many sends and receives failed: at most what the counts rose by together, and just that where each call that fails counts
-- one fault; where none failed, no count rose
pub record FailuresAre (once : Bool) (failed : ℕ) (olds news : List ℕ) : Type 0 where
  pub risen : HaveRisenBy failed olds news
  pub just : once ≡ true → HaveRisenJust failed olds news
  pub quiet : failed ≡ 0 → news ≡ olds

-- these datagrams were handed, in order, to a port that was sent this before and after, with these counts of faults: whatever
-- failed, it was sent so many of them, in their order; and all, where its count did not rise
pub record SentPart (before after : Option (List Departure)) (old new : ℕ) (datagrams : List Departure) (sent : ℕ) : Type 0 where
  pub some : SentOf before after datagrams sent
  pub all : ¬ HasRisen old new → IfTold after (append_told before datagrams)

-- likewise of the port; where its count did not rise it goes on to tell, unless a datagram was such that it may cease to
pub record WasHanded {P : Type 0} (ports : Ports P) (old new : P) (datagrams : List Departure) (sent : ℕ) : Type 0 where
  pub part : SentPart (ports.sent old) (ports.sent new) (ports.faults old) (ports.faults new) datagrams sent
  pub goes_on : ¬ HasRisen (ports.faults old) (ports.faults new) →
      AllByRecursion (λ d. ports.ceases_at d ≡ false) datagrams → TellsOn (ports.sent old) (ports.sent new)

-- likewise of these ports, the first of which has the index: of what is handed to each it was sent a part, so many together
abbrev pub WereHanded : {P : Type 0} → Ports P → (ℕ → List Departure) → ℕ → ℕ → List P → List P → Type 0
WereHanded ports datagrams i sent [] [] = sent ≡ 0
WereHanded ports datagrams i sent (old ∷ olds) (new ∷ news) =
    (first : ℕ) × (others : ℕ) × (sent ≡ first + others) × WasHanded ports old new (datagrams i) first
    × WereHanded ports datagrams (i + 1) others olds news
WereHanded ports datagrams i sent _ _ = ⊥
