-- What is said of boxed judges one by one, of whatever type each is: which calls were made of one, and what it answered.
use Rattle.std.specs.{Prelude.{◌≡◌, ◌≢◌, ℕ, ◌<◌, ◌≤◌, Bool, List, length, Some}, List.{slice_get}}
use Rattle.std.specs.declared.dyn_box.DynBox.{DynBox}

-- a judge in a box, with its type
abbrev pub judge_in : {X Z : Type 0} {F : X → Type 0} → DynBox X Z F → (i : X) × F i
judge_in j = (j.vtable, j.value)

-- a boxed judge has become one of its own type of which this holds
abbrev pub Becomes : {X Z : Type 0} {F : X → Type 0} → (old : DynBox X Z F) → (F old.vtable → Type 0) → (new : DynBox X Z F) → Type 0
Becomes {X} {Z} {F} old Holds new = (value : F old.vtable) × (Holds value × ◌≡◌ {A = (i : X) × F i} (old.vtable, value) (judge_in new))

-- ---- a boxed judge before and after; `hears`, `is_told` and `finds` are those of `Conduct`, of the judge in a box

-- it was told of a Sync
abbrev pub WasHeard : {X Z : Type 0} {F : X → Type 0} → ((j : DynBox X Z F) → ℕ → ℕ → F j.vtable → Type 0)
    → (t seq : ℕ) → (old new : DynBox X Z F) → Type 0
WasHeard hears t seq old new = Becomes old (hears old t seq) new

-- it was told the operator's word
abbrev pub WasTold : {X Z : Type 0} {F : X → Type 0} → ((j : DynBox X Z F) → ℕ → Bool → F j.vtable → Type 0)
    → ℕ → Bool → (old new : DynBox X Z F) → Type 0
WasTold is_told t word old new = Becomes old (is_told old t word) new

-- it was asked, and found this
abbrev pub WasAsked : {X Z : Type 0} {F : X → Type 0} → ((j : DynBox X Z F) → ℕ → Bool → F j.vtable → Type 0)
    → ℕ → Bool → (old new : DynBox X Z F) → Type 0
WasAsked finds t found old new = Becomes old (finds old t found) new

-- one and then the other
abbrev pub Then : {B : Type 0} → (B → B → Type 0) → (B → B → Type 0) → (old new : B) → Type 0
Then {B} P Q old new = (mid : B) × (P old mid × Q mid new)

-- ---- the judges of all masters before and after

-- of the judge at this place this holds, and each other is as before
pub record OfOne {B : Type 0} (m : ℕ) (P : B → B → Type 0) (olds news : List B) : Type 0 where
  pub old : B
  pub new : B
  pub was : slice_get olds m ≡ Some old
  pub is : slice_get news m ≡ Some new
  pub did : P old new
  pub others : (n : ℕ) → n ≢ m → slice_get news n ≡ slice_get olds n

-- the judge at this place gave this one of the answers
pub record OfAnswer {B : Type 0} (m : ℕ) (P : Bool → B → B → Type 0) (answers : List Bool) (olds news : List B) : Type 0 where
  pub answer : Bool
  pub old : B
  pub new : B
  pub given : slice_get answers m ≡ Some answer
  pub was : slice_get olds m ≡ Some old
  pub is : slice_get news m ≡ Some new
  pub did : P answer old new

-- each of the first so many gave one answer, in their order, and each other is as before
pub record OfAll {B : Type 0} (many : ℕ) (P : Bool → B → B → Type 0) (answers : List Bool) (olds news : List B) : Type 0 where
  pub counted : length answers ≡ many
  pub each : (m : ℕ) → m < many → OfAnswer m P answers olds news
  pub others : (m : ℕ) → many ≤ m → slice_get news m ≡ slice_get olds m
