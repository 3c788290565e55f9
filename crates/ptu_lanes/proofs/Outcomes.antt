-- What lanes did, by what their calls came to.
use Rattle.std.proofs.Common.{◌≡◌, ◌∙◌, Result, Ok, Err}
use Rattle.std.specs.Prelude.{IfOk}
use Rattle.ptu_lanes.specs.declared.calls.Called.{Called}
use Rattle.ptu_lanes.specs.declared.calls.Called.TheVariants.{Idle, Left, Served}
use Rattle.ptu_lanes.specs.Crew.{CrewCameTo, HasLeft, IsServed}

-- a lane that served did what its call came to
pub came_served : {T : Type 0} (did : T → Type 0) (old : T) (called : Called T) (lane : T) → CrewCameTo did old called → IsServed lane called → did lane
came_served did old (Served (Ok new)) lane came is = let same : new ≡ lane = cc is in rw same at came
came_served did old (Served (Err fault)) lane came is = absurd (cc is)
came_served did old (Left back) lane came is = absurd is
came_served did old (Idle back) lane came is = rw is came.0

-- one that left is as it was
pub came_left : {T : Type 0} (did : T → Type 0) (old : T) (called : Called T) (lane : T) → CrewCameTo did old called → HasLeft lane called → lane ≡ old
came_left did old (Served result) lane came is = absurd is
came_left did old (Left back) lane came is = is ∙ came
came_left did old (Idle back) lane came is = is ∙ came.1

-- what holds of an answer that is passed on
pub ok_of : {A E : Type 0} (r : Result A E) (P : A → Type 0) (x : A) → r ≡ Ok x → IfOk r P → P x
ok_of (Ok y) P x is p = let same : y ≡ x = cc is in rw same at p
ok_of (Err e) P x is p = absurd (cc is)
