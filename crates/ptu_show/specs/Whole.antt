-- The script of a load is replayed to its end.
use Rattle.std.specs.Prelude.{◌≡◌, ℕ, ◌+◌, ◌≤◌}
use Rattle.ptu_lines.specs.Script.{script_lines}
use Rattle.ptu_report.specs.{declared.ending.Ending.TheVariants.{Whole}, Rules.{ending_of}}
use Rattle.ptu_world.specs.{World.{Stock}, Report.{course_opening, rules}}
use Rattle.ptu_show.specs.Generated.{generated}

-- whatever judges there are, no line of the script of a load is refused: its n + 33 lines are
-- replayed to the end
abbrev pub LoadsAreWhole : Type 0
LoadsAreWhole = (stock : Stock) (n : ℕ) → 1 ≤ n → n ≤ 2000
    → ending_of rules (course_opening stock) (script_lines (generated n)) ≡ Whole (n + 33)
