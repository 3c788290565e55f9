-- The change of capacity of a grandmaster that is served (the project's own choice).
use Rattle.std.specs.Prelude.{ℕ, ◌+◌, ◌==◌, max, Bool, ◌&&◌, nat_lt, nat_le, if◌then◌else◌, Option, Some, None, is_some}
use Rattle.ptu_config.specs.{declared.settings.GmSettings.{GmSettings}, Rounds.{all_rounds}}

-- the capacity to which it changes: there is one where the round of the change is one of all rounds
abbrev pub change_of : GmSettings → Option ℕ
change_of settings =
    if nat_lt 0 settings.change_round && nat_le settings.change_round (all_rounds settings) then settings.new_capacity else None

-- it begins with the round before which there were so many
abbrev pub begins_changed : GmSettings → ℕ → Bool
begins_changed settings before = (settings.change_round == before + 1) && is_some settings.new_capacity

-- the capacity to which it changes with that round, if it does
abbrev pub new_with : GmSettings → ℕ → Option ℕ
new_with settings before = if settings.change_round == before + 1 then settings.new_capacity else None

-- the greater of the capacity and the one to which it changes
abbrev pub greater_of : ℕ → Option ℕ → ℕ
greater_of capacity None = capacity
greater_of capacity (Some later) = max capacity later

-- the greatest capacity that is in force in a round
abbrev pub peak_capacity : GmSettings → ℕ
peak_capacity settings = greater_of settings.capacity (change_of settings)

-- the capacity to which it changes, or the one that it has where it does not
abbrev pub later_of : ℕ → Option ℕ → ℕ
later_of capacity None = capacity
later_of capacity (Some later) = later
