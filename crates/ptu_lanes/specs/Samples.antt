-- Settings, orders and rounds that were made out by hand.
use Rattle.std.specs.Prelude.{◌≡◌, ℕ, true, false, [], ◌∷◌, Option, Some, None, Ok, Err}
use Rattle.ptu_units.specs.declared.client.Client.{Client}
use Rattle.ptu_units.specs.declared.kind.Kind.TheVariants as kinds
use Rattle.ptu_config.specs.{declared.settings.GmSettings.{GmSettings}, Examples.{repeated}}
use Rattle.ptu_config.specs.declared.command.Cause.TheVariants as causes
use Rattle.ptu_config.specs.declared.command.Command.TheVariants as commands
use Rattle.ptu_lanes.specs.declared.orders.Order.TheVariants as orders
use Rattle.ptu_lanes.specs.Changing.{begins_changed, change_of, new_with, peak_capacity}
use Rattle.ptu_lanes.specs.Orders.{AreAllBy, capacity_by, class_by, left_of, moments_by, peak_ordered, sequence_on, stops_by}

-- settings of capacity 8 with so many rounds, so many times over, of which this one begins with a change to this capacity
abbrev settings_with : ℕ → ℕ → ℕ → Option ℕ → GmSettings
settings_with rounds repeat round capacity =
    record (repeated rounds repeat) { clock = 1; max_duration = 300; senders = 2; change_round = round; new_capacity = capacity }

-- a change comes with its own round, behind those before it; a round 0, or one behind the last of all, is none
abbrev pub ChangesAre : Type 0
ChangesAre =
    (change_of (settings_with 2 1 2 (Some 4)) ≡ Some 4) × (new_with (settings_with 2 1 2 (Some 4)) 1 ≡ Some 4)
    × (new_with (settings_with 2 1 2 (Some 4)) 0 ≡ None) × (begins_changed (settings_with 2 1 2 (Some 4)) 1 ≡ true)
    × (begins_changed (settings_with 2 1 2 (Some 4)) 2 ≡ false) × (begins_changed (settings_with 2 1 2 None) 1 ≡ false)
    × (peak_capacity (settings_with 2 1 2 (Some 4)) ≡ 8) × (peak_capacity (settings_with 2 1 1 (Some 12)) ≡ 12)
    × (new_with (settings_with 2 1 1 (Some 12)) 0 ≡ Some 12)
    × (change_of (settings_with 2 1 3 (Some 12)) ≡ None) × (peak_capacity (settings_with 2 1 3 (Some 12)) ≡ 8)
    × (change_of (settings_with 2 1 0 (Some 12)) ≡ None) × (new_with (settings_with 2 1 0 (Some 12)) 0 ≡ None)
    × (change_of (settings_with 2 3 6 (Some 4)) ≡ Some 4) × (new_with (settings_with 2 3 6 (Some 4)) 5 ≡ Some 4)
    × (change_of (settings_with 2 3 7 (Some 12)) ≡ None)
    × (peak_ordered false (settings_with 2 1 1 (Some 12)) ≡ 12) × (peak_ordered true (settings_with 2 1 1 (Some 12)) ≡ 16777216)

abbrev pub a_client : Client
a_client = record { ip = 1; clock = 2; port = 3 }

-- what changes something is left to be obeyed, and no more; the number behind the last is 0; all rounds are done, up to the one that ends
abbrev pub OrdersAre : Type 0
OrdersAre =
    (left_of (Some (Ok (commands.Class 110))) ≡ Some (orders.Class 110)) × (left_of (Some (Ok (commands.Capacity 4))) ≡ Some (orders.Capacity 4))
    × (left_of (Some (Ok (commands.Stop true))) ≡ Some (orders.Stop true)) × (left_of (Some (Ok commands.Status)) ≡ None)
    × (left_of (Some (Err causes.Words)) ≡ None) × (left_of None ≡ None)
    × (capacity_by (Some (orders.Capacity 4)) ≡ Some 4) × (capacity_by (Some (orders.Stop true)) ≡ Some 0) × (capacity_by (Some (orders.Stop false)) ≡ None)
    × (capacity_by (Some (orders.Class 110)) ≡ None) × (class_by 84 (Some (orders.Class 110)) ≡ 110) × (class_by 84 (Some (orders.Capacity 4)) ≡ 84)
    × (moments_by (Some (orders.Class 110)) ≡ 1) × (moments_by (Some (orders.Stop false)) ≡ 0) × (moments_by None ≡ 0)
    × (stops_by (Some (orders.Stop false)) ≡ true) × (stops_by (Some (orders.Class 110)) ≡ false)
    × (sequence_on 65535 ((a_client, kinds.Sync) ∷ []) ≡ 0) × (sequence_on 7 [] ≡ 7)
    × AreAllBy (λ b. b) 2 (false ∷ false ∷ []) × AreAllBy (λ b. b) 2 (false ∷ true ∷ []) × AreAllBy (λ b. b) 5 (false ∷ true ∷ [])
    × (AreAllBy (λ b. b) 2 (false ∷ []) → ⊥) × (AreAllBy (λ b. b) 5 (true ∷ false ∷ []) → ⊥)
