-- The masters of a slave: an array of 1 to 16 tables with distinct addresses.
use Rattle.std.specs.Prelude.{ℕ, Bool, true, false, not, ◌&&◌, ◌==◌, nat_le, if◌then◌else◌, List, [], ◌∷◌, length, Option, Some, None, option_map, option_and_then, bytes_eq, codes}
use Rattle.std.specs.List.{list_any}
use Rattle.toml.specs.Data.{Data, Items, no_items, item, Members, as_str, as_array, as_table, get_member}
use Rattle.ptu_config.specs.declared.master.MasterSetting.{MasterSetting}
use Rattle.ptu_config.specs.Forms.{address_in, whole_in, given, has_only}

-- the name of a judge; true is the judge of gaps
abbrev pub judge_of : List ℕ → Option Bool
judge_of text =
    if bytes_eq text (codes "flag") then Some false
    else if bytes_eq text (codes "gap") then Some true
    else None

abbrev pub judge_in : Data → Option Bool
judge_in value = option_and_then judge_of (as_str value)

-- the name is that of a setting of a master
abbrev pub is_master_name : List ℕ → Bool
is_master_name name = list_any (bytes_eq name) (codes "ip" ∷ codes "priority" ∷ codes "judge" ∷ [])

-- a master of these, where all three are there
abbrev pub master_by : Option ℕ → Option ℕ → Option Bool → Option MasterSetting
master_by (Some ip) (Some priority) (Some gap) =
    Some (record { ip = ip; priority = priority; gap = gap })
master_by _ _ _ = None

-- a master's table: `ip` is required, `priority` is from 0 to 255 and 128 where it is not there,
-- `judge` is "flag" where it is not there, and there is no other key
abbrev pub master_of : Members → Option MasterSetting
master_of members =
    if has_only is_master_name members then master_by
    (given address_in None (get_member (codes "ip") members))
    (given (whole_in 0 255) (Some 128) (get_member (codes "priority") members))
    (given judge_in (Some false) (get_member (codes "judge") members))
    else None

-- what stands first, and the rest, where both are there
abbrev pub with_first : {A : Type 0} → Option A → Option (List A) → Option (List A)
with_first None rest = None
with_first (Some x) rest = option_map (λ xs. x ∷ xs) rest

-- the masters of an array, where each item is a master's table
abbrev pub masters_of : Items → Option (List MasterSetting)
masters_of no_items = Some []
masters_of (item value rest) =
    with_first (option_and_then master_of (as_table value)) (masters_of rest)

-- no two of them have one address
abbrev pub are_distinct : List MasterSetting → Bool
are_distinct [] = true
are_distinct (master ∷ rest) =
    not (list_any (λ other. other.ip == master.ip) rest) && are_distinct rest

-- there are 1 to 16 of them, with distinct addresses
abbrev pub are_masters : List MasterSetting → Bool
are_masters masters =
    (nat_le 1 (length masters) && nat_le (length masters) 16) && are_distinct masters

-- an array of 1 to 16 tables of masters with distinct addresses
abbrev pub masters_in : Data → Option (List MasterSetting)
masters_in value = option_and_then
    (λ items. option_and_then (λ list. if are_masters list then Some list else None)
    (masters_of items))
    (as_array value)
