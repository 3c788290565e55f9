-- Content that a value tells or not. It is `None` where it is not told.
use Rattle.std.specs.Prelude.{◌≡◌, Option, Some, List, [], ◌++◌, drop, slice_get, option_map, IfSome, IsSome}

-- where it is still told, this is what is told; so what was not told does not begin to be told
abbrev pub IfTold : {A : Type 0} → Option A → Option A → Type 0
IfTold now told = IfSome now (λ content. told ≡ Some content)

-- what was told is still told
abbrev pub TellsOn : {A : Type 0} → Option A → Option A → Type 0
TellsOn old new = IsSome old → IsSome new

-- what is told of a list when these are added at its end
abbrev pub append_told : {A : Type 0} → Option (List A) → List A → Option (List A)
append_told told more = option_map (λ list. list ++ more) told

-- what is told of a list when its first is taken off
abbrev pub rest_told : {A : Type 0} → Option (List A) → Option (List A)
rest_told told = option_map (drop 1) told

-- where the list is told, this is its first
abbrev pub IsFirstTold : {A : Type 0} → Option (List A) → A → Type 0
IsFirstTold told first = IfSome told (λ list. slice_get list 0 ≡ Some first)

-- where the list is told, it is empty
abbrev pub IsEmptyTold : {A : Type 0} → Option (List A) → Type 0
IsEmptyTold told = IfSome told (λ list. list ≡ [])
