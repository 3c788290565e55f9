-- The rights of two to turn tables.
use Rattle.std.proofs.Common.{◌≡◌, refl, Option, Some, None}
use Rattle.std.specs.{Prelude.{option_map}, Option.{option_or}}

pub option_map-or : {A B : Type 0} (f : A → B) (x y : Option A) → option_map f (option_or x y) ≡ option_or (option_map f x) (option_map f y)
option_map-or f None y = refl
option_map-or f (Some x) y = refl
