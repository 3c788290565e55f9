-- Which halves of a list join. Lists of halves stand with the last one first.
use Rattle.std.specs.Prelude.{◌≡◌, ℕ, ◌&&◌, true, false, if◌then◌else◌, List, [], ◌∷◌, ◌++◌, map}
use Rattle.std.specs.{Prelude.{Option, Some, None, is_none, is_some}, List.{AllByRecursion, filter}}
use Rattle.std.specs.Set.{distinct_count}
use Rattle.ptu_show.specs.declared.half.{Half.{Half}, HalfKey.{HalfKey}}
use Rattle.ptu_show.specs.Halves.{is_other, key_of, same_key}

-- a half behind these joins where the half of its key directly before it exists, does not itself
-- join, and is of the other type; this is the half that it joins with
abbrev pub partner : List Half → Half → Option Half
partner [] half = None
partner (before ∷ earlier) half =
    if same_key (key_of before) (key_of half)
    then
    (if is_none (partner earlier before) && is_other before.part half.part
    then Some before
    else None)
    else partner earlier half

-- the same as a sentence on the list: in it stands the half that it joins with, which is of its key
-- and of the other type, does not itself join, and has no half of its key between the two
pub record JoinsWith (halves : List Half) (half before : Half) : Type 0 where
  pub between : List Half
  pub earlier : List Half
  pub stands : halves ≡ between ++ before ∷ earlier
  pub apart : AllByRecursion (λ other. same_key (key_of other) (key_of half) ≡ false) between
  pub own : same_key (key_of before) (key_of half) ≡ true
  pub waits : partner earlier before ≡ None
  pub other : is_other before.part half.part ≡ true

-- the last half of the key, where it does not join
abbrev pub waiting : List Half → HalfKey → Option Half
waiting [] key = None
waiting (half ∷ earlier) key =
    if same_key (key_of half) key
    then (if is_none (partner earlier half) then Some half else None)
    else waiting earlier key

-- the half that waits of its key is what a half joins with, where that is of the other type
abbrev pub other_of : Option Half → Half → Option Half
other_of None half = None
other_of (Some before) half = if is_other before.part half.part then Some before else None

-- how many keys there are whose last half does not join
abbrev pub waiting_keys : List Half → ℕ
waiting_keys halves =
    distinct_count same_key (filter (λ key. is_some (waiting halves key)) (map key_of halves))
