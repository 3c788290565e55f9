-- What is told, read or written in several pieces.
use Rattle.std.proofs.Common.{◌≡◌, ℕ, ◌+◌, ◌≤◌, List, [], ◌++◌, take, drop, Option, Some, None, refl, ap, sym, append_assoc, inl, inr, arith}
use Rattle.std.proofs.{lemmas.List.{append-nil}, Math.Seq.{take-add}}
use Rattle.std.specs.Io.KnownBytes.{prepend_known, append_known}
use Rattle.ptu_outside.specs.Faults.{HasRisenBy}

pub append_known-nil : (told : Option (List ℕ)) → append_known told [] ≡ told
append_known-nil None = refl
append_known-nil (Some xs) = ap Some (append-nil xs)

pub prepend_known-nil : (told : Option (List ℕ)) → prepend_known [] told ≡ told
prepend_known-nil None = refl
prepend_known-nil (Some xs) = refl

pub append_known-append : (told : Option (List ℕ)) (xs ys : List ℕ) → append_known (append_known told xs) ys ≡ append_known told (xs ++ ys)
append_known-append None xs ys = refl
append_known-append (Some zs) xs ys = ap Some (append_assoc zs xs ys)

pub prepend_known-append : (told : Option (List ℕ)) (xs ys : List ℕ) → prepend_known xs (prepend_known ys told) ≡ prepend_known (xs ++ ys) told
prepend_known-append None xs ys = refl
prepend_known-append (Some zs) xs ys = ap Some (sym (append_assoc xs ys zs))

-- a front of n octets and then k more of the rest are a front of n + k
pub append_known-more : (start old new : Option (List ℕ)) (n k : ℕ) (piece : List ℕ)
    → old ≡ append_known start (take n piece) → new ≡ append_known old (take k (drop n piece)) → new ≡ append_known start (take (n + k) piece)
append_known-more start old new n k piece before after =
    rw (take-add n k piece, ← append_known-append start (take n piece) (take k (drop n piece)), ← before) after

-- a count that rises after it did not fall has risen
pub HasRisenBy-before : (n start old new : ℕ) → start ≤ old → HasRisenBy n old new → HasRisenBy n start new
HasRisenBy-before n start old new le (inl more) = inl (omega arith)
HasRisenBy-before n start old new le (inr end) = inr end

-- a count that has risen and then does not fall has risen
pub HasRisenBy-after : (n old new end : ℕ) → new ≤ end → HasRisenBy n old new → HasRisenBy n old end
HasRisenBy-after n old new end le (inl more) = inl (omega arith)
HasRisenBy-after n old new end le (inr last) = inr (omega arith)
