-- Entries of rows that are put into a queue one by one.
use Rattle.std.proofs.Common.{◌≡◌, ◌∙◌, ◌⊎◌, inl, inr, ℕ, zero, suc, ◌+◌, ◌<◌, ◌++◌, List, [], ◌∷◌, length, take, sym, ap, subst, arith, Some, None, slice_get}
use Rattle.std.specs.{List.{Contains}, List.Sorted.{IsPermutation}}
use Rattle.std.proofs.lemmas.{List.{take_more}, List.Elements.{Contains-push_cases}}
use Rattle.std.proofs.lemmas.List.Sorted.{Contains-permutation}
use Rattle.std.proofs.lemmas.Option.{get_or_from_slice_get, slice_get_within}
use Rattle.ptu_history.proofs.Unique.{Contains-first, Contains-later}
use Rattle.ptu_shard.specs.declared.{lease.Row.{Row}, queue.Entry.{Entry}}

pub none_within : {X : Type 0} (xs : List X) (i : ℕ) → i < length xs → slice_get xs i ≡ None → ⊥
none_within [] i lt e = absurd (omega arith)
none_within (x ∷ xs) zero lt e = absurd (cc)
none_within (x ∷ xs) (suc i) lt e = none_within xs i (omega arith) e

take_cases : {X : Type 0} (xs : List X) (i : ℕ) (x : X) → slice_get xs i ≡ Some x → (z : X) → Contains (take (i + 1) xs) z → Contains (take i xs) z ⊎ (x ≡ z)
take_cases xs i x is z h =
    Contains-push_cases (take i xs) x z
    (subst (λ l. Contains l z) (take_more xs i x (slice_get_within xs i x is) ∙ ap (λ y. take i xs ++ y ∷ []) (get_or_from_slice_get xs i x x is)) h)

-- an entry more, by its place
pub one_put : (entries new : List Entry) (e f : Entry) → IsPermutation (e ∷ entries) new → Contains entries f → Contains new f
one_put entries new e f put h = Contains-permutation (e ∷ entries) new f put (Contains-later e entries f h)

pub own_put : (entries new : List Entry) (e f : Entry) → IsPermutation (e ∷ entries) new → e ≡ f → Contains new f
own_put entries new e f put is = subst (Contains new) is (Contains-permutation (e ∷ entries) new e put (Contains-first e entries))

module _ (f : Row → Entry) (P : Row → Type 0) (rows : List Row) (i : ℕ) (row : Row) (is : slice_get rows i ≡ Some row) (old : List Entry)
    (have : (z : Row) → Contains (take i rows) z → P z → Contains old (f z)) where
  pub filled : (new : List Entry) (e : Entry) → e ≡ f row → IsPermutation (e ∷ old) new → (z : Row) → Contains (take (i + 1) rows) z → P z → Contains new (f z)
  filled new e own put z h p = at (take_cases rows i row is z h)
    where
      at : Contains (take i rows) z ⊎ (row ≡ z) → Contains new (f z)
      at (inl k) = one_put old new e (f z) put (have z k p)
      at (inr same) = own_put old new e (f z) put (own ∙ ap f same)

  pub passed : (P row → ⊥) → (z : Row) → Contains (take (i + 1) rows) z → P z → Contains old (f z)
  passed never z h p = at (take_cases rows i row is z h)
    where
      at : Contains (take i rows) z ⊎ (row ≡ z) → Contains old (f z)
      at (inl k) = have z k p
      at (inr same) = absurd (never (subst P (sym same) p))
