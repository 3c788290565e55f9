-- The stop, and a CANCEL of each live grant of each master.
use Rattle.std.proofs.Common.{append_assoc, ◌≡◌, ◌≢◌, ℕ, zero, suc, ◌+◌, ◌<◌, ◌≤◌, Bool, true, false, cond, List, [], ◌∷◌, ◌++◌, map, refl, ap, sym, ◌∙◌, arith, eqb, add-zero, add-one, zero-add}
use Rattle.std.proofs.lemmas.{Bool.{false≢true, ne_eqb, eq-eqb, eqb-true}, List.{append-nil}}
use Rattle.std.proofs.lemmas.List.Elements.{filter-append}
use Rattle.std.specs.List.{flat_map, range_with_len}
use Rattle.ptu_units.specs.declared.kind.Kind.{Kind}
use Rattle.ptu_record.specs.Record.{Record, record_of, concerns, Cancelled, Stopped}
use Rattle.ptu_record.specs.Grants.{is_live, live_kinds}
use Rattle.ptu_record.proofs.KindStates.{stop_as_cancels}
use Rattle.ptu_requester.specs.Requester.{all_cancels}

-- the CANCELs of one master, in its record and in another's
own : (m x : ℕ) (ks : List Kind) → record_of m (map (Cancelled x m) ks) ≡ map (Cancelled x m) ks
own m x [] = refl
own m x (k ∷ ks) =
    ap (λ b. cond b (Cancelled x m k ∷ record_of m (map (Cancelled x m) ks)) (record_of m (map (Cancelled x m) ks))) (eq-eqb m m refl)
    ∙ ap (λ w. Cancelled x m k ∷ w) (own m x ks)

others : (m n x : ℕ) (ks : List Kind) → eqb n m ≡ false → record_of m (map (Cancelled x n) ks) ≡ []
others m n x [] differ = refl
others m n x (k ∷ ks) differ =
    ap (λ b. cond b (Cancelled x n k ∷ record_of m (map (Cancelled x n) ks)) (record_of m (map (Cancelled x n) ks))) differ
    ∙ others m n x ks differ

-- CANCELs of so many masters from the place a on
abbrev cancels : (ℕ → List Kind) → (x a n : ℕ) → Record
cancels f x a n = flat_map (λ i. map (Cancelled x i) (f i)) (range_with_len a n)

none : (f : ℕ → List Kind) (x m a n : ℕ) → m < a → record_of m (cancels f x a n) ≡ []
none f x m a zero below = refl
none f x m a (suc n) below =
    filter-append (concerns m) (map (Cancelled x a) (f a)) (cancels f x (a + 1) n)
    ∙ ap (λ w. w ++ record_of m (cancels f x (a + 1) n)) (others m a x (f a) (ne_eqb a m (omega arith)))
    ∙ none f x m (a + 1) n (omega arith)

one : (f : ℕ → List Kind) (x m a n : ℕ) → a ≤ m → m < a + n → record_of m (cancels f x a n) ≡ map (Cancelled x m) (f m)
one f x m a zero from below = absurd (omega arith)
one f x m a (suc n) from below = filter-append (concerns m) (map (Cancelled x a) (f a)) (cancels f x (a + 1) n) ∙ pick (λ after. one f x m (a + 1) n after (omega arith)) (eqb a m) refl
  where
    first : a ≡ m → record_of m (map (Cancelled x a) (f a)) ++ record_of m (cancels f x (a + 1) n) ≡ map (Cancelled x m) (f m)
    first same =
        ap (λ w. record_of m (map (Cancelled x a) (f a)) ++ w) (none f x m (a + 1) n (omega arith)) ∙ append-nil (record_of m (map (Cancelled x a) (f a)))
        ∙ ap (λ i. record_of m (map (Cancelled x i) (f i))) same ∙ own m x (f m)

    pick : (a + 1 ≤ m → record_of m (cancels f x (a + 1) n) ≡ map (Cancelled x m) (f m)) → (b : Bool) → eqb a m ≡ b
        → record_of m (map (Cancelled x a) (f a)) ++ record_of m (cancels f x (a + 1) n) ≡ map (Cancelled x m) (f m)
    pick later true same = first (eqb-true a m same)
    pick later false differ =
        let apart : a ≢ m = λ e. false≢true (sym differ ∙ eq-eqb a m e) in
        ap (λ w. w ++ record_of m (cancels f x (a + 1) n)) (others m a x (f a) differ) ∙ later (omega arith)

pub stop_lifted : (masters : ℕ) (L M : Record) (x t m : ℕ) (k : Kind) → m < masters → x ≤ t
    → is_live k (record_of m (L ++ all_cancels masters L x ++ M)) t ≡ is_live k (record_of m (L ++ Stopped x ∷ M)) t
stop_lifted masters L M x t m k within le =
    ap (λ w. is_live k w t) (parts ∙ ap (λ w. record_of m L ++ w ++ record_of m M) (one (λ i. live_kinds (record_of i L) x) x m 0 masters (omega arith) (omega arith)))
    ∙ stop_as_cancels k (record_of m L) (record_of m M) x m t le
    ∙ ap (λ w. is_live k w t) (sym (filter-append (concerns m) L (Stopped x ∷ M)))
  where
    parts : record_of m (L ++ all_cancels masters L x ++ M) ≡ record_of m L ++ record_of m (all_cancels masters L x) ++ record_of m M
    parts = filter-append (concerns m) (L ++ all_cancels masters L x) M ∙ ap (λ w. w ++ record_of m M) (filter-append (concerns m) L (all_cancels masters L x))

-- the CANCELs of one place more
more : (f : ℕ → List Kind) (x a n : ℕ) → cancels f x a (suc n) ≡ cancels f x a n ++ map (Cancelled x (a + n)) (f (a + n))
more f x a zero = append-nil (map (Cancelled x a) (f a)) ∙ ap (λ i. map (Cancelled x i) (f i)) (sym (add-zero a))
more f x a (suc n) =
    ap (λ w. map (Cancelled x a) (f a) ++ w) (more f x (a + 1) n) ∙ sym (append_assoc (map (Cancelled x a) (f a)) (cancels f x (a + 1) n) (map (Cancelled x (a + 1 + n)) (f (a + 1 + n))))
    ∙ ap (λ i. (map (Cancelled x a) (f a) ++ cancels f x (a + 1) n) ++ map (Cancelled x i) (f i)) (shifted a n)
  where
    shifted : (a n : ℕ) → a + 1 + n ≡ a + suc n
    shifted a n = omega arith

pub all_cancels-next : (L : Record) (x m : ℕ) → all_cancels (m + 1) L x ≡ all_cancels m L x ++ map (Cancelled x m) (live_kinds (record_of m L) x)
all_cancels-next L x m =
    ap (λ n. cancels (λ i. live_kinds (record_of i L) x) x 0 n) (add-one m) ∙ more (λ i. live_kinds (record_of i L) x) x 0 m
    ∙ ap (λ i. all_cancels m L x ++ map (Cancelled x i) (live_kinds (record_of i L) x)) (zero-add m)

-- those of the places before m concern m not
beyond : (f : ℕ → List Kind) (x m a n : ℕ) → a + n ≤ m → record_of m (cancels f x a n) ≡ []
beyond f x m a zero below = refl
beyond f x m a (suc n) below =
    filter-append (concerns m) (map (Cancelled x a) (f a)) (cancels f x (a + 1) n)
    ∙ ap (λ w. w ++ record_of m (cancels f x (a + 1) n)) (others m a x (f a) (ne_eqb a m (omega arith)))
    ∙ beyond f x m (a + 1) n (omega arith)

pub all_cancels-before : (L : Record) (x m n : ℕ) → n ≤ m → record_of m (L ++ all_cancels n L x) ≡ record_of m L
all_cancels-before L x m n le =
    filter-append (concerns m) L (all_cancels n L x) ∙ ap (λ w. record_of m L ++ w) (beyond (λ i. live_kinds (record_of i L) x) x m 0 n (omega arith)) ∙ append-nil (record_of m L)
