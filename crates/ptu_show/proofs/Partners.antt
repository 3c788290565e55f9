-- What is kept of each key, when one half more is taken.
use Rattle.std.proofs.Common.{◌≡◌, ◌∙◌, ◌&&◌, ◌||◌, Bool, true, false, cond, eqb, List, [], ◌∷◌, map, Option, Some, None, is_some, refl, sym, ap, ap₂, subst}
use Rattle.std.specs.{Bool.{Decides}, Cmp.{IsEquivalence, decided}}
use Rattle.std.specs.{HashMap.{HashMap, IsUnique, get, hash_map_len}, List.{filter}, Map.{keys_of}}
use Rattle.std.specs.{Prelude.{if◌then◌else◌, is_none, IfSome}, Set.{is_member}}
use Rattle.std.proofs.lemmas.{Bool.Decides.{Decides-and, Decides-eqb}, Map.Entries.{length-keys_of}}
use Rattle.std.proofs.lemmas.Map.Made.{alike_from_same, is_member-filter, is_some-lookup, length-from_keys}
use Rattle.ptu_show.specs.declared.half.{Half.{Half}, HalfKey.{HalfKey}}
use Rattle.ptu_show.specs.Halves.{is_other, key_of, same_key}
use Rattle.ptu_show.specs.Joins.{other_of, partner, waiting, waiting_keys}
use Rattle.ptu_show.specs.Waiting.{IsHalf, StandsFor}

-- ---- keys

same_key-Decides : (a b : HalfKey) → Decides (same_key a b) (a ≡ b)
same_key-Decides a b =
    let parts = Decides-and (eqb a.domain b.domain) _ (Decides-eqb a.domain b.domain)
    (Decides-and (eqb a.source.clock b.source.clock && eqb a.source.port b.source.port) (eqb a.sequence b.sequence)
    (Decides-and (eqb a.source.clock b.source.clock) (eqb a.source.port b.source.port) (Decides-eqb a.source.clock b.source.clock) (Decides-eqb a.source.port b.source.port))
    (Decides-eqb a.sequence b.sequence)) in (
      λ e. let p = parts.0 e in λ i. record { domain = p.0 i; source = record { clock = p.1.0.0 i; port = p.1.0.1 i }; sequence = p.1.1 i },
      λ e. parts.1 (ap (λ k. k.domain) e, ((ap (λ k. k.source.clock) e, ap (λ k. k.source.port) e), ap (λ k. k.sequence) e)),
    )

same_key-laws : IsEquivalence same_key
same_key-laws = decided same_key same_key-Decides

-- ---- the half that one joins with

pub partner_is : (halves : List Half) (half : Half) → partner halves half ≡ other_of (waiting halves (key_of half)) half
partner_is [] half = refl
partner_is (before ∷ earlier) half = at (same_key (key_of before) (key_of half)) (is_none (partner earlier before)) (partner_is earlier half)
  where
    at : (same free : Bool) → partner earlier half ≡ other_of (waiting earlier (key_of half)) half
        → (if same then (if free && is_other before.part half.part then Some before else None) else partner earlier half)
        ≡ other_of (if same then (if free then Some before else None) else waiting earlier (key_of half)) half
    at true true ih = refl
    at true false ih = refl
    at false free ih = ih

-- ---- what is kept

module _ {S : Type 0} (old new : HashMap HalfKey Half S) (halves : List Half) (half : Half) (stands : StandsFor old halves) where
  -- what is looked up of each key afterwards, by what waits of the key of the half
  kept_is : (left : Option Half) → ((q : HalfKey) → get same_key new q ≡ cond (same_key (key_of half) q) left (get same_key old q))
      → (if is_none (partner halves half) then Some half else None) ≡ left → IfSome left IsHalf → StandsFor new (half ∷ halves)
  kept_is left changed is read = record {
    found = λ q. changed q ∙ ap₂ (λ w o. cond (same_key (key_of half) q) w o) (sym is) (stands.found q);
    read = λ q. subst (λ o. IfSome o IsHalf) (sym (changed q)) (by (same_key (key_of half) q) (get same_key old q) (stands.read q));
  }
    where
      by : (b : Bool) (o : Option Half) → IfSome o IsHalf → IfSome (cond b left o) IsHalf
      by true o h = read
      by false o h = h

  -- what waits of its key is what it joins with
  partner_from : (other : Option Half) → other_of (get same_key old (key_of half)) half ≡ other → partner halves half ≡ other
  partner_from other is = partner_is halves half ∙ (ap (λ o. other_of o half) (sym (stands.found (key_of half))) ∙ is)

  -- it joins, and the key waits no more
  pub has_joined : (key : HalfKey) → key ≡ key_of half → (before : Half) → other_of (get same_key old key) half ≡ Some before
      → ((q : HalfKey) → get same_key new q ≡ cond (same_key key q) None (get same_key old q))
      → (Some before ≡ partner halves half) × StandsFor new (half ∷ halves)
  has_joined key own before other changed =
      let is = partner_from (Some before) (subst (λ k. other_of (get same_key old k) half ≡ Some before) own other) in
      let changed_own : (q : HalfKey) → get same_key new q ≡ cond (same_key (key_of half) q) None (get same_key old q) =
      λ q. subst (λ k. get same_key new q ≡ cond (same_key k q) None (get same_key old q)) own (changed q) in
      (sym is, kept_is None changed_own (ap (λ p. if is_none p then Some half else None) is) tt)

  -- it waits, in place of what waited
  pub has_waited : (key : HalfKey) → key ≡ key_of half → other_of (get same_key old key) half ≡ None → IsHalf half
      → (mid : HashMap HalfKey Half S)
      → ((q : HalfKey) → get same_key mid q ≡ cond (same_key key q) None (get same_key old q))
      → ((q : HalfKey) → get same_key new q ≡ cond (same_key key q) (Some half) (get same_key mid q))
      → (None ≡ partner halves half) × StandsFor new (half ∷ halves)
  has_waited key own none read mid removed changed =
      let is = partner_from None (subst (λ k. other_of (get same_key old k) half ≡ None) own none) in
      let changed_own : (q : HalfKey) → get same_key new q ≡ cond (same_key (key_of half) q) (Some half) (get same_key old q) =
      λ q. subst (λ k. get same_key new q ≡ cond (same_key k q) (Some half) (get same_key old q)) own
      (changed q ∙ (ap (cond (same_key key q) (Some half)) (removed q) ∙ twice (same_key key q) (get same_key old q))) in (
        sym is,
        kept_is (Some half) changed_own
            (ap (λ p. if is_none p then Some half else None) is) read,
      )
    where
      twice : (b : Bool) (o : Option Half) → cond b (Some half) (cond b None o) ≡ cond b (Some half) o
      twice true o = refl
      twice false o = refl

-- ---- how many wait

-- a key of which a half waits is one of the keys
waits_among : (halves : List Half) (q : HalfKey) → (is_member same_key (map key_of halves) q && is_some (waiting halves q)) ≡ is_some (waiting halves q)
waits_among [] q = refl
waits_among (half ∷ earlier) q =
    ap (λ b. (b || is_member same_key (map key_of earlier) q) && is_some (waiting (half ∷ earlier) q)) (same_key-laws.symm q (key_of half))
    ∙ at (same_key (key_of half) q) (if is_none (partner earlier half) then Some half else None) (waits_among earlier q)
  where
    at : (b : Bool) (own : Option Half) → (is_member same_key (map key_of earlier) q && is_some (waiting earlier q)) ≡ is_some (waiting earlier q)
        → ((b || is_member same_key (map key_of earlier) q) && is_some (if b then own else waiting earlier q)) ≡ is_some (if b then own else waiting earlier q)
    at true own ih = refl
    at false own ih = ih

pub waiting_keys_are : {S : Type 0} (kept : HashMap HalfKey Half S) (halves : List Half) → StandsFor kept halves → IsUnique same_key kept → hash_map_len kept ≡ waiting_keys halves
waiting_keys_are kept halves stands unique =
    sym (length-keys_of kept.entries)
    ∙ length-from_keys same_key-laws (keys_of kept.entries) (filter (λ key. is_some (waiting halves key)) (map key_of halves)) unique
    (λ q. sym (is_some-lookup (same_key q) kept.entries) ∙ (ap is_some (stands.found q)
    ∙ (sym (waits_among halves q)
    ∙ sym (is_member-filter same_key-laws (λ key. is_some (waiting halves key)) q (λ x. alike_from_same same_key-Decides (λ key. is_some (waiting halves key)) q x) (map key_of halves)))))

-- what waited was read
pub waited_is_half : {S : Type 0} (kept : HashMap HalfKey Half S) (halves : List Half) (key : HalfKey) (before : Half) → StandsFor kept halves → get same_key kept key ≡ Some before → IsHalf before
waited_is_half kept halves key before stands is = subst (λ o. IfSome o IsHalf) is (stands.read key)
