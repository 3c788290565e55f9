-- Moments that are taken of a clock, and those of the lanes that turn tables.
use Rattle.std.proofs.Common.{◌≡◌, ◌∙◌, ◌⊎◌, inl, inr, ℕ, suc, zero, ◌+◌, ◌*◌, ◌≤◌, List, refl, sym, ap, subst, arith, Option, Some, None}
use Rattle.std.specs.Prelude.{option_map, ◌%◌, ◌==◌, Bool, true, false, if◌then◌else◌, is_some}
use Rattle.std.proofs.Math.Nat.{mul-add}
use Rattle.ptu_outside.specs.{Clocks.{after_first}, Telling.{IfTold}}
use Rattle.ptu_outside.specs.declared.clock.Clock.{Ghosts as Clocks}
use Rattle.ptu_outside.specs.Rounds.{moments_after}
use Rattle.ptu_shared.specs.Turning.{Turns, after_rounds, all_turns, both_turns, no_turns, own_turns, turns_of, with_turn}
use Rattle.ptu_lanes.specs.{Stretches.{HasTurned}, Waiting.{PassedBy, TurnedOwn, one_right, own_below, own_tables, rights}}

-- ---- how often tables were turned

none_more : (turns : Option ℕ) → option_map (λ n. n + 0) turns ≡ turns
none_more None = refl
none_more (Some n) = ap Some (omega arith)

one_more : (rounds : ℕ) (turns : Option ℕ) → option_map (λ n. n + 1) (option_map (λ n. n + rounds) turns) ≡ option_map (λ n. n + (rounds + 1)) turns
one_more rounds None = refl
one_more rounds (Some n) = ap Some (omega arith)

right_stays : (rounds : ℕ) (turns : Option ℕ) → one_right (option_map (λ n. n + rounds) turns) ≡ one_right turns
right_stays rounds None = refl
right_stays rounds (Some n) = refl

pub after_none : (turns : Turns) → after_rounds 0 turns ≡ turns
after_none turns = rw (none_more turns.t0, none_more turns.t1, none_more turns.t2, none_more turns.t3) refl

pub after_more : (rounds : ℕ) (turns : Turns) → after_rounds 1 (after_rounds rounds turns) ≡ after_rounds (rounds + 1) turns
after_more rounds turns = rw (one_more rounds turns.t0, one_more rounds turns.t1, one_more rounds turns.t2, one_more rounds turns.t3) refl

pub rights_stay : (rounds : ℕ) (turns : Turns) → rights (after_rounds rounds turns) ≡ rights turns
rights_stay rounds turns = rw (right_stays rounds turns.t0, right_stays rounds turns.t1, right_stays rounds turns.t2, right_stays rounds turns.t3) refl

-- a table that may not be turned has no count
no_count : (turns : Option ℕ) → is_some turns ≡ false → option_map (λ n. n + 1) turns ≡ turns
no_count None none = refl
no_count (Some n) none = absurd (cc none)

pub without_turn : (table : ℕ) (turns : Turns) → is_some (turns_of table turns) ≡ false → with_turn table turns ≡ turns
without_turn zero turns none = rw (no_count turns.t0 none) refl
without_turn (suc zero) turns none = rw (no_count turns.t1 none) refl
without_turn (suc (suc zero)) turns none = rw (no_count turns.t2 none) refl
without_turn (suc (suc (suc n))) turns none = rw (no_count turns.t3 none) refl

-- ---- moments of a clock

-- moments after two numbers of readings are those after their sum
pub moments_add : (m n : ℕ) (moments : List ℕ) → moments_after (m + n) moments ≡ moments_after n (moments_after m moments)
unfolding moments_after
moments_add zero n moments =
    let e : zero + n ≡ n = omega arith in
    ap (λ k. moments_after k moments) e
moments_add (suc m) n moments =
    let e : suc m + n ≡ suc (m + n) = omega arith in
    ap (λ k. moments_after k moments) e ∙ moments_add m n (after_first moments)

pub passed_none : (told : Option (List ℕ)) → PassedBy 0 told told
unfolding moments_after
passed_none None = tt
passed_none (Some moments) = refl

pub passed_one : (old new : Option (List ℕ)) → IfTold new (option_map after_first old) → PassedBy 1 old new
unfolding moments_after
passed_one old None rest = tt
passed_one None (Some left) rest = absurd (cc rest)
passed_one (Some moments) (Some left) rest = rest

pub passed-append : (m n : ℕ) (old now new : Option (List ℕ)) → PassedBy m old now → PassedBy n now new → PassedBy (m + n) old new
passed-append m n old now None first second = tt
passed-append m n old None (Some left) first second = absurd (cc second)
passed-append m n None (Some middle) (Some left) first second = absurd (cc first)
passed-append m n (Some moments) (Some middle) (Some left) first second =
    let one : moments_after m moments ≡ middle = cc first in
    let two : moments_after n middle ≡ left = cc second in
    ap Some (moments_add m n moments ∙ ap (moments_after n) one ∙ two)

pub passed_as : (m n : ℕ) (old new : Option (List ℕ)) → m ≡ n → PassedBy m old new → PassedBy n old new
passed_as m n old new is passed = subst (λ k. PassedBy k old new) is passed

-- ---- lanes that turn tables

module _ {C : Type 0} (clocks : Clocks C) where
  pub turned_none : (clock : C) (turns : Turns) → HasTurned clocks 0 clock clock turns turns
  turned_none clock turns = record {
    moments = passed_as 0 (rights turns * 0) _ _ (omega arith) (passed_none (clocks.moments clock));
    turned = sym (after_none turns);
  }

  pub turned_more : (rounds : ℕ) (old now new : C) (turns turns' turns'' : Turns) → HasTurned clocks rounds old now turns turns' →
      PassedBy (rights turns') (clocks.moments now) (clocks.moments new) → turns'' ≡ after_rounds 1 turns' → HasTurned clocks (rounds + 1) old new turns turns''
  turned_more rounds old now new turns turns' turns'' p q r =
      let same : rights turns' ≡ rights turns = ap rights p.turned ∙ rights_stay rounds turns in
      let all : rights turns * rounds + rights turns ≡ rights turns * (rounds + 1) = sym (mul-add (rights turns) rounds 1 ∙ one (rights turns) rounds) in
      record {
        moments = passed_as (rights turns * rounds + rights turns) (rights turns * (rounds + 1)) _ _ all
            (passed-append (rights turns * rounds) (rights turns) (clocks.moments old) (clocks.moments now) (clocks.moments new) p.moments (passed_as (rights turns') (rights turns) _ _ same q));
        turned = r ∙ ap (after_rounds 1) p.turned ∙ after_more rounds turns;
      }
    where
      one : (m n : ℕ) → m * n + m * 1 ≡ m * n + m
      one m n = omega arith

  pub turned_idle : (rounds : ℕ) (clock : C) (turns : Turns) → turns ≡ no_turns → HasTurned clocks rounds clock clock turns turns
  turned_idle rounds clock turns none = subst (λ t. HasTurned clocks rounds clock clock t t) (sym none) (record {
    moments = passed_as 0 (rights no_turns * rounds) _ _ (omega arith) (passed_none (clocks.moments clock));
    turned = refl;
  })

-- a lane that did so many rounds, or turns nothing, turned its tables in each of them
none_behind : (rounds : ℕ) (turns : Option ℕ) → option_map (λ n. n + rounds) turns ≡ None → turns ≡ None
none_behind rounds None is = refl
none_behind rounds (Some n) is = absurd (cc is)

no_turns_behind : (rounds : ℕ) (turns : Turns) → after_rounds rounds turns ≡ no_turns → turns ≡ no_turns
no_turns_behind rounds turns is =
    rw (
      none_behind rounds turns.t0 (ap (λ (t : Turns). t.t0) is),
      none_behind rounds turns.t1 (ap (λ (t : Turns). t.t1) is),
      none_behind rounds turns.t2 (ap (λ (t : Turns). t.t2) is),
      none_behind rounds turns.t3 (ap (λ (t : Turns). t.t3) is),
    ) refl

pub turned_with : {C : Type 0} (clocks : Clocks C) (rounds done : ℕ) (clock clock' : C) (turns turns' : Turns) → HasTurned clocks done clock clock' turns turns' →
    (turns' ≡ no_turns) ⊎ (done ≡ rounds) → HasTurned clocks rounds clock clock' turns turns'
turned_with clocks rounds done clock clock' turns turns' h (inr is) = subst (λ n. HasTurned clocks n clock clock' turns turns') is h
turned_with clocks rounds done clock clock' turns turns' h (inl none) =
    let nothing : turns ≡ no_turns = no_turns_behind done turns (sym h.turned ∙ none) in
    let no_rights : rights turns ≡ 0 = ap rights nothing in
    let none_of : 0 * done ≡ 0 * rounds = omega arith in
    record {
      moments = passed_as (rights turns * done) (rights turns * rounds) (clocks.moments clock) (clocks.moments clock')
          (ap (λ n. n * done) no_rights ∙ none_of ∙ sym (ap (λ n. n * rounds) no_rights)) h.moments;
      turned = none ∙ sym (ap (after_rounds rounds) nothing);
    }

-- a lane that has its part of all rights turns its tables, each at a new moment of its clock
right_of : (own : Bool) → one_right (if own then Some 0 else None) ≡ (if own then 1 else 0)
right_of true = refl
right_of false = refl

pub rights_own : (lanes lane : ℕ) → rights (own_turns lanes lane all_turns) ≡ own_tables lanes lane
unfolding own_below
rights_own lanes lane = rw (right_of (0 % lanes == lane), right_of (1 % lanes == lane), right_of (2 % lanes == lane), right_of (3 % lanes == lane)) refl

-- the counts of four lanes, of which so many share the tables
pub again : (lanes rounds : ℕ) → 1 ≤ lanes → lanes ≤ 4 →
    both_turns (after_rounds rounds (own_turns lanes 0 all_turns))
    (both_turns (after_rounds rounds (own_turns lanes 1 all_turns)) (both_turns (after_rounds rounds (own_turns lanes 2 all_turns)) (after_rounds rounds (own_turns lanes 3 all_turns))))
    ≡ after_rounds rounds all_turns
again zero rounds some few = absurd (omega (arith, some))
again (suc zero) rounds some few = refl
again (suc (suc zero)) rounds some few = refl
again (suc (suc (suc zero))) rounds some few = refl
again (suc (suc (suc (suc zero)))) rounds some few = refl
again (suc (suc (suc (suc (suc lanes))))) rounds some few = absurd (omega (arith, few))

-- the counts of lanes that have their parts of all rights, and the moments that they took
pub own_rounds : {C : Type 0} (clocks : Clocks C) (lanes lane rounds : ℕ) (clock clock' : C) (turns turns' : Turns) → turns ≡ own_turns lanes lane all_turns →
    HasTurned clocks rounds clock clock' turns turns' → TurnedOwn clocks lanes lane rounds clock clock'
own_rounds clocks lanes lane rounds clock clock' turns turns' own h =
    passed_as (rights turns * rounds) (own_tables lanes lane * rounds) _ _ (ap (λ n. n * rounds) (ap rights own ∙ rights_own lanes lane)) h.moments

pub all_rounds_of : {C : Type 0} (clocks : Clocks C) (lanes rounds : ℕ) (a0 a1 a2 a3 b0 b1 b2 b3 : C) (s0 s1 s2 s3 t0 t1 t2 t3 : Turns) → 1 ≤ lanes → lanes ≤ 4 →
    s0 ≡ own_turns lanes 0 all_turns → s1 ≡ own_turns lanes 1 all_turns → s2 ≡ own_turns lanes 2 all_turns → s3 ≡ own_turns lanes 3 all_turns →
    HasTurned clocks rounds a0 b0 s0 t0 → HasTurned clocks rounds a1 b1 s1 t1 → HasTurned clocks rounds a2 b2 s2 t2 → HasTurned clocks rounds a3 b3 s3 t3 →
    both_turns t0 (both_turns t1 (both_turns t2 t3)) ≡ after_rounds rounds all_turns
all_rounds_of clocks lanes rounds a0 a1 a2 a3 b0 b1 b2 b3 s0 s1 s2 s3 t0 t1 t2 t3 some few e0 e1 e2 e3 h0 h1 h2 h3 =
    let r0 : t0 ≡ after_rounds rounds (own_turns lanes 0 all_turns) = h0.turned ∙ ap (after_rounds rounds) e0 in
    let r1 : t1 ≡ after_rounds rounds (own_turns lanes 1 all_turns) = h1.turned ∙ ap (after_rounds rounds) e1 in
    let r2 : t2 ≡ after_rounds rounds (own_turns lanes 2 all_turns) = h2.turned ∙ ap (after_rounds rounds) e2 in
    let r3 : t3 ≡ after_rounds rounds (own_turns lanes 3 all_turns) = h3.turned ∙ ap (after_rounds rounds) e3 in
    rw (r0, r1, r2, r3) (again lanes rounds some few)
