-- Things that happen each at a new moment.
use Rattle.std.proofs.Common.{◌≡◌, ◌≢◌, ◌∙◌, ℕ, zero, suc, ◌+◌, ◌++◌, List, [], ◌∷◌, length, refl, sym, ap, ap₂, arith, length-append, Option, Some, None}
use Rattle.std.specs.Prelude.{option_map}
use Rattle.ptu_outside.specs.{Clocks.{after_first}, Telling.{IfTold, IsFirstTold}}
use Rattle.ptu_outside.specs.Rounds.{moments_after, next_of, timed}
use Rattle.ptu_slave_daemon.specs.{Happenings.{SlaveHappening}, Running.{AreTimed}}

pub moments_after-zero : (times : List ℕ) → moments_after 0 times ≡ times
unfolding moments_after
moments_after-zero times = refl

pub moments_after-suc : (n : ℕ) (times : List ℕ) → moments_after (suc n) times ≡ moments_after n (after_first times)
unfolding moments_after
moments_after-suc n times = refl

pub timed-nil : (times : List ℕ) → timed {A = SlaveHappening} times [] ≡ []
unfolding timed
timed-nil times = refl

pub timed-cons : (times : List ℕ) (act : ℕ → SlaveHappening) (acts : List (ℕ → SlaveHappening)) → timed times (act ∷ acts) ≡ act (next_of times) ∷ timed (after_first times) acts
unfolding timed
timed-cons times act acts = refl

pub moments_after-add : (m n : ℕ) (times : List ℕ) → moments_after n (moments_after m times) ≡ moments_after (m + n) times
moments_after-add zero n times = ap (moments_after n) (moments_after-zero times) ∙ ap (λ k. moments_after k times) (omega arith)
moments_after-add (suc m) n times =
    ap (moments_after n) (moments_after-suc m times) ∙ moments_after-add m n (after_first times) ∙ sym (moments_after-suc (m + n) times)
    ∙ ap (λ k. moments_after k times) (omega arith)

pub timed-append : (times : List ℕ) (acts more : List (ℕ → SlaveHappening)) → timed times (acts ++ more) ≡ timed times acts ++ timed (moments_after (length acts) times) more
timed-append times [] more = sym (ap (λ l. l ++ timed (moments_after 0 times) more) (timed-nil times) ∙ ap (λ ts. timed ts more) (moments_after-zero times))
timed-append times (act ∷ acts) more =
    timed-cons times act (acts ++ more) ∙ ap (λ l. act (next_of times) ∷ l) (timed-append (after_first times) acts more)
    ∙ sym (ap₂ (λ l ts. l ++ timed ts more) (timed-cons times act acts) (moments_after-suc (length acts) times))

-- ---- as far as the clock tells

pub timed_none : (told : Option (List ℕ)) → AreTimed told told [] []
timed_none None = tt
timed_none (Some times) = (times, refl, sym (timed-nil times), sym (moments_after-zero times))

pub timed_more : (before now after : Option (List ℕ)) (acts more : List (ℕ → SlaveHappening)) (hs ks : List SlaveHappening)
    → AreTimed before now acts hs → AreTimed now after more ks → AreTimed before after (acts ++ more) (hs ++ ks)
timed_more before now None acts more hs ks p q = tt
timed_more before None (Some later) acts more hs ks p q = absurd (cc (q.1))
timed_more before (Some middle) (Some later) acts more hs ks p q =
    let same : middle ≡ q.0 = cc (q.1) in
    let reached : q.0 ≡ moments_after (length acts) p.0 = sym same ∙ p.3 in (
      p.0,
      p.1,
      ap₂ (λ l m. l ++ m) p.2 (q.2 ∙ ap (λ ts. timed ts more) reached) ∙ sym (timed-append p.0 acts more),
      q.3 ∙ ap (moments_after (length more)) reached ∙ moments_after-add (length acts) (length more) p.0 ∙ ap (λ n. moments_after n p.0) (sym (length-append acts more)),
    )

-- one thing at the moment that a clock answers
pub timed_one : (before after : Option (List ℕ)) (at : ℕ) (act : ℕ → SlaveHappening) → before ≢ Some [] → IsFirstTold before at → IfTold after (option_map after_first before)
    → AreTimed before after (act ∷ []) (act at ∷ [])
timed_one before None at act never first rest = tt
timed_one None (Some later) at act never first rest = absurd (cc rest)
timed_one (Some []) (Some later) at act never first rest = absurd (never refl)
timed_one (Some (time ∷ times)) (Some later) at act never first rest =
    let is : time ≡ at = cc first in
    let left : after_first (time ∷ times) ≡ later = cc rest in (
      time ∷ times,
      refl,
      ap (λ t. act t ∷ []) (sym is) ∙ sym (timed-cons (time ∷ times) act [] ∙ ap (λ l. act time ∷ l) (timed-nil (after_first (time ∷ times)))),
      sym left ∙ sym (moments_after-suc 0 (time ∷ times) ∙ moments_after-zero (after_first (time ∷ times))),
    )
