-- Pools are refused for one cause.
use Rattle.std.proofs.Common.{◌≡◌, ℕ, ◌<◌, ◌≤◌, List, Option, Some, None, refl, sym, ap, ap₂, subst, ◌∙◌, arith}
use Rattle.ptu_pool_run.specs.declared.pools_fault.PoolsFault.{PoolsFault}
use Rattle.ptu_pool_run.specs.declared.pools_fault.PoolsFault.TheVariants.{Net, Overlap as Overlapping, Over, OutOfMemory}
use Rattle.ptu_pool_run.specs.{declared.pool.Pool.{Pool}, Pool.{AreApart, Overlap}}
use Rattle.ptu_pool_run.specs.Refusal.{IsFirstOverlap, IsRefused, Share, first_wrong}

clash : {A : Type 0} (o : Option ℕ) (i : ℕ) → o ≡ None → o ≡ Some i → A
clash o i none some = let e : Some i ≡ None = sym some ∙ none in absurd cc

le_both : (a b : ℕ) → a ≤ b → b ≤ a → a ≡ b
le_both a b h k = omega arith

first_is : (pools : List Pool) (a b i j : ℕ) → IsFirstOverlap pools a b → IsFirstOverlap pools i j → (a ≡ i) × (b ≡ j)
first_is pools a b i j f g =
    let second : b ≡ j = le_both b j (f.least_second i j g.overlap) (g.least_second a b f.overlap) in
    let g' : IsFirstOverlap pools i b = subst (IsFirstOverlap pools i) (sym second) g in
    (le_both a i (f.least_first i g'.overlap) (g'.least_first a f.overlap), second)

pub none_refused : (capacity : ℕ) (pools : List Pool) (fault : PoolsFault) → Share capacity pools → IsRefused capacity pools fault → fault ≡ OutOfMemory
none_refused capacity pools (Net at) share r = clash (first_wrong pools) at share.networks r
none_refused capacity pools (Overlapping first second) share r = absurd (share.apart first second r.1.overlap)
none_refused capacity pools (Over sum) share r = let within = share.within in absurd (omega (arith, within, r.2, r.3))
none_refused capacity pools OutOfMemory share r = refl

pub one_refused : (capacity : ℕ) (pools : List Pool) (a b : PoolsFault) → IsRefused capacity pools a → IsRefused capacity pools b → a ≡ b
one_refused capacity pools OutOfMemory b share r = sym (none_refused capacity pools b share r)
one_refused capacity pools (Net at) OutOfMemory r share = none_refused capacity pools (Net at) share r
one_refused capacity pools (Net at) (Net i) r s = let e : Some at ≡ Some i = sym r ∙ s in let same : at ≡ i = cc in ap (λ k. Net k) same
one_refused capacity pools (Net at) (Overlapping first second) r s = clash (first_wrong pools) at s.0 r
one_refused capacity pools (Net at) (Over sum) r s = clash (first_wrong pools) at s.0 r
one_refused capacity pools (Overlapping i j) OutOfMemory r share = none_refused capacity pools (Overlapping i j) share r
one_refused capacity pools (Overlapping i j) (Net at) r s = clash (first_wrong pools) at r.0 s
one_refused capacity pools (Overlapping i j) (Overlapping first second) r s = let same = first_is pools i j first second r.1 s.1 in ap₂ (λ a b. Overlapping a b) same.0 same.1
one_refused capacity pools (Overlapping i j) (Over sum) r s = absurd (s.1 i j r.1.overlap)
one_refused capacity pools (Over sum) OutOfMemory r share = none_refused capacity pools (Over sum) share r
one_refused capacity pools (Over sum) (Net at) r s = clash (first_wrong pools) at r.0 s
one_refused capacity pools (Over sum) (Overlapping i j) r s = absurd (r.1 i j s.1.overlap)
one_refused capacity pools (Over sum) (Over other) r s = ap (λ n. Over n) (r.2 ∙ sym s.2)
