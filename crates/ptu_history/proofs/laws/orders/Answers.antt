use Rattle.std.proofs.Common.{◌≡◌, ◌∙◌, ℕ, ◌<◌, cond, eqb, refl, sym, ap, arith}
use Rattle.std.specs.{Ordering.{nat_cmp, ordering_then}, declared.cmp.Ordering.{Ordering}}
use Rattle.std.specs.declared.cmp.Ordering.TheVariants.{Less, Equal, Greater}
use Rattle.std.proofs.lemmas.Bool.{eq-eqb, le-ltb, lt-ltb}
use Rattle.ptu_units.specs.{declared.client.Client.{Client}, Client.{client_cmp}}
use Rattle.ptu_history.proofs.laws.orders.Goals as goal

then_first : (a b : Ordering) → a ≡ Less → ordering_then a b ≡ Less
then_first a b e = ap (λ o. ordering_then o b) e

then_second : (a b : Ordering) → a ≡ Equal → b ≡ Less → ordering_then a b ≡ Less
then_second a b e f = ap (λ o. ordering_then o b) e ∙ f

below : (m n : ℕ) → m < n → nat_cmp m n ≡ Less
below m n lt = ap (λ b. cond b Less (cond (eqb m n) Equal Greater)) (lt-ltb m n lt)

own_tie : (n : ℕ) → nat_cmp n n ≡ Equal
own_tie n = ap (λ b. cond b Less (cond (eqb n n) Equal Greater)) (le-ltb n n (omega arith)) ∙ ap (λ b. cond b Equal Greater) (eq-eqb n n refl)

tie : (m n : ℕ) → m ≡ n → nat_cmp m n ≡ Equal
tie m n e = ap (λ i. nat_cmp m i) (sym e) ∙ own_tie m

own_client : (c : Client) → client_cmp c c ≡ Equal
own_client c =
    ap (λ o. ordering_then o (ordering_then (nat_cmp c.clock c.clock) (nat_cmp c.port c.port))) (own_tie c.ip)
    ∙ ap (λ o. ordering_then o (nat_cmp c.port c.port)) (own_tie c.clock)
    ∙ own_tie c.port

one_client : (c d : Client) → c ≡ d → client_cmp c d ≡ Equal
one_client c d e = ap (λ f. client_cmp c f) (sym e) ∙ own_client c

pub returns : goal.returns
returns _ = record {
  turn_earliest = λ history a b before. then_first _ _ (below _ _ before);
  turn_client = λ history a b same less. then_second _ _ (tie _ _ same) (then_first _ _ less);
  turn_kind = λ history a b same client less. then_second _ _ (tie _ _ same) (then_second _ _ (one_client a.client b.client client) less);
  shed_latest = λ a b later. then_first _ _ (below b.start a.start later);
  shed_client = λ a b same less. then_second _ _ (tie b.start a.start (sym same)) (then_first _ _ less);
  shed_kind = λ a b same client less. then_second _ _ (tie b.start a.start (sym same)) (then_second _ _ (one_client b.client a.client (sym client)) less);
  by_ip = λ c d before. then_first _ _ (below c.ip d.ip before);
  by_clock = λ c d same before. then_second _ _ (tie c.ip d.ip same) (then_first _ _ (below c.clock d.clock before));
  by_port = λ c d same clock before. then_second _ _ (tie c.ip d.ip same) (then_second _ _ (tie c.clock d.clock clock) (below c.port d.port before));
  announce_first = refl;
  delay_resp_last = refl;
}
