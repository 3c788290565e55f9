use Rattle.std.proofs.Common.{◌≡◌, ◌∙◌, ap, max, [], ◌∷◌, refl, sym, arith}
use Rattle.ptu_admit.specs.Lent.{lent_as}
use Rattle.ptu_units.specs.Client.{table_of}
use Rattle.ptu_history.specs.Core.{table_step_moment}
use Rattle.ptu_shard.specs.Turn.{is_answering_row}
use Rattle.ptu_grandmaster.proofs.{After.{after_delay}, OneTable.{delay_on, shares_spent}}
use Rattle.ptu_grandmaster.proofs.gm.Gm.answer_delay.Goals as goal

pub invariant_of-self : goal.invariant_of-self
invariant_of-self g c =
    c.self.invariant ∙ sym (shares_spent (is_answering_row c.answer_delay.new.self.moment c.args.client.now) c.answer_delay.new.self.moment 0 [] c.self.inside.s0 c.answer_delay.new.self (lent_as 1 c.self.inside.s1 ∷ lent_as 2 c.self.inside.s2 ∷ lent_as 3 c.self.inside.s3 ∷ []) c.answer_delay.ensures.rows)

pub returns-in-0-clause-met : goal.returns-in-0-clause-met
returns-in-0-clause-met g c =
    rw (← c.self.view_is) (λ opening history s. let p = delay_on c.self.inside.config c.args.t c.self.inside.s0 c.answer_delay.new.self c.self.inside.book c.answer_delay.new.self.moment
    (c.answer_delay.ensures.moment ∙ ap (λ m. max m c.self.inside.s0.moment) (c.latest-t.ensures ∙ ap (λ m. max c.args.t m) c.now.ensures))
    c.args.client.now c.answer_delay.result [] (lent_as 1 c.self.inside.s1 ∷ lent_as 2 c.self.inside.s2 ∷ lent_as 3 c.self.inside.s3 ∷ []) 0 (sym c.table_of.ensures.value ∙ c.in-0.is) refl c.answer_delay.ensures.rows c.answer_delay.ensures.met c.answer_delay.ensures.stands opening history s.decided in
    (c.answer_delay.ensures.at ∙ sym c.answer_delay.ensures.moment ∙ p.0, p.1))

pub returns-in-0-clause-stands : goal.returns-in-0-clause-stands
returns-in-0-clause-stands g c =
    rw (← c.self.view_is) (λ opening history s. let p = delay_on c.self.inside.config c.args.t c.self.inside.s0 c.answer_delay.new.self c.self.inside.book c.answer_delay.new.self.moment
    (c.answer_delay.ensures.moment ∙ ap (λ m. max m c.self.inside.s0.moment) (c.latest-t.ensures ∙ ap (λ m. max c.args.t m) c.now.ensures))
    c.args.client.now c.answer_delay.result [] (lent_as 1 c.self.inside.s1 ∷ lent_as 2 c.self.inside.s2 ∷ lent_as 3 c.self.inside.s3 ∷ []) 0 (sym c.table_of.ensures.value ∙ c.in-0.is) refl c.answer_delay.ensures.rows c.answer_delay.ensures.met c.answer_delay.ensures.stands opening history s.decided in
    after_delay opening _ _ history s (record { granted = refl; refused = refl; sequence = refl }) (table_step_moment history c.args.t (table_of c.args.client.now)) c.args.client.now p.2)

pub invariant_of-self-in-1 : goal.invariant_of-self-in-1
invariant_of-self-in-1 g c =
    c.self.invariant ∙ sym (shares_spent (is_answering_row c.answer_delay-in-1.new.self.moment c.args.client.now) c.answer_delay-in-1.new.self.moment 1 (lent_as 0 c.self.inside.s0 ∷ []) c.self.inside.s1 c.answer_delay-in-1.new.self (lent_as 2 c.self.inside.s2 ∷ lent_as 3 c.self.inside.s3 ∷ []) c.answer_delay-in-1.ensures.rows)

pub returns-in-1-clause-met : goal.returns-in-1-clause-met
returns-in-1-clause-met g c =
    rw (← c.self.view_is) (λ opening history s. let p = delay_on c.self.inside.config c.args.t c.self.inside.s1 c.answer_delay-in-1.new.self c.self.inside.book c.answer_delay-in-1.new.self.moment
    (c.answer_delay-in-1.ensures.moment ∙ ap (λ m. max m c.self.inside.s1.moment) (c.latest-t.ensures ∙ ap (λ m. max c.args.t m) c.now.ensures))
    c.args.client.now c.answer_delay-in-1.result (lent_as 0 c.self.inside.s0 ∷ []) (lent_as 2 c.self.inside.s2 ∷ lent_as 3 c.self.inside.s3 ∷ []) 1 (sym c.table_of.ensures.value ∙ c.in-1.is) refl c.answer_delay-in-1.ensures.rows c.answer_delay-in-1.ensures.met c.answer_delay-in-1.ensures.stands opening history s.decided in
    (c.answer_delay-in-1.ensures.at ∙ sym c.answer_delay-in-1.ensures.moment ∙ p.0, p.1))

pub returns-in-1-clause-stands : goal.returns-in-1-clause-stands
returns-in-1-clause-stands g c =
    rw (← c.self.view_is) (λ opening history s. let p = delay_on c.self.inside.config c.args.t c.self.inside.s1 c.answer_delay-in-1.new.self c.self.inside.book c.answer_delay-in-1.new.self.moment
    (c.answer_delay-in-1.ensures.moment ∙ ap (λ m. max m c.self.inside.s1.moment) (c.latest-t.ensures ∙ ap (λ m. max c.args.t m) c.now.ensures))
    c.args.client.now c.answer_delay-in-1.result (lent_as 0 c.self.inside.s0 ∷ []) (lent_as 2 c.self.inside.s2 ∷ lent_as 3 c.self.inside.s3 ∷ []) 1 (sym c.table_of.ensures.value ∙ c.in-1.is) refl c.answer_delay-in-1.ensures.rows c.answer_delay-in-1.ensures.met c.answer_delay-in-1.ensures.stands opening history s.decided in
    after_delay opening _ _ history s (record { granted = refl; refused = refl; sequence = refl }) (table_step_moment history c.args.t (table_of c.args.client.now)) c.args.client.now p.2)

pub invariant_of-self-in-2 : goal.invariant_of-self-in-2
invariant_of-self-in-2 g c =
    c.self.invariant ∙ sym (shares_spent (is_answering_row c.answer_delay-in-2.new.self.moment c.args.client.now) c.answer_delay-in-2.new.self.moment 2 (lent_as 0 c.self.inside.s0 ∷ lent_as 1 c.self.inside.s1 ∷ []) c.self.inside.s2 c.answer_delay-in-2.new.self (lent_as 3 c.self.inside.s3 ∷ []) c.answer_delay-in-2.ensures.rows)

pub returns-in-2-clause-met : goal.returns-in-2-clause-met
returns-in-2-clause-met g c =
    rw (← c.self.view_is) (λ opening history s. let p = delay_on c.self.inside.config c.args.t c.self.inside.s2 c.answer_delay-in-2.new.self c.self.inside.book c.answer_delay-in-2.new.self.moment
    (c.answer_delay-in-2.ensures.moment ∙ ap (λ m. max m c.self.inside.s2.moment) (c.latest-t.ensures ∙ ap (λ m. max c.args.t m) c.now.ensures))
    c.args.client.now c.answer_delay-in-2.result (lent_as 0 c.self.inside.s0 ∷ lent_as 1 c.self.inside.s1 ∷ []) (lent_as 3 c.self.inside.s3 ∷ []) 2 (sym c.table_of.ensures.value ∙ c.in-2.is) refl c.answer_delay-in-2.ensures.rows c.answer_delay-in-2.ensures.met c.answer_delay-in-2.ensures.stands opening history s.decided in
    (c.answer_delay-in-2.ensures.at ∙ sym c.answer_delay-in-2.ensures.moment ∙ p.0, p.1))

pub returns-in-2-clause-stands : goal.returns-in-2-clause-stands
returns-in-2-clause-stands g c =
    rw (← c.self.view_is) (λ opening history s. let p = delay_on c.self.inside.config c.args.t c.self.inside.s2 c.answer_delay-in-2.new.self c.self.inside.book c.answer_delay-in-2.new.self.moment
    (c.answer_delay-in-2.ensures.moment ∙ ap (λ m. max m c.self.inside.s2.moment) (c.latest-t.ensures ∙ ap (λ m. max c.args.t m) c.now.ensures))
    c.args.client.now c.answer_delay-in-2.result (lent_as 0 c.self.inside.s0 ∷ lent_as 1 c.self.inside.s1 ∷ []) (lent_as 3 c.self.inside.s3 ∷ []) 2 (sym c.table_of.ensures.value ∙ c.in-2.is) refl c.answer_delay-in-2.ensures.rows c.answer_delay-in-2.ensures.met c.answer_delay-in-2.ensures.stands opening history s.decided in
    after_delay opening _ _ history s (record { granted = refl; refused = refl; sequence = refl }) (table_step_moment history c.args.t (table_of c.args.client.now)) c.args.client.now p.2)

pub invariant_of-self-in_default : goal.invariant_of-self-in_default
invariant_of-self-in_default g c =
    c.self.invariant ∙ sym (shares_spent (is_answering_row c.answer_delay-in_default.new.self.moment c.args.client.now) c.answer_delay-in_default.new.self.moment 3 (lent_as 0 c.self.inside.s0 ∷ lent_as 1 c.self.inside.s1 ∷ lent_as 2 c.self.inside.s2 ∷ []) c.self.inside.s3 c.answer_delay-in_default.new.self [] c.answer_delay-in_default.ensures.rows)

pub returns-in_default-clause-met : goal.returns-in_default-clause-met
returns-in_default-clause-met g c =
    rw (← c.self.view_is) (λ opening history s. let p = delay_on c.self.inside.config c.args.t c.self.inside.s3 c.answer_delay-in_default.new.self c.self.inside.book c.answer_delay-in_default.new.self.moment
    (c.answer_delay-in_default.ensures.moment ∙ ap (λ m. max m c.self.inside.s3.moment) (c.latest-t.ensures ∙ ap (λ m. max c.args.t m) c.now.ensures))
    c.args.client.now c.answer_delay-in_default.result (lent_as 0 c.self.inside.s0 ∷ lent_as 1 c.self.inside.s1 ∷ lent_as 2 c.self.inside.s2 ∷ []) ([]) 3 (sym c.table_of.ensures.value ∙ (let last : c.table_of.result ≡ 3 = omega (arith, c.table_of.ensures.below) in last)) refl c.answer_delay-in_default.ensures.rows c.answer_delay-in_default.ensures.met c.answer_delay-in_default.ensures.stands opening history s.decided in
    (c.answer_delay-in_default.ensures.at ∙ sym c.answer_delay-in_default.ensures.moment ∙ p.0, p.1))

pub returns-in_default-clause-stands : goal.returns-in_default-clause-stands
returns-in_default-clause-stands g c =
    rw (← c.self.view_is) (λ opening history s. let p = delay_on c.self.inside.config c.args.t c.self.inside.s3 c.answer_delay-in_default.new.self c.self.inside.book c.answer_delay-in_default.new.self.moment
    (c.answer_delay-in_default.ensures.moment ∙ ap (λ m. max m c.self.inside.s3.moment) (c.latest-t.ensures ∙ ap (λ m. max c.args.t m) c.now.ensures))
    c.args.client.now c.answer_delay-in_default.result (lent_as 0 c.self.inside.s0 ∷ lent_as 1 c.self.inside.s1 ∷ lent_as 2 c.self.inside.s2 ∷ []) ([]) 3 (sym c.table_of.ensures.value ∙ (let last : c.table_of.result ≡ 3 = omega (arith, c.table_of.ensures.below) in last)) refl c.answer_delay-in_default.ensures.rows c.answer_delay-in_default.ensures.met c.answer_delay-in_default.ensures.stands opening history s.decided in
    after_delay opening _ _ history s (record { granted = refl; refused = refl; sequence = refl }) (table_step_moment history c.args.t (table_of c.args.client.now)) c.args.client.now p.2)
