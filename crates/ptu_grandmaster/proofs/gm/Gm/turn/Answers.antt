use Rattle.std.proofs.Common.{◌≡◌, ◌∙◌, ap, max, [], ◌∷◌, refl, sym, arith}
use Rattle.ptu_admit.specs.Lent.{lent_as}
use Rattle.ptu_history.specs.Core.{table_step_moment}
use Rattle.ptu_shard.specs.Turn.{is_due_row}
use Rattle.ptu_grandmaster.proofs.{After.{after_turn}, OneTable.{shares_spent, turn_on}}
use Rattle.ptu_grandmaster.proofs.gm.Gm.turn.Goals as goal

pub invariant_of-self : goal.invariant_of-self
invariant_of-self g c =
    c.self.invariant ∙ sym (shares_spent (is_due_row c.turn.result.at) c.turn.result.at 0 [] c.self.inside.s0 c.turn.new.self (lent_as 1 c.self.inside.s1 ∷ lent_as 2 c.self.inside.s2 ∷ lent_as 3 c.self.inside.s3 ∷ []) c.turn.ensures.rows)

pub returns-in-0-clause-messages : goal.returns-in-0-clause-messages
returns-in-0-clause-messages g c =
    rw (c.in-0.is, ← c.self.view_is) (λ opening history s. let p = turn_on c.self.inside.config c.args.t c.self.inside.s0 c.turn.new.self c.self.inside.book c.turn.result.at
    (c.turn.ensures.at ∙ ap (λ m. max m c.self.inside.s0.moment) (c.latest-t.ensures ∙ ap (λ m. max c.args.t m) c.now.ensures))
    0 [] (lent_as 1 c.self.inside.s1 ∷ lent_as 2 c.self.inside.s2 ∷ lent_as 3 c.self.inside.s3 ∷ []) refl c.turn.ensures.rows c.turn.ensures.messages c.turn.ensures.stands opening history s.decided in (p.0, p.1))

pub returns-in-0-clause-stands : goal.returns-in-0-clause-stands
returns-in-0-clause-stands g c =
    rw (c.in-0.is, ← c.self.view_is) (λ opening history s. let p = turn_on c.self.inside.config c.args.t c.self.inside.s0 c.turn.new.self c.self.inside.book c.turn.result.at
    (c.turn.ensures.at ∙ ap (λ m. max m c.self.inside.s0.moment) (c.latest-t.ensures ∙ ap (λ m. max c.args.t m) c.now.ensures))
    0 [] (lent_as 1 c.self.inside.s1 ∷ lent_as 2 c.self.inside.s2 ∷ lent_as 3 c.self.inside.s3 ∷ []) refl c.turn.ensures.rows c.turn.ensures.messages c.turn.ensures.stands opening history s.decided in
    after_turn opening _ _ history s (record { granted = refl; refused = refl; sequence = refl }) (table_step_moment history c.args.t 0) 0 p.2)

pub invariant_of-self-in-1 : goal.invariant_of-self-in-1
invariant_of-self-in-1 g c =
    c.self.invariant ∙ sym (shares_spent (is_due_row c.turn-in-1.result.at) c.turn-in-1.result.at 1 (lent_as 0 c.self.inside.s0 ∷ []) c.self.inside.s1 c.turn-in-1.new.self (lent_as 2 c.self.inside.s2 ∷ lent_as 3 c.self.inside.s3 ∷ []) c.turn-in-1.ensures.rows)

pub returns-in-1-clause-messages : goal.returns-in-1-clause-messages
returns-in-1-clause-messages g c =
    rw (c.in-1.is, ← c.self.view_is) (λ opening history s. let p = turn_on c.self.inside.config c.args.t c.self.inside.s1 c.turn-in-1.new.self c.self.inside.book c.turn-in-1.result.at
    (c.turn-in-1.ensures.at ∙ ap (λ m. max m c.self.inside.s1.moment) (c.latest-t.ensures ∙ ap (λ m. max c.args.t m) c.now.ensures))
    1 (lent_as 0 c.self.inside.s0 ∷ []) (lent_as 2 c.self.inside.s2 ∷ lent_as 3 c.self.inside.s3 ∷ []) refl c.turn-in-1.ensures.rows c.turn-in-1.ensures.messages c.turn-in-1.ensures.stands opening history s.decided in (p.0, p.1))

pub returns-in-1-clause-stands : goal.returns-in-1-clause-stands
returns-in-1-clause-stands g c =
    rw (c.in-1.is, ← c.self.view_is) (λ opening history s. let p = turn_on c.self.inside.config c.args.t c.self.inside.s1 c.turn-in-1.new.self c.self.inside.book c.turn-in-1.result.at
    (c.turn-in-1.ensures.at ∙ ap (λ m. max m c.self.inside.s1.moment) (c.latest-t.ensures ∙ ap (λ m. max c.args.t m) c.now.ensures))
    1 (lent_as 0 c.self.inside.s0 ∷ []) (lent_as 2 c.self.inside.s2 ∷ lent_as 3 c.self.inside.s3 ∷ []) refl c.turn-in-1.ensures.rows c.turn-in-1.ensures.messages c.turn-in-1.ensures.stands opening history s.decided in
    after_turn opening _ _ history s (record { granted = refl; refused = refl; sequence = refl }) (table_step_moment history c.args.t 1) 1 p.2)

pub invariant_of-self-in-2 : goal.invariant_of-self-in-2
invariant_of-self-in-2 g c =
    c.self.invariant ∙ sym (shares_spent (is_due_row c.turn-in-2.result.at) c.turn-in-2.result.at 2 (lent_as 0 c.self.inside.s0 ∷ lent_as 1 c.self.inside.s1 ∷ []) c.self.inside.s2 c.turn-in-2.new.self (lent_as 3 c.self.inside.s3 ∷ []) c.turn-in-2.ensures.rows)

pub returns-in-2-clause-messages : goal.returns-in-2-clause-messages
returns-in-2-clause-messages g c =
    rw (c.in-2.is, ← c.self.view_is) (λ opening history s. let p = turn_on c.self.inside.config c.args.t c.self.inside.s2 c.turn-in-2.new.self c.self.inside.book c.turn-in-2.result.at
    (c.turn-in-2.ensures.at ∙ ap (λ m. max m c.self.inside.s2.moment) (c.latest-t.ensures ∙ ap (λ m. max c.args.t m) c.now.ensures))
    2 (lent_as 0 c.self.inside.s0 ∷ lent_as 1 c.self.inside.s1 ∷ []) (lent_as 3 c.self.inside.s3 ∷ []) refl c.turn-in-2.ensures.rows c.turn-in-2.ensures.messages c.turn-in-2.ensures.stands opening history s.decided in (p.0, p.1))

pub returns-in-2-clause-stands : goal.returns-in-2-clause-stands
returns-in-2-clause-stands g c =
    rw (c.in-2.is, ← c.self.view_is) (λ opening history s. let p = turn_on c.self.inside.config c.args.t c.self.inside.s2 c.turn-in-2.new.self c.self.inside.book c.turn-in-2.result.at
    (c.turn-in-2.ensures.at ∙ ap (λ m. max m c.self.inside.s2.moment) (c.latest-t.ensures ∙ ap (λ m. max c.args.t m) c.now.ensures))
    2 (lent_as 0 c.self.inside.s0 ∷ lent_as 1 c.self.inside.s1 ∷ []) (lent_as 3 c.self.inside.s3 ∷ []) refl c.turn-in-2.ensures.rows c.turn-in-2.ensures.messages c.turn-in-2.ensures.stands opening history s.decided in
    after_turn opening _ _ history s (record { granted = refl; refused = refl; sequence = refl }) (table_step_moment history c.args.t 2) 2 p.2)

pub invariant_of-self-in_default : goal.invariant_of-self-in_default
invariant_of-self-in_default g c =
    c.self.invariant ∙ sym (shares_spent (is_due_row c.turn-in_default.result.at) c.turn-in_default.result.at 3 (lent_as 0 c.self.inside.s0 ∷ lent_as 1 c.self.inside.s1 ∷ lent_as 2 c.self.inside.s2 ∷ []) c.self.inside.s3 c.turn-in_default.new.self [] c.turn-in_default.ensures.rows)

pub returns-in_default-clause-messages : goal.returns-in_default-clause-messages
returns-in_default-clause-messages g c =
    let last : c.args.table ≡ 3 = omega (arith, c.requires) in
    rw (last, ← c.self.view_is) (λ opening history s. let p = turn_on c.self.inside.config c.args.t c.self.inside.s3 c.turn-in_default.new.self c.self.inside.book c.turn-in_default.result.at
    (c.turn-in_default.ensures.at ∙ ap (λ m. max m c.self.inside.s3.moment) (c.latest-t.ensures ∙ ap (λ m. max c.args.t m) c.now.ensures))
    3 (lent_as 0 c.self.inside.s0 ∷ lent_as 1 c.self.inside.s1 ∷ lent_as 2 c.self.inside.s2 ∷ []) ([]) refl c.turn-in_default.ensures.rows c.turn-in_default.ensures.messages c.turn-in_default.ensures.stands opening history s.decided in (p.0, p.1))

pub returns-in_default-clause-stands : goal.returns-in_default-clause-stands
returns-in_default-clause-stands g c =
    let last : c.args.table ≡ 3 = omega (arith, c.requires) in
    rw (last, ← c.self.view_is) (λ opening history s. let p = turn_on c.self.inside.config c.args.t c.self.inside.s3 c.turn-in_default.new.self c.self.inside.book c.turn-in_default.result.at
    (c.turn-in_default.ensures.at ∙ ap (λ m. max m c.self.inside.s3.moment) (c.latest-t.ensures ∙ ap (λ m. max c.args.t m) c.now.ensures))
    3 (lent_as 0 c.self.inside.s0 ∷ lent_as 1 c.self.inside.s1 ∷ lent_as 2 c.self.inside.s2 ∷ []) ([]) refl c.turn-in_default.ensures.rows c.turn-in_default.ensures.messages c.turn-in_default.ensures.stands opening history s.decided in
    after_turn opening _ _ history s (record { granted = refl; refused = refl; sequence = refl }) (table_step_moment history c.args.t 3) 3 p.2)
