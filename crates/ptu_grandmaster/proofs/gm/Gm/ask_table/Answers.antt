use Rattle.std.proofs.Common.{◌≡◌, ◌∙◌, [], ◌∷◌, refl, sym, arith}
use Rattle.ptu_admit.specs.Lent.{lent_as}
use Rattle.ptu_grandmaster.proofs.OneTable.{ask_on}
use Rattle.ptu_grandmaster.proofs.gm.Gm.ask_table.Goals as goal

pub returns-in-0-clause-some : goal.returns-in-0-clause-some
returns-in-0-clause-some g c =
    rw (← c.self.view_is) (
    ask_on c.self.inside.config c.args.t c.args.client.now c.self.inside.s0 c.decide_one.new.shard c.self.inside.book c.decide_one.new.book c.args.ask.now c.decide_one.result
    [] (lent_as 1 c.self.inside.s1 ∷ lent_as 2 c.self.inside.s2 ∷ lent_as 3 c.self.inside.s3 ∷ []) 0 (sym c.table_of.ensures.value ∙ c.in-0.is) refl c.decide_one.ensures.at c.decide_one.ensures.verdict c.decide_one.ensures.stands
    )

pub returns-in-1-clause-some : goal.returns-in-1-clause-some
returns-in-1-clause-some g c =
    rw (← c.self.view_is) (
    ask_on c.self.inside.config c.args.t c.args.client.now c.self.inside.s1 c.decide_one-in-1.new.shard c.self.inside.book c.decide_one-in-1.new.book c.args.ask.now c.decide_one-in-1.result
    (lent_as 0 c.self.inside.s0 ∷ []) (lent_as 2 c.self.inside.s2 ∷ lent_as 3 c.self.inside.s3 ∷ []) 1 (sym c.table_of.ensures.value ∙ c.in-1.is) refl c.decide_one-in-1.ensures.at c.decide_one-in-1.ensures.verdict c.decide_one-in-1.ensures.stands
    )

pub returns-in-2-clause-some : goal.returns-in-2-clause-some
returns-in-2-clause-some g c =
    rw (← c.self.view_is) (
    ask_on c.self.inside.config c.args.t c.args.client.now c.self.inside.s2 c.decide_one-in-2.new.shard c.self.inside.book c.decide_one-in-2.new.book c.args.ask.now c.decide_one-in-2.result
    (lent_as 0 c.self.inside.s0 ∷ lent_as 1 c.self.inside.s1 ∷ []) (lent_as 3 c.self.inside.s3 ∷ []) 2 (sym c.table_of.ensures.value ∙ c.in-2.is) refl c.decide_one-in-2.ensures.at c.decide_one-in-2.ensures.verdict c.decide_one-in-2.ensures.stands
    )

pub returns-in_default-clause-some : goal.returns-in_default-clause-some
returns-in_default-clause-some g c =
    rw (← c.self.view_is) (
    ask_on c.self.inside.config c.args.t c.args.client.now c.self.inside.s3 c.decide_one-in_default.new.shard c.self.inside.book c.decide_one-in_default.new.book c.args.ask.now c.decide_one-in_default.result
    (lent_as 0 c.self.inside.s0 ∷ lent_as 1 c.self.inside.s1 ∷ lent_as 2 c.self.inside.s2 ∷ []) ([]) 3 (sym c.table_of.ensures.value ∙ (let last : c.table_of.result ≡ 3 = omega (arith, c.table_of.ensures.below) in last)) refl c.decide_one-in_default.ensures.at c.decide_one-in_default.ensures.verdict c.decide_one-in_default.ensures.stands
    )
