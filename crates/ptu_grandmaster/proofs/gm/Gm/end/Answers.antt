use Rattle.std.proofs.Common.{◌≡◌, ◌∙◌, [], ◌∷◌, refl, sym, arith}
use Rattle.ptu_admit.specs.Lent.{lent_as}
use Rattle.ptu_grandmaster.proofs.OneTable.{cancel_on}
use Rattle.ptu_grandmaster.proofs.gm.Gm.end.Goals as goal

pub returns-in-0-clause-decided : goal.returns-in-0-clause-decided
returns-in-0-clause-decided g c =
    rw (← c.self.view_is) (
    cancel_on c.self.inside.config c.args.t c.args.client.now c.self.inside.s0 c.cancel.new.shard c.self.inside.book c.cancel.new.book c.args.kind c.cancel.result
    [] (lent_as 1 c.self.inside.s1 ∷ lent_as 2 c.self.inside.s2 ∷ lent_as 3 c.self.inside.s3 ∷ []) 0 (sym c.table_of.ensures.value ∙ c.in-0.is) refl c.cancel.ensures.at c.cancel.ensures.live c.cancel.ensures.stands
    )

pub returns-in-1-clause-decided : goal.returns-in-1-clause-decided
returns-in-1-clause-decided g c =
    rw (← c.self.view_is) (
    cancel_on c.self.inside.config c.args.t c.args.client.now c.self.inside.s1 c.cancel-in-1.new.shard c.self.inside.book c.cancel-in-1.new.book c.args.kind c.cancel-in-1.result
    (lent_as 0 c.self.inside.s0 ∷ []) (lent_as 2 c.self.inside.s2 ∷ lent_as 3 c.self.inside.s3 ∷ []) 1 (sym c.table_of.ensures.value ∙ c.in-1.is) refl c.cancel-in-1.ensures.at c.cancel-in-1.ensures.live c.cancel-in-1.ensures.stands
    )

pub returns-in-2-clause-decided : goal.returns-in-2-clause-decided
returns-in-2-clause-decided g c =
    rw (← c.self.view_is) (
    cancel_on c.self.inside.config c.args.t c.args.client.now c.self.inside.s2 c.cancel-in-2.new.shard c.self.inside.book c.cancel-in-2.new.book c.args.kind c.cancel-in-2.result
    (lent_as 0 c.self.inside.s0 ∷ lent_as 1 c.self.inside.s1 ∷ []) (lent_as 3 c.self.inside.s3 ∷ []) 2 (sym c.table_of.ensures.value ∙ c.in-2.is) refl c.cancel-in-2.ensures.at c.cancel-in-2.ensures.live c.cancel-in-2.ensures.stands
    )

pub returns-in_default-clause-decided : goal.returns-in_default-clause-decided
returns-in_default-clause-decided g c =
    let last : c.table_of.result ≡ 3 = omega (arith, c.table_of.ensures.below) in
    rw (← c.self.view_is) (
    cancel_on c.self.inside.config c.args.t c.args.client.now c.self.inside.s3 c.cancel-in_default.new.shard c.self.inside.book c.cancel-in_default.new.book c.args.kind c.cancel-in_default.result
    (lent_as 0 c.self.inside.s0 ∷ lent_as 1 c.self.inside.s1 ∷ lent_as 2 c.self.inside.s2 ∷ []) ([]) 3 (sym c.table_of.ensures.value ∙ last) refl c.cancel-in_default.ensures.at c.cancel-in_default.ensures.live c.cancel-in_default.ensures.stands
    )
