use Rattle.std.proofs.Common.{◌∙◌, ap, arith}
use Rattle.ptu_grandmaster.proofs.Closes.{closed_0, closed_1, closed_2, closed_3, four_counts, swept_share}
use Rattle.ptu_grandmaster.proofs.gm.Gm.close.Goals as goal

pub returns-clause-counts : goal.returns-clause-counts
returns-clause-counts g c =
    let swept = c.finish.ensures.swept in
    rw (← c.self.view_is) (
    four_counts _ _ _ _ _ _ _ _ (c.held.ensures.share ∙ swept_share _ _ _ swept.0) (c.held-2.ensures.share ∙ swept_share _ _ _ swept.1)
    (c.held-3.ensures.share ∙ swept_share _ _ _ swept.2) (c.held-4.ensures.share ∙ swept_share _ _ _ swept.3)
    )

pub returns-clause-total : goal.returns-clause-total
returns-clause-total g c =
    let swept = c.finish.ensures.swept in
    let total = c.total.ensures.value ∙ ap (λ b. b.total) c.finish.ensures.book in
    let a = swept_share _ _ _ swept.0 in
    let b = swept_share _ _ _ swept.1 in
    let d = swept_share _ _ _ swept.2 in
    let e = swept_share _ _ _ swept.3 in
    rw (← c.self.view_is) (omega (arith, total, a, b, d, e))

pub returns-clause-rates : goal.returns-clause-rates
returns-clause-rates g c =
    let swept = c.finish.ensures.swept in
    let total = c.total.ensures.value ∙ ap (λ b. b.total) c.finish.ensures.book in
    rw (← c.self.view_is) (λ opening history s.
    let a = closed_0 opening c.self.inside.s0 c.self.inside.s1 c.self.inside.s2 c.self.inside.s3 c.finish.new.s0 c.finish.new.s1 c.finish.new.s2 c.finish.new.s3 c.self.inside.book history s.decided swept.0 c.held.ensures.distinct in
    let b = closed_1 opening c.self.inside.s0 c.self.inside.s1 c.self.inside.s2 c.self.inside.s3 c.finish.new.s0 c.finish.new.s1 c.finish.new.s2 c.finish.new.s3 c.self.inside.book history s.decided swept.1 c.held-2.ensures.distinct in
    let d = closed_2 opening c.self.inside.s0 c.self.inside.s1 c.self.inside.s2 c.self.inside.s3 c.finish.new.s0 c.finish.new.s1 c.finish.new.s2 c.finish.new.s3 c.self.inside.book history s.decided swept.2 c.held-3.ensures.distinct in
    let e = closed_3 opening c.self.inside.s0 c.self.inside.s1 c.self.inside.s2 c.self.inside.s3 c.finish.new.s0 c.finish.new.s1 c.finish.new.s2 c.finish.new.s3 c.self.inside.book history s.decided swept.3 c.held-4.ensures.distinct in (
      four_counts _ _ _ _ _ _ _ _ (c.held.ensures.share ∙ a) (c.held-2.ensures.share ∙ b) (c.held-3.ensures.share ∙ d) (c.held-4.ensures.share ∙ e),
      omega (arith, total, a, b, d, e),
      s.granted,
      s.refused,
    ))
