use Rattle.std.proofs.Common.{◌≡◌, ◌∙◌, ◌≤◌, ℕ, ap, arith}
use Rattle.ptu_history.specs.{Moments.{book_moment}, Verdict.{table_rates}}
use Rattle.ptu_admit.specs.Lent.{four, moment_for_all}
use Rattle.ptu_admit.proofs.Grants.{swept_share}
use Rattle.ptu_admit.proofs.ending.finish.Goals as goal

pub returns-clause-rates : goal.returns-clause-rates
returns-clause-rates g c = λ opening h s.
    let n : ℕ = moment_for_all 0 c.args.book.now (four c.args.s0.now c.args.s1.now c.args.s2.now c.args.s3.now) in
    let at : ℕ = c.latest_of-at.result in
    let at_is : at ≡ n = omega arith in
    let le : book_moment h ≤ at = let now = s.moment in omega (arith, at_is) in (
      swept_share (book_moment h) 0 c.args.s0.now c.sweep_all.new.s0 h at s.tables.0 le c.sweep_all.ensures.before.0 c.sweep_all.ensures.s0 ∙ ap (λ m. table_rates h m 0) at_is,
      swept_share (book_moment h) 1 c.args.s1.now c.sweep_all.new.s1 h at s.tables.1.0 le c.sweep_all.ensures.before.1 c.sweep_all.ensures.s1 ∙ ap (λ m. table_rates h m 1) at_is,
      swept_share (book_moment h) 2 c.args.s2.now c.sweep_all.new.s2 h at s.tables.1.1.0 le c.sweep_all.ensures.before.2 c.sweep_all.ensures.s2 ∙ ap (λ m. table_rates h m 2) at_is,
      swept_share (book_moment h) 3 c.args.s3.now c.sweep_all.new.s3 h at s.tables.1.1.1.0 le c.sweep_all.ensures.before.3 c.sweep_all.ensures.s3 ∙ ap (λ m. table_rates h m 3) at_is,
    )
