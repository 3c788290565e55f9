use Rattle.std.proofs.Common.{◌≡◌, [], ◌∷◌, arith, refl, subst}
use Rattle.std.specs.List.{Contains}
use Rattle.ptu_admit.specs.Lent.{four, lent_as, rows_of_lent}
use Rattle.ptu_admit.proofs.Verdicts.{each_shed}
use Rattle.ptu_admit.proofs.shedding.drop_found.Goals as goal

pub returns-in-0-clause-stands : goal.returns-in-0-clause-stands
returns-in-0-clause-stands g c = λ b n h s r0 r1 r2 r3.
    each_shed b n h c.args.found.now.row [] (lent_as 0 c.args.s0.now) (lent_as 0 c.drop_in.new.shard) (lent_as 1 c.args.s1.now ∷ lent_as 2 c.args.s2.now ∷ lent_as 3 c.args.s3.now ∷ []) refl
    (subst (λ j. Contains (rows_of_lent j (four c.args.s0.now c.args.s1.now c.args.s2.now c.args.s3.now)) c.args.found.now.row) c.in-0.is c.requires.contained)
    (λ own. c.drop_in.ensures.stands b 0 n h own r0) s

pub returns-in-1-clause-stands : goal.returns-in-1-clause-stands
returns-in-1-clause-stands g c = λ b n h s r0 r1 r2 r3.
    each_shed b n h c.args.found.now.row (lent_as 0 c.args.s0.now ∷ []) (lent_as 1 c.args.s1.now) (lent_as 1 c.drop_in-in-1.new.shard) (lent_as 2 c.args.s2.now ∷ lent_as 3 c.args.s3.now ∷ []) refl
    (subst (λ j. Contains (rows_of_lent j (four c.args.s0.now c.args.s1.now c.args.s2.now c.args.s3.now)) c.args.found.now.row) c.in-1.is c.requires.contained)
    (λ own. c.drop_in-in-1.ensures.stands b 1 n h own r1) s

pub returns-in-2-clause-stands : goal.returns-in-2-clause-stands
returns-in-2-clause-stands g c = λ b n h s r0 r1 r2 r3.
    each_shed b n h c.args.found.now.row (lent_as 0 c.args.s0.now ∷ lent_as 1 c.args.s1.now ∷ []) (lent_as 2 c.args.s2.now) (lent_as 2 c.drop_in-in-2.new.shard) (lent_as 3 c.args.s3.now ∷ []) refl
    (subst (λ j. Contains (rows_of_lent j (four c.args.s0.now c.args.s1.now c.args.s2.now c.args.s3.now)) c.args.found.now.row) c.in-2.is c.requires.contained)
    (λ own. c.drop_in-in-2.ensures.stands b 2 n h own r2) s

pub returns-in_default-clause-stands : goal.returns-in_default-clause-stands
returns-in_default-clause-stands g c = λ b n h s r0 r1 r2 r3.
    let last : c.args.found.now.table ≡ 3 = omega (arith, c.requires.place) in
    each_shed b n h c.args.found.now.row (lent_as 0 c.args.s0.now ∷ lent_as 1 c.args.s1.now ∷ lent_as 2 c.args.s2.now ∷ []) (lent_as 3 c.args.s3.now) (lent_as 3 c.drop_in-in_default.new.shard) [] refl
    (subst (λ j. Contains (rows_of_lent j (four c.args.s0.now c.args.s1.now c.args.s2.now c.args.s3.now)) c.args.found.now.row) last c.requires.contained)
    (λ own. c.drop_in-in_default.ensures.stands b 3 n h own r3) s

pub returns-in-0-clause-gone : goal.returns-in-0-clause-gone
returns-in-0-clause-gone g c = λ r h.
    c.drop_in.ensures.gone r (subst (λ j. Contains (rows_of_lent j (four c.drop_in.new.shard c.args.s1.now c.args.s2.now c.args.s3.now)) r) c.in-0.is h)

pub returns-in-1-clause-gone : goal.returns-in-1-clause-gone
returns-in-1-clause-gone g c = λ r h.
    c.drop_in-in-1.ensures.gone r (subst (λ j. Contains (rows_of_lent j (four c.args.s0.now c.drop_in-in-1.new.shard c.args.s2.now c.args.s3.now)) r) c.in-1.is h)

pub returns-in-2-clause-gone : goal.returns-in-2-clause-gone
returns-in-2-clause-gone g c = λ r h.
    c.drop_in-in-2.ensures.gone r (subst (λ j. Contains (rows_of_lent j (four c.args.s0.now c.args.s1.now c.drop_in-in-2.new.shard c.args.s3.now)) r) c.in-2.is h)

pub returns-in_default-clause-gone : goal.returns-in_default-clause-gone
returns-in_default-clause-gone g c = λ r h.
    let last : c.args.found.now.table ≡ 3 = omega (arith, c.requires.place) in
    c.drop_in-in_default.ensures.gone r (subst (λ j. Contains (rows_of_lent j (four c.args.s0.now c.args.s1.now c.args.s2.now c.drop_in-in_default.new.shard)) r) last h)
