use Rattle.std.proofs.Common.{arith, refl}
use Rattle.ptu_admit.proofs.Candidates.{found_at, none_at}
use Rattle.ptu_admit.proofs.shedding.find_row.Goals as goal

pub returns-in-0-clause-kept : goal.returns-in-0-clause-kept
returns-in-0-clause-kept g c = found_at c.args.s0.now c.args.s1.now c.args.s2.now c.args.s3.now c.args.candidate.now c.args.s0.now.rows 0 c.in-0.is refl (omega arith) c.find_in.result c.find_in.ensures.kept

pub returns-in-0-clause-none : goal.returns-in-0-clause-none
returns-in-0-clause-none g c = none_at c.args.s0.now c.args.s1.now c.args.s2.now c.args.s3.now c.args.candidate.now c.args.s0.now.rows 0 c.in-0.is refl c.find_in.result c.find_in.ensures.none

pub returns-in-1-clause-kept : goal.returns-in-1-clause-kept
returns-in-1-clause-kept g c = found_at c.args.s0.now c.args.s1.now c.args.s2.now c.args.s3.now c.args.candidate.now c.args.s1.now.rows 1 c.in-1.is refl (omega arith) c.find_in-in-1.result c.find_in-in-1.ensures.kept

pub returns-in-1-clause-none : goal.returns-in-1-clause-none
returns-in-1-clause-none g c = none_at c.args.s0.now c.args.s1.now c.args.s2.now c.args.s3.now c.args.candidate.now c.args.s1.now.rows 1 c.in-1.is refl c.find_in-in-1.result c.find_in-in-1.ensures.none

pub returns-in-2-clause-kept : goal.returns-in-2-clause-kept
returns-in-2-clause-kept g c = found_at c.args.s0.now c.args.s1.now c.args.s2.now c.args.s3.now c.args.candidate.now c.args.s2.now.rows 2 c.in-2.is refl (omega arith) c.find_in-in-2.result c.find_in-in-2.ensures.kept

pub returns-in-2-clause-none : goal.returns-in-2-clause-none
returns-in-2-clause-none g c = none_at c.args.s0.now c.args.s1.now c.args.s2.now c.args.s3.now c.args.candidate.now c.args.s2.now.rows 2 c.in-2.is refl c.find_in-in-2.result c.find_in-in-2.ensures.none

pub returns-in-3-clause-kept : goal.returns-in-3-clause-kept
returns-in-3-clause-kept g c = found_at c.args.s0.now c.args.s1.now c.args.s2.now c.args.s3.now c.args.candidate.now c.args.s3.now.rows 3 c.in-3.is refl (omega arith) c.find_in-in-3.result c.find_in-in-3.ensures.kept

pub returns-in-3-clause-none : goal.returns-in-3-clause-none
returns-in-3-clause-none g c = none_at c.args.s0.now c.args.s1.now c.args.s2.now c.args.s3.now c.args.candidate.now c.args.s3.now.rows 3 c.in-3.is refl c.find_in-in-3.result c.find_in-in-3.ensures.none
