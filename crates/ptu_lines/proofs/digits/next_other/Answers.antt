use Rattle.std.proofs.Common.{arith, sym}
use Rattle.ptu_lines.proofs.Encoded.{same_more}
use Rattle.ptu_lines.proofs.digits.next_other.Goals as goal

pub parts-preserved : goal.parts-preserved
parts-preserved c = record {
  within = c.is_same.ensures.within c.parts-test.true;
  before = same_more c.parts.place 8 c.args.others.now c.args.octets.now c.parts.invariant.before (sym (c.is_same.ensures.same c.parts-test.true));
  further = omega (arith, c.parts.invariant.further);
}
