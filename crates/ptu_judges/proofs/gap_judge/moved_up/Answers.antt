use Rattle.std.proofs.{Common.{◌∙◌, true, arith, length-set}, lemmas.List.Edits.{fill_by_more}}
use Rattle.ptu_judges.specs.Shifting.{shifted}
use Rattle.ptu_judges.proofs.Shifting.{marks_up_is}
use Rattle.ptu_judges.proofs.gap_judge.moved_up.Goals as goal

pub loop-i-preserved : goal.loop-i-preserved
loop-i-preserved c = record {
  size = length-set c.loop-i.moved c.loop-i.i _ ∙ c.loop-i.invariant.size;
  shifted = rw c.mark_from.ensures (fill_by_more (shifted c.args.by c.args.marks.now) c.loop-i.moved c.loop-i.i true (omega (arith, c.loop-i-test.true, c.loop-i.invariant.size)) c.loop-i.invariant.shifted);
}

pub returns : goal.returns
returns c = marks_up_is c.args.by c.args.marks.now c.loop-i.moved c.loop-i.invariant.size (λ k lt. c.loop-i.invariant.shifted k (omega (arith, lt, c.loop-i-test.false)))
