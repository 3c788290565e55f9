use Rattle.std.proofs.Common.{[], ◌∷◌, ◌++◌, ◌≡◌, ◌∙◌, length, refl, ap, arith}
use Rattle.ptu_judges.specs.Calls.{WasAsked}
use Rattle.ptu_slave.specs.Kept.{Kept}
use Rattle.ptu_slave.proofs.Assessing.{all_judged, none_judged, one_more_judged}
use Rattle.ptu_slave.proofs.{Calling.{of_all, of_more, of_none}, Happening.{same_length}}
use Rattle.ptu_slave.proofs.judging.judge_all.Goals as goal

pub loop-master-init : goal.loop-master-init
loop-master-init g c = record { judged = ([], of_none (WasAsked (λ j. (goal.Judge-dyn g (j.vtable, j.value)).Conduct.finds j.value) c.args.at) c.args.judges.now.items, none_judged c.args.at _ c.args.core.now); long = refl }

pub judged-requires : goal.judged-requires
judged-requires g c =
    let all = c.loop-master.invariant.judged.2 in
    let same : length c.loop-master.core.masters ≡ length c.args.core.now.masters = ap (λ (k : Kept). length k.masters) all.rest in
    omega (arith, same, c.requires, c.loop-master-test.true, c.len-master-end.ensures)

pub loop-master-preserved : goal.loop-master-preserved
loop-master-preserved g c = record {
  judged = (
    c.loop-master.invariant.judged.0 ++ c.judge_one-unusable.result ∷ [],
    of_more (WasAsked (λ j. (goal.Judge-dyn g (j.vtable, j.value)).Conduct.finds j.value) c.args.at) c.loop-master.master c.loop-master.invariant.judged.0 c.judge_one-unusable.result _ _ _
        c.loop-master.invariant.judged.1 c.judge_one-unusable.ensures.call,
    one_more_judged c.loop-master.master c.args.at _ _ _ c.args.core.now c.loop-master.core c.judged.new.self c.loop-master.invariant.judged.0 c.judge_one-unusable.result
        c.loop-master.invariant.judged.2 c.judge_one-unusable.ensures.asked (same_length _ _ _ c.judge_one-unusable.ensures.length) c.judged.ensures.selects c.judged.ensures.rest,
  );
  long = c.judge_one-unusable.ensures.length ∙ c.loop-master.invariant.long;
}

pub returns-clause-judged : goal.returns-clause-judged
returns-clause-judged g c =
    let judged = c.loop-master.invariant.judged in
    let many : c.loop-master.master ≡ length c.args.core.now.masters = omega (arith, c.requires, c.loop-master-test.false, c.loop-master.auto.master-end, c.len-master-end.ensures) in (
      judged.0,
      of_all (WasAsked (λ j. (goal.Judge-dyn g (j.vtable, j.value)).Conduct.finds j.value) c.args.at) c.loop-master.master (length c.args.core.now.masters) judged.0 _ _ many judged.1,
      all_judged c.loop-master.master (length c.args.core.now.masters) c.args.at _ _ c.args.core.now c.loop-master.core judged.0 many judged.2,
    )
