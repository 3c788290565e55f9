use Rattle.std.proofs.Common.{◌≡◌, refl}
use Rattle.ptu_audit.proofs.Closing.{closed_found, closed_judged}
use Rattle.ptu_audit.proofs.auditor.Auditor.judge_group.Goals as goal

pub returns-in-Some : goal.returns-in-Some
returns-in-Some c = λ r s. closed_found c.args.self.now c.args.self.now r s refl refl _ c.in-Some.is refl refl

pub returns-in_ok-self-in-None : goal.returns-in_ok-self-in-None
returns-in_ok-self-in-None c = λ r s.
    let value = c.deref.ensures.value in
    let group : c.deref.result.now ≡ c.args.self.now.group.items = cc in
    closed_judged c.args.self.now _ r s refl refl c.deref.result.now group c.in-None.is c.in_ok-self-in-None.ensures.finding c.in_ok-self-in-None.ensures.kept c.judge.ensures.capacity
