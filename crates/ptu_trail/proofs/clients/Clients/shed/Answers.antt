use Rattle.std.proofs.Common.{◌∙◌, sym, arith}
use Rattle.ptu_trail.proofs.Accounts.{if_none_at}
use Rattle.ptu_trail.proofs.Sheds.{all_shed, fault_shed, none_shed, one_shed}
use Rattle.ptu_trail.proofs.clients.Clients.shed.Goals as goal

pub loop-place-init : goal.loop-place-init
loop-place-init c = λ opening history known moment. none_shed opening history c.args.at c.args.shed.now c.args.self.now known moment

pub returns-in-Some-clause-fault : goal.returns-in-Some-clause-fault
returns-in-Some-clause-fault c = λ opening history known moment.
    let so_far = c.loop-place.invariant opening history known moment in
    fault_shed opening history c.args.at c.args.shed.now c.loop-place.place _ c.loop-place.self c.in-Some.cause c.loop-place-test.true so_far (sym c.in-Some.is ∙ c.in_ok-cause.ensures.fault _ so_far.known so_far.moment)

pub loop-place-preserved : goal.loop-place-preserved
loop-place-preserved c = λ opening history known moment.
    let so_far = c.loop-place.invariant opening history known moment in
    one_shed opening history c.args.at c.args.shed.now c.loop-place.place _ c.loop-place.self c.end.new.self c.loop-place-test.true so_far
    (sym (c.in_ok-cause.ensures.fault _ so_far.known so_far.moment) ∙ c.in_default.is) (if_none_at c.in_ok-cause.field-0 c.in_default.is c.in_ok-cause.ensures.shed _ so_far.known so_far.moment)

pub returns-clause-fault : goal.returns-clause-fault
returns-clause-fault c = λ opening history known moment.
    (all_shed opening history c.args.at c.args.shed.now c.loop-place.place c.loop-place.self (omega (arith, c.loop-place-test.false)) (c.loop-place.invariant opening history known moment)).0

pub returns-clause-known : goal.returns-clause-known
returns-clause-known c = λ history known moment.
    (all_shed 0 history c.args.at c.args.shed.now c.loop-place.place c.loop-place.self (omega (arith, c.loop-place-test.false)) (c.loop-place.invariant 0 history known moment)).1
