use Rattle.std.proofs.Common.{◌∙◌, ◌+◌, ◌++◌, [], refl, sym, ap, slice_get, Some}
use Rattle.std.proofs.lemmas.Result.{on_ok_weaker}
use Rattle.ptu_outside.specs.MemoryPort.{MemoryPort}
use Rattle.ptu_grandmaster.specs.Gm.{with_port}
use Rattle.ptu_pool_run.specs.Ports.{sent_texts}
use Rattle.ptu_pool_run.proofs.Lent.{here_ported, lent_is, lent_there, others_ported, still_sure}
use Rattle.ptu_pool_run.proofs.room.tell_port.Goals as goal

pub returns-clause-go_on : goal.returns-clause-go_on
returns-clause-go_on c = on_ok_weaker c.tell.result (λ _. record { pools = refl; stand = c.ports.ensures.stands c.tell.new.port }) c.tell.ensures.cleared

pub returns-clause-others : goal.returns-clause-others
returns-clause-others c = on_ok_weaker c.tell.result (λ _ i other. others_ported c.args.pools.now.gms c.args.place c.args.index c.tell.new.port i other) c.tell.ensures.cleared

pub returns-clause-says : goal.returns-clause-says
returns-clause-says c = on_ok_weaker c.tell.result (λ says gm at.
    says ∙ ap (λ n. c.args.texts.now ++ sent_texts c.args.line n c.ports.result.now.sent) c.number_of-number.ensures
    ∙ ap (λ (p : MemoryPort). c.args.texts.now ++ sent_texts c.args.line (c.args.place + 1) p.sent) (sym (lent_is c.args.pools.now.gms c.args.place c.args.index gm c.ports.result.now at c.ports.ensures.value)))
    c.tell.ensures.says

pub returns-clause-cleared : goal.returns-clause-cleared
returns-clause-cleared c = on_ok_weaker c.tell.result (λ cleared gm at.
    here_ported c.args.pools.now.gms c.args.place c.args.index c.tell.new.port gm at
    ∙ ap (λ p. Some (with_port c.args.index p gm)) (cleared ∙ ap (λ (p : MemoryPort). record p { sent = [] }) (sym (lent_is c.args.pools.now.gms c.args.place c.args.index gm c.ports.result.now at c.ports.ensures.value))))
    c.tell.ensures.cleared

pub returns-clause-there : goal.returns-clause-there
returns-clause-there c = lent_there c.args.index c.ports.result.now (slice_get c.args.pools.now.gms c.args.place) c.ports.ensures.value

pub returns-clause-sure : goal.returns-clause-sure
returns-clause-sure c = on_ok_weaker c.tell.result (λ cleared.
    still_sure c.args.pools.now c.args.place c.args.index c.ports.result.now c.tell.new.port
    (λ gm at. lent_is c.args.pools.now.gms c.args.place c.args.index gm c.ports.result.now at c.ports.ensures.value)
    (ap (λ (p : MemoryPort). p.failing_sends) cleared))
    c.tell.ensures.cleared
