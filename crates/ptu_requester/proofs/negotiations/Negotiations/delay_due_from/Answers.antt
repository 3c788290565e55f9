use Rattle.std.proofs.Common.{ap, ◌&&◌, ◌∙◌}
use Rattle.std.specs.Option.{is_some}
use Rattle.ptu_units.specs.declared.kind.Kind.TheVariants.{DelayResp}
use Rattle.ptu_record.specs.Asks.{is_due}
use Rattle.ptu_requester.proofs.negotiations.Negotiations.delay_due_from.Goals as goal

pub returns-in-Some : goal.returns-in-Some
returns-in-Some c = λ L h x low high.
    ap (λ o. is_some o && is_due DelayResp L x) c.in-Some.is ∙ c.due_from.ensures.idle DelayResp L h.delay x low high
