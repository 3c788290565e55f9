use Rattle.std.proofs.Common.{ap, sym, ◌∙◌, ◌&&◌}
use Rattle.std.specs.Option.{is_some}
use Rattle.ptu_units.specs.declared.kind.Kind.TheVariants.{DelayResp}
use Rattle.ptu_record.specs.Asks.{is_due}
use Rattle.ptu_requester.proofs.Dues.{kinds_are}
use Rattle.ptu_requester.proofs.negotiations.Negotiations.due.Goals as goal

pub returns-in-Some : goal.returns-in-Some
returns-in-Some c = λ L h.
    kinds_are c.args.wants.now L c.args.t _ (c.is_due.ensures _ L h.announce) (c.is_due-2.ensures _ L h.sync)
    (c.is_due-in-Some.ensures _ L h.delay ∙ sym (ap (λ o. is_some o && is_due DelayResp L c.args.t) c.in-Some.is))

pub returns-in-None : goal.returns-in-None
returns-in-None c = λ L h.
    kinds_are c.args.wants.now L c.args.t _ (c.is_due.ensures _ L h.announce) (c.is_due-2.ensures _ L h.sync)
    (sym (ap (λ o. is_some o && is_due DelayResp L c.args.t) c.in-None.is))
