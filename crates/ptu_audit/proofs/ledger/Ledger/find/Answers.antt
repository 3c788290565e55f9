use Rattle.std.proofs.Common.{◌∙◌, Some, option_map, refl, ap, sym}
use Rattle.ptu_audit.specs.Trails.{finding_of}
use Rattle.ptu_audit.proofs.ledger.Ledger.find.Goals as goal

pub returns-in-Some-clause-finding : goal.returns-in-Some-clause-finding
returns-in-Some-clause-finding c = λ before kept.
    ap Some (c.finding.ensures c.args.act.now refl)
    ∙ ap (option_map (finding_of c.args.act.now)) (sym c.in-Some.is)
    ∙ c.in_ok-take.ensures.fault before kept
