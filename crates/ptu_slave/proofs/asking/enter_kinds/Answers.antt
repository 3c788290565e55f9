use Rattle.std.proofs.Common.{subst}
use Rattle.ptu_requester.specs.Requester.{StandsFor}
use Rattle.ptu_slave.specs.Parts.{kind_entry}
use Rattle.ptu_slave.proofs.Entering.{each_kind}
use Rattle.ptu_slave.proofs.asking.enter_kinds.Goals as goal

pub returns-clause-entered : goal.returns-clause-entered
returns-clause-entered c = λ L h.
    subst (StandsFor c.enter_kind-3.new.requester) (each_kind (kind_entry c.args.entry c.args.at c.args.master) L c.args.kinds)
    (c.enter_kind-3.ensures.entered _ (c.enter_kind-2.ensures.entered _ (c.enter_kind.ensures.entered L h)))
