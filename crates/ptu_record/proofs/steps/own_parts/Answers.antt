use Rattle.ptu_record.proofs.OwnParts.{own_others, own_stop, own_tick}
use Rattle.ptu_record.proofs.steps.own_parts.Goals as goal

pub returns-clause-others : goal.returns-clause-others
returns-clause-others c = own_others

pub returns-clause-tick : goal.returns-clause-tick
returns-clause-tick c = own_tick

pub returns-clause-stop : goal.returns-clause-stop
returns-clause-stop c = own_stop
