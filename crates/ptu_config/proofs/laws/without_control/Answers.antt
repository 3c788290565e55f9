use Rattle.ptu_config.proofs.Unspoken.{refused_as_before, says_nothing}
use Rattle.ptu_config.proofs.laws.without_control.Goals as goal

pub returns-clause-nothing : goal.returns-clause-nothing
returns-clause-nothing c = says_nothing

pub returns-clause-refusals : goal.returns-clause-refusals
returns-clause-refusals c = refused_as_before
