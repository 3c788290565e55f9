use Rattle.std.proofs.Common.{refl}
use Rattle.std.specs.Fmt.{digits}
use Rattle.ptu_script.specs.Command.{grandmaster_in, slave_in, fields_in, command_of}
use Rattle.ptu_world.specs.World.{step}
use Rattle.ptu_world.proofs.examples.short_scripts.Goals as goal

pub returns-clause-empty : goal.returns-clause-empty
unfolding digits grandmaster_in slave_in fields_in command_of step
returns-clause-empty c = refl

pub returns-clause-comment : goal.returns-clause-comment
unfolding digits grandmaster_in slave_in fields_in command_of step
returns-clause-comment c = refl

pub returns-clause-no_node : goal.returns-clause-no_node
unfolding digits grandmaster_in slave_in fields_in command_of step
returns-clause-no_node c = refl

pub returns-clause-no_datagram : goal.returns-clause-no_datagram
unfolding digits grandmaster_in slave_in fields_in command_of step
returns-clause-no_datagram c = refl

pub returns-clause-datagram_zero : goal.returns-clause-datagram_zero
unfolding digits grandmaster_in slave_in fields_in command_of step
returns-clause-datagram_zero c = refl

pub returns-clause-set_up_late : goal.returns-clause-set_up_late
unfolding digits grandmaster_in slave_in fields_in command_of step
returns-clause-set_up_late c = refl

pub returns-clause-set_up_again : goal.returns-clause-set_up_again
unfolding digits grandmaster_in slave_in fields_in command_of step
returns-clause-set_up_again c = refl

pub returns-clause-other_kind : goal.returns-clause-other_kind
unfolding digits grandmaster_in slave_in fields_in command_of step
returns-clause-other_kind c = refl

pub returns-clause-no_judge : goal.returns-clause-no_judge
unfolding digits grandmaster_in slave_in fields_in command_of step
returns-clause-no_judge c = refl

pub returns-clause-judge_taken : goal.returns-clause-judge_taken
unfolding digits grandmaster_in slave_in fields_in command_of step
returns-clause-judge_taken c = refl

pub returns-clause-master_before_judge : goal.returns-clause-master_before_judge
unfolding digits grandmaster_in slave_in fields_in command_of step
returns-clause-master_before_judge c = refl

pub returns-clause-unknown_master : goal.returns-clause-unknown_master
unfolding digits grandmaster_in slave_in fields_in command_of step
returns-clause-unknown_master c = refl

pub returns-clause-master_again : goal.returns-clause-master_again
unfolding digits grandmaster_in slave_in fields_in command_of step
returns-clause-master_again c = refl
