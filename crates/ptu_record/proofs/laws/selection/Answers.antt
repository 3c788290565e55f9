use Rattle.ptu_record.proofs.Choice.{selected_is, one_choice, one_best, chosen_best, chosen_none, none_chosen, is_better-trans, same_choice, usable_classes}
use Rattle.ptu_record.proofs.laws.selection.Goals as goal

pub returns-clause-selected : goal.returns-clause-selected
returns-clause-selected c = selected_is

pub returns-clause-one_choice : goal.returns-clause-one_choice
returns-clause-one_choice c = one_choice

pub returns-clause-one_master : goal.returns-clause-one_master
returns-clause-one_master c = one_best

pub returns-clause-eligible : goal.returns-clause-eligible
returns-clause-eligible c = λ timeouts priorities L t m e. (chosen_best timeouts priorities L t m e).eligible

pub returns-clause-none_better : goal.returns-clause-none_better
returns-clause-none_better c = λ timeouts priorities L t m n e. (chosen_best timeouts priorities L t m e).none_better n

pub returns-clause-none : goal.returns-clause-none
returns-clause-none c = λ timeouts priorities L t. (chosen_none timeouts priorities L t, none_chosen timeouts priorities L t)

pub returns-clause-better_than_better : goal.returns-clause-better_than_better
returns-clause-better_than_better c = is_better-trans

pub returns-clause-same_choice : goal.returns-clause-same_choice
returns-clause-same_choice c = same_choice

pub returns-clause-usable_classes : goal.returns-clause-usable_classes
returns-clause-usable_classes c = usable_classes
