use Rattle.std.proofs.Common.{◌≡◌, take}
use Rattle.ptu_nodes.specs.{GrandmasterStatements.{outcomes_said}, Noted.{with_said}}
use Rattle.ptu_nodes.proofs.grandmaster_statements.say_outcomes.Given as goal

abbrev pub invariant-loop-outcome : goal.invariant-loop-outcome
invariant-loop-outcome l = l.journal ≡ with_said (outcomes_said (take l.outcome-index l.outcomes)) l.initial.journal
