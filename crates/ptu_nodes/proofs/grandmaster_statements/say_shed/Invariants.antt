use Rattle.std.proofs.Common.{◌≡◌, map, take}
use Rattle.ptu_nodes.specs.{GrandmasterStatements.{shed_seen}, Noted.{with_said}}
use Rattle.ptu_nodes.proofs.grandmaster_statements.say_shed.Given as goal

abbrev pub invariant-loop-grant : goal.invariant-loop-grant
invariant-loop-grant l = l.journal ≡ with_said (map shed_seen (take l.grant-index l.shed)) l.initial.journal
