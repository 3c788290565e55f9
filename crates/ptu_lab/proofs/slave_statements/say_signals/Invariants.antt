use Rattle.std.proofs.Common.{◌≡◌, map, take}
use Rattle.ptu_world.specs.Slaves.{signal_said}
use Rattle.ptu_nodes.specs.Noted.{with_said}
use Rattle.ptu_lab.proofs.slave_statements.say_signals.Given as goal

abbrev pub invariant-loop-signal : goal.invariant-loop-signal
invariant-loop-signal l = l.journal ≡ with_said (map signal_said (take l.signal-index l.signals)) l.initial.journal
