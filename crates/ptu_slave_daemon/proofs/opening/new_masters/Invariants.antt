use Rattle.std.proofs.Common.{◌≡◌, map, take}
use Rattle.ptu_slave_daemon.specs.Opening.{watched_master_of}
use Rattle.ptu_slave_daemon.proofs.opening.new_masters.Given as goal

abbrev pub invariant-loop-master : goal.invariant-loop-master
invariant-loop-master l = l.list.items ≡ map watched_master_of (take l.master-index l.masters)
