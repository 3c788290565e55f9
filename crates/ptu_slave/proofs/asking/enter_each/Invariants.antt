use Rattle.std.proofs.Common.{◌≡◌, length, take}
use Rattle.std.specs.List.{filter_map}
use Rattle.ptu_requester.specs.Requester.{Enters}
use Rattle.ptu_slave.specs.Parts.{heard_entry}
use Rattle.ptu_slave.proofs.asking.enter_each.Given as goal

abbrev pub invariant-loop-signal : goal.invariant-loop-signal
invariant-loop-signal l = record {
  entered : Enters l.initial.requester l.requester (filter_map (heard_entry l.fn.wants l.fn.at l.fn.master) (take l.signal-index l.signals));
  wants : l.requester.wants ≡ l.initial.requester.wants;
  masters : length l.requester.masters ≡ length l.initial.requester.masters;
}
