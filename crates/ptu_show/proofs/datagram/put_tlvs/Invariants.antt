-- The TLVs so far were put.
use Rattle.std.proofs.Common.{◌≡◌, ◌++◌, take}
use Rattle.std.specs.List.{flat_map}
use Rattle.ptu_show.specs.Datagram.{tlv_text}
use Rattle.ptu_show.proofs.datagram.put_tlvs.Given as goal

abbrev pub invariant-loop-tlv : goal.invariant-loop-tlv
invariant-loop-tlv l = record {
  put : l.draft.text ≡ l.initial.draft.text ++ flat_map tlv_text (take l.tlv-index l.tlvs);
  done : l.draft.done ≡ l.initial.draft.done;
}
