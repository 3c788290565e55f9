-- A slave whose port got room.
use Rattle.std.proofs.Common.{◌≡◌, ◌∙◌, ℕ, ◌+◌, ◌≤◌, Bool, false, List, [], length, ap, arith, subst, sym}
use Rattle.ptu_outside.specs.{MemoryPort.{IsSure, MemoryPort, departure_octets}}
use Rattle.ptu_judges.specs.Held.{Held}
use Rattle.ptu_slave.specs.{Kept.{Kept}, Seen.{Seen}}
use Rattle.ptu_nodes.specs.Standing.{IsIdle}
use Rattle.ptu_world.specs.Deeds.{Slave}
use Rattle.ptu_lab.specs.{NodeStanding.{IsNode, IsSlaveNode}, SlaveWords.{HasRoom}}

-- where room was made
pub room_made : (before after : MemoryPort) (count size : ℕ) → after ≡ record before { datagrams = after.datagrams; octets = after.octets }
    → length before.sent + count ≤ after.datagrams → departure_octets before.sent + size ≤ after.octets → HasRoom after count size
room_made before after count size same more wider =
    let sent : after.sent ≡ before.sent = ap (λ (p : MemoryPort). p.sent) same in
    record {
      datagrams = subst (λ ds. length ds + count ≤ after.datagrams) (sym sent) more;
      octets = subst (λ ds. departure_octets ds + size ≤ after.octets) (sym sent) wider;
    }

-- of a port of which no send is to fail, this is also so with room
pub sure_room : (old room : MemoryPort) (datagrams octets : ℕ) → room.failing_sends ≡ old.failing_sends → HasRoom room datagrams octets → IsSure old [] → IsSure room []
sure_room old room datagrams octets listed has sure = record {
  unlisted = listed ∙ sure.unlisted;
  datagrams = omega (arith, has.datagrams);
  octets = omega (arith, has.octets);
}

-- and when it is cleared
pub sure_cleared : (port : MemoryPort) → IsSure port [] → IsSure (record port { sent = [] }) []
sure_cleared port sure = record {
  unlisted = sure.unlisted;
  datagrams = omega arith;
  octets = omega arith;
}

-- with another idle port it stands for the same slave of a world
pub at_port : (ip : ℕ) (kept : Kept) (judges : List Held) (port other : MemoryPort) (begun still : Bool) (s : Slave) → (still ≡ false → begun ≡ false) → IsIdle other → IsSure other []
    → IsSlaveNode ip kept judges port begun s → IsSlaveNode ip kept judges other still s
at_port ip kept judges port other begun still s before idle sure h = record {
  address = h.address;
  config = h.config;
  masters = h.masters;
  distinct = h.distinct;
  stands = h.stands;
  ruled = h.ruled;
  fresh = λ is. h.fresh (before is);
  idle = idle;
  sure = sure;
}

-- so it does with room
pub roomed : {B : Type 0} (ip : ℕ) (old room : Seen MemoryPort B) (begun : Bool) (s : Slave) (datagrams octets : ℕ) → room ≡ record old { port = room.port } → room.port.sent ≡ old.port.sent
    → room.port.failing_sends ≡ old.port.failing_sends → HasRoom room.port datagrams octets → IsNode ip old begun s → IsNode ip room begun s
roomed ip old room begun s datagrams octets rest sent listed has h =
    subst (λ (x : Seen MemoryPort _). IsNode ip x begun s) (sym rest)
    (at_port ip old.kept old.judges old.port room.port begun begun s (λ is. is) (sent ∙ h.idle) (sure_room old.port room.port datagrams octets listed has h.sure) h)
