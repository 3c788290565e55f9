use Rattle.std.proofs.Common.{◌≡◌, ◌+◌, ◌≤◌, refl, sym, ap, length, List, Some, slice_get, subst}
use Rattle.ptu_outside.specs.{Departure.{Departure}, MemoryPort.{MemoryPort, departure_octets}}
use Rattle.ptu_grandmaster.specs.Gm.{KeptGm}
use Rattle.ptu_nodes.specs.GrandmasterPorts.{HasRoom}
use Rattle.ptu_pool_run.proofs.Lent.{lent_is, on_ok_two, port_left, still_idle, still_sure}
use Rattle.ptu_pool_run.proofs.room.reserve.Goals as goal

pub returns-clause-kept : goal.returns-clause-kept
returns-clause-kept c =
    let lent = λ (gm : KeptGm MemoryPort) (at : slice_get c.args.pools.now.gms c.args.place ≡ Some gm).
    lent_is c.args.pools.now.gms c.args.place c.args.index gm c.ports.result.now at c.ports.ensures.value in
    record {
      go_on = record { pools = refl; stand = c.ports.ensures.stands c.reserve.new.self };
      idle = still_idle c.args.pools.now c.args.place c.args.index c.ports.result.now c.reserve.new.self lent (ap (λ (p : MemoryPort). p.sent) c.reserve.ensures.same);
      sure = still_sure c.args.pools.now c.args.place c.args.index c.ports.result.now c.reserve.new.self lent (ap (λ (p : MemoryPort). p.failing_sends) c.reserve.ensures.same);
    }

pub returns-clause-rest : goal.returns-clause-rest
returns-clause-rest c = (c.reserve.new.self, refl)

pub returns-clause-room : goal.returns-clause-room
returns-clause-room c = on_ok_two c.reserve.result (λ room wider gm now.
    subst (HasRoom c.args.datagrams c.args.octets) (sym (port_left c.args.pools.now.gms c.args.place c.args.index c.reserve.new.self gm now))
    (subst (λ (l : List Departure). (length l + c.args.datagrams ≤ c.reserve.new.self.datagrams) × (departure_octets l + c.args.octets ≤ c.reserve.new.self.octets))
    (sym (ap (λ (p : MemoryPort). p.sent) c.reserve.ensures.same)) (room, wider)))
    c.reserve.ensures.datagrams c.reserve.ensures.octets
