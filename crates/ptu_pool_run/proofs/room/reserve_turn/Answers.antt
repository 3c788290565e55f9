use Rattle.std.proofs.Common.{◌≡◌, ◌*◌, rules, subst, slice_get, Some}
use Rattle.std.proofs.lemmas.Result.{on_ok_weaker}
use Rattle.ptu_outside.specs.MemoryPort.{MemoryPort}
use Rattle.ptu_grandmaster.specs.Gm.{port_at}
use Rattle.ptu_nodes.specs.GrandmasterPorts.{HasRoom}
use Rattle.ptu_pool_run.specs.PoolsStanding.{KeptPools}
use Rattle.ptu_pool_run.proofs.Lent.{room_for_turn}
use Rattle.ptu_pool_run.proofs.room.reserve_turn.Goals as goal

pub returns-clause-room : goal.returns-clause-room
returns-clause-room c =
    let octets : c.in_ok-octets.octets ≡ c.count-datagrams.result * 64 = search rules in
    on_ok_weaker c.reserve.result (λ room gm now.
    room_for_turn c.args.pools.now c.args.place c.args.table c.count-datagrams.result c.reserve.ensures.rest.0 gm c.requires.table c.count-datagrams.ensures
    (subst (λ (k : KeptPools MemoryPort). slice_get k.gms c.args.place ≡ Some gm) c.reserve.ensures.rest.1 now)
    (subst (λ n. HasRoom c.count-datagrams.result n (port_at c.args.table gm)) octets (room gm now)))
    c.reserve.ensures.room
