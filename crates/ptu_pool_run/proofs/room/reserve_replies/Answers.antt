use Rattle.std.proofs.{Common.{ap}, lemmas.Result.{on_ok_weaker}}
use Rattle.ptu_outside.specs.MemoryPort.{MemoryPort}
use Rattle.ptu_pool_run.specs.PoolsStanding.{KeptPools}
use Rattle.ptu_pool_run.proofs.Lent.{go_on_twice as both, room_for_replies}
use Rattle.ptu_pool_run.proofs.room.reserve_replies.Goals as goal

pub returns-in_err-reserve-2-clause-kept : goal.returns-in_err-reserve-2-clause-kept
returns-in_err-reserve-2-clause-kept c = both c.reserve.ensures.kept c.reserve-2.ensures.kept

pub returns-in_err-reserve-3-clause-kept : goal.returns-in_err-reserve-3-clause-kept
returns-in_err-reserve-3-clause-kept c = both (both c.reserve.ensures.kept c.reserve-2.ensures.kept) c.reserve-3.ensures.kept

pub returns-in_err-reserve-4-clause-kept : goal.returns-in_err-reserve-4-clause-kept
returns-in_err-reserve-4-clause-kept c =
    both (both (both c.reserve.ensures.kept c.reserve-2.ensures.kept) c.reserve-3.ensures.kept) c.reserve-4.ensures.kept

pub returns-clause-kept : goal.returns-clause-kept
returns-clause-kept c =
    both (both (both (both c.reserve.ensures.kept c.reserve-2.ensures.kept) c.reserve-3.ensures.kept) c.reserve-4.ensures.kept) c.reserve-5.ensures.kept

pub returns-clause-room : goal.returns-clause-room
returns-clause-room c = on_ok_weaker c.reserve-5.result (λ room gm now.
    room_for_replies c.args.place c.args.pools.now.gms c.reserve.new.pools.gms c.reserve-2.new.pools.gms c.reserve-3.new.pools.gms c.reserve-4.new.pools.gms c.reserve-5.new.pools.gms
    c.in_ok-reserve.ensures.rest.0 c.in_ok-reserve-2.ensures.rest.0 c.in_ok-reserve-3.ensures.rest.0 c.in_ok-reserve-4.ensures.rest.0 c.reserve-5.ensures.rest.0
    (ap (λ (k : KeptPools MemoryPort). k.gms) c.in_ok-reserve.ensures.rest.1) (ap (λ (k : KeptPools MemoryPort). k.gms) c.in_ok-reserve-2.ensures.rest.1)
    (ap (λ (k : KeptPools MemoryPort). k.gms) c.in_ok-reserve-3.ensures.rest.1) (ap (λ (k : KeptPools MemoryPort). k.gms) c.in_ok-reserve-4.ensures.rest.1)
    (ap (λ (k : KeptPools MemoryPort). k.gms) c.reserve-5.ensures.rest.1)
    c.in_ok-reserve.ensures.room c.in_ok-reserve-2.ensures.room c.in_ok-reserve-3.ensures.room c.in_ok-reserve-4.ensures.room room gm now)
    c.reserve-5.ensures.room
