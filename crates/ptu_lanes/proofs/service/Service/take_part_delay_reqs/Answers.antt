use Rattle.std.proofs.Common.{refl}
use Rattle.ptu_lanes.proofs.Stretching.{delays-append, delays_none}
use Rattle.ptu_lanes.proofs.service.Service.take_part_delay_reqs.Goals as goal

pub loop-i-init : goal.loop-i-init
loop-i-init g c = record { done = c.requires.fresh; took = delays_none g.P.Port g.C.Clock _ _ _ }

pub loop-i-preserved : goal.loop-i-preserved
loop-i-preserved g c = record {
  done = refl;
  took = delays-append g.P.Port g.C.Clock c.loop-i.i 1 _ _ _ _ _ _ _ _ _ c.loop-i.invariant.took (rw c.in_ok-next.ensures at c.take_delay_reqs.ensures);
}

pub returns-then-not-branch : goal.returns-then-not-branch
returns-then-not-branch g c =
    delays-append g.P.Port g.C.Clock c.loop-i.i 1 _ _ _ _ _ _ _ _ _ c.loop-i.invariant.took (rw c.in_ok-next.ensures at c.take_delay_reqs.ensures)

pub returns : goal.returns
returns g c = rw c.loop-i.invariant.done c.loop-i.invariant.took
