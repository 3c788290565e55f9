use Rattle.std.proofs.Common.{refl}
use Rattle.ptu_shared.proofs.Rights.{option_map-or}
use Rattle.ptu_shared.proofs.turning.Turner.and.Goals as goal

pub returns : goal.returns
returns g c =
    let a = c.self.inside in
    let b = c.other.inside in
    rw (← c.self.view_is, ← c.other.view_is, c.or.ensures, c.or-2.ensures, c.or-3.ensures, c.or-4.ensures)
    (rw (option_map-or _ a.t0 b.t0, option_map-or _ a.t1 b.t1, option_map-or _ a.t2 b.t2, option_map-or _ a.t3 b.t3) refl)
