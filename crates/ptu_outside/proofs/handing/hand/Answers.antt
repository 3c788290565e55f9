use Rattle.ptu_outside.proofs.HandsOver.{hands_one}
use Rattle.ptu_outside.proofs.handing.hand.Goals as goal

pub returns : goal.returns
returns g c =
    let e = c.send.ensures in
    hands_one g.P.Port _ _ _ c.send.result e.handed e.kept e.waiting e.risen e.once e.quiet e.no_fall e.goes_on e.sure
