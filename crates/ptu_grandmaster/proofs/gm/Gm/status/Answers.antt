use Rattle.std.proofs.Common.{rules, ◌≡◌, refl}
use Rattle.ptu_grandmaster.proofs.LiveCounts.{status_is}
use Rattle.ptu_grandmaster.proofs.gm.Gm.status.Goals as goal

pub returns-clause-stands : goal.returns-clause-stands
returns-clause-stands g c = λ opening history stood.
    let capacity : c.capacity.result ≡ c.args.self.now.book.capacity = search rules in
    let granted : c.self.inside.granted ≡ c.args.self.now.granted = search rules in
    let refused : c.self.inside.refused ≡ c.args.self.now.refused = search rules in
    status_is opening c.args.self.now history stood _ _ c.reached-moment.ensures c.live_at-live.ensures refl refl refl refl capacity granted refused
