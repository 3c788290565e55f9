use Rattle.std.proofs.Common.{◌∙◌, ap}
use Rattle.ptu_lanes.specs.Orders.{order_with}
use Rattle.ptu_lanes.proofs.Hearing.{spoke_taken}
use Rattle.ptu_lanes.proofs.service.Service.hear.Goals as goal

pub returns-in-Some-clause-heard : goal.returns-in-Some-clause-heard
returns-in-Some-clause-heard g c =
    let t = c.next_order.ensures in
    (t.spoken, t.is ∙ ap (λ k. order_with k t.spoken) c.unwrap_or-key.ensures, rw c.in-Some.is (spoke_taken g.P.Port _ _ t.spoken t.took))
