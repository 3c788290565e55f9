use Rattle.std.proofs.Common.{◌∙◌, sym}
use Rattle.ptu_grandmaster.proofs.After.{cancelled}
use Rattle.ptu_grandmaster.proofs.gm.Gm.cancel.Goals as goal

pub returns-clause-decided : goal.returns-clause-decided
returns-clause-decided g c =
    let keeps = c.end.ensures.keeps in
    cancelled c.args.t c.args.client.now c.args.code c.in_ok-kind.kind c.args.self.now c.end.new.self c.end.result (sym c.of.ensures ∙ c.in_ok-kind.was) c.end.ensures.decided
    (record { granted = keeps.granted; refused = keeps.refused; sequence = keeps.ports.sequence })
