use Rattle.ptu_grandmaster.proofs.After.{asked}
use Rattle.ptu_grandmaster.proofs.gm.Gm.decide.Goals as goal

pub returns-clause-decided : goal.returns-clause-decided
returns-clause-decided g c =
    let keeps = c.judge-verdict.ensures.keeps in
    rw c.note.ensures (
    asked c.args.t c.args.client.now c.args.ask.now c.args.self.now c.judge-verdict.new.self c.judge-verdict.result c.judge-verdict.ensures.decided
    (record { granted = keeps.granted; refused = keeps.refused; sequence = keeps.ports.sequence })
    )
