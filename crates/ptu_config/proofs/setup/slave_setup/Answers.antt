use Rattle.ptu_config.specs.{Entries.{slave_entries}, Refusals.{slave_refusal}}
use Rattle.ptu_config.proofs.Answering.{answers_all, long_slave}
use Rattle.ptu_config.proofs.setup.slave_setup.Goals as goal

pub returns-clause-answers : goal.returns-clause-answers
returns-clause-answers g c = λ input is.
    answers_all slave_entries (slave_refusal c.args.flags c.args.gaps) (long_slave c.args.flags c.args.gaps) _ _ _ input c.slave_of.result
    c.in_ok-octets.ensures.taken is (rw c.deref.ensures.value at c.slave_of.ensures.answers)
