use Rattle.ptu_messages.proofs.Outcomes.{is_value}
use Rattle.ptu_messages.proofs.reading.read_message_in.Goals as goal

pub returns-clause-value : goal.returns-clause-value
returns-clause-value c = is_value c.args.bytes.now c.read.result c.read.ensures.value
