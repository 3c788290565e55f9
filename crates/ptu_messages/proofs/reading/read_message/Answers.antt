use Rattle.ptu_messages.proofs.Outcomes.{is_spelled, is_faulty, is_value, is_read, is_refused}
use Rattle.ptu_messages.proofs.reading.read_message.Goals as goal

pub returns-clause-spelled : goal.returns-clause-spelled
returns-clause-spelled c = is_spelled c.args.bytes.now c.read.result c.read.ensures.value

pub returns-clause-faulty : goal.returns-clause-faulty
returns-clause-faulty c = is_faulty c.args.bytes.now c.read.result c.read.ensures.value

pub returns-clause-read : goal.returns-clause-read
returns-clause-read c = is_read c.args.bytes.now c.read.result c.read.ensures.value

pub returns-clause-refused : goal.returns-clause-refused
returns-clause-refused c = is_refused c.args.bytes.now c.read.result c.read.ensures.value

pub returns-clause-value : goal.returns-clause-value
returns-clause-value c = is_value c.args.bytes.now c.read.result c.read.ensures.value
