use Rattle.ptu_record.proofs.OwnParts.{delay_req_numbers, signaling_numbers}
use Rattle.ptu_record.proofs.steps.numbers.Goals as goal

pub returns-clause-signalings : goal.returns-clause-signalings
returns-clause-signalings c = signaling_numbers

pub returns-clause-delay_reqs : goal.returns-clause-delay_reqs
returns-clause-delay_reqs c = delay_req_numbers
