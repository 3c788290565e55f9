use Rattle.ptu_messages.proofs.Readings.{found_is, refused_is, message_in-spelled, message_in-faulty}
use Rattle.ptu_messages.proofs.laws.reading_is_spelling.Goals as goal

pub returns-clause-found : goal.returns-clause-found
returns-clause-found c = λ octets message. (found_is octets message, message_in-spelled octets message)

pub returns-clause-refused : goal.returns-clause-refused
returns-clause-refused c = λ octets fault. (refused_is octets fault, message_in-faulty octets fault)
