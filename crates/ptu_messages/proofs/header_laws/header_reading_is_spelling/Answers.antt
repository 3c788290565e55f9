use Rattle.ptu_messages.proofs.HeaderReadings.{found_is, refused_is, header_in-spelled, header_in-faulty}
use Rattle.ptu_messages.proofs.header_laws.header_reading_is_spelling.Goals as goal

pub returns-clause-found : goal.returns-clause-found
returns-clause-found c = λ octets header n. (found_is octets header n, header_in-spelled octets header n)

pub returns-clause-refused : goal.returns-clause-refused
returns-clause-refused c = λ octets fault. (refused_is octets fault, header_in-faulty octets fault)
