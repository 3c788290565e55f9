use Rattle.ptu_messages.proofs.TlvsReadings.{found_is, refused_is, tlv_in-spelled, tlv_in-faulty}
use Rattle.ptu_messages.proofs.tlvs_laws.tlv_reading_is_spelling.Goals as goal

pub returns-clause-found : goal.returns-clause-found
returns-clause-found c = λ octets tlv size. (found_is octets tlv size, tlv_in-spelled octets tlv size)

pub returns-clause-refused : goal.returns-clause-refused
returns-clause-refused c = λ octets fault. (refused_is octets fault, tlv_in-faulty octets fault)
