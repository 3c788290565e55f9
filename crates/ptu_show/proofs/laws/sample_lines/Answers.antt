use Rattle.std.proofs.Common.{refl}
use Rattle.std.specs.Fmt.{digits}
use Rattle.hex.specs.Hex.{decode_pairs, encode_with}
use Rattle.ptu_messages.specs.HeaderReading.{header_in}
use Rattle.ptu_messages.specs.TlvsReading.{tlv_in}
use Rattle.ptu_messages.specs.Reading.{tlvs_in, body_in, message_in}
use Rattle.ptu_show.specs.Datagram.{datagram_text}
use Rattle.ptu_show.proofs.laws.sample_lines.Goals as goal

pub returns-clause-datagrams : goal.returns-clause-datagrams
unfolding digits encode_with header_in tlv_in tlvs_in body_in message_in datagram_text
returns-clause-datagrams c = (refl, refl, refl, refl, refl, refl, refl, refl)

pub returns-clause-tlvs : goal.returns-clause-tlvs
unfolding digits
returns-clause-tlvs c = (refl, refl, refl, refl, refl, refl)

pub returns-clause-inputs : goal.returns-clause-inputs
unfolding digits encode_with decode_pairs header_in tlv_in tlvs_in body_in message_in datagram_text
returns-clause-inputs c = (refl, refl, refl, refl, refl, refl, refl, refl, refl)
