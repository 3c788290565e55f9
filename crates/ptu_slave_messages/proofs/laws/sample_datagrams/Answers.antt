use Rattle.std.proofs.Common.{refl}
use Rattle.ptu_messages.specs.HeaderReading.{header_in}
use Rattle.ptu_messages.specs.TlvsReading.{tlv_in}
use Rattle.ptu_messages.specs.Reading.{body_in, message_in, tlvs_in}
use Rattle.ptu_slave_messages.proofs.laws.sample_datagrams.Goals as goal

pub returns-clause-sent : goal.returns-clause-sent
returns-clause-sent c = (refl, refl, refl, refl)

pub returns-clause-ignored : goal.returns-clause-ignored
unfolding header_in tlv_in tlvs_in body_in message_in
returns-clause-ignored c = (refl, refl, refl, refl, refl, refl, refl, refl, refl)
