use Rattle.std.proofs.Common.{refl}
use Rattle.std.specs.Fmt.{digits}
use Rattle.hex.specs.Hex.{decode_pairs, encode_with}
use Rattle.ptu_messages.specs.HeaderReading.{header_in}
use Rattle.ptu_messages.specs.Reading.{body_in, message_in}
use Rattle.ptu_show.specs.Halves.{half_in}
use Rattle.ptu_show.proofs.laws.sample_joins.Goals as goal

pub returns-clause-spelled : goal.returns-clause-spelled
unfolding header_in body_in message_in half_in
returns-clause-spelled c = (refl, refl, refl, refl, refl)

pub returns-clause-inputs : goal.returns-clause-inputs
unfolding digits encode_with decode_pairs header_in body_in message_in half_in
returns-clause-inputs c = (refl, refl, refl, refl, refl, refl, refl, refl, refl)
