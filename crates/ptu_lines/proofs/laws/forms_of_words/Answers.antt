use Rattle.std.proofs.Common.{refl}
use Rattle.hex.specs.Hex.{decode_pairs}
use Rattle.ptu_lines.proofs.laws.forms_of_words.Goals as goal

pub returns-clause-octets : goal.returns-clause-octets
unfolding decode_pairs
returns-clause-octets c = refl
