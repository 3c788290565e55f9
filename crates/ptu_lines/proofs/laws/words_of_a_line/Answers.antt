use Rattle.std.proofs.Common.{nat_eq}
use Rattle.std.proofs.lemmas.List.Splits.{join_with_byte-slice_split, length-slice_split}
use Rattle.ptu_lines.proofs.laws.words_of_a_line.Goals as goal

pub returns-clause-joined : goal.returns-clause-joined
returns-clause-joined c = join_with_byte-slice_split 32

pub returns-clause-count : goal.returns-clause-count
returns-clause-count c = length-slice_split (λ octet. nat_eq octet 32)
