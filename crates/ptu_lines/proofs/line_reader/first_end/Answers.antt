use Rattle.ptu_lines.specs.Script.{is_end}
use Rattle.ptu_lines.proofs.Separators.{position_is}
use Rattle.ptu_lines.proofs.line_reader.first_end.Goals as goal

pub returns : goal.returns
returns c = position_is is_end c.args.octets.now c.memchr.result c.memchr.ensures
