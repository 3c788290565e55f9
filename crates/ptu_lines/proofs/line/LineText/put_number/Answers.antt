use Rattle.std.proofs.{Common.{rules}, lemmas.Fmt.{length-decimal-le}}
use Rattle.ptu_lines.proofs.line.LineText.put_number.Goals as goal

pub write_digits-self-inside-requires : goal.write_digits-self-inside-requires
write_digits-self-inside-requires c = search (rules, length-decimal-le 20)

pub returns-clause-room : goal.returns-clause-room
returns-clause-room c = search (rules, length-decimal-le 20)
