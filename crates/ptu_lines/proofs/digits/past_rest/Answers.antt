use Rattle.std.proofs.Common.{length, refl, sym, arith}
use Rattle.ptu_lines.proofs.Encoded.{same_end}
use Rattle.ptu_lines.proofs.digits.past_rest.Goals as goal

pub returns-clause-before : goal.returns-clause-before
returns-clause-before c =
    same_end (length c.args.octets.now) 8 c.args.at c.args.others.now c.args.octets.now (omega (arith, c.if-size-lt-PART.false)) (omega (arith, c.if-size-at-ge-PART.false)) c.requires.before (sym (c.if-not-is_same.ensures.same refl))
