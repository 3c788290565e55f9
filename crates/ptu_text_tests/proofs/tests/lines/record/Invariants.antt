use Rattle.ptu_lines.specs.{Lines.{reader_of, source_of}, Reading.{AgreesOnEnd}}
use Rattle.ptu_text_tests.proofs.tests.lines.record.Given as goal

abbrev pub invariant-loop : goal.invariant-loop
invariant-loop g l = AgreesOnEnd (reader_of l.lines).is_ended (g.S.Source.left (source_of l.lines))
