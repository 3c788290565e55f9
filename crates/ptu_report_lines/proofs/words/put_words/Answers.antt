use Rattle.std.proofs.Common.{rules, append_assoc}
use Rattle.ptu_report_lines.specs.Words.{word_text}
use Rattle.ptu_report_lines.proofs.Spaced.{words_text_spaced}
use Rattle.ptu_report_lines.proofs.words.put_words.Goals as goal

pub returns-in-Some-clause-text : goal.returns-in-Some-clause-text
returns-in-Some-clause-text c =
    search (rules, words_text_spaced (word_text c.in-Some.first.now), append_assoc)
