use Rattle.std.proofs.Common.{◌≡◌, ◌≤◌, ◌+◌, ◌++◌, drop, length}
use Rattle.ptu_report_lines.specs.Words.{most_of, spaced_text, word_texts}
use Rattle.ptu_report_lines.proofs.words.put_spaced.Given as goal

abbrev pub invariant-words : goal.invariant-words
invariant-words l = record {
  within : l.left ≤ length l.words;
  text : l.line.text ≡ spaced_text (word_texts (drop l.left l.words)) ++ l.initial.line.text;
  room : l.initial.line.room ≤ l.line.room + most_of (drop l.left l.words);
}

abbrev pub decreases-words : goal.decreases-words
decreases-words l = l.left
