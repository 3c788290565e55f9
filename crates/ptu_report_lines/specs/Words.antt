-- The words that lines consist of, and how many octets they have at most.
use Rattle.std.specs.Prelude.{ℕ, ◌+◌, ◌∷◌, [], List, ◌++◌, map, length}
use Rattle.std.specs.Fmt.{decimal, signed_decimal}
use Rattle.ptu_report_lines.specs.declared.words.Word.{Word}
use Rattle.ptu_report_lines.specs.declared.words.Word.TheVariants as words
use Rattle.ptu_lines.specs.Texts.{address_text, identity_text, kind_text}
use Rattle.ptu_report_lines.specs.Statements.{channel_text, code_text, selected_text}

abbrev pub word_text : Word → List ℕ
word_text (words.Name name) = name.now
word_text (words.Number number) = decimal number
word_text (words.Log log) = signed_decimal log
word_text (words.Kind kind) = kind_text kind
word_text (words.Code code) = code_text code
word_text (words.Address ip) = address_text ip
word_text (words.Identity identity) = identity_text identity
word_text (words.Channel channel) = channel_text channel
word_text (words.Selected master) = selected_text master

abbrev pub word_texts : List Word → List (List ℕ)
word_texts words = map word_text words

-- how many octets a word has at most
abbrev pub most : Word → ℕ
most (words.Name name) = length name.now
most (words.Number number) = 20
most (words.Log log) = 4
most (words.Kind kind) = 10
most (words.Code code) = 10
most (words.Address ip) = 15
most (words.Identity identity) = 37
most (words.Channel channel) = 7
most (words.Selected master) = 15

-- words, each behind a space, and how many octets they have at most
abbrev pub spaced_text : List (List ℕ) → List ℕ
spaced_text [] = []
spaced_text (word ∷ words) = 32 ∷ (word ++ spaced_text words)

abbrev pub most_of : List Word → ℕ
most_of [] = 0
most_of (word ∷ words) = 1 + most word + most_of words
