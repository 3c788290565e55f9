-- The words that a line may begin with, and how many words it has.
use Rattle.std.specs.Prelude.{ℕ, ◌==◌, if◌then◌else◌, Bool, List, [], ◌∷◌, length, Option, Some, None, Result, Ok, Err, find, codes, unwrap_or}
use Rattle.std.specs.{List.{list_any}, Str.{bytes_eq}}
use Rattle.ptu_lines.specs.Words.{word_of, words_of}
use Rattle.ptu_lines.specs.declared.cause.LineCause.{LineCause}
use Rattle.ptu_lines.specs.declared.cause.LineCause.TheVariants.{Count, Word}
use Rattle.ptu_script.specs.declared.verb.Verb.{Verb}
use Rattle.ptu_script.specs.declared.verb.Verb.TheVariants.{Gm, Slave, Master, Rx, Deliver, Turn, Tick, Flag, Judge, Stop, Class, Capacity}

abbrev pub verbs : List Verb
verbs = Rx ∷ Deliver ∷ Tick ∷ Turn ∷ Gm ∷ Slave ∷ Master ∷ Flag ∷ Judge ∷ Stop ∷ Class ∷ Capacity ∷ []

-- the word itself
abbrev pub name_of : Verb → List ℕ
name_of Gm = codes "gm"
name_of Slave = codes "slave"
name_of Master = codes "master"
name_of Rx = codes "rx"
name_of Deliver = codes "deliver"
name_of Turn = codes "turn"
name_of Tick = codes "tick"
name_of Flag = codes "flag"
name_of Judge = codes "judge"
name_of Stop = codes "stop"
name_of Class = codes "class"
name_of Capacity = codes "capacity"

-- how many words its lines have, the first one counted
abbrev pub counts_of : Verb → List ℕ
counts_of Gm = 8 ∷ []
counts_of Slave = 12 ∷ 13 ∷ []
counts_of Master = 5 ∷ []
counts_of Rx = 5 ∷ []
counts_of Deliver = 3 ∷ []
counts_of Turn = 4 ∷ []
counts_of Tick = 3 ∷ []
counts_of Flag = 5 ∷ []
counts_of Judge = 5 ∷ []
counts_of Stop = 3 ∷ []
counts_of Class = 3 ∷ []
counts_of Capacity = 4 ∷ []

-- the line has one of these numbers of words
abbrev pub has_count : List ℕ → List ℕ → Bool
has_count counts line = list_any (λ count. count == length (words_of line)) counts

-- a line that begins with the word may have as many words as this line
abbrev pub is_counted : Verb → List ℕ → Bool
is_counted verb line = has_count (counts_of verb) line

-- ---- of scripts of any sort, by all that a line may begin with, their words, and the numbers of words

-- the command that the word names, if it names one
abbrev pub verb_among : {V : Type 0} → List V → (V → List ℕ) → List ℕ → Option V
verb_among every name word = find (λ verb. bytes_eq word (name verb)) every

-- this command, where a line that begins with it may have as many words
abbrev pub counted_verb : {V : Type 0} → (V → List ℕ → Bool) → Option V → List ℕ → Result V LineCause
counted_verb counted None line = Err Word
counted_verb counted (Some verb) line = if counted verb line then Ok verb else Err Count

-- the command that the first word of a line names, or why the line is refused
abbrev pub verb_in : {V : Type 0} → List V → (V → List ℕ) → (V → List ℕ → Bool) → List ℕ → Result V LineCause
verb_in every name counted line = counted_verb counted (verb_among every name (unwrap_or (word_of line 1) [])) line
