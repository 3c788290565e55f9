-- What the command line does with words.
use Rattle.std.proofs.Common.{◌≡◌, ◌≢◌, ◌∙◌, ◌⊎◌, Bool, true, false, List, [], ◌∷◌, Option, Some, None, inl, inr, refl, sym, ap}
use Rattle.std.specs.List.{list_all}
use Rattle.std.proofs.lemmas.Bool.{and_parts}
use Rattle.std.specs.Prelude.{◌&&◌, ◌||◌, not, find, if◌then◌else◌, is_some, IsTrue, codes, option_and_then, option_map}
use Rattle.std.specs.Str.{bytes_eq}
use Rattle.std.proofs.lemmas.Slice.Eq.{bytes_eq-Decides}
use Rattle.clap.specs.Faults.{check_fault, defaults_fault, entered_fault, settle_fault, walk_fault}
use Rattle.clap.specs.{Kinds.{or_else}, Simple.{built, entered, label_of, names_of, rows_at}}
use Rattle.clap.specs.Walk.{answers_to, finished, nothing_held, settled, walk, walk_from}
use Rattle.clap.specs.Words.{App, Kinds, Row, Shape, Text, fault_of, first_of, is_simple, is_simple_and_free, subcommand_of}
use Rattle.clap.proofs.OnLiterals.{clap_on_literals}
use Rattle.ptu_run.specs.declared.command.Command.{Command}
use Rattle.ptu_run.specs.declared.command.Command.TheVariants.{Replay, Show, Serve, Slave, Join, Pools}
use Rattle.ptu_run.specs.CommandLine.{AreWordsRefused, command_after, words_command_by, command_line, command_named, words_command_of, is_out_of_range, audit_of, load_of}

pub simple : is_simple command_line ≡ true
unfolding clap_on_literals
simple = refl

pub free : is_simple_and_free command_line ≡ true
unfolding clap_on_literals
free = refl

-- the first parts of pairs
pub first_parts : {B A R : Type 0} (n : B → A) (r : B → R) (o : Option B) → option_map (λ (p : A × R). p.0) (option_map (λ b. (n b, r b)) o) ≡ option_map n o
first_parts n r None = refl
first_parts n r (Some b) = refl

-- a pair from its two parts
pub pair_is : {A B : Type 0} (a : A) (b : B) (o : Option (A × B)) → option_map (λ p. p.0) o ≡ Some a → option_map (λ p. p.1) o ≡ Some b → o ≡ Some (a, b)
pair_is a b None e h = absurd (let never : None ≡ Some a = e in cc)
pair_is a b (Some p) e h =
    let first : p.0 ≡ a = (let same : Some p.0 ≡ Some a = e in cc) in
    let second : p.1 ≡ b = (let same : Some p.1 ≡ Some b = h in cc) in
    ap (λ x. Some (x, p.1)) first ∙ ap (λ y. Some (a, y)) second

after_none : (faults : Kinds) (subcommand : Option (Text × List Row)) → faults ≡ []
    → option_and_then words_command_by subcommand ≡ command_after faults subcommand
after_none [] subcommand e = refl
after_none (fault ∷ faults) subcommand e = cc

-- matched words ask for the command of that subcommand
pub asked : (words : List Text) → fault_of command_line words ≡ []
    → option_and_then words_command_by (subcommand_of command_line words) ≡ words_command_of words
unfolding words_command_of
asked words e = after_none (fault_of command_line words) (subcommand_of command_line words) e

after_some : (faults : Kinds) (subcommand : Option (Text × List Row)) → faults ≢ [] → command_after faults subcommand ≡ None
after_some [] subcommand e = absurd (e refl)
after_some (fault ∷ faults) subcommand e = refl

-- words that are not matched ask for none
pub unmatched : (words : List Text) → fault_of command_line words ≢ [] → words_command_of words ≡ None
unfolding words_command_of
unmatched words e = after_some (fault_of command_line words) (subcommand_of command_line words) e

-- of several lists of faults the last is empty where all are
last_empty : (a b c d e : Kinds) → or_else a (or_else b (or_else c (or_else d e))) ≡ [] → e ≡ []
last_empty [] [] [] [] e h = h
last_empty [] [] [] (k ∷ d) e h = absurd (let never : k ∷ d ≡ [] = h in cc)
last_empty [] [] (k ∷ c) d e h = absurd (let never : k ∷ c ≡ [] = h in cc)
last_empty [] (k ∷ b) c d e h = absurd (let never : k ∷ b ≡ [] = h in cc)
last_empty (k ∷ a) b c d e h = absurd (let never : k ∷ a ≡ [] = h in cc)

-- a name of a command
abbrev is_known : Text → Bool
is_known name =
    bytes_eq name (codes "replay") || (bytes_eq name (codes "show") || (bytes_eq name (codes "load")
    || (bytes_eq name (codes "serve") || (bytes_eq name (codes "slave") || (bytes_eq name (codes "join") || (bytes_eq name (codes "audit") || bytes_eq name (codes "pools")))))))

-- a subcommand of such a name
abbrev is_command : Option (Text × List Row) → Bool
is_command None = false
is_command (Some p) = is_known p.0

abbrev line : App
line = built command_line

-- the name of a subcommand is that of a command
abbrev is_named : Shape → Bool
is_named s = is_known s.name

found_is_named : (words : List Text) (test : Shape → Bool) (subs : List Shape) → list_all is_named subs ≡ true
    → is_some (option_map (λ s. rows_at s words) (find test subs)) ≡ true → is_command (option_map (λ s. rows_at s words) (find test subs)) ≡ true
found_is_named words test [] all = λ h. h
found_is_named words test (s ∷ subs) all =
    let parts = and_parts (is_named s) (list_all is_named subs) all in
    by (test s) parts.0 (found_is_named words test subs parts.1)
  where
    by : (b : Bool) → is_named s ≡ true
        → (is_some (option_map (λ s. rows_at s words) (find test subs)) ≡ true → is_command (option_map (λ s. rows_at s words) (find test subs)) ≡ true)
        → is_some (option_map (λ s. rows_at s words) (if b then Some s else find test subs)) ≡ true
        → is_command (option_map (λ s. rows_at s words) (if b then Some s else find test subs)) ≡ true
    by true this others = λ h. this
    by false this others = others

-- a subcommand of the command line has a command
entered_is_named : (stop : Option (Text × List Text)) → is_some (entered line stop) ≡ true → is_command (entered line stop) ≡ true
entered_is_named None = λ h. h
entered_is_named (Some p) = found_is_named p.1 (λ s. answers_to p.0 (label_of s)) line.subs refl

-- where a subcommand is required and none is entered, that is a fault
enters : (rows : List Row) (has_subcommand : Bool) → check_fault line.top rows has_subcommand ≡ [] → has_subcommand ≡ true
enters rows true e = refl
enters rows false e = absurd (let never = e in cc)

-- matched words name a command
named_where_matched : (words : List Text) → fault_of command_line words ≡ [] → is_command (subcommand_of command_line words) ≡ true
named_where_matched words e =
    let walked = walk line.top.rules (names_of line) nothing_held words in
    let last = last_empty (walk_fault line.top (names_of line) (walk_from nothing_held) words) (entered_fault line walked.stopped)
    (settle_fault line.top.rules line.top.args_override_self walked.held) (defaults_fault (settled line.top.rules walked.held).rows line.top.rules) _ e in
    let within : is_some (entered line walked.stopped) ≡ true = enters (finished line.top.rules walked.held) _ last in
    entered_is_named walked.stopped within

-- a command that is named is asked for, but for a load or an audit of no number in the range
only_out_of_range : (o : Option (Text × List Row)) → is_command o ≡ true → option_and_then words_command_by o ≡ None → IsTrue (is_out_of_range o)
only_out_of_range None known none = absurd (let never : false ≡ true = known in cc)
only_out_of_range (Some p) known none =
    by (bytes_eq p.0 (codes "replay")) (bytes_eq p.0 (codes "show")) (bytes_eq p.0 (codes "load")) (bytes_eq p.0 (codes "serve")) (bytes_eq p.0 (codes "slave")) (bytes_eq p.0 (codes "join"))
    (bytes_eq p.0 (codes "audit")) (bytes_eq p.0 (codes "pools")) (load_of (first_of (codes "N") p.1)) (audit_of (first_of (codes "N") p.1)) known none
  where
    by : (a b c d e f g h : Bool) (load audit : Option Command) → (a || (b || (c || (d || (e || (f || (g || h))))))) ≡ true
        → (if a then Some Replay else if b then Some Show else if c then load else if d then Some Serve else if e then Some Slave
        else if f then Some Join else if g then audit else if h then Some Pools else None) ≡ None
        → ((c && not (is_some load)) || (g && not (is_some audit))) ≡ true
    by true b c d e f g h load audit known none = absurd (let never : Some Replay ≡ None = none in cc)
    by false true c d e f g h load audit known none = absurd (let never : Some Show ≡ None = none in cc)
    by false false true d e f g h None audit known none = refl
    by false false true d e f g h (Some x) audit known none = absurd (let never : Some x ≡ None = none in cc)
    by false false false true e f g h load audit known none = absurd (let never : Some Serve ≡ None = none in cc)
    by false false false false true f g h load audit known none = absurd (let never : Some Slave ≡ None = none in cc)
    by false false false false false true g h load audit known none = absurd (let never : Some Join ≡ None = none in cc)
    by false false false false false false true h load None known none = refl
    by false false false false false false true h load (Some x) known none = absurd (let never : Some x ≡ None = none in cc)
    by false false false false false false false true load audit known none = absurd (let never : Some Pools ≡ None = none in cc)
    by false false false false false false false false load audit known none = absurd (let never : false ≡ true = known in cc)

nothing_loaded : (load : Option Command) → not (is_some load) ≡ true → load ≡ None
nothing_loaded None e = refl
nothing_loaded (Some x) e = absurd (let never : false ≡ true = e in cc)

-- one of two tests holds where they do together
either_holds : (a b : Bool) → (a || b) ≡ true → (a ≡ true) ⊎ (b ≡ true)
either_holds true b e = inl refl
either_holds false b e = inr e

-- and such a load or audit is none
out_of_range : (o : Option (Text × List Row)) → IsTrue (is_out_of_range o) → option_and_then words_command_by o ≡ None
out_of_range None out = absurd (let never : false ≡ true = out in cc)
out_of_range (Some p) out =
    let value = first_of (codes "N") p.1 in
    elim (either_holds (bytes_eq p.0 (codes "load") && not (is_some (load_of value))) (bytes_eq p.0 (codes "audit") && not (is_some (audit_of value))) out) [
      | inl load ↦
          let parts = and_parts (bytes_eq p.0 (codes "load")) (not (is_some (load_of value))) load in
          let name : p.0 ≡ codes "load" = (bytes_eq-Decides p.0 (codes "load")).0 parts.0 in
          ap (λ n. command_named n value) name ∙ nothing_loaded (load_of value) parts.1
      | inr audit ↦
          let parts = and_parts (bytes_eq p.0 (codes "audit")) (not (is_some (audit_of value))) audit in
          let name : p.0 ≡ codes "audit" = (bytes_eq-Decides p.0 (codes "audit")).0 parts.0 in
          ap (λ n. command_named n value) name ∙ nothing_loaded (audit_of value) parts.1
    ]

-- refused words ask for none
pub refused : (words : List Text) → AreWordsRefused words → words_command_of words ≡ None
refused words (inl unlike) = unmatched words unlike
refused words (inr out) = by (fault_of command_line words) refl
  where
    by : (faults : Kinds) → fault_of command_line words ≡ faults → words_command_of words ≡ None
    by [] e = sym (asked words e) ∙ out_of_range (subcommand_of command_line words) out
    by (fault ∷ faults) e = unmatched words (λ none. let never : fault ∷ faults ≡ [] = sym e ∙ none in cc)

-- and words that ask for none are refused
pub unnamed : (words : List Text) → words_command_of words ≡ None → AreWordsRefused words
unnamed words none = by (fault_of command_line words) refl
  where
    by : (faults : Kinds) → fault_of command_line words ≡ faults → AreWordsRefused words
    by [] e = inr (only_out_of_range (subcommand_of command_line words) (named_where_matched words e) (asked words e ∙ none))
    by (fault ∷ faults) e = inl (λ matched. let never : fault ∷ faults ≡ [] = sym e ∙ matched in cc)
