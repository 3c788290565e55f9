-- What a slave's daemon writes. The words are the project's own choice.
use Rattle.std.specs.Prelude.{ℕ, Bool, true, false, cond, ◌==◌, List, [], ◌∷◌, ◌++◌, codes, length, map, Option, Some, None}
use Rattle.std.specs.Fmt.{decimal}
use Rattle.ptu_record.specs.Record.{Record}
use Rattle.ptu_slave_messages.specs.Node.{Node}
use Rattle.ptu_lines.specs.Texts.{address_text}
use Rattle.ptu_config.specs.{declared.settings.SlaveSettings.{SlaveSettings}, Rounds.{all_slave_rounds}}
use Rattle.ptu_slave_daemon.specs.declared.line.SlaveLine.{SlaveLine}
use Rattle.ptu_slave_daemon.specs.declared.line.SlaveLine.TheVariants.{Selected, Closing}
use Rattle.ptu_slave_daemon.specs.Opening.{node_of}
use Rattle.ptu_slave_daemon.specs.Happenings.{SlaveHappening, Selection, selections_in, sent_by_happenings}

-- the address of the master that is selected, or `none`
abbrev pub master_text : Option ℕ → List ℕ
master_text None = codes "none"
master_text (Some ip) = address_text ip

-- a line, with the 0A at its end
abbrev pub slave_line_text : SlaveLine → List ℕ
slave_line_text (Selected round master) =
    codes "round " ++ (decimal round ++ (codes " selected " ++ (master_text master ++ codes "\n")))
slave_line_text (Closing rounds sent failed) =
    codes "rounds " ++ (decimal rounds ++ (codes " sent " ++ (decimal sent
    ++ (codes " failed " ++ (decimal failed ++ codes "\n")))))

-- two selections are of one master, or both of none
abbrev pub is_same_selection : Option ℕ → Option ℕ → Bool
is_same_selection None None = true
is_same_selection (Some a) (Some b) = a == b
is_same_selection _ _ = false

-- this was written last
abbrev pub is_said : Option (Option ℕ) → Option ℕ → Bool
is_said None master = false
is_said (Some last) master = is_same_selection last master

-- the selections that are written: the first, and each that differs from the last one written, where one was
abbrev pub changes : Option (Option ℕ) → List Selection → List Selection
changes said [] = []
changes said (s ∷ later) = cond (is_said said s.master) (changes said later) (s ∷ changes (Some s.master) later)

-- what is written of one more
abbrev pub said_next : Option (Option ℕ) → Selection → List Selection
said_next said s = cond (is_said said s.master) [] (s ∷ [])

abbrev pub selected_line : Selection → SlaveLine
selected_line s = Selected s.round s.master

-- the whole output: the selections that are written, and the closing line
abbrev pub output : ℕ → List Selection → (sent failed : ℕ) → List SlaveLine
output rounds selections sent failed = map selected_line selections ++ Closing rounds sent failed ∷ []

-- that of so many rounds in which all this happens to the slave after this record, where no port fails
abbrev pub output_from : ℕ → Node → Record → List SlaveHappening → List SlaveLine
output_from rounds node L hs =
    output rounds (changes None (selections_in node L hs)) (length (sent_by_happenings node L hs)) 0

-- that of a daemon with these settings
abbrev pub slave_output_of : SlaveSettings → List SlaveHappening → List SlaveLine
slave_output_of s hs = output_from (all_slave_rounds s) (node_of s) [] hs

abbrev pub slave_texts : List SlaveLine → List (List ℕ)
slave_texts lines = map slave_line_text lines
