-- What a program over lines has read and written.
use Rattle.std.specs.{Prelude.{◌≡◌, ℕ, Bool, nat_lt, List, length, map, Option}, List.{filter}}
use Rattle.std.specs.Io.KnownBytes.{append_known, prepend_known}
use Rattle.ptu_outside.specs.Handing.{HasPut, joined}
use Rattle.ptu_lines.specs.Script.{ScriptLine, Whole, pieces, text_of}
use Rattle.ptu_report.specs.declared.ending.Ending.{Ending}
use Rattle.ptu_report.specs.Rules.{Rules, texts_of, texts_of_lines, ending_of}

-- a line is there whole: its 0A too
abbrev pub has_end : List ℕ → Bool
has_end line = nat_lt (length (text_of line)) (length line)

-- the lines that are whole in these octets, each ended by its 0A
abbrev pub whole_lines : List ℕ → List ScriptLine
whole_lines octets = map (λ line. Whole (text_of line)) (filter has_end (pieces octets))

-- this output was written, each text handed over in one piece, and it ends so
pub record HasWritten {K C : Type 0} (written : K → Option (List ℕ)) (handed : K → Option (List (List ℕ))) (old new : K) (texts : List (List ℕ))
    (last ending : Ending C) : Type 0 where
  pub written_is : written new ≡ append_known (written old) (joined texts)
  pub in_pieces : HasPut written handed old new texts
  pub ends : ending ≡ last

module _ {K : Type 0} (written : K → Option (List ℕ)) (handed : K → Option (List (List ℕ))) (old new : K) {M C : Type 0} (rules : Rules M C) (m : M) where
  -- the whole output for these lines was put, each text in one piece, and it ends so
  pub record HasReported (lines : List ScriptLine) (ending : Ending C) : Type 0 where
    pub put : HasPut written handed old new (texts_of rules m lines)
    pub ends : ending ≡ ending_of rules m lines

  -- these octets were taken, and all was put that belongs to the lines that are whole in them, and nothing else
  pub record HasReportedAllRead (left left' : Option (List ℕ)) : Type 0 where
    pub octets : List ℕ
    pub taken : left ≡ prepend_known octets left'
    pub put : HasPut written handed old new (texts_of_lines rules m (whole_lines octets))
