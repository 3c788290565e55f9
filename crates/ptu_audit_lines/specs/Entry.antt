-- What a line of a report says. The forms are the project's own choice.
use Rattle.std.specs.Prelude.{◌≡◌, ℕ, Bool, ◌||◌, if◌then◌else◌, List, [], ◌∷◌, ◌++◌, Option, Some, None, codes}
use Rattle.std.specs.List.{list_any}
use Rattle.ptu_lines.specs.Words.{ip_of}
use Rattle.ptu_audit_lines.specs.declared.entry.Decision.{Decision}
use Rattle.ptu_audit_lines.specs.declared.entry.Decision.TheVariants as decisions
use Rattle.ptu_audit_lines.specs.declared.entry.Entry.{Entry}
use Rattle.ptu_audit_lines.specs.declared.entry.Entry.TheVariants as entries
use Rattle.ptu_audit_lines.specs.declared.entry.ReportLine.{ReportLine}
use Rattle.ptu_audit_lines.specs.declared.entry.ReportLine.TheVariants as lines
use Rattle.ptu_audit_lines.specs.Words.{◌>>=◌, any_number, field, hex_of, identity_in_word, kind_named, log_of_kind, log_outside}
use Rattle.ptu_audit_lines.specs.Forms.{fits_one, fitting}

-- the first of these that is there
abbrev pub first_of : {A : Type 0} → List (Option A) → Option A
first_of [] = None
first_of (None ∷ rest) = first_of rest
first_of (Some x ∷ rest) = Some x

unfoldable pub granted_in : List ℕ → Option Decision
granted_in line = do
  form ← fitting (codes "NUM granted KIND LOG at NUM until NUM") line
  kind ← field 3 kind_named line
  log ← field 4 (log_of_kind kind) line
  at ← field 6 any_number line
  until ← field 8 any_number line
  Some (decisions.Granted kind log at until)

unfoldable pub short_in : List ℕ → Option Decision
short_in line = do
  form ← fitting (codes "NUM short KIND LOG at NUM others NUM rate NUM capacity NUM") line
  kind ← field 3 kind_named line
  log ← field 4 (log_of_kind kind) line
  at ← field 6 any_number line
  others ← field 8 any_number line
  rate ← field 10 any_number line
  capacity ← field 12 any_number line
  Some (decisions.Short kind log at others rate capacity)

unfoldable pub outside_type_in : List ℕ → Option Decision
outside_type_in line = do
  form ← fitting (codes "NUM outside type NUM") line
  code ← field 4 any_number line
  Some (decisions.OutsideType code)

unfoldable pub outside_log_in : List ℕ → Option Decision
outside_log_in line = do
  form ← fitting (codes "NUM outside log KIND LOG") line
  kind ← field 4 kind_named line
  log ← field 5 (log_outside kind) line
  Some (decisions.OutsideLog kind log)

unfoldable pub outside_duration_in : List ℕ → Option Decision
outside_duration_in line = do
  form ← fitting (codes "NUM outside duration KIND LOG NUM") line
  kind ← field 4 kind_named line
  log ← field 5 (log_of_kind kind) line
  seconds ← field 6 any_number line
  Some (decisions.OutsideDuration kind log seconds)

unfoldable pub cancelled_in : List ℕ → Option Decision
cancelled_in line = do
  form ← fitting (codes "NUM cancelled KIND at NUM") line
  kind ← field 3 kind_named line
  at ← field 5 any_number line
  Some (decisions.Cancelled kind at)

unfoldable pub nothing_in : List ℕ → Option Decision
nothing_in line = do
  form ← fitting (codes "NUM nothing KIND at NUM") line
  kind ← field 3 kind_named line
  at ← field 5 any_number line
  Some (decisions.Nothing kind at)

unfoldable pub nothing_code_in : List ℕ → Option Decision
nothing_code_in line = do
  form ← fitting (codes "NUM nothing NUM") line
  code ← field 3 any_number line
  Some (decisions.NothingCode code)

-- a decision on a REQUEST or a CANCEL
unfoldable pub decision_in : List ℕ → Option Decision
decision_in line = first_of
    (granted_in line ∷ short_in line ∷ outside_type_in line ∷ outside_log_in line ∷ outside_duration_in line
    ∷ cancelled_in line ∷ nothing_in line ∷ nothing_code_in line ∷ [])

unfoldable pub decided_in : List ℕ → Option Entry
decided_in line = do
  decision ← decision_in line
  Some (entries.Decided decision)

unfoldable pub capacity_in : List ℕ → Option Entry
capacity_in line = do
  form ← fitting (codes "NUM capacity IP NUM at NUM") line
  grandmaster ← field 3 ip_of line
  capacity ← field 4 any_number line
  at ← field 6 any_number line
  Some (entries.Capacity grandmaster capacity at)

unfoldable pub shed_in : List ℕ → Option Entry
shed_in line = do
  form ← fitting (codes "NUM shed KIND LOG IP WORD") line
  kind ← field 3 kind_named line
  log ← field 4 (log_of_kind kind) line
  ip ← field 5 ip_of line
  identity ← field 6 identity_in_word line
  Some (entries.Shed kind log (record { ip = ip; clock = identity.0; port = identity.1 }))

unfoldable pub send_in : List ℕ → Option Entry
send_in line = do
  form ← fitting (codes "NUM send NUM IP IP CHANNEL WORD") line
  number ← field 3 any_number line
  from ← field 4 ip_of line
  to ← field 5 ip_of line
  octets ← field 7 hex_of line
  Some (entries.Send number from to octets)

-- what a slave selects, and a datagram for nobody
abbrev pub node_forms : List (List ℕ)
node_forms = codes "NUM selected IP IP" ∷ codes "NUM selected IP none" ∷ codes "NUM nobody" ∷ []

-- what a slave heard
abbrev pub heard_forms : List (List ℕ)
heard_forms =
    codes "NUM heard sync IP seq NUM at NUM"
    ∷ codes "NUM heard announce IP class NUM at NUM"
    ∷ codes "NUM heard delay_resp IP seq NUM at NUM"
    ∷ codes "NUM heard follow_up IP at NUM"
    ∷ []

-- what a grandmaster answers to a Delay_Req
abbrev pub answer_forms : List (List ℕ)
answer_forms =
    codes "NUM answered at NUM"
    ∷ codes "NUM silent nogrant at NUM"
    ∷ codes "NUM silent soon at NUM earliest NUM"
    ∷ []

-- what a slave is granted and denied
abbrev pub grant_forms : List (List ℕ)
grant_forms = codes "NUM grant KIND NUM" ∷ codes "NUM denial KIND" ∷ []

-- a CANCEL and an ACKNOWLEDGE_CANCEL that a slave is sent
abbrev pub cancel_forms : List (List ℕ)
cancel_forms =
    codes "NUM cancel KIND"
    ∷ codes "NUM cancel NUM"
    ∷ codes "NUM ack KIND"
    ∷ codes "NUM ack NUM"
    ∷ []

-- why a datagram is ignored, where it spells a message
abbrev pub ignored_forms : List (List ℕ)
ignored_forms =
    codes "NUM ignored type NUM"
    ∷ codes "NUM ignored other NUM"
    ∷ codes "NUM ignored stranger"
    ∷ codes "NUM ignored domain NUM"
    ∷ codes "NUM ignored target"
    ∷ []

-- why it is ignored, where it has no header
abbrev pub header_forms : List (List ℕ)
header_forms =
    codes "NUM ignored fault short NUM"
    ∷ codes "NUM ignored fault version NUM"
    ∷ codes "NUM ignored fault sdo NUM"
    ∷ codes "NUM ignored fault length NUM NUM"
    ∷ []

-- and where it has no message behind it
abbrev pub body_forms : List (List ℕ)
body_forms =
    codes "NUM ignored fault body NUM NUM"
    ∷ codes "NUM ignored fault toomany NUM"
    ∷ codes "NUM ignored fault tlv NUM short NUM"
    ∷ codes "NUM ignored fault tlv NUM overrun NUM NUM"
    ∷ codes "NUM ignored fault tlv NUM length NUM NUM"
    ∷ []

-- the forms of what a slave does
abbrev pub slave_forms : List (List (List ℕ))
slave_forms = node_forms ∷ heard_forms ∷ grant_forms ∷ cancel_forms ∷ []

-- the forms of what a datagram came to that was not answered by a decision
abbrev pub datagram_forms : List (List (List ℕ))
datagram_forms = answer_forms ∷ ignored_forms ∷ header_forms ∷ body_forms ∷ []

-- the line has one of the forms of these groups
abbrev pub is_among : List (List (List ℕ)) → List ℕ → Bool
is_among groups line = list_any (λ forms. fits_one forms line) groups

-- lines that say nothing of a grandmaster's promises
unfoldable pub other_in : List ℕ → Option Entry
other_in line =
    if is_among slave_forms line || is_among datagram_forms line then Some entries.Other else None

-- what stands behind the number of a line, where it is no datagram
unfoldable pub plain_entry_in : List ℕ → Option Entry
plain_entry_in line = first_of (decided_in line ∷ capacity_in line ∷ shed_in line ∷ other_in line ∷ [])

-- what stands behind it
unfoldable pub entry_of : List ℕ → Option Entry
entry_of line = first_of (send_in line ∷ plain_entry_in line ∷ [])

-- a line with a number
unfoldable pub numbered_in : List ℕ → Option ReportLine
numbered_in line = do
  number ← field 1 any_number line
  entry ← entry_of line
  Some (lines.At number entry)

-- the last line
unfoldable pub end_in : List ℕ → Option ReportLine
end_in line = do
  form ← fitting (codes "end NUM NUM") line
  count ← field 2 any_number line
  datagrams ← field 3 any_number line
  Some (lines.End count datagrams)

-- what a line of a report says, where it has one of its forms
unfoldable pub line_of : List ℕ → Option ReportLine
line_of line = first_of (numbered_in line ∷ end_in line ∷ [])

-- the line has this number, and says nothing of a grandmaster's promises
abbrev pub IsOther : ℕ → List ℕ → Type 0
IsOther number line = line_of line ≡ Some (lines.At number entries.Other)

-- so it is with a line that says why a datagram was ignored
abbrev pub IsIgnored : List ℕ → Type 0
IsIgnored cause = IsOther 2 (codes "2 ignored " ++ cause)
