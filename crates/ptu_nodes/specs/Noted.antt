-- What a journal of a script holds, and what is added to it.
use Rattle.std.specs.{Prelude.{ℕ, ◌+◌, ◌-◌, ◌^◌, min, List, [], ◌++◌, length, map}, List.{count_by}}
use Rattle.ptu_outside.specs.Departure.{Departure}
use Rattle.ptu_report_lines.specs.declared.{sent.Sent.{Sent}, statement.Statement.{Statement}}
use Rattle.ptu_world.specs.{Deeds.{Deed}, Report.{is_granted, is_short, text_at}}
use Rattle.ptu_world.specs.World.{sending_said, sent_from}

-- the number of the script's line and the texts of that line; the datagrams that were sent so far, and of how many asks it was
-- said so far that they were granted, and that they were short, as far as a count goes
pub record Noted : Type 0 where
  pub line : ℕ
  pub texts : List (List ℕ)
  pub sent : List Sent
  pub granted : ℕ
  pub short : ℕ

-- before the first line
abbrev pub nothing_noted : Noted
nothing_noted = record { line = 0; texts = []; sent = []; granted = 0; short = 0 }

-- a count of 64 bits with so many more, as far as it goes
abbrev pub counted_on : ℕ → ℕ → ℕ
counted_on count more = count + min more (2 ^ 64 - 1 - count)

-- this was said of the line
abbrev pub with_said : List Statement → Noted → Noted
with_said said noted = record {
  line = noted.line;
  texts = noted.texts ++ map (text_at noted.line) said;
  sent = noted.sent;
  granted = counted_on noted.granted (count_by is_granted said);
  short = counted_on noted.short (count_by is_short said);
}

-- these datagrams were sent, and of each it was said, with its number
abbrev pub with_sent : List Sent → Noted → Noted
with_sent more noted = record {
  line = noted.line;
  texts = noted.texts ++ map (text_at noted.line) (sending_said (length noted.sent) more);
  sent = noted.sent ++ more;
  granted = noted.granted;
  short = noted.short;
}

-- the node at this address handed these to its port
abbrev pub with_handed : ℕ → List Departure → Noted → Noted
with_handed ip handed noted = with_sent (map (sent_from ip) handed) noted

-- it did this deed: what is said of the event, what it sends, and what is said behind that
abbrev pub with_deed : ℕ → Deed → Noted → Noted
with_deed ip deed noted = with_said deed.added (with_handed ip deed.sends (with_said deed.said noted))
