-- The lines of a source, as their callers see them.
use Rattle.std.specs.{Prelude.{◌≡◌}, Borrow.{MutBor}}
use Rattle.ptu_lines.specs.declared.{line_reader.LineReader.{LineReader}, lines.Lines.{Lines}}
use Rattle.ptu_lines.specs.Reading.{Reader}

-- the reader
abbrev pub reader_of : {S : Type 0} → Lines S LineReader → Reader
reader_of lines = lines.reader

-- the source, as it is now
abbrev pub source_of : {S : Type 0} → Lines S LineReader → S
source_of lines = lines.source.now

-- they are the lines of this source
abbrev pub AreLinesOf : {S : Type 0} → MutBor S → Lines S LineReader → Type 0
AreLinesOf source lines = lines.source.ghost_name ≡ source.ghost_name

-- they are the lines of one source
abbrev pub HaveOneSource : {S : Type 0} → Lines S LineReader → Lines S LineReader → Type 0
HaveOneSource lines others = lines.source.ghost_name ≡ others.source.ghost_name
