-- What a line is to a program that reads one datagram a line.
use Rattle.std.specs.Prelude.{ℕ, if◌then◌else◌, List, Option, Some, None, Result, Ok, Err}
use Rattle.ptu_lines.specs.declared.cause.{LineCause.{LineCause}, LineCause.TheVariants.{Field}}
use Rattle.ptu_lines.specs.Words.{octets_of}
use Rattle.ptu_script.specs.Command.{is_comment}

-- the datagram that a word in hexadecimal digits writes; another word is refused
abbrev pub datagram_by : Option (List ℕ) → Result (Option (List ℕ)) LineCause
datagram_by None = Err (Field 1)
datagram_by (Some octets) = Ok (Some octets)

-- the datagram that a line writes; a comment writes none
abbrev pub datagram_in : List ℕ → Result (Option (List ℕ)) LineCause
datagram_in line = if is_comment line then Ok None else datagram_by (octets_of line)
