-- Words that were made out by hand.
use Rattle.std.specs.Prelude.{◌≡◌, [], ◌∷◌, codes, Some, None}
use Rattle.ptu_run.specs.declared.command.Command.TheVariants.{Replay, Show, Load, Serve, Slave, Join, Audit, Pools}
use Rattle.ptu_run.specs.CommandLine.{words_command_of}

-- each command is asked for, with the greatest number where it takes one; a greater one is refused,
-- and so is a word more
abbrev pub WordsAreRead : Type 0
WordsAreRead =
    (words_command_of (codes "replay" ∷ []) ≡ Some Replay)
    × (words_command_of (codes "show" ∷ []) ≡ Some Show)
    × (words_command_of (codes "serve" ∷ []) ≡ Some Serve)
    × (words_command_of (codes "slave" ∷ []) ≡ Some Slave)
    × (words_command_of (codes "join" ∷ []) ≡ Some Join)
    × (words_command_of (codes "pools" ∷ []) ≡ Some Pools)
    × (words_command_of (codes "load" ∷ codes "2000" ∷ []) ≡ Some (Load 2000))
    × (words_command_of (codes "audit" ∷ codes "16777216" ∷ []) ≡ Some (Audit 16777216))
    × (words_command_of (codes "load" ∷ codes "2001" ∷ []) ≡ None)
    × (words_command_of (codes "replay" ∷ codes "x" ∷ []) ≡ None)
