-- Short lists of records and of events, on which the definitions compute.
use Rattle.std.specs.Prelude.{ℕ, List, [], ◌∷◌, pos}
use Rattle.ptu_units.specs.declared.kind.Kind.TheVariants.{Announce, Sync}
use Rattle.ptu_history.specs.{History.{Record, Granted, Ended}, Events.{Event, Request, Turn}}
use Rattle.ptu_history.specs.Examples.{ask_of, first_client, second_client}

-- the first client holds Sync from 1 to 4 and, at half the rate, from 6 to 9; others hold longer
abbrev pub two_grants : List Record
two_grants =
    Granted 1 first_client Sync (pos 0) 9
    ∷ Granted 2 second_client Sync (pos 0) 30
    ∷ Granted 2 first_client Announce (pos 0) 30
    ∷ Ended 4 first_client Sync
    ∷ Granted 6 first_client Sync (pos 1) 9
    ∷ []

-- a Sync a second, a turn just before it is lawful, and the next one a second later
abbrev pub just_missed : List (ℕ × Event)
just_missed =
    (0, Request first_client (ask_of Sync (pos 0)))
    ∷ (999999999, Turn 2)
    ∷ (1999999999, Turn 2)
    ∷ []
