-- Short histories, and how a grandmaster stands after them.
use Rattle.std.specs.Prelude.{ℕ, List, [], ◌∷◌, ◌++◌, pos}
use Rattle.ptu_units.specs.declared.kind.Kind.TheVariants.{Announce, Sync, DelayResp}
use Rattle.ptu_history.specs.{Examples.{first_client, second_client, seconds, third_client}}
use Rattle.ptu_history.specs.History.{Record, Granted, Looked, Sent, Short}
use Rattle.ptu_grandmaster.specs.declared.status.GmStatus.{GmStatus}

-- two grants of Announces of which the first is until 60 s, two of Syncs and three of Delay_Resps, of clients of two tables; and
-- an ask that did not fit
abbrev pub grants_of_all_kinds : List Record
grants_of_all_kinds =
    Granted 0 first_client Announce (pos 1) (seconds 60) ∷ Granted 0 first_client Sync (pos 0) (seconds 300)
    ∷ Granted 0 first_client DelayResp (pos 2) (seconds 300) ∷ Granted 0 second_client Announce (pos 1) (seconds 300)
    ∷ Granted 0 second_client Sync (pos 0) (seconds 300) ∷ Granted 0 second_client DelayResp (pos 2) (seconds 300)
    ∷ Granted (seconds 1) third_client DelayResp (pos 2) (seconds 300) ∷ Short (seconds 1) third_client ∷ []

-- they, and a turn of table 3 at the moment
abbrev pub grants_and_turn : ℕ → List Record
grants_and_turn x = grants_of_all_kinds ++ Looked x 3 ∷ Sent x second_client Announce ∷ []

-- how it stands at the moment, with so many live grants of Announces, and with rates of this sum
abbrev pub standing_at : ℕ → ℕ → ℕ → GmStatus
standing_at x announces held =
    record {
      moment = x;
      class = 6;
      capacity = 64;
      held = held;
      announces = announces;
      syncs = 2;
      delay_resps = 3;
      granted = 7;
      refused = 1;
    }
