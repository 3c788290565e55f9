-- The clients of a trail by address.
use Rattle.std.specs.{Prelude.{◌≡◌, ℕ, false, List, Option, Some, None, ◌==◌, find}, BTreeMap.{get}}
use Rattle.std.specs.Ordering.{nat_cmp}
use Rattle.ptu_units.specs.declared.client.Client.{Client}
use Rattle.ptu_history.specs.History.{Record}
use Rattle.ptu_trail.specs.declared.clients.{Account.{Account}, Clients.{Clients}}
use Rattle.ptu_trail.specs.Faults.{decided_clients, is_back, is_no_moment, is_shared}
use Rattle.ptu_trail.specs.Known.{IsKnown, unknown}

-- the account is that of the one client with a decision at the address, or there is none
abbrev pub IsAccount : List Record → ℕ → Option Account → Type 0
IsAccount history ip None =
    (find (λ c. c.ip == ip) (decided_clients history) ≡ None)
    × ((c : Client) → c.ip ≡ ip → IsKnown history c unknown)
IsAccount history ip (Some account) =
    (find (λ c. c.ip == ip) (decided_clients history) ≡ Some account.client)
    × (is_shared history account.client ≡ false)
    × IsKnown history account.client account.known

-- a decision on the client at the moment has none of the faults that any decision may have
pub record IsPlaced (history : List Record) (at : ℕ) (c : Client) : Type 0 where
  pub not_shared : is_shared history c ≡ false
  pub moment : is_no_moment at ≡ false
  pub not_back : is_back history at c ≡ false

-- the accounts are those of the clients with decisions, one at each address
pub record AreKnown (history : List Record) (clients : Clients) : Type 0 where
  pub each : (ip : ℕ) → IsAccount history ip (get nat_cmp clients.accounts ip)
