-- What becomes of datagrams that are handed to a port one after the other, and of the port.
use Rattle.std.specs.Prelude.{◌≡◌, ℕ, ◌+◌, ◌++◌, Bool, true, false, List, Option, Result, Ok, Err, length}
use Rattle.std.specs.List.{AllByRecursion, items_where_true}
use Rattle.ptu_outside.specs.{declared.port.Port.{Ghosts as Ports}, Departure.{Departure}}
use Rattle.ptu_outside.specs.Faults.{HasRisen, HasRisenBy, HasRisenJust, HasNotFallen}
use Rattle.ptu_outside.specs.Telling.{IfTold, TellsOn, append_told}

-- of one datagram: how many were sent, and how many sends failed
abbrev pub sent_in : {A E : Type 0} → Result A E → ℕ
sent_in (Ok sent) = 1
sent_in (Err failed) = 0

abbrev pub failed_in : {A E : Type 0} → Result A E → ℕ
failed_in (Ok sent) = 0
failed_in (Err failed) = 1

-- `which` says of each datagram whether it was sent: it was so of this many, which the port was sent in their order
pub record SentOf (before after : Option (List Departure)) (datagrams : List Departure) (sent : ℕ) : Type 0 where
  pub which : List Bool
  pub each : length which ≡ length datagrams
  pub many : length (items_where_true which datagrams) ≡ sent
  pub told : IfTold after (append_told before (items_where_true which datagrams))

-- all of the datagrams were handed to the port, in order: this many were sent, and this many sends failed
pub record HandsOver {P : Type 0} (ports : Ports P) (old new : P) (datagrams : List Departure) (sent failed : ℕ) : Type 0 where
  pub each : sent + failed ≡ length datagrams
  pub some : SentOf (ports.sent old) (ports.sent new) datagrams sent
  -- where the count did not rise, all were sent
  pub all : ¬ HasRisen (ports.faults old) (ports.faults new) → IfTold (ports.sent new) (append_told (ports.sent old) datagrams)
  -- each failed send is a fault, and there are no other faults
  pub risen : HasRisenBy failed (ports.faults old) (ports.faults new)
  pub just : ports.counts_once ≡ true → HasRisenJust failed (ports.faults old) (ports.faults new)
  pub quiet : failed ≡ 0 → ports.faults new ≡ ports.faults old
  pub no_fall : HasNotFallen (ports.faults old) (ports.faults new)
  -- what waits to be received stays
  pub waiting : ports.waiting new ≡ ports.waiting old
  -- and the port goes on to tell what was sent, unless a send failed or a datagram was such that it may cease to
  pub goes_on : failed ≡ 0 → AllByRecursion (λ d. ports.ceases_at d ≡ false) datagrams → TellsOn (ports.sent old) (ports.sent new)
  -- a port that was sure to send these, and others behind them, has sent them all, and is sure to send the others
  pub sure : (others : List Departure) → ports.is_sure old (datagrams ++ others) → (failed ≡ 0) × ports.is_sure new others
