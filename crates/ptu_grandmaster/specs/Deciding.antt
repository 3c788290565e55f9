-- What a decision does to a grandmaster.
use Rattle.std.specs.Prelude.{◌≡◌, ℕ, ◌+◌, ◌≤◌, List, ◌++◌}
use Rattle.ptu_units.specs.declared.kind.Kind.{Kind}
use Rattle.ptu_messages.specs.declared.tlv.Ask.{Ask}
use Rattle.ptu_history.specs.Core.{history_after}
use Rattle.ptu_history.specs.Events as events
use Rattle.ptu_history.specs.{History.{Record}, Live.{live}, Step.{step}, Verdict.{verdict}}
use Rattle.ptu_admit.specs.declared.{ending.Cancelled.{Cancelled}, verdict.Verdict.{Verdict}}
use Rattle.ptu_admit.specs.declared.verdict.Verdict.TheVariants.{Granted, Short, Outside}
use Rattle.ptu_admit.specs.{Lent.{StandFor}, Verdict.{IsAt, verdict_of}}
use Rattle.ptu_gm_messages.specs.declared.item.Item.{Item}
use Rattle.ptu_gm_messages.specs.Deciding.{Decision, asked_by, decision_of, decisions_of, events_of_items, item_moment, item_records, opened_with}
use Rattle.ptu_units.specs.{declared.client.Client.{Client}, Client.{table_of}, Counts.{counted}}
use Rattle.ptu_grandmaster.specs.Gm.{KeptGm, HasKeptPorts, StandsFor, tables, table_at}

-- for how many more rows the client's table has room
abbrev pub spare_of : {P : Type 0} → Client → KeptGm P → ℕ
spare_of c gm = (table_at (table_of c) gm).spare

-- the client's table has room for at most so many rows less, and the ports and counts are kept
pub record Spends {P : Type 0} (c : Client) (fall : ℕ) (old new : KeptGm P) : Type 0 where
  pub spare : spare_of c old ≤ spare_of c new + fall
  pub ports : HasKeptPorts old new
  pub granted : new.granted ≡ old.granted
  pub refused : new.refused ≡ old.refused

-- the verdict on the client's ask that is handed the moment, after each history that the tables and the book stand for, and
-- they go on with it
abbrev pub Decides : {P : Type 0} → ℕ → Client → Ask → KeptGm P → KeptGm P → Verdict → Type 0
Decides t c ask old new v =
    (opening : ℕ) (history : List Record) → StandFor opening (tables old) old.book history →
    let x = item_moment history t c in
    let opened = opened_with opening old.config in
    (verdict_of v ≡ verdict opened history x c (asked_by ask)) × IsAt x v
    × StandFor opening (tables new) new.book (history ++ (step opened history x (events.Request c (asked_by ask))).records)

-- likewise, the answer to the client's CANCEL of the kind
abbrev pub EndsBy : {P : Type 0} → ℕ → Client → Kind → KeptGm P → KeptGm P → Cancelled → Type 0
EndsBy t c k old new answer =
    (opening : ℕ) (history : List Record) → StandFor opening (tables old) old.book history →
    let x = item_moment history t c in
    (answer.at ≡ x) × (answer.ended ≡ live history x c k)
    × StandFor opening (tables new) new.book (history ++ (step (opened_with opening old.config) history x (events.Cancel c k)).records)

-- the counts of a grandmaster after the verdict
abbrev pub counting : {P : Type 0} → Verdict → KeptGm P → KeptGm P
counting (Granted grant) gm = record gm { granted = counted (gm.granted + 1) }
counting (Short shortage) gm = record gm { refused = counted (gm.refused + 1) }
counting (Outside cause) gm = gm

-- the client's table has room for at most so many rows less, and the ports are kept
pub record Lowers {P : Type 0} (c : Client) (fall : ℕ) (old new : KeptGm P) : Type 0 where
  pub spare : spare_of c old ≤ spare_of c new + fall
  pub ports : HasKeptPorts old new

-- the client's item that is handed the moment comes to this after each history that the grandmaster stands for, and it goes
-- on with it
abbrev pub Comes : {P : Type 0} → ℕ → Client → Item → KeptGm P → KeptGm P → Decision → Type 0
Comes t c item old new decision =
    (opening : ℕ) (history : List Record) → StandsFor opening old history →
    let opened = opened_with opening old.config in
    (decision ≡ decision_of opened history t c item)
    × StandsFor opening new (history ++ item_records opened history t c item)

-- likewise, all items, one after the other
abbrev pub AllCome : {P : Type 0} → ℕ → Client → List Item → KeptGm P → KeptGm P → List Decision → Type 0
AllCome t c items old new decisions =
    (opening : ℕ) (history : List Record) → StandsFor opening old history →
    let opened = opened_with opening old.config in
    (decisions ≡ decisions_of opened history t c items)
    × StandsFor opening new (history_after opened history (events_of_items t c items))
