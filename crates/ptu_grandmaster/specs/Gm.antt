-- What callers see of a grandmaster, and the histories that it stands for.
use Rattle.std.specs.{Prelude.{◌≡◌, ℕ, ◌%◌, ◌==◌, if◌then◌else◌, List, [], ◌∷◌}, List.Sorted.{IsPermutation}}
use Rattle.ptu_units.specs.Counts.{counted}
use Rattle.ptu_history.specs.{Counts.{counts}, History.{Record}}
use Rattle.ptu_profile.specs.declared.grandmaster.GmConfig.{GmConfig}
use Rattle.ptu_shard.specs.Table.{Kept}
use Rattle.ptu_admit.specs.{Book.{KeptBook}, Lent.{Lent, StandFor, four}}

-- its configuration, its four tables, its book, the port of its Signaling messages, how many asks it granted and how many
-- it refused as short, and the sequenceId of its next CANCEL
pub record KeptGm (P : Type 0) : Type 0 where
  pub config : GmConfig
  pub s0 : Kept P
  pub s1 : Kept P
  pub s2 : Kept P
  pub s3 : Kept P
  pub book : KeptBook
  pub reply : P
  pub granted : ℕ
  pub refused : ℕ
  pub sequence : ℕ

-- its ports, in order of index: those of the four tables, and that of Signaling messages
abbrev pub five_ports : {P : Type 0} → KeptGm P → List P
five_ports gm = gm.s0.port ∷ gm.s1.port ∷ gm.s2.port ∷ gm.s3.port ∷ gm.reply ∷ []

-- the four tables, in order of index
abbrev pub tables : {P : Type 0} → KeptGm P → List Lent
tables gm = four gm.s0 gm.s1 gm.s2 gm.s3

-- the table of this index
abbrev pub table_at : {P : Type 0} → ℕ → KeptGm P → Kept P
table_at j gm = if j == 0 then gm.s0 else if j == 1 then gm.s1 else if j == 2 then gm.s2 else gm.s3

-- the grandmaster with this table in place of that of this index
abbrev pub with_table : {P : Type 0} → ℕ → Kept P → KeptGm P → KeptGm P
with_table j table gm =
    if j == 0 then record gm { s0 = table }
    else if j == 1 then record gm { s1 = table }
    else if j == 2 then record gm { s2 = table }
    else record gm { s3 = table }

-- the port of this index: those of the tables, then that of the Signaling messages
abbrev pub port_at : {P : Type 0} → ℕ → KeptGm P → P
port_at i gm = if i == 4 then gm.reply else (table_at i gm).port

-- the grandmaster with this port in its place
abbrev pub with_port : {P : Type 0} → ℕ → P → KeptGm P → KeptGm P
with_port i port gm =
    if i == 4 then record gm { reply = port } else with_table i (record (table_at i gm) { port = port }) gm

-- the grandmaster, opened with this capacity, stands for the history: its tables and its book do; its counts are the numbers
-- of asks that were granted and that were short; its CANCELs are numbered by the grants that were shed
pub record StandsFor {P : Type 0} (opening : ℕ) (gm : KeptGm P) (history : List Record) : Type 0 where
  pub decided : StandFor opening (tables gm) gm.book history
  pub granted : gm.granted ≡ counted (counts history).granted
  pub refused : gm.refused ≡ counted (counts history).short
  pub sequence : gm.sequence ≡ (counts history).shed % 65536

-- the table has the grants, the moment and the port that it had
pub record IsSameTable {P : Type 0} (old new : Kept P) : Type 0 where
  pub rows : IsPermutation old.rows new.rows
  pub moment : new.moment ≡ old.moment
  pub port : new.port ≡ old.port

-- no grant, moment, count or port has changed
pub record IsUnchanged {P : Type 0} (old new : KeptGm P) : Type 0 where
  pub s0 : IsSameTable old.s0 new.s0
  pub s1 : IsSameTable old.s1 new.s1
  pub s2 : IsSameTable old.s2 new.s2
  pub s3 : IsSameTable old.s3 new.s3
  pub rest : new ≡ record old { s0 = new.s0; s1 = new.s1; s2 = new.s2; s3 = new.s3 }

-- no port has changed, nor the configuration, nor the number of the next CANCEL
pub record HasKeptPorts {P : Type 0} (old new : KeptGm P) : Type 0 where
  pub p0 : new.s0.port ≡ old.s0.port
  pub p1 : new.s1.port ≡ old.s1.port
  pub p2 : new.s2.port ≡ old.s2.port
  pub p3 : new.s3.port ≡ old.s3.port
  pub reply : new.reply ≡ old.reply
  pub config : new.config ≡ old.config
  pub sequence : new.sequence ≡ old.sequence
