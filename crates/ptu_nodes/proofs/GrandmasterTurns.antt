-- That a grandmaster of a script has taken a turn.
use Rattle.std.proofs.Common.{◌≡◌, ◌∙◌, ℕ, ◌==◌, List, [], ◌++◌, Bool, true, false, map, refl, sym, ap, subst, Some}
use Rattle.std.proofs.lemmas.{List.{append-nil}, Simd.{map-map}}
use Rattle.ptu_outside.specs.{Departure.{Departure}, MemoryPort.{MemoryPort}}
use Rattle.ptu_history.specs.Core.{core_step, history_after, table_step_moment}
use Rattle.ptu_history.specs.Events as events
use Rattle.ptu_history.specs.{History.{Record}, Live.{Grant}, Turns.{due_grants, message_of}}
use Rattle.ptu_profile.specs.declared.grandmaster.GmConfig.{GmConfig}
use Rattle.ptu_shard.specs.{Messages.{departure_of}, Table.{Kept}, Turn.{due_messages}}
use Rattle.ptu_gm_messages.specs.Deciding.{opened_with}
use Rattle.ptu_grandmaster.specs.Gm.{KeptGm, StandsFor, table_at, with_table}
use Rattle.ptu_world.specs.{Deeds.{Grandmaster}, Grandmasters.{turn_deed}}
use Rattle.ptu_nodes.specs.{Doing.{HasDone}, GrandmasterPorts.{GoesOn, in_ports}}
use Rattle.ptu_nodes.specs.Noted.{Noted, with_handed}
use Rattle.ptu_nodes.specs.Standing.{AreIdle, AreSure, IsGrandmasterNode, StandsAsGrandmaster}
use Rattle.ptu_nodes.proofs.GrandmasterDone.{all_handed, has_done, stands_after}
use Rattle.ptu_nodes.proofs.{GrandmasterPorts.{table_by, with_by}, Noting.{said_nothing}}

-- ---- what stands in the ports, where all but one are idle

in_ports_by : (zero one two : Bool) (table : Kept MemoryPort) (gm : KeptGm MemoryPort) → AreIdle gm →
    in_ports (with_by zero one two table gm) ≡ table.port.sent
in_ports_by true one two table gm (e0, e1, e2, e3, e4) = simp (e1, e2, e3, e4, append-nil)
in_ports_by false true two table gm (e0, e1, e2, e3, e4) = simp (e0, e2, e3, e4, append-nil)
in_ports_by false false true table gm (e0, e1, e2, e3, e4) = simp (e0, e1, e3, e4, append-nil)
in_ports_by false false false table gm (e0, e1, e2, e3, e4) = simp (e0, e1, e2, e4, append-nil)

idle_by : (zero one two : Bool) (gm : KeptGm MemoryPort) → AreIdle gm → (table_by zero one two gm).port.sent ≡ []
idle_by true one two gm (e0, e1, e2, e3, e4) = e0
idle_by false true two gm (e0, e1, e2, e3, e4) = e1
idle_by false false true gm (e0, e1, e2, e3, e4) = e2
idle_by false false false gm (e0, e1, e2, e3, e4) = e3

pub config_by : (zero one two : Bool) (table : Kept MemoryPort) (gm : KeptGm MemoryPort) → (with_by zero one two table gm).config ≡ gm.config
config_by true one two table gm = refl
config_by false true two table gm = refl
config_by false false true table gm = refl
config_by false false false table gm = refl

-- of a grandmaster with idle ports one table has changed
pub in_ports-table : (j : ℕ) (old new : KeptGm MemoryPort) → AreIdle old → new ≡ with_table j (table_at j new) old → in_ports new ≡ (table_at j new).port.sent
in_ports-table j old new idle rest = ap in_ports rest ∙ in_ports_by (j == 0) (j == 1) (j == 2) (table_at j new) old idle

pub idle_table : (j : ℕ) (gm : KeptGm MemoryPort) → AreIdle gm → (table_at j gm).port.sent ≡ []
idle_table j gm idle = idle_by (j == 0) (j == 1) (j == 2) gm idle

-- ---- a turn

-- what stands in the ports after a turn is what the deed sends
pub sends_turned : (t j : ℕ) (gm1 gm2 : KeptGm MemoryPort) (at : ℕ) (g : Grandmaster) →
    g.config ≡ gm1.config → StandsFor g.capacity gm1 g.past → AreIdle gm1 →
    (table_at j gm2).port.sent ≡ (table_at j gm1).port.sent ++ map (departure_of gm1.config at) (due_messages at (table_at j gm1).rows) →
    gm2 ≡ with_table j (table_at j gm2) gm1 →
    ((opening : ℕ) (history : List Record) → StandsFor opening gm1 history →
    (at ≡ table_step_moment history t j) × (due_messages at (table_at j gm1).rows ≡ map (message_of history) (due_grants history at j))) →
    in_ports gm2 ≡ (turn_deed g t j).sends
sends_turned t j gm1 gm2 at g config stood idle sends rest messages =
    in_ports-table j gm1 gm2 idle rest
    ∙ (sends ∙ ap (λ l. l ++ map (departure_of gm1.config at) (due_messages at (table_at j gm1).rows)) (idle_table j gm1 idle))
    ∙ ap (map (departure_of gm1.config at)) (messages g.capacity g.past stood).1
    ∙ map-map (departure_of gm1.config at) (message_of g.past) (due_grants g.past at j)
    ∙ ap (λ x. map (λ (m : Grant). departure_of gm1.config x (message_of g.past m)) (due_grants g.past x j)) (messages g.capacity g.past stood).0
    ∙ ap (λ c. map (λ (m : Grant). departure_of c (table_step_moment g.past t j) (message_of g.past m)) (due_grants g.past (table_step_moment g.past t j) j)) (sym config)

pub turn_done : (ip t j : ℕ) (gm0 gm1 gm2 gm3 : KeptGm MemoryPort) (at : ℕ) (old new : Noted) (g : Grandmaster) →
    IsGrandmasterNode (record { ip = ip; gm = gm0 }) g → GoesOn gm0 gm1 → (AreIdle gm0 → AreIdle gm1) →
    Some ((table_at j gm1).port.sent ++ map (departure_of gm1.config at) (due_messages at (table_at j gm1).rows)) ≡ Some (table_at j gm2).port.sent →
    gm2 ≡ with_table j (table_at j gm2) gm1 →
    ((opening : ℕ) (history : List Record) → StandsFor opening gm1 history →
    (at ≡ table_step_moment history t j) × (due_messages at (table_at j gm1).rows ≡ map (message_of history) (due_grants history at j))) →
    ((opening : ℕ) (history : List Record) → StandsFor opening gm1 history →
    StandsFor opening gm2 (history ++ (core_step (opened_with opening gm1.config) history t (events.Turn j)).records)) →
    new ≡ with_handed ip (in_ports gm2) old → GoesOn gm2 gm3 → AreIdle gm3 → AreSure gm3 →
    HasDone (StandsAsGrandmaster (record { ip = ip; gm = gm3 })) ip (turn_deed g t j) old new
unfolding history_after
turn_done ip t j gm0 gm1 gm2 gm3 at old new g is first idle sends rest messages stands handed last idle' sure' =
    has_done _ ip (turn_deed g t j) old old new
    (stands_after g ip gm0 gm1 gm2 gm3 _ is first same_config
    (subst (λ (config : GmConfig). StandsFor g.capacity gm2 (g.past ++ (core_step (opened_with g.capacity config) g.past t (events.Turn j)).records)) (sym config) (stands g.capacity g.past stood)) last idle' sure')
    refl (sym (said_nothing old)) (subst (λ (l : List Departure). new ≡ with_handed ip l old) in_ports_are handed)
  where
    config : g.config ≡ gm1.config
    config = is.config ∙ sym first.config

    stood : StandsFor g.capacity gm1 g.past
    stood = first.stands g.capacity g.past is.stands

    same_config : gm2.config ≡ gm1.config
    same_config = ap (λ g. g.config) rest ∙ config_by (j == 0) (j == 1) (j == 2) (table_at j gm2) gm1

    told : (table_at j gm2).port.sent ≡ (table_at j gm1).port.sent ++ map (departure_of gm1.config at) (due_messages at (table_at j gm1).rows)
    told = all_handed (table_at j gm1).port.sent (table_at j gm2).port.sent (map (departure_of gm1.config at) (due_messages at (table_at j gm1).rows)) sends

    in_ports_are : in_ports gm2 ≡ (turn_deed g t j).sends
    in_ports_are = sends_turned t j gm1 gm2 at g config stood (idle is.idle) told rest messages
