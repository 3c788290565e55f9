-- That the capacity of a grandmaster of a script has changed.
use Rattle.std.proofs.Common.{◌≡◌, ◌∙◌, ℕ, List, [], ◌∷◌, ◌++◌, map, refl, sym, ap, ap₂, subst, Some}
use Rattle.std.proofs.lemmas.Simd.{map-map}
use Rattle.ptu_outside.specs.{Departure.{Departure}, MemoryPort.{MemoryPort}}
use Rattle.ptu_history.specs.{Core.{book_step_moment, core_step, history_after}, Counts.{counts}}
use Rattle.ptu_history.specs.Events as events
use Rattle.ptu_history.specs.{History.{Record}, Shedding.{shed_grants}}
use Rattle.ptu_profile.specs.declared.grandmaster.GmConfig.{GmConfig}
use Rattle.ptu_admit.specs.{declared.shed_list.Shed.{Shed}, Shed.{shed_of}}
use Rattle.ptu_gm_messages.specs.{Deciding.{opened_with}, Replies.{cancels_to, lease_of}}
use Rattle.ptu_grandmaster.specs.{Changed.{AreShedAt, leases_shed}, Gm.{KeptGm, StandsFor}}
use Rattle.ptu_grandmaster.proofs.Cancels.{cancels_shed}
use Rattle.ptu_report_lines.specs.declared.statement.Statement.TheVariants as statements
use Rattle.ptu_world.specs.{Deeds.{Grandmaster}, Grandmasters.{capacity_deed, shed_said}}
use Rattle.ptu_nodes.specs.{Doing.{HasDone}, GrandmasterPorts.{GoesOn, in_ports}}
use Rattle.ptu_nodes.specs.GrandmasterStatements.{shed_seen}
use Rattle.ptu_nodes.specs.Noted.{Noted, with_handed, with_said}
use Rattle.ptu_nodes.specs.Standing.{AreIdle, AreSure, IsGrandmasterNode, StandsAsGrandmaster}
use Rattle.ptu_nodes.proofs.GrandmasterDone.{all_handed, has_done, stands_after}
use Rattle.ptu_nodes.proofs.Noting.{said_more}

-- ---- what stands in the ports, where those of the tables are idle

pub in_ports-reply : (old new : KeptGm MemoryPort) → AreIdle old →
    (new.s0.port ≡ old.s0.port) × (new.s1.port ≡ old.s1.port) × (new.s2.port ≡ old.s2.port) × (new.s3.port ≡ old.s3.port) →
    in_ports new ≡ new.reply.sent
in_ports-reply old new (e0, e1, e2, e3, e4) (p0, p1, p2, p3) =
    let q0 : new.s0.port.sent ≡ [] = ap (λ p. p.sent) p0 ∙ e0 in
    let q1 : new.s1.port.sent ≡ [] = ap (λ p. p.sent) p1 ∙ e1 in
    let q2 : new.s2.port.sent ≡ [] = ap (λ p. p.sent) p2 ∙ e2 in
    let q3 : new.s3.port.sent ≡ [] = ap (λ p. p.sent) p3 ∙ e3 in
    simp (q0, q1, q2, q3)

-- ---- a change of capacity

pub change_done : (ip t capacity : ℕ) (gm0 gm1 gm2 gm3 : KeptGm MemoryPort) (at : ℕ) (shed : List Shed) (old begun said new : Noted) (g : Grandmaster) →
    IsGrandmasterNode (record { ip = ip; gm = gm0 }) g → GoesOn gm0 gm1 → (AreIdle gm0 → AreIdle gm1) →
    Some (gm1.reply.sent ++ cancels_to gm1.config gm1.sequence (leases_shed shed)) ≡ Some gm2.reply.sent →
    (gm2.s0.port ≡ gm1.s0.port) × (gm2.s1.port ≡ gm1.s1.port) × (gm2.s2.port ≡ gm1.s2.port) × (gm2.s3.port ≡ gm1.s3.port) →
    gm2.config ≡ gm1.config →
    ((opening : ℕ) (history : List Record) → StandsFor opening gm1 history → AreShedAt history t capacity at shed) →
    ((opening : ℕ) (history : List Record) → StandsFor opening gm1 history →
    StandsFor opening gm2 (history ++ (core_step (opened_with opening gm1.config) history t (events.Resize capacity)).records)) →
    begun ≡ with_said (statements.Capacity ip capacity at ∷ []) old → said ≡ with_said (map shed_seen shed) begun →
    new ≡ with_handed ip (in_ports gm2) said → GoesOn gm2 gm3 → AreIdle gm3 → AreSure gm3 →
    HasDone (StandsAsGrandmaster (record { ip = ip; gm = gm3 })) ip (capacity_deed g t capacity) old new
unfolding history_after
change_done ip t capacity gm0 gm1 gm2 gm3 at shed old begun said new g is first idle sends ports same_config found stands begins says handed last idle' sure' =
    has_done _ ip (capacity_deed g t capacity) old said new
    (stands_after g ip gm0 gm1 gm2 gm3 _ is first same_config
    (subst (λ (config : GmConfig). StandsFor g.capacity gm2 (g.past ++ (core_step (opened_with g.capacity config) g.past t (events.Resize capacity)).records)) (sym config) (stands g.capacity g.past stood)) last idle' sure')
    refl said_is (subst (λ (l : List Departure). new ≡ with_handed ip l said) in_ports_are handed)
  where
    config : g.config ≡ gm1.config
    config = is.config ∙ sym first.config

    stood : StandsFor g.capacity gm1 g.past
    stood = first.stands g.capacity g.past is.stands

    moment : at ≡ book_step_moment g.past t
    moment = (found g.capacity g.past stood).0

    shed_is : shed ≡ map shed_of (shed_grants g.past (book_step_moment g.past t) capacity)
    shed_is = (found g.capacity g.past stood).1 ∙ ap (λ x. map shed_of (shed_grants g.past x capacity)) moment

    told : gm2.reply.sent ≡ cancels_to gm1.config gm1.sequence (leases_shed shed)
    told = all_handed gm1.reply.sent gm2.reply.sent (cancels_to gm1.config gm1.sequence (leases_shed shed)) sends ∙ ap (λ l. l ++ cancels_to gm1.config gm1.sequence (leases_shed shed)) (idle is.idle).4

    in_ports_are : in_ports gm2 ≡ cancels_to g.config (counts g.past).shed (map lease_of (shed_grants g.past (book_step_moment g.past t) capacity))
    in_ports_are =
        in_ports-reply gm1 gm2 (idle is.idle) ports ∙ told
        ∙ cancels_shed gm1.config gm1.sequence g.past at (book_step_moment g.past t) capacity shed stood.sequence moment (found g.capacity g.past stood).1
        ∙ ap (λ c. cancels_to c (counts g.past).shed (map lease_of (shed_grants g.past (book_step_moment g.past t) capacity))) (sym config)

    seen : map shed_seen shed ≡ map shed_said (shed_grants g.past (book_step_moment g.past t) capacity)
    seen = ap (map shed_seen) shed_is ∙ map-map shed_seen shed_of (shed_grants g.past (book_step_moment g.past t) capacity)

    said_is : said ≡ with_said (capacity_deed g t capacity).said old
    said_is =
        says ∙ ap (with_said (map shed_seen shed)) begins ∙ sym (said_more (statements.Capacity ip capacity at ∷ []) (map shed_seen shed) old)
        ∙ ap (λ l. with_said (statements.Capacity ip capacity at ∷ l) old) seen
        ∙ ap₂ (λ a x. with_said (statements.Capacity a capacity x ∷ map shed_said (shed_grants g.past (book_step_moment g.past t) capacity)) old) (sym is.ip) moment
