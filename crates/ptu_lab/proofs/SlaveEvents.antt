-- What an event makes of a slave of a script, and what is said of it.
use Rattle.std.proofs.Common.{◌≡◌, ◌≢◌, ℕ, zero, suc, ◌+◌, ◌<◌, ◌≤◌, max, Bool, true, false, List, [], ◌∷◌, ◌++◌, length, map, Option, Some, None, refl, ap, ap₂, sym, subst, ◌∙◌, arith}
use Rattle.std.proofs.lemmas.Bool.{false≢true}
use Rattle.std.specs.{List.{AllByRecursion, range_with_len}, Option.{option_map}}
use Rattle.std.specs.Prelude.{IsSome, OnOk, Result, Ok, Err}
use Rattle.ptu_outside.specs.{Departure.{Departure}, MemoryPort.{IsSure, MemoryPort}}
use Rattle.ptu_record.specs.{declared.rule.Rule.{Rule}, Lists.{places}}
use Rattle.ptu_record.specs.{Record.{Record, event_moment}, Selection.{selected_master}}
use Rattle.ptu_record.specs.Tick.{Sending}
use Rattle.ptu_record.specs.Step.{ReplaceJudge, SlaveEvent, SlaveSetup, judged_masters, sendings, slave_step}
use Rattle.ptu_judges.specs.Held.{Held, IsFresh, fresh}
use Rattle.ptu_profile.specs.declared.slave.{Master.{Master}, SlaveConfig.{SlaveConfig}}
use Rattle.ptu_profile.specs.Slave.{AreMasters, address_of, priorities, timeouts}
use Rattle.ptu_slave_messages.specs.Node.{Deed, deed, node_setup}
use Rattle.ptu_slave_messages.specs.Sending.{sending_departure}
use Rattle.ptu_profile.specs.Target.{all_ones}
use Rattle.ptu_slave.specs.{Kept.{IsSame, Kept}, Seen.{Seen}, Standing.{StandsFor, Steps, setup_of}}
use Rattle.ptu_slave.proofs.{Ruled.{ruled_step}, Staying.{rules_stay}, Stepping.{moment_is}}
use Rattle.ptu_report_lines.specs.declared.statement.Statement.{Statement}
use Rattle.ptu_report_lines.specs.declared.statement.Statement.TheVariants.{Selected}
use Rattle.ptu_world.specs.{Deeds.{Slave}, Slaves.{entered, event_deed, plain_deed, selection_said}}
use Rattle.ptu_nodes.specs.{Doing.{HasDone}, Noted.{Noted, with_handed, with_said}}
use Rattle.ptu_nodes.proofs.Noting.{said_nothing, sent_nothing}
use Rattle.ptu_lab.specs.NodeStanding.{IsNode, IsSlaveNode, StandsAsNode, StandsAsSlave}
use Rattle.ptu_nodes.specs.Standing.{IsIdle}
use Rattle.ptu_lab.specs.SlaveWords.{HasRoom, HasSlaveStepped, HasSteppedTo, selection_by}
use Rattle.ptu_lab.proofs.Room.{roomed, sure_cleared}

-- ---- what was sent

-- where nothing had been sent the port holds what was handed to it
pub all_sent : (before after : MemoryPort) (ds : List Departure) → before.sent ≡ [] → Some (before.sent ++ ds) ≡ Some after.sent → after.sent ≡ ds
all_sent before after ds idle told = let same : before.sent ++ ds ≡ after.sent = cc in sym same ∙ ap (λ l. l ++ ds) idle

-- ---- the node

pub stepped : (ip : ℕ) (old new : Kept) (judges news : List Held) (before after : MemoryPort) (begun : Bool) (s : Slave) (t : ℕ) (e : SlaveEvent) (deed : Deed)
    → IsSlaveNode ip old judges before begun s → ((m : ℕ) → e ≢ ReplaceJudge m None)
    → AllByRecursion (λ m. m < length old.masters) (judged_masters (length old.masters) e) → IsSame old new
    → Steps s.opened.openings old new news s.taken t e → deed.entries ≡ (slave_step (node_setup s.opened) s.taken t e).entries
    → after.sent ≡ deed.datagrams → IsSure after [] → HasSlaveStepped ip new news after s deed
stepped ip old new judges news before after begun s t e deed h ruled within same steps entries sends sure = record {
  node = λ cleared idle ready. record {
    address = h.address;
    config = h.config ∙ sym same.config;
    masters = h.masters ∙ sym same.masters;
    distinct = subst AreMasters (sym same.masters) h.distinct;
    stands = subst (λ E. StandsFor openings new news (s.taken ++ E)) same_entries (ruled_step openings old new news s.taken t e still below steps);
    ruled = still;
    fresh = λ (is : true ≡ false). absurd (false≢true (sym is));
    idle = idle;
    sure = ready;
  };
  sends = sends;
  sure = sure;
}
  where
    openings : List (Option Rule)
    openings = s.opened.openings

    still : AllByRecursion (λ held. IsSome held.rule) news
    still = rules_stay openings old new judges news s.taken t e ruled h.ruled h.stands steps

    same_entries : (slave_step (setup_of old.config openings) s.taken t e).entries ≡ deed.entries
    same_entries = ap (λ (config : SlaveConfig). (slave_step (setup_of config openings) s.taken t e).entries) (sym h.config) ∙ sym entries

    below : AllByRecursion (λ m. m < length news) (judged_masters (length openings) e)
    below =
        subst (λ n. AllByRecursion (λ m. m < n) (judged_masters (length openings) e)) (ap length (sym same.masters) ∙ sym steps.stands.each_judged)
        (subst (λ n. AllByRecursion (λ m. m < length old.masters) (judged_masters n e)) (sym h.stands.each_opening) within)

-- an event that no datagram makes, with room for all that it sends
pub plain_stepped : (ip : ℕ) (old new : Kept) (judges news : List Held) (before room after : MemoryPort) (begun : Bool) (s : Slave) (t at : ℕ) (e : SlaveEvent) (handed : List Sending)
    → IsSlaveNode ip old judges before begun s → ((m : ℕ) → e ≢ ReplaceJudge m None)
    → AllByRecursion (λ m. m < length old.masters) (judged_masters (length old.masters) e) → IsSame old new
    → Steps s.opened.openings old new news s.taken t e → at ≡ max t old.moment → room.sent ≡ before.sent
    → Some (room.sent ++ map (sending_departure old.config old.masters all_ones) handed) ≡ Some after.sent
    → handed ≡ sendings (setup_of old.config s.opened.openings) s.taken at e → IsSure after []
    → HasSlaveStepped ip new news after s (deed s.opened s.taken t e)
plain_stepped ip old new judges news before room after begun s t at e handed h ruled within same steps is kept told stated sure =
    stepped ip old new judges news before after begun s t e (deed s.opened s.taken t e) h ruled within same steps refl
    (all_sent room after _ (kept ∙ h.idle) told
    ∙ ap (map (sending_departure old.config old.masters all_ones)) stated
    ∙ ap (λ x. map (sending_departure old.config old.masters all_ones) (sendings (setup_of old.config s.opened.openings) s.taken x e)) (is ∙ moment_is s.opened.openings old judges s.taken t h.stands)
    ∙ ap₂ (λ (config : SlaveConfig) (masters : List Master). map (sending_departure config masters all_ones) (sendings (setup_of config s.opened.openings) s.taken (event_moment s.taken t) e)) (sym h.config) (sym h.masters))
    sure

-- ---- what is said

-- what is said of an event, and what it sent was handed over, which cleared the port
pub event_done : (ip t : ℕ) (new : Kept) (news : List Held) (after last : MemoryPort) (s : Slave) (said : List Statement) (deed : Deed) (old middle noted : Noted)
    → HasSlaveStepped ip new news after s deed → last ≡ record after { sent = [] } → middle ≡ with_said said old
    → ((openings : List (Option Rule)) (L : Record) → StandsFor openings new news L → noted ≡ with_said (selection_by ip new L t ∷ []) (with_handed ip after.sent middle))
    → HasDone (StandsAsSlave ip new news last true) ip (event_deed s t said deed) old noted
event_done ip t new news after last s said deed old middle noted h cleared before says = record {
  node = node;
  noted = says s.opened.openings (s.taken ++ deed.entries) node.stands
      ∙ ap (λ st. with_said (st ∷ []) (with_handed ip after.sent middle)) selection
      ∙ ap (λ ds. with_said (selection_said (entered s deed) t ∷ []) (with_handed ip ds middle)) h.sends
      ∙ ap (λ m. with_said (selection_said (entered s deed) t ∷ []) (with_handed ip deed.datagrams m)) before;
}
  where
    node : IsSlaveNode ip new news last true (entered s deed)
    node = h.node last (ap (λ (p : MemoryPort). p.sent) cleared) (subst (λ p. IsSure p []) (sym cleared) (sure_cleared after h.sure))

    selection : selection_by ip new (s.taken ++ deed.entries) t ≡ selection_said (entered s deed) t
    selection =
        ap (λ a. Selected a (option_map (address_of new.masters) (selected_master (timeouts new.config) (priorities new.masters) (s.taken ++ deed.entries) (event_moment (s.taken ++ deed.entries) t)))) (sym node.address)
        ∙ ap₂ (λ (config : SlaveConfig) (masters : List Master). Selected s.ip (option_map (address_of masters) (selected_master (timeouts config) (priorities masters) (s.taken ++ deed.entries) (event_moment (s.taken ++ deed.entries) t))))
        (sym node.config) (sym node.masters)

-- what follows from what two clauses say of an `Ok`
pub on_ok_both : {T E A B C : Type 0} (r : Result T E) → (A → B → C) → OnOk r A → OnOk r B → OnOk r C
on_ok_both (Ok x) f a b = f a b
on_ok_both (Err x) f a b = tt

-- the same of what is kept, and is the same, at the end
pub ended : (ip ip' t : ℕ) (new kept : Kept) (news judges : List Held) (after last : MemoryPort) (s : Slave) (said : List Statement) (deed : Deed) (old middle noted : Noted)
    → ip' ≡ ip → kept ≡ new → judges ≡ news → HasSlaveStepped ip new news after s deed → middle ≡ with_said said old → last ≡ record after { sent = [] }
    → ((openings : List (Option Rule)) (L : Record) → StandsFor openings new news L → noted ≡ with_said (selection_by ip new L t ∷ []) (with_handed ip after.sent middle))
    → HasDone (StandsAsSlave ip' kept judges last true) ip (event_deed s t said deed) old noted
ended ip ip' t new kept news judges after last s said deed old middle noted same_ip same_kept same_judges h before cleared says =
    subst (λ a. HasDone (StandsAsSlave a kept judges last true) ip (event_deed s t said deed) old noted) (sym same_ip)
    (subst (λ k. HasDone (StandsAsSlave ip k judges last true) ip (event_deed s t said deed) old noted) (sym same_kept)
    (subst (λ js. HasDone (StandsAsSlave ip new js last true) ip (event_deed s t said deed) old noted) (sym same_judges)
    (event_done ip t new news after last s said deed old middle noted h cleared before says)))

-- where nothing is sent
pub quietly_ended : (ip ip' t : ℕ) (new kept : Kept) (news judges : List Held) (before after last : MemoryPort) (s : Slave) (deed : Deed) (old noted : Noted)
    → ip' ≡ ip → kept ≡ new → HasSlaveStepped ip new news after s deed → judges ≡ news → after ≡ before → last ≡ after → IsIdle before
    → ((openings : List (Option Rule)) (L : Record) → StandsFor openings new news L → noted ≡ with_said (selection_by ip new L t ∷ []) old)
    → HasDone (StandsAsSlave ip' kept judges last true) ip (event_deed s t [] deed) old noted
quietly_ended ip ip' t new kept news judges before after last s deed old noted same_ip same_kept h same_judges still kept_port idle says =
    ended ip ip' t new kept news judges after last s [] deed old old noted same_ip same_kept same_judges h (sym (said_nothing old)) (kept_port ∙ ap (λ l. record after { sent = l }) none)
    (λ openings L stands. says openings L stands ∙ ap (with_said (selection_by ip new L t ∷ [])) (sym (ap (λ ds. with_handed ip ds old) none ∙ sent_nothing old)))
  where
    none : after.sent ≡ []
    none = ap (λ (p : MemoryPort). p.sent) still ∙ idle

-- a fresh judge of this rule took over
pub replaced : (ip : ℕ) (old new : Kept) (judges news : List Held) (judge : Held) (before after : MemoryPort) (begun : Bool) (s : Slave) (t m : ℕ) (rule : Rule)
    → judge ≡ fresh rule → IsSlaveNode ip old judges before begun s → m < length old.masters → IsSame old new
    → Steps s.opened.openings old new news s.taken t (ReplaceJudge m judge.rule) → after ≡ before → HasSlaveStepped ip new news after s (deed s.opened s.taken t (ReplaceJudge m (Some rule)))
replaced ip old new judges news judge before after begun s t m rule is h within same steps still =
    stepped ip old new judges news before after begun s t (ReplaceJudge m (Some rule)) (deed s.opened s.taken t (ReplaceJudge m (Some rule))) h (λ n other. absurd (cc other)) (within, tt) same
    (subst (λ (j : Held). Steps s.opened.openings old new news s.taken t (ReplaceJudge m j.rule)) is steps) refl
    (ap (λ (p : MemoryPort). p.sent) still ∙ h.idle) (subst (λ p. IsSure p []) (sym still) h.sure)

-- ---- an event that no datagram makes

-- of what is seen of a slave as room is made, and as all is handed to its port
pub plainly_stepped : {B : Type 0} (ip : ℕ) (old room new : Seen MemoryPort B) (begun : Bool) (s : Slave) (t at failed datagrams octets : ℕ) (e : SlaveEvent) (handed : List Sending)
    → room ≡ record old { port = room.port } → room.port.sent ≡ old.port.sent → room.port.failing_sends ≡ old.port.failing_sends → HasRoom room.port datagrams octets
    → IsNode ip old begun s → ((m : ℕ) → e ≢ ReplaceJudge m None) → AllByRecursion (λ m. m < length room.kept.masters) (judged_masters (length room.kept.masters) e)
    → IsSame room.kept new.kept
    → ((openings : List (Option Rule)) (L : Record) → StandsFor openings room.kept room.judges L → Steps openings room.kept new.kept new.judges L t e)
    → at ≡ max t room.kept.moment
    → ((openings : List (Option Rule)) (L : Record) → StandsFor openings room.kept room.judges L → handed ≡ sendings (setup_of room.kept.config openings) L at e)
    → ((setup : SlaveSetup) (L : Record) (x : ℕ) (ss : List Sending) → ss ≡ sendings setup L x e → length setup.openings ≤ 16 → IsSure room.port [] → HasRoom room.port datagrams octets
    → IsSure room.port (map (sending_departure room.kept.config room.kept.masters all_ones) ss))
    → (IsSure room.port (map (sending_departure room.kept.config room.kept.masters all_ones) handed) → (failed ≡ 0) × IsSure new.port [])
    → (failed ≡ 0 → Some (room.port.sent ++ map (sending_departure room.kept.config room.kept.masters all_ones) handed) ≡ Some new.port.sent)
    → HasSteppedTo ip new s (deed s.opened s.taken t e)
plainly_stepped ip old room new begun s t at failed datagrams octets e handed rest idle listed has h ruled within same steps is states within_room surely whole =
    let is_node : IsNode ip room begun s = roomed ip old room begun s datagrams octets rest idle listed has h in
    let stated : handed ≡ sendings (setup_of room.kept.config s.opened.openings) s.taken at e = states s.opened.openings s.taken is_node.stands in
    let sure : (failed ≡ 0) × IsSure new.port [] =
    surely (within_room (setup_of room.kept.config s.opened.openings) s.taken at handed stated (omega (arith, is_node.stands.each_opening, is_node.distinct.few)) is_node.sure has) in
    plain_stepped ip room.kept new.kept room.judges new.judges room.port room.port new.port begun s t at e
    handed is_node ruled within same (steps s.opened.openings s.taken is_node.stands) is refl (whole sure.0) stated sure.1

-- and what it does, once that is handed over and the slave says what it selects
pub plainly_ended : {B T E : Type 0} (r : Result T E) (ip ip' t : ℕ) (e : SlaveEvent) (old mid last : Seen MemoryPort B) (journal noted : Noted)
    → ip' ≡ ip → last.kept ≡ mid.kept → last.judges ≡ mid.judges
    → ((begun : Bool) (s : Slave) → IsNode ip old begun s → HasSteppedTo ip mid s (deed s.opened s.taken t e))
    → OnOk r (last.port ≡ record (mid.port) { sent = [] })
    → OnOk r ((openings : List (Option Rule)) (L : Record) → StandsFor openings mid.kept mid.judges L
    → noted ≡ with_said (selection_by ip mid.kept L t ∷ []) (with_handed ip mid.port.sent journal))
    → OnOk r ((begun : Bool) (s : Slave) → IsNode ip old begun s → HasDone (StandsAsNode ip' last true) ip (plain_deed s t e) journal noted)
plainly_ended r ip ip' t e old mid last journal noted same_ip same_kept same_judges steps =
    on_ok_both r (λ cleared says begun s h. ended ip ip' t mid.kept last.kept mid.judges last.judges mid.port last.port s [] (deed s.opened s.taken t e) journal journal noted
    same_ip same_kept same_judges (steps begun s h) (sym (said_nothing journal)) cleared says)
