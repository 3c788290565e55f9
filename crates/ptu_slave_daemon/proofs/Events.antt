-- What one event makes of a slave that stands for a node with a record.
use Rattle.std.proofs.Common.{◌≡◌, ◌≢◌, Bool, ℕ, zero, suc, ◌+◌, ◌<◌, ◌≤◌, max, List, [], ◌∷◌, ◌++◌, length, map, Option, None, Ok, Err, refl, ap, ap₂, sym, subst, ◌∙◌, arith}
use Rattle.std.proofs.lemmas.List.{append-nil}
use Rattle.std.specs.{List.{AllByRecursion, range_with_len}, Option.{option_map}}
use Rattle.std.specs.Prelude.{IsSome, Result}
use Rattle.ptu_messages.specs.declared.message.Message.{Message}
use Rattle.ptu_outside.specs.declared.arrival.Arrival.{Arrival}
use Rattle.ptu_record.specs.{declared.rule.Rule.{Rule}, Lists.{places}}
use Rattle.ptu_record.specs.{Record.{Record, event_moment}, Selection.{selected_master}}
use Rattle.ptu_record.specs.Step.{ReplaceJudge, SlaveEvent, Stop, Tick, judged_masters, sendings, slave_step}
use Rattle.ptu_record.proofs.Places.{all_places}
use Rattle.ptu_judges.specs.Held.{Held}
use Rattle.ptu_profile.specs.declared.slave.{Master.{Master}, SlaveConfig.{SlaveConfig}}
use Rattle.ptu_slave_messages.specs.declared.reason.SlaveReason.{SlaveReason}
use Rattle.ptu_profile.specs.Slave.{address_of, priorities, timeouts}
use Rattle.ptu_slave_messages.specs.Heard.{event_of, replies_in}
use Rattle.ptu_slave_messages.specs.Node.{Node, datagram_deed, deed, node_selection, node_setup, reception_deed}
use Rattle.ptu_slave_messages.specs.{Reception.{reception}, Sending.{sending_departure}}
use Rattle.ptu_profile.specs.Target.{all_ones}
use Rattle.ptu_slave.specs.{Kept.{IsSame, Kept}, Standing.{StandsFor, Steps, setup_of}}
use Rattle.ptu_slave.proofs.{Nodes.{node_replies}, Ruled.{ruled_step}, Staying.{rules_stay}}
use Rattle.ptu_slave.proofs.Stepping.{moment_is}
use Rattle.ptu_slave_daemon.specs.Happenings.{Arrives, Stops, Ticks}
use Rattle.ptu_slave_daemon.specs.Running.{AreTimed, IsAt, PortDid, SlaveRan, View}
use Rattle.ptu_slave_messages.proofs.Senders.{judged_within, no_judge, taken_within}

-- ---- masters

-- ---- the record

-- an event has entered what it enters
stepped : (node : Node) (old new : Kept) (judges news : List Held) (L : Record) (t : ℕ) (e : SlaveEvent) → IsAt node old judges L → ((m : ℕ) → e ≢ ReplaceJudge m None)
    → AllByRecursion (λ m. m < length old.masters) (judged_masters (length old.masters) e) → IsSame old new → Steps node.openings old new news L t e
    → IsAt node new news (L ++ (slave_step (node_setup node) L t e).entries)
stepped node old new judges news L t e h ruled within same steps = record {
  config = same.config ∙ h.config;
  masters = same.masters ∙ h.masters;
  stands = subst (λ (config : SlaveConfig). StandsFor node.openings new news (L ++ (slave_step (setup_of config node.openings) L t e).entries)) h.config
      (ruled_step node.openings old new news L t e still below steps);
  ruled = still;
}
  where
    still : AllByRecursion (λ held. IsSome held.rule) news
    still = rules_stay node.openings old new judges news L t e ruled h.ruled h.stands steps

    below : AllByRecursion (λ m. m < length news) (judged_masters (length node.openings) e)
    below =
        subst (λ n. AllByRecursion (λ m. m < n) (judged_masters (length node.openings) e)) (ap length (sym same.masters) ∙ sym steps.stands.each_judged)
        (subst (λ n. AllByRecursion (λ m. m < length old.masters) (judged_masters n e)) (sym h.stands.each_opening) within)

-- a datagram was taken, or it was no event
taken : (node : Node) (old new : Kept) (judges news : List Held) (L : Record) (t from : ℕ) (octets : List ℕ) → IsAt node old judges L → IsSame old new
    → ((reason : SlaveReason) → reception old.config old.masters from octets ≡ Err reason → (new ≡ old) × (news ≡ judges))
    → ((m : ℕ) (message : Message) → reception old.config old.masters from octets ≡ Ok (m, message) → Steps node.openings old new news L t (event_of m message))
    → IsAt node new news (L ++ (datagram_deed node L t from octets).entries)
taken node old new judges news L t from octets h same ignored steps = by_reception (reception node.config node.masters from octets) refl
  where
    received : reception old.config old.masters from octets ≡ reception node.config node.masters from octets
    received = ap₂ (λ (config : SlaveConfig) (masters : List Master). reception config masters from octets) h.config h.masters

    by_reception : (r : Result (ℕ × Message) SlaveReason) → reception node.config node.masters from octets ≡ r → IsAt node new news (L ++ (reception_deed node L t r).entries)
    by_reception (Err reason) is =
        let kept = ignored reason (received ∙ is) in
        subst (IsAt node new news) (sym (append-nil L)) (subst (λ k. IsAt node k news L) (sym kept.0) (subst (λ js. IsAt node old js L) (sym kept.1) h))
    by_reception (Ok (m, message)) is =
        stepped node old new judges news L t (event_of m message) h (λ n. no_judge m n message.header message.body)
        (judged_within m (length old.masters) message.header message.body (taken_within old.config old.masters from m message octets (received ∙ is))) same (steps m message (received ∙ is))

-- ---- one thing that happens

module _ (once : Bool) (node : Node) (L : Record) (old new : View) (t : ℕ) (h : IsAt node old.kept old.judges L) (same : IsSame old.kept new.kept) where
  -- a datagram arrives
  pub ran_taken : (arrival : Arrival) (sent failed : ℕ) → AreTimed old.times new.times (Arrives arrival ∷ []) (Arrives arrival t ∷ [])
      → ((reason : SlaveReason) → reception old.kept.config old.kept.masters arrival.ip arrival.bytes ≡ Err reason → (new.kept ≡ old.kept) × (new.judges ≡ old.judges))
      → ((m : ℕ) (message : Message) → reception old.kept.config old.kept.masters arrival.ip arrival.bytes ≡ Ok (m, message) → Steps node.openings old.kept new.kept new.judges L t (event_of m message))
      → PortDid once old.sent new.sent old.faults new.faults (replies_in old.kept.config old.kept.masters (reception old.kept.config old.kept.masters arrival.ip arrival.bytes)) sent failed 0
      → SlaveRan once node L old new (Arrives arrival ∷ []) (Arrives arrival t ∷ []) [] sent failed 0
  ran_taken arrival sent failed timed ignored steps hands = record {
    happened = ((t, refl), tt);
    timed = timed;
    stands = taken node old.kept new.kept old.judges new.judges L t arrival.ip arrival.bytes h same ignored steps;
    port = subst (λ ds. PortDid once old.sent new.sent old.faults new.faults ds sent failed 0) datagrams hands;
    selects = refl;
  }
    where
      datagrams : replies_in old.kept.config old.kept.masters (reception old.kept.config old.kept.masters arrival.ip arrival.bytes) ≡ (datagram_deed node L t arrival.ip arrival.bytes).datagrams ++ []
      datagrams =
          ap₂ (λ (config : SlaveConfig) (masters : List Master). replies_in config masters (reception config masters arrival.ip arrival.bytes)) h.config h.masters
          ∙ node_replies node L t arrival.ip arrival.bytes ∙ sym (append-nil (datagram_deed node L t arrival.ip arrival.bytes).datagrams)

  -- a tick or the stop sends
  handed : (at : ℕ) (e : SlaveEvent) (sent failed : ℕ) → at ≡ max t old.kept.moment
      → PortDid once old.sent new.sent old.faults new.faults
      (map (sending_departure old.kept.config old.kept.masters all_ones) (sendings (setup_of old.kept.config node.openings) L at e)) sent failed 0
      → PortDid once old.sent new.sent old.faults new.faults ((deed node L t e).datagrams ++ []) sent failed 0
  handed at e sent failed is hands =
      subst (λ ds. PortDid once old.sent new.sent old.faults new.faults ds sent failed 0) datagrams hands
    where
      datagrams : map (sending_departure old.kept.config old.kept.masters all_ones) (sendings (setup_of old.kept.config node.openings) L at e) ≡ (deed node L t e).datagrams ++ []
      datagrams =
          ap (λ x. map (sending_departure old.kept.config old.kept.masters all_ones) (sendings (setup_of old.kept.config node.openings) L x e)) (is ∙ moment_is node.openings old.kept old.judges L t h.stands)
          ∙ ap₂ (λ (config : SlaveConfig) (masters : List Master). map (sending_departure config masters all_ones) (sendings (setup_of config node.openings) L (event_moment L t) e)) h.config h.masters
          ∙ sym (append-nil (deed node L t e).datagrams)

  pub ran_ticked : (at round sent failed : ℕ) (master : Option ℕ) → AreTimed old.times new.times (Ticks round ∷ []) (Ticks round t ∷ []) → at ≡ max t old.kept.moment
      → Steps node.openings old.kept new.kept new.judges L t Tick
      → PortDid once old.sent new.sent old.faults new.faults
      (map (sending_departure old.kept.config old.kept.masters all_ones) (sendings (setup_of old.kept.config node.openings) L at Tick)) sent failed 0
      → ((openings : List (Option Rule)) (M : Record) → StandsFor openings new.kept new.judges M
      → master ≡ option_map (address_of new.kept.masters) (selected_master (timeouts new.kept.config) (priorities new.kept.masters) M (event_moment M t)))
      → SlaveRan once node L old new (Ticks round ∷ []) (Ticks round t ∷ []) (record { round = round; master = master } ∷ []) sent failed 0
  ran_ticked at round sent failed master timed is steps hands selects = record {
    happened = ((t, refl), tt);
    timed = timed;
    stands = after;
    port = handed at Tick sent failed is hands;
    selects = ap (λ m. record { round = round; master = m } ∷ []) (sym selected);
  }
    where
      M : Record
      M = L ++ (deed node L t Tick).entries

      after : IsAt node new.kept new.judges M
      after = stepped node old.kept new.kept old.judges new.judges L t Tick h (λ m other. absurd (cc other)) (all_places (length old.kept.masters)) same steps

      selected : master ≡ option_map (address_of node.masters) (node_selection node M t)
      selected = selects node.openings M after.stands
          ∙ ap₂ (λ (config : SlaveConfig) (masters : List Master). option_map (address_of masters) (selected_master (timeouts config) (priorities masters) M (event_moment M t))) after.config after.masters

  pub ran_stopped : (at sent failed : ℕ) → AreTimed old.times new.times (Stops ∷ []) (Stops t ∷ []) → at ≡ max t old.kept.moment
      → Steps node.openings old.kept new.kept new.judges L t Stop
      → PortDid once old.sent new.sent old.faults new.faults
      (map (sending_departure old.kept.config old.kept.masters all_ones) (sendings (setup_of old.kept.config node.openings) L at Stop)) sent failed 0
      → SlaveRan once node L old new (Stops ∷ []) (Stops t ∷ []) [] sent failed 0
  ran_stopped at sent failed timed is steps hands = record {
    happened = ((t, refl), tt);
    timed = timed;
    stands = stepped node old.kept new.kept old.judges new.judges L t Stop h (λ m other. absurd (cc other)) tt same steps;
    port = handed at Stop sent failed is hands;
    selects = refl;
  }

-- ---- what is selected
