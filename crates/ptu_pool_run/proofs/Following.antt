-- The history of a pool is what its lines say, and what its own events make.
use Rattle.std.proofs.Common.{◌≡◌, ◌≢◌, ◌∙◌, ℕ, ◌+◌, ◌-◌, ◌<◌, Bool, true, false, cond, leb, List, [], ◌∷◌, ◌++◌, length, map, filter, filter_map, position, slice_get, Option, Some, None, refl, sym, ap, subst, append_assoc, arith}
use Rattle.std.specs.{List.{cons_option}, Option.{option_map_or}}
use Rattle.std.proofs.lemmas.Bool.{eq-eqb, false_from_ne_true, le-leb, ne_eqb}
use Rattle.std.proofs.lemmas.{List.{append-nil, map-append}, List.Elements.{filter-append, filter_map-append}}
use Rattle.std.proofs.lemmas.Option.{slice_get_within}
use Rattle.ptu_outside.specs.Departure.{Departure}
use Rattle.ptu_report.specs.declared.ending.Ending.{Ending}
use Rattle.ptu_report.specs.Rules.{Goes, Outcome, Refuses}
use Rattle.ptu_history.specs.{Core.{history_after}}
use Rattle.ptu_history.specs.Events as events
use Rattle.ptu_history.specs.Events.{Event}
use Rattle.ptu_history.proofs.Histories.{history-none}
use Rattle.ptu_profile.specs.declared.grandmaster.GmConfig.{GmConfig}
use Rattle.ptu_gm_messages.specs.Deciding.{events_of_datagram, opened_with}
use Rattle.ptu_gm_messages.specs.Items.{heard_in}
use Rattle.ptu_grandmaster.specs.Driven as driven
use Rattle.ptu_script.specs.declared.command.GrandmasterSetup.{GrandmasterSetup}
use Rattle.ptu_world.specs.{Promises.{Timing, messages_in}}
use Rattle.ptu_world.specs.Grandmasters.{datagram_deed}
use Rattle.ptu_world.proofs.{Going.{heard_node}, Messages.{Tells, heads, heard_told, turn_told}}
use Rattle.ptu_pool_run.specs.{declared.pool.Pool.{Pool}, Events.{PoolEvent, Came, Turned, gm_event, is_own, pool_history}}
use Rattle.ptu_pool_run.specs.Pool.{AreApart, capacity_at, is_in, is_in_at}
use Rattle.ptu_pool_run.proofs.Standing.{history-mine, history-other}
use Rattle.ptu_nodes.specs.Standing.{setup_config}
use Rattle.ptu_pool_run.specs.declared.{cause.PoolCause.{PoolCause}}
use Rattle.ptu_pool_run.specs.declared.cause.PoolCause.TheVariants.{Number}
use Rattle.ptu_pool_run.specs.declared.command.PoolCommand.{PoolCommand}
use Rattle.ptu_pool_run.specs.declared.command.PoolCommand.TheVariants as commands
use Rattle.ptu_pool_run.specs.{Output.{pool_line_text}, Promises.{FollowsEvents, GoesOnInPool, Sold, pool_addressed, history_of, past, timing_in}}
use Rattle.ptu_pool_run.specs.Reading.{At, Told, behind_pools, pool_events, happened, told_setup, sold, sold_by, told_after, turned}
use Rattle.ptu_pool_run.specs.{Selling.{selling_refusal}, Sending.{grandmaster_of, lines_of_event, sends_at, sent_line}}
use Rattle.ptu_pool_run.specs.Poured.{is_line_of, last_line, lines_after}
use Rattle.ptu_pool_run.proofs.{Happening.{here}, OutputLines.{last_not_mine, one_event, sent_if}}

-- ---- its lines

written_heads : (line number : ℕ) (ds : List Departure) → filter_map timing_in (map (sent_line line number) ds) ≡ heads ds
written_heads line number [] = refl
written_heads line number (d ∷ ds) = ap (cons_option (timing_in (sent_line line number d))) (written_heads line number ds)

module _ (setup : GrandmasterSetup) (pools : List Pool) (i : ℕ) where
  -- the messages of its history, after these events
  abbrev messages_after : List PoolEvent → List Timing
  messages_after before = messages_in (setup_config setup).epoch [] (pool_history (setup_config setup) pools i before)

  own_messages : (before : List PoolEvent) (event : PoolEvent) → is_own pools i event ≡ true →
      messages_after before ++ heads (sends_at (grandmaster_of setup pools before i) event) ≡ messages_after (before ++ event ∷ [])
  own_messages before (Came t from octets) mine =
      let g = grandmaster_of setup pools before i in
      let what = heard_in (setup_config setup) octets in
      let deed = datagram_deed g t from octets in
      sym (subst (Tells g deed.sends) (heard_node g t from what) (heard_told g t from what))
      ∙ ap (messages_in (setup_config setup).epoch []) (sym (history-mine (setup_config setup) pools i before (Came t from octets) mine))
  own_messages before (Turned t pool table) mine =
      sym (turn_told (grandmaster_of setup pools before i) t table)
      ∙ ap (messages_in (setup_config setup).epoch []) (sym (history-mine (setup_config setup) pools i before (Turned t pool table) mine))

  event_messages : (before : List PoolEvent) (line : ℕ) (event : PoolEvent) (b : Bool) → is_own pools i event ≡ b →
      messages_after before ++ filter_map timing_in (sent_if setup pools i b before line event) ≡ messages_after (before ++ event ∷ [])
  event_messages before line event true mine =
      ap (λ ms. messages_after before ++ ms) (written_heads line (i + 1) (sends_at (grandmaster_of setup pools before i) event)) ∙ own_messages before event mine
  event_messages before line event false other =
      append-nil (messages_after before) ∙ ap (messages_in (setup_config setup).epoch []) (sym (history-other (setup_config setup) pools i before event other))

  lines_messages : (before : List PoolEvent) (es : List At) → AreApart pools →
      messages_after before ++ filter_map timing_in (filter (is_line_of i) (lines_after setup pools before es)) ≡ messages_after (before ++ pool_events es)
  lines_messages before [] apart = append-nil (messages_after before) ∙ ap messages_after (sym (append-nil before))
  lines_messages before ((line, event) ∷ rest) apart =
      let later = lines_after setup pools (before ++ event ∷ []) rest in
      ap (λ ls. messages_after before ++ filter_map timing_in ls)
      (filter-append (is_line_of i) (lines_of_event setup pools before line event) later
      ∙ ap (λ ls. ls ++ filter (is_line_of i) later) (one_event setup pools i before line event apart))
      ∙ ap (λ ms. messages_after before ++ ms) (filter_map-append timing_in (sent_if setup pools i (is_own pools i event) before line event) (filter (is_line_of i) later))
      ∙ sym (append_assoc (messages_after before) (filter_map timing_in (sent_if setup pools i (is_own pools i event) before line event)) (filter_map timing_in (filter (is_line_of i) later)))
      ∙ ap (λ ms. ms ++ filter_map timing_in (filter (is_line_of i) later)) (event_messages before line event (is_own pools i event) refl)
      ∙ lines_messages (before ++ event ∷ []) rest apart
      ∙ ap messages_after (append_assoc before (event ∷ []) (pool_events rest))

  pub all_messages : (es : List At) (ending : Ending PoolCause) → AreApart pools →
      filter_map timing_in (filter (is_line_of i) (lines_after setup pools [] es ++ last_line ending ∷ [])) ≡ messages_after (pool_events es)
  all_messages es ending apart =
      ap (filter_map timing_in)
      (filter-append (is_line_of i) (lines_after setup pools [] es) (last_line ending ∷ [])
      ∙ ap (λ ls. filter (is_line_of i) (lines_after setup pools [] es) ++ ls) (last_not_mine setup pools i ending)
      ∙ append-nil (filter (is_line_of i) (lines_after setup pools [] es)))
      ∙ ap (λ ms. ms ++ filter_map timing_in (filter (is_line_of i) (lines_after setup pools [] es))) (sym (ap (messages_in (setup_config setup).epoch []) (history-none (opened_with (capacity_at pools i) (setup_config setup)))))
      ∙ lines_messages [] es apart

-- ---- its events

pub at_pools : (o : Option GrandmasterSetup) (pools : List Pool) (next : GrandmasterSetup → Outcome Told PoolCause) (setup : GrandmasterSetup) (place : ℕ) (pool : Pool) →
    o ≡ Some setup → slice_get pools place ≡ Some pool → behind_pools o pools next ≡ next setup
at_pools None pools next setup place pool is there = absurd cc
at_pools (Some first) [] next setup place pool is there = absurd cc
at_pools (Some first) (other ∷ pools) next setup place pool is there = let same : first ≡ setup = cc in ap next same

events_push : (es : List At) (line : ℕ) (event : PoolEvent) → pool_events (es ++ (line, event) ∷ []) ≡ pool_events es ++ event ∷ []
events_push es line event = map-append (λ (at : At). at.1) es ((line, event) ∷ [])

module _ (script : List ℕ) (p : Sold script) (apart : AreApart (p.told).pools) where
  abbrev config : GmConfig
  config = setup_config p.setup

  abbrev pools : List Pool
  pools = (p.told).pools

  abbrev before : List PoolEvent
  before = pool_events (p.told).events

  own_capacity : capacity_at pools p.place ≡ (p.pool).capacity
  own_capacity = ap (λ o. option_map_or (λ (pool : Pool). pool.capacity) o 0) p.is_sold

  abbrev told_more : ℕ → PoolEvent → Told
  told_more line event = record (p.told) { events = (p.told).events ++ (line, event) ∷ [] }

  goes : (line : ℕ) (event : PoolEvent) → is_own pools p.place event ≡ true →
      history_of p.setup (told_more line event) p.place ≡ history_after (opened_with (p.pool).capacity config) (past p) (driven.events_of config (gm_event event))
  goes line event mine =
      ap (pool_history config pools p.place) (events_push (p.told).events line event)
      ∙ history-mine config pools p.place before event mine
      ∙ ap (λ n. history_after (opened_with n config) (past p) (driven.events_of config (gm_event event))) own_capacity

  stays : (line : ℕ) (event : PoolEvent) → is_own pools p.place event ≡ false → history_of p.setup (told_more line event) p.place ≡ past p
  stays line event other = ap (pool_history config pools p.place) (events_push (p.told).events line event) ∙ history-other config pools p.place before event other

  begins : (p.told).events ≡ [] → past p ≡ []
  begins none = ap (λ es. pool_history config pools p.place (pool_events es)) none ∙ history-none (opened_with (capacity_at pools p.place) config)

  datagram : (line t from : ℕ) (octets : List ℕ) → is_in from p.pool ≡ true → GoesOnInPool p line (commands.Receive t from octets) (events_of_datagram config t from octets)
  datagram line t from octets inside = record {
    after = told_more line (Came t from octets);
    texts = map pool_line_text (lines_of_event p.setup pools before line (Came t from octets));
    step = at_pools (p.told).setup pools (happened p.told line (Came t from octets)) p.setup p.place p.pool p.is_set_up p.is_sold;
    history = goes line (Came t from octets) (ap (λ o. option_map_or (is_in from) o false) p.is_sold ∙ inside);
  }

  turn_taken : (line t table : ℕ) → turned p.told line t (p.place + 1) table p.setup ≡ happened p.told line (Turned t p.place table) p.setup
  turn_taken line t table =
      let lt : p.place < length pools = slice_get_within pools p.place p.pool p.is_sold in
      ap (λ b. cond b (happened p.told line (Turned t (p.place + 1 - 1) table) p.setup) (Refuses Number)) (le-leb (p.place + 1) (length pools) (omega (arith, lt)))
      ∙ ap (λ n. happened p.told line (Turned t n table) p.setup) (let same : p.place + 1 - 1 ≡ p.place = omega arith in same)

  turn : (line t table : ℕ) → GoesOnInPool p line (commands.Turn t (p.place + 1) table) ((t, events.Turn table) ∷ [])
  turn line t table = record {
    after = told_more line (Turned t p.place table);
    texts = map pool_line_text (lines_of_event p.setup pools before line (Turned t p.place table));
    step = at_pools (p.told).setup pools (turned p.told line t (p.place + 1) table) p.setup p.place p.pool p.is_set_up p.is_sold ∙ turn_taken line t table;
    history = goes line (Turned t p.place table) (eq-eqb p.place p.place refl);
  }

  -- ---- the other lines

  other_setup : (setup : GrandmasterSetup) (after : Told) (texts : List (List ℕ)) → told_setup p.told setup (p.told).setup ≡ Goes after texts → history_of p.setup after p.place ≡ past p
  other_setup setup after texts e = let refused = sym (ap (told_setup p.told setup) p.is_set_up) ∙ e in absurd cc

  other_pool : (pool : Pool) (es : List At) (o : Option PoolCause) (after : Told) (texts : List (List ℕ)) → (p.told).events ≡ es → es ≡ [] → sold_by p.told pool o ≡ Goes after texts →
      history_of p.setup after p.place ≡ past p
  other_pool pool es None after texts is none e =
      let more : Told = record (p.told) { pools = pools ++ pool ∷ [] } in
      let same : more ≡ after = cc in
      ap (λ (told : Told). history_of p.setup told p.place) (sym same)
      ∙ ap (λ l. pool_history config (pools ++ pool ∷ []) p.place (pool_events l)) (is ∙ none)
      ∙ history-none (opened_with (capacity_at (pools ++ pool ∷ []) p.place) config)
      ∙ sym (begins (is ∙ none))
  other_pool pool es (Some cause) after texts is none e = absurd cc

  other_sale : (pool : Pool) (es : List At) (after : Told) (texts : List (List ℕ)) → (p.told).events ≡ es → sold p.told pool (Some p.setup) es ≡ Goes after texts →
      history_of p.setup after p.place ≡ past p
  other_sale pool [] after texts is e = other_pool pool [] (selling_refusal (p.setup).capacity pools pool) after texts is refl e
  other_sale pool (at ∷ es) after texts is e = absurd cc

  other_event : (line : ℕ) (event : PoolEvent) (after : Told) (texts : List (List ℕ)) → is_own pools p.place event ≡ false → happened p.told line event p.setup ≡ Goes after texts →
      history_of p.setup after p.place ≡ past p
  other_event line event after texts other e =
      let same : told_more line event ≡ after = cc in ap (λ (told : Told). history_of p.setup told p.place) (sym same) ∙ stays line event other

  other_turn : (line t number table : ℕ) (b : Bool) (after : Told) (texts : List (List ℕ)) → Some (number - 1) ≢ Some p.place →
      cond b (happened p.told line (Turned t (number - 1) table) p.setup) (Refuses Number) ≡ Goes after texts → history_of p.setup after p.place ≡ past p
  other_turn line t number table true after texts other e =
      other_event line (Turned t (number - 1) table) after texts (ne_eqb p.place (number - 1) (λ same. other (ap Some (sym same)))) e
  other_turn line t number table false after texts other e = absurd cc

  others : (line : ℕ) (command : PoolCommand) (after : Told) (texts : List (List ℕ)) → told_after p.told line command ≡ Goes after texts → pool_addressed p.told command ≢ Some p.place →
      history_of p.setup after p.place ≡ past p
  others line (commands.Grandmaster setup) after texts e other = other_setup setup after texts e
  others line (commands.Sell pool) after texts e other =
      other_sale pool (p.told).events after texts refl (sym (ap (λ o. sold p.told pool o (p.told).events) p.is_set_up) ∙ e)
  others line (commands.Receive t from octets) after texts e other =
      other_event line (Came t from octets) after texts
      (false_from_ne_true (is_in_at pools p.place from) (λ mine. other (here pools from p.place (position (is_in from) pools) apart mine refl)))
      (sym (at_pools (p.told).setup pools (happened p.told line (Came t from octets)) p.setup p.place p.pool p.is_set_up p.is_sold) ∙ e)
  others line (commands.Turn t number table) after texts e other =
      other_turn line t number table (leb number (length pools)) after texts other
      (sym (at_pools (p.told).setup pools (turned p.told line t number table) p.setup p.place p.pool p.is_set_up p.is_sold) ∙ e)

pub follows : (script : List ℕ) → ((p : Sold script) → AreApart (p.told).pools) → FollowsEvents script
follows script apart = record {
  begins = λ p none. begins script p (apart p) none;
  datagram = λ p line t from octets inside. datagram script p (apart p) line t from octets inside;
  turn = λ p line t table. turn script p (apart p) line t table;
  others = λ p line command after texts e other. others script p (apart p) line command after texts e other;
}
