-- How a REQUEST that a datagram from an address of a pool brings is decided and answered.
use Rattle.std.proofs.Common.{◌≡◌, ◌∙◌, ℕ, ◌+◌, ◌<◌, true, false, List, [], ◌∷◌, ◌++◌, length, map, cond, position, Some, None, IfSome, Result, Ok, refl, sym, ap, subst, arith, eq-eqb}
use Rattle.std.specs.{List.{flat_map, list_any}, Option.{option_map_or}}
use Rattle.std.proofs.lemmas.{Bool.{or_from}, List.Folds.{list_any-append}}
use Rattle.std.proofs.lemmas.Option.{get_or_from_slice_get, slice_get_within}
use Rattle.ptu_messages.specs.declared.tlv.Tlv.{Tlv}
use Rattle.ptu_outside.specs.Departure.{Departure}
use Rattle.ptu_report.specs.Rules.{Goes}
use Rattle.ptu_history.specs.{Core.{core_history, history_after}, Events.{Event}}
use Rattle.ptu_history.specs.History.{capacity_in_force}
use Rattle.ptu_history.specs.Verdict.{Config}
use Rattle.ptu_history.proofs.{AfterSteps.{capacity_in_force-quiet}, Histories.{history_after-append}}
use Rattle.ptu_laws.proofs.Budget.{history-unchanged}
use Rattle.ptu_profile.specs.declared.grandmaster.GmConfig.{GmConfig}
use Rattle.ptu_units.specs.Limits.{IsCapacity}
use Rattle.ptu_gm_messages.specs.declared.item.Item.TheVariants as items
use Rattle.ptu_gm_messages.specs.Deciding.{answer_by, events_of_items, opened_with}
use Rattle.ptu_gm_messages.specs.Replies.{reply_to}
use Rattle.ptu_grandmaster.specs.Driven as driven
use Rattle.ptu_script.specs.declared.{cause.Cause.{Cause}, command.Command.{Command}}
use Rattle.ptu_script.specs.declared.act.Act.TheVariants as acts
use Rattle.ptu_script.specs.declared.command.Command.TheVariants as script
use Rattle.ptu_script.specs.Limits.{IsGrandmasterWithin}
use Rattle.ptu_report_lines.specs.declared.sent.Sent as sending
use Rattle.ptu_world.specs.Deeds.{Grandmaster, IsGrandmaster}
use Rattle.ptu_world.specs.Grandmasters as gm
use Rattle.ptu_world.specs.Promises as world
use Rattle.ptu_world.specs.Promises.{IsDecidedByRoom, IsRun, Request, capacity_then, client, decision, history}
use Rattle.ptu_world.specs.World.{World, Done, datagram_deed, done_by, sent_from}
use Rattle.ptu_world.specs.World as worlds
use Rattle.ptu_world.proofs.Deciding.{is_answered, is_decided, taken_by}
use Rattle.ptu_pool_run.specs.{declared.pool.Pool.{Pool}, Events.{PoolEvent, Came, gm_event, own}}
use Rattle.ptu_pool_run.specs.Pool.{AreApart, capacity_at, is_in, is_in_at}
use Rattle.ptu_pool_run.proofs.Whole.{Quiet, all_quiet, items_quiet, resizes}
use Rattle.ptu_nodes.specs.Standing.{setup_config}
use Rattle.ptu_pool_run.specs.declared.output.PoolLine.{PoolLine}
use Rattle.ptu_pool_run.specs.declared.output.PoolLine.TheVariants.{Sent}
use Rattle.ptu_pool_run.specs.{Output.{pool_line_text}, Promises.{DecidesByOwnRoom, IsAnsweredByPool, IsHandedToPool, Sold}}
use Rattle.ptu_pool_run.specs.Reading.{pool_events, happened}
use Rattle.ptu_pool_run.specs.Sending.{grandmaster_of, pool_lines_by, lines_of_event, sent_line}
use Rattle.ptu_pool_run.proofs.{Following.{at_pools}, Happening.{here}, Limits.{IsWithin}}

-- ---- the reply

-- of a datagram that a node sent, the line of the pool with this number
abbrev line_of : ℕ → ℕ → sending.Sent → PoolLine
line_of line number sent = Sent line number sent.channel sent.to sent.octets

lines_sent : (line number ip : ℕ) (ds : List Departure) → map (line_of line number) (map (sent_from ip) ds) ≡ map (sent_line line number) ds
lines_sent line number ip [] = refl
lines_sent line number ip (d ∷ ds) = ap (λ l. sent_line line number d ∷ l) (lines_sent line number ip ds)

-- the same grandmaster, alone in a world
module _ (r : Request) where
  abbrev alone : World
  alone = record { nodes = (r.handed.node, IsGrandmaster r.gm) ∷ []; sent = []; stock = record { flags = 0; gaps = 0 }; has_begun = true }

  abbrev handing : Command
  handing = script.Event r.handed.at r.handed.node (acts.Receive r.handed.from r.handed.octets)

  there : worlds.node_at alone.nodes r.handed.node ≡ Some (IsGrandmaster r.gm)
  there = ap (λ b. cond b (Some (IsGrandmaster r.gm)) None) (eq-eqb r.handed.node r.handed.node refl)

  abbrev was_handed : Type 0
  was_handed = world.IsHanded alone handing r

  -- what it sends is the one reply in which the decision stands
  record Replies : Type 0 where
    before : List Tlv
    behind : List Tlv
    sends : (line number : ℕ) → map (sent_line line number) (gm.datagram_deed r.gm r.handed.at r.handed.from r.handed.octets).sends
        ≡ sent_line line number (reply_to (r.gm).config r.handed.from r.header (before ++ answer_by r.ask (decision r) ∷ behind)) ∷ []
    place : length before ≡ length r.before
    all : length (before ++ answer_by r.ask (decision r) ∷ behind) ≡ length (r.before ++ items.Request r.ask ∷ r.behind)

  replies : was_handed → Replies
  replies is =
      let answered = is_answered alone handing r is in
      let deed = gm.datagram_deed r.gm r.handed.at r.handed.from r.handed.octets in
      let done : Done = done_by alone r.handed.node deed in
      let taken : ◌≡◌ {A = Result Done Cause} (Ok done) (Ok answered.done) = sym (taken_by alone handing r.handed (IsGrandmaster r.gm) is.handed is.node) ∙ answered.step in
      let same : done ≡ answered.done = cc in
      record {
        before = answered.answers_before;
        behind = answered.answers_behind;
        sends = λ line number. sym (lines_sent line number r.handed.node deed.sends)
            ∙ ap (map (line_of line number)) (ap (λ (d : Done). d.world.sent) same ∙ answered.sent);
        place = answered.answer_place;
        all = answered.answers;
      }

-- ---- the line

module _ (script : List ℕ) (p : Sold script) (apart : AreApart (p.told).pools) (r : Request) (is : IsHandedToPool p r) where
  abbrev before : List PoolEvent
  before = pool_events (p.told).events

  abbrev its_gm : Grandmaster
  its_gm = grandmaster_of p.setup (p.told).pools before p.place

  own_capacity : capacity_at (p.told).pools p.place ≡ (p.pool).capacity
  own_capacity = ap (λ o. option_map_or (λ (pool : Pool). pool.capacity) o 0) p.is_sold

  gm_is : r.gm ≡ its_gm
  gm_is = is.gm ∙ sym (ap (λ n. record (its_gm) { capacity = n }) own_capacity)

  inside : is_in_at (p.told).pools p.place r.handed.from ≡ true
  inside = ap (λ o. option_map_or (is_in r.handed.from) o false) p.is_sold ∙ is.from

  handed : was_handed r
  handed = record { handed = refl; node = there r; heard = is.heard }

  written : (line : ℕ) (reply : Departure) → map (sent_line line (p.place + 1)) (gm.datagram_deed r.gm r.handed.at r.handed.from r.handed.octets).sends ≡ sent_line line (p.place + 1) reply ∷ [] →
      lines_of_event p.setup (p.told).pools before line (Came r.handed.at r.handed.from r.handed.octets) ≡ sent_line line (p.place + 1) reply ∷ []
  written line reply sends =
      ap (pool_lines_by p.setup (p.told).pools before line (Came r.handed.at r.handed.from r.handed.octets))
      (here (p.told).pools r.handed.from p.place (position (is_in r.handed.from) (p.told).pools) apart inside refl)
      ∙ ap (λ (g : Grandmaster). map (sent_line line (p.place + 1)) (gm.datagram_deed g r.handed.at r.handed.from r.handed.octets).sends) (sym gm_is)
      ∙ sends

  answered : (line : ℕ) → IsAnsweredByPool p line r
  answered line =
      let one = replies r handed in
      let event = Came r.handed.at r.handed.from r.handed.octets in
      let reply : GmConfig → Departure = λ config. reply_to config r.handed.from r.header (one.before ++ answer_by r.ask (decision r) ∷ one.behind) in
      record {
        after = record (p.told) { events = (p.told).events ++ (line, event) ∷ [] };
        before = one.before;
        behind = one.behind;
        step = at_pools (p.told).setup (p.told).pools (happened p.told line event) p.setup p.place p.pool p.is_set_up p.is_sold
            ∙ ap (λ ls. Goes (record (p.told) { events = (p.told).events ++ (line, event) ∷ [] }) (map pool_line_text ls)) (written line (reply (r.gm).config) (one.sends line (p.place + 1)))
            ∙ ap (λ (g : Grandmaster). Goes (record (p.told) { events = (p.told).events ++ (line, event) ∷ [] }) (pool_line_text (sent_line line (p.place + 1) (reply g.config)) ∷ [])) gm_is;
        place = one.place;
        all = one.all;
      }

  -- ---- the decision

  abbrev its_events : List (ℕ × Event)
  its_events = flat_map (driven.events_of (setup_config p.setup)) (map gm_event (own (p.told).pools p.place before))

  is_run : IsWithin p.told → IsRun (p.setup).ip r.gm
  is_run within =
      let limits : IsGrandmasterWithin p.setup = subst (λ o. IfSome o IsGrandmasterWithin) p.is_set_up within.0 in
      let lt : p.place < length (p.told).pools = slice_get_within (p.told).pools p.place p.pool p.is_sold in
      let one : IsCapacity (p.pool).capacity =
      subst (λ (pool : Pool). IsCapacity pool.capacity) (get_or_from_slice_get (p.told).pools p.place p.pool p.pool p.is_sold) (within.1 p.place p.pool lt) in
      subst (IsRun (p.setup).ip) (sym gm_is) (record {
        address = refl;
        config = record { domain = limits.domain; max_duration = limits.max_duration; epoch = omega arith };
        capacity = subst IsCapacity (sym own_capacity) one;
        events = its_events;
        past = refl;
      })

  decided : IsWithin p.told → IsDecidedByRoom r
  decided within = is_decided (p.setup).ip r (is_run within)

  -- no event changes the capacity of a pool
  unchanged : (g : Grandmaster) → g ≡ its_gm → capacity_in_force g.capacity (history_after (gm.opening g) g.past (events_of_items r.handed.at (client r) r.before)) ≡ g.capacity
  unfolding core_history capacity_in_force
  unchanged g same =
      let opened : Config = opened_with (capacity_at (p.told).pools p.place) (setup_config p.setup) in
      let more = events_of_items r.handed.at (client r) r.before in
      let quiet : Quiet (its_events ++ more) =
      list_any-append resizes its_events more ∙ or_from (list_any resizes its_events) (list_any resizes more)
      (all_quiet (setup_config p.setup) (own (p.told).pools p.place before)) (items_quiet r.handed.at (client r) r.before) in
      subst (λ (g : Grandmaster). capacity_in_force g.capacity (history_after (gm.opening g) g.past more) ≡ g.capacity) (sym same)
      (ap (capacity_in_force opened.capacity) (sym (history_after-append opened [] its_events more))
      ∙ capacity_in_force-quiet opened.capacity [] (core_history opened (its_events ++ more)) (history-unchanged opened (its_events ++ more) quiet))

  its_capacity : capacity_then r ≡ (p.pool).capacity
  its_capacity = unchanged r.gm gm_is ∙ ap (λ (g : Grandmaster). g.capacity) gm_is ∙ own_capacity

pub decides : (script : List ℕ) → ((p : Sold script) → AreApart (p.told).pools) → ((p : Sold script) → IsWithin p.told) → DecidesByOwnRoom script
decides script apart within = record {
  answered = λ p line r is. answered script p (apart p) r is line;
  decided = λ p r is. decided script p (apart p) r is (within p);
  capacity = λ p r is. its_capacity script p (apart p) r is;
}
