-- What is written of one pool is said by its own events.
use Rattle.std.proofs.Common.{◌≡◌, ◌∙◌, ◌⊎◌, inl, inr, ℕ, ◌+◌, Bool, true, false, cond, eqb, List, [], ◌∷◌, ◌++◌, map, filter, position, Option, Some, None, refl, sym, ap, ap₂, arith}
use Rattle.std.proofs.lemmas.Bool.{cases_Bool, eq-eqb, eqb-true, ne_eqb, both_ways}
use Rattle.std.proofs.lemmas.{List.{append-nil}, List.Elements.{filter-append}}
use Rattle.ptu_outside.specs.Departure.{Departure}
use Rattle.ptu_grandmaster.specs.Driven.{driven_history}
use Rattle.ptu_report.specs.declared.ending.Ending.{Ending}
use Rattle.ptu_report.specs.declared.ending.Ending.TheVariants as endings
use Rattle.ptu_script.specs.declared.command.GrandmasterSetup.{GrandmasterSetup}
use Rattle.ptu_pool_run.specs.declared.pool.Pool.{Pool}
use Rattle.ptu_pool_run.specs.Events.{PoolEvent, Came, Turned, gm_event, is_own, own}
use Rattle.ptu_pool_run.specs.Pool.{AreApart, capacity_at, is_in, is_in_at}
use Rattle.ptu_pool_run.proofs.Places.{found_mine, none_in}
use Rattle.ptu_nodes.specs.Standing.{setup_config}
use Rattle.ptu_pool_run.specs.declared.{cause.PoolCause.{PoolCause}, output.PoolLine.{PoolLine}}
use Rattle.ptu_pool_run.specs.Reading.{At}
use Rattle.ptu_pool_run.specs.Poured.{is_line_of, last_line, lines_after, lines_by_setup, own_at, own_lines, own_lines_by}
use Rattle.ptu_pool_run.specs.Sending.{grandmaster_of, pool_lines_by, lines_of_event, sends_at, sent_line}

-- ---- the lines of one event

all_mine : (i line : ℕ) (ds : List Departure) → filter (is_line_of i) (map (sent_line line (i + 1)) ds) ≡ map (sent_line line (i + 1)) ds
all_mine i line [] = refl
all_mine i line (d ∷ ds) =
    ap (λ b. cond b (sent_line line (i + 1) d ∷ filter (is_line_of i) (map (sent_line line (i + 1)) ds)) (filter (is_line_of i) (map (sent_line line (i + 1)) ds))) (eq-eqb (i + 1) (i + 1) refl)
    ∙ ap (λ l. sent_line line (i + 1) d ∷ l) (all_mine i line ds)

none_mine : (i place line : ℕ) (ds : List Departure) → eqb (i + 1) (place + 1) ≡ false → filter (is_line_of i) (map (sent_line line (place + 1)) ds) ≡ []
none_mine i place line [] other = refl
none_mine i place line (d ∷ ds) other =
    ap (λ b. cond b (sent_line line (place + 1) d ∷ filter (is_line_of i) (map (sent_line line (place + 1)) ds)) (filter (is_line_of i) (map (sent_line line (place + 1)) ds))) other
    ∙ none_mine i place line ds other

numbered_other : (i place : ℕ) → eqb i place ≡ false → eqb (i + 1) (place + 1) ≡ false
numbered_other i place other = ne_eqb (i + 1) (place + 1) (λ e. let same : i ≡ place = omega arith in both_ways (eqb i place) other (eq-eqb i place same))

module _ (setup : GrandmasterSetup) (pools : List Pool) (i : ℕ) where
  -- what the pool at this place sends at its own event
  abbrev sent : List PoolEvent → ℕ → PoolEvent → List PoolLine
  sent before line event = map (sent_line line (i + 1)) (sends_at (grandmaster_of setup pools before i) event)

  -- the same where the event is its own
  abbrev pub sent_if : Bool → List PoolEvent → ℕ → PoolEvent → List PoolLine
  sent_if b before line event = cond b (sent before line event) []

  at_place : (before : List PoolEvent) (line : ℕ) (event : PoolEvent) (place : ℕ) →
      filter (is_line_of i) (map (sent_line line (place + 1)) (sends_at (grandmaster_of setup pools before place) event)) ≡ sent_if (eqb i place) before line event
  at_place before line event place = by (cases_Bool (eqb i place))
    where
      by : (eqb i place ≡ true) ⊎ (eqb i place ≡ false) →
          filter (is_line_of i) (map (sent_line line (place + 1)) (sends_at (grandmaster_of setup pools before place) event)) ≡ sent_if (eqb i place) before line event
      by (inl mine) =
          ap (λ j. filter (is_line_of i) (map (sent_line line (j + 1)) (sends_at (grandmaster_of setup pools before j) event))) (sym (eqb-true i place mine))
          ∙ all_mine i line (sends_at (grandmaster_of setup pools before i) event) ∙ ap (λ b. sent_if b before line event) (sym mine)
      by (inr other) =
          none_mine i place line (sends_at (grandmaster_of setup pools before place) event) (numbered_other i place other) ∙ ap (λ b. sent_if b before line event) (sym other)

  came_by : (before : List PoolEvent) (line t from : ℕ) (octets : List ℕ) (o : Option ℕ) → AreApart pools → position (is_in from) pools ≡ o →
      filter (is_line_of i) (pool_lines_by setup pools before line (Came t from octets) o) ≡ sent_if (is_in_at pools i from) before line (Came t from octets)
  came_by before line t from octets None apart e = ap (λ b. sent_if b before line (Came t from octets)) (sym (none_in pools from e i))
  came_by before line t from octets (Some place) apart e =
      at_place before line (Came t from octets) place ∙ ap (λ b. sent_if b before line (Came t from octets)) (sym (found_mine pools from place apart e i))

  pub one_event : (before : List PoolEvent) (line : ℕ) (event : PoolEvent) → AreApart pools →
      filter (is_line_of i) (lines_of_event setup pools before line event) ≡ sent_if (is_own pools i event) before line event
  one_event before line (Came t from octets) apart = came_by before line t from octets (position (is_in from) pools) apart refl
  one_event before line (Turned t pool table) apart = at_place before line (Turned t pool table) pool

  -- ---- the lines of all events

  -- a pool sends the same after events of which its own are the same
  same_sent : (before mine : List PoolEvent) (line : ℕ) (event : PoolEvent) → own pools i before ≡ own pools i mine → sent before line event ≡ sent mine line event
  same_sent before mine line event same =
      ap (λ (past : List PoolEvent). map (sent_line line (i + 1)) (sends_at (record {
        ip = setup.ip;
        config = setup_config setup;
        capacity = capacity_at pools i;
        past = driven_history (setup_config setup) (capacity_at pools i) (map gm_event past);
      }) event)) same

  one_more : (before mine : List PoolEvent) (event : PoolEvent) → own pools i before ≡ own pools i mine → own pools i (before ++ event ∷ []) ≡ own pools i (mine ++ event ∷ [])
  one_more before mine event same =
      filter-append (is_own pools i) before (event ∷ []) ∙ ap (λ l. l ++ own pools i (event ∷ [])) same ∙ sym (filter-append (is_own pools i) mine (event ∷ []))

  left_out : (before mine : List PoolEvent) (event : PoolEvent) → is_own pools i event ≡ false → own pools i before ≡ own pools i mine → own pools i (before ++ event ∷ []) ≡ own pools i mine
  left_out before mine event other same =
      filter-append (is_own pools i) before (event ∷ []) ∙ ap (λ b. own pools i before ++ cond b (event ∷ []) []) other ∙ append-nil (own pools i before) ∙ same

  lines_are : (before mine : List PoolEvent) (events : List At) → AreApart pools → own pools i before ≡ own pools i mine →
      filter (is_line_of i) (lines_after setup pools before events) ≡ own_lines setup pools i mine (own_at pools i events)
  lines_are before mine [] apart same = refl
  lines_are before mine ((line, event) ∷ rest) apart same =
      filter-append (is_line_of i) (lines_of_event setup pools before line event) (lines_after setup pools (before ++ event ∷ []) rest)
      ∙ ap (λ l. l ++ filter (is_line_of i) (lines_after setup pools (before ++ event ∷ []) rest)) (one_event before line event apart)
      ∙ by (cases_Bool (is_own pools i event))
      (lines_are (before ++ event ∷ []) (mine ++ event ∷ []) rest apart)
      (lines_are (before ++ event ∷ []) mine rest apart)
    where
      after : List PoolLine
      after = filter (is_line_of i) (lines_after setup pools (before ++ event ∷ []) rest)

      chosen : (b : Bool) → is_own pools i event ≡ b →
          own_lines setup pools i mine (cond b ((line, event) ∷ own_at pools i rest) (own_at pools i rest)) ≡ own_lines setup pools i mine (own_at pools i ((line, event) ∷ rest))
      chosen b e = ap (λ b. own_lines setup pools i mine (cond b ((line, event) ∷ own_at pools i rest) (own_at pools i rest))) (sym e)

      by : (is_own pools i event ≡ true) ⊎ (is_own pools i event ≡ false) →
          (own pools i (before ++ event ∷ []) ≡ own pools i (mine ++ event ∷ []) → after ≡ own_lines setup pools i (mine ++ event ∷ []) (own_at pools i rest)) →
          (own pools i (before ++ event ∷ []) ≡ own pools i mine → after ≡ own_lines setup pools i mine (own_at pools i rest)) →
          sent_if (is_own pools i event) before line event ++ after ≡ own_lines setup pools i mine (own_at pools i ((line, event) ∷ rest))
      by (inl is) more others =
          ap (λ b. sent_if b before line event ++ after) is
          ∙ ap₂ (λ l rest. l ++ rest) (same_sent before mine line event same) (more (one_more before mine event same)) ∙ chosen true is
      by (inr other) more others =
          ap (λ b. sent_if b before line event ++ after) other ∙ others (left_out before mine event other same) ∙ chosen false other

  pub last_not_mine : (ending : Ending PoolCause) → filter (is_line_of i) (last_line ending ∷ []) ≡ []
  last_not_mine (endings.Whole lines) = refl
  last_not_mine (endings.Refused number cause) = refl

pub own_of : (setup : Option GrandmasterSetup) (pools : List Pool) (i : ℕ) (events : List At) (ending : Ending PoolCause) → AreApart pools →
    filter (is_line_of i) (lines_by_setup setup pools events ++ last_line ending ∷ []) ≡ own_lines_by setup pools i (own_at pools i events)
own_of None pools i events ending apart = none ending
  where
    none : (ending : Ending PoolCause) → filter (is_line_of i) (last_line ending ∷ []) ≡ []
    none (endings.Whole lines) = refl
    none (endings.Refused number cause) = refl
own_of (Some setup) pools i events ending apart =
    filter-append (is_line_of i) (lines_after setup pools [] events) (last_line ending ∷ [])
    ∙ ap₂ (λ l m. l ++ m) (lines_are setup pools i [] [] events apart refl) (last_not_mine setup pools i ending)
    ∙ append-nil (own_lines setup pools i [] (own_at pools i events))
