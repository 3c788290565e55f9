-- Every script of pools keeps its promises.
use Rattle.std.proofs.Common.{◌≡◌, ◌∙◌, ℕ, List, [], ◌++◌, ◌∷◌, filter, filter_map, take, Some, refl, sym, ap, ap₂, subst}
use Rattle.std.proofs.lemmas.List.Elements.{All-nil}
use Rattle.ptu_lines.specs.Script.{script_lines}
use Rattle.ptu_units.specs.Limits.{IsCapacity}
use Rattle.ptu_script.specs.declared.command.GrandmasterSetup.{GrandmasterSetup}
use Rattle.ptu_pool_run.specs.{declared.pool.Pool.{Pool}, Pool.{AreApart}, Refusal.{Share}}
use Rattle.ptu_pool_run.proofs.Whole.{count_whole, held_own, held_whole}
use Rattle.ptu_nodes.specs.Standing.{setup_config}
use Rattle.ptu_pool_run.specs.Poured.{pool_ending, is_line_of, last_line, lines_by_setup, lines_of_pool, own_at, own_lines_by, told_in}
use Rattle.ptu_pool_run.specs.Promises.{AreMessagesWritten, KeepsPools, SayAlike, Sold, lines_to_pool, timing_in}
use Rattle.ptu_pool_run.specs.Reading.{Told, pool_events, none_told}
use Rattle.ptu_pool_run.proofs.{Deciding.{decides}, Following.{all_messages, follows}, Limits.{IsWithin, within_until}}
use Rattle.ptu_pool_run.proofs.Keeping.{AreSound, IsSound, apart_of, sound_by, sound_until, texts_of_script}
use Rattle.ptu_pool_run.proofs.{OutputLines.{own_of}, Receivers.{to_pool}, Serving.{sends_in_time, serves_clients}}

-- ---- its pools

apart_by : (script : List ℕ) → AreApart (told_in script).pools
apart_by script = let told = told_in script in apart_of told.setup told.pools told.events (sound_by script)

sold_apart : (script : List ℕ) (p : Sold script) → AreApart (p.told).pools
sold_apart script p =
    apart_of (p.told).setup (p.told).pools (p.told).events (subst IsSound p.says (sound_until none_told 0 (take p.lines (script_lines script)) (refl, refl)))

sold_within : (script : List ℕ) (p : Sold script) → IsWithin p.told
sold_within script p = subst IsWithin p.says (within_until none_told 0 (take p.lines (script_lines script)) (tt, All-nil (λ (pool : Pool). IsCapacity pool.capacity)))

receivers : (script : List ℕ) (i : ℕ) → lines_of_pool i script ≡ lines_to_pool i script
receivers script i = let told = told_in script in to_pool told.setup told.pools i told.events (pool_ending script) (apart_by script)

messages : (script : List ℕ) (setup : GrandmasterSetup) (i : ℕ) → (told_in script).setup ≡ Some setup → AreMessagesWritten script setup i
messages script setup i is =
    let told = told_in script in
    ap (λ o. filter_map timing_in (filter (is_line_of i) (lines_by_setup o told.pools told.events ++ last_line (pool_ending script) ∷ []))) is
    ∙ all_messages setup told.pools i told.events (pool_ending script) (apart_by script)

-- ---- its lines

own_lines_are : (script : List ℕ) (i : ℕ) →
    lines_of_pool i script ≡ own_lines_by (told_in script).setup (told_in script).pools i (own_at (told_in script).pools i (told_in script).events)
own_lines_are script i =
    let told = told_in script in
    own_of told.setup told.pools i told.events (pool_ending script) (apart_by script)

apart : (one other : List ℕ) (i : ℕ) → SayAlike i (told_in one) (told_in other) → lines_of_pool i one ≡ lines_of_pool i other
apart one other i alike =
    own_lines_are one i
    ∙ (ap₂ (λ setup pools. own_lines_by setup pools i (own_at (told_in one).pools i (told_in one).events)) alike.setup alike.pools
    ∙ ap (own_lines_by (told_in other).setup (told_in other).pools i) alike.own)
    ∙ sym (own_lines_are other i)

shared : (told : Told) (setup : GrandmasterSetup) → told.setup ≡ Some setup → IsSound told → Share setup.capacity told.pools
shared told setup is sound = subst (λ o. AreSound o told.pools told.events) is sound

pub keeps_pools : (script : List ℕ) → KeepsPools script
keeps_pools script = record {
  by_rules = texts_of_script script;
  own = λ i. own_lines_are script i;
  apart = λ other i alike. apart script other i alike;
  receivers = λ i. receivers script i;
  messages = λ setup i is. messages script setup i is;
  history = follows script (sold_apart script);
  granted_by_room = decides script (sold_apart script) (sold_within script);
  each_within = λ setup i x is. held_own (setup_config setup) (told_in script).pools (pool_events (told_in script).events) i x;
  all_within = λ setup x is. held_whole (setup_config setup) setup.capacity (told_in script).pools (pool_events (told_in script).events) x (shared (told_in script) setup is (sound_by script));
  messages_within = λ setup x is. count_whole (setup_config setup) setup.capacity (told_in script).pools (pool_events (told_in script).events) x (shared (told_in script) setup is (sound_by script));
  each_client = serves_clients script;
  in_time = sends_in_time script;
}
