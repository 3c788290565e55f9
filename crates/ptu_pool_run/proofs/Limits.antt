-- What the lines of a script say is within their limits.
use Rattle.std.proofs.Common.{ℕ, ◌+◌, ◌-◌, Bool, true, false, cond, eqb, leb, List, [], ◌∷◌, length, All, Option, Some, None, Result, Ok, Err, IfOk, IfSome}
use Rattle.std.proofs.lemmas.List.Elements.{All-append, All-cons, All-nil}
use Rattle.ptu_lines.specs.Script.{ScriptLine, Whole, Refused}
use Rattle.ptu_lines.specs.Words.{ip_of, octets_of, words_of}
use Rattle.ptu_units.specs.Limits.{IsCapacity, greatest_capacity, least_capacity}
use Rattle.ptu_report.specs.Rules.{Goes, Outcome, Refuses}
use Rattle.ptu_lines.specs.declared.cause.{LineCause.{LineCause}, LineCause.TheVariants.{Count}}
use Rattle.ptu_script.specs.declared.command.GrandmasterSetup.{GrandmasterSetup}
use Rattle.ptu_script.specs.Command.{grandmaster_in, is_comment, moment_of}
use Rattle.ptu_script.specs.{Fields.{◌>>=◌, capacity_of, field, from_to}, Limits.{IsGrandmasterWithin}}
use Rattle.ptu_world.proofs.Limits.{grandmaster_within, number_is, ok_bound, ok_either}
use Rattle.ptu_pool_run.specs.{declared.pool.Pool.{Pool}, Events.{Turned}}
use Rattle.ptu_pool_run.specs.declared.cause.{PoolCause.{PoolCause}, PoolCause.TheVariants.{Number}}
use Rattle.ptu_pool_run.specs.declared.{command.PoolCommand.{PoolCommand}, verb.PoolVerb.{PoolVerb}}
use Rattle.ptu_pool_run.specs.declared.command.PoolCommand.TheVariants as commands
use Rattle.ptu_pool_run.specs.declared.verb.PoolVerb.TheVariants as verbs
use Rattle.ptu_pool_run.specs.{Command.{pool_command_in, pool_command_of, pool_fields_in}, Verb.{is_pool_counted, pool_verb_name, pool_verbs}}
use Rattle.ptu_script.specs.Verb.{verb_in}
use Rattle.ptu_pool_run.specs.{Poured.{told_at, told_until}, Selling.{selling_refusal}}
use Rattle.ptu_pool_run.specs.Reading.{At, Told, happened, told_outcome, pool_rules, sold_by, told_after, turned}

-- ---- a line

-- the numbers of a grandmaster are within their limits, and so is the capacity of a pool
abbrev IsLawful : PoolCommand → Type 0
IsLawful (commands.Grandmaster setup) = IsGrandmasterWithin setup
IsLawful (commands.Sell pool) = IsCapacity pool.capacity
IsLawful (commands.Receive t from octets) = Unit {0}
IsLawful (commands.Turn t number table) = Unit {0}

fields_lawful : (verb : PoolVerb) (line : List ℕ) → IfOk (pool_fields_in verb line) IsLawful
unfolding pool_fields_in
fields_lawful verbs.Gm line = by (grandmaster_in line) (grandmaster_within line)
  where
    by : (r : Result GrandmasterSetup LineCause) → IfOk r IsGrandmasterWithin → IfOk (r >>= λ setup. Ok (commands.Grandmaster setup)) IsLawful
    by (Ok setup) h = h
    by (Err cause) h = tt
fields_lawful verbs.Pool line = ok_bound IsLawful (field 2 ip_of line) _ (λ net _. ok_bound IsLawful (field 3 (from_to 0 32) line) _ (λ bits _. ok_bound IsLawful (field 4 capacity_of line) _
    (λ capacity e. number_is least_capacity greatest_capacity 4 capacity line e)))
fields_lawful verbs.Rx line = ok_bound IsLawful (field 2 moment_of line) _ (λ t _. ok_bound IsLawful (field 3 ip_of line) _ (λ from _. ok_bound IsLawful (field 4 octets_of line) _ (λ octets _. tt)))
fields_lawful verbs.Turn line = ok_bound IsLawful (field 2 moment_of line) _ (λ t _. ok_bound IsLawful (field 3 (from_to 1 16) line) _ (λ number _. ok_bound IsLawful (field 4 (from_to 0 3) line) _ (λ table _. tt)))

in_lawful : (line : List ℕ) → IfOk (pool_command_in line) IsLawful
in_lawful line = ok_bound IsLawful (verb_in pool_verbs pool_verb_name is_pool_counted line) _ (λ verb _. fields_lawful verb line)

command_lawful : (line : List ℕ) → IfOk (pool_command_of line) (λ o. IfSome o IsLawful)
unfolding pool_command_of
command_lawful line = ok_either (λ o. IfSome o IsLawful) (is_comment line) (Ok None) _ (λ _. tt) (λ _. by _ (in_lawful line))
  where
    by : (r : Result PoolCommand LineCause) → IfOk r IsLawful → IfOk (r >>= λ command. Ok (Some command)) (λ o. IfSome o IsLawful)
    by (Ok command) h = h
    by (Err cause) h = tt

-- ---- what it says

abbrev AreWithin : Option GrandmasterSetup → List Pool → Type 0
AreWithin setup pools = IfSome setup IsGrandmasterWithin × All (λ pool. IsCapacity pool.capacity) pools

-- the grandmaster and the pools of a script are within their limits
abbrev pub IsWithin : Told → Type 0
IsWithin told = AreWithin told.setup told.pools

abbrev Keeps : Outcome Told PoolCause → Type 0
Keeps (Refuses cause) = Unit {0}
Keeps (Goes after texts) = IsWithin after

module _ (setup : GrandmasterSetup) (pools : List Pool) (events : List At) (within : AreWithin (Some setup) pools) where
  abbrev said : Told
  said = record { setup = Some setup; pools = pools; events = events }

  turned_keeps : (line t number table : ℕ) → Keeps (turned said line t number table setup)
  turned_keeps line t number table = by (leb number (length pools))
    where
      by : (b : Bool) → Keeps (cond b (happened said line (Turned t (number - 1) table) setup) (Refuses Number))
      by true = within
      by false = tt

  sold_keeps : (pool : Pool) (o : Option PoolCause) → IsCapacity pool.capacity → Keeps (sold_by said pool o)
  sold_keeps pool None one =
      (within.0, All-append (λ (pool : Pool). IsCapacity pool.capacity) pools (pool ∷ []) within.1 (All-cons (λ (pool : Pool). IsCapacity pool.capacity) pool [] one (All-nil (λ (pool : Pool). IsCapacity pool.capacity))))
  sold_keeps pool (Some cause) one = tt

step_keeps : (setup : Option GrandmasterSetup) (pools : List Pool) (events : List At) (line : ℕ) (command : PoolCommand) → IsLawful command → AreWithin setup pools →
    (let told : Told = record { setup = setup; pools = pools; events = events } in Keeps (told_after told line command))
step_keeps None pools events line (commands.Grandmaster setup) lawful within = (lawful, within.1)
step_keeps (Some before) pools events line (commands.Grandmaster setup) lawful within = tt
step_keeps None pools events line (commands.Sell pool) lawful within = tt
step_keeps (Some setup) pools [] line (commands.Sell pool) lawful within = sold_keeps setup pools [] within pool (selling_refusal setup.capacity pools pool) lawful
step_keeps (Some setup) pools (event ∷ events) line (commands.Sell pool) lawful within = tt
step_keeps None pools events line (commands.Receive t from octets) lawful within = tt
step_keeps (Some setup) [] events line (commands.Receive t from octets) lawful within = tt
step_keeps (Some setup) (pool ∷ pools) events line (commands.Receive t from octets) lawful within = within
step_keeps None pools events line (commands.Turn t number table) lawful within = tt
step_keeps (Some setup) [] events line (commands.Turn t number table) lawful within = tt
step_keeps (Some setup) (pool ∷ pools) events line (commands.Turn t number table) lawful within = turned_keeps setup (pool ∷ pools) events within line t number table

line_keeps : (told : Told) (line : ℕ) (r : Result (Option PoolCommand) LineCause) → IfOk r (λ o. IfSome o IsLawful) → IsWithin told → Keeps (told_outcome told line r)
line_keeps told line (Ok None) lawful within = within
line_keeps told line (Ok (Some command)) lawful within = step_keeps told.setup told.pools told.events line command lawful within
line_keeps told line (Err cause) lawful within = tt

pub within_until : (told : Told) (before : ℕ) (lines : List ScriptLine) → IsWithin told → IsWithin (told_until told before lines)
unfolding pool_rules
within_until told before [] within = within
within_until told before (Refused cause ∷ rest) within = within
within_until told before (Whole text ∷ rest) within =
    by (told_outcome told (before + 1) (pool_command_of text)) (line_keeps told (before + 1) (pool_command_of text) (command_lawful text) within) (λ after w. within_until after (before + 1) rest w)
  where
    by : (o : Outcome Told PoolCause) → Keeps o → ((after : Told) → IsWithin after → IsWithin (told_until after (before + 1) rest)) →
        IsWithin (told_at told o (λ after. told_until after (before + 1) rest))
    by (Refuses cause) keeps later = within
    by (Goes after texts) keeps later = later after keeps
