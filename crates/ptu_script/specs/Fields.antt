-- A word of a line, in the form that its place asks for.
use Rattle.std.specs.Prelude.{ℕ, ℤ, pos, Bool, ◌==◌, if◌then◌else◌, List, Option, Some, None, option_map, option_and_then, Result, Ok, Err, codes}
use Rattle.std.specs.Str.{bytes_eq}
use Rattle.ptu_units.specs.declared.kind.Kind.{Kind}
use Rattle.ptu_units.specs.declared.kind.Kind.TheVariants as kinds
use Rattle.ptu_units.specs.Log.{least_log}
use Rattle.ptu_units.specs.Limits.{least_capacity, greatest_capacity, least_domain, greatest_domain, least_duration, greatest_duration}
use Rattle.ptu_units.specs.Limits.{least_port, greatest_port, least_timeout, greatest_timeout, greatest_wait}
use Rattle.ptu_lines.specs.Words.{word_of, number_within, log_within, is_dash}
use Rattle.ptu_record.specs.declared.rule.Rule.{Rule}
use Rattle.ptu_record.specs.declared.rule.Rule.TheVariants as rules
use Rattle.ptu_lines.specs.declared.cause.LineCause.{LineCause}
use Rattle.ptu_lines.specs.declared.cause.LineCause.TheVariants.{Field}

infixl 10 ◌>>=◌
abbrev pub ◌>>=◌ : {A B E : Type 0} → Result A E → (A → Result B E) → Result B E
(Ok x) >>= f = f x
(Err cause) >>= f = Err cause

-- the value that there is, or that the word with this number is outside its form
abbrev pub or_field : {A : Type 0} → ℕ → Option A → Result A LineCause
or_field k None = Err (Field k)
or_field k (Some x) = Ok x

-- what the word with this number is in the form
abbrev pub field : {A : Type 0} → ℕ → (List ℕ → Option A) → List ℕ → Result A LineCause
field k form line = or_field k (option_and_then form (word_of line k))

-- NUM in a range
abbrev pub from_to : ℕ → ℕ → List ℕ → Option ℕ
from_to least greatest word = number_within word least greatest

-- NUM within the limits of a setting
abbrev pub port_number_of : List ℕ → Option ℕ
port_number_of = from_to least_port greatest_port

abbrev pub domain_of : List ℕ → Option ℕ
domain_of = from_to least_domain greatest_domain

abbrev pub capacity_of : List ℕ → Option ℕ
capacity_of = from_to least_capacity greatest_capacity

abbrev pub duration_of : List ℕ → Option ℕ
duration_of = from_to least_duration greatest_duration

abbrev pub timeout_of : List ℕ → Option ℕ
timeout_of = from_to least_timeout greatest_timeout

abbrev pub wait_of : List ℕ → Option ℕ
wait_of = from_to 0 greatest_wait

-- LOG in the range of a kind
abbrev pub log_of_kind : Kind → List ℕ → Option ℤ
log_of_kind kind word = log_within word (least_log kind) (pos 4)

-- the logarithm of the Delay_Req interval, or the word `-` for none
abbrev pub delay_log : List ℕ → Option (Option ℤ)
delay_log word = if is_dash word then Some None else option_map (λ log. Some log) (log_of_kind kinds.DelayResp word)

-- RULE: the word `flag`, or `gap` where four gaps make a master unusable
abbrev pub rule_named : List ℕ → Option Rule
rule_named word =
    if bytes_eq word (codes "flag") then Some rules.Flag
    else if bytes_eq word (codes "gap") then Some (rules.Gap 4)
    else None

-- 0 or 1
abbrev pub truth_of : List ℕ → Option Bool
truth_of word = option_map (λ n. n == 1) (from_to 0 1 word)
