-- The counts of an answer are exact, since no more is counted than there are lines.
use Rattle.std.proofs.Common.{◌≡◌, ◌∙◌, ℕ, ◌+◌, ◌-◌, ◌^◌, ◌≤◌, ◌++◌, Bool, true, false, cond, List, [], ◌∷◌, length, take, Option, Some, None, refl, ap₂, arith, length-append}
use Rattle.std.specs.{Prelude.{IfSome, filter_map}, List.{cons_option, fold, list_any}}
use Rattle.std.specs.Option.{unwrap_or}
use Rattle.std.proofs.lemmas.List.Sums.{count_by-le-length}
use Rattle.ptu_audit.specs.declared.answer.Answer.TheVariants as answers
use Rattle.ptu_audit.specs.declared.deed.Act.{Act}
use Rattle.ptu_audit.specs.declared.deed.Deed.TheVariants as deeds
use Rattle.ptu_audit.specs.declared.{deed.Finding.{Finding}, line.Line.{Line}, line.Said.{Said}}
use Rattle.ptu_audit.specs.declared.line.Said.TheVariants as said
use Rattle.ptu_audit.specs.Groups.{act_at, acts_by, acts_of, answered_acts, answered_client, are_few_and_answered, are_told, changed, decided_acts, decides, groups_of, in_front, is_of_script, last_apart, message_at, messages_in as messages_told, said_deed, shedding_of, sheddings, with_line}
use Rattle.ptu_units.specs.Counts.{counted}
use Rattle.ptu_units.proofs.Counts.{counted-whole}
use Rattle.ptu_audit.specs.Trails.{acts_in, audit_answer_by, audit_answer_of, as_counted, grant_acts_in, groups_finding, is_grant_deed, is_message, message_acts_in}

-- ---- a group tells of no more acts than it has lines

abbrev HasFew : ℕ → Option (List Act) → Type 0
HasFew n told = IfSome told (λ acts. length acts ≤ n)

-- what some of a list give is no longer
no_longer : {X Y : Type 0} (f : X → Option Y) (xs : List X) → length (filter_map f xs) ≤ length xs
no_longer f [] = omega arith
no_longer f (x ∷ xs) = at (f x) (no_longer f xs)
  where
    at : (o : Option _) → length (filter_map f xs) ≤ length xs → length (cons_option o (filter_map f xs)) ≤ length (x ∷ xs)
    at None rest = omega (arith, rest)
    at (Some y) rest = omega (arith, rest)

apart_few : (lines : List Line) → IfSome (last_apart lines) (λ parts. length parts.0 ≤ length lines)
apart_few [] = tt
apart_few (line ∷ rest) = at (last_apart rest) (apart_few rest)
  where
    at : (o : Option (List Line × Line)) → IfSome o (λ parts. length parts.0 ≤ length rest) → IfSome (in_front line o) (λ parts. length parts.0 ≤ length (line ∷ rest))
    at None few = omega arith
    at (Some parts) few = omega (arith, few)

answered_acts_few : (asked : List Line) (s : Said) → HasFew (length asked) (answered_acts asked s)
answered_acts_few asked (said.Signaled from to target list) = at (are_few_and_answered asked list)
  where
    at : (b : Bool) → HasFew (length asked) (cond b (Some (filter_map (λ line. act_at line from (said_deed (answered_client to target) line.said)) asked)) None)
    at true = no_longer (λ (line : Line). act_at line from (said_deed (answered_client to target) line.said)) asked
    at false = tt
answered_acts_few asked (said.Decided d) = tt
answered_acts_few asked (said.Change grandmaster capacity at) = tt
answered_acts_few asked (said.Shed kind c) = tt
answered_acts_few asked (said.Timed from to kind stamp) = tt
answered_acts_few asked said.Other = tt

more_few : (m n : ℕ) (told : Option (List Act)) → m ≤ n → HasFew m told → HasFew n told
more_few m n None le few = tt
more_few m n (Some acts) le few = omega (arith, le, few)

decided_acts_few : (n : ℕ) (parts : Option (List Line × Line)) → IfSome parts (λ p. length p.0 ≤ n) → HasFew n (decided_acts parts)
decided_acts_few n None few = tt
decided_acts_few n (Some parts) few = more_few (length parts.0) n (answered_acts parts.0 parts.1.said) few (answered_acts_few parts.0 parts.1.said)

changed_few : (number g capacity at n : ℕ) (rest : List Line) → HasFew (n + 1) (changed number g capacity at rest)
changed_few number g capacity at n rest = by (are_told g rest)
  where
    by : (b : Bool) → HasFew (n + 1) (cond b (Some (record { line = number; grandmaster = g; deed = deeds.Changed at capacity (filter_map (λ line. shedding_of line.said) (take (sheddings rest) rest)) } ∷ [])) None)
    by true = omega arith
    by false = tt

messages_few : (group : List Line) → HasFew (length group) (messages_told group)
messages_few group = at (list_any (λ line. decides line.said) group)
  where
    at : (b : Bool) → HasFew (length group) (cond b None (Some (filter_map (λ line. message_at line.number line.said) group)))
    at true = tt
    at false = no_longer (λ (line : Line). message_at line.number line.said) group

acts_by_few : (line : Line) (rest : List Line) (s : Said) → HasFew (length (line ∷ rest)) (acts_by line rest s)
acts_by_few line rest (said.Decided d) = decided_acts_few (length (line ∷ rest)) (last_apart (line ∷ rest)) (apart_few (line ∷ rest))
acts_by_few line rest (said.Change grandmaster capacity at) = more_few (length rest + 1) (length (line ∷ rest)) (changed line.number grandmaster capacity at rest) (omega arith) (changed_few line.number grandmaster capacity at (length rest) rest)
acts_by_few line rest (said.Shed kind c) = messages_few (line ∷ rest)
acts_by_few line rest (said.Signaled from to target list) = messages_few (line ∷ rest)
acts_by_few line rest (said.Timed from to kind stamp) = messages_few (line ∷ rest)
acts_by_few line rest said.Other = messages_few (line ∷ rest)

acts_of_few : (group : List Line) → HasFew (length group) (acts_of group)
unfolding acts_of
acts_of_few [] = omega arith
acts_of_few (line ∷ rest) = acts_by_few line rest line.said

-- ---- nor do all groups

-- how many lines are in the groups
abbrev total : List (List Line) → ℕ
total [] = 0
total (group ∷ groups) = length group + total groups

acts_few : (groups : List (List Line)) → length (acts_in groups) ≤ total groups
acts_few [] = omega arith
acts_few (group ∷ groups) =
    omega (arith, length-append (unwrap_or (acts_of group) []) (acts_in groups), at (acts_of group) (acts_of_few group), acts_few groups)
  where
    at : (told : Option (List Act)) → HasFew (length group) told → length (unwrap_or told []) ≤ length group
    at None few = omega arith
    at (Some acts) few = few

one_line : (groups : List (List Line)) (line : Line) → total (with_line groups line) ≡ total groups + 1
one_line [] line = refl
one_line (group ∷ []) line = at (is_of_script group line.script)
  where
    at : (b : Bool) → total (cond b ((group ++ line ∷ []) ∷ []) (group ∷ (line ∷ []) ∷ [])) ≡ total (group ∷ []) + 1
    at true = omega (arith, length-append group (line ∷ []))
    at false = omega arith
one_line (group ∷ next ∷ groups) line = omega (arith, one_line (next ∷ groups) line)

all_lines : (groups : List (List Line)) (lines : List Line) → total (fold with_line groups lines) ≡ total groups + length lines
all_lines groups [] = omega arith
all_lines groups (line ∷ lines) = all_lines (with_line groups line) lines ∙ omega (arith, one_line groups line)

groups_total : (lines : List Line) → total (groups_of lines) ≡ length lines
unfolding groups_of
groups_total lines = all_lines [] lines ∙ omega arith

-- ---- so the counts of an answer do not end

exact_by : (found : Option Finding) (acts : List Act) → length acts ≤ 2 ^ 64 - 1 → as_counted (audit_answer_by found acts) ≡ audit_answer_by found acts
exact_by None acts few =
    ap₂ answers.Yes
    (counted-whole (grant_acts_in acts) (omega (arith, few, count_by-le-length (λ (act : Act). is_grant_deed act.deed) acts)))
    (counted-whole (message_acts_in acts) (omega (arith, few, count_by-le-length (λ (act : Act). is_message act.deed) acts)))
exact_by (Some finding) acts few = refl

pub counts_exact : (capacity : ℕ) (lines : List Line) → length lines ≤ 2 ^ 64 - 1 → as_counted (audit_answer_of capacity lines) ≡ audit_answer_of capacity lines
counts_exact capacity lines few =
    exact_by (groups_finding capacity [] (groups_of lines)) (acts_in (groups_of lines)) (omega (arith, few, acts_few (groups_of lines), groups_total lines))
