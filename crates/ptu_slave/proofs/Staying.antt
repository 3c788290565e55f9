-- Judges that have rules are followed by judges that have rules.
use Rattle.std.proofs.Common.{◌≡◌, ◌≢◌, ℕ, suc, ◌<◌, Bool, true, false, cond, List, [], ◌∷◌, ◌++◌, length, Option, Some, None, refl, ap, sym, subst, ◌∙◌, arith, eqb}
use Rattle.std.specs.{List.{AllByRecursion, slice_get}, Option.{unwrap_or}, Prelude.{IsSome}}
use Rattle.ptu_units.specs.declared.kind.Kind.{Kind}
use Rattle.ptu_record.specs.{declared.rule.Rule.{Rule}, declared.wants.Wants.{Wants}, Lists.{last}}
use Rattle.ptu_record.specs.Record.{Record, Denied, Granted, Judge, event_moment, record_of}
use Rattle.ptu_record.specs.Judges.{opening_of, rule_given, rule_in_force}
use Rattle.ptu_record.specs.Step.{SlaveEvent, TakeAnnounce, TakeSync, TakeFollowUp, TakeDelayResp, TakeSignaling, TellFlag, ReplaceJudge, Tick, Stop, SlaveStep, own_entries}
use Rattle.ptu_record.proofs.{Judgements.{rule_in_force-push}, Others.{record_of-push}}
use Rattle.ptu_record.proofs.StepParts.{signals_all}
use Rattle.ptu_judges.specs.Held.{Held}
use Rattle.ptu_slave.specs.{Kept.{Kept}, Standing.{StandsFor, Steps, setup_of}}
use Rattle.ptu_slave.proofs.Ruled.{in_range, rules, same_rules}

-- entries that give no rule leave the rule in force
no_rule : (opening : Option Rule) (m : ℕ) (L M : Record) → AllByRecursion (λ f. rule_given f ≡ None) M → IsSome (rule_in_force opening (record_of m L)) → IsSome (rule_in_force opening (record_of m (L ++ M)))
no_rule opening m L M none there = subst (λ rs. IsSome (unwrap_or (last rs) opening)) (sym (rules m L M none)) there

-- so does a judge of a rule, or it gives its own
a_rule : (opening : Option Rule) (m n x : ℕ) (rule : Rule) (L : Record) → IsSome (rule_in_force opening (record_of m L)) → IsSome (rule_in_force opening (record_of m (L ++ Judge x n (Some rule) ∷ [])))
a_rule opening m n x rule L there = subst (λ M. IsSome (rule_in_force opening M)) (sym (record_of-push m L (Judge x n (Some rule)))) (pick (eqb n m))
  where
    pick : (b : Bool) → IsSome (rule_in_force opening (cond b (record_of m L ++ Judge x n (Some rule) ∷ []) (record_of m L)))
    pick true = subst (λ o. IsSome o) (sym (rule_in_force-push opening (record_of m L) (Judge x n (Some rule)))) refl
    pick false = there

-- what an event enters of itself leaves a rule in force
own : (wants : Wants) (opening : Option Rule) (m x : ℕ) (e : SlaveEvent) (L : Record) → ((n : ℕ) → e ≢ ReplaceJudge n None)
    → IsSome (rule_in_force opening (record_of m L)) → IsSome (rule_in_force opening (record_of m (L ++ own_entries wants x e)))
own wants opening m x (TakeAnnounce n class) L ruled there = no_rule opening m L _ (refl, tt) there
own wants opening m x (TakeSync n number) L ruled there = no_rule opening m L _ (refl, tt) there
own wants opening m x (TakeFollowUp n) L ruled there = no_rule opening m L [] tt there
own wants opening m x (TakeDelayResp n number) L ruled there = no_rule opening m L _ (refl, tt) there
own wants opening m x (TakeSignaling n number signals) L ruled there =
    no_rule opening m L _ (signals_all (λ f. rule_given f ≡ None) wants x n (λ seconds k. granted (eqb seconds 0) seconds k) (λ k. refl) signals) there
  where
    granted : (b : Bool) (seconds : ℕ) (k : Kind) → rule_given (cond b (Denied x n k) (Granted x n k seconds)) ≡ None
    granted true seconds k = refl
    granted false seconds k = refl
own wants opening m x (TellFlag n unusable) L ruled there = no_rule opening m L _ (refl, tt) there
own wants opening m x (ReplaceJudge n None) L ruled there = absurd (ruled n refl)
own wants opening m x (ReplaceJudge n (Some rule)) L ruled there = a_rule opening m n x rule L there
own wants opening m x Tick L ruled there = no_rule opening m L [] tt there
own wants opening m x Stop L ruled there = no_rule opening m L [] tt there

-- what holds of each member by its place
all_at : (P : Held → Type 0) (xs : List Held) → ((m : ℕ) (x : Held) → m < length xs → slice_get xs m ≡ Some x → P x) → AllByRecursion P xs
all_at P [] each = tt
all_at P (x ∷ xs) each = (each 0 x (omega arith) refl, all_at P xs (λ m y lt is. each (suc m) y (omega arith) is))

pub rules_stay : (openings : List (Option Rule)) (old new : Kept) (judges news : List Held) (L : Record) (t : ℕ) (e : SlaveEvent) → ((m : ℕ) → e ≢ ReplaceJudge m None)
    → AllByRecursion (λ h. IsSome h.rule) judges → StandsFor openings old judges L → Steps openings old new news L t e → AllByRecursion (λ h. IsSome h.rule) news
rules_stay openings old new judges news L t e given ruled stands steps = all_at (λ h. IsSome h.rule) news after
  where
    same_length : length news ≡ length judges
    same_length = steps.stands.each_judged ∙ sym steps.stands.each_opening ∙ stands.each_opening ∙ sym stands.each_judged

    before : (m : ℕ) → m < length judges → IsSome (rule_in_force (opening_of openings m) (record_of m L))
    before m lt =
        let one = in_range judges m lt ruled in
        subst (λ o. IsSome o) (stands.judge.of_master m one.0 one.1).rule one.2

    after : (m : ℕ) (h : Held) → m < length news → slice_get news m ≡ Some h → IsSome h.rule
    after m h lt is =
        subst (λ o. IsSome o)
        (sym ((steps.stands.judge.of_master m h is).rule
        ∙ ap (λ (s : SlaveStep). rule_in_force (opening_of openings m) (record_of m (L ++ s.entries))) steps.is_step.taken
        ∙ ap (λ rs. unwrap_or (last rs) (opening_of openings m)) (same_rules (setup_of old.config openings) steps.is_step.assessments L (event_moment L t) m e)))
        (own old.config.wants (opening_of openings m) m (event_moment L t) e L given (before m (subst (λ n. m < n) same_length lt)))
