-- What a judge finds, with one entry more.
use Rattle.std.proofs.Common.{◌≡◌, Bool, true, false, cond, [], ◌∷◌, ◌++◌, Option, Some, None, refl, ap, ◌∙◌}
use Rattle.std.specs.{List.{filter_map}, Option.{option_to_list, unwrap_or}}
use Rattle.ptu_record.specs.{declared.rule.Rule.{Rule}, Lists.{last, since_last, newest_of}}
use Rattle.ptu_record.specs.Record.{Entry, Record}
use Rattle.ptu_record.specs.Judges.{is_judge, rule_given, told_flag, sync_number, rule_in_force, flag, numbers, assessment, IsAssessment}
use Rattle.ptu_record.proofs.ListLaws.{last-filter_map, filter_map-push, since_last-push}

newest_of-or : {A : Type 0} (new old : Option A) (x : A) → unwrap_or (newest_of new old) x ≡ unwrap_or new (unwrap_or old x)
newest_of-or None old x = refl
newest_of-or (Some y) old x = refl

pub rule_in_force-push : (opening : Option Rule) (L : Record) (e : Entry) → rule_in_force opening (L ++ e ∷ []) ≡ unwrap_or (rule_given e) (rule_in_force opening L)
rule_in_force-push opening L e =
    ap (λ o. unwrap_or o opening) (last-filter_map rule_given L e) ∙ newest_of-or (rule_given e) (last (filter_map rule_given L)) opening

pub numbers-push : (L : Record) (e : Entry) → numbers (L ++ e ∷ []) ≡ cond (is_judge e) [] (numbers L ++ option_to_list (sync_number e))
numbers-push L e = ap (filter_map sync_number) (since_last-push is_judge L e) ∙ pick (is_judge e)
  where
    pick : (b : Bool) → filter_map sync_number (cond b [] (since_last is_judge L ++ e ∷ [])) ≡ cond b [] (numbers L ++ option_to_list (sync_number e))
    pick true = refl
    pick false = filter_map-push sync_number (since_last is_judge L) e

pub flag-push : (L : Record) (e : Entry) → flag (L ++ e ∷ []) ≡ cond (is_judge e) false (unwrap_or (told_flag e) (flag L))
flag-push L e = ap (λ w. unwrap_or (last (filter_map told_flag w)) false) (since_last-push is_judge L e) ∙ pick (is_judge e)
  where
    pick : (b : Bool) → unwrap_or (last (filter_map told_flag (cond b [] (since_last is_judge L ++ e ∷ [])))) false ≡ cond b false (unwrap_or (told_flag e) (flag L))
    pick true = refl
    pick false = ap (λ o. unwrap_or o false) (last-filter_map told_flag (since_last is_judge L) e) ∙ newest_of-or (told_flag e) (last (filter_map told_flag (since_last is_judge L))) false

-- what the rule in force finds may be found, and by a judge of a rule nothing else
pub ruled : (opening : Option Rule) (rule : Rule) (L : Record) → rule_in_force opening L ≡ Some rule → IsAssessment opening L (assessment rule L)
ruled opening rule L is = rw is refl

pub one_assessment : (opening : Option Rule) (rule : Rule) (L : Record) (unusable : Bool) → rule_in_force opening L ≡ Some rule → IsAssessment opening L unusable → unusable ≡ assessment rule L
one_assessment opening rule L unusable is h = rw is at h

pub any_assessment : (opening : Option Rule) (L : Record) (unusable : Bool) → rule_in_force opening L ≡ None → IsAssessment opening L unusable
any_assessment opening L unusable is = rw is tt
