use Rattle.std.proofs.Common.{rules, ◌≡◌, ◌∙◌, refl}
use denote.Param.Object.{read_made}
use mathlib.Core.Logic.{inl}
use Rattle.ptu_record.specs.declared.rule.Rule.TheVariants.{Flag}
use Rattle.ptu_judges.specs.Held.{Held, flag_held, fresh}
use Rattle.ptpuni.specs.contracts.add_judges as count
use Rattle.ptpuni.proofs.main.OwnLists as own
use Rattle.ptpuni.proofs.main.Goals as goal

-- what a new judge of flags holds, in its box as before
pub add_judges-requires-clause-flag : goal.add_judges-requires-clause-flag
add_judges-requires-clause-flag g c =
    let kept : flag_held c.in-Ok-Ok.flag.value ≡ fresh Flag = search rules in
    let table = (count.dyn-1-ghosts (own.own-1, own.lawful-own-1)).0 in
    read_made table _ (inl (tt {0})) refl Held (λ j. j.1.Judge.held) _ _ c.in-Ok-Ok.flag.value c.into_dyn_box.ensures.1 ∙ kept
