use Rattle.std.proofs.Common.{rules, ◌≡◌, ◌∙◌, ap, pos, option_and_then}
use Rattle.ptu_units.specs.Log.{least_log}
use Rattle.ptu_lines.specs.Words.{int_within}
use Rattle.ptu_lines.proofs.Logs.{log_of_kind_wide}
use Rattle.ptu_script.proofs.fields.log_of.Goals as goal

pub returns-clause-value : goal.returns-clause-value
returns-clause-value c =
    let kind = c.args.kind in
    let value : c.of_kind.result ≡ int_within (least_log kind) (pos 4) c.in_ok-value.value = search rules in
    value
    ∙ (ap (option_and_then (int_within (least_log kind) (pos 4))) c.in_ok-value.ensures
    ∙ log_of_kind_wide kind c.args.word.now)
