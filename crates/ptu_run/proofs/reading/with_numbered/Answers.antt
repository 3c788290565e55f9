use Rattle.std.proofs.{Common.{◌≡◌, ◌∙◌, ap, ap₂, codes, true, false}, lemmas.Result.{IfOk-weaker}}
use Rattle.std.specs.Prelude.{◌||◌}
use Rattle.clap.specs.declared.builder.arg.Arg.{Arg}
use Rattle.clap.specs.Words.{App, Rule, app_of, new_rule, rule_of, with_rule, with_subcommand}
use Rattle.ptu_run.specs.CommandLine.{numbered_line}
use Rattle.ptu_run.proofs.reading.with_numbered.Goals as goal

pub returns : goal.returns
returns c =
    let rule : rule_of c.required-number.result ≡ record (new_rule (codes "N")) { required = true } =
    ap rule_of c.required-number.ensures ∙ ap (λ (r : Rule). record r { required = true }) c.new.ensures.rule in
    let local : c.required-number.result.global ≡ false = ap (λ (a : Arg). a.global) c.required-number.ensures ∙ c.new.ensures.optional.1 in
    let numbered : app_of c.in_ok-numbered.numbered ≡ numbered_line c.args.name.now =
    c.in_ok-numbered.ensures.shape local ∙ ap₂ with_rule c.new-2.ensures.app rule in
    IfOk-weaker c.subcommand.result _ _
    (λ line added. added.shape (c.in_ok-numbered.ensures.globals ∙ ap₂ (λ a b. a || b) c.new-2.ensures.local local) ∙ ap (λ s. with_subcommand (app_of c.args.line) s) (ap (λ (a : App). a.top) numbered))
    c.subcommand.ensures
