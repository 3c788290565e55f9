use Rattle.std.proofs.Common.{◌≡◌, ◌∙◌, sym, ap, Some}
use Rattle.std.specs.Prelude.{codes, option_and_then, option_map}
use Rattle.clap.specs.Words.{found_of, rows_of, subcommand_rows_of}
use Rattle.clap.proofs.WalkLemmas.{first_value-rows}
use Rattle.ptu_run.specs.CommandLine.{words_command_by, command_named}
use Rattle.ptu_run.proofs.Matching.{first_parts, pair_is}
use Rattle.ptu_run.proofs.reading.command_in.Goals as goal

pub returns-clause-command : goal.returns-clause-command
returns-clause-command c =
    let m = c.args.matches.now in
    let rows = rows_of (found_of c.in_ok-name.found.now) in
    let name : option_map (λ p. p.0) (subcommand_rows_of m) ≡ Some c.in_ok-name.name.now =
    first_parts _ _ _ ∙ sym c.in_ok-name.ensures.name in
    let kept : option_map (λ p. p.1) (subcommand_rows_of m) ≡ Some rows = sym c.in_ok-name.ensures.rows in
    let is : subcommand_rows_of m ≡ Some (c.in_ok-name.name.now, rows) = pair_is c.in_ok-name.name.now rows (subcommand_rows_of m) name kept in
    c.named.ensures.command ∙ ap (command_named c.in_ok-name.name.now) (c.get_str.ensures ∙ first_value-rows (found_of c.in_ok-name.found.now) (codes "N"))
    ∙ sym (ap (option_and_then words_command_by) is)
