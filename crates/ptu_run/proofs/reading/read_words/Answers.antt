use Rattle.std.proofs.Common.{◌≡◌, ◌≢◌, ◌∙◌, List, [], inl, inr, sym, ap, map, subst}
use Rattle.std.proofs.lemmas.Result.{IfOk-weaker}
use Rattle.std.specs.Prelude.{option_and_then}
use Rattle.clap.specs.{Kinds.{HasKind, IsAmong}, declared.error.Error.{Error}}
use Rattle.clap.specs.declared.error.kind.ErrorKind.TheVariants.{OutOfMemory}
use Rattle.clap.specs.Words.{Kinds, Text, app_of, kind_of, fault_of, is_simple, is_simple_and_free, subcommand_of, subcommand_rows_of}
use Rattle.ptu_run.specs.CommandLine.{words_command_by, command_line}
use Rattle.ptu_run.proofs.Matching.{asked, free, simple, unmatched}
use Rattle.ptu_run.proofs.reading.read_words.Goals as goal

pub returns-in-Ok-clause-command : goal.returns-in-Ok-clause-command
returns-in-Ok-clause-command c =
    let words : List Text = map (λ w. w.now) c.args.words.now in
    let m = c.in-Ok.matches in
    let is : app_of c.in_ok-line.line ≡ command_line = c.in_ok-line.ensures in
    let rows : subcommand_rows_of m ≡ subcommand_of command_line words =
    (c.in-Ok.ensures.matches (ap is_simple is ∙ simple)).1 ∙ ap (λ a. subcommand_of a words) is in
    let matched : fault_of command_line words ≡ [] = sym (ap (λ a. fault_of a words) is) ∙ c.in-Ok.ensures.kinds (ap is_simple_and_free is ∙ free) in
    c.command_in.ensures.command ∙ (ap (option_and_then words_command_by) rows ∙ asked words matched)

-- the error has a kind that comes of the words
has_kind : (kinds : Kinds) (error : Error) → HasKind kinds error → kind_of error ≢ OutOfMemory → kinds ≢ []
has_kind kinds error h other none =
    elim h [
      | inl memory ↦ other memory
      | inr among ↦ subst (IsAmong (kind_of error)) none among
    ]

pub returns-in-Err-clause-command : goal.returns-in-Err-clause-command
returns-in-Err-clause-command c =
    let words : List Text = map (λ w. w.now) c.args.words.now in
    let is : app_of c.in_ok-line.line ≡ command_line = c.in_ok-line.ensures in
    let kinds = c.in-Err.ensures.kinds (ap is_simple_and_free is ∙ free) in
    IfOk-weaker c.unmatched.result _ _ (λ found h.
    h.0 ∙ sym (unmatched words (subst (λ a. fault_of a words ≢ []) is (has_kind _ c.in-Err.error kinds (λ memory. h.1 (c.kind.ensures ∙ memory)))))) c.unmatched.ensures
