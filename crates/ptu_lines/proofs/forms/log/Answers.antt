use Rattle.std.proofs.Common.{rules, ◌≡◌, sym, ◌∙◌, ap, pos, negsuc}
use Rattle.std.specs.{Int.Signed.{◌≤ℤ◌}, Option.{option_and_then}}
use Rattle.ptu_lines.specs.Words.{int_within, log_of}
use Rattle.ptu_lines.proofs.Logs.{narrower}
use Rattle.ptu_lines.proofs.forms.log.Goals as goal

pub returns : goal.returns
returns c =
    let inside : c.in_range.result ≡ int_within c.args.least c.args.greatest c.in_ok-plain_log.field-0 = search rules in
    let low : negsuc 127 ≤ℤ c.args.least = search rules in
    let high : c.args.greatest ≤ℤ pos 127 = search rules in
    inside
    ∙ (ap (option_and_then (int_within c.args.least c.args.greatest)) c.in_ok-plain_log.ensures
    ∙ sym (narrower (log_of c.args.word.now) c.args.least c.args.greatest (negsuc 127) (pos 127) low high))
