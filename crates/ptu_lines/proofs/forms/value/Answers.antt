use Rattle.std.proofs.Common.{rules, ◌≡◌, ◌<◌, length, get_or, ap, ◌∙◌, arith}
use Rattle.std.specs.Char.{digit_value}
use Rattle.ptu_lines.proofs.DecimalDigits.{IsReadTo-start, IsReadTo-more, next_fits, value_of-read}
use Rattle.ptu_lines.proofs.forms.value.Goals as goal

pub loop-octet-init : goal.loop-octet-init
loop-octet-init c = IsReadTo-start c.args.base c.args.word.now

pub overflow_mul-value : goal.overflow_mul-value
overflow_mul-value c =
    let at = c.loop-octet.octet-index in
    let word = c.args.word.now in
    let base = c.args.base in
    let octet : c.from.result ≡ get_or word at 0 = search rules in
    let small : digit_value (get_or word at 0) < base = rw (← octet) c.in_ok-digit.ensures.value.0 in
    let within : at < length word = search rules in
    let fits = next_fits base (digit_value (get_or word at 0)) word at c.loop-octet.value small within c.requires.fits c.loop-octet.invariant in
    rw c.from-in-loop-octet.ensures (omega arith)

pub overflow_add-value : goal.overflow_add-value
overflow_add-value c =
    let at = c.loop-octet.octet-index in
    let word = c.args.word.now in
    let base = c.args.base in
    let octet : c.from.result ≡ get_or word at 0 = search rules in
    let small : digit_value (get_or word at 0) < base = rw (← octet) c.in_ok-digit.ensures.value.0 in
    let within : at < length word = search rules in
    let fits = next_fits base (digit_value (get_or word at 0)) word at c.loop-octet.value small within c.requires.fits c.loop-octet.invariant in
    let digit : c.from-in-loop-octet-2.result ≡ digit_value (get_or word at 0) =
    c.from-in-loop-octet-2.ensures ∙ (c.in_ok-digit.ensures.value.1 ∙ ap digit_value octet) in
    rw (c.from-in-loop-octet.ensures, digit) (omega arith)

pub loop-octet-preserved : goal.loop-octet-preserved
loop-octet-preserved c =
    let at = c.loop-octet.octet-index in
    let word = c.args.word.now in
    let base = c.args.base in
    let octet : c.from.result ≡ get_or word at 0 = search rules in
    let small : digit_value (get_or word at 0) < base = rw (← octet) c.in_ok-digit.ensures.value.0 in
    let within : at < length word = search rules in
    rw (c.from-in-loop-octet.ensures, c.from-in-loop-octet-2.ensures, c.in_ok-digit.ensures.value.1, octet)
    (IsReadTo-more base word at c.loop-octet.value within small c.loop-octet.invariant)

pub returns : goal.returns
returns c = value_of-read c.args.base c.args.word.now c.loop-octet.octet-index c.loop-octet.value (search rules) c.loop-octet.invariant
