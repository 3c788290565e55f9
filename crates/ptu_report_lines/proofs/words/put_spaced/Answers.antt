use Rattle.std.proofs.Common.{◌≡◌, ◌<◌, ◌+◌, ◌-◌, length, arith}
use Rattle.ptu_report_lines.proofs.Spaced.{fits, space_fits}
use Rattle.ptu_report_lines.proofs.words.put_spaced.Goals as goal

pub put-requires : goal.put-requires
put-requires c =
    let is : c.words.left ≡ c.words.left - 1 + 1 = omega (arith, c.words-test.true) in
    let lt : c.words.left - 1 < length c.args.words.now = omega (arith, c.words-test.true, c.words.invariant.within) in
    fits c.args.words.now (c.words.left - 1) c.words.left _ c.args.line.now.room _ is lt c.words.invariant.room c.requires

pub put_str-requires : goal.put_str-requires
put_str-requires c =
    let is : c.words.left ≡ c.words.left - 1 + 1 = omega (arith, c.words-test.true) in
    let lt : c.words.left - 1 < length c.args.words.now = omega (arith, c.words-test.true, c.words.invariant.within) in
    space_fits c.args.words.now (c.words.left - 1) c.words.left _ c.args.line.now.room _ _ is lt c.words.invariant.room c.requires c.put.ensures.room
