use Rattle.std.proofs.Common.{rules, ◌≡◌, ◌-◌, ◌*◌, ℕ, List, length, take, drop, sym, ap, arith}
use Rattle.hex.specs.Hex.{encode_lower, lower_digits}
use Rattle.hex.proofs.HexLemmas.{length-encode_with}
use Rattle.ptu_lines.proofs.Encoded.{encode_lower-put_mid, part_renewed}
use Rattle.ptu_lines.proofs.digits.renew_part.Goals as goal

pub slice_bounds-write_hexadecimal-end : goal.slice_bounds-write_hexadecimal-end
slice_bounds-write_hexadecimal-end c = search (rules, ap length c.requires.digits, length-encode_with lower_digits c.args.last.now)

pub returns-clause-digits : goal.returns-clause-digits
returns-clause-digits c =
    let at : ℕ = c.args.at in
    let size : ℕ = c.args.end - at in
    let part : List ℕ = take size (drop at c.args.octets.now) in
    let count : 2 * c.args.end - 2 * at ≡ 2 * size = omega arith in
    let written : c.write_hexadecimal.new.room ≡ encode_lower part = search rules in
    let copied : c.copy_from_slice.new.self ≡ part = c.copy_from_slice.ensures.after in
    rw (count, written, copied, c.requires.digits) (sym (encode_lower-put_mid at size c.args.last.now part))

pub returns-clause-before : goal.returns-clause-before
returns-clause-before c =
    part_renewed c.args.at c.args.end c.args.last.now c.args.octets.now c.copy_from_slice.new.self c.requires.size c.requires.order c.requires.within c.copy_from_slice.ensures.after c.requires.before
