use Rattle.std.proofs.Common.{rules, ◌≡◌, ◌++◌, ◌-◌, ◌*◌, take, length, replicate, refl}
use Rattle.hex.specs.Hex.{encode_with}
use Rattle.ptu_lines.proofs.Encoded.{encode_lower-resized}
use Rattle.ptu_lines.proofs.digits.resize.Goals as goal

pub returns-then-is_err-clause-digits : goal.returns-then-is_err-clause-digits
unfolding encode_with
returns-then-is_err-clause-digits c = rw (c.clear.ensures.items, c.clear-then-is_err.ensures.items) refl

pub returns-clause-digits : goal.returns-clause-digits
returns-clause-digits c =
    let size = c.args.size in
    let octets : c.resize.new.self.items ≡ take size c.args.octets.now.items ++ replicate (size - length c.args.octets.now.items) 0 = search rules in
    let digits : c.resize-else-is_err.new.self.items ≡ take (2 * size) c.args.digits.now.items ++ replicate (2 * size - length c.args.digits.now.items) 48 = search rules in
    rw (octets, digits) (encode_lower-resized size c.args.octets.now.items c.args.digits.now.items c.requires.digits)
