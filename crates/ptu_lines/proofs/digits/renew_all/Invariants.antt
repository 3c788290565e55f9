-- The octets before the place are those of the other list.
use Rattle.std.proofs.Common.{◌≡◌, ◌≤◌, ◌-◌, length, take}
use Rattle.hex.specs.Hex.{encode_lower}
use Rattle.ptu_lines.proofs.digits.renew_all.Given as goal

abbrev pub invariant-parts : goal.invariant-parts
invariant-parts l = record {
  within : l.place ≤ length l.octets;
  size : length l.last ≡ length l.octets;
  digits : l.digits ≡ encode_lower l.last;
  before : take l.place l.last ≡ take l.place l.octets;
}

abbrev pub decreases-parts : goal.decreases-parts
decreases-parts l = length l.octets - l.place
