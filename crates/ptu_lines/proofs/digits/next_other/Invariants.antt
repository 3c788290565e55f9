-- The octets before the place are the same in both.
use Rattle.std.proofs.Common.{◌≡◌, ◌≤◌, ◌-◌, length, take}
use Rattle.ptu_lines.proofs.digits.next_other.Given as goal

abbrev pub invariant-parts : goal.invariant-parts
invariant-parts l = record {
  within : l.place ≤ length l.octets;
  before : take l.place l.others ≡ take l.place l.octets;
  further : l.at ≤ l.place;
}

abbrev pub decreases-parts : goal.decreases-parts
decreases-parts l = length l.octets - l.place
