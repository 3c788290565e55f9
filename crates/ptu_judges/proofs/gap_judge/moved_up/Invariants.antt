use Rattle.std.proofs.Common.{◌≡◌, ℕ, ◌<◌, true, length, get_or}
use Rattle.ptu_judges.specs.Shifting.{shifted}
use Rattle.ptu_judges.proofs.gap_judge.moved_up.Given as goal

abbrev pub invariant-loop-i : goal.invariant-loop-i
invariant-loop-i l = record {
  size : length l.moved ≡ 16;
  shifted : (k : ℕ) → k < l.i → get_or l.moved k true ≡ shifted l.by l.marks k;
}
