-- Shares of tables that were swept.
use Rattle.std.proofs.Common.{◌≡◌, ◌∙◌, ℕ, List, [], ◌∷◌}
use Rattle.ptu_shard.specs.{Row.{share_of}, Table.{Kept}}
use Rattle.ptu_admit.specs.{Rows.{live_rows}, Tables.{IsSwept}}
use Rattle.ptu_admit.proofs.Sums.{share_of-permuted}

-- what a swept table holds is what its live rows held
pub swept_share : {P : Type 0} (n : ℕ) (old new : Kept P) (held : ℕ) → IsSwept n old new → held ≡ share_of new.rows → held ≡ share_of (live_rows n old.rows)
swept_share n old new held swept is = is ∙ share_of-permuted (live_rows n old.rows) new.rows swept.rows

pub same_four : (a b c d x y z w : ℕ) → a ≡ x → b ≡ y → c ≡ z → d ≡ w → ◌≡◌ {A = List ℕ} (a ∷ b ∷ c ∷ d ∷ []) (x ∷ y ∷ z ∷ w ∷ [])
same_four a b c d x y z w p q r s = cc
