-- A line in the making, from its end to its front: what stands so far, and how many octets may come before that.
use Rattle.std.specs.Prelude.{ℕ, List}

pub record Line : Type 0 where
  pub text : List ℕ
  pub room : ℕ
