-- Texts that are done, one behind the other, and the one in the making behind them.
use Rattle.std.specs.Prelude.{ℕ, List}

pub record Drafted : Type 0 where
  pub done : List ℕ
  pub text : List ℕ
