-- What a grandmaster ends as, where a `&mut` to one of its ports is returned.
use Rattle.std.specs.{Prelude.{ℕ}, Borrow.{Fml, Lends, MutBor, RattleType}}
use Rattle.ptu_outside.specs.declared.port.Port.{Ghosts}
use Rattle.ptu_grandmaster.specs.{contracts.gm.Gm.{the_row}, Gm.{KeptGm, with_port}}

-- once the borrow r ends, the grandmaster has the port of this index as it was left behind r, and all else as before
abbrev pub LendsPort : (P : RattleType) (g : Ghosts P.Denot) → ℕ → MutBor (KeptGm P.Denot) → MutBor P.Denot → Fml
LendsPort P g i s r = Lends (the_row P g) P s r (λ port. with_port i port s.now)
