-- What a table ends as, where a `&mut` to its port is returned.
use Rattle.std.specs.Borrow.{Fml, Lends, MutBor, RattleType}
use Rattle.ptu_outside.specs.declared.port.Port.{Ghosts}
use Rattle.ptu_shard.specs.{contracts.shard.Shard.{the_row}, Table.{Kept}}

-- once the borrow r ends, the table has the port as it was left behind r, and all else as before
abbrev pub LendsPort : (P : RattleType) (g : Ghosts P.Denot) → MutBor (Kept P.Denot) → MutBor P.Denot → Fml
LendsPort P g s r = Lends (the_row P g) P s r (λ port. record s.now { port = port })
