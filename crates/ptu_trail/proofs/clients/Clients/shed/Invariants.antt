use Rattle.std.proofs.Common.{◌≡◌, ℕ, List}
use Rattle.ptu_history.specs.{History.{Record}, Moments.{book_moment}}
use Rattle.ptu_trail.specs.Clients.{AreKnown}
use Rattle.ptu_trail.proofs.Sheds.{AreShed}
use Rattle.ptu_trail.proofs.clients.Clients.shed.Given as goal

-- the sheddings so far have no fault
abbrev pub invariant-loop-place : goal.invariant-loop-place
invariant-loop-place l = (opening : ℕ) (history : List Record) → AreKnown history l.fn.self → l.at ≡ book_moment history → AreShed opening history l.at l.shed l.place l.self
