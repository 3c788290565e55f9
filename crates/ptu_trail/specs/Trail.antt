-- What a trail stands for.
use Rattle.std.specs.Prelude.{◌≡◌, ℕ, List}
use Rattle.ptu_history.specs.{History.{Record, capacity_in_force}, Moments.{book_moment}}
use Rattle.ptu_trail.specs.{declared.trail.Trail.{Trail}, Clients.{AreKnown}, Live.{AreLive}}

-- the trail stands for the records so far, none of which has a fault, with the capacity that was in
-- force before all of them: it keeps the capacity in force, the moment of the last decision or
-- change, what is known of each client, and the grants that are live at that moment
pub record StandsFor (opening : ℕ) (trail : Trail) (history : List Record) : Type 0 where
  pub capacity : trail.capacity ≡ capacity_in_force opening history
  pub moment : trail.moment ≡ book_moment history
  pub clients : AreKnown history trail.clients
  pub live : AreLive history (book_moment history) trail.live
