-- A change of capacity, and its CANCELs.
use Rattle.std.specs.Prelude.{◌≡◌, ℕ, ◌+◌, List, ◌++◌, length, map}
use Rattle.ptu_units.specs.declared.{client.Client.{Client}, kind.Kind.{Kind}}
use Rattle.ptu_outside.specs.{declared.port.Port.{Ghosts as Ports}, HandsOver.{HandsOver}}
use Rattle.ptu_history.specs.Core.{book_step_moment, core_step}
use Rattle.ptu_history.specs.Events as events
use Rattle.ptu_history.specs.{History.{Record}, Shedding.{shed_grants}}
use Rattle.ptu_admit.specs.{declared.shed_list.Shed.{Shed}, Lent.{moment_for_all}, Shed.{shed_of}}
use Rattle.ptu_gm_messages.specs.{Deciding.{opened_with}, Replies.{cancels_to}}
use Rattle.ptu_grandmaster.specs.{declared.resizing.Changed.{Changed}, Gm.{KeptGm, StandsFor, tables}}

-- the clients and kinds of grants that were shed, in order
abbrev pub leases_shed : List Shed → List (Client × Kind)
leases_shed shed = map (λ s. (s.client, s.kind)) shed

-- it is the core's moment for `t` after the history, and these are the grants that a change to the capacity sheds then
abbrev pub AreShedAt : List Record → ℕ → ℕ → ℕ → List Shed → Type 0
AreShedAt history t capacity at shed =
    (at ≡ book_step_moment history t) × (shed ≡ map shed_of (shed_grants history at capacity))

-- the capacity in force became this, at the core's moment for `t`
pub record HasChanged {P : Type 0} (exposed : Ports P) (t capacity : ℕ) (old new : KeptGm P) (changed : Changed) : Type 0 where
  pub at : changed.at ≡ moment_for_all t old.book (tables old)
  -- the CANCELs of the grants that are shed are handed to the reply port, in order
  pub sends : HandsOver exposed old.reply new.reply (cancels_to old.config old.sequence (leases_shed changed.shed)) changed.sent changed.failed
  pub count : changed.sent + changed.failed ≡ length changed.shed
  pub ports : (new.s0.port ≡ old.s0.port) × (new.s1.port ≡ old.s1.port) × (new.s2.port ≡ old.s2.port) × (new.s3.port ≡ old.s3.port)
  pub config : new.config ≡ old.config
  -- they are those of the core's change after each history that the grandmaster stands for, which goes on with it
  pub shed : (opening : ℕ) (history : List Record) → StandsFor opening old history → AreShedAt history t capacity changed.at changed.shed
  pub stands : (opening : ℕ) (history : List Record) → StandsFor opening old history →
      StandsFor opening new (history ++ (core_step (opened_with opening old.config) history t (events.Resize capacity)).records)
