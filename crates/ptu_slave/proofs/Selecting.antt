-- The master that is selected.
use Rattle.std.proofs.Common.{◌≡◌, ℕ, suc, ◌<◌, List, [], ◌∷◌, length, Option, Some, None, refl, ap, sym}
use Rattle.std.specs.Prelude.{IfSome}
use Rattle.ptu_record.specs.{Record.{Record}, Selection.{selected_master}, SignalFails.{Timeouts}}
use Rattle.ptu_record.proofs.Choice.{chosen_best}
use Rattle.ptu_profile.specs.{declared.slave.Master.{Master}, Slave.{priorities}}

-- it stands in the list
pub chosen_within : (timeouts : Timeouts) (priorities : List ℕ) (L : Record) (t : ℕ) (o : Option ℕ) → o ≡ selected_master timeouts priorities L t → IfSome o (λ m. m < length priorities)
chosen_within timeouts priorities L t None is = tt
chosen_within timeouts priorities L t (Some m) is = (chosen_best timeouts priorities L t m (sym is)).within

-- each master has a priority
pub priorities_many : (masters : List Master) → length (priorities masters) ≡ length masters
priorities_many [] = refl
priorities_many (m ∷ masters) = ap (λ n. suc n) (priorities_many masters)
