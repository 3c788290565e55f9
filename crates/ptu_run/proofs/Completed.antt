-- Where nothing failed and nothing is refused, a run answers 0, or that no memory was found.
use Rattle.std.proofs.Common.{arith, ◌≡◌, ◌≢◌, ◌⊎◌, ◌∙◌, ℕ, Bool, true, false, List, None, inl, inr, refl, ap}
use Rattle.std.specs.Prelude.{if◌then◌else◌}
use Rattle.std.proofs.lemmas.Bool.Decides.{eqb_tells}
use Rattle.ptu_config.specs.Refusals.{gm_refusal, slave_refusal}
use Rattle.ptu_run.specs.declared.command.Command.{Command}
use Rattle.ptu_run.specs.declared.command.Command.TheVariants.{Replay, Show, Load, Serve, Slave, Join, Audit, Pools}
use Rattle.ptu_world.specs.World.{Stock}
use Rattle.ptu_run.specs.Run.{IsAccepted, IsOfLab, IsWholeStatus, status_of}

-- a daemon answers one of these
abbrev IsDaemonAnswer : ℕ → Type 0
IsDaemonAnswer status = (status ≡ 0) ⊎ (status ≡ 66) ⊎ (status ≡ 67) ⊎ (status ≡ 69) ⊎ (status ≡ 71)

-- of these, faults are left out
faultless : (status : ℕ) → status ≢ 66 → status ≢ 67 → status ≢ 69 → IsDaemonAnswer status → (status ≡ 0) ⊎ (status ≡ 71)
faultless status source sink host (inl e) = inl e
faultless status source sink host (inr (inl e)) = absurd (source e)
faultless status source sink host (inr (inr (inl e))) = absurd (sink e)
faultless status source sink host (inr (inr (inr (inl e)))) = absurd (host e)
faultless status source sink host (inr (inr (inr (inr e)))) = inr e

-- a program of the lab that has memory answers by its output
by_output : (status : ℕ) → (status ≢ 71 → status ≡ 0) → (status ≡ 0) ⊎ (status ≡ 71)
by_output status is =
    elim (eqb_tells status 71) [
      | inl (e, same) ↦ inr same
      | inr (e, unlike) ↦ inl (is unlike)
    ]

pub completed : (stock : Stock) (command : Command) (input : List ℕ) (status : ℕ) → IsAccepted stock command input
    → (IsOfLab command → status ≢ 71 → status ≡ status_of stock command input)
    → (command ≡ Serve → gm_refusal input ≡ None → IsDaemonAnswer status)
    → (command ≡ Slave → slave_refusal stock.flags stock.gaps input ≡ None → IsDaemonAnswer status)
    → ((capacity : ℕ) → command ≡ Audit capacity → IsAccepted stock (Audit capacity) input → IsWholeStatus (Audit capacity) status ⊎ (status ≡ 71))
    → status ≢ 66 → status ≢ 67 → status ≢ 69 → IsWholeStatus command status ⊎ (status ≡ 71)
completed stock Replay input status accepted lab served followed audited source sink host =
    by_output status (λ memory. lab tt memory ∙ ap (λ b. if b then 0 else 65) accepted)
completed stock Show input status accepted lab served followed audited source sink host =
    by_output status (λ memory. lab tt memory ∙ ap (λ b. if b then 0 else 65) accepted)
completed stock (Load number) input status accepted lab served followed audited source sink host = by_output status (λ memory. lab tt memory)
completed stock Join input status accepted lab served followed audited source sink host =
    by_output status (λ memory. lab tt memory ∙ ap (λ b. if b then 0 else 65) accepted)
completed stock Pools input status accepted lab served followed audited source sink host =
    by_output status (λ memory. lab tt memory ∙ ap (λ b. if b then 0 else 65) accepted)
completed stock Serve input status accepted lab served followed audited source sink host = faultless status source sink host (served refl accepted)
completed stock Slave input status accepted lab served followed audited source sink host = faultless status source sink host (followed refl accepted)
completed stock (Audit capacity) input status accepted lab served followed audited source sink host = audited capacity refl accepted
