use Rattle.std.proofs.Common.{◌≡◌, ◌∙◌, ap, ap₂, sym, true, ℕ, Option, Some, None}
use Rattle.std.specs.Prelude.{IfNone}
use Rattle.ptu_units.specs.Client.{same_lease}
use Rattle.ptu_units.proofs.Keys.{same_lease-refl}
use Rattle.ptu_history.proofs.Unique.{Apart-from_pairs}
use Rattle.std.proofs.lemmas.Bool.{true≢false}
use Rattle.ptu_shard.specs.{declared.lease.Row.{Row}, Row.{is_row_of}}
use Rattle.ptu_shard.proofs.{Members.{kept_row}, RowLists.{Differ, missing_none}}
use Rattle.ptu_admit.specs.declared.newest.{Candidate.{Candidate}, Found.{Found}}
use Rattle.ptu_admit.proofs.RowKeys.{same_row}
use Rattle.ptu_admit.proofs.shedding.find_in.Goals as goal

pub returns-in_err-lease-clause-none : goal.returns-in_err-lease-clause-none
returns-in_err-lease-clause-none g c = for_none c.from_residual.result _ (λ row h same.
    let candidate : Candidate = c.args.candidate.now in
    let own : is_row_of candidate.client candidate.kind row ≡ true =
    ap₂ (λ d i. same_lease d i row.client row.kind) (sym (ap (λ (o : Candidate). o.client) same)) (sym (ap (λ (o : Candidate). o.kind) same)) ∙ same_lease-refl row.client row.kind in
    true≢false (sym own ∙ missing_none candidate.client candidate.kind c.args.shard.now.rows (sym c.lease.ensures ∙ c.in_err-lease.was) row h))
  where
    for_none : (o : Option Found) (F : Type 0) → F → IfNone o F
    for_none None F f = f
    for_none (Some x) F f = tt

pub returns-then-nanos-candidate-clause-none : goal.returns-then-nanos-candidate-clause-none
returns-then-nanos-candidate-clause-none g c = λ row h same.
    let candidate : Candidate = c.args.candidate.now in
    let rows = c.args.shard.now.rows in
    let mine : Row = record { client = candidate.client; kind = candidate.kind; lease = c.in_ok-lease.lease } in
    let own : is_row_of candidate.client candidate.kind row ≡ true =
    ap₂ (λ d i. same_lease d i row.client row.kind) (sym (ap (λ (o : Candidate). o.client) same)) (sym (ap (λ (o : Candidate). o.kind) same)) ∙ same_lease-refl row.client row.kind in
    let is : mine ≡ row = same_row candidate.client candidate.kind rows (Apart-from_pairs Differ rows c.requires) mine row
    (kept_row candidate.client candidate.kind rows c.in_ok-lease.lease (sym c.lease.ensures ∙ c.in_ok-lease.was)) h (same_lease-refl candidate.client candidate.kind) own in
    c.if-nanos-candidate.true (c.nanos.ensures.value ∙ ap (λ (r : Row). r.lease.start) is ∙ ap (λ (o : Candidate). o.start) same)

pub returns-clause-kept : goal.returns-clause-kept
returns-clause-kept g c = (
  kept_row c.args.candidate.now.client c.args.candidate.now.kind c.args.shard.now.rows c.in_ok-lease.lease (sym c.lease.ensures ∙ c.in_ok-lease.was),
  ap (λ (s : ℕ). record c.args.candidate.now { start = s }) (sym c.nanos.ensures.value ∙ c.if-nanos-candidate.false),
)
