use Rattle.std.proofs.Common.{◌≡◌, ◌∙◌, ◌++◌, ℕ, List, append-nil, ap, arith, drop, length, subst, sym, take, take_all}
use Rattle.std.proofs.lemmas.{Bool.{false≢true}, List.{drop_all}}
use Rattle.ptu_shared.proofs.shared.Shared.close_with_tallies.Goals as goal

pub returns-then-is_settled-clause-verdicts : goal.returns-then-is_settled-clause-verdicts
returns-then-is_settled-clause-verdicts g c =
    let settled = c.is_settled.ensures.0 c.if-is_settled.true in
    let closed = c.close_tables.ensures.verdicts in
    let sums = rw c.as_mut_slice.ensures.value at c.count_seats-sums.ensures.sums in
    (closed.0 ∙ sym settled.0 ∙ sums.0, closed.1 ∙ sym settled.1 ∙ sums.1)

pub returns-then-is_settled-clause-lawful : goal.returns-then-is_settled-clause-lawful
returns-then-is_settled-clause-lawful g c =
    let ports = c.close_tables.ensures.ports in
    let tallies = c.close_tables.ensures.tallies in
    rw (← c.turner.view_is, ports.0, ports.1, ports.2, ports.3, tallies.0, tallies.1, tallies.2, tallies.3) (c.into_table.ensures, c.into_table-then-is_settled.ensures, c.into_table-then-is_settled-2.ensures, c.into_table-then-is_settled-3.ensures)

-- a vector whose elements were lent and came back as they were
filled_again : {A : Type 0} (n : ℕ) (xs ys : List A) → n ≡ length xs → ys ≡ xs → take n (ys ++ drop (length ys) xs) ≡ xs
filled_again n xs ys len same =
    subst (λ zs. take n (zs ++ drop (length zs) xs) ≡ xs) (sym same)
    (ap (λ t. take n (xs ++ t)) (drop_all (length xs) xs (omega arith)) ∙ ap (λ l. take n l) (append-nil xs) ∙ take_all n xs (omega (arith, len)))

pub returns-clause-fault : goal.returns-clause-fault
returns-clause-fault g c =
    let sums = rw c.as_mut_slice.ensures.value at c.count_seats-sums.ensures.sums in (
      filled_again c.args.seats.len c.args.seats.items c.count_seats-sums.new.seats c.args.seats.ok.0 (c.count_seats-sums.ensures.seats ∙ c.as_mut_slice.ensures.value),
      record { granted = sums.0; refused = sums.1; differ = λ same. false≢true (sym c.if-is_settled.false ∙ c.is_settled.ensures.1 same) },
    )

pub returns-clause-all : goal.returns-clause-all
returns-clause-all g c all =
    let counted = c.count_seats-sums.ensures.all (ap length c.as_mut_slice.ensures.value ∙ sym c.args.seats.ok.0 ∙ all) in
    let desk = c.count_seats-sums.ensures.desk in
    absurd (false≢true (sym c.if-is_settled.false ∙ c.is_settled.ensures.1 (counted.0 ∙ sym desk.1, counted.1 ∙ sym desk.2)))
