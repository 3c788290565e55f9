use Rattle.std.proofs.Common.{◌≡◌, ◌∙◌, ◌≤◌, ◌++◌, ◌∷◌, [], List, ℕ, ap, arith, map, subst, sym}
use Rattle.ptu_history.specs.{History.{Capacity}, Moments.{book_moment}}
use Rattle.ptu_history.specs.Shedding.{shed_grants, shed_record}
use Rattle.ptu_history.proofs.Moments.{book_moment-resized}
use Rattle.ptu_admit.specs.{Book.{KeptBook}, declared.shed_list.Shed.{Shed}}
use Rattle.ptu_admit.specs.{Lent.{EachStandsAt, four}, Newest.{rows_in, shed_at}}
use Rattle.ptu_admit.proofs.{Alone.{alone_resized}, Lending.{are_at, four_swept}}
use Rattle.ptu_admit.proofs.ShedLoop.{all_live, capacity_changed, passes_change, records_changed, swept_rows, swept_share}
use Rattle.ptu_admit.proofs.Verdicts.{four_stand}
use Rattle.ptu_admit.proofs.resizing.resize.Goals as goal

pub shed_above-list-requires-clause-live : goal.shed_above-list-requires-clause-live
shed_above-list-requires-clause-live g c =
    all_live c.latest_of-at.result c.args.s0.now c.args.s1.now c.args.s2.now c.args.s3.now c.sweep_all.new.s0 c.sweep_all.new.s1 c.sweep_all.new.s2 c.sweep_all.new.s3
    c.sweep_all.ensures.s0 c.sweep_all.ensures.s1 c.sweep_all.ensures.s2 c.sweep_all.ensures.s3

pub shed_above-list-requires-clause-room : goal.shed_above-list-requires-clause-room
shed_above-list-requires-clause-room g c = λ above.
    let at : ℕ = c.latest_of-at.result in
    let enough : rows_in (four c.sweep_all.new.s0 c.sweep_all.new.s1 c.sweep_all.new.s2 c.sweep_all.new.s3) ≤ c.count_above-count.result =
    omega (
      arith,
      c.count_above-count.ensures.all (omega (
        arith,
        above,
        c.requires.sum,
        ap (λ (k : KeptBook). k.total) c.sweep_all.ensures.book,
        swept_share at c.args.s0.now c.sweep_all.new.s0 c.sweep_all.ensures.s0,
        swept_share at c.args.s1.now c.sweep_all.new.s1 c.sweep_all.ensures.s1,
        swept_share at c.args.s2.now c.sweep_all.new.s2 c.sweep_all.ensures.s2,
        swept_share at c.args.s3.now c.sweep_all.new.s3 c.sweep_all.ensures.s3,
      )),
      swept_rows at c.args.s0.now c.sweep_all.new.s0 c.sweep_all.ensures.s0,
      swept_rows at c.args.s1.now c.sweep_all.new.s1 c.sweep_all.ensures.s1,
      swept_rows at c.args.s2.now c.sweep_all.new.s2 c.sweep_all.ensures.s2,
      swept_rows at c.args.s3.now c.sweep_all.new.s3 c.sweep_all.ensures.s3,
    ) in
    (omega (arith, enough, c.in_ok-order.ensures.capacity), omega (arith, enough, c.in_ok-list.ensures.capacity))

pub returns-clause-shed : goal.returns-clause-shed
unfolding shed_grants
returns-clause-shed g c = λ opening h s.
    let at : ℕ = c.latest_of-at.result in
    let le : book_moment h ≤ at = let now = s.moment in omega (arith, c.latest_of-at.ensures) in
    let swept = four_swept opening (book_moment h) at c.args.s0.now c.args.s1.now c.args.s2.now c.args.s3.now c.sweep_all.new.s0 c.sweep_all.new.s1 c.sweep_all.new.s2 c.sweep_all.new.s3
    c.args.book.now.capacity c.args.book.now.total h (are_at opening (four c.args.s0.now c.args.s1.now c.args.s2.now c.args.s3.now) c.args.book.now h s) le
    c.sweep_all.ensures.s0 c.sweep_all.ensures.s1 c.sweep_all.ensures.s2 c.sweep_all.ensures.s3 in
    c.new.ensures ∙ rw c.get-2.ensures.value at (c.shed_above-list.ensures.shed h swept.tables)

pub returns-clause-stands : goal.returns-clause-stands
returns-clause-stands g c = λ opened h s.
    let at : ℕ = c.latest_of-at.result in
    let capacity : ℕ = c.args.capacity in
    let items : List Shed = c.shed_above-list.result.items in
    let le : book_moment h ≤ at = let now = s.moment in omega (arith, c.latest_of-at.ensures) in
    let swept = four_swept opened.capacity (book_moment h) at c.args.s0.now c.args.s1.now c.args.s2.now c.args.s3.now c.sweep_all.new.s0 c.sweep_all.new.s1 c.sweep_all.new.s2 c.sweep_all.new.s3
    c.args.book.now.capacity c.args.book.now.total h (are_at opened.capacity (four c.args.s0.now c.args.s1.now c.args.s2.now c.args.s3.now) c.args.book.now h s) le
    c.sweep_all.ensures.s0 c.sweep_all.ensures.s1 c.sweep_all.ensures.s2 c.sweep_all.ensures.s3 in
    let changed : EachStandsAt at (four c.sweep_all.new.s0 c.sweep_all.new.s1 c.sweep_all.new.s2 c.sweep_all.new.s3) (h ++ Capacity at capacity ∷ []) =
    passes_change at capacity c.sweep_all.new.s0 c.sweep_all.new.s1 c.sweep_all.new.s2 c.sweep_all.new.s3 h swept.tables in
    let records_are : (h ++ Capacity at capacity ∷ []) ++ map (shed_at at) items ≡ h ++ Capacity at capacity ∷ map (shed_record at) (shed_grants h at capacity) =
    records_changed h at capacity items (rw c.get-2.ensures.value at (c.shed_above-list.ensures.shed h swept.tables)) in
    let each : EachStandsAt at (four c.shed_above-list.new.s0 c.shed_above-list.new.s1 c.shed_above-list.new.s2 c.shed_above-list.new.s3) (h ++ Capacity at capacity ∷ map (shed_record at) (shed_grants h at capacity)) =
    subst (λ h'. EachStandsAt at (four c.shed_above-list.new.s0 c.shed_above-list.new.s1 c.shed_above-list.new.s2 c.shed_above-list.new.s3) h') records_are (c.shed_above-list.ensures.stands (h ++ Capacity at capacity ∷ []) changed) in
    four_stand opened.capacity at c.shed_above-list.new.s0 c.shed_above-list.new.s1 c.shed_above-list.new.s2 c.shed_above-list.new.s3 c.change.new.self (h ++ Capacity at capacity ∷ map (shed_record at) (shed_grants h at capacity)) each
    (book_moment-resized h at capacity (shed_grants h at capacity) ∙ (omega arith))
    (ap (λ (k : KeptBook). k.moment) c.change.ensures)
    (ap (λ (k : KeptBook). k.capacity) c.change.ensures ∙ sym (capacity_changed opened.capacity h at capacity (shed_grants h at capacity)))
    (ap (λ (k : KeptBook). k.total) c.change.ensures ∙ ap (λ (k : KeptBook). k.total) c.shed_above-list.ensures.book)

pub returns-clause-alone : goal.returns-clause-alone
returns-clause-alone g c =
    let at : ℕ = c.latest_of-at.result in
    let swept = c.sweep_all.ensures in
    let above = c.shed_above-list.ensures in (
      alone_resized 0 at c.args.capacity c.args.s0.now c.sweep_all.new.s0 c.shed_above-list.new.s0 swept.s0 above.t0 (omega (arith, c.latest_of-at.ensures)),
      alone_resized 1 at c.args.capacity c.args.s1.now c.sweep_all.new.s1 c.shed_above-list.new.s1 swept.s1 above.t1 (omega (arith, c.latest_of-at.ensures)),
      alone_resized 2 at c.args.capacity c.args.s2.now c.sweep_all.new.s2 c.shed_above-list.new.s2 swept.s2 above.t2 (omega (arith, c.latest_of-at.ensures)),
      alone_resized 3 at c.args.capacity c.args.s3.now c.sweep_all.new.s3 c.shed_above-list.new.s3 swept.s3 above.t3 (omega (arith, c.latest_of-at.ensures)),
    )
