use Rattle.std.proofs.Common.{◌≡◌, ◌∙◌, ◌++◌, ◌∷◌, sym, ap, arith, max, refl, subst}
use Rattle.std.specs.List.{AllPairs}
use Rattle.std.proofs.lemmas.List.{length-map}
use Rattle.ptu_units.specs.Client.{table_of}
use Rattle.ptu_history.specs.{History.{Looked}, Moments.{book_moment}}
use Rattle.ptu_history.specs.Step.{answer_records, delay_answer}
use Rattle.ptu_shard.specs.{Fields.{row_of, rows_of}, Queue.{HasEdges, HasEnds}, Row.{share_of}}
use Rattle.ptu_shard.specs.{Turn.{is_answering_row}, Answered.{answer_by}}
use Rattle.ptu_history.proofs.Moments.{answer_looked, book_moment-none}
use Rattle.ptu_shard.proofs.{Keeping.{edges_answered, ends_spent, length-spent}, RowLists.{Differ}}
use Rattle.ptu_shard.proofs.Responses.{answer_is, stands_answered}
use Rattle.ptu_shard.proofs.Spending.{distinct_spent, share_of-spent}
use Rattle.ptu_shard.proofs.shard.Shard.answer_delay.Goals as goal

pub invariant_of-self : goal.invariant_of-self
invariant_of-self g c =
    let x = c.latest-at.result in
    let test = is_answering_row x c.args.client.now in
    let inv = c.self.invariant in
    let h = c.spend_answering-lease.ensures in
    let old = rows_of c.self.inside.rows.entries in
    record {
      distinct = subst (AllPairs Differ) (sym h.rows) (distinct_spent test x old inv.distinct);
      held = inv.held ∙ sym (share_of-spent test x old) ∙ sym (ap share_of h.rows);
      due = subst (λ l. HasEdges x l c.self.inside.edges.entries) (sym h.rows)
          (edges_answered c.self.inside.moment x c.args.client.now old c.self.inside.edges.entries (let e : x ≡ max c.args.t c.self.inside.moment = c.latest-at.ensures in omega arith) inv.due);
      over = subst (λ l. HasEnds l c.self.inside.ends.entries) (sym h.rows) (ends_spent test x old c.self.inside.ends.entries inv.over);
      within = omega (arith, inv.within, length-spent (test) x c.self.inside.rows.entries c.spend_answering-lease.new.rows.entries h.rows, length-map c.self.inside.rows.entries row_of, length-map c.spend_answering-lease.new.rows.entries row_of);
      fits = omega (arith, inv.fits, h.spare, length-spent (test) x c.self.inside.rows.entries c.spend_answering-lease.new.rows.entries h.rows, length-map c.self.inside.rows.entries row_of, length-map c.spend_answering-lease.new.rows.entries row_of);
      edge_room = inv.edge_room;
      end_room = inv.end_room;
    }

pub returns-clause-met : goal.returns-clause-met
returns-clause-met g c = λ history h.
    c.answer_request.ensures.answer ∙ ap (λ o. answer_by c.latest-at.result o) c.spend_answering-lease.ensures.lease
    ∙ sym (answer_is (book_moment history) (table_of c.args.client.now) c.self.inside.moment history (rows_of c.self.inside.rows.entries) (rw (← c.self.view_is) at h) c.latest-at.result
    (let e : c.latest-at.result ≡ max c.args.t c.self.inside.moment = c.latest-at.ensures in omega arith) c.args.client.now refl)

pub returns-clause-stands : goal.returns-clause-stands
returns-clause-stands g c = λ opened history h.
    let x = c.latest-at.result in
    let j = table_of c.args.client.now in
    let records = Looked x j ∷ answer_records x c.args.client.now (delay_answer history x c.args.client.now) in
    let same_book : book_moment (history ++ records) ≡ book_moment history
    = book_moment-none history records (answer_looked x c.args.client.now (delay_answer history x c.args.client.now)) in
    rw (c.spend_answering-lease.ensures.rows, same_book)
    (stands_answered (book_moment history) j c.self.inside.moment history (rows_of c.self.inside.rows.entries) (rw (← c.self.view_is) at h)
    x (let e : x ≡ max c.args.t c.self.inside.moment = c.latest-at.ensures in omega arith) c.args.client.now refl)
