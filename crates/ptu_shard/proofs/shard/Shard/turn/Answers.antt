use Rattle.std.proofs.Common.{◌≡◌, ◌∙◌, ◌++◌, sym, ap, arith, max, subst}
use Rattle.std.specs.List.{AllPairs}
use Rattle.std.proofs.lemmas.List.{length-map}
use Rattle.ptu_history.specs.{Moments.{book_moment}, Events.{Turn}, Step.{step}, Turns.{due_grants}}
use Rattle.ptu_history.proofs.Moments.{book_moment-none, greatest-sent}
use Rattle.ptu_shard.specs.{Fields.{row_of, rows_of}, Queue.{HasEnds}, Row.{share_of}}
use Rattle.ptu_shard.specs.Turn.{is_due_row}
use Rattle.ptu_shard.proofs.{Keeping.{ends_spent, length-spent}, RowLists.{Differ}}
use Rattle.ptu_shard.proofs.Spending.{distinct_spent, share_of-spent}
use Rattle.ptu_shard.proofs.Turns.{stands_turned, turn_messages}
use Rattle.ptu_shard.proofs.shard.Shard.turn.Goals as goal

pub invariant_of-self : goal.invariant_of-self
invariant_of-self g c =
    let x = c.latest-at.result in
    let inv = c.self.invariant in
    let h = c.send_due-sends.ensures in
    let old = rows_of c.self.inside.rows.entries in
    record {
      distinct = subst (AllPairs Differ) (sym h.rows) (distinct_spent (is_due_row x) x old inv.distinct);
      held = inv.held ∙ sym (share_of-spent (is_due_row x) x old) ∙ sym (ap share_of h.rows);
      due = h.edges;
      over = subst (λ l. HasEnds l c.self.inside.ends.entries) (sym h.rows) (ends_spent (is_due_row x) x old c.self.inside.ends.entries inv.over);
      within = omega (arith, inv.within, length-spent (is_due_row x) x c.self.inside.rows.entries c.send_due-sends.new.rows.entries h.rows, length-map c.self.inside.rows.entries row_of, length-map c.send_due-sends.new.rows.entries row_of);
      fits = omega (arith, inv.fits, h.spare, length-spent (is_due_row x) x c.self.inside.rows.entries c.send_due-sends.new.rows.entries h.rows, length-map c.self.inside.rows.entries row_of, length-map c.send_due-sends.new.rows.entries row_of);
      edge_room = omega (arith, inv.edge_room, h.capacity);
      end_room = inv.end_room;
    }

pub returns-clause-messages : goal.returns-clause-messages
returns-clause-messages g c = λ j history h.
    rw (← c.self.view_is)
    (turn_messages (book_moment history) j c.self.inside.moment history (rows_of c.self.inside.rows.entries) (rw (← c.self.view_is) at h) c.latest-at.result
    (let e : c.latest-at.result ≡ max c.args.t c.self.inside.moment = c.latest-at.ensures in omega arith) c.self.invariant.distinct)

pub returns-clause-stands : goal.returns-clause-stands
returns-clause-stands g c = λ opened j history h.
    let x = c.latest-at.result in
    let records = (step opened history x (Turn j)).records in
    let same_book : book_moment (history ++ records) ≡ book_moment history
    = book_moment-none history records (ap (λ n. max 0 n) (greatest-sent x (due_grants history x j))) in
    rw (c.send_due-sends.ensures.rows, same_book)
    (stands_turned (book_moment history) j c.self.inside.moment history (rows_of c.self.inside.rows.entries) (rw (← c.self.view_is) at h)
    x (let e : x ≡ max c.args.t c.self.inside.moment = c.latest-at.ensures in omega arith))
