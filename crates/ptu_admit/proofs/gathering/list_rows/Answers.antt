use Rattle.std.proofs.Common.{◌≡◌, ◌∙◌, ◌+◌, ◌<◌, ◌++◌, ◌∷◌, [], ap, arith, cond, sym, true, ℕ}
use Rattle.std.specs.Prelude.{is_ok, vec_capacity, vec_len}
use Rattle.ptu_admit.specs.{Newest.{candidate_of, found_in}, declared.newest.Candidate.{Candidate}}
use Rattle.ptu_admit.proofs.Candidates.{got_within, listed_next}
use Rattle.ptu_admit.proofs.gathering.list_rows.Goals as goal
use Rattle.ptu_admit.proofs.gathering.list_rows.Goals.{in-Some, in_default}

pub loop-index-preserved : goal.loop-index-preserved
loop-index-preserved g c = elim c.match-row.branch [
  | in-Some w ↦
      let inv = c.loop-index.invariant in
      let value : Candidate = record { start = w.nanos.result; client = w.in-Some.row.client; kind = w.in-Some.row.kind; table = c.args.table } in
      let is : value ≡ candidate_of (found_in c.args.table w.in-Some.row) = ap (λ (s : ℕ). record value { start = s }) w.nanos.ensures.value in
      let room : vec_len c.loop-index.list < vec_capacity c.loop-index.list = omega (arith, inv.len, inv.capacity, c.requires.room, c.count-index-end.ensures.count, c.loop-index-test.true) in
      let pushed : is_ok w.push.result ≡ true = w.push.ensures.succeeds room in
      let items_are : w.push.new.self.items ≡ c.loop-index.list.items ++ value ∷ [] = w.push.ensures.items ∙ ap (λ b. cond b (c.loop-index.list.items ++ value ∷ []) c.loop-index.list.items) pushed in
      rw w.list-is (record {
        items = items_are ∙ ap (λ v. c.loop-index.list.items ++ v ∷ []) is ∙ ap (λ l. l ++ candidate_of (found_in c.args.table w.in-Some.row) ∷ []) inv.items
            ∙ listed_next c.args.table c.args.shard.now.rows c.loop-index.index w.in-Some.row c.args.list.now.items (sym c.row.ensures ∙ w.in-Some.is);
        len = w.push.ensures.len ∙ ap (λ b. cond b (vec_len c.loop-index.list + 1) (vec_len c.loop-index.list)) pushed ∙ (omega (arith, inv.len));
        capacity = omega (arith, inv.capacity, w.push.ensures.capacity);
      })
  | in_default w ↦ absurd (got_within c.args.shard.now.rows c.loop-index.index (omega (arith, c.count-index-end.ensures.count, c.loop-index-test.true)) (sym c.row.ensures ∙ w.in_default.is))
]
