use Rattle.std.proofs.Common.{◌≡◌, ◌+◌, ◌<◌, ◌++◌, [], ◌∷◌, List, cond, take, true, vec_len, sym, ap, subst, ◌∙◌, arith}
use Rattle.std.specs.Prelude.{is_ok, vec_capacity}
use Rattle.std.proofs.lemmas.List.{take_more}
use Rattle.ptu_gm_messages.specs.declared.item.Item.{Item}
use Rattle.ptu_grandmaster.proofs.Progress.{Progress, length-front, none_yet, one_more}
use Rattle.ptu_grandmaster.proofs.gm.Gm.decide_items.Goals as goal

pub loop-item-init : goal.loop-item-init
loop-item-init g c = record {
  progress = rw c.requires.empty (none_yet c.args.t c.args.client.now c.args.self.now);
  many = c.requires.none;
  room = c.requires.list;
}

pub decide_item-outcome-requires : goal.decide_item-outcome-requires
decide_item-outcome-requires g c =
    let spare = c.loop-item.invariant.progress.spare in
    let room = c.requires.room in
    omega (arith, length-front c.loop-item.item-index c.args.items.now, c.loop-item-test.true)

pub loop-item-preserved : goal.loop-item-preserved
loop-item-preserved g c =
    let inv = c.loop-item.invariant in
    let i = c.loop-item.item-index in
    let room : vec_len c.loop-item.outcomes < vec_capacity c.loop-item.outcomes = let a = inv.many in let b = inv.room in omega (arith, c.loop-item-test.true) in
    let ok : is_ok c.push.result ≡ true = c.push.ensures.succeeds room in
    let items : c.push.new.self.items ≡ c.loop-item.outcomes.items ++ c.decide_item-outcome.result ∷ [] =
    c.push.ensures.items ∙ ap (λ b. cond b (c.loop-item.outcomes.items ++ c.decide_item-outcome.result ∷ []) c.loop-item.outcomes.items) ok in
    let many : vec_len c.push.new.self ≡ vec_len c.loop-item.outcomes + 1 = c.push.ensures.len ∙ ap (λ b. cond b (vec_len c.loop-item.outcomes + 1) (vec_len c.loop-item.outcomes)) ok in
    let IsDone : List Item → Type 0 = λ done. Progress c.args.t c.args.client.now done c.args.self.now c.decide_item-outcome.new.self (c.loop-item.outcomes.items ++ c.decide_item-outcome.result ∷ []) in
    record {
      progress = rw items (subst IsDone (sym (take_more c.args.items.now i _ c.loop-item-test.true))
          (one_more c.args.t c.args.client.now (take i c.args.items.now) _ c.args.self.now c.loop-item.self c.decide_item-outcome.new.self c.loop-item.outcomes.items c.decide_item-outcome.result
          inv.progress c.decide_item-outcome.ensures.item c.decide_item-outcome.ensures.decided c.decide_item-outcome.ensures.keeps));
      many = many ∙ ap (λ n. n + 1) inv.many;
      room = let a = c.push.ensures.capacity in let b = inv.room in omega arith;
    }
