use Rattle.std.proofs.Common.{◌≡◌, ◌≤◌, length, take, vec_len}
use Rattle.std.specs.Prelude.{vec_capacity}
use Rattle.ptu_grandmaster.proofs.Progress.{Progress}
use Rattle.ptu_grandmaster.proofs.gm.Gm.decide_items.Given as goal

abbrev pub invariant-loop-item : goal.invariant-loop-item
invariant-loop-item g l = record {
  progress : Progress l.t l.client (take l.item-index l.items) l.initial.self l.self l.outcomes.items;
  many : vec_len l.outcomes ≡ l.item-index;
  room : length l.items ≤ vec_capacity l.outcomes;
}
