use Rattle.std.proofs.Common.{◌≡◌, List, sym, subst, ◌∙◌, ap, map, take, [], arith}
use Rattle.std.proofs.Math.Seq.{take-length}
use Rattle.ptu_record.specs.SignalFails.{Timeouts}
use Rattle.ptu_select.specs.{declared.master.WatchedMaster.{WatchedMaster}, Selecting.{SelectsBy}}
use Rattle.ptu_select.proofs.Masters.{fresh_masters}
use Rattle.ptu_select.proofs.selector.Selector.new.Goals as goal

pub returns-clause-empty : goal.returns-clause-empty
returns-clause-empty c =
    let timeouts : Timeouts = record { announce = c.args.ta; sync = c.args.ts; delay = c.args.td; wait = c.args.wait } in
    let whole : take c.loop-priority.priority-index c.args.priorities.now ≡ c.args.priorities.now =
    ap (λ n. take n c.args.priorities.now) (omega arith) ∙ take-length c.args.priorities.now in
    subst (λ (masters : List WatchedMaster). SelectsBy masters timeouts c.args.priorities.now [])
    (sym (c.loop-priority.invariant ∙ ap (map (λ priority. record { watch = c.new-watch.result; priority = priority })) whole))
    (fresh_masters c.new-watch.result timeouts c.args.priorities.now c.new-watch.ensures)
