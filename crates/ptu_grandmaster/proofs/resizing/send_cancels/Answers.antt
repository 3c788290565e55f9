use Rattle.std.proofs.Common.{◌≡◌, ◌+◌, ◌++◌, ◌∷◌, [], length, length-take, take, sym, ap, ◌∙◌, arith}
use Rattle.std.proofs.lemmas.List.{take_all, take_more}
use Rattle.ptu_outside.specs.HandsOver.{failed_in, sent_in}
use Rattle.ptu_grandmaster.proofs.Cancelling.{cancels_many, cancels_more, no_cancels}
use Rattle.ptu_grandmaster.proofs.resizing.send_cancels.Goals as goal

pub loop-grant-init : goal.loop-grant-init
loop-grant-init g c = rw (c.none-sends.ensures) (no_cancels g.P.Port c.args.config.now c.args.first c.args.port.now c.ranges.first.fits)

pub and-sends-requires : goal.and-sends-requires
and-sends-requires g c =
    let i = c.loop-grant.grant-index in
    let many = cancels_many g.P.Port c.args.config.now c.args.first (take i c.args.shed.now) _ _ _ _ _ c.loop-grant.invariant in
    let one : sent_in c.send_cancel.result + failed_in c.send_cancel.result ≡ 1 = c.send_cancel.ensures.each in
    record { sent = rw (c.of.ensures) (omega (arith, many, one, length-take i c.args.shed.now)); failed = rw (c.of.ensures) (omega (arith, many, one, length-take i c.args.shed.now)) }

pub loop-grant-preserved : goal.loop-grant-preserved
loop-grant-preserved g c =
    let i = c.loop-grant.grant-index in
    let grant = c.grant-item.result in
    let more : take (i + 1) c.args.shed.now ≡ take i c.args.shed.now ++ grant ∷ [] =
    take_more c.args.shed.now i grant c.loop-grant-test.true ∙ ap (λ y. take i c.args.shed.now ++ y ∷ []) (sym c.grant-item.is) in
    rw (c.and-sends.ensures, c.of.ensures, more)
    (cancels_more g.P.Port c.args.config.now c.args.first (take i c.args.shed.now) grant _ _ _ _ _ _ _ _ c.loop-grant.invariant c.send_cancel.ensures)

pub returns-clause-sends : goal.returns-clause-sends
returns-clause-sends g c =
    let whole = take_all c.loop-grant.grant-index c.args.shed.now c.loop-grant-test.false in rw whole at c.loop-grant.invariant.sends

pub returns-clause-count : goal.returns-clause-count
returns-clause-count g c =
    let whole = take_all c.loop-grant.grant-index c.args.shed.now c.loop-grant-test.false in
    cancels_many g.P.Port c.args.config.now c.args.first (take c.loop-grant.grant-index c.args.shed.now) _ _ _ _ _ c.loop-grant.invariant ∙ ap length whole
