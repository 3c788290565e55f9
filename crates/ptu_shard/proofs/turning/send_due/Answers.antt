use Rattle.std.proofs.{Common.{◌∙◌, sym, arith, refl}, lemmas.List.{length-map}}
use Rattle.ptu_shard.specs.Fields.{row_of, rows_of}
use Rattle.ptu_shard.proofs.Dues.{spent_nothing}
use Rattle.ptu_shard.proofs.SoFar.{sent_more, sent_none, sent_whole, sent_within}
use Rattle.ptu_shard.proofs.turning.send_due.Goals as goal

pub loop-row-init : goal.loop-row-init
loop-row-init g c =
    rw (c.none-sends.ensures) (record {
      sends = sent_none g.P.Port c.args.config.now c.args.at (rows_of c.args.rows.now.entries) c.args.port.now;
      spent = refl;
      edges = c.requires.edges;
      spare = refl;
      capacity = omega arith;
    })

pub and-sends-requires : goal.and-sends-requires
and-sends-requires g c =
    let more = sent_more g.P.Port c.args.config.now c.args.at (rows_of c.args.rows.now.entries) (rows_of c.loop-row.rows.entries) (rows_of c.next_due.new.rows.entries) c.args.port.now c.loop-row.port
    c.send_message.new.port c.loop-row.sends.sent c.loop-row.sends.failed _ _ c.in-Some.row c.loop-row.invariant.sends c.in-Some.ensures.due c.send_message.ensures in
    let within = sent_within g.P.Port c.args.config.now c.args.at (rows_of c.args.rows.now.entries) (rows_of c.next_due.new.rows.entries) c.args.port.now c.send_message.new.port _ _ more in
    let rows = length-map c.args.rows.now.entries row_of in
    let count = c.len-count.ensures in
    record { sent = rw (c.of.ensures) (omega (arith, within, rows, count.len, count.small)); failed = rw (c.of.ensures) (omega (arith, within, rows, count.len, count.small)) }

pub loop-row-preserved : goal.loop-row-preserved
loop-row-preserved g c =
    let inv = c.loop-row.invariant in
    rw (c.and-sends.ensures, c.of.ensures) (record {
      sends = sent_more g.P.Port c.args.config.now c.args.at (rows_of c.args.rows.now.entries) (rows_of c.loop-row.rows.entries) (rows_of c.next_due.new.rows.entries) c.args.port.now c.loop-row.port
          c.send_message.new.port c.loop-row.sends.sent c.loop-row.sends.failed _ _ c.in-Some.row inv.sends c.in-Some.ensures.due c.send_message.ensures;
      spent = c.in-Some.ensures.spent ∙ inv.spent;
      edges = c.in-Some.ensures.edges;
      spare = c.in-Some.ensures.spare ∙ inv.spare;
      capacity = omega (arith, c.in-Some.ensures.capacity, inv.capacity);
    })

pub returns-clause-sends : goal.returns-clause-sends
returns-clause-sends g c =
    sent_whole g.P.Port c.args.config.now c.args.at (rows_of c.args.rows.now.entries) (rows_of c.loop-row.rows.entries) c.args.port.now c.loop-row.port c.loop-row.sends.sent c.loop-row.sends.failed c.loop-row.invariant.sends
    c.in_default.ensures.none

pub returns-clause-rows : goal.returns-clause-rows
returns-clause-rows g c =
    c.in_default.ensures.same ∙ sym (spent_nothing c.args.at (rows_of c.loop-row.rows.entries) c.in_default.ensures.none) ∙ c.loop-row.invariant.spent
