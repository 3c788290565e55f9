use Rattle.std.proofs.{Common.{◌∙◌, arith, ◌*◌, map}, lemmas.List.{map-append}}
use Rattle.std.proofs.lemmas.Result.{err_from_is_err_and}
use Rattle.ptu_show.specs.Generated.{turn_text}
use Rattle.ptu_show.proofs.Writing.{wrote_more, wrote_part}
use Rattle.ptu_show.proofs.generating.put_turns_at.Goals as goal

pub loop-table-preserved : goal.loop-table-preserved
loop-table-preserved g c =
    let text = turn_text (c.args.second * 1000000000) in
    record {
      put = wrote_more g.K.Sink.written g.K.Sink.handed (map text) (map-append text) c.args.sink.now c.loop-table.sink c.put_line.new.sink 0 c.loop-table.table c.loop-table.table (omega arith)
          c.loop-table.invariant.put c.in_ok-put_line.ensures.whole;
      still = c.in_ok-put_line.ensures.counts ∙ c.loop-table.invariant.still;
    }

pub returns-in_err-put_line-clause-part : goal.returns-in_err-put_line-clause-part
returns-in_err-put_line-clause-part g c =
    let text = turn_text (c.args.second * 1000000000) in
    let p = err_from_is_err_and c.from_residual.result c.from_residual.ensures.1 in
    rw p.1 (wrote_part g.K.Sink.written g.K.Sink.handed (map text) (map-append text) c.args.sink.now c.loop-table.sink c.put_line.new.sink 0 4 c.loop-table.table c.loop-table.table (omega arith)
    c.loop-table-test.true c.loop-table.invariant.put c.in_err-put_line.ensures.part)
