use Rattle.std.proofs.lemmas.Result.{err_from_is_err_and}
use Rattle.ptu_messages.proofs.Readings.{no_tlvs, some_tlvs}
use Rattle.ptu_messages.proofs.reading.read_body.Goals as goal

pub returns-in_err-tlvs-in-12-clause-value : goal.returns-in_err-tlvs-in-12-clause-value
returns-in_err-tlvs-in-12-clause-value c =
    let p = err_from_is_err_and c.from_residual.result c.from_residual.ensures.1 in
    rw (p.1, p.2) (no_tlvs c.args.bytes.now c.args.said c.args.message_type _ c.in-12.is c.in_err-tlvs-in-12.ensures)

pub returns-in_ok-tlvs-in-12-clause-value : goal.returns-in_ok-tlvs-in-12-clause-value
returns-in_ok-tlvs-in-12-clause-value c =
    rw c.new-in-12.ensures (some_tlvs c.args.bytes.now c.args.said c.args.message_type c.at-in-12.result c.in_ok-tlvs-in-12.tlvs.items c.in-12.is c.at-in-12.ensures c.in_ok-tlvs-in-12.ensures)
