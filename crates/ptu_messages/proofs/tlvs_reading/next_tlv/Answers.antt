use Rattle.std.proofs.{Common.{sym}, lemmas.Result.{err_from_is_err_and}}
use Rattle.ptu_messages.specs.{Tlv.{BeginsWithTlv}, TlvFault.{HasTlvFault}}
use Rattle.ptu_messages.proofs.TlvsReadings.{tlv_in-spelled, tlv_in-faulty, fault_of_first}
use Rattle.ptu_messages.proofs.tlvs_reading.next_tlv.Goals as goal

pub returns-in_err-octets-clause-value : goal.returns-in_err-octets-clause-value
returns-in_err-octets-clause-value c =
    let p = err_from_is_err_and c.from_residual.result c.from_residual.ensures.1 in
    rw (p.1, p.2) (sym (tlv_in-faulty c.args.bytes.now c.in_err-octets.field-0.0 c.in_err-octets.ensures))

pub returns-in_err-tlv-clause-value : goal.returns-in_err-tlv-clause-value
returns-in_err-tlv-clause-value c =
    let p = err_from_is_err_and c.from_residual-in_err-tlv.result c.from_residual-in_err-tlv.ensures.1 in
    let fault : HasTlvFault c.args.bytes.now c.in_err-tlv.field-0.0 = fault_of_first c.args.bytes.now _ c.in_err-tlv.field-0.0 c.in_ok-octets.ensures c.in_err-tlv.ensures in
    rw (p.1, p.2) (sym (tlv_in-faulty c.args.bytes.now c.in_err-tlv.field-0.0 fault))

pub returns-clause-value : goal.returns-clause-value
returns-clause-value c =
    let f = c.in_ok-octets.ensures in
    let begins : BeginsWithTlv c.args.bytes.now c.in_ok-tlv.tlv _ = record { within = f.within; spelled = rw (← f.taken) c.in_ok-tlv.ensures } in
    sym (tlv_in-spelled c.args.bytes.now c.in_ok-tlv.tlv _ begins)
