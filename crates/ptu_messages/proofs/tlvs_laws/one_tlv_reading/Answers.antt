use Rattle.ptu_messages.proofs.TlvsReadings.{one_or_other, never_both, one_tlv}
use Rattle.ptu_messages.proofs.tlvs_laws.one_tlv_reading.Goals as goal

pub returns-clause-one_or_other : goal.returns-clause-one_or_other
returns-clause-one_or_other c = one_or_other

pub returns-clause-never_both : goal.returns-clause-never_both
returns-clause-never_both c = never_both

pub returns-clause-one_tlv : goal.returns-clause-one_tlv
returns-clause-one_tlv c = one_tlv
