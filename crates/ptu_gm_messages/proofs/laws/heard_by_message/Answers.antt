use Rattle.ptu_messages.proofs.Readings.{message_in-spelled, message_in-faulty}
use Rattle.ptu_gm_messages.proofs.Hearing.{items_in-message, items_in-fault, heard_in-message, heard_in-fault}
use Rattle.ptu_gm_messages.proofs.laws.heard_by_message.Goals as goal

pub returns-clause-items : goal.returns-clause-items
returns-clause-items c = λ config octets m h. items_in-message config octets m (message_in-spelled octets m h)

pub returns-clause-heard : goal.returns-clause-heard
returns-clause-heard c = λ config octets m h. heard_in-message config octets m (message_in-spelled octets m h)

pub returns-clause-fault : goal.returns-clause-fault
returns-clause-fault c = λ config octets f h.
    (items_in-fault config octets f (message_in-faulty octets f h), heard_in-fault config octets f (message_in-faulty octets f h))
