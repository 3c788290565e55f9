use Rattle.std.proofs.{Common.{w8, sym, ◌∙◌}, Math.Facts.{Fits-lt-pow}}
use Rattle.ptu_gm_messages.proofs.Hearing.{IsFoundAnswerable, answer_answerable, answer_found, answer_memory, answerable_heard, heard_in-fault, heard_in-message, no_memory}
use Rattle.ptu_gm_messages.proofs.listening.hear_in.Goals as goal

pub returns-in-Ok-clause-heard : goal.returns-in-Ok-clause-heard
returns-in-Ok-clause-heard c =
    answer_found c.hear_message-heard.result (heard_in-message c.args.config.now c.args.bytes.now c.in-Ok.message (sym c.in_ok-message.ensures.value ∙ c.in-Ok.is)) c.hear_message-heard.ensures.value

pub returns-in-Ok-clause-answerable : goal.returns-in-Ok-clause-answerable
returns-in-Ok-clause-answerable c =
    answer_answerable IsFoundAnswerable c.hear_message-heard.result
    (answerable_heard c.args.config.now c.args.bytes.now c.in-Ok.message (λ i. Fits-lt-pow {w = w8} (c.type_inv.bytes i)) (sym c.in_ok-message.ensures.value ∙ c.in-Ok.is)) c.hear_message-heard.ensures.value

pub returns-in-Ok-clause-memory : goal.returns-in-Ok-clause-memory
returns-in-Ok-clause-memory c =
    answer_memory c.args.bytes.now c.in-Ok.message c.hear_message-heard.result (sym c.in_ok-message.ensures.value ∙ c.in-Ok.is) c.hear_message-heard.ensures.memory

pub returns-in-Err-clause-heard : goal.returns-in-Err-clause-heard
returns-in-Err-clause-heard c =
    sym (heard_in-fault c.args.config.now c.args.bytes.now c.in-Err.fault (sym c.in_ok-message.ensures.value ∙ c.in-Err.is))

pub returns-in-Err-clause-no_memory : goal.returns-in-Err-clause-no_memory
returns-in-Err-clause-no_memory c = no_memory c.args.bytes.now c.in-Err.fault (sym c.in_ok-message.ensures.value ∙ c.in-Err.is)
