use Rattle.std.proofs.{Common.{w8, sym, ◌∙◌}, Math.Facts.{Fits-lt-pow}}
use Rattle.ptu_gm_messages.proofs.Hearing.{AreFoundAnswerable, answer_answerable, answer_found, answer_memory, answerable_items, items_in-fault, items_in-message, no_memory}
use Rattle.ptu_gm_messages.proofs.listening.asks_of.Goals as goal

pub returns-in-Ok-clause-items : goal.returns-in-Ok-clause-items
returns-in-Ok-clause-items c =
    answer_found c.items_of.result (items_in-message c.args.config.now c.args.bytes.now c.in-Ok.message (sym c.in_ok-message.ensures.value ∙ c.in-Ok.is)) c.items_of.ensures.value

pub returns-in-Ok-clause-answerable : goal.returns-in-Ok-clause-answerable
returns-in-Ok-clause-answerable c =
    answer_answerable AreFoundAnswerable c.items_of.result
    (answerable_items c.args.config.now c.args.bytes.now c.in-Ok.message (λ i. Fits-lt-pow {w = w8} (c.type_inv.bytes i)) (sym c.in_ok-message.ensures.value ∙ c.in-Ok.is)) c.items_of.ensures.value

pub returns-in-Ok-clause-memory : goal.returns-in-Ok-clause-memory
returns-in-Ok-clause-memory c =
    answer_memory c.args.bytes.now c.in-Ok.message c.items_of.result (sym c.in_ok-message.ensures.value ∙ c.in-Ok.is) c.items_of.ensures.memory

pub returns-clause-items : goal.returns-clause-items
returns-clause-items c =
    sym (items_in-fault c.args.config.now c.args.bytes.now c.in-Err.fault (sym c.in_ok-message.ensures.value ∙ c.in-Err.is))

pub returns-clause-no_memory : goal.returns-clause-no_memory
returns-clause-no_memory c = no_memory c.args.bytes.now c.in-Err.fault (sym c.in_ok-message.ensures.value ∙ c.in-Err.is)
