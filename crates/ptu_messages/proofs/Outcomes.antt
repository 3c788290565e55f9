-- What an answer says where it is what reading finds, or want of memory.
use Rattle.std.proofs.Common.{◌≡◌, ◌⊎◌, inl, inr, ℕ, List, Result, Ok, Err, sym, ap, ◌∙◌}
use Rattle.std.specs.Prelude.{IfOk, IfErr}
use Rattle.ptu_messages.specs.declared.message.Message.{Message}
use Rattle.ptu_messages.specs.declared.fault.MessageFault.{MessageFault}
use Rattle.ptu_messages.specs.declared.fault.MessageFault.TheVariants.{OutOfMemory}
use Rattle.ptu_messages.specs.{Message.{SpellsMessage}, MessageFault.{HasMessageFault}}
use Rattle.ptu_messages.specs.{Outcome.{Gives}, Reading.{message_in}}
use Rattle.ptu_messages.proofs.Readings.{found_is, refused_is, message_in-spelled, message_in-faulty}

abbrev Answer : Type 0
Answer = Result Message MessageFault

abbrev found : Message → Answer
found message = Ok message

abbrev refused : MessageFault → Answer
refused fault = Err fault

abbrev IsAnswer : List ℕ → Answer → Type 0
IsAnswer octets r = Gives (λ message. message) r (message_in octets)

pub is_spelled : (octets : List ℕ) (r : Answer) → IsAnswer octets r → IfOk r (λ message. SpellsMessage octets message)
is_spelled octets (Ok message) g = found_is octets message g
is_spelled octets (Err fault) g = tt

pub is_faulty : (octets : List ℕ) (r : Answer) → IsAnswer octets r → IfErr r (λ f. (f ≡ OutOfMemory) ⊎ HasMessageFault octets f)
is_faulty octets (Ok message) g = tt
is_faulty octets (Err fault) (inl e) = inl e
is_faulty octets (Err fault) (inr e) = inr (refused_is octets fault e)

pub is_value : (octets : List ℕ) (r : Answer) → IsAnswer octets r → (r ≡ message_in octets) ⊎ (r ≡ Err OutOfMemory)
is_value octets (Ok message) g = inl (sym g)
is_value octets (Err fault) (inl e) = inr (ap refused e)
is_value octets (Err fault) (inr e) = inl (sym e)

pub is_read : (octets : List ℕ) (r : Answer) → IsAnswer octets r → (m : Message) → SpellsMessage octets m → (r ≡ Ok m) ⊎ (r ≡ Err OutOfMemory)
is_read octets r g m h =
    elim (is_value octets r g) [
      | inl e ↦ inl (e ∙ message_in-spelled octets m h)
      | inr e ↦ inr e
    ]

pub is_refused : (octets : List ℕ) (r : Answer) → IsAnswer octets r → (f : MessageFault) → HasMessageFault octets f → (r ≡ Err f) ⊎ (r ≡ Err OutOfMemory)
is_refused octets r g f h =
    elim (is_value octets r g) [
      | inl e ↦ inl (e ∙ message_in-faulty octets f h)
      | inr e ↦ inr e
    ]
