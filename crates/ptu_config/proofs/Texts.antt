-- The document of octets that are text, and of octets that are not.
use Rattle.std.proofs.Common.{◌≡◌, ℕ, List, None, inl, inr}
use Rattle.std.specs.{Prelude.{IsUtf8}, Str.{is_utf8}}
use Rattle.std.proofs.lemmas.{Bool.{cases_Bool}, Str.{IsUtf8-from_is_utf8, is_utf8-from_IsUtf8}}
use Rattle.toml.specs.Parse.{parse_document}
use Rattle.ptu_config.specs.Documents.{document_of}

pub document_of-text : (octets : List ℕ) →
    IsUtf8 octets → document_of octets ≡ parse_document octets
document_of-text octets text = rw (is_utf8-from_IsUtf8 octets text)

pub document_of-other : (octets : List ℕ) → (IsUtf8 octets → ⊥) → document_of octets ≡ None
document_of-other octets other =
    elim (cases_Bool (is_utf8 octets)) [
      | inl text ↦ absurd (other (IsUtf8-from_is_utf8 octets text))
      | inr another ↦ rw another
    ]
