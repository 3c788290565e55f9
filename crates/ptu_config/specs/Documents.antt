-- Which octets are settings, and why others are not.
use Rattle.std.specs.Prelude.{◌≡◌, ◌⊎◌, ℕ, Bool, nat_lt, Result, MatchResult, if◌then◌else◌, List, length, bytes_eq, find, Option, Some, None, option_map, is_none}
use Rattle.std.specs.{List.{AllByRecursion, list_any}, Str.{is_utf8}}
use Rattle.toml.specs.{Data.{Members}, Parse.{parse_document}}
use Rattle.ptu_config.specs.declared.{key.Key.{Key}, fault.SettingFault.{SettingFault}}
use Rattle.ptu_config.specs.declared.fault.SettingFault.TheVariants.{Size, Text, Unknown, Bad, OutOfMemory}
use Rattle.ptu_config.specs.{Key.{name_of}, Forms.{has_only}, Rules.{Value, setting_of}}

-- the table that octets are, where they are UTF-8 and a TOML document
abbrev pub document_of : List ℕ → Option Members
document_of octets = if is_utf8 octets then parse_document octets else None

-- the name is that of one of these settings
abbrev pub is_name_of : List Key → List ℕ → Bool
is_name_of keys name = list_any (λ key. bytes_eq name (name_of key)) keys

-- the first of these settings that is required and not there, of another type or out of range
abbrev pub first_bad : List Key → Members → Option Key
first_bad keys document = find (λ key. is_none (setting_of document key)) keys

-- the first cause to refuse a table that may have these settings and no others
abbrev pub table_refusal : List Key → Members → Option SettingFault
table_refusal keys document =
    if has_only (is_name_of keys) document then option_map Bad (first_bad keys document)
    else Some Unknown

abbrev pub text_refusal : List Key → Option Members → Option SettingFault
text_refusal keys None = Some Text
text_refusal keys (Some document) = table_refusal keys document

-- the first cause to refuse octets that are to be these settings: there are more than 65536 of
-- them, they are no document, it has another key, or one of the settings is bad
abbrev pub refusal_of : List Key → List ℕ → Option SettingFault
refusal_of keys octets =
    if nat_lt 65536 (length octets) then Some Size else text_refusal keys (document_of octets)

-- the document says just this of each of these settings
abbrev pub Says : Members → List (Key × Value) → Type 0
Says document entries = AllByRecursion (λ entry. setting_of document entry.0 ≡ Some entry.1) entries

-- the octets are a document that says just this of each of these settings
abbrev pub Reads : List ℕ → List (Key × Value) → Type 0
Reads octets entries =
    (document : Members) × (document_of octets ≡ Some document) × Says document entries

-- the answer is what the document says of a setting, a value standing for what `stands` gives, or
-- refuses the setting
abbrev pub IsSaid : {A : Type 0} → Members → Key → (A → Value) → Result A SettingFault → Type 0
IsSaid document key stands result = MatchResult result
    (λ x. setting_of document key ≡ Some (stands x))
    (λ fault. (fault ≡ Bad key) × (setting_of document key ≡ None))

-- the fault is the first cause to refuse the octets, or no memory was found
abbrev pub Refuses : List Key → List ℕ → SettingFault → Type 0
Refuses keys octets fault = (fault ≡ OutOfMemory) ⊎ (refusal_of keys octets ≡ Some fault)
