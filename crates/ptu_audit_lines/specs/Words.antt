-- The words of a report's line, each in the form that its place asks for.
use Rattle.std.specs.Prelude.{ℕ, ◌-◌, ◌^◌, ℤ, pos, negsuc, nat_le, Bool, not, ◌&&◌, ◌||◌, ◌==◌, if◌then◌else◌, List, take, drop, slice_index, Option, Some, None, option_and_then, codes}
use Rattle.std.specs.{Option.{is_some}, List.{list_all}, Str.{bytes_eq}}
use Rattle.ptu_units.specs.declared.kind.Kind.{Kind}
use Rattle.ptu_units.specs.declared.kind.Kind.TheVariants as kinds
use Rattle.ptu_units.specs.Log.{least_log}
use Rattle.ptu_lines.specs.Words.{word_of, number_within, log_within, clock_of, octets_of}

infixl 10 ◌>>=◌
abbrev pub ◌>>=◌ : {A B : Type 0} → Option A → (A → Option B) → Option B
(Some x) >>= f = f x
None >>= f = None

-- what the word with this number, from 1, is in the form
unfoldable pub field : {A : Type 0} → ℕ → (List ℕ → Option A) → List ℕ → Option A
field k form line = option_and_then form (word_of line k)

-- the word is this text
unfoldable pub is_text : List ℕ → List ℕ → Option (Unit {0})
is_text text word = if bytes_eq word text then Some tt else None

-- the line has no word with this number
unfoldable pub no_word : ℕ → List ℕ → Option (Unit {0})
no_word k line = if is_some (word_of line k) then None else Some tt

-- NUM: any number of at most 19 digits
unfoldable pub any_number : List ℕ → Option ℕ
any_number word = number_within word 0 (2 ^ 64 - 1)

-- the first word of the line is a number
abbrev pub is_numbered : List ℕ → Bool
is_numbered line = is_some (field 1 any_number line)

-- KIND
unfoldable pub kind_named : List ℕ → Option Kind
kind_named word =
    if bytes_eq word (codes "announce") then Some kinds.Announce
    else if bytes_eq word (codes "sync") then Some kinds.Sync
    else if bytes_eq word (codes "delay_resp") then Some kinds.DelayResp
    else None

-- CHANNEL
unfoldable pub is_channel : List ℕ → Bool
is_channel word = bytes_eq word (codes "event") || bytes_eq word (codes "general")

-- that it is
unfoldable pub channel_of : List ℕ → Option (Unit {0})
channel_of word = if is_channel word then Some tt else None

-- LOG, a signed octet
unfoldable pub octet_log : List ℕ → Option ℤ
octet_log word = log_within word (negsuc 127) (pos 127)

-- LOG in the range of a kind
unfoldable pub log_of_kind : Kind → List ℕ → Option ℤ
log_of_kind kind word = log_within word (least_log kind) (pos 4)

-- LOG, a signed octet outside the range of a kind
unfoldable pub log_outside : Kind → List ℕ → Option ℤ
log_outside kind word = if is_some (log_of_kind kind word) then None else octet_log word

-- no letter in upper case
abbrev pub is_lower : List ℕ → Bool
is_lower word = list_all (λ octet. not (nat_le 65 octet && nat_le octet 90)) word

-- HEX in lower case
unfoldable pub hex_of : List ℕ → Option (List ℕ)
hex_of word = if is_lower word then octets_of word else None

-- CLOCK in lower case
unfoldable pub lower_clock : List ℕ → Option ℕ
lower_clock word = if is_lower word then clock_of word else None

-- 16 hexadecimal digits in lower case, one octet more, and a number from 0 to 65535
abbrev pub identity_parts : List ℕ → Option (ℕ × ℕ)
identity_parts word = do
  clock ← lower_clock (take 16 word)
  port ← number_within (drop 17 word) 0 65535
  Some (clock, port)

-- CLOCK/PORT in one word
unfoldable pub identity_in_word : List ℕ → Option (ℕ × ℕ)
identity_in_word word = if slice_index word 16 == 47 then identity_parts word else None
