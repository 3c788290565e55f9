-- What is known of a Sync in one step and in two, and of the two datagrams that one is sent as.
use Rattle.std.proofs.Common.{◌≡◌, ◌≢◌, ℕ, ◌+◌, ◌-◌, ◌*◌, ◌/◌, ◌%◌, ◌<◌, ◌≤◌, Bool, true, false, cond, eqb, List, length, get_or, set, Result, Ok, Err, refl, sym, ap, subst, ◌∙◌, arith}
use Rattle.std.proofs.lemmas.Bool.{eq-eqb, ne_eqb, eqb-true, eqb-false}
use Rattle.std.proofs.lemmas.List.{length-set, get_or-set_same, get_or-set_other, set-set, set-get_or}
use Rattle.ptu_units.specs.Number.{number_at, high_nibble_at, low_nibble_at}
use Rattle.ptu_outside.specs.declared.channel.Channel.{Channel}
use Rattle.ptu_outside.specs.declared.channel.Channel.TheVariants.{Event, General}
use Rattle.ptu_messages.specs.declared.{header.Header.{Header}, header_fault.HeaderFault.{HeaderFault}}
use Rattle.ptu_messages.specs.{Header.{BeginsMessage, SpellsHeader, header_at}, HeaderReading.{header_in}}
use Rattle.ptu_messages.proofs.HeaderReadings.{found_is, header_in-spelled}
use Rattle.ptu_daemon.specs.declared.step.Step.{Step}
use Rattle.ptu_daemon.specs.declared.step.Step.TheVariants.{OneStepSync, TwoStepSync, FollowUp, Other}
use Rattle.ptu_daemon.specs.Pairs.{flagged, unflagged, follow_up_octets}
use Rattle.ptu_daemon.specs.Steps.{has_two_steps, step_by, step_read, step_of}

-- a Sync, in two steps or in one
pub record IsSync (two : Bool) (channel : Channel) (octets : List ℕ) : Type 0 where
  pub event : channel ≡ Event
  pub long : length octets ≡ 44
  pub message : BeginsMessage octets 44
  pub sync : low_nibble_at octets 0 ≡ 0
  pub flag : has_two_steps octets ≡ two

abbrev sync_step : Bool → Step
sync_step true = TwoStepSync
sync_step false = OneStepSync

-- ---- what is a Sync

by_flag : (two b : Bool) → cond b TwoStepSync OneStepSync ≡ sync_step two → b ≡ two
by_flag true true e = refl
by_flag true false e = absurd cc
by_flag false true e = absurd cc
by_flag false false e = refl

by_type : (two b c : Bool) → cond b (cond c TwoStepSync OneStepSync) Other ≡ sync_step two → (b ≡ true) × (c ≡ two)
by_type two true c e = (refl, by_flag two c e)
by_type true false c e = absurd cc
by_type false false c e = absurd cc

by_other_type : (two b : Bool) → cond b FollowUp Other ≡ sync_step two → ⊥
by_other_type true true e = cc
by_other_type true false e = cc
by_other_type false true e = cc
by_other_type false false e = cc

by_header : (two : Bool) (channel : Channel) (octets : List ℕ) (h : Header) → step_by channel octets h ≡ sync_step two
    → (channel ≡ Event) × (h.message_type ≡ 0) × (has_two_steps octets ≡ two)
by_header two Event octets h e =
    let both = by_type two (eqb h.message_type 0) (has_two_steps octets) e in
    (refl, eqb-true h.message_type 0 both.0, both.1)
by_header two General octets h e = absurd (by_other_type two (eqb h.message_type 8) e)

by_length : (two b : Bool) (step : Step) → cond b step Other ≡ sync_step two → (b ≡ true) × (step ≡ sync_step two)
by_length two true step e = (refl, e)
by_length true false step e = absurd cc
by_length false false step e = absurd cc

by_reading : (two : Bool) (channel : Channel) (octets : List ℕ) → length octets ≡ 44 → (r : Result (Header × ℕ) HeaderFault) → header_in octets ≡ r
    → step_read channel octets r ≡ sync_step two → IsSync two channel octets
by_reading true channel octets long (Err fault) is e = absurd cc
by_reading false channel octets long (Err fault) is e = absurd cc
by_reading two channel octets long (Ok read) is e =
    let both = by_length two (eqb read.1 44) (step_by channel octets read.0) e in
    let n-is = eqb-true read.1 44 both.0 in
    let parts = by_header two channel octets read.0 both.1 in
    let spelled = found_is octets read.0 read.1 is in
    record {
      event = parts.0;
      long = long;
      message = subst (BeginsMessage octets) n-is spelled.message;
      sync = sym (ap (λ (h : Header). h.message_type) spelled.fields) ∙ parts.1;
      flag = parts.2;
    }

pub sync_is : (two : Bool) (channel : Channel) (octets : List ℕ) → step_of channel octets ≡ sync_step two → IsSync two channel octets
unfolding step_of
sync_is two channel octets e =
    let both = by_length two (eqb (length octets) 44) (step_read channel octets (header_in octets)) e in
    by_reading two channel octets (eqb-true (length octets) 44 both.0) (header_in octets) refl both.1

-- ---- what is a Follow_Up

event_by : (b c : Bool) → cond b (cond c TwoStepSync OneStepSync) Other ≡ FollowUp → ⊥
event_by true true e = cc
event_by true false e = cc
event_by false c e = cc

general_by : (channel : Channel) (octets : List ℕ) (h : Header) → step_by channel octets h ≡ FollowUp → channel ≡ General
general_by Event octets h e = absurd (event_by (eqb h.message_type 0) (has_two_steps octets) e)
general_by General octets h e = refl

general_cond : (b : Bool) (step : Step) → cond b step Other ≡ FollowUp → step ≡ FollowUp
general_cond true step e = e
general_cond false step e = absurd cc

general_read : (channel : Channel) (octets : List ℕ) (r : Result (Header × ℕ) HeaderFault) → step_read channel octets r ≡ FollowUp → channel ≡ General
general_read channel octets (Err fault) e = absurd cc
general_read channel octets (Ok read) e = general_by channel octets read.0 (general_cond (eqb read.1 44) (step_by channel octets read.0) e)

-- it goes by the general channel
pub follow_up_general : (channel : Channel) (octets : List ℕ) → step_of channel octets ≡ FollowUp → channel ≡ General
unfolding step_of
follow_up_general channel octets e =
    general_read channel octets (header_in octets) (general_cond (eqb (length octets) 44) (step_read channel octets (header_in octets)) e)

-- ---- octets of a Sync with an octet changed

apart : (octets : List ℕ) (i j v : ℕ) → j ≢ i → get_or (set octets i v) j 0 ≡ get_or octets j 0
apart octets i j v h = get_or-set_other octets i j v 0 h

-- an octet behind the first four is no part of what begins a message
begins_behind : (octets : List ℕ) (n i v : ℕ) → 4 ≤ i → BeginsMessage octets n → BeginsMessage (set octets i v) n
begins_behind octets n i v behind m = record {
  long = rw (length-set octets i v) m.long;
  version = rw (apart octets i 1 v (omega arith)) m.version;
  sdo = rw (apart octets i 0 v (omega arith)) m.sdo;
  message_length = rw (apart octets i 2 v (omega arith), apart octets i 3 v (omega arith)) m.message_length;
  least = m.least;
  greatest = rw (length-set octets i v) m.greatest;
}

-- nor is the lower half of the first octet
begins_lower : (octets : List ℕ) (n v : ℕ) → v / 16 ≡ 0 → BeginsMessage octets n → BeginsMessage (set octets 0 v) n
begins_lower octets n v high m = record {
  long = rw (length-set octets 0 v) m.long;
  version = ap (λ (x : ℕ). x % 16) (apart octets 0 1 v (omega arith)) ∙ m.version;
  sdo = let some : 0 < length octets = omega (arith, m.long) in rw (get_or-set_same octets 0 v 0 some) high;
  message_length = rw (apart octets 0 2 v (omega arith), apart octets 0 3 v (omega arith)) m.message_length;
  least = m.least;
  greatest = rw (length-set octets 0 v) m.greatest;
}

-- what octets with this header are
step_headed : (channel : Channel) (octets : List ℕ) → length octets ≡ 44 → BeginsMessage octets 44 → step_of channel octets ≡ step_by channel octets (header_at octets)
unfolding step_of
step_headed channel octets long m =
    let spelled : SpellsHeader octets (header_at octets) 44 = record { message = m; fields = refl } in
    rw (eq-eqb (length octets) 44 long, header_in-spelled octets (header_at octets) 44 spelled) refl

-- a Sync with another first octet of its flagField
reflagged : (two other : Bool) (channel : Channel) (octets : List ℕ) (v : ℕ) → IsSync two channel octets → eqb (v / 2 % 2) 1 ≡ other
    → step_of channel (set octets 6 v) ≡ sync_step other
reflagged two other Event octets v s is =
    let six : 6 < length octets = omega (arith, s.long) in
    let long : length (set octets 6 v) ≡ 44 = length-set octets 6 v ∙ s.long in
    let type : low_nibble_at (set octets 6 v) 0 ≡ 0 = rw (apart octets 6 0 v (omega arith)) s.sync in
    let flag : has_two_steps (set octets 6 v) ≡ other = ap (λ (x : ℕ). eqb (x / 2 % 2) 1) (get_or-set_same octets 6 v 0 six) ∙ is in
    step_headed Event (set octets 6 v) long (begins_behind octets 44 6 v (omega arith) s.message)
    ∙ rw (eq-eqb (low_nibble_at (set octets 6 v) 0) 0 type, flag) (last other)
  where
    last : (b : Bool) → cond b TwoStepSync OneStepSync ≡ sync_step b
    last true = refl
    last false = refl
reflagged two other General octets v s is = let e = s.event in absurd cc

-- ---- the two datagrams that one in one step is sent as, and the way back

pub flagged_is : (channel : Channel) (octets : List ℕ) → IsSync false channel octets → step_of channel (flagged octets) ≡ TwoStepSync
flagged_is channel octets s =
    let a = get_or octets 6 0 in
    let even : a / 2 % 2 ≢ 1 = eqb-false (a / 2 % 2) 1 s.flag in
    reflagged false true channel octets (a + 2) s (eq-eqb ((a + 2) / 2 % 2) 1 (omega (arith, even)))

pub unflagged_is : (channel : Channel) (octets : List ℕ) → IsSync true channel octets → step_of channel (unflagged octets) ≡ OneStepSync
unflagged_is channel octets s =
    let a = get_or octets 6 0 in
    let odd : a / 2 % 2 ≡ 1 = eqb-true (a / 2 % 2) 1 s.flag in
    reflagged true false channel octets (a - 2) s (ne_eqb ((a - 2) / 2 % 2) 1 (omega (arith, odd)))

pub unflagged-flagged : {channel : Channel} (octets : List ℕ) → IsSync false channel octets → unflagged (flagged octets) ≡ octets
unflagged-flagged octets s =
    let six : 6 < length octets = omega (arith, s.long) in
    let two : get_or octets 6 0 + 2 - 2 ≡ get_or octets 6 0 = omega arith in
    rw (get_or-set_same octets 6 (get_or octets 6 0 + 2) 0 six, set-set octets 6 (get_or octets 6 0 + 2) (get_or octets 6 0 + 2 - 2), two) (set-get_or octets 6 0)

pub flagged-unflagged : {channel : Channel} (octets : List ℕ) → IsSync true channel octets → flagged (unflagged octets) ≡ octets
flagged-unflagged octets s =
    let six : 6 < length octets = omega (arith, s.long) in
    let odd : get_or octets 6 0 / 2 % 2 ≡ 1 = eqb-true (get_or octets 6 0 / 2 % 2) 1 s.flag in
    let two : get_or octets 6 0 - 2 + 2 ≡ get_or octets 6 0 = omega (arith, odd) in
    rw (get_or-set_same octets 6 (get_or octets 6 0 - 2) 0 six, set-set octets 6 (get_or octets 6 0 - 2) (get_or octets 6 0 - 2 + 2), two) (set-get_or octets 6 0)

pub follow_up_is : {channel : Channel} (octets : List ℕ) → IsSync false channel octets → step_of General (follow_up_octets octets) ≡ FollowUp
follow_up_is octets s =
    let first = 16 * high_nibble_at octets 0 + 8 in
    let first_is : first ≡ 8 = omega (arith, s.message.sdo) in
    let long : length (follow_up_octets octets) ≡ 44 = length-set (set octets 0 first) 32 2 ∙ (length-set octets 0 first ∙ s.long) in
    let some : 0 < length octets = omega (arith, s.long) in
    let type : low_nibble_at (follow_up_octets octets) 0 ≡ 8 = rw (apart (set octets 0 first) 32 0 2 (omega arith), get_or-set_same octets 0 first 0 some, first_is) refl in
    step_headed General (follow_up_octets octets) long (begins_behind (set octets 0 first) 44 32 2 (omega arith) (begins_lower octets 44 first (rw first_is refl) s.message))
    ∙ rw (eq-eqb (low_nibble_at (follow_up_octets octets) 0) 8 type) refl

-- there is room for the flag in an octet
pub flag_fits : {channel : Channel} (octets : List ℕ) → IsSync false channel octets → get_or octets 6 0 < 256 → get_or octets 6 0 + 2 < 256
flag_fits octets s first =
    let even : get_or octets 6 0 / 2 % 2 ≢ 1 = eqb-false (get_or octets 6 0 / 2 % 2) 1 s.flag in
    omega (arith, even)
