-- What stands behind the number of a line, read by its form.
use Rattle.std.proofs.Common.{◌≡◌, ◌∙◌, ℕ, ◌<◌, Bool, true, false, ◌||◌, if◌then◌else◌, List, [], ◌∷◌, length, get_or, codes, Option, Some, None, ℤ, lit<, refl, sym}
use Rattle.std.specs.List.{list_any}
use Rattle.std.proofs.lemmas.List.Folds.{list_any_at}
use Rattle.ptu_units.specs.declared.kind.Kind.{Kind}
use Rattle.ptu_lines.specs.Words.{ip_of, words_of}
use Rattle.ptu_audit_lines.specs.declared.entry.Entry.{Entry}
use Rattle.ptu_audit_lines.specs.declared.entry.Entry.TheVariants as entries
use Rattle.ptu_audit_lines.specs.declared.entry.ReportLine.TheVariants as reports
use Rattle.ptu_audit_lines.specs.Words.{any_number, field, hex_of, identity_in_word, is_channel, kind_named, log_of_kind, octet_log}
use Rattle.ptu_audit_lines.specs.Forms.{fits, fits_one, fitting, is_in_place}
use Rattle.ptu_audit_lines.specs.Entry.{answer_forms, body_forms, cancel_forms, capacity_in, datagram_forms, decision_in, end_in, entry_of, first_of, grant_forms, header_forms, heard_forms, ignored_forms, is_among, line_of, node_forms, numbered_in, other_in, plain_entry_in, send_in, shed_in, slave_forms}
use Rattle.ptu_audit_lines.specs.declared.entry.Decision.{Decision}
use Rattle.ptu_read_back.proofs.Forms.{IsNumbered, not_end, other_form, unfit}
use Rattle.ptu_read_back.proofs.Decisions.{IsNoDecision, decided, not_decided}

no_capacity : (line : List ℕ) → fits (codes "NUM capacity IP NUM at NUM") line ≡ false → capacity_in line ≡ None
unfolding capacity_in
no_capacity line e = rw (unfit (codes "NUM capacity IP NUM at NUM") line e) refl

no_shed : (line : List ℕ) → fits (codes "NUM shed KIND LOG IP WORD") line ≡ false → shed_in line ≡ None
unfolding shed_in
no_shed line e = rw (unfit (codes "NUM shed KIND LOG IP WORD") line e) refl

no_send : (line : List ℕ) → fits (codes "NUM send NUM IP IP CHANNEL WORD") line ≡ false → send_in line ≡ None
unfolding send_in
no_send line e = rw (unfit (codes "NUM send NUM IP IP CHANNEL WORD") line e) refl

not_capacity : (line : List ℕ) (n : ℕ) (tag : List ℕ) (rest : List (List ℕ)) → IsNumbered line n tag rest → is_in_place (codes "capacity") tag ≡ false → capacity_in line ≡ None
not_capacity line n tag rest h differs = no_capacity line (other_form (codes "NUM capacity IP NUM at NUM") line n tag (codes "capacity") rest (codes "IP" ∷ codes "NUM" ∷ codes "at" ∷ codes "NUM" ∷ []) h refl differs)

not_shed : (line : List ℕ) (n : ℕ) (tag : List ℕ) (rest : List (List ℕ)) → IsNumbered line n tag rest → is_in_place (codes "shed") tag ≡ false → shed_in line ≡ None
not_shed line n tag rest h differs = no_shed line (other_form (codes "NUM shed KIND LOG IP WORD") line n tag (codes "shed") rest (codes "KIND" ∷ codes "LOG" ∷ codes "IP" ∷ codes "WORD" ∷ []) h refl differs)

not_send : (line : List ℕ) (n : ℕ) (tag : List ℕ) (rest : List (List ℕ)) → IsNumbered line n tag rest → is_in_place (codes "send") tag ≡ false → send_in line ≡ None
not_send line n tag rest h differs = no_send line (other_form (codes "NUM send NUM IP IP CHANNEL WORD") line n tag (codes "send") rest (codes "NUM" ∷ codes "IP" ∷ codes "IP" ∷ codes "CHANNEL" ∷ codes "WORD" ∷ []) h refl differs)

-- ---- a line with a number

numbered_here : (line : List ℕ) (n : ℕ) (tag : List ℕ) (rest : List (List ℕ)) (entry : Entry) → IsNumbered line n tag rest → entry_of line ≡ Some entry
    → numbered_in line ≡ Some (reports.At n entry)
unfolding numbered_in field
numbered_here line n tag rest entry h e = rw (h.words, h.read, e) refl

pub numbered : (line : List ℕ) (n : ℕ) (tag : List ℕ) (rest : List (List ℕ)) (entry : Entry) → IsNumbered line n tag rest → entry_of line ≡ Some entry
    → line_of line ≡ Some (reports.At n entry)
unfolding line_of
numbered line n tag rest entry h e = rw (numbered_here line n tag rest entry h e) refl

-- a decision
pub decision_entry : (line : List ℕ) (n : ℕ) (tag : List ℕ) (rest : List (List ℕ)) (decision : Decision) → IsNumbered line n tag rest
    → is_in_place (codes "send") tag ≡ false → decision_in line ≡ Some decision → entry_of line ≡ Some (entries.Decided decision)
unfolding entry_of plain_entry_in
decision_entry line n tag rest decision h differs e = rw (not_send line n tag rest h differs, decided line decision e) refl

-- ---- each form

capacity_here : (line w i c a : List ℕ) (n grandmaster capacity at : ℕ)
    → words_of line ≡ w ∷ codes "capacity" ∷ i ∷ c ∷ codes "at" ∷ a ∷ [] → any_number w ≡ Some n
    → ip_of i ≡ Some grandmaster → any_number c ≡ Some capacity → any_number a ≡ Some at
    → capacity_in line ≡ Some (entries.Capacity grandmaster capacity at)
unfolding capacity_in fitting fits is_in_place field
capacity_here line w i c a n grandmaster capacity at ws rw_ ri rc ra = rw (ws, rw_, ri, rc, ra) refl

pub capacity_entry : (line w i c a : List ℕ) (n grandmaster capacity at : ℕ)
    → words_of line ≡ w ∷ codes "capacity" ∷ i ∷ c ∷ codes "at" ∷ a ∷ [] → any_number w ≡ Some n
    → ip_of i ≡ Some grandmaster → any_number c ≡ Some capacity → any_number a ≡ Some at
    → entry_of line ≡ Some (entries.Capacity grandmaster capacity at)
unfolding entry_of plain_entry_in is_in_place
capacity_entry line w i c a n grandmaster capacity at ws rw_ ri rc ra =
    let h : IsNumbered line n (codes "capacity") (i ∷ c ∷ codes "at" ∷ a ∷ []) = record { number = w; words = ws; read = rw_ } in
    let differs : IsNoDecision (codes "capacity") = record { granted = refl; short = refl; outside = refl; cancelled = refl; nothing = refl } in
    rw (not_send line n _ _ h refl, not_decided line n _ _ h differs, (capacity_here line w i c a n grandmaster capacity at ws rw_ ri rc ra)) refl

shed_here : (line w k l i d : List ℕ) (n : ℕ) (kind : Kind) (z : ℤ) (ip clock port : ℕ)
    → words_of line ≡ w ∷ codes "shed" ∷ k ∷ l ∷ i ∷ d ∷ [] → any_number w ≡ Some n
    → kind_named k ≡ Some kind → octet_log l ≡ Some z → log_of_kind kind l ≡ Some z → ip_of i ≡ Some ip → identity_in_word d ≡ Some (clock, port)
    → shed_in line ≡ Some (entries.Shed kind z (record { ip = ip; clock = clock; port = port }))
unfolding shed_in fitting fits is_in_place field
shed_here line w k l i d n kind z ip clock port ws rw_ rk ro rl ri rd = rw (ws, rw_, rk, ro, ri) (rw (rl, rd) refl)

pub shed_entry : (line w k l i d : List ℕ) (n : ℕ) (kind : Kind) (z : ℤ) (ip clock port : ℕ)
    → words_of line ≡ w ∷ codes "shed" ∷ k ∷ l ∷ i ∷ d ∷ [] → any_number w ≡ Some n
    → kind_named k ≡ Some kind → octet_log l ≡ Some z → log_of_kind kind l ≡ Some z → ip_of i ≡ Some ip → identity_in_word d ≡ Some (clock, port)
    → entry_of line ≡ Some (entries.Shed kind z (record { ip = ip; clock = clock; port = port }))
unfolding entry_of plain_entry_in is_in_place
shed_entry line w k l i d n kind z ip clock port ws rw_ rk ro rl ri rd =
    let h : IsNumbered line n (codes "shed") (k ∷ l ∷ i ∷ d ∷ []) = record { number = w; words = ws; read = rw_ } in
    let differs : IsNoDecision (codes "shed") = record { granted = refl; short = refl; outside = refl; cancelled = refl; nothing = refl } in
    rw (not_send line n _ _ h refl, not_decided line n _ _ h differs, not_capacity line n _ _ h refl, (shed_here line w k l i d n kind z ip clock port ws rw_ rk ro rl ri rd)) refl

send_here : (line w d f t c o : List ℕ) (n number from to : ℕ) (octets : List ℕ)
    → words_of line ≡ w ∷ codes "send" ∷ d ∷ f ∷ t ∷ c ∷ o ∷ [] → any_number w ≡ Some n
    → any_number d ≡ Some number → ip_of f ≡ Some from → ip_of t ≡ Some to → is_channel c ≡ true → hex_of o ≡ Some octets
    → send_in line ≡ Some (entries.Send number from to octets)
unfolding send_in fitting fits is_in_place field
send_here line w d f t c o n number from to octets ws rw_ rd rf rt rc ro = rw (ws, rw_, rd, rf, rt, rc) (rw ro refl)

pub send_entry : (line w d f t c o : List ℕ) (n number from to : ℕ) (octets : List ℕ)
    → words_of line ≡ w ∷ codes "send" ∷ d ∷ f ∷ t ∷ c ∷ o ∷ [] → any_number w ≡ Some n
    → any_number d ≡ Some number → ip_of f ≡ Some from → ip_of t ≡ Some to → is_channel c ≡ true → hex_of o ≡ Some octets
    → entry_of line ≡ Some (entries.Send number from to octets)
unfolding entry_of
send_entry line w d f t c o n number from to octets ws rw_ rd rf rt rc ro = rw (send_here line w d f t c o n number from to octets ws rw_ rd rf rt rc ro) refl

-- ---- lines that say nothing of a grandmaster

-- the word is none that what is told of a grandmaster begins with
pub record IsOfNode (tag : List ℕ) : Type 0 where
  pub send : is_in_place (codes "send") tag ≡ false
  pub decision : IsNoDecision tag
  pub capacity : is_in_place (codes "capacity") tag ≡ false
  pub shed : is_in_place (codes "shed") tag ≡ false

-- the words that what is told of a grandmaster begins with
abbrev node_words : List (List ℕ)
node_words = codes "send" ∷ codes "granted" ∷ codes "short" ∷ codes "outside" ∷ codes "cancelled" ∷ codes "nothing" ∷ codes "capacity" ∷ codes "shed" ∷ []

-- the word is one of them
abbrev pub is_of_node : List ℕ → Bool
is_of_node tag = list_any (λ word. is_in_place word tag) node_words

none_there : {A : Type 0} (p : A → Bool) (xs : List A) (i : ℕ) (d : A) → i < length xs → list_any p xs ≡ false → p (get_or xs i d) ≡ false
none_there p xs i d h e = go (p (get_or xs i d)) refl
  where
    go : (b : Bool) → p (get_or xs i d) ≡ b → b ≡ false
    go false is = refl
    go true is = absurd (let never : true ≡ false = sym (list_any_at p xs i d h is) ∙ e in cc)

-- a word that is none of them
pub of_other : (tag : List ℕ) → is_of_node tag ≡ false → IsOfNode tag
of_other tag e =
    let none : (i : ℕ) → i < 8 → is_in_place (get_or node_words i []) tag ≡ false = λ i h. none_there (λ word. is_in_place word tag) node_words i [] h e in
    record {
      send = none 0 (lit< tt);
      decision = record { granted = none 1 (lit< tt); short = none 2 (lit< tt); outside = none 3 (lit< tt); cancelled = none 4 (lit< tt); nothing = none 5 (lit< tt) };
      capacity = none 6 (lit< tt);
      shed = none 7 (lit< tt);
    }

by_other : (line : List ℕ) (n : ℕ) (tag : List ℕ) (rest : List (List ℕ)) (o : Option Entry) → IsNumbered line n tag rest → IsOfNode tag → other_in line ≡ o
    → entry_of line ≡ first_of (o ∷ [])
unfolding entry_of plain_entry_in
by_other line n tag rest o h differs e = rw (not_send line n tag rest h differs.send, not_decided line n tag rest h differs.decision, not_capacity line n tag rest h differs.capacity, not_shed line n tag rest h differs.shed, e) (once o)
  where
    once : (o : Option Entry) → first_of (first_of (o ∷ []) ∷ []) ≡ first_of (o ∷ [])
    once None = refl
    once (Some entry) = refl

slave_here : (line : List ℕ) (n : ℕ) (tag : List ℕ) (rest : List (List ℕ)) → IsNumbered line n tag rest → IsOfNode tag → is_among slave_forms line ≡ true
    → other_in line ≡ Some entries.Other
unfolding other_in
slave_here line n tag rest h differs e = rw e refl

pub slave_entry : (line : List ℕ) (n : ℕ) (tag : List ℕ) (rest : List (List ℕ)) → IsNumbered line n tag rest → IsOfNode tag → is_among slave_forms line ≡ true
    → entry_of line ≡ Some entries.Other
slave_entry line n tag rest h differs e = by_other line n tag rest (Some entries.Other) h differs (slave_here line n tag rest h differs e)

either : (b : Bool) → (if b || true then Some entries.Other else None) ≡ Some entries.Other
either true = refl
either false = refl

datagram_here : (line : List ℕ) (n : ℕ) (tag : List ℕ) (rest : List (List ℕ)) → IsNumbered line n tag rest → IsOfNode tag → is_among datagram_forms line ≡ true
    → other_in line ≡ Some entries.Other
unfolding other_in
datagram_here line n tag rest h differs e = rw e (either (is_among slave_forms line))

pub datagram_entry : (line : List ℕ) (n : ℕ) (tag : List ℕ) (rest : List (List ℕ)) → IsNumbered line n tag rest → IsOfNode tag → is_among datagram_forms line ≡ true
    → entry_of line ≡ Some entries.Other
datagram_entry line n tag rest h differs e = by_other line n tag rest (Some entries.Other) h differs (datagram_here line n tag rest h differs e)

-- ---- the refusal of a script's line has no form

bad_is_other : is_of_node (codes "bad") ≡ false
unfolding is_in_place
bad_is_other = refl

-- none of these is the form of the line
abbrev AreUnfit : List (List ℕ) → List ℕ → Type 0
AreUnfit [] line = Unit {0}
AreUnfit (form ∷ forms) line = (fits form line ≡ false) × AreUnfit forms line

none_fits : (forms : List (List ℕ)) (line : List ℕ) → AreUnfit forms line → fits_one forms line ≡ false
none_fits [] line h = refl
none_fits (form ∷ forms) line h = rw h.0 (none_fits forms line h.1)

-- the second word of the form is not `bad`
bad_no_form : (form line : List ℕ) (n : ℕ) (name : List ℕ) (rest places : List (List ℕ)) → IsNumbered line n (codes "bad") rest
    → words_of form ≡ codes "NUM" ∷ name ∷ places → is_in_place name (codes "bad") ≡ false → fits form line ≡ false
bad_no_form form line n name rest places h e differs = other_form form line n (codes "bad") name rest places h e differs

bad_no_node : (line : List ℕ) (n : ℕ) (rest : List (List ℕ)) → IsNumbered line n (codes "bad") rest → fits_one node_forms line ≡ false
unfolding is_in_place
bad_no_node line n rest h = none_fits node_forms line (
  bad_no_form (codes "NUM selected IP IP") line n (codes "selected") rest (codes "IP" ∷ codes "IP" ∷ []) h refl refl,
  (
    bad_no_form (codes "NUM selected IP none") line n (codes "selected") rest (codes "IP" ∷ codes "none" ∷ []) h refl refl,
    (bad_no_form (codes "NUM nobody") line n (codes "nobody") rest [] h refl refl, tt),
  ),
)

bad_no_heard : (line : List ℕ) (n : ℕ) (rest : List (List ℕ)) → IsNumbered line n (codes "bad") rest → fits_one heard_forms line ≡ false
unfolding is_in_place
bad_no_heard line n rest h = none_fits heard_forms line (
  bad_no_form (codes "NUM heard sync IP seq NUM at NUM") line n (codes "heard") rest (codes "sync" ∷ codes "IP" ∷ codes "seq" ∷ codes "NUM" ∷ codes "at" ∷ codes "NUM" ∷ []) h refl refl,
  (
    bad_no_form (codes "NUM heard announce IP class NUM at NUM") line n (codes "heard") rest (codes "announce" ∷ codes "IP" ∷ codes "class" ∷ codes "NUM" ∷ codes "at" ∷ codes "NUM" ∷ []) h refl refl,
    (
      bad_no_form (codes "NUM heard delay_resp IP seq NUM at NUM") line n (codes "heard") rest (codes "delay_resp" ∷ codes "IP" ∷ codes "seq" ∷ codes "NUM" ∷ codes "at" ∷ codes "NUM" ∷ []) h refl refl,
      (bad_no_form (codes "NUM heard follow_up IP at NUM") line n (codes "heard") rest (codes "follow_up" ∷ codes "IP" ∷ codes "at" ∷ codes "NUM" ∷ []) h refl refl, tt),
    ),
  ),
)

bad_no_grant : (line : List ℕ) (n : ℕ) (rest : List (List ℕ)) → IsNumbered line n (codes "bad") rest → fits_one grant_forms line ≡ false
unfolding is_in_place
bad_no_grant line n rest h = none_fits grant_forms line (
  bad_no_form (codes "NUM grant KIND NUM") line n (codes "grant") rest (codes "KIND" ∷ codes "NUM" ∷ []) h refl refl,
  (bad_no_form (codes "NUM denial KIND") line n (codes "denial") rest (codes "KIND" ∷ []) h refl refl, tt),
)

bad_no_cancel : (line : List ℕ) (n : ℕ) (rest : List (List ℕ)) → IsNumbered line n (codes "bad") rest → fits_one cancel_forms line ≡ false
unfolding is_in_place
bad_no_cancel line n rest h = none_fits cancel_forms line (
  bad_no_form (codes "NUM cancel KIND") line n (codes "cancel") rest (codes "KIND" ∷ []) h refl refl,
  (
    bad_no_form (codes "NUM cancel NUM") line n (codes "cancel") rest (codes "NUM" ∷ []) h refl refl,
    (
      bad_no_form (codes "NUM ack KIND") line n (codes "ack") rest (codes "KIND" ∷ []) h refl refl,
      (bad_no_form (codes "NUM ack NUM") line n (codes "ack") rest (codes "NUM" ∷ []) h refl refl, tt),
    ),
  ),
)

bad_no_answer : (line : List ℕ) (n : ℕ) (rest : List (List ℕ)) → IsNumbered line n (codes "bad") rest → fits_one answer_forms line ≡ false
unfolding is_in_place
bad_no_answer line n rest h = none_fits answer_forms line (
  bad_no_form (codes "NUM answered at NUM") line n (codes "answered") rest (codes "at" ∷ codes "NUM" ∷ []) h refl refl,
  (
    bad_no_form (codes "NUM silent nogrant at NUM") line n (codes "silent") rest (codes "nogrant" ∷ codes "at" ∷ codes "NUM" ∷ []) h refl refl,
    (bad_no_form (codes "NUM silent soon at NUM earliest NUM") line n (codes "silent") rest (codes "soon" ∷ codes "at" ∷ codes "NUM" ∷ codes "earliest" ∷ codes "NUM" ∷ []) h refl refl, tt),
  ),
)

bad_no_ignored : (line : List ℕ) (n : ℕ) (rest : List (List ℕ)) → IsNumbered line n (codes "bad") rest → fits_one ignored_forms line ≡ false
unfolding is_in_place
bad_no_ignored line n rest h = none_fits ignored_forms line (
  bad_no_form (codes "NUM ignored type NUM") line n (codes "ignored") rest (codes "type" ∷ codes "NUM" ∷ []) h refl refl,
  (
    bad_no_form (codes "NUM ignored other NUM") line n (codes "ignored") rest (codes "other" ∷ codes "NUM" ∷ []) h refl refl,
    (
      bad_no_form (codes "NUM ignored stranger") line n (codes "ignored") rest (codes "stranger" ∷ []) h refl refl,
      (
        bad_no_form (codes "NUM ignored domain NUM") line n (codes "ignored") rest (codes "domain" ∷ codes "NUM" ∷ []) h refl refl,
        (bad_no_form (codes "NUM ignored target") line n (codes "ignored") rest (codes "target" ∷ []) h refl refl, tt),
      ),
    ),
  ),
)

bad_no_header : (line : List ℕ) (n : ℕ) (rest : List (List ℕ)) → IsNumbered line n (codes "bad") rest → fits_one header_forms line ≡ false
unfolding is_in_place
bad_no_header line n rest h = none_fits header_forms line (
  bad_no_form (codes "NUM ignored fault short NUM") line n (codes "ignored") rest (codes "fault" ∷ codes "short" ∷ codes "NUM" ∷ []) h refl refl,
  (
    bad_no_form (codes "NUM ignored fault version NUM") line n (codes "ignored") rest (codes "fault" ∷ codes "version" ∷ codes "NUM" ∷ []) h refl refl,
    (
      bad_no_form (codes "NUM ignored fault sdo NUM") line n (codes "ignored") rest (codes "fault" ∷ codes "sdo" ∷ codes "NUM" ∷ []) h refl refl,
      (bad_no_form (codes "NUM ignored fault length NUM NUM") line n (codes "ignored") rest (codes "fault" ∷ codes "length" ∷ codes "NUM" ∷ codes "NUM" ∷ []) h refl refl, tt),
    ),
  ),
)

bad_no_body : (line : List ℕ) (n : ℕ) (rest : List (List ℕ)) → IsNumbered line n (codes "bad") rest → fits_one body_forms line ≡ false
unfolding is_in_place
bad_no_body line n rest h = none_fits body_forms line (
  bad_no_form (codes "NUM ignored fault body NUM NUM") line n (codes "ignored") rest (codes "fault" ∷ codes "body" ∷ codes "NUM" ∷ codes "NUM" ∷ []) h refl refl,
  (
    bad_no_form (codes "NUM ignored fault toomany NUM") line n (codes "ignored") rest (codes "fault" ∷ codes "toomany" ∷ codes "NUM" ∷ []) h refl refl,
    (
      bad_no_form (codes "NUM ignored fault tlv NUM short NUM") line n (codes "ignored") rest (codes "fault" ∷ codes "tlv" ∷ codes "NUM" ∷ codes "short" ∷ codes "NUM" ∷ []) h refl refl,
      (
        bad_no_form (codes "NUM ignored fault tlv NUM overrun NUM NUM") line n (codes "ignored") rest (codes "fault" ∷ codes "tlv" ∷ codes "NUM" ∷ codes "overrun" ∷ codes "NUM" ∷ codes "NUM" ∷ []) h refl refl,
        (bad_no_form (codes "NUM ignored fault tlv NUM length NUM NUM") line n (codes "ignored") rest (codes "fault" ∷ codes "tlv" ∷ codes "NUM" ∷ codes "length" ∷ codes "NUM" ∷ codes "NUM" ∷ []) h refl refl, tt),
      ),
    ),
  ),
)

bad_no_slave : (line : List ℕ) (n : ℕ) (rest : List (List ℕ)) → IsNumbered line n (codes "bad") rest
    → is_among slave_forms line ≡ false
bad_no_slave line n rest h = rw (bad_no_node line n rest h, bad_no_heard line n rest h, bad_no_grant line n rest h, bad_no_cancel line n rest h) refl

bad_no_datagram : (line : List ℕ) (n : ℕ) (rest : List (List ℕ)) → IsNumbered line n (codes "bad") rest
    → is_among datagram_forms line ≡ false
bad_no_datagram line n rest h = rw (bad_no_answer line n rest h, bad_no_ignored line n rest h, bad_no_header line n rest h, bad_no_body line n rest h) refl

bad_no_other : (line : List ℕ) (n : ℕ) (rest : List (List ℕ)) → IsNumbered line n (codes "bad") rest
    → other_in line ≡ None
unfolding other_in
bad_no_other line n rest h = rw ((bad_no_slave line n rest h), (bad_no_datagram line n rest h)) refl

bad_no_number : (line : List ℕ) (n : ℕ) (rest : List (List ℕ)) → IsNumbered line n (codes "bad") rest
    → numbered_in line ≡ None
unfolding numbered_in field
bad_no_number line n rest h = rw (h.words, h.read, by_other line n (codes "bad") rest None h (of_other (codes "bad") bad_is_other) (bad_no_other line n rest h)) refl

bad_end_fits : (line : List ℕ) (n : ℕ) (rest : List (List ℕ)) → IsNumbered line n (codes "bad") rest
    → fits (codes "end NUM NUM") line ≡ false
unfolding fits is_in_place
bad_end_fits line n rest h = rw (h.words, not_end h.number n h.read) refl

bad_no_end : (line : List ℕ) (n : ℕ) (rest : List (List ℕ)) → IsNumbered line n (codes "bad") rest
    → end_in line ≡ None
unfolding end_in
bad_no_end line n rest h = rw (unfit (codes "end NUM NUM") line (bad_end_fits line n rest h)) refl

pub bad_line : (line : List ℕ) (n : ℕ) (rest : List (List ℕ)) → IsNumbered line n (codes "bad") rest → line_of line ≡ None
unfolding line_of
bad_line line n rest h = rw ((bad_no_number line n rest h), (bad_no_end line n rest h)) refl

-- ---- the last line

end_no_name : (line c d : List ℕ) (count datagrams : ℕ) → words_of line ≡ codes "end" ∷ c ∷ d ∷ [] → any_number c ≡ Some count → any_number d ≡ Some datagrams
    → any_number (codes "end") ≡ None
unfolding any_number
end_no_name line c d count datagrams ws rc rd = refl

end_no_number : (line c d : List ℕ) (count datagrams : ℕ) → words_of line ≡ codes "end" ∷ c ∷ d ∷ [] → any_number c ≡ Some count → any_number d ≡ Some datagrams
    → numbered_in line ≡ None
unfolding numbered_in field
end_no_number line c d count datagrams ws rc rd = rw (ws, (end_no_name line c d count datagrams ws rc rd)) refl

end_here : (line c d : List ℕ) (count datagrams : ℕ) → words_of line ≡ codes "end" ∷ c ∷ d ∷ [] → any_number c ≡ Some count → any_number d ≡ Some datagrams
    → end_in line ≡ Some (reports.End count datagrams)
unfolding end_in fitting fits is_in_place field
end_here line c d count datagrams ws rc rd = rw (ws, rc, rd) refl

pub end_line : (line c d : List ℕ) (count datagrams : ℕ) → words_of line ≡ codes "end" ∷ c ∷ d ∷ [] → any_number c ≡ Some count → any_number d ≡ Some datagrams
    → line_of line ≡ Some (reports.End count datagrams)
unfolding line_of
end_line line c d count datagrams ws rc rd = rw ((end_no_number line c d count datagrams ws rc rd), (end_here line c d count datagrams ws rc rd)) refl
