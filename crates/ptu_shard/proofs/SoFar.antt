-- The loop of a turn: what was sent so far, followed by what is still due, is all that is due.
use Rattle.std.proofs.Common.{◌≡◌, ◌∙◌, ℕ, ◌+◌, ◌≤◌, ◌++◌, List, [], ◌∷◌, length, Bool, true, false, cond, refl, sym, ap, subst, map, arith, append_assoc, length-append}
use Rattle.std.specs.List.{filter}
use Rattle.std.proofs.lemmas.List.{append-nil, length-map, map-append}
use Rattle.std.proofs.lemmas.{List.Sorted.{length_permutation}, Simd.{map-map}}
use Rattle.ptu_history.proofs.Order.{IsPermutation-in_order}
use Rattle.ptu_outside.specs.{declared.port.Port.{Ghosts as Ports}, Departure.{Departure}}
use Rattle.ptu_outside.specs.HandsOver.{HandsOver}
use Rattle.ptu_outside.proofs.HandsOver.{hands-append, hands_none}
use Rattle.ptu_profile.specs.declared.grandmaster.GmConfig.{GmConfig}
use Rattle.ptu_shard.specs.{declared.lease.Row.{Row}, Messages.{departure_of}}
use Rattle.ptu_shard.specs.Turn.{due_messages, due_rows, is_due_row, message_of_row, row_cmp}

-- the datagram of a row
abbrev pub datagram : GmConfig → ℕ → Row → Departure
datagram config x row = departure_of config x (message_of_row row)

pub record HasSent {P : Type 0} (ports : Ports P) (config : GmConfig) (x : ℕ) (before now : List Row) (old new : P) (sent failed : ℕ) : Type 0 where
  pub done : List Row
  pub so_far : due_rows x before ≡ done ++ due_rows x now
  pub sends : HandsOver ports old new (map (datagram config x) done) sent failed

pub length-filter-le : {A : Type 0} (p : A → Bool) (xs : List A) → length (filter p xs) ≤ length xs
length-filter-le p [] = omega arith
length-filter-le p (x ∷ xs) = at (p x) (length-filter-le p xs)
  where
    at : (b : Bool) → length (filter p xs) ≤ length xs → length (cond b (x ∷ filter p xs) (filter p xs)) ≤ length (x ∷ xs)
    at true ih = omega arith
    at false ih = omega arith

module _ {P : Type 0} (ports : Ports P) (config : GmConfig) (x : ℕ) where
  pub sent_none : (rows : List Row) (port : P) → HasSent ports config x rows rows port port 0 0
  sent_none rows port = record { done = []; so_far = refl; sends = hands_none ports port }

  -- one message more
  pub sent_more : (before now next : List Row) (old port new : P) (sent failed more worse : ℕ) (r : Row) → HasSent ports config x before now old port sent failed
      → due_rows x now ≡ r ∷ due_rows x next → HandsOver ports port new (datagram config x r ∷ []) more worse
      → HasSent ports config x before next old new (sent + more) (failed + worse)
  sent_more before now next old port new sent failed more worse r h first one = record {
    done = h.done ++ r ∷ [];
    so_far = h.so_far ∙ ap (λ l. h.done ++ l) first ∙ sym (append_assoc h.done (r ∷ []) (due_rows x next));
    sends = subst (λ ds. HandsOver ports old new ds (sent + more) (failed + worse)) (sym (map-append (datagram config x) h.done (r ∷ [])))
        (hands-append ports old port new (map (datagram config x) h.done) (datagram config x r ∷ []) sent failed more worse h.sends one);
  }

  -- no more than there are rows
  pub sent_within : (before now : List Row) (old new : P) (sent failed : ℕ) → HasSent ports config x before now old new sent failed → sent + failed ≤ length before
  sent_within before now old new sent failed h =
      let all : length (due_rows x before) ≡ length (filter (is_due_row x) before) = length_permutation (filter (is_due_row x) before) (due_rows x before) (IsPermutation-in_order row_cmp (filter (is_due_row x) before)) in
      let part : length (due_rows x before) ≡ length h.done + length (due_rows x now) = ap length h.so_far ∙ length-append h.done (due_rows x now) in
      omega (arith, all, part, length-filter-le (is_due_row x) before, h.sends.each, length-map h.done (datagram config x))

  -- where nothing is due any more
  pub sent_whole : (before now : List Row) (old new : P) (sent failed : ℕ) → HasSent ports config x before now old new sent failed → due_rows x now ≡ [] →
      HandsOver ports old new (map (departure_of config x) (due_messages x before)) sent failed
  sent_whole before now old new sent failed h none =
      let done_is : due_rows x before ≡ h.done = h.so_far ∙ ap (λ l. h.done ++ l) none ∙ append-nil h.done in
      subst (λ ds. HandsOver ports old new ds sent failed)
      (ap (map (datagram config x)) (sym done_is) ∙ sym (map-map (departure_of config x) message_of_row (due_rows x before))) h.sends
