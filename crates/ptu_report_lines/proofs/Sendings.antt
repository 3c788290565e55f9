-- A list of datagrams by what is kept of each and its octets.
use Rattle.std.proofs.Common.{◌≡◌, ℕ, ◌≤◌, List, [], ◌∷◌, ◌++◌, zero, suc, Some, None, length, refl, ap, ◌∙◌, arith}
use Rattle.std.specs.Prelude.{slice_get}
use Rattle.std.proofs.lemmas.Option.{none-some, same_Some, slice_get_past}
use Rattle.ptu_report_lines.specs.{declared.sent_list.Head.{Head}, Sendings.{sent_in, sent_of}}

pub sent_in-push : (heads : List Head) (octets : List (List ℕ)) (h : Head) (o : List ℕ) → length heads ≡ length octets
    → sent_in (heads ++ h ∷ []) (octets ++ o ∷ []) ≡ sent_in heads octets ++ sent_of h o ∷ []
sent_in-push [] [] h o same = refl
sent_in-push [] (x ∷ xs) h o same = absurd (omega (arith, same))
sent_in-push (x ∷ xs) [] h o same = absurd (omega (arith, same))
sent_in-push (x ∷ xs) (y ∷ ys) h o same = ap (λ l. sent_of x y ∷ l) (sent_in-push xs ys h o (omega (arith, same)))

pub length-sent_in : (heads : List Head) (octets : List (List ℕ)) → length heads ≡ length octets → length (sent_in heads octets) ≡ length heads
length-sent_in [] [] same = refl
length-sent_in [] (x ∷ xs) same = refl
length-sent_in (x ∷ xs) [] same = absurd (omega (arith, same))
length-sent_in (x ∷ xs) (y ∷ ys) same = ap suc (length-sent_in xs ys (omega (arith, same)))

-- the datagram at a place
pub sent_in-at : (heads : List Head) (octets : List (List ℕ)) (place : ℕ) (h : Head) (o : List ℕ) → slice_get heads place ≡ Some h → slice_get octets place ≡ Some o
    → slice_get (sent_in heads octets) place ≡ Some (sent_of h o)
sent_in-at [] octets place h o there there' = absurd (none-some h there)
sent_in-at (x ∷ xs) [] place h o there there' = absurd (none-some o there')
sent_in-at (x ∷ xs) (y ∷ ys) zero h o there there' = ap (λ z. Some (sent_of z y)) (same_Some x h there) ∙ ap (λ z. Some (sent_of h z)) (same_Some y o there')
sent_in-at (x ∷ xs) (y ∷ ys) (suc place) h o there there' = sent_in-at xs ys place h o there there'

pub sent_in-past : (heads : List Head) (octets : List (List ℕ)) (place : ℕ) → length heads ≡ length octets → length heads ≤ place → slice_get (sent_in heads octets) place ≡ None
sent_in-past heads octets place same past = slice_get_past (sent_in heads octets) place (omega (arith, length-sent_in heads octets same, past))
