-- The sheddings of a change of capacity, one after the other.
use Rattle.std.proofs.Common.{◌≡◌, ◌∙◌, ℕ, ◌+◌, ◌≤◌, ◌<◌, max, ◌++◌, List, [], ◌∷◌, map, take, drop, length, get_or, Option, Some, None, refl, sym, ap, subst, arith, append_assoc}
use Rattle.std.proofs.lemmas.List.{append-nil, drop_all, drop_more, map_more, take_all}
use Rattle.ptu_history.specs.{History.{Record, Shed}, Moments.{book_moment}}
use Rattle.ptu_history.proofs.Moments.{book_moment-push}
use Rattle.ptu_trail.specs.declared.cause.{Fault.{Fault}, NoCause.{NoCause}, Shedding.{Shedding}}
use Rattle.ptu_trail.specs.{declared.clients.Clients.{Clients}, Clients.{AreKnown}}
use Rattle.ptu_trail.specs.Faults.{behind, decision_tests, first_fault, first_no_cause, or_behind, record_of}

-- a fault so many places further back
abbrev pub shift : ℕ → Option Fault → Option Fault
shift n None = None
shift n (Some fault) = Some (record { place = fault.place + n; cause = fault.cause })

behind-shift : (o : Option Fault) → behind o ≡ shift 1 o
behind-shift None = refl
behind-shift (Some fault) = refl

shift-behind : (n : ℕ) (o : Option Fault) → shift n (behind o) ≡ shift (n + 1) o
shift-behind n None = refl
shift-behind n (Some fault) = let e : (fault.place + 1) + n ≡ fault.place + (n + 1) = omega arith in ap (λ p. Some (record { place = p; cause = fault.cause })) e

module _ (history : List Record) (at place : ℕ) (shed : List Shedding) (d : Shedding) (lt : place < length shed) where
  -- the records with one shedding more
  pub records_more : history ++ map (record_of at) (take (place + 1) shed) ≡ (history ++ map (record_of at) (take place shed)) ++ record_of at (get_or shed place d) ∷ []
  records_more = ap (λ rs. history ++ rs) (map_more (record_of at) shed place d lt) ∙ sym (append_assoc history (map (record_of at) (take place shed)) (record_of at (get_or shed place d) ∷ []))

module _ (opening : ℕ) (history : List Record) (at : ℕ) (shed : List Shedding) where
  -- the records so far
  abbrev so_far : ℕ → List Record
  so_far place = history ++ map (record_of at) (take place shed)

  -- the sheddings before this place have no fault, and the clients are those after them
  pub record AreShed (place : ℕ) (clients : Clients) : Type 0 where
    pub known : AreKnown (history ++ map (record_of at) (take place shed)) clients
    pub moment : at ≡ book_moment (history ++ map (record_of at) (take place shed))
    pub rest : behind (first_fault opening history (map (record_of at) shed)) ≡ shift (place + 1) (first_fault opening (history ++ map (record_of at) (take place shed)) (map (record_of at) (drop place shed)))

  pub none_shed : (clients : Clients) → AreKnown history clients → at ≡ book_moment history → AreShed 0 clients
  none_shed clients known moment = record {
    known = subst (λ h. AreKnown h clients) (sym (append-nil history)) known;
    moment = moment ∙ ap book_moment (sym (append-nil history));
    rest = behind-shift (first_fault opening history (map (record_of at) shed)) ∙ ap (λ h. shift 1 (first_fault opening h (map (record_of at) shed))) (sym (append-nil history));
  }

  next : (place : ℕ) (d : Shedding) → place < length shed → first_fault opening (so_far place) (map (record_of at) (drop place shed))
      ≡ or_behind (first_no_cause (decision_tests (so_far place) at (get_or shed place d).client)) (first_fault opening (so_far place ++ record_of at (get_or shed place d) ∷ []) (map (record_of at) (drop (place + 1) shed)))
  next place d lt = ap (λ l. first_fault opening (so_far place) (map (record_of at) l)) (drop_more shed place d lt)

  pub one_shed : (place : ℕ) (d : Shedding) (old new : Clients) → place < length shed → AreShed place old → first_no_cause (decision_tests (so_far place) at (get_or shed place d).client) ≡ None
      → AreKnown (so_far place ++ Shed at (get_or shed place d).client (get_or shed place d).kind ∷ []) new → AreShed (place + 1) new
  one_shed place d old new lt s none known =
      let more = records_more history at place shed d lt in
      record {
        known = subst (λ h. AreKnown h new) (sym more) known;
        moment = (let e : at ≡ max (book_moment (so_far place)) at = omega (arith, s.moment) in e) ∙ sym (book_moment-push (so_far place) (record_of at (get_or shed place d))) ∙ ap book_moment (sym more);
        rest = s.rest ∙ ap (shift (place + 1)) (next place d lt ∙ ap (λ o. or_behind o (first_fault opening (so_far place ++ record_of at (get_or shed place d) ∷ []) (map (record_of at) (drop (place + 1) shed)))) none)
            ∙ shift-behind (place + 1) (first_fault opening (so_far place ++ record_of at (get_or shed place d) ∷ []) (map (record_of at) (drop (place + 1) shed)))
            ∙ ap (λ h. shift ((place + 1) + 1) (first_fault opening h (map (record_of at) (drop (place + 1) shed)))) (sym more);
      }

  pub fault_shed : (place : ℕ) (d : Shedding) (clients : Clients) (cause : NoCause) → place < length shed → AreShed place clients → Some cause ≡ first_no_cause (decision_tests (so_far place) at (get_or shed place d).client)
      → Some (record { place = place + 1; cause = cause }) ≡ behind (first_fault opening history (map (record_of at) shed))
  fault_shed place d clients cause lt s is =
      sym (s.rest ∙ ap (shift (place + 1)) (next place d lt ∙ ap (λ o. or_behind o (first_fault opening (so_far place ++ record_of at (get_or shed place d) ∷ []) (map (record_of at) (drop (place + 1) shed)))) (sym is))
      ∙ (let e : 0 + (place + 1) ≡ place + 1 = omega arith in ap (λ p. Some (record { place = p; cause = cause })) e))

  pub all_shed : (place : ℕ) (clients : Clients) → length shed ≤ place → AreShed place clients → (None ≡ behind (first_fault opening history (map (record_of at) shed))) × AreKnown (history ++ map (record_of at) shed) clients
  all_shed place clients le s = (
    sym (s.rest ∙ ap (λ l. shift (place + 1) (first_fault opening (so_far place) (map (record_of at) l))) (drop_all place shed le)),
    subst (λ l. AreKnown (history ++ map (record_of at) l) clients) (take_all place shed le) s.known,
  )
