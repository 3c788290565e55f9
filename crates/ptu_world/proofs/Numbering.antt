-- Datagrams are numbered from 1 in the order in which they were sent.
use Rattle.std.proofs.Common.{◌≡◌, ◌∙◌, ℕ, zero, suc, ◌+◌, ◌-◌, ◌++◌, List, [], ◌∷◌, length, Option, Some, None, Result, Ok, Err, Bool, true, false, cond, eqb, Contains, refl, sym, ap, subst, arith, filter_map, append-nil, append_assoc, slice_get}
use Rattle.std.proofs.lemmas.{Bool.{eqb-false}, List.{length-append}}
use Rattle.std.proofs.lemmas.List.Elements.{Contains-append_right, filter_map-append}
use Rattle.ptu_lines.specs.Script.{ScriptLine, Whole, Refused}
use Rattle.ptu_script.specs.declared.cause.Cause.{Cause}
use Rattle.ptu_script.specs.declared.cause.Cause.TheVariants as causes
use Rattle.ptu_script.specs.{Fields.{◌>>=◌}, declared.command.Command.{Command}}
use Rattle.ptu_script.specs.declared.command.Command.TheVariants as commands
use Rattle.ptu_script.specs.Command.{command_of}
use Rattle.ptu_report_lines.specs.declared.{sent.Sent.{Sent}, statement.Statement.{Statement}}
use Rattle.ptu_world.specs.World.{World, Stock, Done, datagram_numbered, delivered_to, opening, or_cause, step, node_at}
use Rattle.ptu_world.specs.Reached.{Leads, Reaches, done_by_line, said_of}
use Rattle.ptu_world.specs.Sayings.{IsDelivered, moment_handed, numbered, sent_in}
use Rattle.ptu_world.proofs.{Steps.{AllStand}, Standing.{line_stands}}
use Rattle.ptu_world.proofs.Sayings.{Numbers, says_of, step_numbers}

numbered-append : (n : ℕ) (xs ys : List Sent) → numbered n (xs ++ ys) ≡ numbered n xs ++ numbered (n + length xs) ys
numbered-append n [] ys = ap (λ m. numbered m ys) (let e : n ≡ n + 0 = omega arith in e)
numbered-append n (x ∷ xs) ys =
    ap (λ rest. (n, x) ∷ rest) (numbered-append (n + 1) xs ys ∙ ap (λ m. numbered (n + 1) xs ++ numbered m ys) (let e : n + 1 + length xs ≡ n + length (x ∷ xs) = omega arith in e))

nothing_sent : (w : World) → Numbers w [] w
nothing_sent w = record { new = []; sent = sym (append-nil w.sent); numbers = refl }

line_numbers : (w : World) → AllStand w.nodes → (r : Result (Option Command) Cause) (done : Done) → done_by_line w r ≡ Ok done → Numbers w done.said done.world
line_numbers w all (Ok None) done e = let same : record { world = w; said = [] } ≡ done = cc in subst (λ d. Numbers w d.said d.world) same (nothing_sent w)
line_numbers w all (Ok (Some command)) done e = step_numbers w (moment_handed command) done (says_of w all command done e)
line_numbers w all (Err cause) done e = absurd cc

-- one after the other
both : (w v last : World) (said more : List Statement) → Numbers w said v → Numbers v more last → Numbers w (said ++ more) last
both w v last said more a b = record {
  new = a.new ++ b.new;
  sent = b.sent ∙ ap (λ s. s ++ b.new) a.sent ∙ append_assoc w.sent a.new b.new;
  numbers = filter_map-append sent_in said more
      ∙ ap (λ ls. ls ++ filter_map sent_in more) a.numbers
      ∙ ap (λ ls. numbered (length w.sent + 1) a.new ++ ls) (b.numbers
      ∙ ap (λ m. numbered m b.new) (let long : length v.sent ≡ length w.sent + length a.new = ap length a.sent ∙ length-append w.sent a.new in let e : length v.sent + 1 ≡ length w.sent + 1 + length a.new = omega (arith, long) in e))
      ∙ sym (numbered-append (length w.sent + 1) a.new b.new);
}

leads_number : (w : World) (lines : List ScriptLine) (last : World) (leads : Leads w lines last) → AllStand w.nodes → Numbers w (said_of w lines last leads) last
leads_number w [] last leads all = subst (λ v. Numbers w [] v) (sym leads) (nothing_sent w)
leads_number w (Refused cause ∷ rest) last leads all = absurd leads
leads_number w (Whole text ∷ rest) last leads all =
    both w leads.0.world last leads.0.said (said_of leads.0.world rest last leads.2) (line_numbers w all (command_of text) leads.0 leads.1)
    (leads_number leads.0.world rest last leads.2 (line_stands w text leads.0 all leads.1))

module _ (stock : Stock) (script : List ℕ) (w : World) (r : Reaches stock script w) where
  abbrev so_far : List Statement
  so_far = said_of (opening stock) r.taken w r.leads

  pub all_numbered : filter_map sent_in so_far ≡ numbered 1 w.sent
  all_numbered =
      let n : Numbers (opening stock) so_far w = leads_number (opening stock) r.taken w r.leads (λ ip. tt) in
      n.numbers ∙ ap (numbered 1) (sym n.sent)

first : {A : Type 0} (x : A) (xs : List A) → Contains (x ∷ xs) x
first x xs = (0, omega arith, refl)

at_number : (n : ℕ) (xs : List Sent) (k : ℕ) (s : Sent) → slice_get xs k ≡ Some s → Contains (numbered n xs) (n + k, s)
at_number n [] k s e = absurd cc
at_number n (x ∷ xs) zero s e =
    let same : x ≡ s = cc in
    subst (λ m. Contains (numbered n (x ∷ xs)) (m, s)) (let e : n ≡ n + 0 = omega arith in e)
    (subst (λ y. Contains (numbered n (x ∷ xs)) (n, y)) same (first (n, x) (numbered (n + 1) xs)))
at_number n (x ∷ xs) (suc k) s e =
    Contains-append_right ((n, x) ∷ []) (numbered (n + 1) xs) (n + suc k, s)
    (subst (λ m. Contains (numbered (n + 1) xs) (m, s)) (let e : n + 1 + k ≡ n + suc k = omega arith in e) (at_number (n + 1) xs k s e))

positive : (n : ℕ) → (n ≡ 0 → ⊥) → 1 + (n - 1) ≡ n
positive zero h = absurd (h refl)
positive (suc n) h = omega arith

-- a datagram is found by its number
found_number : (number : ℕ) (sent : List Sent) (s : Sent) → datagram_numbered number sent ≡ Some s → Contains (numbered 1 sent) (number, s)
found_number number sent s = by (eqb number 0) refl
  where
    by : (b : Bool) → eqb number 0 ≡ b → cond b None (slice_get sent (number - 1)) ≡ Some s → Contains (numbered 1 sent) (number, s)
    by true f e = absurd cc
    by false f e = subst (λ m. Contains (numbered 1 sent) (m, s)) (positive number (eqb-false number 0 f)) (at_number 1 sent (number - 1) s e)

delivers_by : (w : World) (t number : ℕ) (done : Done) (o : Option Sent) → datagram_numbered number w.sent ≡ o
    → ◌≡◌ {A = Result Done Cause} (or_cause causes.Number o >>= (λ sent. Ok (delivered_to w t sent (node_at w.nodes sent.to)))) (Ok done)
    → IsDelivered w t number (numbered 1 w.sent) done
delivers_by w t number done None found e = absurd cc
delivers_by w t number done (Some sent) found e = record {
  sent = sent;
  numbered = found_number number w.sent sent found;
  hands = (let same : delivered_to w t sent (node_at w.nodes sent.to) ≡ done = cc in sym same);
}

pub delivers : (stock : Stock) (script : List ℕ) (w : World) (r : Reaches stock script w) (t number : ℕ) (done : Done) → step w (commands.Deliver t number) ≡ Ok done
    → IsDelivered w t number (filter_map sent_in (said_of (opening stock) r.taken w r.leads)) done
unfolding step
delivers stock script w r t number done e =
    subst (λ said. IsDelivered w t number said done) (sym (all_numbered stock script w r)) (delivers_by w t number done (datagram_numbered number w.sent) refl e)
