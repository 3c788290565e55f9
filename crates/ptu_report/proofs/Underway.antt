-- A program over lines that is under way: what was put, and the output for the lines that are left, are the whole one.
use Rattle.std.proofs.Common.{◌≡◌, ◌∙◌, ℕ, ◌+◌, ◌≤◌, List, [], ◌∷◌, ◌++◌, length, map, Option, Some, None, refl, sym, ap, subst, append_assoc, length-append, arith}
use Rattle.std.specs.{Prelude.{IfSome}, Option.{option_map}, Io.KnownBytes.{prepend_known}}
use Rattle.std.proofs.lemmas.List.{append-nil, map-append}
use Rattle.ptu_outside.specs.Handing.{HasPut, HasPutPart}
use Rattle.ptu_outside.proofs.Putting.{HasPut-append, HasPut-none, HasPut-part}
use Rattle.ptu_lines.specs.Script.{ScriptLine, Whole, script_lines, text_of}
use Rattle.ptu_lines.specs.Reading.{Reader, Gives, IsFresh, IsStopped, lines_left, octets_taken}
use Rattle.ptu_lines.proofs.Giving.{Gives-append, Gives-none, fresh_lines}
use Rattle.ptu_report.specs.declared.ending.Ending.{Ending}
use Rattle.ptu_report.specs.Rules.{Rules, Goes, closing, ending_after, ending_at, ending_of, meaning_after, meaning_at, meaning_of, texts_at, texts_of, texts_of_lines, texts_until}
use Rattle.ptu_report.specs.Reported.{HasReported, HasReportedAllRead, whole_lines}
use Rattle.ptu_report.specs.Step.{HasEnded, HasGone, is_whole}
use Rattle.ptu_report.proofs.WholeLines.{whole_are}

-- lines that were given
abbrev given : List (List ℕ) → List ScriptLine
given lines = map (λ line. Whole (text_of line)) lines

module _ {M C : Type 0} (rules : Rules M C) where
  -- from the first meaning these lines led to another, with these texts
  pub record Ran (first : M) (lines : List (List ℕ)) (after : M) (texts : List (List ℕ)) : Type 0 where
    pub whole : (last : M → ℕ → List (List ℕ)) (rest : List ScriptLine) → texts_until rules last first 0 (given lines ++ rest) ≡ texts ++ texts_until rules last after (length lines) rest
    pub ends : (rest : List ScriptLine) → ending_after rules first 0 (given lines ++ rest) ≡ ending_after rules after (length lines) rest
    pub means : (rest : List ScriptLine) → meaning_after rules first 0 (given lines ++ rest) ≡ meaning_after rules after (length lines) rest

  pub Ran-start : (first : M) → Ran first [] first []
  Ran-start first = record { whole = λ last rest. refl; ends = λ rest. refl; means = λ rest. refl }

  pub Ran-more : (first : M) (lines : List (List ℕ)) (m : M) (texts : List (List ℕ)) (line : List ℕ) (after : M) (more : List (List ℕ)) → Ran first lines m texts
      → rules.step m (length lines + 1) (text_of line) ≡ Goes after more → Ran first (lines ++ line ∷ []) after (texts ++ more)
  Ran-more first lines m texts line after more ran step = record {
    whole = λ last rest.
        ap (texts_until rules last first 0) (behind rest) ∙ (ran.whole last (Whole (text_of line) ∷ rest)
        ∙ (ap (λ o. texts ++ texts_at rules (length lines + 1) o (λ m'. texts_until rules last m' (length lines + 1) rest)) step
        ∙ (sym (append_assoc texts more (texts_until rules last after (length lines + 1) rest))
        ∙ ap (λ n. (texts ++ more) ++ texts_until rules last after n rest) count)));
    ends = λ rest.
        ap (ending_after rules first 0) (behind rest) ∙ (ran.ends (Whole (text_of line) ∷ rest)
        ∙ (ap (λ o. ending_at (length lines + 1) o (λ m'. ending_after rules m' (length lines + 1) rest)) step
        ∙ ap (λ n. ending_after rules after n rest) count));
    means = λ rest.
        ap (meaning_after rules first 0) (behind rest) ∙ (ran.means (Whole (text_of line) ∷ rest)
        ∙ (ap (λ o. meaning_at o (λ m'. meaning_after rules m' (length lines + 1) rest)) step
        ∙ ap (λ n. meaning_after rules after n rest) count));
  }
    where
      behind : (rest : List ScriptLine) → given (lines ++ line ∷ []) ++ rest ≡ given lines ++ (Whole (text_of line) ∷ rest)
      behind rest = ap (λ l. l ++ rest) (map-append (λ line. Whole (text_of line)) lines (line ∷ [])) ∙ append_assoc (given lines) (Whole (text_of line) ∷ []) rest

      count : length lines + 1 ≡ length (lines ++ line ∷ [])
      count = omega (arith, length-append lines (line ∷ []))

-- what is left behind the given lines
pub left_behind : (lines : List ScriptLine) (o : Option (List ScriptLine)) (all : List ScriptLine) → Some all ≡ option_map (λ rest. lines ++ rest) o
    → (rest : List ScriptLine) × (o ≡ Some rest) × (all ≡ lines ++ rest)
left_behind lines None all e = absurd (let never : Some all ≡ None = e in cc)
left_behind lines (Some rest) all e = (rest, refl, (let same : Some all ≡ Some (lines ++ rest) = e in cc))

-- what was taken since it was fresh
pub few_taken : (from to : Reader) (left left' : Option (List ℕ)) (lines : List (List ℕ)) → IsFresh from → Gives from to left left' lines → octets_taken to ≤ 67108865
    → (octets : List ℕ) × (left ≡ prepend_known octets left') × (length octets ≤ 67108865)
few_taken from to left left' lines fresh gives few = (gives.octets, gives.taken, omega (arith, gives.count, fresh.before, ap length fresh.waiting))

module _ {K : Type 0} (written : K → Option (List ℕ)) (handed : K → Option (List (List ℕ))) {M C : Type 0} (rules : Rules M C) where
  -- since it was fresh the reader gave these lines, and the program made its texts of them
  pub record Progress (stands : M → Type 0) (first : M) (from to : Reader) (left left' : Option (List ℕ)) (old now : K) : Type 0 where
    pub lines : List (List ℕ)
    pub gives : Gives from to left left' lines
    pub after : M
    pub texts : List (List ℕ)
    pub ran : Ran rules first lines after texts
    pub stands_now : stands after
    pub put : HasPut written handed old now texts

  pub Progress-start : (stands : M → Type 0) (first : M) (reader : Reader) (left : Option (List ℕ)) (sink : K) → stands first → Progress stands first reader reader left left sink sink
  Progress-start stands first reader left sink h = record {
    lines = [];
    gives = Gives-none reader left;
    after = first;
    texts = [];
    ran = Ran-start rules first;
    stands_now = h;
    put = HasPut-none written handed sink;
  }

  module _ (stands : M → Type 0) (first : M) (from now : Reader) (left left' : Option (List ℕ)) (old sink : K) (fresh : IsFresh from) (p : Progress stands first from now left left' old sink) where
    number_is : now.number ≡ length p.lines
    number_is = omega (arith, p.gives.number, fresh.number)

    -- one line more
    pub one_more : (stands' : M → Type 0) (to : Reader) (left'' : Option (List ℕ)) (next : K) → HasGone written handed sink next rules p.after now to left' left'' stands'
        → Progress stands' first from to left left'' old next
    one_more stands' to left'' next g = record {
      lines = p.lines ++ g.line ∷ [];
      gives = Gives-append from now to left left' left'' p.lines (g.line ∷ []) p.gives g.gives;
      after = g.after;
      texts = p.texts ++ g.texts;
      ran = Ran-more rules first p.lines p.after p.texts g.line g.after g.texts p.ran (ap (λ n. rules.step p.after (n + 1) (text_of g.line)) (sym number_is) ∙ g.step);
      stands_now = g.stands_after;
      put = HasPut-append written handed old sink next p.texts g.texts p.put g.put;
    }

    module _ (input : List ℕ) (told : left ≡ Some input) where
      all_told : Some (script_lines input) ≡ option_map (λ rest. given p.lines ++ rest) (lines_left now left')
      all_told = ap (option_map script_lines) (sym told) ∙ (sym (fresh_lines from left fresh) ∙ p.gives.told)

      behind : (rest : List ScriptLine) × (lines_left now left' ≡ Some rest) × (script_lines input ≡ given p.lines ++ rest)
      behind = left_behind (given p.lines) (lines_left now left') (script_lines input) all_told

      texts_are : texts_of rules first (script_lines input) ≡ p.texts ++ texts_until rules (closing rules) p.after now.number behind.0
      texts_are = ap (texts_of rules first) behind.2 ∙ (p.ran.whole (closing rules) behind.0 ∙ ap (λ n. p.texts ++ texts_until rules (closing rules) p.after n behind.0) (sym number_is))

      -- the output was put to its end
      pub ended : (stands' : M → Type 0) (to : Reader) (left'' : Option (List ℕ)) (next : K) (ending : Ending C) → ((lines : List ScriptLine) → lines_left now left' ≡ Some lines → HasEnded written handed sink next rules p.after now to left' left'' stands' ending lines)
          → HasReported written handed old next rules first (script_lines input) ending
      ended stands' to left'' next ending e =
          let end = e behind.0 behind.1 in
          record {
            put = subst (HasPut written handed old next) (sym texts_are) (HasPut-append written handed old sink next p.texts (texts_until rules (closing rules) p.after now.number behind.0) p.put end.put);
            ends = end.ends ∙ (ap (λ n. ending_after rules p.after n behind.0) number_is ∙ (sym (p.ran.ends behind.0) ∙ ap (ending_of rules first) (sym behind.2)));
          }

      -- and the state stands for what all lines lead to
      pub means_last : (stands' : M → Type 0) (to : Reader) (left'' : Option (List ℕ)) (next : K) (ending : Ending C) → ((lines : List ScriptLine) → lines_left now left' ≡ Some lines → HasEnded written handed sink next rules p.after now to left' left'' stands' ending lines)
          → is_whole ending → IfSome (meaning_of rules first (script_lines input)) stands'
      means_last stands' to left'' next ending e whole =
          let is : meaning_of rules first (script_lines input) ≡ meaning_after rules p.after now.number behind.0 =
          ap (meaning_of rules first) behind.2 ∙ (p.ran.means behind.0 ∙ ap (λ n. meaning_after rules p.after n behind.0) (sym number_is)) in
          subst (λ o. IfSome o stands') (sym is) ((e behind.0 behind.1).last whole)

      -- and where it stopped before
      pub in_part : (next : K) → ((lines : List ScriptLine) → lines_left now left' ≡ Some lines → HasPutPart written handed sink next (texts_until rules (closing rules) p.after now.number lines))
          → HasPutPart written handed old next (texts_of rules first (script_lines input))
      in_part next e = subst (HasPutPart written handed old next) (sym texts_are)
          (HasPut-part written handed old sink next p.texts (texts_until rules (closing rules) p.after now.number behind.0) p.put (e behind.0 behind.1))

    -- where the source failed, all was put of the lines that are whole in what was taken
    pub all_read : (to : Reader) (left'' : Option (List ℕ)) → IsStopped now to left' left'' → HasReportedAllRead written handed old sink rules first left left''
    all_read to left'' s = record {
      octets = gives.octets;
      taken = gives.taken;
      put = subst (HasPut written handed old sink) (sym texts) p.put;
    }
      where
        gives : Gives from to left left'' (p.lines ++ [])
        gives = Gives-append from now to left left' left'' p.lines [] p.gives s.gives

        lines_are : whole_lines gives.octets ≡ given (p.lines ++ [])
        lines_are =
            ap (λ o. whole_lines (o ++ gives.octets)) (sym fresh.waiting) ∙ (ap whole_lines gives.cut
            ∙ ap (map (λ line. Whole (text_of line))) (whole_are (p.lines ++ []) to.waiting (gives.ended s.no_end).1 s.unended))

        texts : texts_of_lines rules first (whole_lines gives.octets) ≡ p.texts
        texts =
            ap (texts_of_lines rules first) (lines_are ∙ (ap given (append-nil p.lines) ∙ sym (append-nil (given p.lines))))
            ∙ (p.ran.whole (λ after count. []) [] ∙ append-nil p.texts)
