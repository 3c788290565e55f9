-- What one line of the input, or its end, makes a program write.
use Rattle.std.proofs.Common.{◌≡◌, ◌∙◌, ℕ, ◌+◌, List, [], ◌∷◌, ◌++◌, Option, Some, None, refl, sym, ap, subst}
use Rattle.std.specs.{Prelude.{IfSome}, Option.{option_map, unwrap_or}, Io.KnownBytes.{IsAtEnd}}
use Rattle.std.proofs.lemmas.List.{append-nil}
use Rattle.ptu_outside.specs.Handing.{HasPut, HasPutPart}
use Rattle.ptu_outside.proofs.Putting.{HasPutPart-append}
use Rattle.ptu_lines.specs.declared.cause.LineCause.{LineCause}
use Rattle.ptu_lines.specs.Script.{ScriptLine, Whole, Refused, lines_from, pieces, text_of}
use Rattle.ptu_lines.specs.Reading.{Reader, IsAllGiven, IsGiven, IsRefused, lines_left}
use Rattle.ptu_report.specs.declared.ending.Ending.{Ending}
use Rattle.ptu_report.specs.declared.ending.Ending.TheVariants as endings
use Rattle.ptu_report.specs.Rules.{Rules, Outcome, Goes, Refuses, IsOutcome, closing, ending_after, ending_at, meaning_after, meaning_at, texts_at, texts_until}
use Rattle.ptu_report.specs.Step.{HasEnded, HasGone, HasStepped, is_whole, texts_found}
use Rattle.ptu_report.proofs.Underway.{left_behind}

-- at its end a script has no line left
pub none_left : (from to : Reader) (left left' : Option (List ℕ)) (lines : List ScriptLine) → IsAllGiven from to left left' → lines_left from left ≡ Some lines → lines ≡ []
none_left from to left left' lines g told = by left' g.end (sym told ∙ g.gives.told)
  where
    by : (o : Option (List ℕ)) → IsAtEnd o → Some lines ≡ option_map (λ rest. rest) (lines_left to o) → lines ≡ []
    by None end e = absurd (let never : Some lines ≡ None = e in cc)
    by (Some after) end e =
        let none : lines_from to.before (pieces (to.waiting ++ after)) ≡ [] = ap (λ ws. lines_from to.before (pieces (ws ++ after))) g.waiting ∙ ap (λ ws. lines_from to.before (pieces ws)) end in
        let same : lines ≡ lines_from to.before (pieces (to.waiting ++ after)) = (let eq : Some lines ≡ Some (lines_from to.before (pieces (to.waiting ++ after))) = e in cc) in
        same ∙ none

module _ {K : Type 0} (written : K → Option (List ℕ)) (handed : K → Option (List (List ℕ))) {M C : Type 0} (rules : Rules M C) (stands : M → Type 0) where
  -- a part of the texts of what was found is a part of the output
  pub part_at : (old new : K) (number : ℕ) (o : Outcome M C) (given : List (List ℕ)) (found : Option C) (later : M → List (List ℕ)) → IsOutcome o stands given found
      → HasPutPart written handed old new (texts_found (rules.refusal number) given found) → HasPutPart written handed old new (texts_at rules number o later)
  part_at old new number (Goes after texts) given None later h part =
      HasPutPart-append written handed old new texts (later after) (subst (HasPutPart written handed old new) h.1 part)
  part_at old new number (Goes after texts) given (Some cause) later h part = absurd h
  part_at old new number (Refuses cause) given None later h part = absurd h
  part_at old new number (Refuses cause) given (Some found) later h part = subst (λ x. HasPutPart written handed old new (rules.refusal number x ∷ [])) h part

  -- where the line is refused, the text that names it ends the output
  pub refused_at : (old new : K) (number : ℕ) (o : Outcome M C) (given : List (List ℕ)) (cause : C) (later : M → List (List ℕ)) (then : M → Ending C) → IsOutcome o stands given (Some cause)
      → HasPut written handed old new (rules.refusal number cause ∷ [])
      → HasPut written handed old new (texts_at rules number o later) × (endings.Refused number cause ≡ ending_at number o then)
  refused_at old new number (Goes after texts) given cause later then h put = absurd h
  refused_at old new number (Refuses found) given cause later then h put = (subst (λ x. HasPut written handed old new (rules.refusal number x ∷ [])) h put, ap (endings.Refused number) h)

  -- at the end
  pub closed_at : (old new : K) (number : ℕ) (o : Outcome M C) (given : List (List ℕ)) (whole : Ending C) → IsOutcome o stands given None → HasPut written handed old new given
      → HasPut written handed old new (texts_at rules number o (λ after. [])) × (whole ≡ ending_at number o (λ after. whole))
  closed_at old new number (Goes after texts) given whole h put = (subst (HasPut written handed old new) (h.1 ∙ sym (append-nil texts)) put, refl)
  closed_at old new number (Refuses cause) given whole h put = absurd h

  -- what the state stands for then
  pub meaning_closed_at : (o : Outcome M C) (given : List (List ℕ)) (taken : Option C) → IsOutcome o stands given taken → IfSome (meaning_at o Some) stands
  meaning_closed_at (Goes after texts) given None h = h.0
  meaning_closed_at (Goes after texts) given (Some found) h = absurd h
  meaning_closed_at (Refuses cause) given taken h = tt

  -- a refused line is no whole ending
  never_whole : (ending : Ending C) (number : ℕ) (cause : C) → ending ≡ endings.Refused number cause → is_whole ending → ⊥
  never_whole ending number cause is whole = subst is_whole is whole

  module _ (m : M) (from to : Reader) (left left' : Option (List ℕ)) where
    -- a line was given, and the program goes on
    goes : (number : ℕ) (old new : K) (given : List (List ℕ)) → IsGiven number from to left left' → IsOutcome (rules.step m number to.text) stands given None
        → HasPut written handed old new given → HasGone written handed old new rules m from to left left' stands
    goes number old new given g = by (rules.step m number to.text) refl
      where
        by : (o : Outcome M C) → rules.step m number to.text ≡ o → IsOutcome o stands given None → HasPut written handed old new given
            → HasGone written handed old new rules m from to left left' stands
        by (Goes after texts) e h put = record {
          line = g.line;
          gives = g.gives;
          after = after;
          texts = texts;
          step = ap (rules.step m (from.number + 1)) g.text ∙ (ap (λ n. rules.step m n to.text) (sym g.number_is) ∙ e);
          stands_after = h.0;
          put = subst (HasPut written handed old new) h.1 put;
        }
        by (Refuses cause) e h put = absurd h

    module _ (lines : List ScriptLine) (told : lines_left from left ≡ Some lines) where
      -- the first of the lines that are left is the one that was given
      first_line : (number : ℕ) → IsGiven number from to left left' → (rest : List ScriptLine) × (lines ≡ Whole to.text ∷ rest)
      first_line number g =
          let b = left_behind (Whole (text_of g.line) ∷ []) (lines_left to left') lines (sym told ∙ g.gives.told) in
          (b.0, b.2 ∙ ap (λ t. Whole t ∷ b.0) g.text)

      pub line_in_part : (number : ℕ) (old new : K) (given : List (List ℕ)) (found : Option C) → IsGiven number from to left left' → IsOutcome (rules.step m number to.text) stands given found
          → HasPutPart written handed old new (texts_found (rules.refusal number) given found)
          → HasPutPart written handed old new (texts_until rules (closing rules) m from.number lines)
      line_in_part number old new given found g h part =
          let f = first_line number g in
          subst (λ ls. HasPutPart written handed old new (texts_until rules (closing rules) m from.number ls)) (sym f.1)
          (part_at old new (from.number + 1) (rules.step m (from.number + 1) to.text) given found (λ after. texts_until rules (closing rules) after (from.number + 1) f.0)
          (subst (λ n. IsOutcome (rules.step m n to.text) stands given found) g.number_is h) (subst (λ n. HasPutPart written handed old new (texts_found (rules.refusal n) given found)) g.number_is part))

      line_refused : (number : ℕ) (old new : K) (given : List (List ℕ)) (cause : C) → IsGiven number from to left left' → IsOutcome (rules.step m number to.text) stands given (Some cause)
          → HasPut written handed old new (rules.refusal number cause ∷ [])
          → HasEnded written handed old new rules m from to left left' stands (endings.Refused number cause) lines
      line_refused number old new given cause g h put =
          let f = first_line number g in
          let r = refused_at old new (from.number + 1) (rules.step m (from.number + 1) to.text) given cause (λ after. texts_until rules (closing rules) after (from.number + 1) f.0)
          (λ after. ending_after rules after (from.number + 1) f.0)
          (subst (λ n. IsOutcome (rules.step m n to.text) stands given (Some cause)) g.number_is h) (subst (λ n. HasPut written handed old new (rules.refusal n cause ∷ [])) g.number_is put) in
          record {
            put = subst (λ ls. HasPut written handed old new (texts_until rules (closing rules) m from.number ls)) (sym f.1) r.0;
            ends = ap (λ n. endings.Refused n cause) g.number_is ∙ (r.1 ∙ ap (ending_after rules m from.number) (sym f.1));
            last = λ whole. absurd whole;
          }

      -- the reader refused the line
      refused_line : (number : ℕ) (cause : LineCause) → IsRefused number cause from to left left' → lines ≡ Refused cause ∷ []
      refused_line number cause g = subst (λ o. IfSome o (λ ls. ls ≡ Refused cause ∷ [])) told g.told

      pub reading_refused : (number : ℕ) (cause : LineCause) (found : C) (old new : K) (ending : Ending C) → IsRefused number cause from to left left' → found ≡ rules.cause_of cause
          → HasPut written handed old new (rules.refusal number found ∷ []) → ending ≡ endings.Refused number found → HasEnded written handed old new rules m from to left left' stands ending lines
      reading_refused number cause found old new ending g same last is = record {
        put = subst (λ ls. HasPut written handed old new (texts_until rules (closing rules) m from.number ls)) (sym (refused_line number cause g))
            (subst (λ n. HasPut written handed old new (rules.refusal n (rules.cause_of cause) ∷ [])) g.number_is (subst (λ x. HasPut written handed old new (rules.refusal number x ∷ [])) same last));
        ends = is ∙ (ap (endings.Refused number) same ∙ (ap (λ n. endings.Refused n (rules.cause_of cause)) g.number_is ∙ ap (ending_after rules m from.number) (sym (refused_line number cause g))));
        last = λ whole. absurd (never_whole ending number found is whole);
      }

      pub reading_refused_in_part : (number : ℕ) (cause : LineCause) (found : C) (old new : K) → IsRefused number cause from to left left' → found ≡ rules.cause_of cause
          → HasPutPart written handed old new (rules.refusal number found ∷ []) → HasPutPart written handed old new (texts_until rules (closing rules) m from.number lines)
      reading_refused_in_part number cause found old new g same part =
          subst (λ ls. HasPutPart written handed old new (texts_until rules (closing rules) m from.number ls)) (sym (refused_line number cause g))
          (subst (λ n. HasPutPart written handed old new (rules.refusal n (rules.cause_of cause) ∷ [])) g.number_is (subst (λ x. HasPutPart written handed old new (rules.refusal number x ∷ [])) same part))

      -- at the end
      module _ (g : IsAllGiven from to left left') (count : ℕ) (same : from.number ≡ count) where
        nothing : lines ≡ []
        nothing = none_left from to left left' lines g told

        pub end_in_part : (old new : K) (given : List (List ℕ)) (found : Option C) → IsOutcome (rules.close m count) stands given found
            → HasPutPart written handed old new (texts_found (rules.refusal (count + 1)) given found)
            → HasPutPart written handed old new (texts_until rules (closing rules) m from.number lines)
        end_in_part old new given found h part =
            subst (λ ls. HasPutPart written handed old new (texts_until rules (closing rules) m from.number ls)) (sym nothing)
            (part_at old new (from.number + 1) (rules.close m from.number) given found (λ after. []) (subst (λ n. IsOutcome (rules.close m n) stands given found) (sym same) h)
            (subst (λ n. HasPutPart written handed old new (texts_found (rules.refusal (n + 1)) given found)) (sym same) part))

        -- it is refused, or whole
        pub end_put : (old new : K) (given : List (List ℕ)) (found : Option C) → IsOutcome (rules.close m count) stands given found
            → HasPut written handed old new (texts_found (rules.refusal (count + 1)) given found)
            → HasEnded written handed old new rules m from to left left' stands (unwrap_or (option_map (endings.Refused (count + 1)) found) (endings.Whole count)) lines
        end_put old new given (Some cause) h put =
            let r = refused_at old new (from.number + 1) (rules.close m from.number) given cause (λ after. []) (λ after. endings.Whole from.number)
            (subst (λ n. IsOutcome (rules.close m n) stands given (Some cause)) (sym same) h) (subst (λ n. HasPut written handed old new (rules.refusal (n + 1) cause ∷ [])) (sym same) put) in
            record {
              put = subst (λ ls. HasPut written handed old new (texts_until rules (closing rules) m from.number ls)) (sym nothing) r.0;
              ends = ap (λ n. endings.Refused (n + 1) cause) (sym same) ∙ (r.1 ∙ ap (ending_after rules m from.number) (sym nothing));
              last = λ whole. absurd whole;
            }
        end_put old new given None h put =
            let r = closed_at old new (from.number + 1) (rules.close m from.number) given (endings.Whole from.number) (subst (λ n. IsOutcome (rules.close m n) stands given None) (sym same) h) put in
            record {
              put = subst (λ ls. HasPut written handed old new (texts_until rules (closing rules) m from.number ls)) (sym nothing) r.0;
              ends = ap endings.Whole (sym same) ∙ (r.1 ∙ ap (ending_after rules m from.number) (sym nothing));
              last = λ whole. subst (λ ls. IfSome (meaning_after rules m from.number ls) stands) (sym nothing)
                  (meaning_closed_at (rules.close m from.number) given None (subst (λ n. IsOutcome (rules.close m n) stands given None) (sym same) h));
            }

    -- what a line came to
    pub line_put : (number : ℕ) (old new : K) (given : List (List ℕ)) (found : Option C) → IsGiven number from to left left' → IsOutcome (rules.step m number to.text) stands given found
        → HasPut written handed old new (texts_found (rules.refusal number) given found)
        → HasStepped written handed old new rules m from to left left' stands (option_map (endings.Refused number) found)
    line_put number old new given None g h put = goes number old new given g h put
    line_put number old new given (Some cause) g h put = λ lines told. line_refused lines told number old new given cause g h put
