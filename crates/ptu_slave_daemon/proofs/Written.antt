-- The selections that are written, one after the other.
use Rattle.std.proofs.Common.{◌≡◌, ◌∙◌, ℕ, ◌++◌, Bool, true, false, cond, List, [], ◌∷◌, map, refl, sym, subst, ap, arith, Option, Some, None}
use Rattle.std.proofs.lemmas.List.{map-append}
use Rattle.std.specs.Prelude.{◌==◌}
use Rattle.ptu_outside.specs.Handing.{HasPut, HasPutPart}
use Rattle.ptu_outside.proofs.Putting.{HasPut-append, HasPut-part}
use Rattle.ptu_slave_daemon.specs.{declared.line.SlaveLine.{SlaveLine}, Happenings.{Selection}}
use Rattle.ptu_slave_daemon.specs.Lines.{changes, is_said, is_same_selection, slave_line_text, said_next, selected_line, slave_texts}

-- what was written last once these selections were made
abbrev pub said_after : Option (Option ℕ) → List Selection → Option (Option ℕ)
said_after said [] = said
said_after said (s ∷ later) = said_after (Some s.master) later

same_is : (a b : Option ℕ) → is_same_selection a b ≡ true → a ≡ b
same_is None None is = refl
same_is None (Some b) is = absurd (cc is)
same_is (Some a) None is = absurd (cc is)
same_is (Some a) (Some b) is = ap Some (numbers a b is)
  where
    numbers : (a b : ℕ) → (a == b) ≡ true → a ≡ b
    numbers a b is = grind arith

said_is : (said : Option (Option ℕ)) (master : Option ℕ) → is_said said master ≡ true → said ≡ Some master
said_is None master is = absurd (cc is)
said_is (Some last) master is = ap Some (same_is last master is)

pub said_after-push : (said : Option (Option ℕ)) (ss : List Selection) (s : Selection) → said_after said (ss ++ s ∷ []) ≡ Some s.master
said_after-push said [] s = refl
said_after-push said (x ∷ ss) s = said_after-push (Some x.master) ss s

-- one more
pub changes-push : (said : Option (Option ℕ)) (ss : List Selection) (s : Selection) → changes said (ss ++ s ∷ []) ≡ changes said ss ++ said_next (said_after said ss) s
changes-push said [] s = pick (is_said said s.master)
  where
    pick : (b : Bool) → cond b (changes said []) (s ∷ changes (Some s.master) []) ≡ cond b [] (s ∷ [])
    pick true = refl
    pick false = refl
changes-push said (x ∷ ss) s = pick (is_said said x.master) refl (changes-push said ss s) (changes-push (Some x.master) ss s)
  where
    pick : (b : Bool) → is_said said x.master ≡ b → changes said (ss ++ s ∷ []) ≡ changes said ss ++ said_next (said_after said ss) s
        → changes (Some x.master) (ss ++ s ∷ []) ≡ changes (Some x.master) ss ++ said_next (said_after (Some x.master) ss) s
        → cond b (changes said (ss ++ s ∷ [])) (x ∷ changes (Some x.master) (ss ++ s ∷ [])) ≡ cond b (changes said ss) (x ∷ changes (Some x.master) ss) ++ said_next (said_after (Some x.master) ss) s
    pick true is same other = same ∙ ap (λ w. changes said ss ++ said_next (said_after w ss) s) (said_is said x.master is)
    pick false is same other = ap (λ l. x ∷ l) other

-- a front of the selections, and more
pub changes-append : (said : Option (Option ℕ)) (ss ts : List Selection) → changes said (ss ++ ts) ≡ changes said ss ++ changes (said_after said ss) ts
changes-append said [] ts = refl
changes-append said (x ∷ ss) ts = pick (is_said said x.master) refl (changes-append said ss ts) (changes-append (Some x.master) ss ts)
  where
    pick : (b : Bool) → is_said said x.master ≡ b → changes said (ss ++ ts) ≡ changes said ss ++ changes (said_after said ss) ts
        → changes (Some x.master) (ss ++ ts) ≡ changes (Some x.master) ss ++ changes (said_after (Some x.master) ss) ts
        → cond b (changes said (ss ++ ts)) (x ∷ changes (Some x.master) (ss ++ ts)) ≡ cond b (changes said ss) (x ∷ changes (Some x.master) ss) ++ changes (said_after (Some x.master) ss) ts
    pick true is same other = same ∙ ap (λ w. changes said ss ++ changes (said_after w ss) ts) (said_is said x.master is)
    pick false is same other = ap (λ l. x ∷ l) other

pub texts-push : (said : Option (Option ℕ)) (ss : List Selection) (s : Selection)
    → slave_texts (map selected_line (changes said (ss ++ s ∷ []))) ≡ slave_texts (map selected_line (changes said ss)) ++ slave_texts (map selected_line (said_next (said_after said ss) s))
texts-push said ss s =
    ap (λ l. slave_texts (map selected_line l)) (changes-push said ss s)
    ∙ ap slave_texts (map-append selected_line (changes said ss) (said_next (said_after said ss) s))
    ∙ map-append slave_line_text (map selected_line (changes said ss)) (map selected_line (said_next (said_after said ss) s))

-- ---- written behind what was written

module _ {K : Type 0} (written : K → Option (List ℕ)) (handed : K → Option (List (List ℕ))) (old mid new : K) where
  -- one line more
  pub put_behind : (lines : List SlaveLine) (line : SlaveLine) → HasPut written handed old mid (slave_texts lines) → HasPut written handed mid new (slave_texts (line ∷ []))
      → HasPut written handed old new (slave_texts (lines ++ line ∷ []))
  put_behind lines line p q = subst (HasPut written handed old new) (sym (map-append slave_line_text lines (line ∷ [])))
      (HasPut-append written handed old mid new (slave_texts lines) (slave_texts (line ∷ [])) p q)

  -- or a part of it
  pub part_behind : (lines : List SlaveLine) (line : SlaveLine) → HasPut written handed old mid (slave_texts lines) → HasPutPart written handed mid new (slave_texts (line ∷ []))
      → HasPutPart written handed old new (slave_texts (lines ++ line ∷ []))
  part_behind lines line p q = subst (HasPutPart written handed old new) (sym (map-append slave_line_text lines (line ∷ [])))
      (HasPut-part written handed old mid new (slave_texts lines) (slave_texts (line ∷ [])) p q)

  -- the line of one selection more
  pub selection_behind : (said : Option (Option ℕ)) (ss : List Selection) (s : Selection) → said ≡ said_after None ss → HasPut written handed old mid (slave_texts (map selected_line (changes None ss)))
      → HasPut written handed mid new (slave_texts (map selected_line (said_next said s))) → HasPut written handed old new (slave_texts (map selected_line (changes None (ss ++ s ∷ []))))
  selection_behind said ss s is p q = subst (HasPut written handed old new) (sym (texts-push None ss s))
      (HasPut-append written handed old mid new (slave_texts (map selected_line (changes None ss))) (slave_texts (map selected_line (said_next (said_after None ss) s))) p
      (subst (λ last. HasPut written handed mid new (slave_texts (map selected_line (said_next last s)))) is q))

  pub part_of_selection : (said : Option (Option ℕ)) (ss : List Selection) (s : Selection) → said ≡ said_after None ss → HasPut written handed old mid (slave_texts (map selected_line (changes None ss)))
      → HasPutPart written handed mid new (slave_texts (map selected_line (said_next said s))) → HasPutPart written handed old new (slave_texts (map selected_line (changes None (ss ++ s ∷ []))))
  part_of_selection said ss s is p q = subst (HasPutPart written handed old new) (sym (texts-push None ss s))
      (HasPut-part written handed old mid new (slave_texts (map selected_line (changes None ss))) (slave_texts (map selected_line (said_next (said_after None ss) s))) p
      (subst (λ last. HasPutPart written handed mid new (slave_texts (map selected_line (said_next last s)))) is q))
