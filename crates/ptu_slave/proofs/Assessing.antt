-- Judges that are told and asked, one by one.
use Rattle.std.proofs.Common.{◌≡◌, ℕ, zero, suc, ◌+◌, ◌<◌, Bool, List, [], ◌∷◌, ◌++◌, map, length, Option, Some, refl, ap, sym, subst, ◌∙◌, arith, get_or, set, append_assoc, false, ◌≤◌, length-append, add-one}
use Rattle.std.proofs.lemmas.{Bool.{ne_eqb}, List.{append-nil, length-map, map-set}}
use Rattle.std.specs.List.{AllByRecursion, AllZip, range_with_len, slice_get, zip}
use Rattle.ptu_record.specs.{declared.rule.Rule.{Rule}, Lists.{places}}
use Rattle.ptu_record.specs.Record.{Entry, Record, record_of, concerns, Judge as Replaced, Judged}
use Rattle.ptu_record.specs.{Judges.{IsAssessment, opening_of}, Step.{judged_entries}}
use Rattle.ptu_record.proofs.Others.{record_of-others}
use Rattle.ptu_judges.specs.Held.{Held, IsFresh, StandsFor}
use Rattle.ptu_judges.proofs.Holding.{fresh_takes_over}
use Rattle.ptu_slave.specs.{Kept.{Kept}, declared.judging.News.{News}}
use Rattle.ptu_slave.specs.declared.judging.News.TheVariants as said
use Rattle.ptu_slave.specs.Parts.{AllJudged, OneAsked, OneJudged, news_entry}
use Rattle.ptu_slave.specs.Standing.{Judge, Selects}
use Rattle.ptu_slave.proofs.Masters.{IsOf, each_own, own_of}

-- a judge of one master, by the fact that is kept of each
abbrev Own : List (Option Rule) → ℕ → Held → Record → Type 0
Own openings m held own = StandsFor (opening_of openings m) own held

read : {A : Type 0} (f : A → Held) (xs : List A) (m : ℕ) (old : A) → m < length xs → old ≡ get_or xs m old → slice_get (map f xs) m ≡ Some (f old)
read f [] m old within is = absurd (omega arith)
read f (x ∷ xs) zero old within is = ap (λ w. Some (f w)) (sym is)
read f (x ∷ xs) (suc m) old within is = read f xs m old (omega arith) is

-- one judge is put in the place of a master's, with entries of this master
replaced : {A : Type 0} (f : A → Held) (xs : List A) (m : ℕ) (y : A) (openings : List (Option Rule)) (L E : Record) → m < length xs → AllByRecursion (IsOf m) E
    → StandsFor (opening_of openings m) (record_of m L ++ E) (f y) → Judge openings (map f xs) L → Judge openings (map f (set xs m y)) (L ++ E)
replaced f xs m y openings L E within all own judges =
    subst (λ helds. Judge openings helds (L ++ E)) (sym (map-set f xs m y))
    (each_own (Own openings) (map f xs) L E m (f y) (subst (λ n. m < n) (sym (length-map xs f)) within) all own judges)

pub asked_at : {A : Type 0} (f : A → Held) (xs : List A) (x m : ℕ) (old y : A) (unusable : Bool) → m < length xs → old ≡ get_or xs m old
    → ((opening : Option Rule) (own : Record) → StandsFor opening own (f old) → IsAssessment opening own unusable)
    → ((opening : Option Rule) (own : Record) (n : ℕ) → StandsFor opening own (f old) → StandsFor opening (own ++ Judged x n unusable ∷ []) (f y))
    → OneAsked x m (map f xs) (map f (set xs m y)) unusable
asked_at f xs x m old y unusable within is found judge = record {
  found = λ openings L judges. found (opening_of openings m) (record_of m L) (judges.of_master m (f old) (read f xs m old within is));
  judge = λ openings L judges. replaced f xs m y openings L (Judged x m unusable ∷ []) within (λ n. refl, tt)
      (judge (opening_of openings m) (record_of m L) m (judges.of_master m (f old) (read f xs m old within is))) judges;
}

-- told of an entry first
pub judged_at : {A : Type 0} (f : A → Held) (xs : List A) (x m : ℕ) (e : Entry) (old y : A) (unusable : Bool) → m < length xs → old ≡ get_or xs m old → IsOf m e
    → ((opening : Option Rule) (own : Record) → StandsFor opening own (f old) → IsAssessment opening (own ++ e ∷ []) unusable)
    → ((opening : Option Rule) (own : Record) → StandsFor opening own (f old) → StandsFor opening ((own ++ e ∷ []) ++ Judged x m unusable ∷ []) (f y))
    → OneJudged x m e (map f xs) (map f (set xs m y)) unusable
judged_at f xs x m e old y unusable within is of_m found judge = record {
  found = λ openings L judges. subst (λ own. IsAssessment (opening_of openings m) own unusable) (sym (own_of m L (e ∷ []) (of_m, tt)))
      (found (opening_of openings m) (record_of m L) (judges.of_master m (f old) (read f xs m old within is)));
  judge = λ openings L judges. replaced f xs m y openings L (e ∷ Judged x m unusable ∷ []) within (of_m, ((λ n. refl), tt))
      (subst (λ own. StandsFor (opening_of openings m) own (f y)) (append_assoc (record_of m L) (e ∷ []) (Judged x m unusable ∷ []))
      (judge (opening_of openings m) (record_of m L) (judges.of_master m (f old) (read f xs m old within is)))) judges;
}

-- what the judge of a master is told concerns this master alone
pub news_of : (said : News) (x m : ℕ) → IsOf m (news_entry said x m)
news_of (said.Sync number) x m n = refl
news_of (said.Word unusable) x m n = refl

-- a judge that took over, asked
pub anew_at : {A : Type 0} (f : A → Held) (xs : List A) (x m : ℕ) (j y : A) (news : List Held) (unusable : Bool) → m < length xs → IsFresh (f j)
    → OneAsked x m (map f (set xs m j)) news unusable → OneJudged x m (Replaced x m (f j).rule) (map f xs) news unusable
anew_at f xs x m j y news unusable within fresh asked = record {
  found = λ openings L judges. asked.found openings (L ++ Replaced x m (f j).rule ∷ []) (put openings L judges);
  judge = λ openings L judges. subst (Judge openings news) (append_assoc L (Replaced x m (f j).rule ∷ []) (Judged x m unusable ∷ []))
      (asked.judge openings (L ++ Replaced x m (f j).rule ∷ []) (put openings L judges));
}
  where
    put : (openings : List (Option Rule)) (L : Record) → Judge openings (map f xs) L → Judge openings (map f (set xs m j)) (L ++ Replaced x m (f j).rule ∷ [])
    put openings L judges = replaced f xs m j openings L (Replaced x m (f j).rule ∷ []) within (λ n. refl, tt)
        (fresh_takes_over (opening_of openings m) (record_of m L) x m (f j) fresh) judges

-- ---- all of them

-- one place more, and what is found there
pub places-more : (a n : ℕ) → range_with_len a (n + 1) ≡ range_with_len a n ++ (a + n) ∷ []
places-more a n = ap (range_with_len a) (add-one n) ∙ by a n
  where
    by : (a n : ℕ) → range_with_len a (suc n) ≡ range_with_len a n ++ (a + n) ∷ []
    by a zero = ap (λ k. k ∷ []) (omega arith)
    by a (suc n) = ap (λ w. a ∷ w) (by (a + 1) n ∙ ap (λ k. range_with_len (a + 1) n ++ k ∷ []) (omega arith))

zip-more : (ms : List ℕ) (bs : List Bool) (m : ℕ) (b : Bool) → length bs ≡ length ms → zip (ms ++ m ∷ []) (bs ++ b ∷ []) ≡ zip ms bs ++ (m, b) ∷ []
zip-more [] [] m b same = refl
zip-more [] (c ∷ bs) m b same = absurd (omega arith)
zip-more (n ∷ ms) [] m b same = absurd (omega arith)
zip-more (n ∷ ms) (c ∷ bs) m b same = ap (λ w. (n, c) ∷ w) (zip-more ms bs m b (omega arith))

all-more : (P : ℕ → Bool → Type 0) (ms : List ℕ) (bs : List Bool) (m : ℕ) (b : Bool) → AllZip P ms bs → P m b → AllZip P (ms ++ m ∷ []) (bs ++ b ∷ [])
all-more P [] [] m b all one = (one, tt)
all-more P [] (c ∷ bs) m b all one = absurd all
all-more P (n ∷ ms) [] m b all one = absurd all
all-more P (n ∷ ms) (c ∷ bs) m b all one = (all.0, all-more P ms bs m b all.1 one)

length-places : (a n : ℕ) → length (range_with_len a n) ≡ n
length-places a zero = refl
length-places a (suc n) = ap suc (length-places (a + 1) n)

map-append-one : (x : ℕ) (ps : List (ℕ × Bool)) (p : ℕ × Bool) → map (λ p. Judged x p.0 p.1) (ps ++ p ∷ []) ≡ map (λ p. Judged x p.0 p.1) ps ++ Judged x p.0 p.1 ∷ []
map-append-one x [] p = refl
map-append-one x (q ∷ ps) p = ap (λ w. Judged x q.0 q.1 ∷ w) (map-append-one x ps p)

entries-more : (x n : ℕ) (bs : List Bool) (b : Bool) → length bs ≡ n → judged_entries x (places (n + 1)) (bs ++ b ∷ []) ≡ judged_entries x (places n) bs ++ Judged x n b ∷ []
entries-more x n bs b same =
    ap (λ ms. judged_entries x ms (bs ++ b ∷ [])) (places-more 0 n)
    ∙ ap (map (λ p. Judged x p.0 p.1)) (zip-more (places n) bs (0 + n) b (same ∙ sym (length-places 0 n)))
    ∙ map-append-one x (zip (places n) bs) (0 + n, b)
    ∙ ap (λ k. judged_entries x (places n) bs ++ Judged x k b ∷ []) (omega arith)

pub none_judged : (x : ℕ) (helds : List Held) (kept : Kept) → AllJudged 0 x helds helds kept kept []
none_judged x helds kept = record {
  many = refl;
  found = λ openings L judges. tt;
  judge = λ openings L judges. subst (Judge openings helds) (sym (append-nil L)) judges;
  selects = λ L selects. subst (Selects kept) (sym (append-nil L)) selects;
  rest = refl;
  long = refl;
}

-- what the judges before found does not concern a master
earlier_none : (m x a n : ℕ) (bs : List Bool) → a + n ≤ m → AllByRecursion (λ e. concerns m e ≡ false) (judged_entries x (range_with_len a n) bs)
earlier_none m x a zero bs le = tt
earlier_none m x a (suc n) [] le = tt
earlier_none m x a (suc n) (b ∷ bs) le = (ne_eqb a m (omega arith), earlier_none m x (a + 1) n bs (omega arith))

pub one_more_judged : (n x : ℕ) (olds mids news : List Held) (old mid new : Kept) (bs : List Bool) (b : Bool)
    → AllJudged n x olds mids old mid bs → OneAsked x n mids news b → length news ≡ length mids
    → ((L : Record) → Selects mid L → Selects new (L ++ Judged x n b ∷ [])) → new ≡ record mid { selector = new.selector }
    → AllJudged (n + 1) x olds news old new (bs ++ b ∷ [])
one_more_judged n x olds mids news old mid new bs b all one long selects rest = record {
  many = length-append bs (b ∷ []) ∙ ap (λ k. k + 1) all.many;
  found = λ openings L judges.
      subst (λ ms. AllZip (λ m a. IsAssessment (opening_of openings m) (record_of m L) a) ms (bs ++ b ∷ [])) (sym (places-more 0 n))
      (all-more (λ m a. IsAssessment (opening_of openings m) (record_of m L) a) (places n) bs (0 + n) b (all.found openings L judges)
      (subst (λ k. IsAssessment (opening_of openings k) (record_of k L) b) (omega arith)
      (subst (λ own. IsAssessment (opening_of openings n) own b) (record_of-others n L (judged_entries x (places n) bs) (earlier_none n x 0 n bs (omega arith)))
      (one.found openings (L ++ judged_entries x (places n) bs) (all.judge openings L judges)))));
  judge = λ openings L judges. subst (Judge openings news) (joined L) (one.judge openings (L ++ judged_entries x (places n) bs) (all.judge openings L judges));
  selects = λ L h. subst (Selects new) (joined L) (selects (L ++ judged_entries x (places n) bs) (all.selects L h));
  rest = rest ∙ ap (λ (k : Kept). record k { selector = new.selector }) all.rest;
  long = long ∙ all.long;
}
  where
    joined : (L : Record) → (L ++ judged_entries x (places n) bs) ++ Judged x n b ∷ [] ≡ L ++ judged_entries x (places (n + 1)) (bs ++ b ∷ [])
    joined L = append_assoc L (judged_entries x (places n) bs) (Judged x n b ∷ []) ∙ ap (λ w. L ++ w) (sym (entries-more x n bs b all.many))

pub all_judged : (m n x : ℕ) (olds news : List Held) (old new : Kept) (bs : List Bool) → m ≡ n → AllJudged m x olds news old new bs → AllJudged n x olds news old new bs
all_judged m n x olds news old new bs same judged = subst (λ k. AllJudged k x olds news old new bs) same judged
