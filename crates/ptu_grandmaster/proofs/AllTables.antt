-- A step on all four tables and the book.
use Rattle.std.proofs.Common.{◌≡◌, ℕ, ◌+◌, ◌≤◌, ◌++◌, List, Bool, true, false, subst, arith, cond}
use Rattle.std.specs.Prelude.{◌==◌}
use Rattle.ptu_messages.specs.declared.tlv.Ask.{Ask}
use Rattle.ptu_units.specs.{declared.client.Client.{Client}, Client.{table_of}}
use Rattle.ptu_history.specs.Events as events
use Rattle.ptu_history.specs.{History.{Record}, Step.{step}, Verdict.{verdict}}
use Rattle.ptu_profile.specs.declared.grandmaster.GmConfig.{GmConfig}
use Rattle.ptu_shard.specs.Table.{Kept}
use Rattle.ptu_admit.specs.{declared.verdict.Verdict.{Verdict}, Book.{KeptBook}}
use Rattle.ptu_admit.specs.{Lent.{StandFor, four, moment_for}, Tables.{KeepsPort, fall_of}}
use Rattle.ptu_admit.specs.Verdict.{IsAt, ask_of, config_of, verdict_of}
use Rattle.ptu_admit.proofs.{Lending.{all_lent}, StepMoments.{moment-own}}
use Rattle.ptu_gm_messages.specs.Deciding.{asked_by, item_moment, opened_with}

module _ {P : Type 0} (config : GmConfig) (t : ℕ) (c : Client) (a b d e a' b' d' e' : Kept P) (book book' : KeptBook) (ask : Ask) (v : Verdict) where
  pub asked_all : IsAt (moment_for t book c (four a b d e)) v →
      ((opening : ℕ) (history : List Record) → StandFor opening (four a b d e) book history →
      verdict_of v ≡ verdict (config_of opening config) history (moment_for t book c (four a b d e)) c (ask_of ask)) →
      ((opening : ℕ) (history : List Record) → StandFor opening (four a b d e) book history →
      StandFor opening (four a' b' d' e') book' (history ++ (step (config_of opening config) history (moment_for t book c (four a b d e)) (events.Request c (ask_of ask))).records)) →
      (opening : ℕ) (history : List Record) → StandFor opening (four a b d e) book history →
      let x = item_moment history t c in
      (verdict_of v ≡ verdict (opened_with opening config) history x c (asked_by ask)) × IsAt x v
      × StandFor opening (four a' b' d' e') book' (history ++ (step (opened_with opening config) history x (events.Request c (asked_by ask))).records)
  asked_all at is stands opening history s =
      let x : ℕ = item_moment history t c in
      let same : moment_for t book c (four a b d e) ≡ x = moment-own opening t c (four a b d e) book history s (all_lent a b d e c) in
      let Is : ℕ → Type 0 = λ y. verdict_of v ≡ verdict (opened_with opening config) history y c (asked_by ask) in
      let At : ℕ → Type 0 = λ y. IsAt y v in
      let Stands : ℕ → Type 0 = λ y. StandFor opening (four a' b' d' e') book' (history ++ (step (opened_with opening config) history y (events.Request c (asked_by ask))).records) in
      (subst Is same (is opening history s), subst At same at, subst Stands same (stands opening history s))

fall-le : (b : Bool) → cond b 1 0 ≤ 1
fall-le true = omega arith
fall-le false = omega arith

pub spare_kept : {P : Type 0} (c : Client) (a b d e a' b' d' e' : Kept P) → KeepsPort (fall_of c 0) a a' → KeepsPort (fall_of c 1) b b' → KeepsPort (fall_of c 2) d d' → KeepsPort (fall_of c 3) e e' →
    (cond (table_of c == 0) a (cond (table_of c == 1) b (cond (table_of c == 2) d e))).spare ≤ (cond (table_of c == 0) a' (cond (table_of c == 1) b' (cond (table_of c == 2) d' e'))).spare + 1
spare_kept c a b d e a' b' d' e' k0 k1 k2 k3 = at (table_of c == 0) (table_of c == 1) (table_of c == 2)
  where
    first : a.spare ≤ a'.spare + 1
    first = let k = k0.spare in omega (arith, fall-le (table_of c == 0))

    second : b.spare ≤ b'.spare + 1
    second = let k = k1.spare in omega (arith, fall-le (table_of c == 1))

    third : d.spare ≤ d'.spare + 1
    third = let k = k2.spare in omega (arith, fall-le (table_of c == 2))

    last : e.spare ≤ e'.spare + 1
    last = let k = k3.spare in omega (arith, fall-le (table_of c == 3))

    at : (b0 b1 b2 : Bool) → (cond b0 a (cond b1 b (cond b2 d e))).spare ≤ (cond b0 a' (cond b1 b' (cond b2 d' e'))).spare + 1
    at true b1 b2 = first
    at false true b2 = second
    at false false true = third
    at false false false = last
