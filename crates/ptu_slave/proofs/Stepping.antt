-- A slave that stands for a record, and one event more.
use Rattle.std.proofs.Common.{◌≡◌, ℕ, ◌≤◌, max, Bool, true, false, ◌||◌, List, ◌++◌, map, length, Option, refl, ap, sym, subst, ◌∙◌, arith, append_assoc}
use Rattle.std.proofs.lemmas.List.Folds.{list_any-append}
use Rattle.std.specs.List.{list_any}
use Rattle.std.proofs.Math.Bool.{or-false}
use Rattle.ptu_record.specs.{declared.rule.Rule.{Rule}, Lists.{maximum}}
use Rattle.ptu_record.specs.{Record.{Record, event_moment, moment_of, record_of}, Grants.{is_live}}
use Rattle.ptu_record.specs.{Judges.{AreAssessments}, Tick.{is_stop}}
use Rattle.ptu_record.specs.Step.{SlaveEvent, SlaveSetup, entries_by, judged_masters, judged_record, master_count, step_by}
use Rattle.ptu_record.proofs.StepParts.{step_moment}
use Rattle.ptu_judges.specs.Held.{Held}
use Rattle.ptu_slave.specs.Kept.{IsSame, Kept}
use Rattle.ptu_slave.specs.Standing.{Asks, Judge, SameGrants, Selects, StandsFor, StepsBy, setup_of}

-- what an event changes of a slave that is not of its parts
pub record Moves (old new : Kept) (at : ℕ) : Type 0 where
  pub config : new.config ≡ old.config
  pub masters : new.masters ≡ old.masters
  pub moment : new.moment ≡ at

pub same_of : (old new : Kept) (at : ℕ) → Moves old new at → IsSame old new
same_of old new at moves = record { config = moves.config; masters = moves.masters }

-- the moment of an event
pub moment_is : (openings : List (Option Rule)) (old : Kept) (judges : List Held) (L : Record) (t : ℕ) → StandsFor openings old judges L → max t old.moment ≡ event_moment L t
moment_is openings old judges L t h = ap (max t) h.moment

-- the moment of the record with the entries of the event
pub moment_after : (setup : SlaveSetup) (assessments : List Bool) (L : Record) (t at : ℕ) (e : SlaveEvent) → at ≡ event_moment L t
    → at ≡ maximum (map moment_of (L ++ (step_by setup assessments L t e).entries))
moment_after setup assessments L t at e is =
    least at (event_moment L t) (maximum (map moment_of (L ++ (step_by setup assessments L t e).entries))) is (step_moment setup assessments L t 0 e)
  where
    least : (at x g : ℕ) → at ≡ x → max 0 g ≡ max 0 x → at ≡ g
    least at x g is same = omega arith

-- more entries leave the same grants live
grants_more : (masters x y : ℕ) (told L E : Record) → x ≤ y → SameGrants masters x told L → SameGrants masters y (told ++ E) (L ++ E)
grants_more masters x y told L E le same = record {
  live = λ M t m k within from.
      ap (λ w. is_live k (record_of m w) t) (append_assoc told E M) ∙ same.live (E ++ M) t m k within (omega arith) ∙ ap (λ w. is_live k (record_of m w) t) (sym (append_assoc L E M));
}

-- the parts stand for the record with the entries of an event at x that is not the stop
pub record Entered (openings : List (Option Rule)) (old new : Kept) (judges news : List Held) (L : Record) (e : SlaveEvent) (assessments : List Bool) (x : ℕ) : Type 0 where
  pub unstopped : list_any is_stop (entries_by (setup_of old.config openings) assessments L x e) ≡ false
  pub found : AreAssessments openings (judged_record (setup_of old.config openings) L x e) (judged_masters (master_count (setup_of old.config openings)) e) assessments
  pub asks : (told : Record) → (old.stopped ≡ false → told ≡ L) → Asks old told L
      → Asks new (told ++ entries_by (setup_of old.config openings) assessments L x e) (L ++ entries_by (setup_of old.config openings) assessments L x e)
  pub selects : Selects new (L ++ entries_by (setup_of old.config openings) assessments L x e)
  pub judge : Judge openings news (L ++ entries_by (setup_of old.config openings) assessments L x e)

pub step_of : (openings : List (Option Rule)) (old new : Kept) (judges news : List Held) (L : Record) (t at : ℕ) (e : SlaveEvent) (assessments : List Bool)
    → StandsFor openings old judges L → at ≡ max t old.moment → Moves old new at → new.stopped ≡ old.stopped → length news ≡ length judges
    → Entered openings old new judges news L e assessments at → StepsBy assessments openings old new news L t e
step_of openings old new judges news L t at e assessments h is moves still long entered = (
  record {
    step = step_by setup assessments L t e;
    is_step = record { assessments = assessments; found = whole.found; taken = refl };
    stands = record {
      told = h.told ++ E;
      asks = whole.asks h.told h.told_all h.asks;
      selects = whole.selects;
      judge = whole.judge;
      moment = moves.moment ∙ moment_after setup assessments L t at e same;
      stopped = still ∙ h.stopped ∙ sym (list_any-append is_stop L E ∙ ap (λ b. list_any is_stop L || b) whole.unstopped ∙ or-false (list_any is_stop L));
      told_all = λ going. ap (λ w. w ++ E) (h.told_all (sym still ∙ going));
      grants = subst (λ n. SameGrants n new.moment (h.told ++ E) (L ++ E)) (ap length (sym moves.masters))
          (grants_more (length old.masters) old.moment new.moment h.told L E (later t old.moment new.moment (moves.moment ∙ is)) h.grants);
      each_judged = long ∙ h.each_judged ∙ ap length (sym moves.masters);
      each_opening = h.each_opening ∙ ap length (sym moves.masters);
    };
  },
  refl,
)
  where
    setup : SlaveSetup
    setup = setup_of old.config openings

    same : at ≡ event_moment L t
    same = is ∙ moment_is openings old judges L t h

    E : Record
    E = entries_by setup assessments L (event_moment L t) e

    whole : Entered openings old new judges news L e assessments (event_moment L t)
    whole = subst (Entered openings old new judges news L e assessments) same entered

    later : (t m n : ℕ) → n ≡ max t m → m ≤ n
    later t m n is = omega arith
