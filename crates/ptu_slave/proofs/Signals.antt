-- A Signaling that a slave takes.
use Rattle.std.proofs.Common.{◌≡◌, ℕ, max, Bool, true, false, cond, ◌||◌, List, [], ◌∷◌, ◌++◌, Option, Some, None, refl, ap, sym, subst, ◌∙◌, eqb}
use Rattle.std.proofs.lemmas.List.{append-nil}
use Rattle.std.specs.List.{AllByRecursion, cons_option, filter_map, flat_map, list_any}
use Rattle.std.specs.Option.{option_map}
use Rattle.ptu_units.specs.declared.kind.Kind.{Kind}
use Rattle.ptu_messages.specs.declared.tlv.Tlv.{Tlv}
use Rattle.ptu_messages.specs.declared.tlv.Tlv.TheVariants as tlv
use Rattle.ptu_record.specs.declared.{rule.Rule.{Rule}, wants.Wants.{Wants}}
use Rattle.ptu_record.specs.Record.{Entry, Record, Cancelled, Denied, Event, Granted}
use Rattle.ptu_record.specs.Tick.{is_stop, sending_entries}
use Rattle.ptu_record.specs.Step as step
use Rattle.ptu_record.specs.Step.{SlaveEvent, SlaveSetup, TakeSignaling, cancel_code, entries_by, grant_entry, one_reply, or_event, wanted_kind}
use Rattle.ptu_record.proofs.StepParts.{all_of, signals_all}
use Rattle.ptu_record.proofs.OwnParts.{reply_none}
use Rattle.ptu_select.specs.Watched.{is_watched}
use Rattle.ptu_judges.specs.Held.{Held}
use Rattle.ptu_slave_messages.specs.declared.signal.Signal.{Signal}
use Rattle.ptu_slave_messages.specs.declared.signal.Signal.TheVariants.{Denial, Grant}
use Rattle.ptu_slave_messages.specs.Heard.{grant_signal, said_by, signals_of}
use Rattle.ptu_slave.specs.{Kept.{Kept}, Parts.{heard_entry}}
use Rattle.ptu_slave.specs.Standing.{Asks, Selects, StandsFor, Steps, setup_of}
use Rattle.ptu_slave.proofs.Quiet.{Untold, asks_kept, judge_kept, selects_kept}
use Rattle.ptu_slave.proofs.Stepping.{Moves, step_of}

-- an event of which nothing else is entered
pub asks_or_event : (kept : Kept) (told L E : Record) (x : ℕ) → Asks kept (told ++ E) (L ++ E) → Asks kept (told ++ or_event x E) (L ++ or_event x E)
asks_or_event kept told L [] x h =
    asks_kept kept kept told L (Event x ∷ []) refl refl (record { no_negotiation = refl; uncounted = record { no_signaling = refl; no_delay_req = refl; no_moment = refl } }, tt)
    (subst (λ w. Asks kept w L) (append-nil told) (subst (Asks kept (told ++ [])) (append-nil L) h))
asks_or_event kept told L (e ∷ E) x h = h

pub none_stop : (E : Record) → AllByRecursion (λ e. is_stop e ≡ false) E → list_any is_stop E ≡ false
none_stop [] all = refl
none_stop (e ∷ E) all = ap (λ b. b || list_any is_stop E) all.0 ∙ none_stop E all.1

-- what is entered of a Signaling is entered of what is told of it
entered : (x m seconds : ℕ) (k : Kind) (wants : Wants) (b : Bool) → eqb seconds 0 ≡ b → Some (grant_entry x m seconds k) ≡ heard_entry wants x m (grant_signal seconds k)
entered x m seconds k wants true zero = ap (λ b. Some (cond b (Denied x m k) (Granted x m k seconds))) zero ∙ sym (ap (λ b. heard_entry wants x m (cond b (Denial k) (Grant k seconds))) zero)
entered x m seconds k wants false more =
    sym (ap (λ b. heard_entry wants x m (cond b (Denial k) (Grant k seconds))) more)

signals_enter : (wants : Wants) (x m : ℕ) (tlvs : List Tlv) → filter_map (step.signal_entry wants x m) (filter_map said_by tlvs) ≡ filter_map (heard_entry wants x m) (signals_of wants tlvs)
signals_enter wants x m [] = refl
signals_enter wants x m (tlv.Request ask ∷ tlvs) = signals_enter wants x m tlvs
signals_enter wants x m (tlv.Grant ask invited ∷ tlvs) = by (wanted_kind wants ask.code) (signals_enter wants x m tlvs)
  where
    by : (o : Option Kind) → filter_map (step.signal_entry wants x m) (filter_map said_by tlvs) ≡ filter_map (heard_entry wants x m) (signals_of wants tlvs)
        → cons_option (option_map (grant_entry x m ask.seconds) o) (filter_map (step.signal_entry wants x m) (filter_map said_by tlvs))
        ≡ filter_map (heard_entry wants x m) (cons_option (option_map (grant_signal ask.seconds) o) (signals_of wants tlvs))
    by None same = same
    by (Some k) same =
        ap (λ w. grant_entry x m ask.seconds k ∷ w) same
        ∙ ap (λ o. cons_option o (filter_map (heard_entry wants x m) (signals_of wants tlvs))) (entered x m ask.seconds k wants (eqb ask.seconds 0) refl)
signals_enter wants x m (tlv.Cancel code ∷ tlvs) = ap (cons_option (option_map (Cancelled x m) (wanted_kind wants code))) (signals_enter wants x m tlvs)
signals_enter wants x m (tlv.Ack code ∷ tlvs) = signals_enter wants x m tlvs
signals_enter wants x m (tlv.Other t n ∷ tlvs) = signals_enter wants x m tlvs

-- what it enters is nothing that a judge is told of, and so on
module _ (wants : Wants) (x m : ℕ) where
  every : (P : Entry → Type 0) → ((k : Kind) → P (Denied x m k)) → ((seconds : ℕ) (k : Kind) → P (Granted x m k seconds)) → ((k : Kind) → P (Cancelled x m k))
      → (signals : List step.Signal) → AllByRecursion P (filter_map (step.signal_entry wants x m) signals)
  every P denied granted cancelled signals = signals_all P wants x m (λ seconds k. by (eqb seconds 0) seconds k) cancelled signals
    where
      by : (b : Bool) (seconds : ℕ) (k : Kind) → P (cond b (Denied x m k) (Granted x m k seconds))
      by true seconds k = denied k
      by false seconds k = granted seconds k

  untold : (signals : List step.Signal) → AllByRecursion Untold (filter_map (step.signal_entry wants x m) signals)
  untold signals = every Untold (λ k. record { no_judge = refl; no_rule = refl; no_word = refl; no_sync = refl }) (λ seconds k. record { no_judge = refl; no_rule = refl; no_word = refl; no_sync = refl }) (λ k. record { no_judge = refl; no_rule = refl; no_word = refl; no_sync = refl }) signals

  unwatched : (signals : List step.Signal) → AllByRecursion (λ e. is_watched e ≡ false) (filter_map (step.signal_entry wants x m) signals)
  unwatched signals = every (λ e. is_watched e ≡ false) (λ k. refl) (λ seconds k. refl) (λ k. refl) signals

  unstopped : (signals : List step.Signal) → AllByRecursion (λ e. is_stop e ≡ false) (filter_map (step.signal_entry wants x m) signals)
  unstopped signals = every (λ e. is_stop e ≡ false) (λ k. refl) (λ seconds k. refl) (λ k. refl) signals

module _ (setup : SlaveSetup) (L : Record) (x m number : ℕ) (signals : List step.Signal) where
  all_entries : (P : Entry → Type 0) → AllByRecursion P (filter_map (step.signal_entry setup.wants x m) signals) → P (Event x) → AllByRecursion P (entries_by setup [] L x (TakeSignaling m number signals))
  all_entries P own none =
      all_of P setup [] L x (TakeSignaling m number signals) own tt
      (subst (AllByRecursion P) (sym (reply_none x m number (filter_map cancel_code signals))) tt) tt none

  entries_are : entries_by setup [] L x (TakeSignaling m number signals) ≡ or_event x (filter_map (step.signal_entry setup.wants x m) signals)
  entries_are =
      ap (or_event x)
      (append-nil ((F ++ []) ++ flat_map (sending_entries x) (one_reply m number (filter_map cancel_code signals)))
      ∙ ap (λ w. (F ++ []) ++ w) (reply_none x m number (filter_map cancel_code signals)) ∙ append-nil (F ++ []) ∙ append-nil F)
    where
      F : Record
      F = filter_map (step.signal_entry setup.wants x m) signals

pub signalled : (openings : List (Option Rule)) (old new : Kept) (judges : List Held) (L : Record) (t at m number : ℕ) (tlvs : List Tlv) → at ≡ max t old.moment → Moves old new at → new.stopped ≡ old.stopped
    → ((told : Record) → Asks old told L → Asks new (told ++ filter_map (heard_entry old.config.wants at m) (signals_of old.config.wants tlvs)) (L ++ filter_map (heard_entry old.config.wants at m) (signals_of old.config.wants tlvs)))
    → Selects new L → StandsFor openings old judges L → Steps openings old new judges L t (TakeSignaling m number (filter_map said_by tlvs))
signalled openings old new judges L t at m number tlvs is moves still asks selects h =
    (step_of openings old new judges judges L t at (TakeSignaling m number signals) [] h is moves still refl (record {
      unstopped = none_stop E (all_entries setup L at m number signals (λ e. is_stop e ≡ false) (unstopped old.config.wants at m signals) refl);
      found = tt;
      asks = λ told same a. subst (λ w. Asks new (told ++ w) (L ++ w)) (sym whole) (asks_or_event new told L F at (asks told a));
      selects = selects_kept new L E (all_entries setup L at m number signals (λ e. is_watched e ≡ false) (unwatched old.config.wants at m signals) refl) selects;
      judge = judge_kept openings judges L E (all_entries setup L at m number signals Untold (untold old.config.wants at m signals) (record { no_judge = refl; no_rule = refl; no_word = refl; no_sync = refl })) h.judge;
    })).0
  where
    setup : SlaveSetup
    setup = setup_of old.config openings

    signals : List step.Signal
    signals = filter_map said_by tlvs

    E : Record
    E = entries_by setup [] L at (TakeSignaling m number signals)

    F : Record
    F = filter_map (heard_entry old.config.wants at m) (signals_of old.config.wants tlvs)

    whole : E ≡ or_event at F
    whole = entries_are setup L at m number signals ∙ ap (or_event at) (signals_enter old.config.wants at m tlvs)

-- by what its parts do
pub heard : (openings : List (Option Rule)) (old mid new : Kept) (judges : List Held) (L : Record) (t at m number : ℕ) (tlvs : List Tlv) (said : List Signal) → at ≡ max t old.moment
    → mid ≡ record old { moment = at } → new ≡ record mid { requester = new.requester; counters = new.counters } → said ≡ signals_of old.config.wants tlvs
    → ((told M : Record) → Asks mid told M → Asks new (told ++ filter_map (heard_entry mid.config.wants at m) said) (M ++ filter_map (heard_entry mid.config.wants at m) said))
    → StandsFor openings old judges L → Steps openings old new judges L t (TakeSignaling m number (filter_map said_by tlvs))
heard openings old mid new judges L t at m number tlvs said is first second are asks h =
    signalled openings old new judges L t at m number tlvs is
    (record {
      config = config;
      masters = ap (λ (k : Kept). k.masters) second ∙ ap (λ (k : Kept). k.masters) first;
      moment = ap (λ (k : Kept). k.moment) second ∙ ap (λ (k : Kept). k.moment) first;
    })
    (ap (λ (k : Kept). k.stopped) second ∙ ap (λ (k : Kept). k.stopped) first)
    (λ told a. subst (λ w. Asks new (told ++ w) (L ++ w)) same
    (asks told L (subst (λ k. Asks k told L) (sym first) (record { requester = a.requester; counters = a.counters }))))
    (subst (λ k. Selects k L) (sym (second ∙ ap (λ (k : Kept). record k { requester = new.requester; counters = new.counters }) first)) h.selects) h
  where
    config : new.config ≡ old.config
    config = ap (λ (k : Kept). k.config) second ∙ ap (λ (k : Kept). k.config) first

    same : filter_map (heard_entry mid.config.wants at m) said ≡ filter_map (heard_entry old.config.wants at m) (signals_of old.config.wants tlvs)
    same = ap (λ (k : Kept). filter_map (heard_entry k.config.wants at m) said) first ∙ ap (filter_map (heard_entry old.config.wants at m)) are
