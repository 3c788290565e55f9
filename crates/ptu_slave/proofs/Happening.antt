-- The events of a slave, by what its parts do.
use Rattle.std.proofs.Common.{◌≡◌, ℕ, max, Bool, List, [], ◌∷◌, ◌++◌, length, map, Option, refl, ap, sym, subst, ◌∙◌, append_assoc}
use Rattle.std.proofs.lemmas.List.{length-map}
use Rattle.ptu_record.specs.declared.rule.Rule.{Rule}
use Rattle.ptu_record.specs.Record.{Entry, Record, Announce, Event, Judge as J, Judged, Resp, Sync as S, Told as T}
use Rattle.ptu_record.specs.Step.{SlaveEvent, TakeAnnounce, TakeDelayResp, TakeFollowUp, TakeSync, TellFlag, ReplaceJudge}
use Rattle.ptu_judges.specs.Held.{Held}
use Rattle.ptu_slave.specs.{Kept.{Kept}, declared.judging.News.{News}}
use Rattle.ptu_slave.specs.declared.judging.News.TheVariants as said
use Rattle.ptu_slave.specs.Parts.{OneJudged, news_entry, news_event}
use Rattle.ptu_slave.specs.Standing.{Asks, Judge, Selects, Shows, StandsFor, StepsBy, StepsFound, Takes}
use Rattle.ptu_slave.specs.{Seen.{Seen}, Events.{HasJudged}}
use Rattle.ptu_slave.proofs.Quiet.{Unasked, Untold, asks_kept, judge_kept, selects_kept}
use Rattle.ptu_slave.proofs.Stepping.{Entered, Moves, same_of, step_of}

-- the slave is as before, but for its moment and its selector
pub record Begun (old new : Kept) (at : ℕ) : Type 0 where
  pub moves : Moves old new at
  pub stopped : new.stopped ≡ old.stopped
  pub requester : new.requester ≡ old.requester
  pub counters : new.counters ≡ old.counters

pub begun_by : (old mid new : Kept) (at : ℕ) → mid ≡ record old { moment = at } → new ≡ record mid { selector = new.selector } → Begun old new at
begun_by old mid new at first second = record {
  moves = record {
    config = ap (λ (k : Kept). k.config) second ∙ ap (λ (k : Kept). k.config) first;
    masters = ap (λ (k : Kept). k.masters) second ∙ ap (λ (k : Kept). k.masters) first;
    moment = ap (λ (k : Kept). k.moment) second ∙ ap (λ (k : Kept). k.moment) first;
  };
  stopped = ap (λ (k : Kept). k.stopped) second ∙ ap (λ (k : Kept). k.stopped) first;
  requester = ap (λ (k : Kept). k.requester) second ∙ ap (λ (k : Kept). k.requester) first;
  counters = ap (λ (k : Kept). k.counters) second ∙ ap (λ (k : Kept). k.counters) first;
}

-- what it selects by is as before where moment alone changed
pub selects_begun : (old mid : Kept) (at : ℕ) (L : Record) → mid ≡ record old { moment = at } → Selects old L → Selects mid L
selects_begun old mid at L first h = subst (λ k. Selects k L) (sym first) h

-- from a slave that has begun, by what it selects by then
module _ (old mid new : Kept) (t at : ℕ) (is : at ≡ max t old.moment) (first : mid ≡ record old { moment = at }) (rest : new ≡ record mid { selector = new.selector }) where
  begun : Begun old new at
  begun = begun_by old mid new at first rest

  -- an entry that no judge is told of and no ask follows from
  plain_event : (e : SlaveEvent) (entry : Entry) → Unasked entry → Untold entry → Shows mid new entry
      → ((openings : List (Option Rule)) (judges : List Held) (L : Record) → ((told : Record) → Asks old told L → Asks new (told ++ entry ∷ []) (L ++ entry ∷ []))
      → Selects new (L ++ entry ∷ []) → Judge openings judges (L ++ entry ∷ []) → Entered openings old new judges judges L e [] at) → Takes t e old new at
  plain_event e entry unasked untold selects enters = record {
    at = is;
    same = same_of old new at begun.moves;
    steps = λ openings judges L h. (step_of openings old new judges judges L t at e [] h is begun.moves begun.stopped refl
        (enters openings judges L (λ told asks. asks_kept old new told L (entry ∷ []) begun.requester begun.counters (unasked, tt) asks)
        (selects L (selects_begun old mid at L first h.selects)) (judge_kept openings judges L (entry ∷ []) (untold, tt) h.judge))).0;
  }

  pub announced : (m class : ℕ) → Shows mid new (Announce at m class) → Takes t (TakeAnnounce m class) old new at
  announced m class selects = plain_event (TakeAnnounce m class) (Announce at m class) (record { no_negotiation = refl; uncounted = record { no_signaling = refl; no_delay_req = refl; no_moment = refl } }) (record { no_judge = refl; no_rule = refl; no_word = refl; no_sync = refl }) selects
      (λ openings judges L asks selects judge. record { unstopped = refl; found = tt; asks = λ told same a. asks told a; selects = selects; judge = judge })

  pub responded : (m number : ℕ) → Shows mid new (Resp at m number) → Takes t (TakeDelayResp m number) old new at
  responded m number selects = plain_event (TakeDelayResp m number) (Resp at m number) (record { no_negotiation = refl; uncounted = record { no_signaling = refl; no_delay_req = refl; no_moment = refl } }) (record { no_judge = refl; no_rule = refl; no_word = refl; no_sync = refl }) selects
      (λ openings judges L asks selects judge. record { unstopped = refl; found = tt; asks = λ told same a. asks told a; selects = selects; judge = judge })

  pub followed_up : (m : ℕ) → Shows mid new (Event at) → Takes t (TakeFollowUp m) old new at
  followed_up m selects = plain_event (TakeFollowUp m) (Event at) (record { no_negotiation = refl; uncounted = record { no_signaling = refl; no_delay_req = refl; no_moment = refl } }) (record { no_judge = refl; no_rule = refl; no_word = refl; no_sync = refl }) selects
      (λ openings judges L asks selects judge. record { unstopped = refl; found = tt; asks = λ told same a. asks told a; selects = selects; judge = judge })

  -- an entry that a judge is told of, and what it finds; between the two this is kept
  judged_event : (olds news : List Held) (m : ℕ) (e : SlaveEvent) (entry : Entry) (unusable : Bool) (between : Kept) → Unasked entry
      → ((openings : List (Option Rule)) (L : Record) → OneJudged at m entry olds news unusable → Selects new (L ++ entry ∷ Judged at m unusable ∷ [])
      → (asks : (told : Record) → Asks old told L → Asks new (told ++ entry ∷ Judged at m unusable ∷ []) (L ++ entry ∷ Judged at m unusable ∷ []))
      → StandsFor openings old olds L → Entered openings old new olds news L e (unusable ∷ []) at)
      → OneJudged at m entry olds news unusable → Shows mid between entry → Shows between new (Judged at m unusable) → length news ≡ length olds
      → (openings : List (Option Rule)) (L : Record) → StandsFor openings old olds L → StepsBy (unusable ∷ []) openings old new news L t e
  judged_event olds news m e entry unusable between quiet enters judged shows finds long openings L h =
      step_of openings old new olds news L t at e (unusable ∷ []) h is begun.moves begun.stopped long
      (enters openings L judged
      (subst (Selects new) (append_assoc L (entry ∷ []) (Judged at m unusable ∷ [])) (finds (L ++ entry ∷ []) (shows L (selects_begun old mid at L first h.selects))))
      (λ told asks. asks_kept old new told L (entry ∷ Judged at m unusable ∷ []) begun.requester begun.counters (quiet, (record { no_negotiation = refl; uncounted = record { no_signaling = refl; no_delay_req = refl; no_moment = refl } }, tt)) asks) h)

  -- its judge is told this of the master
  pub told : (olds news : List Held) (m : ℕ) (said : News) (unusable : Bool) (between : Kept) → OneJudged at m (news_entry said at m) olds news unusable
      → Shows mid between (news_entry said at m) → Shows between new (Judged at m unusable) → length news ≡ length olds
      → (openings : List (Option Rule)) (L : Record) → StandsFor openings old olds L → StepsBy (unusable ∷ []) openings old new news L t (news_event said m)
  told olds news m (said.Sync number) unusable between = judged_event olds news m (TakeSync m number) (S at m number) unusable between (record { no_negotiation = refl; uncounted = record { no_signaling = refl; no_delay_req = refl; no_moment = refl } })
      (λ openings L judged selects asks h. record { unstopped = refl; found = (judged.found openings L h.judge, tt); asks = λ told same a. asks told a; selects = selects; judge = judged.judge openings L h.judge })
  told olds news m (said.Word word) unusable between = judged_event olds news m (TellFlag m word) (T at m word) unusable between (record { no_negotiation = refl; uncounted = record { no_signaling = refl; no_delay_req = refl; no_moment = refl } })
      (λ openings L judged selects asks h. record { unstopped = refl; found = (judged.found openings L h.judge, tt); asks = λ told same a. asks told a; selects = selects; judge = judged.judge openings L h.judge })

  -- another judge takes the master over
  pub replaced : (olds news : List Held) (m : ℕ) (rule : Option Rule) (unusable : Bool) → OneJudged at m (J at m rule) olds news unusable
      → Shows mid new (Judged at m unusable) → length news ≡ length olds
      → (openings : List (Option Rule)) (L : Record) → StandsFor openings old olds L → StepsBy (unusable ∷ []) openings old new news L t (ReplaceJudge m rule)
  replaced olds news m rule unusable judged finds = judged_event olds news m (ReplaceJudge m rule) (J at m rule) unusable mid (record { no_negotiation = refl; uncounted = record { no_signaling = refl; no_delay_req = refl; no_moment = refl } })
      (λ openings L judged selects asks h. record { unstopped = refl; found = (judged.found openings L h.judge, tt); asks = λ told same a. asks told a; selects = selects; judge = judged.judge openings L h.judge })
      judged (λ L. selects_kept mid L (J at m rule ∷ []) (refl, tt)) finds

-- lists of the same length
pub same_length : {A B : Type 0} (f : A → B) (xs ys : List A) → length xs ≡ length ys → length (map f xs) ≡ length (map f ys)
same_length f xs ys same = length-map xs f ∙ same ∙ sym (length-map ys f)

-- what is seen of a slave after a judge was called
pub judged_by : {P B : Type 0} (Calls : Bool → List B → List B → Type 0) (t : ℕ) (e : SlaveEvent) (old new : Seen P B)
    → StepsFound Calls old.boxes new.boxes old.kept new.kept old.judges new.judges t e → new.port ≡ old.port → HasJudged Calls t e old new
judged_by Calls t e old new judged port = record { steps = λ openings L h. (judged.2 openings L h).0; judged = judged; port = port }
