-- What the parts of a slave do in an event.
use Rattle.std.specs.declared.dyn_box.DynBox.{DynBox}
use Rattle.std.specs.Prelude.{◌≡◌, ℕ, Bool, true, false, List, [], ◌∷◌, ◌++◌, flat_map, length, Option, Some, None, option_map}
use Rattle.ptu_units.specs.declared.kind.Kind.{Kind}
use Rattle.ptu_record.specs.declared.{rule.Rule.{Rule}, wants.Wants.{Wants}}
use Rattle.ptu_record.specs.Lists.{places}
use Rattle.ptu_record.specs.Record.{Entry, Record, record_of, Asked, Judged, Cancelled, Sync, Told}
use Rattle.ptu_record.specs.{Judges.{AreAssessments, IsAssessment, opening_of}, Grants.{live_kinds}}
use Rattle.ptu_record.specs.Tick.{Sending, Cancels, one_signaling, requests_to, sending_entries, signaling_number}
use Rattle.ptu_record.specs.Step.{SlaveEvent, TakeSync, TellFlag, grant_entry, judged_entries, wanted_kind}
use Rattle.ptu_requester.specs.Requester.{all_cancels}
use Rattle.ptu_judges.specs.{Held.{Held}, Calls.{WasHeard, WasTold}}
use Rattle.ptu_slave_messages.specs.declared.signal.Signal.{Signal}
use Rattle.ptu_slave_messages.specs.declared.signal.Signal.TheVariants.{Grant, Denial, Cancel, Ack}
use Rattle.ptu_slave.specs.declared.asking.KindEntry.{KindEntry}
use Rattle.ptu_slave.specs.declared.asking.KindEntry.TheVariants as kind_entries
use Rattle.ptu_slave.specs.declared.judging.News.{News}
use Rattle.ptu_slave.specs.declared.judging.News.TheVariants as news
use Rattle.ptu_slave.specs.declared.ticks.Occasion.{Occasion}
use Rattle.ptu_slave.specs.declared.ticks.Occasion.TheVariants as occasions
use Rattle.ptu_slave.specs.{Kept.{Kept}, Standing.{Asks, Judge, Selects}}

-- ---- a Signaling

-- what is entered of what a master said
abbrev pub heard_entry : Wants → ℕ → ℕ → Signal → Option Entry
heard_entry wants x m (Grant k seconds) = Some (grant_entry x m seconds k)
heard_entry wants x m (Denial k) = Some (grant_entry x m 0 k)
heard_entry wants x m (Cancel code) = option_map (Cancelled x m) (wanted_kind wants code)
heard_entry wants x m (Ack code) = None

-- what is entered of a kind that a master is sent
abbrev pub kind_entry : KindEntry → ℕ → ℕ → Kind → Entry
kind_entry kind_entries.Asked = Asked
kind_entry kind_entries.Cancelled = Cancelled

-- ---- judges

-- what is entered of what a judge is told, and which event that is
abbrev pub news_entry : News → ℕ → ℕ → Entry
news_entry (news.Sync seq) x m = Sync x m seq
news_entry (news.Word unusable) x m = Told x m unusable

abbrev pub news_event : News → ℕ → SlaveEvent
news_event (news.Sync seq) m = TakeSync m seq
news_event (news.Word unusable) m = TellFlag m unusable

-- a boxed judge was told this
abbrev pub WasGiven : {X Z : Type 0} {F : X → Type 0} → ((j : DynBox X Z F) → ℕ → ℕ → F j.vtable → Type 0)
    → ((j : DynBox X Z F) → ℕ → Bool → F j.vtable → Type 0) → ℕ → News → (old new : DynBox X Z F) → Type 0
WasGiven hears is_told x (news.Sync seq) = WasHeard hears x seq
WasGiven hears is_told x (news.Word unusable) = WasTold is_told x unusable

-- the judge of a master was asked, and found this
pub record OneAsked (x m : ℕ) (olds news : List Held) (unusable : Bool) : Type 0 where
  pub found : (openings : List (Option Rule)) (L : Record) → Judge openings olds L → IsAssessment (opening_of openings m) (record_of m L) unusable
  pub judge : (openings : List (Option Rule)) (L : Record) → Judge openings olds L → Judge openings news (L ++ Judged x m unusable ∷ [])

-- the judge of a master was told of this entry and then asked, and found this
pub record OneJudged (x m : ℕ) (e : Entry) (olds news : List Held) (unusable : Bool) : Type 0 where
  pub found : (openings : List (Option Rule)) (L : Record) → Judge openings olds L → IsAssessment (opening_of openings m) (record_of m (L ++ e ∷ [])) unusable
  pub judge : (openings : List (Option Rule)) (L : Record) → Judge openings olds L → Judge openings news (L ++ e ∷ Judged x m unusable ∷ [])

-- the judges of the first masters were asked, and found this
pub record AllJudged (masters x : ℕ) (olds news : List Held) (old new : Kept) (assessments : List Bool) : Type 0 where
  pub many : length assessments ≡ masters
  pub found : (openings : List (Option Rule)) (L : Record) → Judge openings olds L → AreAssessments openings L (places masters) assessments
  pub judge : (openings : List (Option Rule)) (L : Record) → Judge openings olds L → Judge openings news (L ++ judged_entries x (places masters) assessments)
  pub selects : (L : Record) → Selects old L → Selects new (L ++ judged_entries x (places masters) assessments)
  pub rest : new ≡ record old { selector = new.selector }
  pub long : length news ≡ length olds

-- ---- ticks and the stop

-- the first masters were sent what a tick at x sends them
pub record AllAsked (masters x : ℕ) (old new : Kept) (sendings : List Sending) : Type 0 where
  pub stated : (L : Record) → Asks old L L → sendings ≡ flat_map (requests_to old.config.wants L x) (places masters)
  pub asks : (L : Record) → Asks old L L → Asks new (L ++ flat_map (sending_entries x) sendings) (L ++ flat_map (sending_entries x) sendings)
  pub rest : new ≡ record old { requester = new.requester; counters = new.counters }

-- what a tick at x sends; nothing after a stop
pub record Ticks (x : ℕ) (old new : Kept) (sendings : List Sending) : Type 0 where
  pub stated : (L : Record) → old.stopped ≡ false → Asks old L L → sendings ≡ flat_map (requests_to old.config.wants L x) (places (length old.masters))
  pub silent : old.stopped ≡ true → sendings ≡ []
  pub asks : (told L : Record) → (old.stopped ≡ false → told ≡ L) → Asks old told L → Asks new (told ++ flat_map (sending_entries x) sendings) (L ++ flat_map (sending_entries x) sendings)
  pub rest : new ≡ record old { requester = new.requester; counters = new.counters }

-- to the master a Signaling with a CANCEL for each grant that its requester holds for live
abbrev pub cancels_by : (told L : Record) → (x m : ℕ) → List Sending
cancels_by told L x m = one_signaling (Cancels m (signaling_number (record_of m L))) (live_kinds (record_of m told) x)

-- the first masters were sent what the stop at x sends them, and the requester was told that their grants are cancelled
pub record AllEnded (masters x : ℕ) (old new : Kept) (sendings : List Sending) : Type 0 where
  pub stated : (told L : Record) → Asks old told L → sendings ≡ flat_map (cancels_by told L x) (places masters)
  pub asks : (told L : Record) → Asks old told L → Asks new (told ++ all_cancels masters told x) (L ++ flat_map (sending_entries x) sendings)
  pub rest : new ≡ record old { requester = new.requester; counters = new.counters }

-- the first masters were sent what a tick or the stop at x sends them
abbrev pub AllSent : Occasion → (masters x : ℕ) → (old new : Kept) → List Sending → Type 0
AllSent occasions.Tick = AllAsked
AllSent occasions.Stop = AllEnded
