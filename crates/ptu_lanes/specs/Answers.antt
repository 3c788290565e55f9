-- What may answer the items of a datagram where the tables stand behind locks, and what is counted of it (IEEE 1588-2019
-- clause 16.1.4).
use Rattle.std.specs.Prelude.{◌≡◌, ◌⊎◌, ℕ, ◌+◌, ◌≤◌, min, if◌then◌else◌, List, [], ◌∷◌, Option, Some, None, IfSome, IsSome, Result, Ok, Err, IsOk}
use Rattle.std.specs.List.{sum_by}
use Rattle.ptu_units.specs.{declared.kind.Kind.{Kind}, Kind.{kind_of}}
use Rattle.ptu_units.specs.declared.client.Client.{Client}
use Rattle.ptu_history.specs.Verdict.{profile}
use Rattle.ptu_messages.specs.declared.tlv.{Ask.{Ask}, Tlv.{Tlv}}
use Rattle.ptu_messages.specs.declared.tlv.Tlv.TheVariants as tlv
use Rattle.ptu_profile.specs.declared.grandmaster.GmConfig.{GmConfig}
use Rattle.ptu_admit.specs.declared.ending.Cancelled.{Cancelled}
use Rattle.ptu_shared.specs.{Answers.{AnswersAsk}, Seats.{SeatCounts}}
use Rattle.ptu_gm_messages.specs.declared.item.{Item.{Item}, Item.TheVariants.{Request, Cancel}}
use Rattle.ptu_gm_messages.specs.{Deciding.{asked_by}, Replies.{denial_of, grant_of}}
use Rattle.ptu_grandmaster.specs.declared.outcome.Outcome.{Outcome}
use Rattle.ptu_grandmaster.specs.declared.outcome.Outcome.TheVariants as outcome

-- the ask is within the profile
abbrev pub IsWithin : Ask → Type 0
IsWithin ask = IsOk (profile (asked_by ask))

-- a REQUEST is answered by a denial or, where it is within the profile, by a grant of what was asked for, for the lesser of
-- the asked and the longest duration; a CANCEL is acknowledged
abbrev pub Fits : GmConfig → Item → Tlv → Type 0
Fits config (Request ask) answer =
    (answer ≡ denial_of ask) ⊎ (IsWithin ask × (answer ≡ grant_of ask (min ask.seconds config.max_duration)))
Fits config (Cancel code) answer = answer ≡ tlv.Ack code

-- one answer for each item, in order
abbrev pub FitEach : GmConfig → List Item → List Tlv → Type 0
FitEach config [] [] = Unit {0}
FitEach config (item ∷ items) (answer ∷ answers) = Fits config item answer × FitEach config items answers
FitEach config _ _ = ⊥

-- 1 for what was found, and 0 for a fault
abbrev pub one_if_ok : {A B : Type 0} → Result A B → ℕ
one_if_ok (Ok found) = 1
one_if_ok (Err fault) = 0

-- 1 for an ask within the profile, and 0 for all else
abbrev pub ask_count : Item → ℕ
ask_count (Request ask) = one_if_ok (profile (asked_by ask))
ask_count (Cancel code) = 0

-- how many of the items are asks within the profile
abbrev pub asks_among : List Item → ℕ
asks_among items = sum_by ask_count items

-- 1 for a grant, which has R set, and 0 for all else
abbrev pub grant_count : Tlv → ℕ
grant_count (tlv.Grant ask invited) = if invited then 1 else 0
grant_count _ = 0

-- how many of the answers are grants
abbrev pub grants_among : List Tlv → ℕ
grants_among answers = sum_by grant_count answers

-- the answers fit the items, and a seat has counted them: the grants, and all asks within the profile
pub record HasAnswered (config : GmConfig) (items : List Item) (answers : List Tlv) (old new : SeatCounts) : Type 0 where
  pub fit : FitEach config items answers
  pub granted : new.granted ≡ old.granted + grants_among answers
  pub refused : old.refused ≤ new.refused
  pub counted : new.granted + new.refused ≡ old.granted + old.refused + asks_among items

-- where the code is that of a kind, a cancel was decided, at a moment that is not before the one that was handed in
abbrev pub CancelFits : ℕ → Option Kind → Option Cancelled → Type 0
CancelFits t None cancelled = cancelled ≡ None
CancelFits t (Some kind) cancelled = IsSome cancelled × IfSome cancelled (λ c. t ≤ c.at)

-- an item of the client was decided so at the tables: the verdict answers its ask, where no greater capacity than `most` comes into
-- force, and what a CANCEL of a kind is answered shows that a cancel was decided
abbrev pub WasDecided : ℕ → GmConfig → ℕ → Client → Outcome → Type 0
WasDecided most config t client (outcome.Verdict ask verdict) = AnswersAsk most config t client ask verdict
WasDecided most config t client (outcome.Cancel code cancelled) = CancelFits t (kind_of code) cancelled
