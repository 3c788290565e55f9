-- A verdict that was found at a moment answers its ask.
use Rattle.std.proofs.Common.{◌≡◌, ℕ, ◌+◌, ◌*◌, ◌≤◌, ◌<◌, min, Bool, true, false, refl, sym, arith, Ok, Err, Result, Option, Some, None}
use Rattle.std.specs.{Prelude.{nat_le, if◌then◌else◌, IfSome}, Option.{option_map}}
use Rattle.std.proofs.lemmas.Bool.Decides.{nat_tests}
use Rattle.ptu_units.specs.{declared.kind.Kind.{Kind}, Log.{rate_of}}
use Rattle.ptu_units.specs.declared.client.Client.{Client}
use Rattle.ptu_history.specs.Verdict as history
use Rattle.ptu_history.specs.Verdict.{GrantedFor, OutsideCause, ShortOf, profile}
use Rattle.ptu_messages.specs.declared.tlv.Ask.{Ask}
use Rattle.ptu_profile.specs.declared.grandmaster.GmConfig.{GmConfig}
use Rattle.ptu_admit.specs.declared.verdict.Verdict.{Verdict}
use Rattle.ptu_admit.specs.declared.verdict.Verdict.TheVariants.{Granted, Short, Outside}
use Rattle.ptu_admit.specs.Verdict.{IsAt, IsFor, ask_of, config_of, unless_short, verdict_beside, verdict_by, verdict_of}
use Rattle.ptu_shared.specs.Answers.{AnswersAsk}

-- what does not fit is above the capacity
above_of : (sum capacity : ℕ) → nat_le sum capacity ≡ false → capacity < sum
above_of sum capacity not_within = grind (arith, nat_tests)

some_unless : (w v : history.Verdict) → unless_short w ≡ Some v → w ≡ v
some_unless (history.GrantedFor k l seconds until) v is = cc
some_unless (history.ShortOf k l others rate capacity) v is = absurd (cc)
some_unless (history.Outside cause) v is = cc

module _ (most : ℕ) (config : GmConfig) (t n capacity : ℕ) (client : Client) (ask : Ask) (later : t ≤ n) (within : capacity ≤ most) where
  -- by whether the ask fits
  by_fit : (fits : Bool) (o : ℕ) (k : Kind) (v : Verdict) → nat_le (o + rate_of ask.log) capacity ≡ fits → profile (ask_of ask) ≡ Ok k → IsAt n v → IsFor client v →
      verdict_of v ≡ (if fits then GrantedFor k ask.log (min ask.seconds config.max_duration) (n + min ask.seconds config.max_duration * 1000000000) else ShortOf k ask.log o (rate_of ask.log) capacity) →
      AnswersAsk most config t client ask v
  by_fit true o k (Granted g) test kind at whose is =
      let same_kind : g.kind ≡ k = cc in
      let log : g.log ≡ ask.log = cc in
      let seconds : g.seconds ≡ min ask.seconds config.max_duration = cc in
      let until : g.until ≡ n + min ask.seconds config.max_duration * 1000000000 = cc in
      record { whose = whose; profile = cc; log = log; seconds = seconds; at = omega arith; until = cc }
  by_fit false o k (Short s) test kind at whose is =
      let same_kind : s.kind ≡ k = cc in
      let log : s.log ≡ ask.log = cc in
      let others : s.others ≡ o = cc in
      let rate : s.rate ≡ rate_of ask.log = cc in
      let top : s.capacity ≡ capacity = cc in
      let above : capacity < o + rate_of ask.log = above_of (o + rate_of ask.log) capacity test in
      record { profile = cc; log = log; rate = rate; at = omega arith; capacity = omega arith; above = omega arith }
  by_fit true o k (Short s) test kind at whose is = absurd (cc)
  by_fit true o k (Outside cause) test kind at whose is = absurd (cc)
  by_fit false o k (Granted g) test kind at whose is = absurd (cc)
  by_fit false o k (Outside cause) test kind at whose is = absurd (cc)

  -- by the profile of the ask
  by_profile : (p : Result Kind OutsideCause) (others : Kind → ℕ) (v : Verdict) → profile (ask_of ask) ≡ p → IsAt n v → IsFor client v →
      verdict_of v ≡ verdict_by p (config_of capacity config) others n (ask_of ask) → AnswersAsk most config t client ask v
  by_profile (Err cause) others (Granted g) e at whose is = absurd (cc)
  by_profile (Err cause) others (Short s) e at whose is = absurd (cc)
  by_profile (Err cause) others (Outside c) e at whose is = cc
  by_profile (Ok k) others v e at whose is = by_fit (nat_le (others k + rate_of ask.log) capacity) (others k) k v refl e at whose is

  pub answers_ask : (others : Kind → ℕ) (v : Verdict) → IsAt n v → IsFor client v → verdict_of v ≡ verdict_beside (config_of capacity config) others n (ask_of ask) → AnswersAsk most config t client ask v
  answers_ask others v at whose is = by_profile (profile (ask_of ask)) others v refl at whose is

  -- an answer that is not short
  pub answers_one : (others : Kind → ℕ) (o : Option Verdict) → IfSome o (IsAt n) → IfSome o (IsFor client) →
      option_map verdict_of o ≡ unless_short (verdict_beside (config_of capacity config) others n (ask_of ask)) → IfSome o (AnswersAsk most config t client ask)
  answers_one others None at whose is = tt
  answers_one others (Some v) at whose is = answers_ask others v at whose (sym (some_unless (verdict_beside (config_of capacity config) others n (ask_of ask)) (verdict_of v) (sym is)))
