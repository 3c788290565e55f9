use Rattle.std.proofs.Common.{◌≡◌, ◌∙◌, ◌-◌, ◌≤◌, ◌++◌, ℕ, max, ap, arith, subst, sym}
use Rattle.ptu_units.specs.Client.{table_of}
use Rattle.ptu_history.specs.{History.{capacity_in_force}, Moments.{book_moment}}
use Rattle.ptu_history.specs.{Verdict.{others, verdict}, Step.{verdict_records}}
use Rattle.ptu_history.proofs.Verdicts.{book_moment-verdict, verdict-outside}
use Rattle.ptu_admit.specs.Lent.{EachStandsAt, four, live_others, moment_for, moment_of_lent, rows_of_lent}
use Rattle.ptu_admit.specs.Rows.{kept_rate}
use Rattle.ptu_admit.specs.Verdict.{ask_of, cause_of, config_of, verdict_by, verdict_of, verdict_on}
use Rattle.ptu_admit.proofs.{Alone.{alone_asked, alone_same}, Lending.{are_at, four_swept}}
use Rattle.ptu_admit.proofs.Verdicts.{FourDistinct, capacity-verdict, four_stand, ok_profile, others-is, others_swept, outside_stands, verdict-beside, verdict-same}
use Rattle.ptu_admit.proofs.asking.decide_all.Goals as goal

pub returns-in-Err-clause-verdict : goal.returns-in-Err-clause-verdict
returns-in-Err-clause-verdict g c = λ opening h s.
    sym (verdict-outside (config_of opening c.args.config.now) h (moment_for c.args.t c.args.book.now c.args.client.now (four c.args.s0.now c.args.s1.now c.args.s2.now c.args.s3.now)) c.args.client.now
    (cause_of c.in-Err.outside) (ask_of c.args.ask.now) c.in-Err.ensures.outside)

pub returns-in-Err-clause-stands : goal.returns-in-Err-clause-stands
returns-in-Err-clause-stands g c = λ opening h s.
    outside_stands opening (four c.args.s0.now c.args.s1.now c.args.s2.now c.args.s3.now) c.args.book.now h (config_of opening c.args.config.now)
    (moment_for c.args.t c.args.book.now c.args.client.now (four c.args.s0.now c.args.s1.now c.args.s2.now c.args.s3.now)) c.args.client.now (ask_of c.args.ask.now) (cause_of c.in-Err.outside) s c.in-Err.ensures.outside

pub returns-clause-answer : goal.returns-clause-answer
returns-clause-answer g c =
    let lent = four c.args.s0.now c.args.s1.now c.args.s2.now c.args.s3.now in
    let client = c.args.client.now in
    let config = c.args.config.now in
    let w = c.in-Ok.wanted in
    let n : ℕ = moment_for c.args.t c.args.book.now client lent in
    let at : ℕ = c.latest-at.result in
    let at_is : at ≡ n =
    c.latest-at.ensures ∙ ap (λ m. max c.args.t m) (c.latest.ensures ∙ ap (λ m. max m c.moment_in.result) c.now.ensures ∙ ap (λ m. max c.args.book.now.moment m) c.moment_in.ensures) in
    let top : ℕ = c.args.book.now.capacity in
    let own = rows_of_lent (table_of client) (four c.sweep_all.new.s0 c.sweep_all.new.s1 c.sweep_all.new.s2 c.sweep_all.new.s3) in
    let old : FourDistinct c.args.s0.now c.args.s1.now c.args.s2.now c.args.s3.now =
    record { first = c.sweep_all.ensures.before.0; second = c.sweep_all.ensures.before.1; third = c.sweep_all.ensures.before.2; fourth = c.sweep_all.ensures.before.3 } in
    let new : FourDistinct c.sweep_all.new.s0 c.sweep_all.new.s1 c.sweep_all.new.s2 c.sweep_all.new.s3 =
    record { first = c.sweep_all.ensures.after.0; second = c.sweep_all.ensures.after.1; third = c.sweep_all.ensures.after.2; fourth = c.sweep_all.ensures.after.3 } in
    c.decide_among.ensures.answer
    ∙ ap (λ b. verdict_on (config_of b.capacity config) (b.total - kept_rate client w.kind own) at w.kind w.log w.seconds) c.sweep_all.ensures.book
    ∙ ap (λ o. verdict_on (config_of top config) o at w.kind w.log w.seconds) (others_swept at client w.kind c.args.s0.now c.args.s1.now c.args.s2.now c.args.s3.now c.sweep_all.new.s0 c.sweep_all.new.s1 c.sweep_all.new.s2 c.sweep_all.new.s3
    c.sweep_all.ensures.s0 c.sweep_all.ensures.s1 c.sweep_all.ensures.s2 c.sweep_all.ensures.s3 old new)
    ∙ ap (λ m. verdict_on (config_of top config) (live_others m lent client w.kind) m w.kind w.log w.seconds) at_is
    ∙ ap (λ l. verdict_on (config_of top config) (live_others n lent client w.kind) n w.kind l w.seconds) c.in-Ok.ensures.within.1
    ∙ ap (λ d. verdict_on (config_of top config) (live_others n lent client w.kind) n w.kind c.args.ask.now.log d) c.in-Ok.ensures.within.2
    ∙ sym (ap (λ p. verdict_by p (config_of top config) (live_others n lent client) n (ask_of c.args.ask.now)) c.in-Ok.ensures.within.0)

pub returns-clause-verdict : goal.returns-clause-verdict
returns-clause-verdict g c = λ opening h s.
    let lent = four c.args.s0.now c.args.s1.now c.args.s2.now c.args.s3.now in
    let client = c.args.client.now in
    let n : ℕ = moment_for c.args.t c.args.book.now client lent in
    let le : book_moment h ≤ n = let now = s.moment in omega arith in
    let old : FourDistinct c.args.s0.now c.args.s1.now c.args.s2.now c.args.s3.now =
    record { first = c.sweep_all.ensures.before.0; second = c.sweep_all.ensures.before.1; third = c.sweep_all.ensures.before.2; fourth = c.sweep_all.ensures.before.3 } in
    returns-clause-answer g c
    ∙ verdict-same c.args.config.now n c.args.book.now.capacity (capacity_in_force opening h) (live_others n lent client) (λ k. others h n client k) (ask_of c.args.ask.now) s.capacity
    (λ k. others-is (book_moment h) n h client k c.args.s0.now c.args.s1.now c.args.s2.now c.args.s3.now s.tables le old)
    ∙ sym (verdict-beside opening n c.args.config.now h client (ask_of c.args.ask.now))

pub returns-clause-stands : goal.returns-clause-stands
returns-clause-stands g c = λ opening h s.
    let lent = four c.args.s0.now c.args.s1.now c.args.s2.now c.args.s3.now in
    let client = c.args.client.now in
    let config = config_of opening c.args.config.now in
    let ask = ask_of c.args.ask.now in
    let n : ℕ = moment_for c.args.t c.args.book.now client lent in
    let at : ℕ = c.latest-at.result in
    let at_is : at ≡ n =
    c.latest-at.ensures ∙ ap (λ m. max c.args.t m) (c.latest.ensures ∙ ap (λ m. max m c.moment_in.result) c.now.ensures ∙ ap (λ m. max c.args.book.now.moment m) c.moment_in.ensures) in
    let le : book_moment h ≤ at = let now = s.moment in omega (arith, at_is) in
    let swept = four_swept opening (book_moment h) at c.args.s0.now c.args.s1.now c.args.s2.now c.args.s3.now c.sweep_all.new.s0 c.sweep_all.new.s1 c.sweep_all.new.s2 c.sweep_all.new.s3
    c.args.book.now.capacity c.args.book.now.total h (are_at opening lent c.args.book.now h s) le c.sweep_all.ensures.s0 c.sweep_all.ensures.s1 c.sweep_all.ensures.s2 c.sweep_all.ensures.s3 in
    let records_are : verdict_records at client (verdict_of c.decide_among.result) ≡ verdict_records n client (verdict config h n client ask) =
    ap (λ m. verdict_records m client (verdict_of c.decide_among.result)) at_is ∙ ap (λ v. verdict_records n client v) (returns-clause-verdict g c opening h s) in
    let each : EachStandsAt at (four c.decide_among.new.s0 c.decide_among.new.s1 c.decide_among.new.s2 c.decide_among.new.s3) (h ++ verdict_records n client (verdict config h n client ask)) =
    subst (λ rs. EachStandsAt at (four c.decide_among.new.s0 c.decide_among.new.s1 c.decide_among.new.s2 c.decide_among.new.s3) (h ++ rs)) records_are
    (c.decide_among.ensures.stands at h swept.tables (omega arith)) in
    four_stand opening at c.decide_among.new.s0 c.decide_among.new.s1 c.decide_among.new.s2 c.decide_among.new.s3 c.decide_among.new.book (h ++ verdict_records n client (verdict config h n client ask)) each
    (book_moment-verdict config h n client ask (ok_profile ask c.in-Ok.wanted.kind c.in-Ok.ensures.within.0) ∙ (let now = s.moment in omega (arith, at_is)))
    c.decide_among.ensures.moments.0
    (c.decide_among.ensures.capacity ∙ ap (λ b. b.capacity) c.sweep_all.ensures.book ∙ s.capacity ∙ sym (capacity-verdict opening h n client (verdict config h n client ask)))
    c.decide_among.ensures.total

pub returns-in-Err-clause-alone : goal.returns-in-Err-clause-alone
returns-in-Err-clause-alone g c = (alone_same 0 c.args.s0.now, alone_same 1 c.args.s1.now, alone_same 2 c.args.s2.now, alone_same 3 c.args.s3.now)

pub returns-clause-alone : goal.returns-clause-alone
returns-clause-alone g c =
    let lent = four c.args.s0.now c.args.s1.now c.args.s2.now c.args.s3.now in
    let client = c.args.client.now in
    let at : ℕ = c.latest-at.result in
    let among = c.decide_among.ensures in
    let reached : (j : ℕ) → table_of client ≡ j → moment_of_lent j lent ≤ at = λ j own.
    let is : c.moment_in.result ≡ moment_of_lent j lent = c.moment_in.ensures ∙ ap (λ i. moment_of_lent i lent) own in
    omega (arith, is, c.latest-at.ensures, c.latest.ensures) in (
      alone_asked 0 at c.args.book.now.capacity client c.decide_among.result c.args.s0.now c.sweep_all.new.s0 c.decide_among.new.s0 c.sweep_all.ensures.s0 among.within (reached 0) among.moments.1 among.each.0,
      alone_asked 1 at c.args.book.now.capacity client c.decide_among.result c.args.s1.now c.sweep_all.new.s1 c.decide_among.new.s1 c.sweep_all.ensures.s1 among.within (reached 1) among.moments.2 among.each.1,
      alone_asked 2 at c.args.book.now.capacity client c.decide_among.result c.args.s2.now c.sweep_all.new.s2 c.decide_among.new.s2 c.sweep_all.ensures.s2 among.within (reached 2) among.moments.3 among.each.2,
      alone_asked 3 at c.args.book.now.capacity client c.decide_among.result c.args.s3.now c.sweep_all.new.s3 c.decide_among.new.s3 c.sweep_all.ensures.s3 among.within (reached 3) among.moments.4 among.each.3,
    )
