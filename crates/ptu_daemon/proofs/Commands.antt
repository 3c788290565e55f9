-- One round more, and the datagrams of a control port.
use Rattle.std.proofs.Common.{◌≡◌, ◌∙◌, ℕ, suc, zero, ◌+◌, ◌*◌, ◌≤◌, Bool, true, false, List, [], ◌∷◌, ◌++◌, length, map, slice_get, Option, Some, None, if◌then◌else◌, refl, sym, ap, ap₂, subst, arith, append_assoc, length-append}
use Rattle.std.proofs.lemmas.List.{append-nil, map-append}
use Rattle.std.specs.List.{AllByRecursion}
use Rattle.ptu_config.specs.declared.settings.GmSettings.{GmSettings}
use Rattle.ptu_outside.specs.declared.arrival.Arrival.{Arrival}
use Rattle.ptu_grandmaster.specs.declared.driving.GmEvent.{GmEvent}
use Rattle.ptu_config.specs.Commands.{is_stop_order}
use Rattle.ptu_outside.specs.Taken.{HappenedAt, HaveTaken, Round}
use Rattle.ptu_lanes.specs.Orders.{EndsOr, listed, order_in}
use Rattle.ptu_daemon.specs.Commands.{AreAll, AreCounted, AreRoundsOf, AreSpoken, DoneRound, HaveHappened, IsCounted, order_answers, answers_from, events_in, done_events, happens_by, happens_from, happens_in, is_last, many_from, rounds_of, rounds_until, situation_in, spoken_of}
use Rattle.ptu_daemon.specs.{Events.{Given, Happening, round_given, round_with}, Sends.{Standing, after_all, sends_by}}
use Rattle.ptu_daemon.proofs.Running.{after_all-append, sends_by-append}

-- ---- one round more at the end

pub rounds_of-push : (ds : List DoneRound) (d : DoneRound) → rounds_of (ds ++ d ∷ []) ≡ rounds_of ds ++ d.round ∷ []
rounds_of-push ds d = map-append (λ (x : DoneRound). x.round) ds (d ∷ [])

rounds-length : (ds : List DoneRound) → length (rounds_of ds) ≡ length ds
rounds-length [] = refl
rounds-length (d ∷ ds) = let ih = rounds-length ds in omega (arith, ih)

pub events_of-push : (ds : List DoneRound) (d : DoneRound) → done_events (ds ++ d ∷ []) ≡ done_events ds ++ events_in d
unfolding done_events
events_of-push [] d = append-nil (events_in d)
events_of-push (x ∷ ds) d =
    ap (λ l. events_in x ++ l) (events_of-push ds d) ∙ sym (append_assoc (events_in x) (done_events ds) (events_in d))

pub spoken_of-push : (ds : List DoneRound) (d : DoneRound) → spoken_of (ds ++ d ∷ []) ≡ spoken_of ds ++ listed d.spoken
unfolding spoken_of
spoken_of-push [] d = append-nil (listed d.spoken)
spoken_of-push (x ∷ ds) d =
    ap (λ l. listed x.spoken ++ l) (spoken_of-push ds d) ∙ sym (append_assoc (listed x.spoken) (spoken_of ds) (listed d.spoken))

happens-push : (settings : GmSettings) (before : ℕ) (ds : List DoneRound) (d : DoneRound) →
    happens_from settings before (ds ++ d ∷ []) ≡ happens_from settings before ds ++ happens_in settings (before + length ds) d
unfolding happens_from
happens-push settings before [] d =
    let none : before ≡ before + 0 = omega arith in
    append-nil (happens_in settings before d) ∙ ap (λ n. happens_in settings n d) none
happens-push settings before (x ∷ ds) d =
    let more : before + 1 + length ds ≡ before + length (x ∷ ds) = omega arith in
    ap (λ l. happens_in settings before x ++ l) (happens-push settings (before + 1) ds d)
    ∙ sym (append_assoc (happens_in settings before x) (happens_from settings (before + 1) ds) (happens_in settings (before + 1 + length ds) d))
    ∙ ap (λ n. (happens_in settings before x ++ happens_from settings (before + 1) ds) ++ happens_in settings n d) more

-- so many rounds are as many
pub many_done : (ds : List DoneRound) (count : ℕ) → HaveTaken (rounds_of ds) count → length ds ≡ count
many_done ds count h = let many = h.many in omega (arith, many, rounds-length ds)

pub happens_from-push : (settings : GmSettings) (ds : List DoneRound) (count : ℕ) (d : DoneRound) → HaveTaken (rounds_of ds) count →
    happens_from settings 0 (ds ++ d ∷ []) ≡ happens_from settings 0 ds ++ happens_in settings count d
happens_from-push settings ds count d h =
    let many : 0 + length ds ≡ count = omega (arith, many_done ds count h) in
    happens-push settings 0 ds d ∙ ap (λ n. happens_from settings 0 ds ++ happens_in settings n d) many

happened-push : (settings : GmSettings) (before : ℕ) (ds : List DoneRound) (d : DoneRound) → HaveHappened settings before ds →
    HappenedAt (round_with settings (before + length ds) d.round) d.events → HappenedAt (happens_by (order_in settings d.spoken)) d.obeyed →
    HaveHappened settings before (ds ++ d ∷ [])
happened-push settings before [] d h k l =
    let none : before + 0 ≡ before = omega arith in
    (subst (λ n. HappenedAt (round_with settings n d.round) d.events) none k, l, tt)
happened-push settings before (x ∷ ds) d (a, b, h) k l =
    let more : before + length (x ∷ ds) ≡ before + 1 + length ds = omega arith in
    (a, b, happened-push settings (before + 1) ds d h (subst (λ n. HappenedAt (round_with settings n d.round) d.events) more k) l)

pub have_happened-push : (settings : GmSettings) (ds : List DoneRound) (count : ℕ) (d : DoneRound) → HaveTaken (rounds_of ds) count → HaveHappened settings 0 ds →
    HappenedAt (round_with settings count d.round) d.events → HappenedAt (happens_by (order_in settings d.spoken)) d.obeyed →
    HaveHappened settings 0 (ds ++ d ∷ [])
have_happened-push settings ds count d taken h k l =
    let many : count ≡ 0 + length ds = omega (arith, many_done ds count taken) in
    happened-push settings 0 ds d h (subst (λ n. HappenedAt (round_with settings n d.round) d.events) many k) l

-- ---- answers

answers-push : (settings : GmSettings) (gm : Standing) (before : ℕ) (ds : List DoneRound) (d : DoneRound) →
    answers_from settings gm before (ds ++ d ∷ [])
    ≡ answers_from settings gm before ds ++ order_answers (situation_in (after_all gm (done_events ds)) (before + length ds) d) (order_in settings d.spoken) d.obeyed
unfolding answers_from done_events
answers-push settings gm before [] d =
    let none : before ≡ before + 0 = omega arith in
    append-nil (order_answers (situation_in gm before d) (order_in settings d.spoken) d.obeyed)
    ∙ ap (λ n. order_answers (situation_in gm n d) (order_in settings d.spoken) d.obeyed) none
answers-push settings gm before (x ∷ ds) d =
    let more : before + 1 + length ds ≡ before + length (x ∷ ds) = omega arith in
    let first = order_answers (situation_in gm before x) (order_in settings x.spoken) x.obeyed in
    let later = answers_from settings (after_all gm (events_in x)) (before + 1) ds in
    ap (λ l. first ++ l) (answers-push settings (after_all gm (events_in x)) (before + 1) ds d)
    ∙ sym (append_assoc first later (order_answers (situation_in (after_all (after_all gm (events_in x)) (done_events ds)) (before + 1 + length ds) d) (order_in settings d.spoken) d.obeyed))
    ∙ ap₂ (λ g n. (first ++ later) ++ order_answers (situation_in g n d) (order_in settings d.spoken) d.obeyed)
    (sym (after_all-append gm (events_in x) (done_events ds))) more

pub answers_from-push : (settings : GmSettings) (gm : Standing) (ds : List DoneRound) (count : ℕ) (d : DoneRound) → HaveTaken (rounds_of ds) count →
    answers_from settings gm 0 (ds ++ d ∷ [])
    ≡ answers_from settings gm 0 ds ++ order_answers (situation_in (after_all gm (done_events ds)) count d) (order_in settings d.spoken) d.obeyed
answers_from-push settings gm ds count d h =
    let many : 0 + length ds ≡ count = omega (arith, many_done ds count h) in
    answers-push settings gm 0 ds d
    ∙ ap (λ n. answers_from settings gm 0 ds ++ order_answers (situation_in (after_all gm (done_events ds)) n d) (order_in settings d.spoken) d.obeyed) many

-- ---- counts

one_many : (gm : Standing) (xs ys : List GmEvent) (i : ℕ) →
    length (sends_by gm i (xs ++ ys)) ≡ length (sends_by gm i xs) + length (sends_by (after_all gm xs) i ys)
one_many gm xs ys i = ap length (sends_by-append gm i xs ys) ∙ length-append (sends_by gm i xs) (sends_by (after_all gm xs) i ys)

pub many_from-append : (gm : Standing) (xs ys : List GmEvent) → many_from gm (xs ++ ys) ≡ many_from gm xs + many_from (after_all gm xs) ys
many_from-append gm xs ys =
    let m0 = one_many gm xs ys 0 in let m1 = one_many gm xs ys 1 in let m2 = one_many gm xs ys 2 in
    let m3 = one_many gm xs ys 3 in let m4 = one_many gm xs ys 4 in
    omega (arith, m0, m1, m2, m3, m4)

none_many : (gm : Standing) → many_from gm [] ≡ 0
unfolding sends_by
none_many gm = refl

counted-push : (gm : Standing) (before made : ℕ) (ds : List DoneRound) (d : DoneRound) → AreCounted gm before made ds →
    IsCounted (after_all gm (done_events ds)) (before + length ds) (made + many_from gm (done_events ds)) d → AreCounted gm before made (ds ++ d ∷ [])
unfolding done_events
counted-push gm before made [] d h k =
    let none : before + 0 ≡ before = omega arith in
    let same : made + many_from gm [] ≡ made = omega (arith, none_many gm) in
    (subst (λ n. IsCounted gm n made d) none (subst (λ m. IsCounted gm (before + 0) m d) same k), tt)
counted-push gm before made (x ∷ ds) d (a, h) k =
    let more : before + length (x ∷ ds) ≡ before + 1 + length ds = omega arith in
    let sum : made + many_from gm (events_in x ++ done_events ds) ≡ made + many_from gm (events_in x) + many_from (after_all gm (events_in x)) (done_events ds) =
    omega (arith, many_from-append gm (events_in x) (done_events ds)) in (
      a,
      counted-push (after_all gm (events_in x)) (before + 1) (made + many_from gm (events_in x)) ds d h
          (subst (λ g. IsCounted g (before + 1 + length ds) (made + many_from gm (events_in x) + many_from (after_all gm (events_in x)) (done_events ds)) d)
          (after_all-append gm (events_in x) (done_events ds))
          (subst (λ n. IsCounted (after_all gm (events_in x ++ done_events ds)) n (made + many_from gm (events_in x) + many_from (after_all gm (events_in x)) (done_events ds)) d) more
          (subst (λ m. IsCounted (after_all gm (events_in x ++ done_events ds)) (before + length (x ∷ ds)) m d) sum k))),
    )

pub are_counted-push : (gm : Standing) (ds : List DoneRound) (count : ℕ) (d : DoneRound) → HaveTaken (rounds_of ds) count → AreCounted gm 0 0 ds →
    IsCounted (after_all gm (done_events ds)) count (many_from gm (done_events ds)) d → AreCounted gm 0 0 (ds ++ d ∷ [])
are_counted-push gm ds count d taken h k =
    let many : count ≡ 0 + length ds = omega (arith, many_done ds count taken) in
    let made : many_from gm (done_events ds) ≡ 0 + many_from gm (done_events ds) = omega arith in
    counted-push gm 0 0 ds d h (subst (λ m. IsCounted (after_all gm (done_events ds)) (0 + length ds) m d) made
    (subst (λ n. IsCounted (after_all gm (done_events ds)) n (many_from gm (done_events ds)) d) many k))

pub within-push : (ds : List DoneRound) (d : DoneRound) (sent failed sent' failed' : ℕ) → sent ≤ sent' → failed ≤ failed' →
    AllByRecursion (λ (x : DoneRound). (x.sent ≤ sent) × (x.failed ≤ failed)) ds → (d.sent ≤ sent') × (d.failed ≤ failed') →
    AllByRecursion (λ (x : DoneRound). (x.sent ≤ sent') × (x.failed ≤ failed')) (ds ++ d ∷ [])
within-push [] d sent failed sent' failed' s f h one = (one, tt)
within-push (x ∷ ds) d sent failed sent' failed' s f (a, h) one =
    ((omega (arith, a.0, s), omega (arith, a.1, f)), within-push ds d sent failed sent' failed' s f h one)

-- ---- what each took of the channels

rounds_given-push : (given : Given) (before : ℕ) (ds : List DoneRound) (d : DoneRound) → AreRoundsOf given before ds →
    d.round ≡ round_given given (before + length ds) → AreRoundsOf given before (ds ++ d ∷ [])
rounds_given-push given before [] d h is =
    let none : before + 0 ≡ before = omega arith in
    (is ∙ ap (round_given given) none, tt)
rounds_given-push given before (x ∷ ds) d (a, h) is =
    let more : before + length (x ∷ ds) ≡ before + 1 + length ds = omega arith in
    (a, rounds_given-push given (before + 1) ds d h (is ∙ ap (round_given given) more))

pub are_rounds-push : (given : Given) (ds : List DoneRound) (count : ℕ) (d : DoneRound) → HaveTaken (rounds_of ds) count → AreRoundsOf given 0 ds →
    d.round ≡ round_given given count → AreRoundsOf given 0 (ds ++ d ∷ [])
are_rounds-push given ds count d taken h is =
    let many : count ≡ 0 + length ds = omega (arith, many_done ds count taken) in
    rounds_given-push given 0 ds d h (is ∙ ap (round_given given) many)

-- ---- what each took of the control port

pub are_spoken-push : (ds : List DoneRound) (d : DoneRound) (waiting : List Arrival) → AreSpoken ds waiting → slice_get waiting (length ds) ≡ d.spoken →
    AreSpoken (ds ++ d ∷ []) waiting
are_spoken-push [] d [] h is = (sym is, tt)
are_spoken-push [] d (a ∷ waiting) h is = (sym is, tt)
are_spoken-push (x ∷ ds) d [] (one, h) is = (one, are_spoken-push ds d [] h is)
are_spoken-push (x ∷ ds) d (a ∷ waiting) (one, h) is = (one, are_spoken-push ds d waiting h is)

pub until_none : (settings : GmSettings) (count : ℕ) → rounds_until settings count [] ≡ count
until_none settings zero = refl
until_none settings (suc count) = refl

by_last : (b : Bool) (settings : GmSettings) (count n : ℕ) (later : List DoneRound) → EndsOr b later (AreAll settings count later) →
    (AreAll settings count later → length later ≡ n) → suc (length later) ≡ (if b then 1 else suc n)
by_last true settings count n later h ih = ap (λ l. suc (length l)) h
by_last false settings count n later h ih = ap suc (ih h)

-- they are as many as are to be done
pub rounds_are : (settings : GmSettings) (count : ℕ) (ds : List DoneRound) (waiting : List Arrival) → AreAll settings count ds → AreSpoken ds waiting →
    length ds ≡ rounds_until settings count waiting
rounds_are settings zero [] waiting all spoken = refl
rounds_are settings (suc count) [] waiting all spoken = absurd (omega (arith, all))
rounds_are settings zero (d ∷ later) waiting all spoken = absurd all
rounds_are settings (suc count) (d ∷ later) [] all (one, rest) =
    by_last (is_stop_order (order_in settings None)) settings count count later
    (subst (λ s. EndsOr (is_stop_order (order_in settings s)) later (AreAll settings count later)) one all)
    (λ others. rounds_are settings count later [] others rest ∙ until_none settings count)
rounds_are settings (suc count) (d ∷ later) (a ∷ waiting) all (one, rest) =
    by_last (is_stop_order (order_in settings (Some a))) settings count (rounds_until settings count waiting) later
    (subst (λ s. EndsOr (is_stop_order (order_in settings s)) later (AreAll settings count later)) one all)
    (λ others. rounds_are settings count later waiting others rest)
