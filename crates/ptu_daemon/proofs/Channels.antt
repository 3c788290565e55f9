-- That what waits on a channel was taken.
use Rattle.std.proofs.Common.{◌≡◌, ◌∙◌, ◌⊎◌, inl, inr, ℕ, ◌+◌, ◌≤◌, List, [], ◌∷◌, ◌++◌, length, map, Option, Some, None, refl, sym, ap, arith, length-append}
use Rattle.std.proofs.lemmas.List.{append-nil, map-append}
use Rattle.std.specs.Option.{IfSome}
use Rattle.ptu_outside.specs.declared.{arrival.Arrival.{Arrival}, channel.Channel.{Channel}}
use Rattle.ptu_outside.specs.declared.channel.Channel.TheVariants as channels
use Rattle.ptu_outside.specs.declared.{clock.Clock.{Ghosts as Clocks}, port.Port.{Ghosts as Ports}}
use Rattle.ptu_daemon.specs.declared.daemon.Daemon.{Daemon}
use Rattle.ptu_daemon.specs.declared.next.Next.TheVariants as nexts
use Rattle.ptu_daemon.specs.Events.{taking}
use Rattle.ptu_outside.specs.declared.tally.Tally.{Tally}
use Rattle.ptu_daemon.specs.Ran.{CameTo, IsSmall, Ran, TookChannel, on_event, on_general, port_of}
use Rattle.ptu_daemon.proofs.Running.{ran_as, ran_more, ran_none}

general-append : (channel : Channel) (xs ys : List Arrival) → on_general channel xs ++ on_general channel ys ≡ on_general channel (xs ++ ys)
general-append channels.General xs ys = refl
general-append channels.Event xs ys = refl

event-append : (channel : Channel) (xs ys : List Arrival) → on_event channel xs ++ on_event channel ys ≡ on_event channel (xs ++ ys)
event-append channels.General xs ys = refl
event-append channels.Event xs ys = refl

general-nil : (channel : Channel) → [] ≡ on_general channel []
general-nil channels.General = refl
general-nil channels.Event = refl

event-nil : (channel : Channel) → [] ≡ on_event channel []
event-nil channels.General = refl
event-nil channels.Event = refl

module _ {P C : Type 0} (ports : Ports P) (clocks : Clocks C) where
  -- a datagram was received, and then taken
  pub received_taken : (channel : Channel) (old now new : Daemon P C) (a : Arrival) (s f : ℕ) →
      Ran ports clocks old now [] (on_general channel (a ∷ [])) (on_event channel (a ∷ [])) 0 0 0 →
      Ran ports clocks now new (taking a ∷ []) [] [] s f 0 →
      Ran ports clocks old new (taking a ∷ []) (on_general channel (a ∷ [])) (on_event channel (a ∷ [])) s f 0
  received_taken channel old now new a s f h k =
      ran_as ports clocks old new _ _ _ _ _ _ _ _ _ _ _ _ refl (append-nil (on_general channel (a ∷ []))) (append-nil (on_event channel (a ∷ [])))
      (omega arith) (omega arith) (omega arith) (ran_more ports clocks old now new [] (taking a ∷ []) _ [] _ [] 0 0 0 s f 0 h k)

  -- so many datagrams of the channel were received and taken
  pub record IsTaking (channel : Channel) (old now : Daemon P C) (count : ℕ) (tally : Tally) : Type 0 where
    pub arrivals : List Arrival
    pub many : length arrivals ≡ count
    pub ran : Ran ports clocks old now (map taking arrivals) (on_general channel arrivals) (on_event channel arrivals) tally.sent tally.failed 0
    pub small : IsSmall count tally

  pub taking_none : (channel : Channel) (daemon : Daemon P C) (tally : Tally) → (tally.sent ≡ 0) × (tally.failed ≡ 0) →
      IsTaking channel daemon daemon 0 tally
  taking_none channel daemon tally (none, none') = record {
    arrivals = [];
    many = refl;
    ran = ran_as ports clocks daemon daemon _ _ _ _ _ _ _ _ _ _ _ _ refl (general-nil channel) (event-nil channel) (sym none) (sym none') refl (ran_none ports clocks daemon);
    small = (omega (arith, none), omega (arith, none'));
  }

  pub taking_more : (channel : Channel) (old now new : Daemon P C) (count : ℕ) (tally more : Tally) →
      IsTaking channel old now count tally → CameTo ports clocks channel now new (nexts.Taken more) →
      IsTaking channel old new (count + 1) (record { sent = tally.sent + more.sent; failed = tally.failed + more.failed })
  taking_more channel old now new count tally more h (a, ran, small) = record {
    arrivals = h.arrivals ++ a ∷ [];
    many = length-append h.arrivals (a ∷ []) ∙ ap (λ n. n + 1) h.many;
    ran = ran_as ports clocks old new _ _ _ _ _ _ _ _ _ _ _ _ (sym (map-append taking h.arrivals (a ∷ [])))
        (general-append channel h.arrivals (a ∷ [])) (event-append channel h.arrivals (a ∷ [])) refl refl refl
        (ran_more ports clocks old now new _ _ _ _ _ _ _ _ _ _ _ _ h.ran ran);
    small = (omega (arith, h.small.0, small.0), omega (arith, h.small.1, small.1));
  }

  -- none waits any longer
  pub took_nothing : (channel : Channel) (old now new : Daemon P C) (count : ℕ) (tally : Tally) → count ≤ 64 →
      IsTaking channel old now count tally → CameTo ports clocks channel now new nexts.Nothing → TookChannel ports clocks channel old new tally
  took_nothing channel old now new count tally few h (ran, none) = record {
    arrivals = h.arrivals;
    few = omega (arith, h.many, few);
    missed = 0;
    once = omega arith;
    ran = ran_as ports clocks old new _ _ _ _ _ _ _ _ _ _ _ _ (append-nil (map taking h.arrivals)) (append-nil (on_general channel h.arrivals))
        (append-nil (on_event channel h.arrivals)) (omega arith) (omega arith) (omega arith) (ran_more ports clocks old now new _ _ _ _ _ _ _ _ _ _ _ _ h.ran ran);
    drains = λ still. drained (ports.waiting (port_of channel new)) none;
  }
    where
      drained : (told : Option (List Arrival)) → IfSome told (λ left. left ≡ []) →
          IfSome told (λ left. (length h.arrivals ≡ 64) ⊎ ((length h.arrivals ≤ 64) × (left ≡ [])))
      drained None e = tt
      drained (Some left) e = inr (omega (arith, h.many), e)

  -- a receive failed
  pub took_failed : (channel : Channel) (old now new : Daemon P C) (count : ℕ) (tally : Tally) → count ≤ 64 →
      IsTaking channel old now count tally → CameTo ports clocks channel now new nexts.Failed →
      TookChannel ports clocks channel old new (record { sent = tally.sent + 0; failed = tally.failed + 1 })
  took_failed channel old now new count tally few h ran = record {
    arrivals = h.arrivals;
    few = omega (arith, h.many, few);
    missed = 1;
    once = omega arith;
    ran = ran_as ports clocks old new _ _ _ _ _ _ _ _ _ _ _ _ (append-nil (map taking h.arrivals)) (append-nil (on_general channel h.arrivals))
        (append-nil (on_event channel h.arrivals)) refl refl refl (ran_more ports clocks old now new _ _ _ _ _ _ _ _ _ _ _ _ h.ran ran);
    drains = λ still. absurd (omega (arith, still));
  }

  -- as many as a round takes
  pub took_most : (channel : Channel) (old new : Daemon P C) (count : ℕ) (tally : Tally) → count ≡ 64 →
      IsTaking channel old new count tally → TookChannel ports clocks channel old new tally
  took_most channel old new count tally most h = record {
    arrivals = h.arrivals;
    few = omega (arith, h.many, most);
    missed = 0;
    once = omega arith;
    ran = h.ran;
    drains = λ still. all (ports.waiting (port_of channel new));
  }
    where
      all : (told : Option (List Arrival)) → IfSome told (λ left. (length h.arrivals ≡ 64) ⊎ ((length h.arrivals ≤ 64) × (left ≡ [])))
      all None = tt
      all (Some left) = inl (h.many ∙ most)
