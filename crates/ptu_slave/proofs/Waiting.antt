-- Until when a tick sends nothing.
use Rattle.std.proofs.Common.{◌≡◌, ℕ, ◌+◌, ◌<◌, ◌≤◌, max, false, cond, List, [], ◌∷◌, ◌++◌, length, Option, ap, ap₂, subst, sym, ◌∙◌, arith}
use Rattle.std.specs.{List.{flat_map, list_any}, Option.{option_map}}
use Rattle.ptu_record.specs.{declared.wants.Wants.{Wants}, Lists.{places}}
use Rattle.ptu_record.specs.{Record.{Record, event_moment, record_of}, Asks.{due_kinds}}
use Rattle.ptu_record.specs.{declared.rule.Rule.{Rule}, Selection.{selected_master}}
use Rattle.ptu_record.specs.Tick.{DelayReq, Requests, Sending, delay_req_number, is_probe_due, is_stop, one_signaling, requests_to, signaling_number, tick_sendings}
use Rattle.ptu_judges.specs.Held.{Held}
use Rattle.ptu_profile.specs.Slave.{address_of, priorities, timeouts}
use Rattle.ptu_slave.specs.{Kept.{Kept}, Standing.{Asks, IsIdleUntil, Selects, StandsFor}}
use Rattle.ptu_slave.proofs.{Sendings.{each-more}, Stepping.{moment_is}}

-- where no kind and no Delay_Req is due, the master is sent nothing
pub nothing_to : (wants : Wants) (L : Record) (x m : ℕ) → due_kinds wants (record_of m L) x ≡ [] → is_probe_due wants (record_of m L) x ≡ false
    → requests_to wants L x m ≡ []
nothing_to wants L x m kinds probe =
    ap₂ (λ ks b. one_signaling (Requests m (signaling_number (record_of m L))) ks ++ cond b (DelayReq m (delay_req_number (record_of m L)) ∷ []) []) kinds probe

-- nor is one more
pub nothing_to_more : (f : ℕ → List Sending) (n : ℕ) → flat_map f (places n) ≡ [] → f n ≡ [] → flat_map f (places (n + 1)) ≡ []
nothing_to_more f n others one = each-more f n ∙ ap₂ (λ v w. v ++ w) others one

-- what is due of the parts of a slave is due of the slave
pub idle_until : (openings : List (Option Rule)) (kept : Kept) (judges : List Held) (L : Record) (until : ℕ) → StandsFor openings kept judges L
    → ((M : Record) → kept.stopped ≡ list_any is_stop M → (kept.stopped ≡ false → Asks kept M M)
    → (x : ℕ) → kept.moment ≤ x → x < until → tick_sendings kept.config.wants (length kept.masters) M x ≡ [])
    → ((M : Record) → Selects kept M → (x : ℕ) → kept.moment ≤ x → x < until
    → selected_master (timeouts kept.config) (priorities kept.masters) M x ≡ selected_master (timeouts kept.config) (priorities kept.masters) M kept.moment)
    → IsIdleUntil until openings kept L
idle_until openings kept judges L until h sends selects = record {
  sends = λ x low high.
      ap (λ n. tick_sendings kept.config.wants n L x) h.each_opening
      ∙ sends L h.stopped (λ going. subst (λ told. Asks kept told L) (h.told_all going) h.asks) x low high;
  selects = λ x low high.
      ap (option_map (address_of kept.masters))
      (ap choice (at x low) ∙ selects L h.selects x low high ∙ sym (ap choice (at kept.moment (omega arith))));
}
  where
    choice : ℕ → Option ℕ
    choice x = selected_master (timeouts kept.config) (priorities kept.masters) L x

    at : (x : ℕ) → kept.moment ≤ x → event_moment L x ≡ x
    at x low = sym (moment_is openings kept judges L x h) ∙ greater x kept.moment low
      where
        greater : (a b : ℕ) → b ≤ a → max a b ≡ a
        greater a b le = omega arith
