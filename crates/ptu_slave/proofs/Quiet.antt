-- Entries that leave a part of a slave as it is.
use Rattle.std.proofs.Common.{◌≡◌, ◌+◌, ◌%◌, false, cond, List, [], ◌∷◌, ◌++◌, Option, None, ap, sym, subst, ◌∙◌, append_assoc}
use Rattle.std.proofs.lemmas.List.{append-nil}
use Rattle.std.specs.List.{AllByRecursion}
use Rattle.ptu_record.specs.{declared.rule.Rule.{Rule}, Lists.{last, newest_of}}
use Rattle.ptu_record.specs.Record.{Entry, Record}
use Rattle.ptu_record.specs.Judges.{is_judge, opening_of, rule_given, sync_number, told_flag}
use Rattle.ptu_record.specs.Tick.{delay_req_number, is_probed, is_signalled, probe_moment, probes, signaling_number}
use Rattle.ptu_record.proofs.ListLaws.{last-filter_map}
use Rattle.ptu_record.proofs.Requests.{delay_req_number-push, signaling_number-push}
use Rattle.ptu_requester.specs.Requester.{Kept as Negotiated, StandsFor, is_negotiation}
use Rattle.ptu_requester.proofs.Silence.{stands_silent}
use Rattle.ptu_select.specs.Watched.{is_watched}
use Rattle.ptu_select.proofs.Masters.{unwatched_by}
use Rattle.ptu_judges.specs.Held as judge
use Rattle.ptu_judges.specs.Held.{Held}
use Rattle.ptu_judges.proofs.Holding.{other_entry}
use Rattle.ptu_profile.specs.Slave.{priorities, timeouts}
use Rattle.ptu_slave.specs.{declared.counters.Counters.{Counters}, Kept.{CountFor, Kept}}
use Rattle.ptu_slave.specs.Standing.{Asks, Each, Judge, Selects}
use Rattle.ptu_slave.proofs.Masters.{each_kept}

-- ---- counters

pub record Uncounted (e : Entry) : Type 0 where
  pub no_signaling : is_signalled e ≡ false
  pub no_delay_req : is_probed e ≡ false
  pub no_moment : probe_moment e ≡ None

count_kept : (counters : Counters) (own : Record) (e : Entry) → Uncounted e → CountFor counters own → CountFor counters (own ++ e ∷ [])
count_kept counters own e quiet h = record {
  signaling = h.signaling ∙ sym (signaling_number-push own e ∙ ap (λ b. cond b ((signaling_number own + 1) % 65536) (signaling_number own)) quiet.no_signaling);
  delay_req = h.delay_req ∙ sym (delay_req_number-push own e ∙ ap (λ b. cond b ((delay_req_number own + 1) % 65536) (delay_req_number own)) quiet.no_delay_req);
  probed = h.probed ∙ sym (last-filter_map probe_moment own e ∙ ap (λ o. newest_of o (last (probes own))) quiet.no_moment);
}

-- more of one master's own
pub counts_one : (counters : Counters) (own M : Record) → AllByRecursion Uncounted M → CountFor counters own → CountFor counters (own ++ M)
counts_one counters own [] all h = subst (CountFor counters) (sym (append-nil own)) h
counts_one counters own (e ∷ M) all h = subst (CountFor counters) (append_assoc own (e ∷ []) M) (counts_one counters (own ++ e ∷ []) M all.1 (count_kept counters own e all.0 h))

pub counts_kept : (counters : List Counters) (L M : Record) → AllByRecursion Uncounted M → Each (λ m. CountFor) counters L → Each (λ m. CountFor) counters (L ++ M)
counts_kept counters L M all each = each_kept (λ m. CountFor) Uncounted counters (λ m x own e quiet h. count_kept x own e quiet h) L M all each

-- ---- what a slave asks for

pub record Unasked (e : Entry) : Type 0 where
  pub no_negotiation : is_negotiation e ≡ false
  pub uncounted : Uncounted e

negotiations : (M : Record) → AllByRecursion Unasked M → AllByRecursion (λ e. is_negotiation e ≡ false) M
negotiations [] all = tt
negotiations (e ∷ M) all = (all.0.no_negotiation, negotiations M all.1)

counted : (M : Record) → AllByRecursion Unasked M → AllByRecursion Uncounted M
counted [] all = tt
counted (e ∷ M) all = (all.0.uncounted, counted M all.1)

pub asks_kept : (old new : Kept) (told L M : Record) → new.requester ≡ old.requester → new.counters ≡ old.counters → AllByRecursion Unasked M → Asks old told L → Asks new (told ++ M) (L ++ M)
asks_kept old new told L M requester counters all h = record {
  requester = subst (λ (r : Negotiated). StandsFor r (told ++ M)) (sym requester) (stands_silent old.requester told M (negotiations M all) h.requester);
  counters = subst (λ (cs : List Counters). Each (λ m. CountFor) cs (L ++ M)) (sym counters) (counts_kept old.counters L M (counted M all) h.counters);
}

-- ---- what it selects by

pub selects_kept : (kept : Kept) (L M : Record) → AllByRecursion (λ e. is_watched e ≡ false) M → Selects kept L → Selects kept (L ++ M)
selects_kept kept L M all h = unwatched_by kept.selector (timeouts kept.config) (priorities kept.masters) L M all h

-- ---- judges

pub record Untold (e : Entry) : Type 0 where
  pub no_judge : is_judge e ≡ false
  pub no_rule : rule_given e ≡ None
  pub no_word : told_flag e ≡ None
  pub no_sync : sync_number e ≡ None

pub judge_kept : (openings : List (Option Rule)) (judges : List Held) (L M : Record) → AllByRecursion Untold M → Judge openings judges L → Judge openings judges (L ++ M)
judge_kept openings judges L M all each =
    each_kept (λ m held own. judge.StandsFor (opening_of openings m) own held) Untold judges
    (λ m held own e quiet h. other_entry (opening_of openings m) own e held quiet.no_judge quiet.no_rule quiet.no_word quiet.no_sync h) L M all each
