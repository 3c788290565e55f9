-- Entries that say nothing of asks and grants.
use Rattle.std.proofs.Common.{◌≡◌, ℕ, Bool, true, false, cond, [], ◌∷◌, ◌++◌, refl, sym, subst, append_assoc}
use Rattle.std.proofs.lemmas.{Bool.{false≢true}, List.{append-nil}}
use Rattle.std.specs.List.{AllByRecursion}
use Rattle.ptu_units.specs.declared.kind.{Kind.{Kind}, Kind.TheVariants.{Announce, Sync, DelayResp}}
use Rattle.ptu_record.specs.Record.{Entry, Record, record_of, concerns, Announce as announced, Sync as synced, Resp, Told, Judge, Judged, Asked, Granted, Denied, Cancelled, Probed, Signalled, Stopped, Event}
use Rattle.ptu_record.proofs.Others.{record_of-push}
use Rattle.ptu_requester.specs.declared.negotiations.Negotiations.{Negotiations}
use Rattle.ptu_requester.specs.Requester.{Kept, AreKept, StandsFor, is_negotiation}
use Rattle.ptu_requester.proofs.Entered.{SaysNothing, kept_beside}

nothing : (k : Kind) (e : Entry) → is_negotiation e ≡ false → SaysNothing k e
nothing k (announced at master class) silent = record { no_change = refl; no_answer = refl; no_ask = refl; no_refusal = refl }
nothing k (synced at master number) silent = record { no_change = refl; no_answer = refl; no_ask = refl; no_refusal = refl }
nothing k (Resp at master number) silent = record { no_change = refl; no_answer = refl; no_ask = refl; no_refusal = refl }
nothing k (Told at master unusable) silent = record { no_change = refl; no_answer = refl; no_ask = refl; no_refusal = refl }
nothing k (Judge at master rule) silent = record { no_change = refl; no_answer = refl; no_ask = refl; no_refusal = refl }
nothing k (Judged at master unusable) silent = record { no_change = refl; no_answer = refl; no_ask = refl; no_refusal = refl }
nothing k (Asked at master kind) silent = absurd (false≢true (sym silent))
nothing k (Granted at master kind seconds) silent = absurd (false≢true (sym silent))
nothing k (Denied at master kind) silent = absurd (false≢true (sym silent))
nothing k (Cancelled at master kind) silent = absurd (false≢true (sym silent))
nothing k (Probed at master) silent = record { no_change = refl; no_answer = refl; no_ask = refl; no_refusal = refl }
nothing k (Signalled at master) silent = record { no_change = refl; no_answer = refl; no_ask = refl; no_refusal = refl }
nothing k (Stopped at) silent = absurd (false≢true (sym silent))
nothing k (Event at) silent = record { no_change = refl; no_answer = refl; no_ask = refl; no_refusal = refl }

are_kept_beside : (L : Record) (e : Entry) (ns : Negotiations) → is_negotiation e ≡ false → AreKept L ns → AreKept (L ++ e ∷ []) ns
are_kept_beside L e ns silent h = record {
  announce = kept_beside Announce L e ns.announce (nothing Announce e silent) h.announce;
  sync = kept_beside Sync L e ns.sync (nothing Sync e silent) h.sync;
  delay = kept_beside DelayResp L e ns.delay (nothing DelayResp e silent) h.delay;
}

stands_beside : (r : Kept) (L : Record) (e : Entry) → is_negotiation e ≡ false → StandsFor r L → StandsFor r (L ++ e ∷ [])
stands_beside r L e silent stands = record { each = λ m ns is. rw (record_of-push m L e) (pick m ns (concerns m e) (stands.each m ns is)) }
  where
    pick : (m : ℕ) (ns : Negotiations) (b : Bool) → AreKept (record_of m L) ns → AreKept (cond b (record_of m L ++ e ∷ []) (record_of m L)) ns
    pick m ns true h = are_kept_beside (record_of m L) e ns silent h
    pick m ns false h = h

pub stands_silent : (r : Kept) (L M : Record) → AllByRecursion (λ e. is_negotiation e ≡ false) M → StandsFor r L → StandsFor r (L ++ M)
stands_silent r L [] silent stands = rw (append-nil L) stands
stands_silent r L (e ∷ M) silent stands = subst (StandsFor r) (append_assoc L (e ∷ []) M) (stands_silent r (L ++ e ∷ []) M silent.1 (stands_beside r L e silent.0 stands))
