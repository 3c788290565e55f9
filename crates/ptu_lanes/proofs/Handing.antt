-- What was handed to a port, one part after the other.
use Rattle.std.proofs.Common.{ℕ, ◌+◌, ◌++◌, List, []}
use Rattle.ptu_outside.specs.{declared.port.Port.{Ghosts as Ports}, Departure.{Departure}}
use Rattle.ptu_outside.specs.{Faults.{HasNotFallen, HasRisen}, HandsOver.{HandsOver}}
use Rattle.ptu_outside.proofs.HandsOver.{goes_on_both, none_failed, rises_first, rises_second, sent_both, sent_none, told_both, told_none}
use Rattle.ptu_outside.specs.Handed.{WasHanded}

module _ {P : Type 0} (ports : Ports P) where
  pub handed_none : (port : P) → WasHanded ports port port [] 0
  handed_none port = record {
    part = record { some = sent_none (ports.sent port); all = λ still. told_none (ports.sent port) };
    goes_on = λ still few tells. tells;
  }

  pub handed_of : (old new : P) (datagrams : List Departure) (sent failed : ℕ) → HandsOver ports old new datagrams sent failed → WasHanded ports old new datagrams sent
  handed_of old new datagrams sent failed h = record {
    part = record { some = h.some; all = h.all };
    goes_on = λ still. h.goes_on (none_failed failed (ports.faults old) (ports.faults new) h.risen still);
  }

  pub handed-append : (p0 p1 p2 : P) (ds es : List Departure) (sent more : ℕ) → HasNotFallen (ports.faults p0) (ports.faults p1) → HasNotFallen (ports.faults p1) (ports.faults p2) →
      WasHanded ports p0 p1 ds sent → WasHanded ports p1 p2 es more → WasHanded ports p0 p2 (ds ++ es) (sent + more)
  handed-append p0 p1 p2 ds es sent more first second p q = record {
    part = record {
      some = sent_both (ports.sent p0) (ports.sent p1) (ports.sent p2) ds es sent more p.part.some q.part.some;
      all = λ still. told_both (ports.sent p0) (ports.sent p1) (ports.sent p2) ds es (p.part.all (still1 still)) (q.part.all (still2 still));
    };
    goes_on = λ still. goes_on_both ports.ceases_at ds es (ports.sent p0) (ports.sent p1) (ports.sent p2) (p.goes_on (still1 still)) (q.goes_on (still2 still));
  }
    where
      still1 : ¬ HasRisen (ports.faults p0) (ports.faults p2) → ¬ HasRisen (ports.faults p0) (ports.faults p1)
      still1 still rises = still (rises_first (ports.faults p0) (ports.faults p1) (ports.faults p2) rises second)

      still2 : ¬ HasRisen (ports.faults p0) (ports.faults p2) → ¬ HasRisen (ports.faults p1) (ports.faults p2)
      still2 still rises = still (rises_second (ports.faults p0) (ports.faults p1) (ports.faults p2) first rises)
