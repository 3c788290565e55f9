-- One run of happenings after another.
use Rattle.std.proofs.Common.{◌≡◌, ◌∙◌, ℕ, ◌+◌, ◌++◌, Bool, List, [], ◌∷◌, refl, sym, ap, ap₂, subst, append_assoc}
use Rattle.ptu_record.specs.Record.{Record}
use Rattle.ptu_slave_messages.specs.Node.{Node}
use Rattle.ptu_outside.proofs.Taken.{happened-append}
use Rattle.ptu_slave_daemon.specs.Happenings.{SlaveHappening, Selection, deed_at, entered_at, record_by_happenings, selection_at, selections_in, sent_by_happenings}
use Rattle.ptu_slave_daemon.specs.Running.{AreTimed, HasFailed, IsAt, PortDid, SlaveRan, View}
use Rattle.ptu_slave_daemon.proofs.{Ports.{port_append, port_still}, Times.{timed_more, timed_none}}

module _ (node : Node) where
  pub record_after-append : (L : Record) (hs ks : List SlaveHappening) → record_by_happenings node L (hs ++ ks) ≡ record_by_happenings node (record_by_happenings node L hs) ks
  record_after-append L [] ks = refl
  record_after-append L (h ∷ hs) ks = record_after-append (entered_at node L h) hs ks

  pub sent_in-append : (L : Record) (hs ks : List SlaveHappening) → sent_by_happenings node L (hs ++ ks) ≡ sent_by_happenings node L hs ++ sent_by_happenings node (record_by_happenings node L hs) ks
  sent_in-append L [] ks = refl
  sent_in-append L (h ∷ hs) ks =
      ap (λ l. (deed_at node L h).datagrams ++ l) (sent_in-append (entered_at node L h) hs ks)
      ∙ sym (append_assoc (deed_at node L h).datagrams (sent_by_happenings node (entered_at node L h) hs) (sent_by_happenings node (record_by_happenings node (entered_at node L h) hs) ks))

  pub selections_in-append : (L : Record) (hs ks : List SlaveHappening)
      → selections_in node L (hs ++ ks) ≡ selections_in node L hs ++ selections_in node (record_by_happenings node L hs) ks
  selections_in-append L [] ks = refl
  selections_in-append L (h ∷ hs) ks =
      ap (λ l. selection_at node (entered_at node L h) h ++ l) (selections_in-append (entered_at node L h) hs ks)
      ∙ sym (append_assoc (selection_at node (entered_at node L h) h) (selections_in node (entered_at node L h) hs) (selections_in node (record_by_happenings node (entered_at node L h) hs) ks))

module _ (once : Bool) (node : Node) where
  -- nothing happened; some receives may have failed
  pub ran_still : (L : Record) (old new : View) (failed : ℕ) → IsAt node old.kept old.judges L → new.kept ≡ old.kept → new.judges ≡ old.judges → new.sent ≡ old.sent → new.times ≡ old.times
      → HasFailed once old.faults new.faults failed → SlaveRan once node L old new [] [] [] 0 failed failed
  ran_still L old new failed h kept judges sent times fails = record {
    happened = tt;
    timed = subst (λ told. AreTimed old.times told [] []) (sym times) (timed_none old.times);
    stands = subst (λ k. IsAt node k new.judges L) (sym kept) (subst (λ js. IsAt node old.kept js L) (sym judges) h);
    port = port_still once old.sent new.sent old.faults new.faults failed sent fails;
    selects = refl;
  }

  pub ran_append : (L : Record) (old now new : View) (acts more : List (ℕ → SlaveHappening)) (hs ks : List SlaveHappening) (ss ts : List Selection) (s t f g m n : ℕ)
      → (p : SlaveRan once node L old now acts hs ss s f m) → SlaveRan once node (record_by_happenings node L hs) now new more ks ts t g n
      → SlaveRan once node L old new (acts ++ more) (hs ++ ks) (ss ++ ts) (s + t) (f + g) (m + n)
  ran_append L old now new acts more hs ks ss ts s t f g m n p q = record {
    happened = happened-append acts more hs ks p.happened q.happened;
    timed = timed_more old.times now.times new.times acts more hs ks p.timed q.timed;
    stands = subst (IsAt node new.kept new.judges) (sym (record_after-append node L hs ks)) q.stands;
    port = subst (λ ds. PortDid once old.sent new.sent old.faults new.faults ds (s + t) (f + g) (m + n)) (sym (sent_in-append node L hs ks))
        (port_append once old.sent now.sent new.sent old.faults now.faults new.faults (sent_by_happenings node L hs) (sent_by_happenings node (record_by_happenings node L hs) ks) s t f g m n p.port q.port);
    selects = selections_in-append node L hs ks ∙ ap₂ (λ l m. l ++ m) p.selects q.selects;
  }

  -- what is seen is the same in the end
  pub ran_view : (L : Record) (old now new : View) (acts : List (ℕ → SlaveHappening)) (hs : List SlaveHappening) (ss : List Selection) (s f m : ℕ) → new.kept ≡ now.kept → new.judges ≡ now.judges → new.sent ≡ now.sent
      → new.faults ≡ now.faults → new.times ≡ now.times → SlaveRan once node L old now acts hs ss s f m → SlaveRan once node L old new acts hs ss s f m
  ran_view L old now new acts hs ss s f m kept judges sent faults times p = record {
    happened = p.happened;
    timed = subst (λ told. AreTimed old.times told acts hs) (sym times) p.timed;
    stands = subst (λ k. IsAt node k new.judges (record_by_happenings node L hs)) (sym kept) (subst (λ js. IsAt node now.kept js (record_by_happenings node L hs)) (sym judges) p.stands);
    port = subst (λ told. PortDid once old.sent told old.faults new.faults (sent_by_happenings node L hs) s f m) (sym sent)
        (subst (λ n. PortDid once old.sent now.sent old.faults n (sent_by_happenings node L hs) s f m) (sym faults) p.port);
    selects = p.selects;
  }

  -- what was seen before is the same
  pub ran_from : (L : Record) (old now new : View) (acts : List (ℕ → SlaveHappening)) (hs : List SlaveHappening) (ss : List Selection) (s f m : ℕ) → now.sent ≡ old.sent → now.faults ≡ old.faults → now.times ≡ old.times
      → SlaveRan once node L now new acts hs ss s f m → SlaveRan once node L old new acts hs ss s f m
  ran_from L old now new acts hs ss s f m sent faults times p = record {
    happened = p.happened;
    timed = subst (λ told. AreTimed told new.times acts hs) times p.timed;
    stands = p.stands;
    port = subst (λ told. PortDid once told new.sent old.faults new.faults (sent_by_happenings node L hs) s f m) sent
        (subst (λ n. PortDid once now.sent new.sent n new.faults (sent_by_happenings node L hs) s f m) faults p.port);
    selects = p.selects;
  }

  -- so many receives failed, by another name
  pub ran_missed : (L : Record) (old new : View) (acts : List (ℕ → SlaveHappening)) (hs : List SlaveHappening) (ss : List Selection) (s f m n : ℕ) → m ≡ n
      → SlaveRan once node L old new acts hs ss s f m → SlaveRan once node L old new acts hs ss s f n
  ran_missed L old new acts hs ss s f m n same p = subst (SlaveRan once node L old new acts hs ss s f) same p
