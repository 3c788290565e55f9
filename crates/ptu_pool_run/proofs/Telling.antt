-- The datagrams of ports are told one after the other.
use Rattle.std.proofs.Common.{◌≡◌, ◌∙◌, ℕ, suc, ◌+◌, ◌-◌, ◌<◌, ◌≤◌, List, [], ◌∷◌, ◌++◌, length, drop, slice_get, Some, refl, sym, ap, subst, append_assoc, add-one, arith, drop-cons, length-append}
use Rattle.std.proofs.lemmas.{List.{map-append}, Option.{slice_get_within, get_or_from_slice_get}}
use Rattle.ptu_outside.specs.{Departure.{Departure}, MemoryPort.{MemoryPort}}
use Rattle.ptu_grandmaster.specs.Gm.{KeptGm, port_at, with_port}
use Rattle.ptu_pool_run.specs.{Output.{pool_line_text}, Sending.{sent_line}}
use Rattle.ptu_nodes.specs.{GrandmasterPorts.{in_ports}, Standing.{AreIdle}}
use Rattle.ptu_nodes.proofs.HandedOver.{drop-at}
use Rattle.ptu_nodes.proofs.GrandmasterPorts.{cleared}
use Rattle.ptu_pool_run.specs.Ports.{sent_texts}

-- of these datagrams those below the index are told: the texts, followed by those of the rest, are all
abbrev pub AreTold : ℕ → ℕ → ℕ → List Departure → List (List ℕ) → List (List ℕ) → Type 0
AreTold line number index datagrams texts texts' =
    texts' ++ sent_texts line number (drop index datagrams) ≡ texts ++ sent_texts line number datagrams

pub next_told : (line number index next : ℕ) (datagrams : List Departure) (texts now more : List (List ℕ)) (d : Departure) →
    AreTold line number index datagrams texts now → slice_get datagrams index ≡ Some d → next ≡ index + 1 →
    more ≡ now ++ pool_line_text (sent_line line number d) ∷ [] → AreTold line number next datagrams texts more
next_told line number index next datagrams texts now more d told is next_is more_is =
    ap (λ n. more ++ sent_texts line number (drop n datagrams)) next_is
    ∙ ap (λ l. l ++ sent_texts line number (drop (index + 1) datagrams)) more_is
    ∙ append_assoc now (pool_line_text (sent_line line number d) ∷ []) _
    ∙ ap (λ l. now ++ sent_texts line number l) (sym (drop-at datagrams index d is))
    ∙ told

-- the same by the texts behind so many, of which there is one for each datagram that is told
abbrev pub AreToldBehind : ℕ → ℕ → ℕ → List Departure → List (List ℕ) → List (List ℕ) → Type 0
AreToldBehind line number before datagrams texts texts' =
    (before ≤ length texts') × AreTold line number (length texts' - before) datagrams texts texts'

pub next_told_behind : (line number before : ℕ) (datagrams : List Departure) (texts now more : List (List ℕ)) (d : Departure) →
    AreToldBehind line number before datagrams texts now → slice_get datagrams (length now - before) ≡ Some d →
    more ≡ now ++ pool_line_text (sent_line line number d) ∷ [] → AreToldBehind line number before datagrams texts more
next_told_behind line number before datagrams texts now more d told is more_is =
    let many : length more ≡ length now + 1 = ap length more_is ∙ length-append now (pool_line_text (sent_line line number d) ∷ []) in (
      omega (arith, many, told.0),
      next_told line number (length now - before) (length more - before) datagrams texts now more d told.1 is (omega (arith, many, told.0)) more_is,
    )

-- ---- the ports of a grandmaster, in turn

pub told_more : (line number : ℕ) (ds es : List Departure) (texts now more : List (List ℕ)) →
    now ≡ texts ++ sent_texts line number ds → more ≡ now ++ sent_texts line number es → more ≡ texts ++ sent_texts line number (ds ++ es)
told_more line number ds es texts now more first second =
    second ∙ ap (λ l. l ++ sent_texts line number es) first ∙ append_assoc texts (sent_texts line number ds) (sent_texts line number es)
    ∙ ap (λ l. texts ++ l) (sym (map-append (λ d. pool_line_text (sent_line line number d)) ds es))

-- each port in turn is told and cleared
pub told_ports : (line number : ℕ) (g : KeptGm MemoryPort) (t0 t1 t2 t3 t4 t5 : List (List ℕ)) →
    t1 ≡ t0 ++ sent_texts line number g.s0.port.sent → t2 ≡ t1 ++ sent_texts line number g.s1.port.sent → t3 ≡ t2 ++ sent_texts line number g.s2.port.sent →
    t4 ≡ t3 ++ sent_texts line number g.s3.port.sent → t5 ≡ t4 ++ sent_texts line number g.reply.sent →
    t5 ≡ t0 ++ sent_texts line number (in_ports g)
told_ports line number g t0 t1 t2 t3 t4 t5 e1 e2 e3 e4 e5 =
    told_more line number (g.s0.port.sent ++ g.s1.port.sent ++ g.s2.port.sent ++ g.s3.port.sent) g.reply.sent t0 t4 t5
    (told_more line number (g.s0.port.sent ++ g.s1.port.sent ++ g.s2.port.sent) g.s3.port.sent t0 t3 t4
    (told_more line number (g.s0.port.sent ++ g.s1.port.sent) g.s2.port.sent t0 t2 t3
    (told_more line number g.s0.port.sent g.s1.port.sent t0 t1 t2 e1 e2) e3) e4) e5

-- what a call tells of the port of this index of the grandmaster at the place, and that it clears the port
abbrev Tells : ℕ → ℕ → ℕ → List (KeptGm MemoryPort) → List (List ℕ) → List (List ℕ) → Type 0
Tells line place index old texts texts' =
    (gm : KeptGm MemoryPort) → slice_get old place ≡ Some gm → texts' ≡ texts ++ sent_texts line (place + 1) (port_at index gm).sent

abbrev Clears : ℕ → ℕ → List (KeptGm MemoryPort) → List (KeptGm MemoryPort) → Type 0
Clears place index old new =
    (gm : KeptGm MemoryPort) → slice_get old place ≡ Some gm → slice_get new place ≡ Some (cleared index gm)

module _ (line place : ℕ) (g : KeptGm MemoryPort) (l0 l1 l2 l3 l4 : List (KeptGm MemoryPort)) where
  pub all_told : (t0 t1 t2 t3 t4 t5 : List (List ℕ)) → slice_get l0 place ≡ Some g →
      Clears place 0 l0 l1 → Clears place 1 l1 l2 → Clears place 2 l2 l3 → Clears place 3 l3 l4 →
      Tells line place 0 l0 t0 t1 → Tells line place 1 l1 t1 t2 → Tells line place 2 l2 t2 t3 → Tells line place 3 l3 t3 t4 → Tells line place 4 l4 t4 t5 →
      t5 ≡ t0 ++ sent_texts line (place + 1) (in_ports g)
  all_told t0 t1 t2 t3 t4 t5 at c0 c1 c2 c3 s0 s1 s2 s3 s4 =
      let at1 = c0 g at in
      let at2 = c1 _ at1 in
      let at3 = c2 _ at2 in
      let at4 = c3 _ at3 in
      told_ports line (place + 1) g t0 t1 t2 t3 t4 t5 (s0 g at) (s1 _ at1) (s2 _ at2) (s3 _ at3) (s4 _ at4)

  -- nothing is left in any port
  pub emptied : (l5 : List (KeptGm MemoryPort)) → slice_get l0 place ≡ Some g →
      Clears place 0 l0 l1 → Clears place 1 l1 l2 → Clears place 2 l2 l3 → Clears place 3 l3 l4 → Clears place 4 l4 l5 →
      (gm : KeptGm MemoryPort) → slice_get l5 place ≡ Some gm → AreIdle gm
  emptied l5 at c0 c1 c2 c3 c4 gm now =
      let at5 = c4 _ (c3 _ (c2 _ (c1 _ (c0 g at)))) in
      let same : cleared 4 (cleared 3 (cleared 2 (cleared 1 (cleared 0 g)))) ≡ gm = (let e = sym at5 ∙ now in cc) in
      subst AreIdle same (refl, refl, refl, refl, refl)
