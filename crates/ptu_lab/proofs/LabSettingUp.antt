-- A new node is set up, or why it is not.
use Rattle.std.proofs.Common.{◌≡◌, ◌∙◌, ℕ, ◌+◌, Bool, true, false, cond, List, [], Some, None, Ok, Err, is_some, refl, sym, ap, ap₂, subst, arith}
use Rattle.std.specs.{Prelude.{if◌then◌else◌, nat_eq}, HashMap.{get}}
use Rattle.ptu_judges.specs.Held.{Held}
use Rattle.ptu_report.specs.Rules.{IsOutcome}
use Rattle.ptu_script.specs.declared.cause.Cause.{Cause}
use Rattle.ptu_script.specs.declared.cause.Cause.TheVariants as causes
use Rattle.ptu_outside.specs.MemoryPort.{MemoryPort}
use Rattle.ptu_units.specs.Counts.{counted}
use Rattle.ptu_nodes.specs.Noted.{Noted}
use Rattle.ptu_slave.specs.Seen.{Seen}
use Rattle.ptu_world.specs.Deeds as world
use Rattle.ptu_world.specs.World.{World, node_at, placed, quietly, set_up}
use Rattle.ptu_world.specs.Report.{Course, outcome_by}
use Rattle.ptu_lab.specs.declared.{slave_node.SlaveNode.{SlaveNode}, lab.Node.{Node}, lab.Lab.{Lab}}
use Rattle.ptu_lab.specs.Steps.{refusal}
use Rattle.ptu_lab.specs.Standing.{StandsAs, StandsFor}
use Rattle.ptu_lab.proofs.LabNodes.{is_there, placed_agree}

abbrev with_node : World → ℕ → world.Node → World
with_node w ip node = record w { nodes = placed ip node w.nodes }

-- by whether it comes too late, and whether the address has a node
set_up_is : (w : World) (ip : ℕ) (node : world.Node) (begun other : Bool) → w.has_begun ≡ begun → is_some (node_at w.nodes ip) ≡ other
    → set_up w ip node ≡ (if begun then Err causes.Order else if other then Err causes.Node else Ok (with_node w ip node))
set_up_is w ip node begun other e f =
    ap₂ (λ (b o : Bool). if b then Err causes.Order else if o then Err causes.Node else Ok (with_node w ip node)) e f

-- what is not refused
before_events : (begun other : Bool) → None ≡ refusal begun other → begun ≡ false
before_events true other free = absurd (cc free)
before_events false other free = refl

without_node : (begun other : Bool) → None ≡ refusal begun other → other ≡ false
without_node true other free = absurd (cc free)
without_node false true free = absurd (cc free)
without_node false false free = refl

module _ {J B : Type 0} {I : J → Type 0} (see : SlaveNode J I → Seen MemoryPort B) (flags gaps : List Held) (lab : Lab J I) (c : Course) (ip : ℕ) (w : world.Node) (stands : StandsFor see flags gaps lab c) where
  there_is : (other : Bool) → is_some (get nat_eq lab.nodes ip) ≡ other → is_some (node_at c.world.nodes ip) ≡ other
  there_is other found = is_there see ip c.world.has_begun (get nat_eq lab.nodes ip) (node_at c.world.nodes ip) (stands.nodes ip) ∙ found

  -- why it is not
  pub is_refused : (line : ℕ) (after : Course → Type 0) (cause : Cause) → Some cause ≡ refusal lab.has_begun (is_some (get nat_eq lab.nodes ip))
      → IsOutcome (outcome_by c line (quietly (set_up c.world ip w))) after [] (Some cause)
  is_refused line after cause why =
      subst (λ made. IsOutcome (outcome_by c line (quietly made)) after [] (Some cause))
      (sym (set_up_is c.world ip w lab.has_begun (is_some (get nat_eq lab.nodes ip)) (sym stands.has_begun) (there_is (is_some (get nat_eq lab.nodes ip)) refl)))
      (by lab.has_begun (is_some (get nat_eq lab.nodes ip)) why)
    where
      by : (begun other : Bool) → Some cause ≡ refusal begun other
          → IsOutcome (outcome_by c line (quietly (if begun then Err causes.Order else if other then Err causes.Node else Ok (with_node c.world ip w)))) after [] (Some cause)
      by true other why = cc why
      by false true why = cc why
      by false false why = absurd (cc why)

  -- it is set up
  pub is_set_up : (lab' : Lab J I) (line : ℕ) (node : Node J I) → None ≡ refusal lab.has_begun (is_some (get nat_eq lab.nodes ip))
      → StandsAs see ip false node w
      → ((q : ℕ) → get nat_eq lab'.nodes q ≡ cond (nat_eq ip q) (Some node) (get nat_eq lab.nodes q))
      → lab'.journal ≡ lab.journal
      → lab'.has_begun ≡ lab.has_begun
      → IsOutcome (outcome_by c line (quietly (set_up c.world ip w))) (StandsFor see flags gaps lab') [] None
  is_set_up lab' line node free means changed journal begins =
      let begun : lab.has_begun ≡ false = before_events lab.has_begun (is_some (get nat_eq lab.nodes ip)) free in
      let found : is_some (get nat_eq lab.nodes ip) ≡ false = without_node lab.has_begun (is_some (get nat_eq lab.nodes ip)) free in
      let not_begun : c.world.has_begun ≡ false = sym stands.has_begun ∙ begun in
      subst (λ made. IsOutcome (outcome_by c line (quietly made)) (StandsFor see flags gaps lab') [] None)
      (sym (set_up_is c.world ip w false false not_begun (there_is false found))) (
        record {
          nodes = placed_agree see lab.nodes lab'.nodes c.world.nodes c.world.has_begun ip node w stands.nodes changed (subst (λ b. StandsAs see ip b node w) (sym not_begun) means);
          sent = ap (λ (n : Noted). n.sent) journal ∙ stands.sent;
          has_begun = begins ∙ stands.has_begun;
          flags = stands.flags;
          gaps = stands.gaps;
          stock = stands.stock;
          granted = (let none : lab'.journal.granted ≡ counted (c.granted + 0) = ap (λ (n : Noted). n.granted) journal ∙ omega (arith, stands.granted) in none);
          short = (let none : lab'.journal.short ≡ counted (c.short + 0) = ap (λ (n : Noted). n.short) journal ∙ omega (arith, stands.short) in none);
        },
        refl,
      )
