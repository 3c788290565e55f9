-- What holds of each world that a script reaches.
use Rattle.std.proofs.Common.{◌≡◌, ℕ, List, [], ◌∷◌, Option, Some, None, Result, Ok, Err, IfOk, IfSome, refl, sym, subst}
use Rattle.ptu_lines.specs.Script.{ScriptLine, Whole, Refused}
use Rattle.ptu_script.specs.declared.{cause.Cause.{Cause}, command.Command.{Command}}
use Rattle.ptu_script.specs.Command.{command_of}
use Rattle.ptu_world.specs.{Deeds.{Grandmaster, IsGrandmaster}, Promises.{AreMessagesSent, IsRun}}
use Rattle.ptu_world.specs.World.{World, Stock, Done, opening, step, node_at}
use Rattle.ptu_world.specs.Reached.{Leads, Reaches, done_by_line}
use Rattle.ptu_world.proofs.Limits.{IsWithin, command_within}
use Rattle.ptu_world.proofs.Steps.{AllStand, found, step_stands}
use Rattle.ptu_world.proofs.Messages.{AllSent, SentBy, step_sent}

-- induction over the worlds that a script reaches: by what each command within its limits keeps
module _ (P : World → Type 0) (keeps : (w : World) (command : Command) → IsWithin command → P w → IfOk (step w command) (λ done. P done.world)) where
  line_keeps : (w : World) (r : Result (Option Command) Cause) → IfOk r (λ o. IfSome o IsWithin) → P w → IfOk (done_by_line w r) (λ done. P done.world)
  line_keeps w (Ok None) limits p = p
  line_keeps w (Ok (Some command)) limits p = keeps w command limits p
  line_keeps w (Err cause) limits p = tt

  leads_keep : (w : World) (lines : List ScriptLine) (last : World) → P w → Leads w lines last → P last
  leads_keep w [] last p e = subst P (sym e) p
  leads_keep w (Refused cause ∷ rest) last p e = absurd e
  leads_keep w (Whole text ∷ rest) last p e =
      leads_keep e.0.world rest last (subst (λ r. IfOk r (λ done. P done.world)) e.1 (line_keeps w (command_of text) (command_within text) p)) e.2

  pub reached_keep : (stock : Stock) (script : List ℕ) (w : World) → P (opening stock) → Reaches stock script w → P w
  reached_keep stock script w p r = leads_keep (opening stock) r.taken w p r.leads

pub all_stand : (stock : Stock) (script : List ℕ) (w : World) → Reaches stock script w → AllStand w.nodes
all_stand stock script w r = reached_keep (λ v. AllStand v.nodes) (λ v command limits all. step_stands v all command limits) stock script w (λ ip. tt) r

pub grandmaster_runs : (stock : Stock) (script : List ℕ) (w : World) (ip : ℕ) (gm : Grandmaster) → Reaches stock script w → node_at w.nodes ip ≡ Some (IsGrandmaster gm) → IsRun ip gm
grandmaster_runs stock script w ip gm r e = found w.nodes (all_stand stock script w r) ip (IsGrandmaster gm) e

pub messages_sent : (stock : Stock) (script : List ℕ) (w : World) (ip : ℕ) (gm : Grandmaster) → Reaches stock script w → node_at w.nodes ip ≡ Some (IsGrandmaster gm) → AreMessagesSent w ip gm
messages_sent stock script w ip gm r e = subst (λ o. SentBy ip w.sent o) e (reached_keep AllSent (λ v command limits all. step_sent v all command) stock script w (λ a. refl) r ip)

-- each node stands at its address after a line too
pub line_stands : (w : World) (text : List ℕ) (done : Done) → AllStand w.nodes → done_by_line w (command_of text) ≡ Ok done → AllStand done.world.nodes
line_stands w text done all e =
    subst (λ r. IfOk r (λ done. AllStand done.world.nodes)) e
    (line_keeps (λ v. AllStand v.nodes) (λ v command limits all. step_stands v all command limits) w (command_of text) (command_within text) all)
