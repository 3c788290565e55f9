-- What a line tells a node, and the delivery of a datagram as one that a node takes.
use Rattle.std.proofs.Common.{◌≡◌, ℕ, true, Option, Some, None, Ok, is_some, refl}
use Rattle.ptu_script.specs.{Fields.{◌>>=◌}, Limits.{IsActWithin, IsCommandInRange}}
use Rattle.ptu_script.specs.declared.cause.Cause.TheVariants as causes
use Rattle.ptu_script.specs.declared.act.Act.{Act}
use Rattle.ptu_script.specs.declared.act.Act.TheVariants as acts
use Rattle.ptu_script.specs.declared.command.Command.TheVariants as commands
use Rattle.ptu_report_lines.specs.declared.sent.Sent.{Sent}
use Rattle.ptu_world.specs.Deeds.{Node}
use Rattle.ptu_world.specs.World.{World, datagram_deed, datagram_numbered, delivered_to, done_by, node_at, or_cause, step}

-- ---- an event

-- what a line tells a node is within its limits
pub act_within : (at node : ℕ) (act : Act) → IsCommandInRange (commands.Event at node act) → IsActWithin act
act_within at node (acts.Receive from octets) within = tt
act_within at node (acts.Turn table) within = within
act_within at node (acts.Class class) within = tt
act_within at node (acts.Capacity capacity) within = within
act_within at node acts.Tick within = tt
act_within at node (acts.Flag master unusable) within = tt
act_within at node (acts.Judge master rule) within = within
act_within at node acts.Stop within = tt

-- ---- a datagram that was sent is delivered

-- to the node of its address, as one that it takes
pub deliver_is : (w : World) (t number : ℕ) (sent : Sent) → datagram_numbered number w.sent ≡ Some sent → is_some (node_at w.nodes sent.to) ≡ true
    → step w (commands.Deliver t number) ≡ step w (commands.Event t sent.to (acts.Receive sent.from sent.octets))
unfolding step
deliver_is w t number sent numbered there = rw numbered (by (node_at w.nodes sent.to) there)
  where
    by : (o : Option Node) → is_some o ≡ true → Ok (delivered_to w t sent o) ≡ (or_cause causes.Node o >>= λ node. Ok (done_by w sent.to (datagram_deed node t sent.from sent.octets)))
    by None none = absurd (cc none)
    by (Some node) there = refl
