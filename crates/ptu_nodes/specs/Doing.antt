-- What an event at a node of a script has done.
use Rattle.std.specs.Prelude.{◌≡◌, ℕ, Option, Some, None, Result, Ok, Err}
use Rattle.ptu_script.specs.declared.cause.Cause.{Cause}
use Rattle.ptu_world.specs.Deeds.{Deed, Node}
use Rattle.ptu_nodes.specs.Noted.{Noted, with_deed}

-- the node at this address did the deed: it is the deed's node, and to the journal was added what the
-- deed says and sends, at the line that it had
pub record HasDone (is_node : Node → Type 0) (ip : ℕ) (deed : Deed) (old new : Noted) : Type 0 where
  pub node : is_node deed.node
  pub noted : new ≡ with_deed ip deed old

-- the node at this address did the deed; or this is why it is refused
abbrev pub HasActed : (is_node : Node → Type 0) (ip : ℕ) (old new : Noted) → Result Deed Cause → Option Cause → Type 0
HasActed is_node ip old new (Ok deed) None = HasDone is_node ip deed old new
HasActed is_node ip old new (Err cause) (Some found) = found ≡ cause
HasActed is_node ip old new (Ok deed) (Some found) = ⊥
HasActed is_node ip old new (Err cause) None = ⊥
