-- That a node of a script has done what a deed says.
use Rattle.std.proofs.Common.{◌≡◌, ◌∙◌, ℕ, List, [], ◌++◌, sym, ap, Some, Result, Ok, Err}
use Rattle.std.specs.Result.{OnOk}
use Rattle.ptu_outside.specs.{Departure.{Departure}, MemoryPort.{MemoryPort}}
use Rattle.ptu_history.specs.History.{Record}
use Rattle.ptu_grandmaster.specs.Gm.{KeptGm, StandsFor}
use Rattle.ptu_world.specs.{Deeds.{Deed, Grandmaster, IsGrandmaster, IsSlave, Node}, Grandmasters.{class_deed}}
use Rattle.ptu_nodes.specs.{Doing.{HasDone}, GrandmasterPorts.{GoesOn}}
use Rattle.ptu_nodes.specs.Noted.{Noted, with_handed, with_said, with_sent}
use Rattle.ptu_nodes.specs.declared.grandmaster_node.GrandmasterNode.{GrandmasterNode}
use Rattle.ptu_nodes.specs.Standing.{AreIdle, AreSure, IsGrandmasterNode, StandsAsGrandmaster}
use Rattle.ptu_nodes.proofs.Noting.{said_nothing, sent_nothing}

pub on_ok_four : {T E P Q R S U : Type 0} (r : Result T E) → (P → Q → R → S → U) → OnOk r P → OnOk r Q → OnOk r R → OnOk r S → OnOk r U
on_ok_four (Ok x) f p q r s = f p q r s
on_ok_four (Err e) f p q r s = tt

-- ---- where no send failed, all was sent

-- what the port tells, where all was sent
pub all_handed : (before after ds : List Departure) → Some (before ++ ds) ≡ Some after → after ≡ before ++ ds
all_handed before after ds told = cc

-- ---- what was said, and then handed over, is a deed behind which nothing is said

pub has_done : (is_node : Node → Type 0) (ip : ℕ) (deed : Deed) (old middle new : Noted) →
    is_node deed.node → deed.added ≡ [] → middle ≡ with_said deed.said old → new ≡ with_handed ip deed.sends middle →
    HasDone is_node ip deed old new
has_done is_node ip deed old middle new node none says handed = record {
  node = node;
  noted =
      handed ∙ ap (with_handed ip deed.sends) says ∙ sym (said_nothing (with_handed ip deed.sends (with_said deed.said old)))
      ∙ ap (λ l. with_said l (with_handed ip deed.sends (with_said deed.said old))) (sym none);
}

-- nothing is said of a class that changes, and nothing is sent
pub class_changed : (P : Node → Type 0) (ip class : ℕ) (g : Grandmaster) (noted : Noted) → P (class_deed g class).node → HasDone P ip (class_deed g class) noted noted
class_changed P ip class g noted is = record {
  node = is;
  noted = sym (said_nothing (with_sent [] (with_said [] noted)) ∙ (sent_nothing (with_said [] noted) ∙ said_nothing noted));
}

-- ---- the grandmaster goes on with its history

-- a node that has done a deed stands for a grandmaster still
module _ (node : GrandmasterNode) where
  is_grandmaster : (n : Node) → StandsAsGrandmaster node n → (g : Grandmaster) × IsGrandmasterNode node g
  is_grandmaster (IsGrandmaster g) stands = (g, stands)
  is_grandmaster (IsSlave s) stands = absurd stands

  pub stands_still : {ip : ℕ} {deed : Deed} {old new : Noted} → HasDone (StandsAsGrandmaster node) ip deed old new → (g : Grandmaster) × IsGrandmasterNode node g
  stands_still {deed = deed} done = is_grandmaster deed.node done.node

pub stands_after : (g : Grandmaster) (ip : ℕ) (gm0 gm1 gm2 gm3 : KeptGm MemoryPort) (past : List Record) →
    IsGrandmasterNode (record { ip = ip; gm = gm0 }) g → GoesOn gm0 gm1 → gm2.config ≡ gm1.config →
    StandsFor g.capacity gm2 past → GoesOn gm2 gm3 → AreIdle gm3 → AreSure gm3 →
    IsGrandmasterNode (record { ip = ip; gm = gm3 }) (record g { past = past })
stands_after g ip gm0 gm1 gm2 gm3 past is first same stands last idle sure = record {
  ip = is.ip;
  config = is.config ∙ sym first.config ∙ sym same ∙ sym last.config;
  stands = last.stands g.capacity past stands;
  idle = idle;
  sure = sure;
}
