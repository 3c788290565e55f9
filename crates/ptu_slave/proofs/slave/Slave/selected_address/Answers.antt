use Rattle.std.proofs.Common.{◌∙◌, ◌<◌, ◌≡◌, ap, ap₂, length, subst, sym}
use Rattle.std.specs.{Option.{option_map}, Prelude.{IfSome}}
use Rattle.ptu_record.specs.{Record.{event_moment}, Selection.{selected_master}}
use Rattle.ptu_profile.specs.Slave.{address_of, priorities, timeouts}
use Rattle.ptu_slave.specs.{Kept.{Kept}, Seen.{seen}}
use Rattle.ptu_slave.proofs.{Selecting.{chosen_within, priorities_many}, Stepping.{moment_is}}
use Rattle.ptu_slave.proofs.slave.Slave.selected_address.Goals as goal

pub returns-clause-selected : goal.returns-clause-selected
unfolding seen
returns-clause-selected g c = λ openings L h.
    let masters = c.args.self.now.core.masters in
    let same = c.masters.ensures.masters ∙ ap (λ (k : Kept). k.masters) c.selected-place.ensures.same in
    let place = c.selected-place.ensures.selected L h.selects
    ∙ ap (selected_master (timeouts c.args.self.now.core.config) (priorities masters) L) (moment_is openings c.args.self.now.core _ L c.args.t h) in
    let many : length (priorities masters) ≡ length c.masters.result.now = priorities_many masters ∙ ap length (sym same) in
    c.address.ensures (subst (λ n. IfSome c.selected-place.result (λ m. m < n)) many
    (chosen_within (timeouts c.args.self.now.core.config) (priorities masters) L (event_moment L c.args.t) c.selected-place.result place))
    ∙ ap₂ (λ ms o. option_map (address_of ms) o) same place
