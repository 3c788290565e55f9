use Rattle.std.proofs.Common.{◌∙◌, ◌++◌, ap, sym, subst, get_or, take, append_assoc}
use Rattle.std.proofs.lemmas.List.{take_all, take_more}
use Rattle.std.specs.{List.{filter_map}, Option.{option_to_list}}
use Rattle.ptu_record.proofs.ListLaws.{filter_map-push}
use Rattle.ptu_requester.specs.Requester.{StandsFor}
use Rattle.ptu_units.specs.declared.kind.Kind.TheVariants.{Announce}
use Rattle.ptu_slave_messages.specs.declared.signal.{Signal.{Signal}, Signal.TheVariants.{Grant}}
use Rattle.ptu_slave.specs.Parts.{heard_entry}
use Rattle.ptu_slave.proofs.asking.enter_each.Goals as goal

abbrev none : Signal
none = Grant Announce 0

pub loop-signal-preserved : goal.loop-signal-preserved
loop-signal-preserved c =
    let entry = heard_entry c.args.wants.now c.args.at c.args.master in
    let before = take c.loop-signal.signal-index c.args.signals.now in
    record {
      entered = λ L h. subst (StandsFor c.enter.new.requester)
          (append_assoc L (filter_map entry before) (option_to_list (entry (get_or c.args.signals.now c.loop-signal.signal-index none))) ∙ ap (λ w. L ++ w)
          (sym (filter_map-push entry before (get_or c.args.signals.now c.loop-signal.signal-index none))
          ∙ ap (filter_map entry) (sym (take_more c.args.signals.now c.loop-signal.signal-index none c.loop-signal-test.true))))
          (c.enter.ensures.entered (L ++ filter_map entry before) (c.loop-signal.invariant.entered L h));
      wants = c.enter.ensures.wants ∙ c.loop-signal.invariant.wants;
      masters = c.enter.ensures.masters ∙ c.loop-signal.invariant.masters;
    }

pub returns-clause-entered : goal.returns-clause-entered
returns-clause-entered c =
    let whole = take_all c.loop-signal.signal-index c.args.signals.now c.loop-signal-test.false in rw whole at c.loop-signal.invariant.entered
