use Rattle.std.proofs.Common.{◌∙◌, sym, ap}
use Rattle.ptu_record.specs.declared.rule.Rule.TheVariants.{Gap}
use Rattle.ptu_judges.proofs.Stocks.{took_flag, took_gap}
use Rattle.ptu_judges.proofs.stock.Stock.take.Goals as goal

pub returns-in-Flag : goal.returns-in-Flag
returns-in-Flag g c = rw c.in-Flag.is (took_flag (λ j. (goal.Judge-dyn g (j.vtable, j.value)).Judge.held j.value) c.args.self.now.flags.items c.pop.new.self.items c.args.self.now.gaps.items c.pop.result _ _
    c.pop.ensures.items c.args.self.now.flags.ok.0 c.pop.ensures.cases c.requires)

pub returns-in-Gap-eq4 : goal.returns-in-Gap-eq4
returns-in-Gap-eq4 g c = rw (c.in-Gap-eq4.is ∙ ap Gap (sym c.in-Gap-eq4.field-0-is ∙ c.in-Gap-eq4.field-0-test)) (took_gap (λ j. (goal.Judge-dyn g (j.vtable, j.value)).Judge.held j.value) c.args.self.now.gaps.items c.pop-in-Gap-eq4.new.self.items c.args.self.now.flags.items
    c.pop-in-Gap-eq4.result _ _ c.pop-in-Gap-eq4.ensures.items c.args.self.now.gaps.ok.0 c.pop-in-Gap-eq4.ensures.cases c.requires)
