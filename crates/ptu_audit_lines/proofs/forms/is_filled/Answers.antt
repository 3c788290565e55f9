use Rattle.std.proofs.Common.{◌+◌, ◌∙◌, refl, sym, ap, ◌&&◌, arith}
use Rattle.ptu_lines.specs.Words.{word_of}
use Rattle.ptu_audit_lines.specs.Forms as specs
use Rattle.ptu_audit_lines.proofs.Fitting.{filled_within, fit_from, fit_next, one_filled, one_place, word_within, words_few}
use Rattle.ptu_audit_lines.proofs.forms.is_filled.Goals as goal

pub returns-then-not-has_in_place : goal.returns-then-not-has_in_place
unfolding specs.fits
returns-then-not-has_in_place c = sym (c.places.invariant.same
    ∙ (one_filled c.args.form.now c.args.line.now c.places.k c.in-Some.place.now c.places.invariant.first (c.in-Some.ensures ∙ ap (λ f. word_of f c.places.k) c.new-cut.ensures)
    ∙ ap (λ b. b && fit_from c.args.form.now c.args.line.now (c.places.k + 1)) (sym c.has_in_place.ensures ∙ c.if-not-has_in_place.true)))

pub places-preserved : goal.places-preserved
unfolding specs.fits
places-preserved c = record {
  first = omega (arith, c.places.invariant.first);
  within = omega (arith, filled_within c.args.line.now c.places.k c.in-Some.place.now (word_of c.args.line.now c.places.k) c.places.invariant.first refl (sym c.has_in_place.ensures ∙ c.if-not-has_in_place.false));
  same = c.places.invariant.same
      ∙ (one_filled c.args.form.now c.args.line.now c.places.k c.in-Some.place.now c.places.invariant.first (c.in-Some.ensures ∙ ap (λ f. word_of f c.places.k) c.new-cut.ensures)
      ∙ ap (λ b. b && fit_from c.args.form.now c.args.line.now (c.places.k + 1)) (sym c.has_in_place.ensures ∙ c.if-not-has_in_place.false));
}

pub places-smaller : goal.places-smaller
places-smaller c = omega (
  arith,
  c.places.invariant.within,
  filled_within c.args.line.now c.places.k c.in-Some.place.now (word_of c.args.line.now c.places.k) c.places.invariant.first refl (sym c.has_in_place.ensures ∙ c.if-not-has_in_place.false),
)

pub overflow_add-k : goal.overflow_add-k
overflow_add-k c = omega (arith, words_few c.args.form.now, word_within c.args.form.now c.places.k c.in-Some.place.now c.places.invariant.first (sym (c.in-Some.ensures ∙ ap (λ f. word_of f c.places.k) c.new-cut.ensures)))

pub returns-in-Some-word : goal.returns-in-Some-word
unfolding specs.fits
returns-in-Some-word c = sym (c.places.invariant.same ∙ (one_place c.args.form.now c.args.line.now c.places.k c.places.invariant.first
    ∙ (λ i. fit_next (sym (c.in_default.ensures ∙ ap (λ f. word_of f c.places.k) c.new-cut.ensures) i) (sym c.in-Some-word.ensures i) (fit_from c.args.form.now c.args.line.now (c.places.k + 1)))))

pub returns-in-None : goal.returns-in-None
unfolding specs.fits
returns-in-None c = sym (c.places.invariant.same ∙ (one_place c.args.form.now c.args.line.now c.places.k c.places.invariant.first
    ∙ (λ i. fit_next (sym (c.in_default.ensures ∙ ap (λ f. word_of f c.places.k) c.new-cut.ensures) i) (sym c.in-None.ensures i) (fit_from c.args.form.now c.args.line.now (c.places.k + 1)))))
