use Rattle.number_forms.proofs.{Shared.{◌∙◌, ap, subst, sym, rules, Same-refl, Surd, surd_times, tree_of, value, AreTermsOf, number_tree}, ListedTerms.{number_over, number_value}}
use Rattle.number_forms.proofs.Over.{odd_power, power_itself, squared_power}
use Rattle.number_forms.specs.Values.{surd_of}
use Rattle.number_forms.proofs.values.cube_values.Goals as goal

pub returns : goal.returns
returns c = λ h.
    let a = tree_of c.args.a.now c.args.pool.now in let square = c.multiply_values.new.list.items in let q = number_tree square in
    let cube = c.multiply_terms.ensures h in
    let last = subst (λ (v : Surd). AreTermsOf (surd_times v (value a)) c.multiply_terms.new.list.items) (ap surd_of c.as_slice.ensures.value ∙ sym (number_value square)) cube in
    odd_power q a _ 3 (λ e. absurd cc) (squared_power (value a) a q 1 (power_itself a (record { number = c.requires.number; worth = Same-refl (value a) }))
    (number_over square (c.multiply_values.ensures (search rules)))) (number_over _ last)
