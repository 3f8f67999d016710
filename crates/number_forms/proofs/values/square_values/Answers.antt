use Rattle.number_forms.proofs.{Shared.{refl, Same-refl, tree_of, value}, ListedTerms.{number_over}, Over.{even_power, power_itself, squared_power}}
use Rattle.number_forms.proofs.values.square_values.Goals as goal

pub returns : goal.returns
returns c = λ h.
    let a = tree_of c.args.a.now c.args.pool.now in
    even_power (value a) _ 2 refl (squared_power (value a) a _ 1 (power_itself a (record { number = c.requires.number; worth = Same-refl (value a) })) (number_over _ (c.multiply_values.ensures h)))
