use Rattle.expand_forms.proofs.{Shared.{◌∙◌, ap, sym, inverse, is_zero_fraction, Tree, divisor_of, plain, tree_at, forest}, NodeKinds.{divisor_nonzero, divisor_number}, NodeParts.{inverse_nonzero}}
use Rattle.expand_forms.proofs.parts.inverse_divisor.Goals as goal

pub rational-requires-clause-number : goal.rational-requires-clause-number
rational-requires-clause-number c = divisor_number (plain (tree_at c.args.divisor (forest c.args.pool.now))) c.requires.expanded c.requires.divisor

pub invert-requires : goal.invert-requires
invert-requires c = divisor_nonzero (plain (tree_at c.args.divisor (forest c.args.pool.now))) c.rational.result c.rational.ensures.plain c.requires.divisor

pub returns : goal.returns
returns c =
    let d = plain (tree_at c.args.divisor (forest c.args.pool.now)) in
    let value = c.invert.ensures.inverse ∙ ap (λ (t : Tree). inverse (divisor_of t)) (sym c.rational.ensures.plain) in
    record { value = value; nonzero = ap is_zero_fraction value ∙ inverse_nonzero d (divisor_number d c.requires.expanded c.requires.divisor) c.requires.divisor }
