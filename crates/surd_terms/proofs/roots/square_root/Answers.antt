use Rattle.surd_terms.proofs.Shared.{◌≡◌, ◌*◌, ◌<◌, ◌^◌, [], ◌∷◌, true, false, pos, ap, sym, ◌∙◌, subst, rules, to_z, of_z, nat_abs, w128, to_z_pos, times, lowest, quotient, whole_fraction, mul_pos}
use Rattle.surd_terms.proofs.{Shared.{fraction_fits, IsRootOf, value_of, Term, term, told, term_of, Mul, calculation, first_misfit}, Extraction.{IsSplit, split_root, root_of}}
use Rattle.calc_terms.proofs.Leaves.{at_least_one as positive_abs}
use Rattle.surd_terms.proofs.{Extraction.{positive_is, quotient_not_zero}, roots.square_root.Goals.{In_ok-product, After-split-root, After-ratio, After-new}}
use Rattle.surd_terms.proofs.roots.square_root.Goals as goal

num_is : (c : In_ok-product) → c.unsigned_abs.result ≡ nat_abs c.args.q.num
num_is c = c.unsigned_abs.ensures.value ∙ ap nat_abs (ap (λ z. to_z w128 (of_z w128 z)) c.num.ensures.value ∙ told c.args.q.num c.args.q.fits)

den_is : (c : In_ok-product) → c.unsigned_abs-2.result ≡ nat_abs c.args.q.den
den_is c = c.unsigned_abs-2.ensures.value ∙ ap nat_abs (ap (λ z. to_z w128 (of_z w128 z)) c.den.ensures.value ∙ told (pos (nat_abs c.args.q.den)) c.args.q.den_fits)

product_is : (c : In_ok-product) → c.in_ok-product.product ≡ nat_abs c.args.q.num * nat_abs c.args.q.den
product_is c = c.in_ok-product.ensures.product ∙ (λ i. num_is c i * den_is c i)

pub split-root-requires-clause-positive : goal.split-root-requires-clause-positive
split-root-requires-clause-positive c = rw (product_is c) (mul_pos (nat_abs c.args.q.num) (nat_abs c.args.q.den) (positive_abs c.args.q.num c.requires) c.den.ensures.rat.positive)

splits : (c : After-split-root) → IsSplit c.args.q.num (nat_abs c.args.q.den) (c.split-root.result.0) (c.split-root.result.1)
splits c = split_root c.args.q.num (nat_abs c.args.q.den) c.in_ok-product.product _ _ c.requires c.den.ensures.rat.positive (product_is (goal.at.After-split-root c).In_ok-product) c.in_ok-product.ensures.fits c.split-root.ensures.product

pub overflow_cast-root : goal.overflow_cast-root
overflow_cast-root c = let h : c.split-root.result.0 < 2 ^ 127 = (splits c).root_fits in search rules

pub ratio-requires-clause-num_fits : goal.ratio-requires-clause-num_fits
ratio-requires-clause-num_fits c = let s = splits (goal.at.ratio-requires-clause-num_fits c).After-split-root in rw (to_z_pos w128 (c.split-root.result.0) s.root_fits) s.root_fits

coefficient : (c : After-ratio) → value_of c.ratio.result ≡ quotient (c.split-root.result.0) (nat_abs c.args.q.den)
coefficient c = let s = splits (goal.at.After-ratio c).After-split-root in c.ratio.ensures.value ∙ (λ i. lowest (to_z_pos w128 (c.split-root.result.0) s.root_fits i) (ap nat_abs (ap (λ z. to_z w128 (of_z w128 z)) c.den-2.ensures.value ∙ told (pos (nat_abs c.args.q.den)) c.args.q.den_fits) i))

pub new-requires-clause-not_zero : goal.new-requires-clause-not_zero
new-requires-clause-not_zero c = let s = splits (goal.at.new-requires-clause-not_zero c).After-split-root in quotient_not_zero _ _ _ (coefficient c) s.positive c.den.ensures.rat.positive

pub new-requires-clause-fits : goal.new-requires-clause-fits
new-requires-clause-fits c = (splits (goal.at.new-requires-clause-fits c).After-split-root).rest_fits

term_is : (c : After-new) → term_of c.new.result ≡ term (quotient (c.split-root.result.0) (nat_abs c.args.q.den)) (c.split-root.result.1)
term_is c = c.new.ensures ∙ ap (λ q. term q (c.split-root.result.1)) (coefficient (goal.at.After-new c).After-ratio)

pub returns-clause-root : goal.returns-clause-root
returns-clause-root c =
    let s = splits (goal.at.returns-clause-root c).After-split-root in
    subst (λ t. IsRootOf c.args.q.num (nat_abs c.args.q.den) (t ∷ [])) (sym (term_is c)) (root_of c.args.q.num (nat_abs c.args.q.den) _ _ c.requires c.den.ensures.rat.positive s.product)

pub returns-clause-extracted : goal.returns-clause-extracted
returns-clause-extracted c =
    let s = splits (goal.at.returns-clause-extracted c).After-split-root in record {
      root = c.split-root.result.0;
      square = s.product ∙ ap (λ (t : Term). c.split-root.result.0 * c.split-root.result.0 * t.radicand) (sym (term_is c));
      coefficient = ap (λ (t : Term). t.coefficient) (term_is c);
    }

pub returns-clause-refused : goal.returns-clause-refused
returns-clause-refused c =
    let at = (goal.at.returns-clause-refused c).In_ok-product in
    subst (λ z. (false ≡ true → fraction_fits (times (whole_fraction z) (whole_fraction (pos (nat_abs c.args.q.den)))) ≡ false) × (fraction_fits (times (whole_fraction z) (whole_fraction (pos (nat_abs c.args.q.den)))) ≡ false → false ≡ true)) (sym (positive_is c.args.q.num c.requires)) (rw (num_is at, den_is at) at c.in_ok-product.ensures.refused)

pub returns-clause-overflow : goal.returns-clause-overflow
returns-clause-overflow c =
    let at = (goal.at.returns-clause-overflow c).In_ok-product in
    c.in_ok-product.ensures.overflow
    ∙ (λ i. first_misfit (calculation Mul (whole_fraction ((ap pos (num_is at) ∙ sym (positive_is c.args.q.num c.requires)) i)) (whole_fraction (pos (den_is at i))) ∷ []))
