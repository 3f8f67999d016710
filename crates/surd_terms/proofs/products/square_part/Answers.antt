use Rattle.surd_terms.proofs.Shared.{◌≡◌, ℕ, ◌*◌, ◌/◌, pos, [], ◌∷◌, sym, ap, ◌∙◌, subst, arith, same_from_IsGcd, whole_fraction, gcd, gcd_is, Mul, calculation, first_misfit, IsClean}
use Rattle.surd_terms.proofs.{Shared.{clean_below_over_shared}, Misfits.{refused_for}, Radicands.{IsSquarePart, shared_positive, rest_positive, square_part}}
use Rattle.surd_terms.proofs.products.square_part.Goals.{After-gcd-shared, In_ok-rest, After-split-root}
use Rattle.surd_terms.proofs.products.square_part.Goals as goal

pub nonzero_div-r : goal.nonzero_div-r
nonzero_div-r c = shared_positive c.args.r c.args.s c.gcd-shared.result c.requires.r_positive c.gcd-shared.ensures

pub nonzero_div-s : goal.nonzero_div-s
nonzero_div-s c = shared_positive c.args.r c.args.s c.gcd-shared.result c.requires.r_positive c.gcd-shared.ensures

pub split-root-requires-clause-positive : goal.split-root-requires-clause-positive
split-root-requires-clause-positive c = rw c.in_ok-rest.ensures.product (rest_positive c.args.r c.args.s c.gcd-shared.result c.requires.r_positive c.requires.s_positive c.gcd-shared.ensures)

part : (c : After-split-root) → IsSquarePart c.args.r c.args.s (c.gcd-shared.result * c.split-root.result.0) (c.split-root.result.1)
part c =
    square_part c.args.r c.args.s c.gcd-shared.result c.in_ok-rest.rest (c.split-root.result.0) (c.split-root.result.1) c.requires.r_positive c.requires.r_fits c.requires.s_positive c.requires.s_fits
    c.gcd-shared.ensures c.in_ok-rest.ensures.product c.in_ok-rest.ensures.fits c.split-root.ensures.product

whole : (c : In_ok-rest) → IsSquarePart c.args.r c.args.s (c.gcd-shared.result * 1) c.in_ok-rest.rest
whole c =
    square_part c.args.r c.args.s c.gcd-shared.result c.in_ok-rest.rest 1 c.in_ok-rest.rest c.requires.r_positive c.requires.r_fits c.requires.s_positive c.requires.s_fits
    c.gcd-shared.ensures c.in_ok-rest.ensures.product c.in_ok-rest.ensures.fits (once c.in_ok-rest.rest)
  where
    once : (n : ℕ) → n ≡ 1 * 1 * n
    once n = omega arith

pub overflow_mul-result : goal.overflow_mul-result
overflow_mul-result c = omega (arith, (part c).root_fits)

pub returns-clause-product : goal.returns-clause-product
returns-clause-product c = (part c).product

pub returns-clause-root_positive : goal.returns-clause-root_positive
returns-clause-root_positive c = (part c).positive

pub returns-clause-root_fits : goal.returns-clause-root_fits
returns-clause-root_fits c = (part c).root_fits

pub returns-clause-fits : goal.returns-clause-fits
returns-clause-fits c = (part c).rest_fits

listed : (c : After-gcd-shared) → first_misfit (calculation Mul (whole_fraction (pos (c.args.r / c.gcd-shared.result))) (whole_fraction (pos (c.args.s / c.gcd-shared.result))) ∷ [])
    ≡ first_misfit (calculation Mul (whole_fraction (pos (c.args.r / gcd c.args.r c.args.s))) (whole_fraction (pos (c.args.s / gcd c.args.r c.args.s))) ∷ [])
listed c = ap (λ g. first_misfit (calculation Mul (whole_fraction (pos (c.args.r / g))) (whole_fraction (pos (c.args.s / g))) ∷ [])) (same_from_IsGcd c.args.r c.args.s _ _ c.gcd-shared.ensures (gcd_is c.args.r c.args.s))

pub returns-in_err-rest-clause-overflow : goal.returns-in_err-rest-clause-overflow
returns-in_err-rest-clause-overflow c =
    refused_for c.from_residual.result c.in_err-rest.field-0.0 _ c.from_residual.ensures.0 c.from_residual.ensures.1 (c.in_err-rest.ensures.overflow ∙ listed (goal.at.returns-in_err-rest-clause-overflow c).After-gcd-shared)

pub returns-clause-overflow : goal.returns-clause-overflow
returns-clause-overflow c = c.in_ok-rest.ensures.overflow ∙ listed (goal.at.returns-clause-overflow c).After-gcd-shared

pub returns-then-s-lt-SQUARE_FREE_BELOW-clause-product : goal.returns-then-s-lt-SQUARE_FREE_BELOW-clause-product
returns-then-s-lt-SQUARE_FREE_BELOW-clause-product c = (whole (goal.at.returns-then-s-lt-SQUARE_FREE_BELOW-clause-product c).In_ok-rest).product ∙ squared c.gcd-shared.result c.in_ok-rest.rest
  where
    squared : (g m : ℕ) → (g * 1) * (g * 1) * m ≡ g * g * m
    squared g m = omega arith

pub returns-then-s-lt-SQUARE_FREE_BELOW-clause-root_positive : goal.returns-then-s-lt-SQUARE_FREE_BELOW-clause-root_positive
returns-then-s-lt-SQUARE_FREE_BELOW-clause-root_positive c = shared_positive c.args.r c.args.s c.gcd-shared.result c.requires.r_positive c.gcd-shared.ensures

pub returns-then-s-lt-SQUARE_FREE_BELOW-clause-root_fits : goal.returns-then-s-lt-SQUARE_FREE_BELOW-clause-root_fits
returns-then-s-lt-SQUARE_FREE_BELOW-clause-root_fits c = omega (arith, (whole (goal.at.returns-then-s-lt-SQUARE_FREE_BELOW-clause-root_fits c).In_ok-rest).root_fits)

pub returns-then-s-lt-SQUARE_FREE_BELOW-clause-clean : goal.returns-then-s-lt-SQUARE_FREE_BELOW-clause-clean
returns-then-s-lt-SQUARE_FREE_BELOW-clause-clean c =
    subst IsClean (sym c.in_ok-rest.ensures.product) (clean_below_over_shared c.args.r c.args.s c.gcd-shared.result c.requires.r_clean c.requires.s_clean c.if-r-lt-SQUARE_FREE_BELOW.true c.if-s-lt-SQUARE_FREE_BELOW.true c.gcd-shared.ensures)

pub returns-then-s-lt-SQUARE_FREE_BELOW-clause-overflow : goal.returns-then-s-lt-SQUARE_FREE_BELOW-clause-overflow
returns-then-s-lt-SQUARE_FREE_BELOW-clause-overflow c = c.in_ok-rest.ensures.overflow ∙ listed (goal.at.returns-then-s-lt-SQUARE_FREE_BELOW-clause-overflow c).After-gcd-shared

pub returns-then-rest-known-clause-product : goal.returns-then-rest-known-clause-product
returns-then-rest-known-clause-product c = (whole (goal.at.returns-then-rest-known-clause-product c).In_ok-rest).product ∙ squared c.gcd-shared.result c.in_ok-rest.rest
  where
    squared : (g m : ℕ) → (g * 1) * (g * 1) * m ≡ g * g * m
    squared g m = omega arith

pub returns-then-rest-known-clause-root_positive : goal.returns-then-rest-known-clause-root_positive
returns-then-rest-known-clause-root_positive c = shared_positive c.args.r c.args.s c.gcd-shared.result c.requires.r_positive c.gcd-shared.ensures

pub returns-then-rest-known-clause-root_fits : goal.returns-then-rest-known-clause-root_fits
returns-then-rest-known-clause-root_fits c = omega (arith, (whole (goal.at.returns-then-rest-known-clause-root_fits c).In_ok-rest).root_fits)

pub returns-then-rest-known-clause-overflow : goal.returns-then-rest-known-clause-overflow
returns-then-rest-known-clause-overflow c = c.in_ok-rest.ensures.overflow ∙ listed (goal.at.returns-then-rest-known-clause-overflow c).After-gcd-shared
