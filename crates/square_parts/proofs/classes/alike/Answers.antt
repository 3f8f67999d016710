use Rattle.square_parts.proofs.{Shared.{sym, refl, IsGcd-swap}, SquareFactors.{divisor_positive, first_square, alike_roots, alike_turned, first_part, second_part}}
use Rattle.square_parts.proofs.classes.alike.Goals as goal

pub nonzero_div-r : goal.nonzero_div-r
nonzero_div-r c = divisor_positive _ _ _ c.requires.r_positive c.requires.s_positive c.gcd-shared.ensures

pub nonzero_div-s : goal.nonzero_div-s
nonzero_div-s c = divisor_positive _ _ _ c.requires.r_positive c.requires.s_positive c.gcd-shared.ensures

pub returns-in_err-a-clause-found : goal.returns-in_err-a-clause-found
returns-in_err-a-clause-found c =
    rw c.from_residual.ensures
    (λ some. cc, λ h. let (u, e) = first_square _ _ _ c.requires.r_positive c.requires.s_positive c.gcd-shared.ensures h in absurd (c.in_err-a.ensures.no_square refl u (sym e)))

pub returns-in_err-b-clause-found : goal.returns-in_err-b-clause-found
returns-in_err-b-clause-found c =
    rw c.from_residual-in_err-b.ensures (
      λ some. cc,
      λ h. let (u, e) = first_square _ _ _ c.requires.s_positive c.requires.r_positive (IsGcd-swap _ _ _ c.gcd-shared.ensures) (alike_turned _ _ h) in absurd (c.in_err-b.ensures.no_square refl u (sym e)),
    )

pub returns-clause-found : goal.returns-clause-found
returns-clause-found c = (λ some. alike_roots _ _ _ c.requires.r_positive c.requires.s_positive c.gcd-shared.ensures _ _ c.in_ok-a.ensures.square c.in_ok-b.ensures.square, λ h. refl)

pub returns-clause-first : goal.returns-clause-first
returns-clause-first c = first_part _ _ _ c.requires.r_positive c.requires.s_positive c.gcd-shared.ensures _ c.in_ok-a.ensures.square

pub returns-clause-second : goal.returns-clause-second
returns-clause-second c = second_part _ _ _ c.requires.r_positive c.requires.s_positive c.gcd-shared.ensures _ c.in_ok-b.ensures.square
