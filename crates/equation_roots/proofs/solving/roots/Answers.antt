use Rattle.std.proofs.Common.{◌≡◌, ◌≤◌, List, ℤ, length, ap, sym, subst, arith, []}
use Rattle.calc_terms.specs.Fractions.{Fraction}
use Rattle.equation_roots.specs.{Factorings.{Rest}, Rationals.{rationals_of}, Roots.{rationals_in, rest_in}, Squares.{Finishes}, Told.{dense_in, wholes_of}, Wholes.{Divides}}
use Rattle.equation_roots.specs.{declared.rationals.Rationals.{Rationals}, declared.wholes.Wholes.{Wholes}}
use Rattle.equation_roots.proofs.{Steps.{divides_trans}, Whole.{is_beyond, is_factoring}}
use Rattle.equation_roots.proofs.solving.roots.Goals as goal
use Rattle.equation_roots.proofs.solving.roots.Goals.{then-len-gt3+in_ok-divide_out_small, else-len-gt3}

-- the zeros alone, and then the others too
zeros : (none found : List Fraction) (zs left : List ℤ) → none ≡ [] → Divides none zs found left → Divides [] zs found left
zeros none found zs left e d = subst (λ xs. Divides xs zs found left) e d

pub returns-then-len-gt3-2-clause-degree : goal.returns-then-len-gt3-2-clause-degree
returns-then-len-gt3-2-clause-degree c =
    elim c.if-len-gt3.branch [
      | then-len-gt3+in_ok-divide_out_small w ↦
          let long : 4 ≤ length (wholes_of w.divide_out_small.new.left) = omega (arith, c.if-len-gt3-2.true, c.len-2.ensures.value, ap (λ (x : Wholes). length (wholes_of x)) w.left-is) in
          is_beyond (dense_in c.args.coefficients.now) (wholes_of c.in_ok-left.left) (rationals_of w.divide_out_small.new.found) (wholes_of w.divide_out_small.new.left) c.in_ok-left.ensures.multiple
          (divides_trans [] (rationals_of c.divide_out_zeros.new.found) (rationals_of w.divide_out_small.new.found) (wholes_of c.in_ok-left.left) (wholes_of c.divide_out_zeros.new.left) (wholes_of w.divide_out_small.new.left)
          (zeros (rationals_of c.new-rationals.result) (rationals_of c.divide_out_zeros.new.found) (wholes_of c.in_ok-left.left) (wholes_of c.divide_out_zeros.new.left) c.new-rationals.ensures c.divide_out_zeros.ensures.divides)
          w.in_ok-divide_out_small.ensures.divides) long (w.in_ok-divide_out_small.ensures.none long)
      | else-len-gt3 w ↦ absurd (omega (arith, c.if-len-gt3-2.true, c.len-2.ensures.value, ap (λ (x : Wholes). length (wholes_of x)) w.left-is, w.if-len-gt3.false, c.len.ensures.value))
    ]

moved : (zs : List ℤ) (f g : Rationals) (l m : Wholes) → f ≡ g → l ≡ m → Divides [] zs (rationals_of g) (wholes_of m) → Divides [] zs (rationals_of f) (wholes_of l)
moved zs f g l m e h d = subst (λ (x : Rationals). Divides [] zs (rationals_of x) (wholes_of l)) (sym e) (subst (λ (x : Wholes). Divides [] zs (rationals_of g) (wholes_of x)) (sym h) d)

divided : (c : goal.After-new) → Divides [] (wholes_of c.in_ok-left.left) (rationals_of c.if-len-gt3.rationals) (wholes_of c.if-len-gt3.left)
divided c =
    elim c.if-len-gt3.branch [
      | then-len-gt3+in_ok-divide_out_small w ↦
          moved (wholes_of c.in_ok-left.left) c.if-len-gt3.rationals w.divide_out_small.new.found c.if-len-gt3.left w.divide_out_small.new.left w.rationals-is w.left-is
          (divides_trans [] (rationals_of c.divide_out_zeros.new.found) (rationals_of w.divide_out_small.new.found) (wholes_of c.in_ok-left.left) (wholes_of c.divide_out_zeros.new.left) (wholes_of w.divide_out_small.new.left)
          (zeros (rationals_of c.new-rationals.result) (rationals_of c.divide_out_zeros.new.found) (wholes_of c.in_ok-left.left) (wholes_of c.divide_out_zeros.new.left) c.new-rationals.ensures c.divide_out_zeros.ensures.divides)
          w.in_ok-divide_out_small.ensures.divides)
      | else-len-gt3 w ↦
          moved (wholes_of c.in_ok-left.left) c.if-len-gt3.rationals c.divide_out_zeros.new.found c.if-len-gt3.left c.divide_out_zeros.new.left w.rationals-is w.left-is
          (zeros (rationals_of c.new-rationals.result) (rationals_of c.divide_out_zeros.new.found) (wholes_of c.in_ok-left.left) (wholes_of c.divide_out_zeros.new.left) c.new-rationals.ensures c.divide_out_zeros.ensures.divides)
    ]

pub returns-clause-factored : goal.returns-clause-factored
returns-clause-factored c =
    is_factoring (dense_in c.args.coefficients.now) (wholes_of c.in_ok-left.left) (rationals_of c.if-len-gt3.rationals) (rationals_in c.new.result) (wholes_of c.if-len-gt3.left) (rest_in c.new.result)
    c.in_ok-left.ensures.multiple (divided c)
    (subst (λ (h : List Fraction). Finishes (rationals_of c.if-len-gt3.rationals) (wholes_of c.if-len-gt3.left) h (rest_in c.new.result)) (sym c.new.ensures.rationals)
    (subst (λ (r : Rest). Finishes (rationals_of c.if-len-gt3.rationals) (wholes_of c.if-len-gt3.left) (rationals_of c.finish.new.found) r) (sym c.new.ensures.rest) c.in_ok-rest.ensures.finishes))
    c.new.result.rationals.rising
