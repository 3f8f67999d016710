-- The polynomial of a tree has monomials only.
use Rattle.expansions.proofs.Shared.{◌≡◌, ◌≤◌, ℕ, ◌+◌, List, [], ◌∷◌, refl, sym, ap, ◌∙◌, subst, arith, Ordering, Less, Equal, Greater, nat_cmp, ordering_reverse, nat_list_cmp_total, slice_cmp}
use Rattle.expansions.proofs.Shared.{minus_one_fraction, inverse, Tree, num, symbol, undef, add, mult, power, root, neg, sub, div, Trees, none, more, AreMonomials, Factor, IsBelowAll, IsMonomial}
use Rattle.expansions.proofs.{Shared.{Monomial, Polynomial, factor, monomial_times, scaled, with_factor, divisor_of, exponent_of, polynomial_of, product_of, sum_of}, AllMonomials.{AllHave, IsClosed}}
use Rattle.expansions.proofs.{AllMonomials.{append_all, product_all, raised_all, scaled_all}, ValueLaws.{names_equal}}

pub names_turned : (x y : List ℕ) → slice_cmp nat_cmp x y ≡ Greater → slice_cmp nat_cmp y x ≡ Less
names_turned x y g = nat_list_cmp_total.antisymm y x ∙ ap ordering_reverse g

pub below_more : (x y : List ℕ) (m : Monomial) → slice_cmp nat_cmp x y ≡ Less → IsBelowAll y m → IsBelowAll x m
below_more x y [] l h = tt
below_more x y (f ∷ m) l h = (nat_list_cmp_total.trans x y f.name l h.0, below_more x y m l h.1)

pub below_with : (x : List ℕ) (g : Factor) (m : Monomial) → slice_cmp nat_cmp x g.name ≡ Less → IsBelowAll x m → IsBelowAll x (with_factor g m)
below_with x g [] l h = (l, tt)
below_with x g (f ∷ m) l h = let go = below_with x g m l h.1 in grind arith

with_factor_monomial : (g : Factor) (m : Monomial) → 1 ≤ g.exponent → IsMonomial m → IsMonomial (with_factor g m)
with_factor_monomial g [] l h = (l, tt, tt)
with_factor_monomial g (f ∷ m) l h = by (slice_cmp nat_cmp g.name f.name) refl (with_factor_monomial g m l h.2)
  where
    sum : 1 ≤ g.exponent + f.exponent
    sum = omega (arith, l)

    by : (o : Ordering) → slice_cmp nat_cmp g.name f.name ≡ o → IsMonomial (with_factor g m)
        → IsMonomial (elim o [ Less ↦ g ∷ f ∷ m | Equal ↦ factor g.name (g.exponent + f.exponent) ∷ m | Greater ↦ f ∷ with_factor g m ])
    by Less e go = (l, (e, below_more g.name f.name m e h.1), h)
    by Equal e go = (sum, subst (λ x. IsBelowAll x m) (sym (names_equal g.name f.name e)) h.1, h.2)
    by Greater e go = (h.0, below_with f.name g m (names_turned g.name f.name e) h.1, go)

pub monomial_times_monomial : (m n : Monomial) → IsMonomial m → IsMonomial n → IsMonomial (monomial_times m n)
monomial_times_monomial [] n h k = k
monomial_times_monomial (g ∷ m) n h k = with_factor_monomial g (monomial_times m n) h.0 (monomial_times_monomial m n h.2 k)

pub monomial_closed : IsClosed IsMonomial
monomial_closed = record { one = tt; times = monomial_times_monomial }

mutual
  pub tree_monomials : (t : Tree) → AllHave IsMonomial (polynomial_of t)
  tree_monomials (num q) = (tt, tt)
  tree_monomials (symbol x) = ((omega arith, tt, tt), tt)
  tree_monomials undef = tt
  tree_monomials (add ts) = sum_monomials ts
  tree_monomials (mult ts) = product_monomials ts
  tree_monomials (power b e) = raised_all IsMonomial monomial_closed (polynomial_of b) (exponent_of e) (tree_monomials b)
  tree_monomials (root a) = tt
  tree_monomials (neg a) = scaled_all IsMonomial minus_one_fraction (polynomial_of a) (tree_monomials a)
  tree_monomials (sub a b) =
      append_all IsMonomial (polynomial_of a) (scaled minus_one_fraction (polynomial_of b)) (tree_monomials a) (scaled_all IsMonomial minus_one_fraction (polynomial_of b) (tree_monomials b))
  tree_monomials (div a c) = scaled_all IsMonomial (inverse (divisor_of c)) (polynomial_of a) (tree_monomials a)

  sum_monomials : (ts : Trees) → AllHave IsMonomial (sum_of ts)
  sum_monomials none = tt
  sum_monomials (more t ts) = append_all IsMonomial (polynomial_of t) (sum_of ts) (tree_monomials t) (sum_monomials ts)

  product_monomials : (ts : Trees) → AllHave IsMonomial (product_of ts)
  product_monomials none = (tt, tt)
  product_monomials (more t ts) = product_all IsMonomial monomial_closed (polynomial_of t) (product_of ts) (tree_monomials t) (product_monomials ts)

pub all_monomials : (v : Polynomial) → AllHave IsMonomial v → AreMonomials v
all_monomials [] h = tt
all_monomials (s ∷ v) h = (h.0, all_monomials v h.1)
