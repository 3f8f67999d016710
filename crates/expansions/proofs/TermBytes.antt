-- How many bytes terms and sums of them have.
use Rattle.expansions.proofs.Shared.{ℕ, suc, ◌+◌, ◌*◌, ◌≤◌, List, [], ◌∷◌, length, Bool, true, false, arith, if◌then◌else◌, mul-le, product_tree, num_most, is_one_fraction, one_fraction, num, more}
use Rattle.expansions.proofs.Shared.{size, sizes, expanded, factor_tree, factor_trees, joined, monomial_tree, normal, sum_tree, term_tree, term_trees, with_summand, without_zeros, IsNamed}
use Rattle.expansions.proofs.{Shared.{count_distinct, term_bytes, terms_bytes, sum_bytes, Factor, IsMonomial, Monomial, Polynomial, Summand}, AllMonomials.{AllHave, normal_all}, Widths.{few_factors}}

-- ---- terms

pub factor_most : (f : Factor) → size (factor_tree f) ≤ 64
factor_most f = grind arith

pub factors_most : (m : Monomial) → sizes (factor_trees m) ≤ 64 * length m
factors_most [] = omega arith
factors_most (f ∷ m) = omega (arith, factor_most f, factors_most m)

pub term_most : (s : Summand) → size (term_tree s) ≤ term_bytes (length s.monomial)
term_most s = by (is_one_fraction s.coefficient) s.monomial
  where
    by : (b : Bool) (m : Monomial) → size (if b then monomial_tree m else product_tree (more (num s.coefficient) (factor_trees m))) ≤ 48 + 64 * length m
    by true [] = omega (arith, num_most one_fraction)
    by true (f ∷ []) = omega (arith, factor_most f)
    by true (f ∷ g ∷ m) = omega (arith, factors_most (f ∷ g ∷ m))
    by false [] = omega (arith, num_most s.coefficient)
    by false (f ∷ m) = omega (arith, num_most s.coefficient, factors_most (f ∷ m))

-- monomials with some names only
pub record IsNamedMonomial (ns : List (List ℕ)) (m : Monomial) : Type 0 where
  pub monomial : IsMonomial m
  pub named : IsNamed ns m

pub named_term_most : (ns : List (List ℕ)) (s : Summand) → IsNamedMonomial ns s.monomial → size (term_tree s) ≤ terms_bytes ns 1
named_term_most ns s h = omega (arith, term_most s, few_factors ns s.monomial h.monomial h.named)

pub terms_most : (ns : List (List ℕ)) (v : Polynomial) → AllHave (IsNamedMonomial ns) v → sizes (term_trees v) ≤ terms_bytes ns (length v)
terms_most ns [] h = omega arith
terms_most ns (s ∷ v) h = omega (arith, named_term_most ns s h.0, terms_most ns v h.1)

-- ---- sums

with_length : (s : Summand) (v : Polynomial) → length (with_summand s v) ≤ suc (length v)
with_length s [] = omega arith
with_length s (t ∷ v) = let go = with_length s v in grind arith

joined_length : (v : Polynomial) → length (joined v) ≤ length v
joined_length [] = omega arith
joined_length (s ∷ v) = omega (arith, with_length s (joined v), joined_length v)

without_length : (v : Polynomial) → length (without_zeros v) ≤ length v
without_length [] = omega arith
without_length (s ∷ v) = let go = without_length v in grind arith

pub normal_length : (v : Polynomial) → length (normal v) ≤ length v
normal_length v = omega (arith, without_length (joined v), joined_length v)

-- more of them have more
pub terms_rise : (ns : List (List ℕ)) (m n : ℕ) → m ≤ n → terms_bytes ns m ≤ terms_bytes ns n
terms_rise ns m n l = let w : ℕ = 64 * suc (count_distinct ns) in mul-le w m w n (omega arith) l

pub some_bytes : (ns : List (List ℕ)) (n : ℕ) → 1 ≤ n → 64 ≤ terms_bytes ns n
some_bytes ns n l = omega (arith, terms_rise ns 1 n l)

sum_most : (ns : List (List ℕ)) (v : Polynomial) (n : ℕ) → AllHave (IsNamedMonomial ns) v → length v ≤ n → 1 ≤ n → size (sum_tree (term_trees v)) ≤ sum_bytes ns n
sum_most ns v n h l k = grind (arith, num_most, some_bytes, named_term_most, terms_rise, terms_most)

pub expanded_most : (ns : List (List ℕ)) (v : Polynomial) (n : ℕ) → AllHave (IsNamedMonomial ns) v → length v ≤ n → 1 ≤ n → size (expanded v) ≤ sum_bytes ns n
expanded_most ns v n h l k = sum_most ns (normal v) n (normal_all (IsNamedMonomial ns) v h) (omega (arith, normal_length v, l)) k
