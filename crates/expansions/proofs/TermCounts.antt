-- How many summands the polynomial of a tree has, and the room of an expansion.
use Rattle.calc_terms.proofs.SmallLaws.{one_node as some_nodes}
use Rattle.expansions.proofs.Shared.{◌≡◌, ℕ, zero, suc, ◌*◌, ◌^◌, ◌≤◌, List, [], ◌∷◌, length, map, true, sym, ap, ◌∙◌, arith, le-max_left, le-max_right, one-le-pow, pow-le-pow_left, pow-succ'}
use Rattle.expansions.proofs.Shared.{pow-zero, and_parts, length-append, length-map, mul-le, Within, within_same, Fraction, inverse, minus_one_fraction, times, Tree, num, symbol, undef, add, mult}
use Rattle.expansions.proofs.Shared.{power, root, neg, sub, div, Trees, none, more, names, nodes, size, expanded, IsNamed, count_distinct, expansion_room, most_terms, product_of_terms, sum_bytes}
use Rattle.expansions.proofs.Shared.{sum_of_terms, terms, IsMonomial, Polynomial, Summand, product, raised, scaled, summand, summand_times, are_polynomials, divisor_of, exponent_of, is_divisor}
use Rattle.expansions.proofs.{Shared.{is_exponent, is_polynomial, polynomial_of, product_of, sum_of}, AllMonomials.{AllHave}, Names.{tree_named}, TermBytes.{IsNamedMonomial, expanded_most}}
use Rattle.expansions.proofs.TreeMonomials.{tree_monomials}
use Rattle.calc_measures.proofs.OverflowNodes.{some_nodes as some_overflow_nodes, at_most_all_nodes}

-- ---- lengths

pub scaled_length : (c : Fraction) (v : Polynomial) → length (scaled c v) ≡ length v
scaled_length c v = length-map v (λ (s : Summand). summand (times c s.coefficient) s.monomial)

pub product_length : (v w : Polynomial) → length (product v w) ≡ length v * length w
product_length [] w = omega arith
product_length (s ∷ v) w = omega (arith, length-append (map (summand_times s) w) (product v w), length-map w (summand_times s), product_length v w)

pub raised_length : (v : Polynomial) (n : ℕ) → length (raised v n) ≡ length v ^ n
raised_length v zero = sym (pow-zero (length v))
raised_length v (suc n) = product_length v (raised v n) ∙ ap (λ (k : ℕ). length v * k) (raised_length v n) ∙ sym (pow-succ' (length v) n)

mutual
  pub few_terms : (t : Tree) → length (polynomial_of t) ≤ terms t
  few_terms (num q) = omega arith
  few_terms (symbol x) = omega arith
  few_terms undef = omega arith
  few_terms (add ts) = omega (arith, few_in_sum ts, le-max_right 1 (sum_of_terms ts))
  few_terms (mult ts) = few_in_product ts
  few_terms (power b e) = omega (arith, raised_length (polynomial_of b) (exponent_of e), pow-le-pow_left (few_terms b) (exponent_of e))
  few_terms (root a) = omega arith
  few_terms (neg a) = omega (arith, scaled_length minus_one_fraction (polynomial_of a), few_terms a)
  few_terms (sub a b) = omega (arith, length-append (polynomial_of a) (scaled minus_one_fraction (polynomial_of b)), scaled_length minus_one_fraction (polynomial_of b), few_terms a, few_terms b)
  few_terms (div a c) = omega (arith, scaled_length (inverse (divisor_of c)) (polynomial_of a), few_terms a)

  pub few_in_sum : (ts : Trees) → length (sum_of ts) ≤ sum_of_terms ts
  few_in_sum none = omega arith
  few_in_sum (more t ts) = omega (arith, length-append (polynomial_of t) (sum_of ts), few_terms t, few_in_sum ts)

  pub few_in_product : (ts : Trees) → length (product_of ts) ≤ product_of_terms ts
  few_in_product none = omega arith
  few_in_product (more t ts) =
      omega (arith, product_length (polynomial_of t) (product_of ts), mul-le (length (polynomial_of t)) (length (product_of ts)) (terms t) (product_of_terms ts) (few_terms t) (few_in_product ts))

-- ---- a polynomial has a term at least, and none of its parts has more than the largest has

mutual
  pub some_terms : (t : Tree) → is_polynomial t ≡ true → 1 ≤ terms t
  some_terms (num q) h = omega arith
  some_terms (symbol x) h = omega arith
  some_terms undef h = cc
  some_terms (add ts) h = le-max_left 1 (sum_of_terms ts)
  some_terms (mult ts) h = some_in_product ts h
  some_terms (power b e) h = one-le-pow (exponent_of e) (terms b) (some_terms b (and_parts (is_polynomial b) (is_exponent e) h).0)
  some_terms (root a) h = cc
  some_terms (neg a) h = some_terms a h
  some_terms (sub a b) h = omega (arith, some_terms a (and_parts (is_polynomial a) (is_polynomial b) h).0)
  some_terms (div a c) h = some_terms a (and_parts (is_polynomial a) (is_divisor c) h).0

  pub some_in_product : (ts : Trees) → are_polynomials ts ≡ true → 1 ≤ product_of_terms ts
  some_in_product none h = omega arith
  some_in_product (more t ts) h =
      let (a, b) = and_parts (is_polynomial t) (are_polynomials ts) h in
      mul-le 1 1 (terms t) (product_of_terms ts) (some_terms t a) (some_in_product ts b)

pub most_of_all : (t : Tree) → terms t ≤ most_terms t
most_of_all t = grind arith

-- ---- the bytes of an expanded tree

named_monomials : (ns : List (List ℕ)) (v : Polynomial) → AllHave IsMonomial v → AllHave (IsNamed ns) v → AllHave (IsNamedMonomial ns) v
named_monomials ns [] h k = tt
named_monomials ns (s ∷ v) h k = (record { monomial = h.0; named = k.0 }, named_monomials ns v h.1 k.1)

pub tree_named_monomials : (ns : List (List ℕ)) (t : Tree) → Within ns (names t) → AllHave (IsNamedMonomial ns) (polynomial_of t)
tree_named_monomials ns t h = named_monomials ns (polynomial_of t) (tree_monomials t) (tree_named ns t h)

-- it has no more than the bytes of as many terms as the largest part has
pub answer_most : (ns : List (List ℕ)) (n : ℕ) (t : Tree) → is_polynomial t ≡ true → Within ns (names t) → most_terms t ≤ n → size (expanded (polynomial_of t)) ≤ sum_bytes ns n
answer_most ns n t p h l =
    expanded_most ns (polynomial_of t) n (tree_named_monomials ns t h) (omega (arith, few_terms t, most_of_all t, l)) (omega (arith, some_terms t p, most_of_all t, l))

pub within_room : (t : Tree) → is_polynomial t ≡ true → 5 * size (expanded (polynomial_of t)) ≤ expansion_room t
within_room t p =
    let m = most_terms t in
    let v = suc (count_distinct (names t)) in
    let some : 1 ≤ m = omega (arith, some_terms t p, most_of_all t) in
    let few : 1 ≤ v * m = mul-le 1 1 v m (omega arith) some in
    let all : 512 * v * m * 1 ≤ 512 * v * m * nodes t = mul-le (512 * v * m) 1 (512 * v * m) (nodes t) (omega arith) (some_nodes t) in
    omega (arith, answer_most (names t) m t p (within_same (names t)) (omega arith), few, all)
