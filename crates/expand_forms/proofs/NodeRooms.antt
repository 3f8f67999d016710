-- For how few bytes a node over expanded children is refused.
use Rattle.expand_forms.proofs.Shared.{◌≡◌, ℕ, zero, suc, ◌≤◌, [], length, true, false, arith, mul-le, Within, within_left, within_none, within_right, within_same, within_trans, Tree, Trees, none}
use Rattle.expand_forms.proofs.{Shared.{more, names, names_of, size, has_polynomial_root, polynomial_of, product_of, AreExpanded, nth, has_factors, has_parts}, Nodes.{from}}
use Rattle.expansions.proofs.{FewTerms.{some_expanded}, TermCounts.{product_length}, TermPolynomials.{tree_normal}}

-- ---- names of children

pub names_from : (n : ℕ) (ts : Trees) → Within (names_of ts) (names_of (from n ts))
names_from zero ts = within_same (names_of ts)
names_from (suc n) none = within_none []
names_from (suc n) (more t ts) = within_trans (within_right (names t) (names_of ts)) (names_from n ts)

pub nth_names : (n : ℕ) (ts : Trees) → Within (names_of ts) (names (nth n ts))
nth_names n none = within_none []
nth_names zero (more t ts) = within_left (names t) (names_of ts)
nth_names (suc n) (more t ts) = within_trans (within_right (names t) (names_of ts)) (nth_names n ts)

-- ---- parts of a product

pub expanded_from : (n : ℕ) (ts : Trees) → AreExpanded ts → AreExpanded (from n ts)
expanded_from zero ts h = h
expanded_from (suc n) none h = h
expanded_from (suc n) (more t ts) h = expanded_from n ts h.1

pub some_product : (ts : Trees) → AreExpanded ts → 1 ≤ length (product_of ts)
some_product none h = omega arith
some_product (more t ts) h =
    omega (arith, product_length (polynomial_of t) (product_of ts), mul-le 1 1 (length (polynomial_of t)) (length (product_of ts)) (some_expanded t (tree_normal t) h.0) (some_product ts h.1))

pub rest_product : (n : ℕ) (ts : Trees) → AreExpanded ts → length (product_of (from n ts)) ≤ length (product_of ts)
rest_product zero ts h = omega arith
rest_product (suc n) none h = omega arith
rest_product (suc n) (more t ts) h =
    let all = mul-le 1 (length (product_of ts)) (length (polynomial_of t)) (length (product_of ts)) (some_expanded t (tree_normal t) h.0) (omega arith) in
    omega (arith, rest_product n ts h.1, product_length (polynomial_of t) (product_of ts), all)

-- ---- leaves

pub leaf_size : (t : Tree) → has_polynomial_root t ≡ true → has_factors t ≡ false → has_parts t ≡ false → size t ≤ 40
leaf_size t h f p = grind arith
