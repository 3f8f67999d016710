-- The names of polynomials, and of expanded trees.
use Rattle.expansions.proofs.Shared.{ℕ, List, [], ◌∷◌, arith, Contains, Within, no_new_name, within_both, within_left, within_none, within_right, within_same, within_trans, product_tree, HasNoNewName}
use Rattle.expansions.proofs.Shared.{inverse, minus_one_fraction, Tree, num, symbol, undef, add, mult, power, root, neg, sub, div, Trees, none, more, names, names_of, expanded, factor_tree}
use Rattle.expansions.proofs.Shared.{factor_trees, normal, sum_tree, term_tree, term_trees, AreNamed, IsNamed, Factor, Monomial, Polynomial, Summand, monomial_times, scaled, with_factor, divisor_of}
use Rattle.expansions.proofs.{Shared.{exponent_of, polynomial_of, product_of, sum_of, Contains-push}, AllMonomials.{AllHave, IsClosed, append_all, normal_all, product_all, raised_all, scaled_all}}

-- ---- monomials

with_named : (ns : List (List ℕ)) (f : Factor) (m : Monomial) → Contains ns f.name → IsNamed ns m → IsNamed ns (with_factor f m)
with_named ns f [] h k = (h, tt)
with_named ns f (g ∷ m) h k = let go = with_named ns f m h k.1 in grind arith

pub times_named : (ns : List (List ℕ)) (m n : Monomial) → IsNamed ns m → IsNamed ns n → IsNamed ns (monomial_times m n)
times_named ns [] n h k = k
times_named ns (f ∷ m) n h k = with_named ns f (monomial_times m n) h.0 (times_named ns m n h.1 k)

pub named_closed : (ns : List (List ℕ)) → IsClosed (IsNamed ns)
named_closed ns = record { one = tt; times = times_named ns }

-- ---- polynomials

pub all_named : (ns : List (List ℕ)) (v : Polynomial) → AreNamed ns v → AllHave (IsNamed ns) v
all_named ns [] h = tt
all_named ns (s ∷ v) h = (h.0, all_named ns v h.1)

pub are_named : (ns : List (List ℕ)) (v : Polynomial) → AllHave (IsNamed ns) v → AreNamed ns v
are_named ns [] h = tt
are_named ns (s ∷ v) h = (h.0, are_named ns v h.1)

-- of trees whose names are among these
mutual
  pub tree_named : (ns : List (List ℕ)) (t : Tree) → Within ns (names t) → AllHave (IsNamed ns) (polynomial_of t)
  tree_named ns (num q) h = (tt, tt)
  tree_named ns (symbol x) h = ((h.name x (Contains-push [] x), tt), tt)
  tree_named ns undef h = tt
  tree_named ns (add ts) h = sum_named ns ts h
  tree_named ns (mult ts) h = product_named ns ts h
  tree_named ns (power b e) h = raised_all (IsNamed ns) (named_closed ns) (polynomial_of b) (exponent_of e) (tree_named ns b (within_trans h (within_left (names b) (names e))))
  tree_named ns (root a) h = tt
  tree_named ns (neg a) h = scaled_all (IsNamed ns) minus_one_fraction (polynomial_of a) (tree_named ns a h)
  tree_named ns (sub a b) h =
      append_all (IsNamed ns) (polynomial_of a) (scaled minus_one_fraction (polynomial_of b)) (tree_named ns a (within_trans h (within_left (names a) (names b))))
      (scaled_all (IsNamed ns) minus_one_fraction (polynomial_of b) (tree_named ns b (within_trans h (within_right (names a) (names b)))))
  tree_named ns (div a c) h = scaled_all (IsNamed ns) (inverse (divisor_of c)) (polynomial_of a) (tree_named ns a (within_trans h (within_left (names a) (names c))))

  pub sum_named : (ns : List (List ℕ)) (ts : Trees) → Within ns (names_of ts) → AllHave (IsNamed ns) (sum_of ts)
  sum_named ns none h = tt
  sum_named ns (more t ts) h =
      append_all (IsNamed ns) (polynomial_of t) (sum_of ts) (tree_named ns t (within_trans h (within_left (names t) (names_of ts))))
      (sum_named ns ts (within_trans h (within_right (names t) (names_of ts))))

  pub product_named : (ns : List (List ℕ)) (ts : Trees) → Within ns (names_of ts) → AllHave (IsNamed ns) (product_of ts)
  product_named ns none h = (tt, tt)
  product_named ns (more t ts) h =
      product_all (IsNamed ns) (named_closed ns) (polynomial_of t) (product_of ts) (tree_named ns t (within_trans h (within_left (names t) (names_of ts))))
      (product_named ns ts (within_trans h (within_right (names t) (names_of ts))))

-- ---- trees of polynomials

factor_names : (ns : List (List ℕ)) (f : Factor) → Contains ns f.name → Within ns (names (factor_tree f))
factor_names ns f h = grind arith

factors_names : (ns : List (List ℕ)) (m : Monomial) → IsNamed ns m → Within ns (names_of (factor_trees m))
factors_names ns [] h = within_none ns
factors_names ns (f ∷ m) h = within_both ns (names (factor_tree f)) (names_of (factor_trees m)) (factor_names ns f h.0) (factors_names ns m h.1)

product_names : (ns : List (List ℕ)) (ts : Trees) → Within ns (names_of ts) → Within ns (names (product_tree ts))
product_names ns ts h = grind (arith, within_none, within_trans, within_left)

term_names : (ns : List (List ℕ)) (s : Summand) → IsNamed ns s.monomial → Within ns (names (term_tree s))
term_names ns s h = let factors = factors_names ns s.monomial h in grind (arith, product_names)

pub terms_names : (ns : List (List ℕ)) (v : Polynomial) → AllHave (IsNamed ns) v → Within ns (names_of (term_trees v))
terms_names ns [] h = within_none ns
terms_names ns (s ∷ v) h = within_both ns (names (term_tree s)) (names_of (term_trees v)) (term_names ns s h.0) (terms_names ns v h.1)

sum_names : (ns : List (List ℕ)) (ts : Trees) → Within ns (names_of ts) → Within ns (names (sum_tree ts))
sum_names ns ts h = grind (arith, within_none, within_trans, within_left)

pub expanded_names : (ns : List (List ℕ)) (v : Polynomial) → AllHave (IsNamed ns) v → Within ns (names (expanded v))
expanded_names ns v h = sum_names ns (term_trees (normal v)) (terms_names ns (normal v) (normal_all (IsNamed ns) v h))

-- each name of an expanded tree is one of the tree
pub expanded_no_new_name : (t : Tree) → HasNoNewName t (expanded (polynomial_of t))
expanded_no_new_name t = no_new_name (expanded_names (names t) (polynomial_of t) (tree_named (names t) t (within_same (names t))))
