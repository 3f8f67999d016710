-- Monomials are one where their trees are.
use Rattle.expansions.proofs.Shared.{arith, ◌≡◌, ℕ, pos, [], ◌∷◌, Bool, true, false, refl, sym, ap, ◌∙◌, ◌==◌, ◌&&◌, bytes_eq, and_from, and_parts, eq-eqb, eqb-true, false_from_ne_true}
use Rattle.expansions.proofs.Shared.{bytes_eq-Decides, Less, Equal, Greater, ordering_reverse, whole_one, tree_chain, tree_cmp_equal, tree_cmp_same, tree_cmp_turned, Fraction, zero_fraction, Tree}
use Rattle.expansions.proofs.Shared.{num, undef, mult, Trees, none, more, is_mult, is_num, whole_num, Factor, Monomial, factor, is_same_monomial, factor_tree, factor_trees, monomial_cmp}
use Rattle.expansions.proofs.Shared.{monomial_tree}

-- ---- parts of trees

abbrev fraction_in : Tree → Fraction
fraction_in (num q) = q
fraction_in _ = zero_fraction

abbrev factors_in : Tree → Trees
factors_in (mult ts) = ts
factors_in t = none

abbrev first_of : Trees → Tree
first_of (more t ts) = t
first_of none = undef

abbrev rest_of : Trees → Trees
rest_of (more t ts) = ts
rest_of none = none

-- ---- factors

whole_num_one : (m n : ℕ) → whole_num m ≡ whole_num n → m ≡ n
whole_num_one m n e = let z : pos m ≡ pos n = whole_one (pos m) (pos n) (ap fraction_in e) in cc

one_factor : (f g : Factor) → factor_tree f ≡ factor_tree g → f ≡ g
one_factor f g e = grind (arith, whole_num_one)

pub factor_no_num : (f : Factor) → is_num (factor_tree f) ≡ false
factor_no_num f = grind arith

pub factor_no_mult : (f : Factor) → is_mult (factor_tree f) ≡ false
factor_no_mult f = grind arith

-- ---- monomials

trees_one : (m n : Monomial) → factor_trees m ≡ factor_trees n → m ≡ n
trees_one [] [] e = refl
trees_one [] (g ∷ n) e = cc
trees_one (f ∷ m) [] e = cc
trees_one (f ∷ m) (g ∷ n) e = λ i. one_factor f g (ap first_of e) i ∷ trees_one m n (ap rest_of e) i

clash : {A : Type 0} (b c : Bool) → b ≡ c → b ≡ true → c ≡ false → A
clash b c e p q = absurd cc

pub one_monomial : (m n : Monomial) → monomial_tree m ≡ monomial_tree n → m ≡ n
one_monomial [] [] e = refl
one_monomial [] (g ∷ []) e = clash true (is_num (factor_tree g)) (ap is_num e) refl (factor_no_num g)
one_monomial [] (g ∷ h ∷ n) e = cc
one_monomial (f ∷ []) [] e = clash true (is_num (factor_tree f)) (ap is_num (sym e)) refl (factor_no_num f)
one_monomial (f ∷ []) (g ∷ []) e = λ i. one_factor f g e i ∷ []
one_monomial (f ∷ []) (g ∷ h ∷ n) e = clash true (is_mult (factor_tree f)) (ap is_mult (sym e)) refl (factor_no_mult f)
one_monomial (f ∷ k ∷ m) [] e = cc
one_monomial (f ∷ k ∷ m) (g ∷ []) e = clash true (is_mult (factor_tree g)) (ap is_mult e) refl (factor_no_mult g)
one_monomial (f ∷ k ∷ m) (g ∷ h ∷ n) e = trees_one (f ∷ k ∷ m) (g ∷ h ∷ n) (ap factors_in e)

pub same_itself : (m : Monomial) → is_same_monomial m m ≡ true
same_itself [] = refl
same_itself (f ∷ m) =
    and_from _ _ (and_from _ _ ((bytes_eq-Decides f.name f.name).1 refl) (eq-eqb f.exponent f.exponent refl)) (same_itself m)

pub same_is : (m n : Monomial) → is_same_monomial m n ≡ true → m ≡ n
same_is [] [] h = refl
same_is [] (g ∷ n) h = cc
same_is (f ∷ m) [] h = cc
same_is (f ∷ m) (g ∷ n) h =
    let (a, rest) = and_parts (bytes_eq f.name g.name && (f.exponent == g.exponent)) _ h in
    let (x, k) = and_parts (bytes_eq f.name g.name) _ a in
    λ i. factor ((bytes_eq-Decides f.name g.name).0 x i) (eqb-true f.exponent g.exponent k i) ∷ same_is m n rest i

pub not_same : (m n : Monomial) → (m ≡ n → ⊥) → is_same_monomial m n ≡ false
not_same m n h = false_from_ne_true (is_same_monomial m n) (λ e. h (same_is m n e))

-- ---- their order

pub equal_is : (m n : Monomial) → monomial_cmp m n ≡ Equal → m ≡ n
equal_is m n e = one_monomial m n (tree_cmp_equal (monomial_tree m) (monomial_tree n) e)

pub less_apart : (m n : Monomial) → monomial_cmp m n ≡ Less → m ≡ n → ⊥
less_apart m n l e = let t : monomial_cmp m n ≡ Equal = tree_cmp_same (monomial_tree m) (monomial_tree n) (ap monomial_tree e) in cc

pub turned : (m n : Monomial) → monomial_cmp m n ≡ Greater → monomial_cmp n m ≡ Less
turned m n g = tree_cmp_turned (monomial_tree n) (monomial_tree m) ∙ ap ordering_reverse g

pub chained : (k m n : Monomial) → monomial_cmp k m ≡ Less → monomial_cmp m n ≡ Less → monomial_cmp k n ≡ Less
chained k m n a b = tree_chain (monomial_tree k) (monomial_tree m) (monomial_tree n) a b
