-- What readers of terms are told.
use Rattle.expand_forms.proofs.Shared.{◌≡◌, ◌≤◌, ◌<◌, ℕ, ℤ, pos, zero, suc, ◌+◌, length, [], ◌∷◌, ◌++◌, drop, true, false, refl, sym, ap, ◌∙◌, subst, arith, ◌==◌, ints, product_tree}
use Rattle.expand_forms.proofs.Shared.{one_is, whole_denominator, whole_numerator, int_is_one, value_of, Fraction, is_one_fraction, lowest, one_fraction, plus, plus_lowest, Tree, num, symbol, mult}
use Rattle.expand_forms.proofs.Shared.{power, Trees, more, append, count, is_add, is_mult, is_num, root_kind, factor_tree, factor_trees, term_tree, term_trees, IsFirst, IsNext, Next, Factor}
use Rattle.expand_forms.proofs.Shared.{IsMonomial, Monomial, summand, IsSum, HasMonomial, IsRead, IsTerm, coefficient_in, factors_in, first_place, led_by, terms_in, holds-left, tree_at-join_left}
use Rattle.expand_forms.proofs.{Shared.{IsExpression, children_of, nth, plain, Forest, Gives, tree_at, name_of}, SumPlaces.{summand_at}}
use Rattle.expansions.proofs.{FactorTrees.{on_factor}, MonomialProducts.{below_times, both_first, left_first, put_first, right_is_first}, TermPolynomials.{term_factors}}
use Rattle.expand_forms.specs.declared.factors.Factor.{Factor as Read}
use Rattle.calc_terms.specs.declared.kind.Kind.TheVariants as kind

-- ---- a product's factors among its children

pub first_count : (t : Tree) → is_mult t ≡ true → count (factors_in t) + first_place (children_of t) ≡ count (children_of t)
first_count t h = grind arith

pub leading_is : (t : Tree) → is_mult t ≡ true → first_place (children_of t) ≡ 0 → coefficient_in t ≡ one_fraction
leading_is t h e = grind arith

pub leading_some : (t : Tree) → is_mult t ≡ true → (first_place (children_of t) ≡ 0 → ⊥)
    → (is_num (nth 0 (children_of t)) ≡ true) × (nth 0 (children_of t) ≡ num (coefficient_in t)) × (0 < count (children_of t))
leading_some t h e = grind arith

pub no_coefficient : (t : Tree) → (root_kind t ≡ kind.Num → ⊥) → (root_kind t ≡ kind.Mult → ⊥) → coefficient_in t ≡ one_fraction
no_coefficient t h k = grind arith

-- ---- factors at places

pub count_factors : (m : Monomial) → count (factor_trees m) ≡ length m
count_factors [] = refl
count_factors (f ∷ m) = ap suc (count_factors m)

-- the factors from a place on begin with this one
pub record IsFactorAt (n : ℕ) (f : Factor) (m : Monomial) : Type 0 where
  pub tree : nth n (factor_trees m) ≡ factor_tree f
  pub positive : 1 ≤ f.exponent
  pub rest : drop n m ≡ f ∷ drop (suc n) m
  pub monomial : IsMonomial (drop n m)

pub factor_in : (n : ℕ) (m : Monomial) → IsMonomial m → n < length m → (f : Factor) × IsFactorAt n f m
factor_in n [] h l = absurd (omega arith)
factor_in zero (f ∷ m) h l = (f, record { tree = refl; positive = h.0; rest = refl; monomial = h })
factor_in (suc n) (g ∷ m) h l =
    let (f, a) = factor_in n m h.2 (omega arith) in
    (f, record { tree = a.tree; positive = a.positive; rest = a.rest; monomial = a.monomial })

pub has_count : {m : Monomial} {t : Tree} → HasMonomial m t → count (factors_in t) ≡ length m
has_count {m = m} h = ap count h.factors ∙ count_factors m

-- a factor that is read
pub record IsReadAt (n : ℕ) (m : Monomial) (t : Tree) : Type 0 where
  pub factor : Factor
  pub at : IsFactorAt n factor m
  pub tree : t ≡ factor_tree factor

pub factor_read : {m : Monomial} {t u : Tree} (n : ℕ) → HasMonomial m t → n < length m → u ≡ nth n (factors_in t) → IsReadAt n m u
factor_read {m = m} n h l e =
    let (f, a) = factor_in n m h.monomial l in
    record { factor = f; at = a; tree = e ∙ ap (nth n) h.factors ∙ a.tree }

-- a product of any number of factors has their monomial
pub product_monomial : {m : Monomial} {t : Tree} → IsMonomial m → t ≡ mult (factor_trees m) → HasMonomial m t
product_monomial {m} h e = record { monomial = h; factors = ap factors_in e ∙ by m }
  where
    by : (n : Monomial) → factors_in (mult (factor_trees n)) ≡ factor_trees n
    by [] = refl
    by (f ∷ n) = on_factor (λ v. factors_in (mult (more v (factor_trees n))) ≡ more v (factor_trees n)) f refl refl

pub drop_monomial : (n : ℕ) (m : Monomial) → IsMonomial m → IsMonomial (drop n m)
drop_monomial zero m h = h
drop_monomial (suc n) [] h = h
drop_monomial (suc n) (f ∷ m) h = drop_monomial n m h.2

pub drop_all : (n : ℕ) (m : Monomial) → length m ≤ n → drop n m ≡ []
drop_all zero [] l = refl
drop_all (suc n) [] l = refl
drop_all zero (f ∷ m) l = absurd (omega arith)
drop_all (suc n) (f ∷ m) l = drop_all n m (omega arith)

pub drop_length : (n : ℕ) (m : Monomial) → n ≤ length m → length (drop n m) + n ≡ length m
drop_length zero m l = omega arith
drop_length (suc n) [] l = absurd (omega arith)
drop_length (suc n) (f ∷ m) l = omega (arith, drop_length n m (omega arith))

drop_none : (n : ℕ) → drop {A = Factor} n [] ≡ []
drop_none n = grind arith

pub drop_more : (n k : ℕ) (m : Monomial) → drop k (drop n m) ≡ drop (n + k) m
drop_more zero k m = ap (λ (i : ℕ). drop i m) (let e : k ≡ 0 + k = omega arith in e)
drop_more (suc n) k [] = drop_none k ∙ sym (drop_none (suc n + k))
drop_more (suc n) k (f ∷ m) = drop_more n k m ∙ ap (λ (i : ℕ). drop i (f ∷ m)) (let e : suc (n + k) ≡ suc n + k = omega arith in e)

-- ---- terms

pub term_monomial : {t : Tree} (x : IsTerm t) → HasMonomial x.summand.monomial t
term_monomial x = record { monomial = x.monomial; factors = ap factors_in x.tree ∙ term_factors x.summand }

pub sum_children : {t : Tree} (s : IsSum t) → children_of t ≡ term_trees s.summands
sum_children s = ap children_of s.tree

-- a child of a sum is a term
pub sum_term : {t : Tree} (s : IsSum t) (n : ℕ) (u : Tree) → n < count (children_of t) → u ≡ nth n (children_of t) → IsTerm u
sum_term s n u l e =
    let (x, a) = summand_at n s.summands (subst (λ (ts : Trees). n < count ts) (sum_children s) l) in
    record { summand = x; nonzero = a.nonzero s.normal; monomial = a.monomial s.monomials; tree = e ∙ ap (nth n) (sum_children s) ∙ a.term }

-- ---- the next factor of a product

pub next_left : (f : Factor) (m n r : Monomial) (x : Next) → IsMonomial m → n ≡ [] → m ≡ f ∷ r → IsRead x.factor f → x.left ≡ 1 → x.right ≡ 0 → IsNext m n x
next_left f m n r x h e q k l p = grind (arith, put_first, below_times)

pub next_first : (f g : Factor) (m n r s : Monomial) (x : Next) → IsMonomial m → IsMonomial n → m ≡ f ∷ r → n ≡ g ∷ s → IsFirst f g x → IsNext m n x
next_first f g m n r s x h k e q l = grind (arith, left_first, both_first, right_is_first)

-- ---- exponents

pub exponent_sum : (a b : ℕ) → plus (lowest (pos a) 1) (lowest (pos b) 1) ≡ lowest (pos (a + b)) 1
exponent_sum a b = plus_lowest (pos a) (pos b) 1 1 (omega arith) (omega arith) ∙ ap (λ (z : ℤ). lowest z 1) (omega (arith, ints))

one_number : (n : ℕ) → int_is_one (pos n) ≡ (n == 1)
one_number n = grind arith

pub exponent_one : (n : ℕ) → is_one_fraction (lowest (pos n) 1) ≡ (n == 1)
exponent_one n = grind (arith, whole_numerator, whole_denominator, one_number)

-- ---- lists of factors

pub led_some : (q : Fraction) (ts : Trees) → 1 ≤ count (led_by q ts)
led_some q ts = grind arith

pub led_term : (q : Fraction) (m : Monomial) → product_tree (led_by q (factor_trees m)) ≡ term_tree (summand q m)
led_term q m = grind (arith, one_is)

pub factors_append : (m n : Monomial) → append (factor_trees m) (factor_trees n) ≡ factor_trees (m ++ n)
factors_append [] n = refl
factors_append (f ∷ m) n = ap (more (factor_tree f)) (factors_append m n)

-- ---- another node, beside the last tree

pub record IsBeside (j : ℕ) (g f : Forest) : Type 0 where
  pub expression : IsExpression j f
  pub same : plain (tree_at j f) ≡ plain (tree_at j g)

pub beside : {g f : Forest} {i j : ℕ} {P : Tree → Type 0} → Gives g f i P → IsExpression j g → IsBeside j g f
beside e h = grind (arith, tree_at-join_left, holds-left)

pub sum_terms_in : (t : Tree) → is_add t ≡ true → terms_in t ≡ children_of t
sum_terms_in t h = grind arith

-- ---- a factor that is placed

pub factor_one : (x : Read) (f : Factor) → IsRead x f → is_one_fraction (value_of x.exponent) ≡ true → symbol (name_of x.name) ≡ factor_tree f
factor_one x f r e = grind (arith, exponent_one)

pub factor_other : (x : Read) (f : Factor) → IsRead x f → is_one_fraction (value_of x.exponent) ≡ false → power (symbol (name_of x.name)) (num (value_of x.exponent)) ≡ factor_tree f
factor_other x f r e = grind (arith, exponent_one)
