-- The trees of monomials and of terms have the form of reduced trees.
use Rattle.expansions.proofs.Shared.{and_false, ◌≡◌, ◌≢◌, ◌≤◌, inl, inr, ℕ, pos, [], ◌∷◌, Bool, true, false, refl, sym, ap, ◌∙◌, subst, arith, ◌==◌, ◌&&◌, not, if◌then◌else◌, Less, Greater, eq-eqb}
use Rattle.expansions.proofs.Shared.{false_from_ne_true, IsNumber, is_number, is_term, HasForm, IsFrontForm, IsPowerForm, IsProductForm, NoneIs, RisesBy, Split, base_of, is_num_one, is_one_add}
use Rattle.expansions.proofs.Shared.{is_opaque_exponent, is_undistributed, num_one, part_of, product_tree, split, split_product, tree_cmp, whole_one, tree_cmp_refl, no_one, whole_denominator}
use Rattle.expansions.proofs.Shared.{not_from_false, Fraction, is_one_fraction, one_fraction, zero_fraction, AllParts, AllPartsOf, HasTwo, Tree, num, symbol, mult, power, Trees, more, is_add, is_mult}
use Rattle.expansions.proofs.{Shared.{is_num, whole_num, factor_tree, factor_trees, monomial_tree, term_tree, Factor, IsMonomial, Monomial, Summand, number_words}, MonomialTrees.{factor_no_mult}}

-- ---- factors

-- a factor is a name or a power of one
pub on_factor : (P : Tree → Type 0) (f : Factor) → P (symbol f.name) → P (power (symbol f.name) (whole_num f.exponent)) → P (factor_tree f)
on_factor P f h k = grind arith

no_number : (t : Tree) → (IsNumber t → ⊥) → is_number t ≡ false
no_number t h = false_from_ne_true (is_number t) (λ e. h (number_words t e))

factor_no_number : (f : Factor) → is_number (factor_tree f) ≡ false
factor_no_number f = on_factor (λ t. is_number t ≡ false) f (no_number _ (λ h. h)) (no_number _ (λ h. h))

whole_no_opaque : (n : ℕ) → is_opaque_exponent (whole_num n) ≡ false
whole_no_opaque n = ap (λ b. is_number (whole_num n) && not b) (eq-eqb _ 1 (whole_denominator (pos n))) ∙ and_false (is_number (whole_num n))

pub factor_base : (f : Factor) → base_of (factor_tree f) ≡ symbol f.name
factor_base f = grind (arith, on_factor, whole_no_opaque)

-- an exponent of at least 2 makes a power
whole_power : (f : Factor) → 2 ≤ f.exponent → IsPowerForm (symbol f.name) (whole_num f.exponent)
unfolding zero_fraction one_fraction
whole_power f l = (
  (λ e. absurd (omega (arith, whole_denominator (pos f.exponent), e))),
  λ d. record {
    not_zero = λ e. let z : pos f.exponent ≡ pos 0 = whole_one (pos f.exponent) (pos 0) e in let n : f.exponent ≡ 0 = cc in absurd (omega arith);
    not_one = λ e. let z : pos f.exponent ≡ pos 1 = whole_one (pos f.exponent) (pos 1) e in let n : f.exponent ≡ 1 = cc in absurd (omega arith);
    no_product = refl;
    no_power = refl;
    no_root = λ e. refl;
    wide = λ e. absurd (number_words (symbol f.name) e);
  },
)

at_least_two : (n : ℕ) → 1 ≤ n → (n == 1) ≡ false → 2 ≤ n
at_least_two n l e = grind arith

factor_parts : (f : Factor) → 1 ≤ f.exponent → AllParts HasForm (factor_tree f)
factor_parts f l = grind (arith, whole_power, at_least_two)

-- ---- products of factors

factors_no_mult : (m : Monomial) → NoneIs is_mult (factor_trees m)
factors_no_mult [] = tt
factors_no_mult (f ∷ m) = (factor_no_mult f, factors_no_mult m)

factors_no_number : (m : Monomial) → NoneIs is_number (factor_trees m)
factors_no_number [] = tt
factors_no_number (f ∷ m) = (factor_no_number f, factors_no_number m)

factors_rise : (m : Monomial) → IsMonomial m → RisesBy base_of (factor_trees m)
factors_rise [] h = tt
factors_rise (f ∷ []) h = tt
factors_rise (f ∷ g ∷ m) h = ((λ i. tree_cmp (factor_base f i) (factor_base g i)) ∙ h.1.0, factors_rise (g ∷ m) h.2)

factors_parts : (m : Monomial) → IsMonomial m → AllPartsOf HasForm (factor_trees m)
factors_parts [] h = tt
factors_parts (f ∷ m) h = (factor_parts f h.0, factors_parts m h.2)

split_factors : (f : Factor) (ts : Trees) → split_product (more (factor_tree f) ts) ≡ split num_one (more (factor_tree f) ts)
split_factors f ts = on_factor (λ t. split_product (more t ts) ≡ split num_one (more t ts)) f refl refl

split_multiple : (q : Fraction) (f : Factor) (ts : Trees) → split_product (more (num q) (more (factor_tree f) ts)) ≡ split (num q) (more (factor_tree f) ts)
split_multiple q f ts = on_factor (λ t. split_product (more (num q) (more t ts)) ≡ split (num q) (more t ts)) f refl refl

-- what is asked of the factors behind a coefficient
by_split : (ts : Trees) (c : Tree) (f : Factor) (m : Monomial) → IsMonomial (f ∷ m) → split_product ts ≡ split c (factor_trees (f ∷ m)) → HasTwo ts → NoneIs is_mult ts → IsFrontForm ts
    → IsProductForm ts
by_split ts c f m h e two mults front = record {
  two = two;
  no_product = mults;
  front = front;
  no_number = subst (λ (s : Split). NoneIs is_number s.factors) (sym e) (factors_no_number (f ∷ m));
  rising = subst (λ (s : Split). RisesBy base_of s.factors) (sym e) (factors_rise (f ∷ m) h);
  distributed = ap is_undistributed e ∙ ap (λ b. is_num c && not (is_num_one c) && b) (on_factor (λ t. is_one_add (more t (factor_trees m)) ≡ false) f refl refl)
      ∙ and_false (is_num c && not (is_num_one c));
}

pub monomial_parts : (m : Monomial) → IsMonomial m → AllParts HasForm (monomial_tree m)
monomial_parts [] h = inl tt
monomial_parts (f ∷ []) h = factor_parts f h.0
monomial_parts (f ∷ g ∷ m) h = (
  inr (by_split (factor_trees (f ∷ g ∷ m)) num_one f (g ∷ m) h (split_factors f (factor_trees (g ∷ m))) tt (factors_no_mult (f ∷ g ∷ m))
      (on_factor (λ t. IsFrontForm (more t (factor_trees (g ∷ m)))) f tt tt)),
  factors_parts (f ∷ g ∷ m) h,
)

-- ---- terms

-- a fact of the term of a monomial that is not 1, by its form
pub on_term : (P : Tree → Type 0) (s : Summand) (f : Factor) (m : Monomial) → s.monomial ≡ f ∷ m
    → P (monomial_tree (f ∷ m)) → (s.coefficient ≢ one_fraction → P (mult (more (num s.coefficient) (factor_trees (f ∷ m))))) → P (term_tree s)
on_term P s f m is h k =
    subst (λ x. P (if is_one_fraction s.coefficient then monomial_tree x else product_tree (more (num s.coefficient) (factor_trees x)))) (sym is) (by (is_one_fraction s.coefficient) refl)
  where
    by : (b : Bool) → is_one_fraction s.coefficient ≡ b → P (if b then monomial_tree (f ∷ m) else mult (more (num s.coefficient) (factor_trees (f ∷ m))))
    by true e = h
    by false e = k (no_one s.coefficient (not_from_false _ e))

pub on_monomial : (P : Tree → Type 0) (f : Factor) (m : Monomial) → P (factor_tree f) → ((g : Factor) (n : Monomial) → P (mult (factor_trees (f ∷ g ∷ n)))) → P (monomial_tree (f ∷ m))
on_monomial P f [] h k = h
on_monomial P f (g ∷ n) h k = k g n

multiple_parts : (s : Summand) (f : Factor) (m : Monomial) → s.coefficient ≢ zero_fraction → s.coefficient ≢ one_fraction → IsMonomial (f ∷ m)
    → AllParts HasForm (mult (more (num s.coefficient) (factor_trees (f ∷ m))))
multiple_parts s f m z o h = (
  inr (by_split (more (num s.coefficient) (factor_trees (f ∷ m))) (num s.coefficient) f m h (split_multiple s.coefficient f (factor_trees m)) tt (refl, factors_no_mult (f ∷ m)) (z, o)),
  (inl tt, factors_parts (f ∷ m) h),
)

pub term_parts : (s : Summand) (f : Factor) (m : Monomial) → s.monomial ≡ f ∷ m → s.coefficient ≢ zero_fraction → IsMonomial (f ∷ m) → AllParts HasForm (term_tree s)
term_parts s f m is z h = on_term (AllParts HasForm) s f m is (monomial_parts (f ∷ m) h) (λ o. multiple_parts s f m z o h)

pub term_no_number : (s : Summand) (f : Factor) (m : Monomial) → s.monomial ≡ f ∷ m → is_number (term_tree s) ≡ false
term_no_number s f m h = grind (arith, on_term, on_monomial, factor_no_number, on_factor, no_number)

pub term_no_term : (s : Summand) (f : Factor) (m : Monomial) → s.monomial ≡ f ∷ m → is_term (term_tree s) ≡ false
term_no_term s f m h = grind arith

pub term_no_add : (s : Summand) (f : Factor) (m : Monomial) → s.monomial ≡ f ∷ m → is_add (term_tree s) ≡ false
term_no_add s f m h = grind arith

pub term_part : (s : Summand) (f : Factor) (m : Monomial) → s.monomial ≡ f ∷ m → part_of (term_tree s) ≡ monomial_tree (f ∷ m)
term_part s f m h = grind arith

-- ---- rationals come first

pub not_before_one : (m : Monomial) → tree_cmp (monomial_tree m) num_one ≡ Less → ⊥
not_before_one [] l = let e = tree_cmp_refl num_one in absurd (cc (e, l))
not_before_one (f ∷ []) l = absurd (greater (factor_tree f) (on_factor (λ t. tree_cmp t num_one ≡ Greater) f refl refl) l)
  where
    greater : (t : Tree) → tree_cmp t num_one ≡ Greater → tree_cmp t num_one ≡ Less → ⊥
    greater t g l = cc
not_before_one (f ∷ g ∷ m) l = cc
