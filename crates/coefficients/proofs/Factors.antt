-- The factors behind a coefficient, and trees without one.
use Rattle.coefficients.proofs.Shared.{two_count, true≢false, ◌≡◌, ◌≤◌, inl, inr, Bool, true, false, if◌then◌else◌, refl, sym, ap, ◌∙◌, subst, arith, Fraction, has_coefficient, is_number, IsNumber}
use Rattle.coefficients.proofs.Shared.{Split, split, split_product, num_one, product_tree, part_of, base_of, is_undistributed, NoneIs, RisesBy, IsFrontForm, IsProductForm, HasForm, Tree, num, add}
use Rattle.coefficients.proofs.Shared.{mult, root, Trees, none, more, append, count, HasTwo, AllParts, AllPartsOf, is_mult, number_words, number_test, coefficient_of, factors_of, IsMonic, symbol}
use Rattle.coefficients.proofs.{Shared.{List, ℕ, own_form}, Forms.{reduced_parts, parts_reduced, parts_defined}}
use Rattle.number_forms.proofs.Placings.{one_test as one_is_one}

-- ---- what stands in front

-- with no Number in front the coefficient is 1
pub no_split : (ts : Trees) → has_coefficient ts ≡ false → split_product ts ≡ split num_one ts
unfolding is_number
no_split ts h = grind (arith, true≢false, split)

-- a rational before factors that begin with no Number
pub num_split : (q : Fraction) (ts : Trees) → has_coefficient ts ≡ false → split_product (more (num q) ts) ≡ split (num q) ts
unfolding is_number
num_split q ts h = grind (arith, split)

-- a Number before factors that begin with no Number
pub spliced_split : (c : Tree) (ts : Trees) → IsNumber c → has_coefficient ts ≡ false → split_product (append (factors_of c) ts) ≡ split c ts
unfolding is_number
spliced_split (num q) ts h k = num_split q ts k
spliced_split (add us) ts h k = ap (λ (b : Bool). if b then split (add us) ts else split num_one (more (add us) ts)) (number_test (add us) h)
spliced_split (root (num r)) ts h k = ap (λ (b : Bool). if b then split (root (num r)) ts else split num_one (more (root (num r)) ts)) (number_test (root (num r)) h)
spliced_split (mult (more (num q) (more (root (num r)) none))) ts h k =
    ap (λ (b : Bool). if b then split (mult (more (num q) (more (root (num r)) none))) ts else split (num q) (more (root (num r)) ts)) (number_test (root (num r)) h.2)
spliced_split c ts h k = absurd h

-- a Number stands in front of its own factors
pub number_leads : (t : Tree) → IsNumber t → has_coefficient (factors_of t) ≡ true
unfolding is_number
number_leads t h = grind (arith, number_test)

pub none_leads : (ts : Trees) → NoneIs is_number ts → has_coefficient ts ≡ false
none_leads ts h = grind arith

pub front_of : (ts : Trees) → has_coefficient ts ≡ false → IsFrontForm ts
unfolding is_number
front_of ts h = grind (arith, true≢false)

pub single_factors : (t : Tree) → is_mult t ≡ false → factors_of t ≡ more t none
single_factors t h = grind (arith, true≢false)

-- ---- factors

-- one factor or more, none a product or a Number, whose bases rise
pub record AreFactors (ts : Trees) : Type 0 where
  pub some : 1 ≤ count ts
  pub no_product : NoneIs is_mult ts
  pub no_number : NoneIs is_number ts
  pub rising : RisesBy base_of ts
  pub formed : AllPartsOf HasForm ts

pub undistributed_one : (ts : Trees) → is_undistributed (split num_one ts) ≡ false
undistributed_one ts = rw one_is_one refl

pub symbol_monic : (x : List ℕ) → IsMonic (symbol x)
unfolding is_number
symbol_monic x = record { reduced = parts_reduced (symbol x) (inr tt); defined = refl; no_coefficient = refl }

-- a product of factors
pub factors_monic : (ts : Trees) → AreFactors ts → IsMonic (product_tree ts)
factors_monic none h = absurd (let l : 1 ≤ 0 = h.some in omega arith)
factors_monic (more t none) h = record {
  reduced = parts_reduced t h.formed.0;
  defined = parts_defined t h.formed.0;
  no_coefficient = ap has_coefficient (single_factors t h.no_product.0) ∙ h.no_number.0;
}
factors_monic (more t (more u ts)) h =
    let us : Trees = more t (more u ts) in
    let is : split_product us ≡ split num_one us = no_split us h.no_number.0 in
    record {
      reduced = parts_reduced (mult us) (
        inr (record {
          two = tt;
          no_product = h.no_product;
          front = front_of us h.no_number.0;
          no_number = subst (λ (s : Split). NoneIs is_number s.factors) (sym is) h.no_number;
          rising = subst (λ (s : Split). RisesBy base_of s.factors) (sym is) h.rising;
          distributed = ap is_undistributed is ∙ undistributed_one us;
        }),
        h.formed,
      );
      defined = refl;
      no_coefficient = h.no_number.0;
    }

monic_form : (ts : Trees) → IsMonic (mult ts) → HasForm (mult ts) → IsProductForm ts
monic_form ts m (inl h) = absurd (true≢false (sym (number_leads (mult ts) h) ∙ m.no_coefficient))
monic_form ts m (inr h) = h

pub monic_parts : (t : Tree) → IsMonic t → AllParts HasForm t
monic_parts t m = reduced_parts t m.reduced m.defined

pub monic_product : (ts : Trees) → IsMonic (mult ts) → IsProductForm ts
monic_product ts m = monic_form ts m (own_form (mult ts) (monic_parts (mult ts) m))

single : (t : Tree) → IsMonic t → is_mult t ≡ false → AreFactors (more t none)
single t m e = grind (arith, single_factors, monic_parts)

-- the factors of a tree without a coefficient
pub monic_factors : (t : Tree) → IsMonic t → AreFactors (factors_of t)
monic_factors (mult ts) m =
    let f : IsProductForm ts = monic_product ts m in
    let is : split_product ts ≡ split num_one ts = no_split ts m.no_coefficient in
    record {
      some = let l : 2 ≤ count ts = two_count ts f.two in omega arith;
      no_product = f.no_product;
      no_number = subst (λ (s : Split). NoneIs is_number s.factors) is f.no_number;
      rising = subst (λ (s : Split). RisesBy base_of s.factors) is f.rising;
      formed = (monic_parts (mult ts) m).1;
    }
monic_factors t m = single t m refl

-- a tree with a Number in front is not one without a coefficient
pub monic_no_number : (t : Tree) → IsMonic t → is_number t ≡ false
monic_no_number t m = grind (arith, true≢false, number_leads, number_words)

-- ---- factors as one tree

tree_of_two : (ts : Trees) → HasTwo ts → product_tree ts ≡ mult ts
tree_of_two ts h = grind arith

pub tree_of_factors : (t : Tree) → IsMonic t → product_tree (factors_of t) ≡ t
tree_of_factors t m = grind (arith, tree_of_two, monic_product)

pub factors_of_tree : (ts : Trees) → AreFactors ts → factors_of (product_tree ts) ≡ ts
factors_of_tree ts h = grind (arith, single_factors)

-- it is its own part, and its coefficient is 1
pub monic_part : (t : Tree) → IsMonic t → part_of t ≡ t
monic_part t m = grind (arith, no_split, tree_of_factors)

pub monic_coefficient : (t : Tree) → IsMonic t → coefficient_of t ≡ num_one
monic_coefficient t m = grind (arith, no_split)
