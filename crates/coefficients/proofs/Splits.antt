-- A coefficient and the factors behind it: how a reduced product is taken apart, and what is put together again.
use Rattle.coefficients.proofs.Shared.{true≢false, ◌≡◌, ◌≢◌, ◌≤◌, ◌⊎◌, inl, inr, Bool, true, false, if◌then◌else◌, refl, sym, ap, ◌∙◌, subst, arith, Fraction, zero_fraction, one_fraction}
use Rattle.coefficients.proofs.Shared.{has_coefficient, is_number, is_radicand, IsNumber, Split, split, split_product, num_one, product_tree, part_of, is_undistributed, is_one_add, NoneIs}
use Rattle.coefficients.proofs.Shared.{IsFrontForm, IsProductForm, HasForm, Tree, num, add, mult, root, Trees, none, more, append, count, HasTwo, AllParts, AllPartsOf, is_num, is_add, is_mult}
use Rattle.coefficients.proofs.{Shared.{number_words, number_test, coefficient_of, factors_of, num_same}, Forms.{number_parts, AllPartsOf-append}, Factors.{spliced_split, none_leads, AreFactors}}

-- ---- a Number that is written in front

-- a Number, neither 0 nor 1
pub record IsCoefficient (c : Tree) : Type 0 where
  pub number : IsNumber c
  pub not_zero : c ≢ num zero_fraction
  pub not_one : c ≢ num one_fraction

number_some : (c : Tree) → IsNumber c → 1 ≤ count (factors_of c)
number_some c h = grind arith

number_no_product : (c : Tree) → IsNumber c → NoneIs is_mult (factors_of c)
number_no_product c h = grind arith

pub number_factor_parts : (c : Tree) → IsNumber c → AllPartsOf HasForm (factors_of c)
number_factor_parts (mult ts) h = (number_parts (mult ts) h).1
number_factor_parts (num q) h = (number_parts (num q) h, tt)
number_factor_parts (add ts) h = (number_parts (add ts) h, tt)
number_factor_parts (root a) h = (number_parts (root a) h, tt)
number_factor_parts c h = absurd h

front : (c : Tree) (ts : Trees) → IsCoefficient c → IsFrontForm (append (factors_of c) ts)
front c ts h = grind arith

joined_two : (ts us : Trees) → 1 ≤ count ts → 1 ≤ count us → HasTwo (append ts us)
joined_two none us h k = absurd (omega arith)
joined_two (more t none) none h k = absurd (omega arith)
joined_two (more t none) (more u us) h k = tt
joined_two (more t (more u ts)) us h k = tt

pub NoneIs-append : (p : Tree → Bool) (ts us : Trees) → NoneIs p ts → NoneIs p us → NoneIs p (append ts us)
NoneIs-append p none us h k = k
NoneIs-append p (more t ts) us h k = (h.0, NoneIs-append p ts us h.1 k)

-- a rational does not stand before a sum alone
abbrev pub IsSpread : Tree → Trees → Type 0
IsSpread c ts = is_num c ≡ true → is_one_add ts ≡ false

spread : (c : Tree) (ts : Trees) → IsSpread c ts → is_undistributed (split c ts) ≡ false
spread c ts h = grind arith

pub spliced_form : (c : Tree) (ts : Trees) → IsCoefficient c → AreFactors ts → IsSpread c ts → IsProductForm (append (factors_of c) ts)
spliced_form c ts h k d = grind (arith, spliced_split, none_leads, joined_two, number_some, NoneIs-append, number_no_product, front, spread)

-- ---- coefficient and factors as one product

pub number_has_no_factors : (ts : Trees) → IsNumber (mult ts) → (split_product ts).factors ≡ none
unfolding is_number
number_has_no_factors (more (num q) (more (root (num r)) none)) h =
    ap (λ (b : Bool). (if b then split (mult (more (num q) (more (root (num r)) none))) none else split (num q) (more (root (num r)) none)).factors) (number_test (root (num r)) h.2)
number_has_no_factors ts h = absurd h

-- a product with factors behind its coefficient is no Number
pub factors_no_number : (c : Tree) (ts us : Trees) → split_product us ≡ split c ts → 1 ≤ count ts → is_number (mult us) ≡ false
factors_no_number c ts us e l = by (is_number (mult us)) refl
  where
    by : (b : Bool) → is_number (mult us) ≡ b → is_number (mult us) ≡ false
    by true f =
        let n : ts ≡ none = sym (ap (λ (s : Split). s.factors) e) ∙ number_has_no_factors us (number_words (mult us) f) in
        absurd (let l : 1 ≤ 0 = subst (λ (x : Trees). 1 ≤ count x) n l in omega arith)
    by false f = f

-- what is put together
pub record IsPutTogether (c p t : Tree) : Type 0 where
  pub formed : AllParts HasForm t
  pub no_number : is_number t ≡ false
  pub no_sum : is_add t ≡ false
  pub coefficient : coefficient_of t ≡ c
  pub part : part_of t ≡ p

pub put_together : (c : Tree) (ts : Trees) → IsCoefficient c → AreFactors ts → IsSpread c ts → IsPutTogether c (product_tree ts) (mult (append (factors_of c) ts))
put_together c ts h k d =
    let is : split_product (append (factors_of c) ts) ≡ split c ts = spliced_split c ts h.number (none_leads ts k.no_number) in
    record {
      formed = (inr (spliced_form c ts h k d), AllPartsOf-append HasForm (factors_of c) ts (number_factor_parts c h.number) k.formed);
      no_number = factors_no_number c ts (append (factors_of c) ts) is k.some;
      no_sum = refl;
      coefficient = ap (λ (s : Split). s.coefficient) is;
      part = ap (λ (s : Split). product_tree s.factors) is;
    }

-- ---- taking apart

-- a coefficient stands in front of other factors
pub record Leads (ts : Trees) : Type 0 where
  pub c : Tree
  pub factors : Trees
  pub is : split_product ts ≡ split c factors
  pub whole : ts ≡ append (factors_of c) factors
  pub coefficient : IsCoefficient c

leads : (ts us : Trees) (c : Tree) → split_product ts ≡ split c us → ts ≡ append (factors_of c) us → IsNumber c → c ≢ num zero_fraction → c ≢ num one_fraction → Leads ts
leads ts us c e w n z o = record { c = c; factors = us; is = e; whole = w; coefficient = record { number = n; not_zero = z; not_one = o } }

no_num : {t : Tree} {q : Fraction} → is_num t ≡ false → t ≢ num q
no_num h e = absurd (true≢false (sym (ap is_num e) ∙ h))

-- no Number in front, or a coefficient
pub in_front : (ts : Trees) → NoneIs is_mult ts → IsFrontForm ts → (has_coefficient ts ≡ false) ⊎ Leads ts
unfolding is_number
in_front (more (num q) (more (root (num r)) ts)) n f = by (is_radicand r) refl
  where
    by : (b : Bool) → is_radicand r ≡ b → (has_coefficient (more (num q) (more (root (num r)) ts)) ≡ false) ⊎ Leads (more (num q) (more (root (num r)) ts))
    by true e = inr (leads _ ts (mult (more (num q) (more (root (num r)) none)))
        (ap (λ (b : Bool). if b then split (mult (more (num q) (more (root (num r)) none))) ts else split (num q) (more (root (num r)) ts)) e) refl
        (f.0, f.1, number_words (root (num r)) e) (no_num refl) (no_num refl))
    by false e = inr (leads _ (more (root (num r)) ts) (num q)
        (ap (λ (b : Bool). if b then split (mult (more (num q) (more (root (num r)) none))) ts else split (num q) (more (root (num r)) ts)) e) refl
        tt (λ g. f.0 (num_same g)) (λ g. f.1 (num_same g)))
in_front (more (num q) ts) n f = inr (leads (more (num q) ts) ts (num q) refl refl tt (λ g. f.0 (num_same g)) (λ g. f.1 (num_same g)))
in_front (more (root (num r)) ts) n f = by (is_radicand r) refl
  where
    by : (b : Bool) → is_radicand r ≡ b → (has_coefficient (more (root (num r)) ts) ≡ false) ⊎ Leads (more (root (num r)) ts)
    by true e = inr (leads _ ts (root (num r)) (ap (λ (b : Bool). if b then split (root (num r)) ts else split num_one (more (root (num r)) ts)) e) refl
        (number_words (root (num r)) e) (no_num refl) (no_num refl))
    by false e = inl e
in_front (more (add us) ts) n f = by (is_number (add us)) refl
  where
    by : (b : Bool) → is_number (add us) ≡ b → (has_coefficient (more (add us) ts) ≡ false) ⊎ Leads (more (add us) ts)
    by true e = inr (leads _ ts (add us) (ap (λ (b : Bool). if b then split (add us) ts else split num_one (more (add us) ts)) e) refl
        (number_words (add us) e) (no_num refl) (no_num refl))
    by false e = inl e
in_front (more (mult us) ts) n f = absurd (true≢false n.0)
in_front ts n f = inl refl
