-- A rational times a term of a reduced sum.
use Rattle.coefficients.proofs.Shared.{true≢false, ◌≡◌, ◌≢◌, ◌≤◌, ◌⊎◌, inl, inr, Bool, true, false, if◌then◌else◌, refl, sym, ap, ◌∙◌, subst, arith, Fraction, times, zero_fraction, one_fraction}
use Rattle.coefficients.proofs.Shared.{is_one_fraction, has_coefficient, is_number, IsNumber, Split, split, split_product, product_tree, part_of, is_undistributed, is_one_add, NoneIs, IsProductForm}
use Rattle.coefficients.proofs.Shared.{HasForm, Tree, num, add, mult, root, Trees, none, more, append, count, HasTwo, AllParts, AllPartsOf, is_num, is_add, one_test, product_not_zero, number_test}
use Rattle.coefficients.proofs.{Shared.{factors_of, IsMonic, rational_times_number, rational_times_term}, Forms.{parts_reduced, parts_defined}, Factors.{no_split, AreFactors, factors_monic}}
use Rattle.coefficients.proofs.{Factors.{monic_factors, monic_parts, monic_part, monic_no_number}, NumberMultiples.{IsFactor, number_scaled, not_one_is}}
use Rattle.coefficients.proofs.Splits.{IsCoefficient, Leads, in_front, IsSpread, put_together}

-- ---- the factors behind a coefficient

pub behind_none : (p : Tree → Bool) (ts us : Trees) → NoneIs p (append ts us) → NoneIs p us
behind_none p none us h = h
behind_none p (more t ts) us h = behind_none p ts us h.1

pub behind_parts : (P : Tree → Type 0) (ts us : Trees) → AllPartsOf P (append ts us) → AllPartsOf P us
behind_parts P none us h = h
behind_parts P (more t ts) us h = behind_parts P ts us h.1

-- a Number alone is no product with other factors
no_rest : (c : Tree) → IsNumber c → HasTwo (append (factors_of c) none) → is_number (mult (append (factors_of c) none)) ≡ false → ⊥
no_rest c k t n = grind (arith, true≢false, number_test)

some_rest : (c : Tree) (us : Trees) → IsNumber c → HasTwo (append (factors_of c) us) → is_number (mult (append (factors_of c) us)) ≡ false → 1 ≤ count us
some_rest c none k t n = absurd (no_rest c k t n)
some_rest c (more u us) k t n = omega arith

pub factors_behind : (c : Tree) (us : Trees) → split_product (append (factors_of c) us) ≡ split c us → IsNumber c → is_number (mult (append (factors_of c) us)) ≡ false
    → IsProductForm (append (factors_of c) us) → AllPartsOf HasForm (append (factors_of c) us) → AreFactors us
factors_behind c us e k n f parts = grind (arith, some_rest, behind_none, behind_parts)

-- a rational coefficient does not stand before a sum alone
pub spread_behind : (c : Tree) (us : Trees) → IsCoefficient c → is_undistributed (split c us) ≡ false → IsSpread c us
spread_behind c us k h = grind (arith, one_test, true≢false)

two_no_add : (ts : Trees) → HasTwo ts → is_one_add ts ≡ false
two_no_add ts h = grind arith

-- ---- a rational times a term

-- a reduced term with the same part
pub record IsMultiple (t u : Tree) : Type 0 where
  pub formed : AllParts HasForm u
  pub no_number : is_number u ≡ false
  pub no_sum : is_add u ≡ false
  pub part : part_of u ≡ part_of t

multiple_of : (c t : Tree) (us vs : Trees) → IsCoefficient c → AreFactors us → IsSpread c us → part_of t ≡ product_tree us → vs ≡ append (factors_of c) us → IsMultiple t (mult vs)
multiple_of c t us vs k f d e w = grind (arith, put_together)

pub rational : (q : Fraction) → q ≢ zero_fraction → q ≢ one_fraction → IsCoefficient (num q)
rational q z o = grind arith

pub irrational : (c : Tree) → IsNumber c → is_num c ≡ false → IsCoefficient c
irrational c n h = record { number = n; not_zero = λ e. true≢false (sym (ap is_num e) ∙ h); not_one = λ e. true≢false (sym (ap is_num e) ∙ h) }

alone_no_add : (us : Trees) → is_one_add us ≡ false → is_add (product_tree us) ≡ false
alone_no_add us h = grind (arith, true≢false)

pub product_form_of : (ts : Trees) → AllParts HasForm (mult ts) → is_number (mult ts) ≡ false → IsProductForm ts
product_form_of ts h n = elim (h.0) [ inl k ↦ absurd (true≢false (sym (number_test (mult ts) k) ∙ n)) | inr k ↦ k ]

module _ (q : Fraction) (f : IsFactor q) where
  -- the coefficient goes
  gone : (t : Tree) (us : Trees) → AreFactors us → is_one_add us ≡ false → part_of t ≡ product_tree us → IsMultiple t (product_tree us)
  gone t us k d e =
      let m : IsMonic (product_tree us) = factors_monic us k in
      record { formed = monic_parts (product_tree us) m; no_number = monic_no_number (product_tree us) m; no_sum = alone_no_add us d; part = monic_part (product_tree us) m ∙ sym e }

  led : (c : Tree) (us : Trees) → IsCoefficient c → AreFactors us → IsSpread c us → part_of (mult (append (factors_of c) us)) ≡ product_tree us
      → IsMultiple (mult (append (factors_of c) us)) (rational_times_term q (mult (append (factors_of c) us)))
  led c us k a d e = by c k.number k.not_zero d e
    where
      by : (c : Tree) → IsNumber c → c ≢ num zero_fraction → IsSpread c us → part_of (mult (append (factors_of c) us)) ≡ product_tree us
          → IsMultiple (mult (append (factors_of c) us)) (rational_times_term q (mult (append (factors_of c) us)))
      by (num a') n z d e = rational_led a' (product_not_zero q a' f.not_zero (λ g. z (ap num g))) (d refl) e (is_one_fraction (times q a')) refl
        where
          rational_led : (c : Fraction) → times q c ≢ zero_fraction → is_one_add us ≡ false → part_of (mult (more (num c) us)) ≡ product_tree us → (b : Bool)
              → is_one_fraction (times q c) ≡ b
              → IsMultiple (mult (more (num c) us)) (if b then product_tree us else mult (more (num (times q c)) us))
          rational_led c z d e true g = gone (mult (more (num c) us)) us a d e
          rational_led c z d e false g = multiple_of (num (times q c)) (mult (more (num c) us)) us (more (num (times q c)) us) (rational (times q c) z (not_one_is (times q c) g)) a (λ h. d) e refl
      by (root (num r)) n z d e = multiple_of (mult (more (num q) (more (root (num r)) none))) _ us _ (irrational _ (f.not_zero, f.not_one, n) refl) a (λ h. absurd (true≢false (sym h))) e refl
      by (mult (more (num c) (more (root (num r)) none))) n z d e = root_led (is_one_fraction (times q c)) refl
        where
          root_led : (b : Bool) → is_one_fraction (times q c) ≡ b
              → IsMultiple (mult (more (num c) (more (root (num r)) us))) (if b then product_tree (more (root (num r)) us) else mult (more (num (times q c)) (more (root (num r)) us)))
          root_led true g = whole us a.some (multiple_of (root (num r)) _ us (more (root (num r)) us) (irrational (root (num r)) n.2 refl) a (λ h. absurd (true≢false (sym h))) e refl)
            where
              whole : (us : Trees) → 1 ≤ count us → IsMultiple (mult (more (num c) (more (root (num r)) us))) (mult (more (root (num r)) us))
                  → IsMultiple (mult (more (num c) (more (root (num r)) us))) (product_tree (more (root (num r)) us))
              whole none l h = absurd (omega arith)
              whole (more u us) l h = h
          root_led false g = multiple_of (mult (more (num (times q c)) (more (root (num r)) none))) _ us _
              (irrational _ (product_not_zero q c f.not_zero n.0, not_one_is (times q c) g, n.2) refl) a (λ h. absurd (true≢false (sym h))) e refl
      by (add ts) n z d e =
          subst (λ (b : Bool). IsMultiple (mult (more (add ts) us)) (if b then mult (more (rational_times_number q ts) us) else mult (more (num q) (more (add ts) us)))) (sym (number_test (add ts) n))
          (multiple_of (rational_times_number q ts) _ us _ (irrational _ (number_scaled q ts f n) refl) a (λ h. absurd (true≢false (sym h))) e refl)
      by c n z d e = absurd n

  -- before factors with no Number in front
  pub unled : (ts : Trees) → has_coefficient ts ≡ false → rational_times_term q (mult ts) ≡ mult (more (num q) ts)
  unfolding is_number
  unled (more (num c) ts) h = absurd (true≢false h)
  unled (more (add us) ts) h = ap (λ (b : Bool). if b then mult (more (rational_times_number q us) ts) else mult (more (num q) (more (add us) ts))) h
  unled ts h = refl

  before : (t : Tree) (us : Trees) → AreFactors us → is_one_add us ≡ false → part_of t ≡ product_tree us → IsMultiple t (mult (more (num q) us))
  before t us a d e = multiple_of (num q) t us (more (num q) us) (rational q f.not_zero f.not_one) a (λ h. d) e refl

  product_multiple : (ts : Trees) → AllParts HasForm (mult ts) → is_number (mult ts) ≡ false → IsProductForm ts → (has_coefficient ts ≡ false) ⊎ Leads ts
      → IsMultiple (mult ts) (rational_times_term q (mult ts))
  product_multiple ts h n g (inl k) =
      let m : IsMonic (mult ts) = record { reduced = parts_reduced (mult ts) h; defined = refl; no_coefficient = k } in
      subst (IsMultiple (mult ts)) (sym (unled ts k))
      (before (mult ts) ts (monic_factors (mult ts) m) (two_no_add ts g.two) (ap (λ (s : Split). product_tree s.factors) (no_split ts k)))
  product_multiple ts h n g (inr l) =
      let is : split_product (append (factors_of l.c) l.factors) ≡ split l.c l.factors = subst (λ (x : Trees). split_product x ≡ split l.c l.factors) l.whole l.is in
      let form = subst IsProductForm l.whole g in
      let a : AreFactors l.factors = factors_behind l.c l.factors is l.coefficient.number (subst (λ (x : Trees). is_number (mult x) ≡ false) l.whole n) form (subst (AllPartsOf HasForm) l.whole h.1) in
      subst (λ (x : Trees). IsMultiple (mult x) (rational_times_term q (mult x))) (sym l.whole)
      (led l.c l.factors l.coefficient a (spread_behind l.c l.factors l.coefficient (sym (ap is_undistributed is) ∙ form.distributed)) (ap (λ (s : Split). product_tree s.factors) is))

  pub multiple : (t : Tree) → AllParts HasForm t → is_number t ≡ false → is_add t ≡ false → IsMultiple t (rational_times_term q t)
  unfolding is_number
  multiple (num c) h n s = absurd (true≢false n)
  multiple (add ts) h n s = absurd (true≢false s)
  multiple (mult ts) h n s = let g = product_form_of ts h n in product_multiple ts h n g (in_front ts g.no_product g.front)
  multiple t h n s =
      before t (more t none) (monic_factors t (record { reduced = parts_reduced t h; defined = parts_defined t h; no_coefficient = n })) (no_add t s) refl
    where
      no_add : (t : Tree) → is_add t ≡ false → is_one_add (more t none) ≡ false
      no_add (add ts) s = absurd (true≢false s)
      no_add t s = refl
