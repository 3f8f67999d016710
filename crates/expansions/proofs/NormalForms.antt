-- The normal polynomial keeps coefficients, and is the only one with them.
use Rattle.expansions.proofs.Shared.{arith, ◌≡◌, [], ◌∷◌, Bool, true, false, refl, sym, ap, ◌∙◌, subst, if◌then◌else◌, Ordering, Less, Equal, Greater, zero_is, no_zero, zero_plus, Fraction}
use Rattle.expansions.proofs.Shared.{is_zero_fraction, plus, plus_assoc, zero_fraction, not_from_false, Monomial, Polynomial, Summand, coefficient_at, is_same_monomial, summand, IsBeforeAll, IsNormal}
use Rattle.expansions.proofs.{Shared.{joined, monomial_cmp, normal, with_summand, without_zeros, plus_left_comm, plus_zero}, MonomialTrees.{chained, equal_is, less_apart, not_same, same_is}}
use Rattle.expansions.proofs.MonomialTrees.{same_itself, turned}

-- ---- coefficients

at_same : (q : Fraction) (m : Monomial) (v : Polynomial) → coefficient_at m (summand q m ∷ v) ≡ plus q (coefficient_at m v)
at_same q m v = ap (λ b. if b then plus q (coefficient_at m v) else coefficient_at m v) (same_itself m)

at_other : (s : Summand) (m : Monomial) (v : Polynomial) → (s.monomial ≡ m → ⊥) → coefficient_at m (s ∷ v) ≡ coefficient_at m v
at_other s m v h = ap (λ b. if b then plus s.coefficient (coefficient_at m v) else coefficient_at m v) (not_same s.monomial m h)

both_added : (b : Bool) (p q x : Fraction) → (if b then plus (plus p q) x else x) ≡ (if b then plus p (if b then plus q x else x) else (if b then plus q x else x))
both_added true p q x = plus_assoc p q x
both_added false p q x = refl

exchanged : (a b : Bool) (p q x : Fraction)
    → (if a then plus p (if b then plus q x else x) else (if b then plus q x else x)) ≡ (if b then plus q (if a then plus p x else x) else (if a then plus p x else x))
exchanged a b p q x = grind (arith, plus_left_comm)

pub with_summand_coefficient : (m : Monomial) (s : Summand) (v : Polynomial) → coefficient_at m (with_summand s v) ≡ coefficient_at m (s ∷ v)
with_summand_coefficient m s [] = refl
with_summand_coefficient m s (t ∷ v) = by (monomial_cmp s.monomial t.monomial) refl (with_summand_coefficient m s v)
  where
    by : (o : Ordering) → monomial_cmp s.monomial t.monomial ≡ o → coefficient_at m (with_summand s v) ≡ coefficient_at m (s ∷ v)
        → coefficient_at m (elim o [ Less ↦ s ∷ t ∷ v | Equal ↦ summand (plus s.coefficient t.coefficient) s.monomial ∷ v | Greater ↦ t ∷ with_summand s v ]) ≡ coefficient_at m (s ∷ t ∷ v)
    by Less e go = refl
    by Equal e go =
        both_added (is_same_monomial s.monomial m) s.coefficient t.coefficient (coefficient_at m v)
        ∙ ap (λ k. let x = if is_same_monomial k m then plus t.coefficient (coefficient_at m v) else coefficient_at m v in if is_same_monomial s.monomial m then plus s.coefficient x else x)
        (equal_is s.monomial t.monomial e)
    by Greater e go =
        ap (λ x. if is_same_monomial t.monomial m then plus t.coefficient x else x) go
        ∙ exchanged (is_same_monomial t.monomial m) (is_same_monomial s.monomial m) t.coefficient s.coefficient (coefficient_at m v)

joined_coefficient : (m : Monomial) (v : Polynomial) → coefficient_at m (joined v) ≡ coefficient_at m v
joined_coefficient m [] = refl
joined_coefficient m (s ∷ v) = with_summand_coefficient m s (joined v) ∙ ap (λ x. if is_same_monomial s.monomial m then plus s.coefficient x else x) (joined_coefficient m v)

zero_added : (b : Bool) (q x : Fraction) → q ≡ zero_fraction → x ≡ (if b then plus q x else x)
zero_added true q x e = sym (ap (λ y. plus y x) e ∙ zero_plus x)
zero_added false q x e = refl

without_zeros_coefficient : (m : Monomial) (v : Polynomial) → coefficient_at m (without_zeros v) ≡ coefficient_at m v
without_zeros_coefficient m [] = refl
without_zeros_coefficient m (s ∷ v) = let go = without_zeros_coefficient m v in grind (arith, zero_is, zero_added)

pub normal_coefficient : (m : Monomial) (v : Polynomial) → coefficient_at m (normal v) ≡ coefficient_at m v
normal_coefficient m v = without_zeros_coefficient m (joined v) ∙ joined_coefficient m v

-- ---- rising monomials

abbrev pub AreRising : Polynomial → Type 0
AreRising [] = Unit {0}
AreRising (s ∷ v) = IsBeforeAll s.monomial v × AreRising v

pub before_more : (k m : Monomial) (v : Polynomial) → monomial_cmp k m ≡ Less → IsBeforeAll m v → IsBeforeAll k v
before_more k m [] l h = tt
before_more k m (t ∷ v) l h = (chained k m t.monomial l h.0, before_more k m v l h.1)

before_with : (k : Monomial) (s : Summand) (v : Polynomial) → monomial_cmp k s.monomial ≡ Less → IsBeforeAll k v → IsBeforeAll k (with_summand s v)
before_with k s [] l h = (l, tt)
before_with k s (t ∷ v) l h = let go = before_with k s v l h.1 in grind arith

with_rising : (s : Summand) (v : Polynomial) → AreRising v → AreRising (with_summand s v)
with_rising s [] h = (tt, tt)
with_rising s (t ∷ v) h = by (monomial_cmp s.monomial t.monomial) refl (with_rising s v h.1)
  where
    by : (o : Ordering) → monomial_cmp s.monomial t.monomial ≡ o → AreRising (with_summand s v)
        → AreRising (elim o [ Less ↦ s ∷ t ∷ v | Equal ↦ summand (plus s.coefficient t.coefficient) s.monomial ∷ v | Greater ↦ t ∷ with_summand s v ])
    by Less e go = ((e, before_more s.monomial t.monomial v e h.0), h)
    by Equal e go = (subst (λ k. IsBeforeAll k v) (sym (equal_is s.monomial t.monomial e)) h.0, h.1)
    by Greater e go = (before_with t.monomial s v (turned s.monomial t.monomial e) h.0, go)

pub joined_rising : (v : Polynomial) → AreRising (joined v)
joined_rising [] = tt
joined_rising (s ∷ v) = with_rising s (joined v) (joined_rising v)

before_without : (k : Monomial) (v : Polynomial) → IsBeforeAll k v → IsBeforeAll k (without_zeros v)
before_without k [] h = tt
before_without k (s ∷ v) h = let go = before_without k v h.1 in grind arith

without_normal : (v : Polynomial) → AreRising v → IsNormal (without_zeros v)
without_normal [] h = tt
without_normal (s ∷ v) h = by (is_zero_fraction s.coefficient) refl (without_normal v h.1)
  where
    by : (b : Bool) → is_zero_fraction s.coefficient ≡ b → IsNormal (without_zeros v) → IsNormal (if b then without_zeros v else s ∷ without_zeros v)
    by true e go = go
    by false e go = (no_zero s.coefficient (not_from_false _ e), before_without s.monomial v h.0, go)

pub normal_is : (v : Polynomial) → IsNormal (normal v)
normal_is v = without_normal (joined v) (joined_rising v)

-- ---- the only one

pub absent : (m : Monomial) (v : Polynomial) → IsBeforeAll m v → coefficient_at m v ≡ zero_fraction
absent m [] h = refl
absent m (s ∷ v) h = at_other s m v (λ e. less_apart m s.monomial h.0 (sym e)) ∙ absent m v h.1

-- the coefficient of the first monomial
first_coefficient : (s : Summand) (v : Polynomial) → IsBeforeAll s.monomial v → coefficient_at s.monomial (s ∷ v) ≡ s.coefficient
first_coefficient s v h = at_same s.coefficient s.monomial v ∙ ap (plus s.coefficient) (absent s.monomial v h) ∙ plus_zero s.coefficient

no_first : (s : Summand) (v w : Polynomial) → IsNormal (s ∷ v) → IsBeforeAll s.monomial w → ((m : Monomial) → coefficient_at m (s ∷ v) ≡ coefficient_at m w) → ⊥
no_first s v w n h e = n.0 (sym (first_coefficient s v n.1) ∙ e s.monomial ∙ absent s.monomial w h)

later_same : (s t : Summand) (v w : Polynomial) → s.monomial ≡ t.monomial → IsBeforeAll s.monomial v → IsBeforeAll t.monomial w
    → ((m : Monomial) → coefficient_at m (s ∷ v) ≡ coefficient_at m (t ∷ w)) → (m : Monomial) → coefficient_at m v ≡ coefficient_at m w
later_same s t v w e h k same m = by (is_same_monomial s.monomial m) refl
  where
    by : (b : Bool) → is_same_monomial s.monomial m ≡ b → coefficient_at m v ≡ coefficient_at m w
    by true f =
        let is = same_is s.monomial m f in
        absent m v (subst (λ x. IsBeforeAll x v) is h) ∙ sym (absent m w (subst (λ x. IsBeforeAll x w) (sym e ∙ is) k))
    by false f =
        ap (λ b. if b then plus s.coefficient (coefficient_at m v) else coefficient_at m v) (sym f) ∙ same m
        ∙ ap (λ b. if b then plus t.coefficient (coefficient_at m w) else coefficient_at m w) (ap (λ x. is_same_monomial x m) (sym e) ∙ f)

pub one_normal : (v w : Polynomial) → IsNormal v → IsNormal w → ((m : Monomial) → coefficient_at m v ≡ coefficient_at m w) → v ≡ w
one_normal [] [] h k e = refl
one_normal [] (t ∷ w) h k e = absurd (no_first t w [] k tt (λ m. sym (e m)))
one_normal (s ∷ v) [] h k e = absurd (no_first s v [] h tt e)
one_normal (s ∷ v) (t ∷ w) h k e = by (monomial_cmp s.monomial t.monomial) refl (λ same. one_normal v w h.2 k.2 same)
  where
    by : (o : Ordering) → monomial_cmp s.monomial t.monomial ≡ o → (((m : Monomial) → coefficient_at m v ≡ coefficient_at m w) → v ≡ w) → s ∷ v ≡ t ∷ w
    by Less l go = absurd (no_first s v (t ∷ w) h (l, before_more s.monomial t.monomial w l k.1) e)
    by Greater g go =
        let l = turned s.monomial t.monomial g in
        absurd (no_first t w (s ∷ v) k (l, before_more t.monomial s.monomial v l h.1) (λ m. sym (e m)))
    by Equal q go =
        let is : s.monomial ≡ t.monomial = equal_is s.monomial t.monomial q in
        let first : s.coefficient ≡ t.coefficient = sym (first_coefficient s v h.1) ∙ e s.monomial ∙ ap (λ m. coefficient_at m (t ∷ w)) is ∙ first_coefficient t w k.1 in
        λ i. summand (first i) (is i) ∷ go (later_same s t v w is h.1 k.1 e) i

pub one_normal_form : (v w : Polynomial) → ((m : Monomial) → coefficient_at m v ≡ coefficient_at m w) → normal v ≡ normal w
one_normal_form v w e = one_normal (normal v) (normal w) (normal_is v) (normal_is w) (λ m. normal_coefficient m v ∙ e m ∙ sym (normal_coefficient m w))
