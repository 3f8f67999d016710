-- The coefficients of an expanded tree in one name.
use Rattle.calc_terms.proofs.SmallFractions.{plus_zero}
use Rattle.expand_forms.proofs.Shared.{◌≡◌, ◌≢◌, ◌≤◌, ◌<◌, ◌⊎◌, ◌+◌, ◌-◌, ◌==◌, ℕ, zero, suc, List, [], ◌∷◌, ◌++◌, Bool, true, false, length, take, map, refl, sym, ap, ◌∙◌, subst, arith, eq-eqb, eqb-true, if◌then◌else◌, Less}
use Rattle.expand_forms.proofs.Shared.{AreAmong, AreMonomials, AreSame, Factor, Fraction, IsBeforeAll, IsExpanded, IsMonomial, IsNamed, IsNormal, IsSummandTree, Monomial, Polynomial, Summand, Tree, Trees}
use Rattle.expand_forms.proofs.Shared.{coefficient_at, count, expanded_terms, factor, is_same_monomial, monomial_cmp, more, names, none, normal, normal_all, normal_is, nth, num, plus, polynomial_of}
use Rattle.expand_forms.proofs.Shared.{root_kind, same_is, same_normal, same_trans, sum_tree, summand, term_tree, term_trees, terms_in, tree_named, tree_normal, zero_fraction, zero_plus, contained_has}
use Rattle.expand_forms.proofs.Shared.{AllHave, HasName, Contains, product_tree, monomial_tree, is_one_fraction, one_is, one_not_zero, false_from_ne_true, inl, inr, replicate, value_of, Rat}
use Rattle.expansions.specs.Polynomials.{IsBelowAll}
use Rattle.expand_forms.specs.Powers.{AreCoefficients, HasPowerAbove, IsNoted, IsPower, power_of}
use Rattle.expansions.proofs.{NameLists.{AllHaveNames, all_have, has_contained, later_names}, MonomialTrees.{less_apart, not_same, same_itself, same_is as one_monomial}, NormalForms.{absent}, SameCoefficients.{coefficient_append}}
use Rattle.calc_terms.specs.declared.kind.Kind.TheVariants as kind
use Rattle.std.proofs.Common.{get_or, ltb, max, set}
use Rattle.std.specs.Prelude.{MatchOption, Option, Some, None}
use Rattle.std.proofs.lemmas.List.{get_or-set_same, get_or-set_other, get_or_past, length-map, length-replicate, length-set, take-map}

-- ---- powers as monomials

-- the exponent of the first factor
first : Monomial → ℕ
first [] = 0
first (f ∷ m) = f.exponent

first_is : (x : List ℕ) (k : ℕ) → first (power_of x k) ≡ k
unfolding first
first_is x zero = refl
first_is x (suc k) = refl

pub one_power : (x : List ℕ) {j k : ℕ} → power_of x j ≡ power_of x k → j ≡ k
one_power x {j} {k} e = sym (first_is x j) ∙ ap first e ∙ first_is x k

-- a factor of the only name
power_is : (x : List ℕ) (f : Factor) → 1 ≤ f.exponent → f.name ≡ x → f ∷ [] ≡ power_of x f.exponent
power_is x f l e = by f.exponent refl l
  where
    by : (k : ℕ) → f.exponent ≡ k → 1 ≤ k → f ∷ [] ≡ power_of x k
    by zero q h = absurd (omega arith)
    by (suc k) q h = λ i. factor (e i) (q i) ∷ []

pub named_power : (x : List ℕ) (f : Factor) (m r : Monomial) → m ≡ f ∷ r → IsMonomial m → IsNamed (x ∷ []) m → (m ≡ power_of x f.exponent) × (f.name ≡ x)
named_power x f m r e h n = by (subst IsMonomial e h) (subst (IsNamed (x ∷ [])) e n)
  where
    is_name : (y : List ℕ) → HasName y (x ∷ []) → y ≡ x
    is_name y (inl q) = sym q
    is_name y (inr q) = absurd q

    alone : (s : Monomial) → AllHaveNames [] s → s ≡ []
    alone [] k = refl
    alone (g ∷ s) k = absurd k.0

    by : IsMonomial (f ∷ r) → IsNamed (x ∷ []) (f ∷ r) → (m ≡ power_of x f.exponent) × (f.name ≡ x)
    by k l =
        let q = is_name f.name (has_contained (x ∷ []) f.name l.0) in
        let rest = alone r (later_names x [] r (all_have (x ∷ []) r l.1) (subst (λ (y : List ℕ). IsBelowAll y r) q k.1)) in
        (e ∙ ap (λ (s : Monomial). f ∷ s) rest ∙ power_is x f k.0 q, q)

-- the exponent that has a place
pub placed_is : (x : List ℕ) (m : Monomial) (n : ℕ) → m ≡ power_of x n → (o : Option ℕ) → MatchOption o (32 < n) (λ k. (k ≤ 32) × (k ≡ n)) → IsPower x m o
placed_is x m n q (Some k) (l, e) = (l, q ∙ ap (power_of x) (sym e))
placed_is x m n q None l = (n, l, q)

-- ---- coefficients at a monomial

alone_at : (s : Summand) → coefficient_at s.monomial (s ∷ []) ≡ s.coefficient
alone_at s = ap (λ b. if b then plus s.coefficient zero_fraction else zero_fraction) (same_itself s.monomial) ∙ plus_zero s.coefficient

other_at : (s : Summand) (m : Monomial) (v : Polynomial) → (s.monomial ≡ m → ⊥) → coefficient_at m (s ∷ v) ≡ coefficient_at m v
other_at s m v h = ap (λ b. if b then plus s.coefficient (coefficient_at m v) else coefficient_at m v) (not_same s.monomial m h)

first_at : (s : Summand) (v : Polynomial) → IsBeforeAll s.monomial v → coefficient_at s.monomial (s ∷ v) ≡ s.coefficient
first_at s v h =
    ap (λ b. if b then plus s.coefficient (coefficient_at s.monomial v) else coefficient_at s.monomial v) (same_itself s.monomial) ∙ ap (plus s.coefficient) (absent s.monomial v h)
    ∙ plus_zero s.coefficient

-- ---- the terms of an expanded tree

-- the next summand, whose monomial is not among those before
pub record IsNextPower (ns : List (List ℕ)) (v : Polynomial) (i : ℕ) (t : Tree) : Type 0 where
  pub summand-is : Summand
  pub more : take (suc i) v ≡ take i v ++ summand-is ∷ []
  pub is : IsSummandTree ns summand-is t
  pub nonzero : summand-is.coefficient ≢ zero_fraction
  pub new : coefficient_at summand-is.monomial (take i v) ≡ zero_fraction
  pub whole : coefficient_at summand-is.monomial v ≡ summand-is.coefficient
  pub above : (m : Monomial) → IsBeforeAll m v → monomial_cmp m summand-is.monomial ≡ Less

next_power : (ns : List (List ℕ)) (v : Polynomial) (i : ℕ) (t : Tree) → AreMonomials v → AllHave (IsNamed ns) v → IsNormal v → i < count (term_trees v) → t ≡ nth i (term_trees v) → IsNextPower ns v i t
next_power ns [] i t m n o l e = absurd (omega arith)
next_power ns (s ∷ v) zero t m n o l e = record {
  summand-is = s;
  more = refl;
  is = record { monomial = m.0; named = n.0; tree = e };
  nonzero = o.0;
  new = refl;
  whole = first_at s v o.1;
  above = λ k h. h.0;
}
next_power ns (s ∷ v) (suc i) t m n o l e =
    let go = next_power ns v i t m.1 n.1 o.2 (omega arith) e in
    let apart : s.monomial ≡ (go.summand-is).monomial → ⊥ = less_apart s.monomial (go.summand-is).monomial (go.above s.monomial o.1) in
    record {
      summand-is = go.summand-is;
      more = ap (λ (x : Polynomial). s ∷ x) go.more;
      is = go.is;
      nonzero = go.nonzero;
      new = other_at s (go.summand-is).monomial (take i v) apart ∙ go.new;
      whole = other_at s (go.summand-is).monomial v apart ∙ go.whole;
      above = λ k h. go.above k h.1;
    }

-- the only name of a tree
pub among_one : (x : List ℕ) (ys : List (List ℕ)) → ((y : List ℕ) → Contains ys y → y ≡ x) → AreAmong (x ∷ []) ys
among_one x ys h = λ y c. contained_has (x ∷ []) y (inl (sym (h y c)))

-- an expanded tree with these names
module _ (ns : List (List ℕ)) (t : Tree) (e : IsExpanded t) (n : AreAmong ns (names t)) where
  abbrev v : Polynomial
  v = normal (polynomial_of t)

  named_all : AllHave (IsNamed ns) v
  named_all = normal_all (IsNamed ns) (polynomial_of t) (tree_named ns t (record { name = n }))

  pub power_at : (i : ℕ) (u : Tree) → i < count (terms_in t) → u ≡ nth i (terms_in t) → IsNextPower ns v i u
  power_at i u l q =
      let terms : terms_in t ≡ term_trees v = expanded_terms t e in
      next_power ns v i u (tree_normal t) named_all (normal_is (polynomial_of t)) (subst (λ (ts : Trees). i < count ts) terms l) (q ∙ ap (nth i) terms)

-- a tree that is its only term, or 0
pub record IsOnly (ns : List (List ℕ)) (t : Tree) : Type 0 where
  pub summand-is : Summand
  pub is : IsSummandTree ns summand-is t
  pub same : AreSame (summand-is ∷ []) (polynomial_of t)
  pub nonzero : summand-is.monomial ≢ [] → summand-is.coefficient ≢ zero_fraction

no_term : AreSame (summand zero_fraction [] ∷ []) []
no_term = record { at = λ m. by (is_same_monomial [] m) }
  where
    by : (b : Bool) → (if b then plus zero_fraction zero_fraction else zero_fraction) ≡ zero_fraction
    by true = zero_plus zero_fraction
    by false = refl

zero_term : num zero_fraction ≡ term_tree (summand zero_fraction [])
zero_term = ap (λ b. if b then monomial_tree [] else product_tree (more (num zero_fraction) none)) (sym (false_from_ne_true (is_one_fraction zero_fraction) (λ e. one_not_zero (sym (one_is zero_fraction e)))))

pub only_term : (ns : List (List ℕ)) (t : Tree) → IsExpanded t → AreAmong ns (names t) → (kind.Add ≡ root_kind t → ⊥) → IsOnly ns t
only_term ns t e n h = by (normal (polynomial_of t)) refl (tree_normal t) (named_all ns t e n) (normal_is (polynomial_of t))
  where
    by : (w : Polynomial) → normal (polynomial_of t) ≡ w → AreMonomials w → AllHave (IsNamed ns) w → IsNormal w → IsOnly ns t
    by [] q m k o = record {
      summand-is = summand zero_fraction [];
      is = record { monomial = tt; named = tt; tree = e ∙ ap (λ (w : Polynomial). sum_tree (term_trees w)) q ∙ zero_term };
      same = same_trans no_term (same_trans (same_is (sym q)) (same_normal (polynomial_of t)));
      nonzero = λ z. absurd (z refl);
    }
    by (s ∷ []) q m k o = record {
      summand-is = s;
      is = record { monomial = m.0; named = k.0; tree = e ∙ ap (λ (w : Polynomial). sum_tree (term_trees w)) q };
      same = same_trans (same_is (sym q)) (same_normal (polynomial_of t));
      nonzero = λ z. o.0;
    }
    by (s ∷ u ∷ w) q m k o = absurd (h (sym (ap root_kind (e ∙ ap (λ (w : Polynomial). sum_tree (term_trees w)) q))))

-- ---- the places

-- the coefficients of v, the highest power with one other than 0 at h
pub record AreUpTo (x : List ℕ) (v : Polynomial) (qs : List Fraction) (h : ℕ) : Type 0 where
  pub places : length qs ≡ 33
  pub coefficients : AreCoefficients x v qs
  pub few : h ≤ 32
  pub rest : (k : ℕ) → h < k → get_or qs k zero_fraction ≡ zero_fraction
  pub leading : 1 ≤ h → get_or qs h zero_fraction ≢ zero_fraction

-- none are written yet
zeros : (z : Rat) → value_of z ≡ zero_fraction → (n k : ℕ) → get_or (map value_of (replicate n z)) k zero_fraction ≡ zero_fraction
zeros z e zero k = get_or_past [] k zero_fraction (omega arith)
zeros z e (suc n) zero = e
zeros z e (suc n) (suc k) = zeros z e n k

pub none_up_to : (x : List ℕ) (cs : List Rat) (z : Rat) → cs ≡ replicate 33 z → value_of z ≡ zero_fraction → AreUpTo x [] (map value_of cs) 0
none_up_to x cs z e is = subst (λ (rs : List Rat). AreUpTo x [] (map value_of rs) 0) (sym e) (record {
  places = length-map (replicate 33 z) value_of ∙ length-replicate 33 z;
  coefficients = record { powers = λ k. sym (zeros z is 33 k); others = λ m h. absurd (h refl) };
  few = omega arith;
  rest = λ k l. zeros z is 33 k;
  leading = λ l. absurd (omega arith);
})

-- one more is written
module _ {x : List ℕ} {v : Polynomial} {qs : List Fraction} {h k : ℕ} (s : Summand) (old : AreUpTo x v qs h) (new : coefficient_at s.monomial v ≡ zero_fraction)
    (power : s.monomial ≡ power_of x k) (within : k ≤ 32) where
  abbrev written : List Fraction
  written = set qs k s.coefficient

  written_at : get_or written k zero_fraction ≡ s.coefficient
  written_at = get_or-set_same qs k s.coefficient zero_fraction (omega (arith, old.places))

  written_other : (j : ℕ) → (j ≡ k → ⊥) → get_or written j zero_fraction ≡ get_or qs j zero_fraction
  written_other j e = get_or-set_other qs k j s.coefficient zero_fraction e

  powers_more : (j : ℕ) → coefficient_at (power_of x j) (v ++ s ∷ []) ≡ get_or written j zero_fraction
  powers_more j = coefficient_append (power_of x j) v (s ∷ []) ∙ by (j == k) refl
    where
      by : (b : Bool) → (j == k) ≡ b → plus (coefficient_at (power_of x j) v) (coefficient_at (power_of x j) (s ∷ [])) ≡ get_or written j zero_fraction
      by true e =
          let q : j ≡ k = eqb-true j k e in
          let is : power_of x j ≡ s.monomial = ap (power_of x) q ∙ sym power in
          (λ i. plus (coefficient_at (is i) v) (coefficient_at (is i) (s ∷ []))) ∙ (λ i. plus (new i) (alone_at s i)) ∙ zero_plus s.coefficient
          ∙ sym (ap (λ (n : ℕ). get_or written n zero_fraction) q ∙ written_at)
      by false e =
          let apart : j ≡ k → ⊥ = λ q. (let t = eq-eqb j k q in cc) in
          ap (plus (coefficient_at (power_of x j) v)) (other_at s (power_of x j) [] (λ q. apart (one_power x (sym q ∙ power)))) ∙ plus_zero (coefficient_at (power_of x j) v)
          ∙ old.coefficients.powers j ∙ sym (written_other j apart)

  others_more : (m : Monomial) → coefficient_at m (v ++ s ∷ []) ≢ zero_fraction → (j : ℕ) × (m ≡ power_of x j)
  others_more m z = by (is_same_monomial s.monomial m) refl
    where
      by : (b : Bool) → is_same_monomial s.monomial m ≡ b → (j : ℕ) × (m ≡ power_of x j)
      by true e = (k, sym (one_monomial s.monomial m e) ∙ power)
      by false e =
          let same : coefficient_at m (v ++ s ∷ []) ≡ coefficient_at m v =
          coefficient_append m v (s ∷ []) ∙ ap (λ b. plus (coefficient_at m v) (if b then plus s.coefficient zero_fraction else zero_fraction)) e ∙ plus_zero (coefficient_at m v) in
          old.coefficients.others m (λ q. z (same ∙ q))

  up_to : {n : ℕ} → (1 ≤ k → s.coefficient ≢ zero_fraction) → ((h < k) × (n ≡ k)) ⊎ ((k ≤ h) × (n ≡ h)) → AreUpTo x (v ++ s ∷ []) written n
  up_to {n} nonzero c = record {
    places = length-set qs k s.coefficient ∙ old.places;
    coefficients = record { powers = powers_more; others = others_more };
    few = few-is c;
    rest = λ j l. written_other j (λ q. (let t = beyond c j l in absurd (omega arith))) ∙ old.rest j (let t = beyond c j l in omega arith);
    leading = leading-is c;
  }
    where
      few-is : ((h < k) × (n ≡ k)) ⊎ ((k ≤ h) × (n ≡ h)) → n ≤ 32
      few-is (inl (l, e)) = omega (arith, within)
      few-is (inr (l, e)) = omega (arith, old.few)

      beyond : ((h < k) × (n ≡ k)) ⊎ ((k ≤ h) × (n ≡ h)) → (j : ℕ) → n < j → (k < j) × (h < j)
      beyond (inl (l, e)) j g = (omega arith, omega arith)
      beyond (inr (l, e)) j g = (omega arith, omega arith)

      leading-is : ((h < k) × (n ≡ k)) ⊎ ((k ≤ h) × (n ≡ h)) → 1 ≤ n → get_or written n zero_fraction ≢ zero_fraction
      leading-is (inl (l, e)) g z = nonzero (omega arith) (sym written_at ∙ ap (λ (i : ℕ). get_or written i zero_fraction) (sym e) ∙ z)
      leading-is (inr (l, e)) g z = by (k == h) refl
        where
          by : (b : Bool) → (k == h) ≡ b → ⊥
          by true q =
              let t : k ≡ h = eqb-true k h q in
              nonzero (omega arith) (sym written_at ∙ ap (λ (i : ℕ). get_or written i zero_fraction) (t ∙ sym e) ∙ z)
          by false q =
              let apart : n ≡ k → ⊥ = λ r. (let t = eq-eqb k h (sym r ∙ e) in cc) in
              old.leading (omega arith) (ap (λ (i : ℕ). get_or qs i zero_fraction) (sym e) ∙ sym (written_other n apart) ∙ z)

-- the only term of a tree is written
pub only_up_to : (x : List ℕ) (t : Tree) (o : IsOnly (x ∷ []) t) (cs new : List Rat) (z : Rat) (k : ℕ) → cs ≡ replicate 33 z → value_of z ≡ zero_fraction → IsNoted x o.summand-is cs new (Some k)
    → AreUpTo x (o.summand-is ∷ []) (map value_of new) k
only_up_to x t o cs new z k e is ((within, power), written-is) =
    subst (λ (qs : List Fraction). AreUpTo x (o.summand-is ∷ []) qs k) (sym written-is)
    (up_to o.summand-is (none_up_to x cs z e is) refl power within (λ l. o.nonzero (λ q. (let none-left = one_power x {j = k} {k = 0} (sym power ∙ q) in absurd (omega arith)))) (by k))
  where
    by : (n : ℕ) → ((0 < n) × (n ≡ n)) ⊎ ((n ≤ 0) × (n ≡ 0))
    by zero = inr (omega arith, refl)
    by (suc n) = inl (omega arith, refl)

greater : (h k : ℕ) → ((h < k) × (max h k ≡ k)) ⊎ ((k ≤ h) × (max h k ≡ h))
greater h k = by (ltb h k) refl
  where
    by : (b : Bool) → ltb h k ≡ b → ((h < k) × (max h k ≡ k)) ⊎ ((k ≤ h) × (max h k ≡ h))
    by true e = inl (grind arith, grind arith)
    by false e = inr (grind arith, grind arith)

-- the next term is written
pub next_up_to : (x : List ℕ) (w : Polynomial) (i : ℕ) (u : Tree) (p : IsNextPower (x ∷ []) w i u) (cs new : List Rat) (h k n : ℕ) → AreUpTo x (take i w) (map value_of cs) h
    → IsNoted x p.summand-is cs new (Some k) → n ≡ max h k → AreUpTo x (take (suc i) w) (map value_of new) n
next_up_to x w i u p cs new h k n old ((within, power), written-is) e =
    subst (λ (v : Polynomial). AreUpTo x v (map value_of new) n) (sym p.more)
    (subst (λ (qs : List Fraction). AreUpTo x (take i w ++ p.summand-is ∷ []) qs n) (sym written-is)
    (subst (AreUpTo x (take i w ++ p.summand-is ∷ []) (set (map value_of cs) k (p.summand-is).coefficient)) (sym e) (up_to p.summand-is old p.new power within (λ l. p.nonzero) (greater h k))))

-- ---- all of them

cut : (n : ℕ) (qs : List Fraction) (k : ℕ) → ((j : ℕ) → n ≤ j → get_or qs j zero_fraction ≡ zero_fraction) → get_or qs k zero_fraction ≡ get_or (take n qs) k zero_fraction
cut zero qs k h = h k (omega arith) ∙ sym (get_or_past [] k zero_fraction (omega arith))
cut (suc n) [] k h = refl
cut (suc n) (q ∷ qs) zero h = refl
cut (suc n) (q ∷ qs) (suc k) h = cut n qs k (λ j l. h (suc j) (omega arith))

module _ {x : List ℕ} {w v : Polynomial} (cs : List Rat) {h : ℕ} (up : AreUpTo x w (map value_of cs) h) (same : AreSame w v) where
  pub all_coefficients : AreCoefficients x v (map value_of (take (h + 1) cs))
  all_coefficients = record {
    powers = λ k. sym (same.at (power_of x k)) ∙ up.coefficients.powers k ∙ cut (h + 1) (map value_of cs) k (λ j l. up.rest j (omega arith))
        ∙ ap (λ (qs : List Fraction). get_or qs k zero_fraction) (take-map value_of (h + 1) cs);
    others = λ m z. up.coefficients.others m (λ e. z (sym (same.at m) ∙ e));
  }

  pub last_coefficient : h + 1 ≢ 1 → get_or (map value_of cs) (h + 1 - 1) zero_fraction ≢ zero_fraction
  last_coefficient e z = let i : h + 1 - 1 ≡ h = omega arith in up.leading (omega (arith, e)) (ap (λ (j : ℕ). get_or (map value_of cs) j zero_fraction) (sym i) ∙ z)

  pub none_above : HasPowerAbove 32 x v → ⊥
  none_above (k, l, z) = z (sym (same.at (power_of x k)) ∙ up.coefficients.powers k ∙ up.rest k (omega (arith, up.few)))

-- ---- one above 32

above_at : (x : List ℕ) {w v : Polynomial} (s : Summand) → IsPower x s.monomial None → coefficient_at s.monomial w ≡ s.coefficient → s.coefficient ≢ zero_fraction → AreSame w v → HasPowerAbove 32 x v
above_at x {v = u} s (k, l, e) whole nonzero same = (k, l, λ z. nonzero (sym whole ∙ same.at s.monomial ∙ ap (λ m. coefficient_at m u) e ∙ z))

pub only_above : (x : List ℕ) (t : Tree) (o : IsOnly (x ∷ []) t) → IsPower x (o.summand-is).monomial None → HasPowerAbove 32 x (polynomial_of t)
only_above x t o (k, l, e) =
    above_at x o.summand-is (k, l, e) (alone_at o.summand-is) (o.nonzero (λ q. (let none-left = one_power x {j = k} {k = 0} (sym e ∙ q) in absurd (omega arith)))) o.same

pub next_above : (x : List ℕ) (t u : Tree) (i : ℕ) (p : IsNextPower (x ∷ []) (normal (polynomial_of t)) i u) → IsPower x (p.summand-is).monomial None → HasPowerAbove 32 x (polynomial_of t)
next_above x t u i p h = above_at x p.summand-is h p.whole p.nonzero (same_normal (polynomial_of t))
