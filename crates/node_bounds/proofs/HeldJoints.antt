-- What holds factors holds them with two of one base joined, and the exponents of these are added within few bits.
use Rattle.node_bounds.proofs.Shared.{◌≡◌, ℕ, zero, suc, ◌+◌, ◌≤◌, ◌<◌, [], ◌∷◌, Bool, true, false, ◌&&◌, not, refl, sym, ap, ◌∙◌, subst, arith, inl, inr, and_from, is_number, is_reduced, are_reduced}
use Rattle.node_bounds.proofs.Shared.{is_whole_num, is_opaque_exponent, base_of, number_words, HighLow, Tree, power, Trees, none, more, count, is_undef, reduced_parts, IsReducedPower, AreFewBits}
use Rattle.node_bounds.proofs.Shared.{AddsCounts, IsCountedWithin, set_tree, removed, whole_is, IsFactorHeld, AreFactorsHeld, exponent_of, is_partner, IsPairAt, joined_pair, partners_of_pair}
use Rattle.node_bounds.proofs.Shared.{IsSumHeld, addends_of_each, counts_of, counts_of_all, is_counted, IsPartHeld, trees_together, factors_joined, factor_left_out, exponents_within, one_counts, nth}
use Rattle.node_bounds.proofs.{Shared.{inserted, reduced_nth, one_base, cases_Bool, counted_defined, exponent_is_held, neighbours_held, IsJoint}, Clashes.{undef_words}}
use Rattle.node_bounds.proofs.{HeldFactors.{undef_factor, first_counted, part_high}, HeldParts.{part_answer}}
use Rattle.sum_reduce.proofs.CollectedExponents.{whole_number}
use Rattle.tree_bits.specs.HeldTrees as part

-- ---- one factor

-- an exponent that counts is transparent
counted_transparent : (e : Tree) → is_counted e ≡ true → is_opaque_exponent e ≡ false
counted_transparent e c = by (is_number e) refl
  where
    by : (b : Bool) → is_number e ≡ b → (b && not (is_whole_num e)) ≡ false
    by false n = refl
    by true n = let w = whole_number e (number_words e n) c in ap (λ (t : Tree). true && not (is_whole_num t)) w.is ∙ ap (λ (b : Bool). true && not b) (whole_is w.z)

-- so it is that of the factor over its base
base_same : (t : Tree) → is_counted (part.exponent_in t) ≡ true → base_of t ≡ part.base_in t
base_same t h = grind (arith, counted_transparent)

exponent_same : (t : Tree) → is_counted (part.exponent_in t) ≡ true → exponent_of t ≡ part.exponent_in t
exponent_same t h = grind (arith, counted_transparent)

some_high : (t : Tree) (ts : Trees) {h l : ℕ} → is_reduced t ≡ true → IsPartHeld (more t ts) h l → 1 ≤ h
some_high t ts h k = grind (arith, one_counts, undef_words, exponents_within, part_high, reduced_parts)

-- ---- two factors

counted_both : {t u : Tree} {h l : ℕ} → IsPartHeld (more t (more u none)) h l → (is_counted (part.exponent_in t) ≡ true) × (is_counted (part.exponent_in u) ≡ true)
counted_both {t} {u} {h} {l} a = (first_counted a, first_counted (factor_left_out t (more u none) h l a))

-- the base to the sum of their exponents
joint_held : (t u g : Tree) {h l : ℕ} → is_partner t u ≡ true → AddsCounts (more (exponent_of t) (more (exponent_of u) none)) g → IsPartHeld (more t (more u none)) h l
    → IsPartHeld (more (power (base_of t) g) none) h l
joint_held t u g {h} {l} p k a = factors_joined t u (power (base_of t) g) none h l j a
  where
    c : (is_counted (part.exponent_in t) ≡ true) × (is_counted (part.exponent_in u) ≡ true)
    c = counted_both a

    e : exponent_of t ≡ part.exponent_in t
    e = exponent_same t c.0

    f : exponent_of u ≡ part.exponent_in u
    f = exponent_same u c.1

    w : IsCountedWithin (counts_of_all (more (exponent_of t) (more (exponent_of u) none))) g
    w = k (and_from _ _ (ap is_counted e ∙ c.0) (and_from _ _ (ap is_counted f ∙ c.1) refl))

    j : IsJoint t u (power (base_of t) g)
    j = record {
      same = sym (base_same u c.1) ∙ sym (one_base t u p) ∙ base_same t c.0;
      base = base_same t c.0;
      counted = w.counted;
      within = record {
        up = omega (arith, w.within.up, ap (λ (x : Tree). (counts_of x).up) e, ap (λ (x : Tree). (counts_of x).up) f);
        down = omega (arith, w.within.down, ap (λ (x : Tree). (counts_of x).down) e, ap (λ (x : Tree). (counts_of x).down) f);
      };
    }

-- what is answered for it
joint_answer : (t u g r : Tree) {h l : ℕ} → is_reduced t ≡ true → is_reduced (base_of t) ≡ true → is_reduced g ≡ true → is_partner t u ≡ true
    → AddsCounts (more (exponent_of t) (more (exponent_of u) none)) g → IsReducedPower (base_of t) g r
    → IsPartHeld (more t (more u none)) h l → IsFactorHeld r h l
joint_answer t u g r {h} {l} x y z p k a b = elim (cases_Bool (is_undef r)) [
  | inl e ↦ subst (λ (v : Tree). IsFactorHeld v h l) (sym (undef_words r e)) (undef_factor (some_high t (more u none) x b))
  | inr e ↦ part_answer (base_of t) g r y z a (joint_held t u g p k b) e
]

-- the exponents together
exponent_few : (e : Tree) → is_reduced e ≡ true → is_counted e ≡ true → (counts_of e).up + (counts_of e).down ≤ 62 → part.IsTreeHeld e 7 0
exponent_few e r c l = exponent_is_held e (reduced_parts e r (counted_defined e c)) c l

seven : HighLow
seven = record { high = 7; low = 0 }

exponents_held : (t u : Tree) {h l : ℕ} → is_reduced (exponent_of t) ≡ true → is_reduced (exponent_of u) ≡ true → h ≤ 62 → IsPartHeld (more t (more u none)) h l
    → IsSumHeld (addends_of_each (more (exponent_of t) (more (exponent_of u) none))) 8 0
unfolding seven
exponents_held t u {h} {l} x y m a =
    let c = counted_both a in
    let e = exponent_same t c.0 in
    let f = exponent_same u c.1 in
    let i = exponents_within {t = t} {ts = more u none} a in
    let j = exponents_within {t = u} {ts = none} (factor_left_out t (more u none) h l a) in
    let p : is_counted (exponent_of t) ≡ true = ap is_counted e ∙ c.0 in
    let q : is_counted (exponent_of u) ≡ true = ap is_counted f ∙ c.1 in
    trees_together (more (exponent_of t) (more (exponent_of u) none)) (seven ∷ seven ∷ []) 8 0 (
      counted_defined (exponent_of t) p,
      exponent_few (exponent_of t) x p (omega (arith, i, m, ap (λ (v : Tree). (counts_of v).up + (counts_of v).down) e)),
      (counted_defined (exponent_of u) q, exponent_few (exponent_of u) y q (omega (arith, j, m, ap (λ (v : Tree). (counts_of v).up + (counts_of v).down) f)), tt),
    ) (omega arith) (omega arith)

-- ---- in their place

replaced_inserted : (n : ℕ) (x r : Tree) (ts : Trees) → n ≤ count ts → set_tree n r (inserted n (more x none) ts) ≡ inserted n (more r none) ts
replaced_inserted zero x r ts l = refl
replaced_inserted (suc n) x r none l = absurd (omega arith)
replaced_inserted (suc n) x r (more t ts) l = ap (more t) (replaced_inserted n x r ts (omega arith))

removed_count : (n : ℕ) (ts : Trees) → n < count ts → suc (count (removed n ts)) ≡ count ts
removed_count n none l = absurd (omega arith)
removed_count zero (more t ts) l = refl
removed_count (suc n) (more t ts) l = ap suc (removed_count n ts (omega arith))

module _ (at : ℕ) (ts us : Trees) (pair : IsPairAt at ts) (reduced : are_reduced ts ≡ true) (joined-is : us ≡ joined_pair at (suc at) ts) where
  partners : is_partner (nth at ts) (nth (suc at) ts) ≡ true
  partners = partners_of_pair (nth at ts) (nth (suc at) ts) pair.pair

  pub first_reduced : is_reduced (nth at ts) ≡ true
  first_reduced = let w = pair.within in reduced_nth at ts (omega arith) reduced

  in_place : (r : Tree) → inserted at (more r none) (removed at (removed (suc at) ts)) ≡ set_tree at r us
  in_place r = grind (arith, removed_count, replaced_inserted)

  pub settled_held : (g r : Tree) → is_reduced (base_of (nth at ts)) ≡ true → is_reduced g ≡ true → AddsCounts (more (exponent_of (nth at ts)) (more (exponent_of (nth (suc at) ts)) none)) g
      → IsReducedPower (base_of (nth at ts)) g r
      → (h l : ℕ) → AreFactorsHeld ts h l → AreFactorsHeld (set_tree at r us) h l
  settled_held g r x y k a h l b =
      let (p, q, i, j, c, f) = neighbours_held at ts h l pair reduced b in
      subst (λ (vs : Trees). AreFactorsHeld vs h l) (in_place r) (f r (joint_answer (nth at ts) (nth (suc at) ts) g r first_reduced x y partners k a c))

  -- the exponents, and the power of their sum
  pub pair_exponents_held : is_reduced (exponent_of (nth at ts)) ≡ true → is_reduced (exponent_of (nth (suc at) ts)) ≡ true → (h l : ℕ) → AreFewBits h l → AreFactorsHeld ts h l
      → IsSumHeld (addends_of_each (more (exponent_of (nth at ts)) (more (exponent_of (nth (suc at) ts)) none))) 8 0
  pair_exponents_held k a h l b c = grind (arith, neighbours_held, exponents_held)

  pub pair_power_held : (g : Tree) → AddsCounts (more (exponent_of (nth at ts)) (more (exponent_of (nth (suc at) ts)) none)) g → (h l : ℕ) → AreFactorsHeld ts h l
      → (p q : ℕ) × (p ≤ h) × (q ≤ l) × IsPartHeld (more (power (base_of (nth at ts)) g) none) p q
  pair_power_held g k h l b =
      let (p, q, i, j, c, f) = neighbours_held at ts h l pair reduced b in
      (p, q, i, j, joint_held (nth at ts) (nth (suc at) ts) g partners k c)
