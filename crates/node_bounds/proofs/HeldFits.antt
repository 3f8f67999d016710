-- A call inside of another one fits where few bits hold what the outer one was handed.
use Rattle.std.proofs.Common.{◌≡◌, ℕ, suc, ◌+◌, ◌*◌, ◌≤◌, ℤ, true, false, Some, Result, refl, sym, ap, ◌∙◌, subst, arith, IfErr, IsOk, nat_abs}
use Rattle.node_bounds.proofs.Shared.{and_parts, mul-le, is_reduced, is_half_num, is_whole_num, whole_fraction, whole_is, whole_numerator, Tree, num, power, root, Trees, none, more, append, is_mult}
use Rattle.node_bounds.proofs.Shared.{is_undef, has_undef, reduced_parts, parts_reduced, AreFewBits, IsJoinedFrom, IsRewritten, IsLifted, IsProductOfPowers, IsSummed, exponent_of, joint, base_of}
use Rattle.node_bounds.proofs.Shared.{IsSumHeld, addends_of_each, HasFewBitsRaised, base_in, exponent_in, half, goes_inside, is_zero_or_one, parts_of, rewritten_whole, as_whole, whole_no_half, chosen}
use Rattle.node_bounds.proofs.Shared.{IsFactorHeld, AreFactorsHeld, none_held, counts_of, is_counted, raised_high, raised_low, exponents_within, nth, children_of, OfOverflow, NumberFault, reduced_nth}
use Rattle.node_bounds.proofs.{Shared.{exponent_is_reduced, inside_other, mult}, Clashes.{clash, exponent_reduced}, HeldFactors.{EachHeld, more_each, parts_each, tree_factor, factor_power}}
use Rattle.node_bounds.proofs.{HeldFactors.{no_zero_exponent}, HeldJoints.{pair_exponents_held, pair_power_held}, JointBytes.{joining}, HeldParts.{few_most, few_magnitude, part_fits}}
use Rattle.node_bounds.proofs.{HeldPowers.{half_of, half_bits, root_argument, power_raised, factor_counted, powers_held}, PowerBytes.{split_at}, Rewritten.{by_product, by_power}}
use Rattle.tree_bits.proofs.ExponentBits.{counted_defined, some_counts, exponent_is_held, multiple_counts}
use Rattle.product_reduce.specs.Bits.{factor_held}

-- ---- products

-- an operation overflows only where no factor is Undef
pub product_fits : {A : Type 0} (us : Trees) (r : Result A NumberFault) → (has_undef us ≡ false → IfErr r (OfOverflow (λ o. ⊥))) → IfErr r (OfOverflow (λ o. has_undef us ≡ false))
    → IfErr r (OfOverflow (λ o. ⊥))
product_fits us r h k = grind (arith, clash)

-- the product of reduced powers
pub powers_ready : (b e t v : Tree) (n : ℤ) (h l : ℕ) → is_mult t ≡ true → IsRewritten b e t → IsProductOfPowers (children_of t) v → e ≡ num (whole_fraction n) → IsFactorHeld b h l
    → has_undef (children_of v) ≡ false
    → AreFactorsHeld (children_of v) (raised_high n h l) (raised_low n h l)
powers_ready b e t v n h l k a c d f p = grind (arith, by_product, powers_held, parts_each)

-- one of the powers
record IsEachAt (t : Tree) (h l : ℕ) : Type 0 where
  p : ℕ
  q : ℕ
  held : IsFactorHeld t p q
  high : p ≤ h
  low : q ≤ l

each_at : (before : Trees) (t : Tree) (rest : Trees) {h l : ℕ} → EachHeld (append before (more t rest)) h l → IsEachAt t h l
each_at none t rest (more_each p q i j a b x y) = record { p = p; q = q; held = a; high = omega arith; low = omega arith }
each_at (more u us) t rest (more_each p q i j a b x y) = let r = each_at us t rest b in record { p = r.p; q = r.q; held = r.held; high = omega (arith, r.high); low = omega (arith, r.low) }

pub record IsPartFitting (x : Tree) (n : ℤ) : Type 0 where
  pub p : ℕ
  pub q : ℕ
  pub exponent : exponent_in x ≡ num (whole_fraction n)
  pub held : IsFactorHeld (base_in x) p q
  pub few : HasFewBitsRaised n p q

pub part_ready : (b e t x : Tree) (done rest : Trees) (n : ℤ) (h l : ℕ) → is_mult t ≡ true → IsRewritten b e t → children_of t ≡ append done (more x rest) → e ≡ num (whole_fraction n)
    → IsFactorHeld b h l → HasFewBitsRaised n h l → IsPartFitting x n
part_ready b e t x done rest n h l m w s i f few =
    by_product (λ (y u : Tree). children_of u ≡ append done (more x rest) → IsFactorHeld y h l → IsPartFitting x n) b e t m w
    (λ fs r k s f.
    let q = split_at (parts_of fs) e done x rest s in
    let a = each_at q.first q.part q.last (subst (λ (ys : Trees). EachHeld ys h l) q.split (parts_each fs r k f)) in
    record { p = a.p; q = a.q; exponent = ap exponent_in q.is ∙ i; held = subst (λ (y : Tree). IsFactorHeld (base_in y) a.p a.q) (sym q.is) a.held; few = few_most n a.high a.low few }) s f

-- ---- powers

pub power_fits : {A : Type 0} (b e t v : Tree) (n : ℤ) (h l : ℕ) (r : Result A NumberFault) → is_mult t ≡ false → IsRewritten b e t → IsLifted t v → e ≡ num (whole_fraction n)
    → IsFactorHeld b h l → HasFewBitsRaised n h l
    → ((m : ℤ) (i j : ℕ) → exponent_in v ≡ num (whole_fraction m) → IsFactorHeld (base_in v) i j → HasFewBitsRaised m i j → IfErr r (OfOverflow (λ o. ⊥)))
    → (is_whole_num (exponent_in v) ≡ false → is_half_num (exponent_in v) ≡ false → IsOk r) → IfErr r (OfOverflow (λ o. ⊥))
power_fits b e t v n h l r m w lifted q f few bits others =
    by_power (λ (x y : Tree). IsRewritten x e y → IsLifted y v → IsFactorHeld x h l → IfErr r (OfOverflow (λ o. ⊥))) b e t m w
    (λ a z c k w same f.
    let is : rewritten_whole (root a) (num (whole_fraction n)) ≡ Some (power a (num (whole_fraction z))) = ap (rewritten_whole (root a)) (sym q) ∙ sym (as_whole (root a) e (whole_no_half e w.whole)) ∙ w.is in
    let to : v ≡ power a (num (whole_fraction (half n))) = same ∙ half_of a _ (whole_fraction n) is ∙ ap (λ (y : ℤ). power a (num (whole_fraction (half y)))) (whole_numerator n) in
    let x = half_bits n h l in
    bits (half n) h l (ap exponent_in to) (subst (λ (y : Tree). IsFactorHeld y h l) (sym (ap base_in to)) (root_argument a k f)) (omega (arith, x.0, x.1, few)))
    (λ c g x w k a.
    let counts = k.product.counts g n (ap (λ (y : Tree). more g (more y none)) q) (factor_counted c g a) in
    part_fits c k.exponent r (raised_high n h l) (raised_low n h l) (power_raised c g k.exponent n counts a) few
    (λ z x y u a few. bits z x y (ap exponent_in k.is ∙ u) (subst (λ (d : Tree). IsFactorHeld d x y) (sym (ap base_in k.is)) a) few)
    (λ u y. others (ap (λ (y : Tree). is_whole_num (exponent_in y)) k.is ∙ u) (ap (λ (y : Tree). is_half_num (exponent_in y)) k.is ∙ y))) w lifted f

-- ---- exponents

inside : (c f e t : Tree) → IsRewritten (power c f) e t → goes_inside e ≡ true
inside c f e t w = chosen _ _ t (λ u. goes_inside e ≡ true) (sym (as_whole (power c f) e (whole_no_half e w.whole)) ∙ w.is) (λ k. (and_parts _ _ k).0)

not_nothing : (n : ℤ) → is_zero_or_one (num (whole_fraction n)) ≡ false → 1 ≤ nat_abs n
not_nothing n h = grind (arith, clash, whole_numerator)

whole_held : (n : ℤ) → nat_abs n ≤ 62 → IsFactorHeld (num (whole_fraction n)) 7 0
whole_held n h = grind (arith, whole_numerator, tree_factor, parts_reduced, exponent_is_held, whole_is, multiple_counts)

few_both : (m u h : ℕ) → 1 ≤ m → 1 ≤ u → u ≤ h → m * h ≤ 62 → (m ≤ 62) × (u ≤ 62)
few_both m u h k a b c = grind (arith, mul-le)

two_exponents : (c f e t : Tree) (n : ℤ) (h l : ℕ) → is_reduced (power c f) ≡ true → IsRewritten (power c f) e t → e ≡ num (whole_fraction n) → IsFactorHeld (power c f) h l
    → HasFewBitsRaised n h l → AreFactorsHeld (more f (more e none)) 14 0
two_exponents c f e t n h l r w q a few =
    let k : is_counted f ≡ true = factor_counted c f a in
    let d : is_undef f ≡ false = counted_defined f k in
    let parts = reduced_parts f (exponent_reduced c f r) d in
    let some = some_counts f parts k (no_zero_exponent c f (reduced_parts (power c f) r refl).0) in
    let most = exponents_within {t = power c f} {ts = none} (factor_power c f a) in
    let nonzero = not_nothing n (ap is_zero_or_one (sym q) ∙ inside_other e (inside c f e t w)) in
    let (x, y) = few_both (nat_abs n) ((counts_of f).up + (counts_of f).down) h nonzero some most (few_magnitude n h l few) in
    factor_held 7 0 7 0 (tree_factor f (exponent_reduced c f r) d (exponent_is_held f parts k y))
    (factor_held 7 0 0 0 (subst (λ (z : Tree). IsFactorHeld z 7 0) (sym q) (whole_held n x)) none_held (omega arith) (omega arith)) (omega arith) (omega arith)

pub exponent_ready : (b e t x : Tree) (n : ℤ) (h l : ℕ) → is_mult t ≡ false → is_mult x ≡ true → x ≡ exponent_in t → IsRewritten b e t → e ≡ num (whole_fraction n) → IsFactorHeld b h l
    → HasFewBitsRaised n h l → AreFactorsHeld (children_of x) 14 0
exponent_ready b e t x n h l m k is w q f few =
    by_power (λ (y u : Tree). x ≡ exponent_in u → IsRewritten y e u → IsFactorHeld y h l → AreFactorsHeld (children_of x) 14 0) b e t m w (λ a z r u is w f. clash (sym k ∙ ap is_mult is))
    (λ c g r is w f. subst (λ (y : Tree). AreFactorsHeld (children_of y) 14 0) (sym is) (two_exponents c g e (power c (mult (more g (more e none)))) n h l r w q f few)) is w f

-- ---- joints

-- the exponents of the two, and the base to their sum
module _ (at : ℕ) (ts us : Trees) (k : IsJoinedFrom at ts us) (x : Tree) (is : x ≡ nth at us) where
  words : x ≡ joint (nth at ts) (nth (suc at) ts)
  words = is ∙ (joining at ts us k).is

  pub joint_exponents : (h l : ℕ) → AreFactorsHeld ts h l → AreFewBits h l → IsSumHeld (addends_of_each (children_of (exponent_in x))) 8 0
  joint_exponents h l a few = grind (arith, reduced_nth, exponent_is_reduced, pair_exponents_held, words)

  pub joint_fits : {A : Type 0} (v : Tree) (h l : ℕ) (r : Result A NumberFault) → IsSummed (base_in x) (children_of (exponent_in x)) v → AreFactorsHeld ts h l → AreFewBits h l
      → ((m : ℤ) (i j : ℕ) → exponent_in v ≡ num (whole_fraction m) → IsFactorHeld (base_in v) i j → HasFewBitsRaised m i j → IfErr r (OfOverflow (λ o. ⊥)))
      → (is_whole_num (exponent_in v) ≡ false → is_half_num (exponent_in v) ≡ false → IsOk r) → IfErr r (OfOverflow (λ o. ⊥))
  joint_fits v h l r s a few bits others =
      let t : IsSummed (base_of (nth at ts)) (more (exponent_of (nth at ts)) (more (exponent_of (nth (suc at) ts)) none)) v = subst (λ (y : Tree). IsSummed (base_in y) (children_of (exponent_in y)) v) words s in
      let (p, q, i, j, held) = pair_power_held at ts us k.pair k.reduced k.is t.exponent t.bounds.counts h l a in
      part_fits (base_of (nth at ts)) t.exponent r p q held (omega (arith, i, j, few))
      (λ m c d e f g. bits m c d (ap exponent_in t.is ∙ e) (subst (λ (y : Tree). IsFactorHeld y c d) (sym (ap base_in t.is)) f) g)
      (λ e f. others (ap (λ (y : Tree). is_whole_num (exponent_in y)) t.is ∙ e) (ap (λ (y : Tree). is_half_num (exponent_in y)) t.is ∙ f))
