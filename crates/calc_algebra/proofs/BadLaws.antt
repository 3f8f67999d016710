-- A Bad tree has no value, and an Easy tree has one or is Bad.
use Rattle.calc_algebra.proofs.{InverseLaws.{zero_is_not_one}, Shared.{Assignment, Means, [], ◌≡◌, ℕ, ◌⊎◌, inl, inr, ℤ, pos, true, sym, ◌∙◌, arith, ◌≤ℤ◌, int_is_negative, Fraction, one_fraction}}
use Rattle.calc_algebra.proofs.Shared.{whole_fraction, Tree, undef, add, mult, power, root, neg, sub, div, Trees, none, more, IsPart, itself, in_add, in_mult, in_base, in_exponent}
use Rattle.calc_algebra.proofs.Shared.{in_root, in_neg, in_left, in_right, in_dividend, in_divisor, IsPartOf, first, later, Surd, surd_of, surd_one, Same, Inverts, MeansSum, MeansProduct}
use Rattle.calc_algebra.proofs.{Shared.{IsWholePower, IsPower, IsRootOf, HasValue, IsNegative, IsHalf, GivesZeroNoPower, IsBadNode, IsBad, IsEasy}, SurdLaws.{Agree, Agree-Same}}
use Rattle.calc_algebra.proofs.{SurdLaws.{Agree-sym, Agree-trans, Agree-eq, Agree-surd_times_right, surd_times-nil}, SquareClassLaws.{Same-Agree}, PowerLaws.{root_zero}, TermLaws.{Same-refl}}
use Rattle.calc_algebra.proofs.MeaningLaws.{one_meaning, one_rational, whole_is_no_half, whole_one, class_coefficient-surd_of}

module _ (f : Assignment) where
  mutual
    -- where a tree has a meaning, each part has
    pub part_means : (p t : Tree) → IsPart p t → (v : Surd) → Means t f v → (w : Surd) × Means p f w
    part_means p t itself v m = (v, m)
    part_means p (add ts) (in_add h) v (w, m, e) = part_of_sum p ts h w m
    part_means p (mult ts) (in_mult h) v (w, m, e) = part_of_product p ts h w m
    part_means p (power b e) (in_base h) v (w, x, m, n, i) = part_means p b h w m
    part_means p (power b e) (in_exponent h) v (w, x, m, n, i) = part_means p e h x n
    part_means p (root a) (in_root h) v (x, m, i) = part_means p a h x m
    part_means p (neg a) (in_neg h) v (w, m, e) = part_means p a h w m
    part_means p (sub a b) (in_left h) v (w, u, m, n, e) = part_means p a h w m
    part_means p (sub a b) (in_right h) v (w, u, m, n, e) = part_means p b h u n
    part_means p (div a b) (in_dividend h) v (w, u, y, m, n, i, e) = part_means p a h w m
    part_means p (div a b) (in_divisor h) v (w, u, y, m, n, i, e) = part_means p b h u n

    part_of_sum : (p : Tree) (ts : Trees) → IsPartOf p ts → (v : Surd) → MeansSum ts f v → (w : Surd) × Means p f w
    part_of_sum p none h v m = elim h [ ]
    part_of_sum p (more t ts) (first h) v (a, b, m, n, e) = part_means p t h a m
    part_of_sum p (more t ts) (later h) v (a, b, m, n, e) = part_of_sum p ts h b n

    part_of_product : (p : Tree) (ts : Trees) → IsPartOf p ts → (v : Surd) → MeansProduct ts f v → (w : Surd) × Means p f w
    part_of_product p none h v m = elim h [ ]
    part_of_product p (more t ts) (first h) v (a, b, m, n, e) = part_means p t h a m
    part_of_product p (more t ts) (later h) v (a, b, m, n, e) = part_of_product p ts h b n

one_value : (t : Tree) (v w : Surd) → HasValue t v → HasValue t w → Agree v w
one_value t v w m n = one_meaning [] tt t v w m n

-- zero has no inverse
no_inverse : (y w : Surd) → Agree w [] → Inverts y w → ⊥
no_inverse y w z i =
    let h : Agree [] surd_one = Agree-trans (Agree-sym (Agree-trans (Agree-surd_times_right y z) (Agree-eq (surd_times-nil y)))) (Same-Agree i) in
    zero_is_not_one (h.at 1 ∙ class_coefficient-surd_of one_fraction)

no_power : (k : ℤ) (w v : Surd) → Agree w [] → k ≤ℤ pos 0 → IsWholePower k w v → ⊥
no_power k w v z l h = grind (arith, Agree-Same, no_inverse)

pub no_root : (z : ℤ) (d : ℕ) (v : Surd) → int_is_negative z ≡ true → IsRootOf z d v → ⊥
no_root z d v h i = grind arith

no_negative_power : (k : ℤ) (w v : Surd) → Agree w [] → int_is_negative k ≡ true → IsWholePower k w v → ⊥
no_negative_power k w v z l h = grind (arith, no_inverse)

-- the meaning of an exponent
module _ (e : Tree) (x : Surd) (n : HasValue e x) where
  rational_is : (p q : Fraction) → HasValue e (surd_of q) → Same x (surd_of p) → p ≡ q
  rational_is p q g s = one_rational p q x (surd_of q) (one_value e x (surd_of q) n g) s (Same-refl (surd_of q))

  zero_to_whole : (k : ℤ) (w v : Surd) → Agree w [] → k ≤ℤ pos 0 → HasValue e (surd_of (whole_fraction k)) → IsPower w x v → ⊥
  zero_to_whole k w v z l g (inl (k', s, i)) =
      let same : k' ≡ k = whole_one k' k (rational_is (whole_fraction k') (whole_fraction k) g s) in
      no_power k w v z l (rw same at i)
  zero_to_whole k w v z l g (inr (h, d, s, u, r, i)) = whole_is_no_half k h d (sym (rational_is h (whole_fraction k) g s))

  zero_to_half : (h : Fraction) (w v : Surd) → Agree w [] → int_is_negative h.num ≡ true → IsHalf e h → IsPower w x v → ⊥
  zero_to_half h w v z l (d, g) (inl (k, s, i)) = whole_is_no_half k h d (rational_is (whole_fraction k) h g s)
  zero_to_half h w v z l (d, g) (inr (h', d', s, u, r, i)) =
      let same : h' ≡ h = rational_is h' h g s in
      no_negative_power h.num u v (Same-Agree (root_zero w u r (Agree-Same z))) l (rw same at i)

  zero_to : (w v : Surd) → Agree w [] → GivesZeroNoPower e → IsPower w x v → ⊥
  zero_to w v z (inl (k, l, g)) i = zero_to_whole k w v z l g i
  zero_to w v z (inr (h, l, g)) i = zero_to_half h w v z l g i

  negative_to_half : (b : Tree) (h : Fraction) (w v : Surd) → HasValue b w → IsNegative b → IsHalf e h → IsPower w x v → ⊥
  negative_to_half b h w v m q (d, g) (inl (k, s, i)) = whole_is_no_half k h d (rational_is (whole_fraction k) h g s)
  negative_to_half b h w v m (q, l, g') (d, g) (inr (h', d', s, u, (p, t, o), i)) =
      let same : p ≡ q = one_rational p q w (surd_of q) (one_value b w (surd_of q) m g') t (Same-refl (surd_of q)) in
      no_root q.num q.den u l (rw same at o)

bad_power : (b e : Tree) (w x v : Surd) → HasValue b w → HasValue e x → IsPower w x v → IsBadNode (power b e) → ⊥
bad_power b e w x v m n i (inl (z, g)) = zero_to e x n w v (one_value b w [] m z) g i
bad_power b e w x v m n i (inr (q, h, g)) = negative_to_half e x n b h w v m q g i

bad_node : (p : Tree) → IsBadNode p → (v : Surd) → HasValue p v → ⊥
bad_node undef h v m = m
bad_node (div a b) z v (w, u, y, m, n, i, e) = no_inverse y u (one_value b u [] n z) i
bad_node (power b e) h v (w, x, m, n, i) = bad_power b e w x v m n i h
bad_node (root a) (q, g, n) v (x, m, (q', s, i)) =
    let same : q' ≡ q = one_rational q' q x (surd_of q) (one_value a x (surd_of q) m n) s (Same-refl (surd_of q)) in
    no_root q.num q.den v g (rw same at i)
bad_node _ h v m = h

pub bad_has_no_value : (t : Tree) (v : Surd) → IsBad t → HasValue t v → ⊥
bad_has_no_value t v (p, h, b) m = let (w, n) = part_means [] p t h v m in bad_node p b w n

pub easy_decided : (t : Tree) → IsEasy t → IsBad t ⊎ ((v : Surd) × HasValue t v)
easy_decided t e = e.decided t itself
