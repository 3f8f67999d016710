-- Powers whose exponents are surds, whole numbers or halves of odd ones: exponents are added, and multiplied by whole numbers.
use Rattle.calc_algebra.proofs.Shared.{◌≡◌, inl, inr, Bool, true, false, ℤ, pos, ◌+ℤ◌, ◌*ℤ◌, ◌++◌, refl, sym, ap, ◌∙◌, arith, ints, Fraction, lowest, plus, plus_lowest, times, times_lowest}
use Rattle.calc_algebra.proofs.{Shared.{whole_fraction, int_is_even, IsWholePower, IsPower, IsRoot, Same, Surd, surd_of, surd_times}, HalfLaws.{half_of, half_of_is, half_parts, even_split}}
use Rattle.calc_algebra.proofs.{HalfLaws.{half_whole, whole_plus_half, half_plus_half, half_times_whole}, MeaningLaws.{Same-sym, one_root_of}, PowerLaws.{IsWholePower-Same, whole_power_add}}
use Rattle.calc_algebra.proofs.{PowerLaws.{whole_power_mul, root_squared, even_power_of_root}, SquareClassLaws.{Same-trans}, SurdLaws.{Agree-refl, Agree-Same, surd_times_comm}}
use Rattle.calc_algebra.proofs.TermLaws.{joined_radicand, Same-append, Same-append_comm, Same-refl, Same-eq, Same-surd_times}

pub whole_plus : (m n : ℤ) → plus (whole_fraction m) (whole_fraction n) ≡ whole_fraction (m +ℤ n)
whole_plus m n = grind (arith, plus_lowest, ints)

pub whole_times : (m n : ℤ) → times (whole_fraction m) (whole_fraction n) ≡ whole_fraction (m *ℤ n)
whole_times m n = times_lowest m n 1 1 (omega arith) (omega arith)

-- the same base, exponent and value
pub IsPower-Same : {w w' x x' v v' : Surd} → Same w w' → Same x x' → Same v v' → IsPower w x v → IsPower w' x' v'
IsPower-Same a b c (inl (n, s, h)) = inl (n, Same-trans (Same-sym b) s, IsWholePower-Same n a c h)
IsPower-Same a b c (inr (h, d, s, u, (q, i, k), p)) = inr (h, d, Same-trans (Same-sym b) s, u, (q, Same-trans (Same-sym a) i, k), IsWholePower-Same h.num (Same-refl u) c p)

-- a power of the root of w is a power of w, with half the exponent
root_power : (n : ℤ) (w u v : Surd) → IsRoot w u → IsWholePower n u v → IsPower w (surd_of (lowest n 2)) v
root_power n w u v r h = by (int_is_even n) refl
  where
    by : (b : Bool) → int_is_even n ≡ b → IsPower w (surd_of (lowest n 2)) v
    by true e = let (k, f) = even_split n e in inl (k, Same-eq (ap surd_of (half_whole n k f)), even_power_of_root n k w u v f r h)
    by false e = inr (half_of n e, refl, Same-eq (ap surd_of (sym (half_of_is n e))), u, r, h)

-- and back: w is the square of its root
power_of_root : (n : ℤ) (w u v : Surd) → IsRoot w u → IsWholePower n w v → IsWholePower (pos 2 *ℤ n) u v
power_of_root n w u v r h = whole_power_mul (pos 2) n u w v (Same-sym (root_squared w u r)) h

joined : {x y : Surd} (p q s : Fraction) → Same x (surd_of p) → Same y (surd_of q) → plus p q ≡ s → Same (x ++ y) (surd_of s)
joined p q s h k e = Same-trans (Same-append h k) (Same-trans (joined_radicand p q 1) (Same-eq (ap surd_of e)))

whole_and_half : (m : ℤ) (q : Fraction) (w x y u v r : Surd) → q.den ≡ 2 → Same x (surd_of (whole_fraction m)) → Same y (surd_of q) → IsRoot w r → IsWholePower m w u → IsWholePower q.num r v
    → IsPower w (x ++ y) (surd_times u v)
whole_and_half m q w x y u v r d s t g h k =
    let n : ℤ = pos 2 *ℤ m +ℤ q.num in
    IsPower-Same (Same-refl w) (Same-sym (joined (whole_fraction m) q (lowest n 2) s t (ap (plus (whole_fraction m)) (half_parts q d) ∙ whole_plus_half m q.num))) (Same-refl (surd_times u v))
    (root_power n w r (surd_times u v) g (whole_power_add (pos 2 *ℤ m) q.num r u v (power_of_root m w r u g h) k))

two_halves : (p q : Fraction) (w x y u v r : Surd) → p.den ≡ 2 → q.den ≡ 2 → Same x (surd_of p) → Same y (surd_of q) → IsRoot w r → IsWholePower p.num r u → IsWholePower q.num r v
    → IsPower w (x ++ y) (surd_times u v)
two_halves p q w x y u v r d e s t g h k =
    let n : ℤ = p.num +ℤ q.num in
    IsPower-Same (Same-refl w) (Same-sym (joined p q (lowest n 2) s t ((λ i. plus (half_parts p d i) (half_parts q e i)) ∙ half_plus_half p.num q.num))) (Same-refl (surd_times u v))
    (root_power n w r (surd_times u v) g (whole_power_add p.num q.num r u v h k))

-- exponents are added
pub power_add : (w x y u v : Surd) → IsPower w x u → IsPower w y v → IsPower w (x ++ y) (surd_times u v)
power_add w x y u v (inl (m, s, h)) (inl (n, t, k)) = inl (m +ℤ n, joined (whole_fraction m) (whole_fraction n) (whole_fraction (m +ℤ n)) s t (whole_plus m n), whole_power_add m n w u v h k)
power_add w x y u v (inl (m, s, h)) (inr (q, d, t, r, g, k)) = whole_and_half m q w x y u v r d s t g h k
power_add w x y u v (inr (q, d, t, r, g, k)) (inl (m, s, h)) =
    IsPower-Same (Same-refl w) (Same-append_comm y x) (Agree-Same (surd_times_comm v u)) (whole_and_half m q w y x v u r d s t g h k)
power_add w x y u v (inr (p, d, s, r, g, h)) (inr (q, e, t, r', g', k)) =
    two_halves p q w x y u v r d e s t g h (IsWholePower-Same q.num (Agree-Same (one_root_of w w r' r (Agree-refl w) g' g)) (Same-refl v) k)

-- an exponent and a whole one are multiplied
pub power_mul : (n : ℤ) (w x u v : Surd) → IsPower w x u → IsWholePower n u v → IsPower w (surd_times x (surd_of (whole_fraction n))) v
power_mul n w x u v (inl (m, s, h)) k = inl (m *ℤ n, Same-trans (Same-surd_times s (Same-refl (surd_of (whole_fraction n)))) (Same-eq (ap surd_of (whole_times m n))), whole_power_mul m n w u v h k)
power_mul n w x u v (inr (q, d, s, r, g, h)) k =
    IsPower-Same (Same-refl w)
    (Same-sym (Same-trans (Same-surd_times s (Same-refl (surd_of (whole_fraction n)))) (Same-eq (ap surd_of (ap (λ z. times z (whole_fraction n)) (half_parts q d) ∙ half_times_whole q.num n)))))
    (Same-refl v) (root_power (q.num *ℤ n) w r v g (whole_power_mul q.num n r u v h k))
