-- Roots, and powers with half of an odd number as the exponent, are held by the bits of their bases.
use Rattle.node_bounds.proofs.Shared.{◌≡◌, ℕ, zero, suc, ◌≤◌, ℤ, Bool, true, false, ◌&&◌, ◌==◌, Err, refl, sym, ap, ◌∙◌, subst, arith, inl, inr, and_parts, eqb-true, whole_fraction, int_is_negative}
use Rattle.node_bounds.proofs.Shared.{Tree, num, undef, root, is_num, is_undef, is_number, value, is_reduced, is_half_num, number_words, IsHeld, reduced_parts, AreFewBits, IsHeldAsRootPower}
use Rattle.node_bounds.proofs.Shared.{numerator, IsHeldAsPowerOf, has_number_power, IsPowerAnswer, IsPowerMisfit, whole_no_half, whole_is, IsFactorHeld, value_held, number_as_factor, IfRational}
use Rattle.node_bounds.proofs.Shared.{IsRootAnswer, has_no_root, HasWideRoot, IsOverflow, Overflow, OfOverflow, NumberFault, IsNoLargerThanRoot, factor_is_held, root_is_held, cases_Bool}
use Rattle.node_bounds.proofs.{Shared.{rational_without}, Clashes.{clash, rational_number, undef_has_none}, HeldFactors.{tree_high, factor_tree}}
use Rattle.calc_bits.specs.Bounds as few

-- ---- roots

root_no_number : (b : Tree) → is_num b ≡ false → is_number (root b) ≡ false
unfolding is_number
root_no_number b h = grind arith

some_high : (b : Tree) {h l : ℕ} → is_reduced b ≡ true → is_undef b ≡ false → is_num b ≡ false → (h ≡ 0 → l ≡ 0) → IsFactorHeld b h l → 1 ≤ h
some_high b {h = suc h} r d n z a = omega arith
some_high b {h = zero} {l = l} r d n z a = elim (cases_Bool (is_number b)) [
  | inl m ↦ clash (sym (rational_without b (number_words b m) (subst (IsHeld (value b) 0) (z refl) (value_held b 0 l m a))) ∙ n)
  | inr m ↦ tree_high b (reduced_parts b r d) m (factor_tree b a)
]

has_root_defined : (b : Tree) → has_no_root b ≡ false → is_undef b ≡ false
has_root_defined b h = grind arith

pub root_answer_held : (b r : Tree) {h l : ℕ} → is_reduced b ≡ true → IsRootAnswer b r → IfRational b (λ q. int_is_negative q.num ≡ false → IsNoLargerThanRoot q (value r)) → (h ≡ 0 → l ≡ 0)
    → is_undef r ≡ false → IsFactorHeld b h l → IsFactorHeld r h l
root_answer_held b r {h} {l} x k m z d a = by (is_num b) refl
  where
    none : has_no_root b ≡ false
    none = sym k.undefined ∙ d

    rational : (b : Tree) → is_num b ≡ true → has_no_root b ≡ false → IfRational b (λ q. int_is_negative q.num ≡ false → IsNoLargerThanRoot q (value r)) → IsFactorHeld b h l
        → is_number r ≡ true → IsFactorHeld r h l
    rational (num q) n e m a i = number_as_factor r h l i ((m e).held h l (value_held (num q) h l (rational_number q) a))
    rational b n e m a i = cc

    by : (y : Bool) → is_num b ≡ y → IsFactorHeld r h l
    by true n = rational b n none m a (k.number n none)
    by false n =
        let o = some_high b x (has_root_defined b none) n z a in
        subst (λ (t : Tree). IsFactorHeld t h l) (sym (k.kept n none)) (factor_is_held (root b) h l refl o (root_is_held b h l (root_no_number b n) o (factor_tree b a)))

-- ---- their powers

pub half_held : (b e r u : Tree) → is_reduced b ≡ true → IsRootAnswer b r → IfRational b (λ q. int_is_negative q.num ≡ false → IsNoLargerThanRoot q (value r))
    → IsPowerAnswer r (num (whole_fraction (numerator e))) u → IsHeldAsPowerOf (numerator e) r u
    → IsHeldAsRootPower (numerator e) b u
half_held b e r u x k m a p d h l z f = p d h l (root_answer_held b r x k m z (defined (is_undef r) refl) f)
  where
    defined : (y : Bool) → is_undef r ≡ y → is_undef r ≡ false
    defined false i = i
    defined true i = clash (sym (a.undefined ∙ undef_has_none r (num (whole_fraction (numerator e))) i) ∙ d)

-- ---- faults

pub half_no_whole : {A : Type 0} (e : Tree) (n : ℤ) → is_half_num e ≡ true → e ≡ num (whole_fraction n) → A
half_no_whole e n h q = clash (sym h ∙ ap is_half_num q ∙ whole_no_half (num (whole_fraction n)) (whole_is n))

no_fault : (f : NumberFault) (P : Overflow → Type 0) → ((o : Overflow) → P o → ⊥) → OfOverflow P f → OfOverflow (λ o. ⊥) f
no_fault f P h k = grind arith

half_no_number : (b e : Tree) → is_half_num e ≡ true → has_number_power b e ≡ true → ⊥
half_no_number b e h k = grind (arith, and_parts, eqb-true)

-- half of an odd number is no whole power of a Number
pub half_fits : (b e : Tree) (f : NumberFault) → is_half_num e ≡ true → OfOverflow (IsPowerMisfit b e) f → OfOverflow (λ o. ⊥) f
half_fits b e f h m = no_fault f (IsPowerMisfit b e) (λ o p. half_no_number b e h p.number) m

number_defined : (b e : Tree) → has_number_power b e ≡ true → is_undef b ≡ false
number_defined undef (num q) n = absurd (number_words undef (and_parts (is_number undef) (q.den == 1) (and_parts (is_number undef && q.den == 1) _ n).0).0)
number_defined undef e n = cc
number_defined b e n = refl

-- Undef has no powers that overflow
pub last_fits : (b e : Tree) (f : NumberFault) → (is_undef b ≡ false → OfOverflow (λ o. ⊥) f) → OfOverflow (IsPowerMisfit b e) f → OfOverflow (λ o. ⊥) f
last_fits b e f fits m = elim (cases_Bool (is_undef b)) [ inl d ↦ no_fault f (IsPowerMisfit b e) (λ o p. clash (sym d ∙ number_defined b e p.number)) m | inr d ↦ fits d ]

-- only the root of a rational overflows
pub root_fits : (a : Tree) (f : NumberFault) {h l : ℕ} → (few.HasFewBits (value a) → OfOverflow (λ o. ⊥) f) → (IsOverflow {A =
    ℕ} (Err f) → HasWideRoot a) → IsFactorHeld a h l → AreFewBits h l → OfOverflow (λ o. ⊥) f
root_fits (num q) f {h} {l} fits wide a few = fits (record { high = h; low = l; held = value_held (num q) h l (rational_number q) a; few = few })
root_fits b f fits wide a few = grind arith
