-- Parts to whole powers.
use Rattle.std.proofs.Common.{◌≡◌, ℕ, suc, ◌+◌, ◌-◌, ◌*◌, ◌≤◌, List, [], ◌∷◌, refl, sym, subst, ℤ, pos, negsuc, arith}
use Rattle.tree_bits.proofs.Shared.{mul-le, Surd, IsNoLargerThanPower, IsHeld, Tree, Trees, none, more, IsSumHeld, counts_of, Addend, addend, exponent_in, AreWeighted, none_weighted, more_weighted}
use Rattle.tree_bits.proofs.Shared.{IsPartHeld, no_factor_held, factor_held, IsBaseHeld, IsPartPower, raised_high, raised_low, IsHeldAsPower, IsAddendPower, IsZeroAlone, Weighted, weighted, AreHeld}
use Rattle.tree_bits.proofs.{Numbers.{nothing_held, held_wider}, Sums.{wider_held}, Weighted.{put_before, split_off}}

-- x and y count m times u and v at most
raised_bits : (m u v x y p z k h : ℕ) → x ≤ m * u → y ≤ m * v → (u * p + v * z) + k ≤ h → (x * p + y * z) + m * k ≤ m * h
raised_bits m u v x y p z k h a b c =
    let d : x * p ≤ (m * u) * p = mul-le x p (m * u) p a (omega arith) in
    let e : y * z ≤ (m * v) * z = mul-le y z (m * v) z b (omega arith) in
    let f : m * ((u * p + v * z) + k) ≤ m * h = mul-le m ((u * p + v * z) + k) m h (omega arith) c in
    omega arith

turned_high : (m u v x y p q k n h l : ℕ) → x ≤ m * v → y ≤ m * u → (u * p + v * (p + 2 * q)) + k ≤ h → (u * q + v * (2 * p + 2 * q)) + n ≤ l
    → (x * p + y * (p + 2 * q)) + m * (k + 2 * n) ≤ m * (h + 2 * l)
turned_high m u v x y p q k n h l a b c d =
    let e : x * p ≤ (m * v) * p = mul-le x p (m * v) p a (omega arith) in
    let f : y * (p + 2 * q) ≤ (m * u) * (p + 2 * q) = mul-le y (p + 2 * q) (m * u) (p + 2 * q) b (omega arith) in
    let g : m * ((u * p + v * (p + 2 * q)) + k) ≤ m * h = mul-le m _ m h (omega arith) c in
    let i : m * ((u * q + v * (2 * p + 2 * q)) + n) ≤ m * l = mul-le m _ m l (omega arith) d in
    omega arith

turned_low : (m u v x y p q k n h l : ℕ) → x ≤ m * v → y ≤ m * u → (u * p + v * (p + 2 * q)) + k ≤ h → (u * q + v * (2 * p + 2 * q)) + n ≤ l
    → (x * q + y * (2 * p + 2 * q)) + m * (2 * k + 2 * n) ≤ m * (2 * h + 2 * l)
turned_low m u v x y p q k n h l a b c d =
    let e : x * q ≤ (m * v) * q = mul-le x q (m * v) q a (omega arith) in
    let f : y * (2 * p + 2 * q) ≤ (m * u) * (2 * p + 2 * q) = mul-le y (2 * p + 2 * q) (m * u) (2 * p + 2 * q) b (omega arith) in
    let g : m * ((u * p + v * (p + 2 * q)) + k) ≤ m * h = mul-le m _ m h (omega arith) c in
    let i : m * ((u * q + v * (2 * p + 2 * q)) + n) ≤ m * l = mul-le m _ m l (omega arith) d in
    omega arith

pub part_raised : (n : ℕ) (ts us : Trees) (h l : ℕ) → IsPartPower (pos n) ts us → IsPartHeld ts h l → IsPartHeld us (n * h) (n * l)
part_raised n ts none h l e a = no_factor_held
part_raised n none (more u us) h l e a = elim e [ ]
part_raised n (more t ts) (more u us) h l (e, es) (factor_held p q k j c b r x y) =
    factor_held p q (n * k) (n * j) e.counted (subst (λ (s : Tree). IsBaseHeld s p q) (sym e.base) b) (part_raised n ts us k j es r)
    (raised_bits n (counts_of (exponent_in t)).up (counts_of (exponent_in t)).down _ _ p (p + 2 * q) k h e.within.up e.within.down x)
    (raised_bits n (counts_of (exponent_in t)).up (counts_of (exponent_in t)).down _ _ q (2 * p + 2 * q) j l e.within.up e.within.down y)

pub part_turned : (n : ℕ) (ts us : Trees) (h l : ℕ) → IsPartPower (negsuc n) ts us → IsPartHeld ts h l → IsPartHeld us (suc n * (h + 2 * l)) (suc n * (2 * h + 2 * l))
part_turned n ts none h l e a = no_factor_held
part_turned n none (more u us) h l e a = elim e [ ]
part_turned n (more t ts) (more u us) h l (e, es) (factor_held p q k j c b r x y) =
    factor_held p q (suc n * (k + 2 * j)) (suc n * (2 * k + 2 * j)) e.counted (subst (λ (s : Tree). IsBaseHeld s p q) (sym e.base) b) (part_turned n ts us k j es r)
    (turned_high (suc n) (counts_of (exponent_in t)).up (counts_of (exponent_in t)).down _ _ p q k j h l e.within.up e.within.down x y)
    (turned_low (suc n) (counts_of (exponent_in t)).up (counts_of (exponent_in t)).down _ _ p q k j h l e.within.up e.within.down x y)

part_power : (n : ℤ) (ts us : Trees) (h l : ℕ) → IsPartPower n ts us → IsPartHeld ts h l → IsPartHeld us (raised_high n h l) (raised_low n h l)
part_power n ts us h l e a = grind (arith, part_raised, part_turned)

-- ---- coefficients

pub held_as_power : (v w : Surd) (n : ℕ) → IsNoLargerThanPower v n w → IsHeldAsPower (pos n) v w
held_as_power v w n i = i.held

pub held_as_inverse : (v w : Surd) → ((h l : ℕ) → IsHeld v h l → IsHeld w (h + 2 * l) (2 * h + 2 * l)) → IsHeldAsPower (negsuc 0) v w
held_as_inverse v w f h l a = held_wider w (h + 2 * l) (raised_high (negsuc 0) h l) (2 * h + 2 * l) (raised_low (negsuc 0) h l) (omega arith) (omega arith) (f h l a)

pub inverse_raised : (v w u : Surd) (n : ℕ) → IsHeldAsPower (negsuc 0) v w → IsHeldAsPower (pos (suc n)) w u → IsHeldAsPower (negsuc n) v u
inverse_raised v w u n f g h l a = grind arith

-- ---- coefficients with their parts

times_sum : (n a b h : ℕ) → a + b ≤ h → n * a + n * b ≤ n * h
times_sum n a b h x = let y : n * (a + b) ≤ n * h = mul-le n (a + b) n h (omega arith) x in omega arith

split_high : (n : ℤ) (h l p q : ℕ) → p ≤ h → q ≤ l → raised_high n (h - p) (l - q) + raised_high n p q ≤ raised_high n h l
split_high n h l p q x y = grind (arith, times_sum)

split_low : (n : ℤ) (h l p q : ℕ) → p ≤ h → q ≤ l → raised_low n (h - p) (l - q) + raised_low n p q ≤ raised_low n h l
split_low n h l p q x y = grind (arith, times_sum)

none_left : (n : ℤ) (us : Trees) → IsPartPower n none us → us ≡ none
none_left n none e = refl
none_left n (more u us) e = elim e [ ]

raised : (n : ℤ) (c d : Surd) (ts us : Trees) (h l : ℕ) {ws : List Weighted} → IsHeldAsPower n c d → IsPartPower n ts us → (c ≡ [] → ts ≡ none)
    → AreWeighted (addend c ts ∷ []) ws → AreHeld ws h l → IsSumHeld (addend d us ∷ []) (raised_high n h l) (raised_low n h l)
raised n [] d ts us h l e f z a k = record {
  terms = weighted d 0 0 ∷ [];
  weighted = more_weighted 0 0 (subst (λ (x : Trees). IsPartHeld x 0 0) (sym (none_left n us (subst (λ (x : Trees). IsPartPower n x us) (z refl) f))) no_factor_held) none_weighted;
  held = wider_held (omega arith) (omega arith) (put_before d (raised_high n h l) (raised_low n h l) 0 0 (e h l (nothing_held h l)));
}
raised n (t ∷ v) d ts us h l e f z (more_weighted p q a none_weighted) k =
    let s : (p ≤ h) × (q ≤ l) × IsHeld (t ∷ v) (h - p) (l - q) = split_off t v h l p q k in
    record {
      terms = weighted d (raised_high n p q) (raised_low n p q) ∷ [];
      weighted = more_weighted (raised_high n p q) (raised_low n p q) (part_power n ts us p q f a) none_weighted;
      held =
          wider_held (split_high n h l p q s.0 s.1) (split_low n h l p q s.0 s.1)
          (put_before d (raised_high n (h - p) (l - q)) (raised_low n (h - p) (l - q)) (raised_high n p q) (raised_low n p q) (e (h - p) (l - q) s.2));
    }

pub addend_raised : (n : ℤ) (x y : Addend) (h l : ℕ) → IsAddendPower n x y → IsZeroAlone x → IsSumHeld (x ∷ []) h l → IsSumHeld (y ∷ []) (raised_high n h l) (raised_low n h l)
addend_raised n x y h l e z a = raised n x.coefficient y.coefficient x.factors y.factors h l e.coefficient e.factors z a.weighted a.held
