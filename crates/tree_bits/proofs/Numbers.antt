-- Numbers are held as trees as they are held as surds.
use Rattle.tree_bits.proofs.Shared.{◌≡◌, ℕ, ◌+◌, ◌-◌, ◌*◌, ◌^◌, ◌≤◌, List, [], ◌∷◌, Bool, true, if◌then◌else◌, refl, sym, ap, ◌∙◌, subst, arith, ◌&&◌, nat_le, length, mul-le, pow_pos}
use Rattle.tree_bits.proofs.Shared.{pow-le-pow_right, is_number, is_term, are_terms, rises, terms_of, value, number_terms, other_terms, Surd, mass, IsHeld, Tree, undef, add, Trees, none, more}
use Rattle.tree_bits.proofs.Shared.{counts_of, Addend, addend, addends, exponent_in, IsTreeHeld, sum_held, AreWeighted, none_weighted, more_weighted, IsPartHeld, no_factor_held, factor_held}
use Rattle.tree_bits.proofs.{Shared.{IsBaseHeld, Weighted, weighted, AreHeld}, Weighted.{put_before, split_off}}
use Rattle.calc_terms.proofs.Names.{both as both_true}

-- ---- the one addend of a Number

all_number : (ts : Trees) → are_terms ts ≡ true → number_terms ts ≡ ts
all_number none h = refl
all_number (more t ts) h =
    let p = both_true (is_term t) (are_terms ts) h in
    ap (λ (b : Bool). if b then more t (number_terms ts) else none) p.0 ∙ ap (more t) (all_number ts p.1)

no_other : (ts : Trees) → are_terms ts ≡ true → other_terms ts ≡ none
no_other none h = refl
no_other (more t ts) h =
    let p = both_true (is_term t) (are_terms ts) h in
    ap (λ (b : Bool). if b then other_terms ts else more t ts) p.0 ∙ no_other ts p.1

sum_terms : (ts : Trees) → is_number (add ts) ≡ true → are_terms ts ≡ true
unfolding is_number
sum_terms ts h = (both_true (nat_le 2 (length (terms_of ts))) (are_terms ts) (both_true (nat_le 2 (length (terms_of ts)) && are_terms ts) (rises (terms_of ts)) h).0).1

pub alone : (t : Tree) → is_number t ≡ true → addends t ≡ addend (value t) none ∷ []
alone t h = grind (arith, sum_terms, all_number, no_other)

-- ---- held by more

pub held_wider : (v : Surd) (h k l n : ℕ) → h ≤ k → l ≤ n → IsHeld v h l → IsHeld v k n
held_wider v h k l n x y a = record {
  denominator = a.denominator;
  parts = a.parts;
  low = let p : 2 ^ l ≤ 2 ^ n = pow-le-pow_right {n = 2} (omega arith) y in let q : a.denominator ≤ 2 ^ l = a.low in omega arith;
  scale = a.scale;
  scaled = a.scaled;
  high = let p : 2 ^ h ≤ 2 ^ k = pow-le-pow_right {n = 2} (omega arith) x in let q : a.scale * 2 ^ h ≤ a.scale * 2 ^ k = mul-le a.scale (2 ^ h) a.scale (2 ^ k) (omega arith) p in let r : mass a.scale v ≤ a.scale * 2 ^ h = a.high in omega arith;
}

pub nothing_held : (h l : ℕ) → IsHeld [] h l
nothing_held h l = record {
  denominator = 1;
  parts = record { positive = omega arith; whole = tt };
  low = let p : 1 ≤ 2 ^ l = pow_pos l in omega arith;
  scale = 1;
  scaled = record { positive = omega arith; whole = tt };
  high = omega arith;
}

-- ---- Numbers

pub number_held : (t : Tree) (h l : ℕ) → is_number t ≡ true → IsHeld (value t) h l → IsTreeHeld t h l
number_held t h l n k =
    let a : AreHeld (weighted (value t) 0 0 ∷ []) (h + 0) (l + 0) = put_before (value t) h l 0 0 k in
    let b : AreHeld (weighted (value t) 0 0 ∷ []) h l = subst (λ (x : ℕ). AreHeld (weighted (value t) 0 0 ∷ []) x l) (plain h) (subst (λ (x : ℕ). AreHeld (weighted (value t) 0 0 ∷ []) (h + 0) x) (plain l) a) in
    let w : AreWeighted (addend (value t) none ∷ []) (weighted (value t) 0 0 ∷ []) = more_weighted 0 0 no_factor_held none_weighted in
    sum_held (weighted (value t) 0 0 ∷ []) (subst (λ (x : List Addend). AreWeighted x (weighted (value t) 0 0 ∷ [])) (sym (alone t n)) w) b
  where
    plain : (x : ℕ) → x + 0 ≡ x
    plain x = omega arith

one_held : (c : Surd) (h l p q : ℕ) → AreHeld (weighted c p q ∷ []) h l → IsHeld c h l
one_held [] h l p q k = nothing_held h l
one_held (t ∷ v) h l p q k = held_wider (t ∷ v) (h - p) h (l - q) l (omega arith) (omega arith) (split_off t v h l p q k).2

of_one : {c : Surd} {h l : ℕ} {ws : List Weighted} → AreWeighted (addend c none ∷ []) ws → AreHeld ws h l → IsHeld c h l
of_one {c = c} {h = h} {l = l} (more_weighted p q f none_weighted) k = one_held c h l p q k

pub no_undef : is_number undef ≡ true → ⊥
unfolding is_number
no_undef h = cc

pub held_number : {t : Tree} {h l : ℕ} → is_number t ≡ true → IsTreeHeld t h l → IsHeld (value t) h l
held_number n h = grind (arith, no_undef, of_one, alone)

-- ---- exponents

pub base_positive : {b : Tree} {h l : ℕ} → IsBaseHeld b h l → 1 ≤ h
base_positive h = grind arith

counted_within : (u v p q k h : ℕ) → 1 ≤ p → (u * p + v * (p + 2 * q)) + k ≤ h → u + v ≤ h
counted_within u v p q k h x y = grind arith

pub exponents_within : {t : Tree} {ts : Trees} {h l : ℕ} → IsPartHeld (more t ts) h l → (counts_of (exponent_in t)).up + (counts_of (exponent_in t)).down ≤ h
exponents_within {t = t} {h = h} (factor_held p q k n c b r x y) = counted_within (counts_of (exponent_in t)).up (counts_of (exponent_in t)).down p q k h (base_positive b) x
