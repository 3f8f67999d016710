-- A rational goes into each term of a sum without an overflow, where what the sum becomes has few bits.
use Rattle.like_children.proofs.Shared.{AreProper, terms_proper, value_proper, number_words, term_of, terms_of, split, split_product, HasForm, num_one, term, surd_of, term_times, surd_times}
use Rattle.like_children.proofs.Shared.{held_left, held_right, IsHeld, mass, no_zero, fraction_fits, operation_fits, times, zero_fraction, is_zero_fraction, value_of, monic_sum, taken, monic_parts}
use Rattle.like_children.proofs.Shared.{parts_reduced, parts_defined, coefficient_of, IsMonic, LeadsIn, LeadsTerm, NamesPut, AreTerms, IsTerm, value, NoneIs, Surd, is_number, HasFewBits, Fraction}
use Rattle.like_children.proofs.Shared.{AllParts, AllPartsOf, Tree, Trees, add, append, more, mult, none, num, Overflow, Bool, List, [], ap, arith, false, if◌then◌else◌, inl, inr, refl, subst, sym}
use Rattle.like_children.proofs.Shared.{true, ℕ, ◌+◌, ◌∙◌, ◌∷◌, ◌≡◌, ◌≤◌, ◌⊎◌, true≢false, rational_product_fits, operation_of, ◌≢◌, ◌++◌, map, ◌*◌, ◌^◌, not_from_false, mul-le, pow_pos}
use Rattle.like_children.proofs.Shared.{coefficients_fit, addend_left_out, nothing_held, IsSumHeld, distributed, Addend, addend, addend_of, addends, addends_of, AreWeighted, more_weighted, AreFewBits}
use Rattle.like_children.proofs.{Shared.{Weighted, lows, weighted_mass, AreHeld, Overflows}, Addends.{IsSplit, one_value, split_sum, sum_addends}}
use Rattle.coefficients.specs.Overflows.{Leads}
use Rattle.surd_bits.proofs.Rooted.{as_rational as rational_value}

-- ---- a rational among the coefficients of terms

abbrev IsAmong : Fraction → Surd → Type 0
IsAmong c [] = ⊥
IsAmong c (t ∷ v) = (t.coefficient ≡ c) ⊎ IsAmong c v

-- and of addends
abbrev IsAmongAll : Fraction → List Addend → Type 0
IsAmongAll c [] = ⊥
IsAmongAll c (x ∷ xs) = (IsAmong c x.coefficient × AreProper x.coefficient) ⊎ IsAmongAll c xs

coefficient_fits : (q c : Fraction) (v : Surd) (h l : ℕ) → q ≢ zero_fraction → AreProper v → IsAmong c v → IsHeld (map (term_times (term q 1)) v) h l → AreFewBits h l
    → fraction_fits (times q c) ≡ true
coefficient_fits q c [] h l z p a k b = absurd a
coefficient_fits q c (t ∷ v) h l z p (inl e) k b =
    let first = held_left (term_times (term q 1) t ∷ []) (map (term_times (term q 1)) v) h l k in
    subst (λ (x : Fraction). fraction_fits (times q x) ≡ true) e (coefficients_fit (term q 1) t h l z p.0.not_zero (omega arith) p.0.positive first b)
coefficient_fits q c (t ∷ v) h l z p (inr a) k b = coefficient_fits q c v h l z p.1 a (held_right (term_times (term q 1) t ∷ []) (map (term_times (term q 1)) v) h l k) b

-- what holds addends holds the coefficient of the first
pub first_held : {c : Surd} {ts : Trees} {zs : List Addend} {h l : ℕ} → IsSumHeld (addend c ts ∷ zs) h l → IsHeld c h l
first_held {c = c} {ts = ts} {zs = zs} {h = h} {l = l} k = by k.weighted k.held
  where
    by : {ws : List Weighted} → AreWeighted (addend c ts ∷ zs) ws → AreHeld ws h l → IsHeld c h l
    by (more_weighted {ws = ws} p q f r) a = record {
      denominator = a.denominator;
      parts = a.parts.0;
      low =
          let x : a.denominator * 1 ≤ a.denominator * 2 ^ (q + lows ws) = mul-le a.denominator 1 a.denominator (2 ^ (q + lows ws)) (omega arith) (pow_pos (q + lows ws)) in
          let z : a.denominator * 2 ^ (q + lows ws) ≤ 2 ^ l = a.low in
          omega (arith, x, z);
      scale = a.scale;
      scaled = a.scaled.0;
      high =
          let y : mass a.scale c * 1 ≤ mass a.scale c * 2 ^ p = mul-le (mass a.scale c) 1 (mass a.scale c) (2 ^ p) (omega arith) (pow_pos p) in
          let z : mass a.scale c * 2 ^ p + weighted_mass a.scale ws ≤ a.scale * 2 ^ h = a.high in
          omega (arith, y, z);
    }

addend_fits : (q c : Fraction) (xs zs : List Addend) (h l : ℕ) → q ≢ zero_fraction → IsAmongAll c xs → IsSumHeld (distributed (surd_of q) xs ++ zs) h l → AreFewBits h l
    → fraction_fits (times q c) ≡ true
addend_fits q c [] zs h l z a k b = absurd a
addend_fits q c (x ∷ xs) zs h l z (inl (a, p)) k b = coefficient_fits q c x.coefficient h l z p a (held_left (map (term_times (term q 1)) x.coefficient) [] h l (first_held k)) b
addend_fits q c (x ∷ xs) zs h l z (inr a) k b =
    addend_fits q c xs zs h l z a (addend_left_out (addend (surd_times (surd_of q) x.coefficient) x.factors) (distributed (surd_of q) xs ++ zs) h l k) b

-- ---- what leads a term is among its coefficients

term_leads : (c : Fraction) (t : Tree) → IsTerm t → Leads c t → (term_of t).coefficient ≡ c
term_leads c t h e = grind arith

terms_lead : (c : Fraction) (ts : Trees) → AreTerms ts → LeadsIn Leads c ts → IsAmong c (terms_of ts)
terms_lead c none h e = absurd e
terms_lead c (more t ts) h (inl e) = inl (term_leads c t h.0 e)
terms_lead c (more t ts) h (inr e) = inr (terms_lead c ts h.1 e)

-- the terms of a Number lead as terms of the sum
as_leads : (c : Fraction) (t : Tree) → IsTerm t → LeadsTerm c t → Leads c t
as_leads c t h e = grind arith

all_as_leads : (c : Fraction) (ts : Trees) → AreTerms ts → LeadsIn LeadsTerm c ts → LeadsIn Leads c ts
all_as_leads c none h e = e
all_as_leads c (more t ts) h (inl e) = inl (as_leads c t h.0 e)
all_as_leads c (more t ts) h (inr e) = inr (all_as_leads c ts h.1 e)

rational_leads : (c d : Fraction) → d ≢ zero_fraction → d ≡ c → IsAmong c (value (num d))
rational_leads c d z e = subst (IsAmong c) (sym (rational_value d z)) (inl e)

number_leads : (c d : Fraction) (us : Trees) → d ≢ zero_fraction → d ≡ c → IsAmong c (value (split_product (more (num d) us)).coefficient)
number_leads c d us z e = grind (arith, rational_leads)

sum_leads : (c : Fraction) (us ts : Trees) → is_number (add us) ≡ true → LeadsIn Leads c us → IsAmong c (value (split_product (more (add us) ts)).coefficient)
sum_leads c us ts n e =
    subst (λ (b : Bool). IsAmong c (value (if b then split (add us) ts else split num_one (more (add us) ts)).coefficient)) (sym n) (terms_lead c us (number_words (add us) n).1 e)

other_leads : (c : Fraction) (t : Tree) → AllParts HasForm t → is_number t ≡ false → LeadsTerm c t → IsAmong c (value (coefficient_of t))
unfolding is_number
other_leads c t h n e = grind (arith, number_leads, sum_leads)

-- ---- and among those of the sum

others_lead : (c : Fraction) (ts : Trees) → AllPartsOf HasForm ts → NoneIs is_number ts → LeadsIn LeadsTerm c ts → IsAmongAll c (addends_of ts)
others_lead c none h n e = absurd e
others_lead c (more t ts) h n (inl e) =
    let x = taken t (parts_reduced t h.0) (parts_defined t h.0) n.0 in
    inl (subst (λ (v : Surd). IsAmong c v × AreProper v) (own t) (other_leads c t h.0 n.0 e, value_proper (coefficient_of t) x.number))
  where
    own : (t : Tree) → value (coefficient_of t) ≡ (addend_of t).coefficient
    own (mult ts) = refl
    own t = one_value
others_lead c (more t ts) h n (inr e) = inr (others_lead c ts h.1 n.1 e)

in_both : (c : Fraction) (ts us : Trees) → LeadsIn LeadsTerm c (append ts us) → LeadsIn LeadsTerm c ts ⊎ LeadsIn LeadsTerm c us
in_both c none us e = inr e
in_both c (more t ts) us (inl e) = inl (inl e)
in_both c (more t ts) us (inr e) = elim (in_both c ts us e) [ inl x ↦ inl (inr x) | inr x ↦ inr x ]

whole_leads : (c : Fraction) (ts : Trees) → IsSplit ts → LeadsIn LeadsTerm c ts → IsAmongAll c (addends (add ts))
whole_leads c ts x e =
    let all : addends (add ts) ≡ addend (terms_of x.numbers) none ∷ addends_of x.others = ap (λ (us : Trees). addends (add us)) x.whole ∙ sum_addends x.numbers x.others x.terms x.no_number in
    subst (IsAmongAll c) (sym all) (
    elim (in_both c x.numbers x.others (subst (LeadsIn LeadsTerm c) x.whole e)) [
      | inl y ↦ inl (terms_lead c x.numbers x.terms (all_as_leads c x.numbers x.terms y), terms_proper x.numbers x.terms)
      | inr y ↦ inr (others_lead c x.others x.formed x.no_number y)
    ])

-- ---- the rational goes in

product_fits : (q c : Fraction) (ts : Trees) (zs : List Addend) (h l : ℕ) → IsMonic (add ts) → LeadsIn LeadsTerm c ts → IsSumHeld (distributed (value (num q)) (addends (add ts)) ++ zs) h l
    → AreFewBits h l → fraction_fits (times q c) ≡ true
product_fits q c ts zs h l m e k b = by (is_zero_fraction q) refl
  where
    nothing : (b : Bool) → b ≡ true → HasFewBits (surd_times (if b then [] else surd_of q) (value (num c)))
    nothing true e = record { high = 0; low = 0; held = nothing_held 0 0; few = omega arith }
    nothing false e = absurd (true≢false (sym e))

    by : (b : Bool) → is_zero_fraction q ≡ b → fraction_fits (times q c) ≡ true
    by true z = rational_product_fits q c (nothing (is_zero_fraction q) z)
    by false z =
        let n : q ≢ zero_fraction = no_zero q (not_from_false _ z) in
        addend_fits q c (addends (add ts)) zs h l n (whole_leads c ts (split_sum ts (monic_sum ts m) (monic_parts (add ts) m).1) e)
        (subst (λ (v : Surd). IsSumHeld (distributed v (addends (add ts)) ++ zs) h l) (rational_value q n) k) b

pub rational_fits : (q : Fraction) (ts : Trees) (zs : List Addend) (h l : ℕ) (o : Overflow) → IsMonic (add ts) → NamesPut (num q) (add ts) o → Overflows o
    → IsSumHeld (distributed (value (num q)) (addends (add ts)) ++ zs) h l → AreFewBits h l → ⊥
rational_fits q ts zs h l o m n f k b =
    let same : operation_fits (operation_of o.op) (value_of o.a) (value_of o.b) ≡ fraction_fits (times q (value_of o.b)) =
    λ i. operation_fits (operation_of (n.product i)) (n.first i) (value_of o.b) in
    true≢false (sym (product_fits q (value_of o.b) ts zs h l m n.second k b) ∙ sym same ∙ f)
