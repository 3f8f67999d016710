-- What holds Numbers one by one holds their product, also while they are multiplied from left to right.
use Rattle.product_reduce.proofs.Shared.{◌≡◌, ℕ, zero, suc, ◌+◌, ◌*◌, ◌^◌, ◌<◌, ◌≤◌, [], ◌∷◌, Bool, true, false, ◌&&◌, if◌then◌else◌, max, pos, refl, sym, ap, ◌∙◌, subst, arith, mul-le}
use Rattle.product_reduce.proofs.Shared.{false_from_ne_true, Fraction, one_fraction, is_zero_fraction, Tree, num, root, Trees, none, more, append, is_number, are_numbers, natural_of, value}
use Rattle.product_reduce.proofs.Shared.{IsBelowAll, Rises, are_alike, Same, Term, Surd, term, surd_of, surd_one, surd_times, term_times, AreProper, value_proper, value_rises, number_words, Alike}
use Rattle.product_reduce.proofs.Shared.{alike_from, alike_true, Same-trans, square_root, surd_times_assoc, surd_times-surd_one, Same-refl, Same-eq, Same-surd_times, root_above, mass_from, IsHeld}
use Rattle.product_reduce.proofs.Shared.{IsSumHeld, Addend, addend, addend_of, none_weighted, more_weighted, no_factor_held, weighted, AreHeld, factor_as_tree, held_number, held_wider, nothing_held}
use Rattle.product_reduce.proofs.Shared.{put_before, both_true, IsFactorHeld, AreFactorsHeld, none_held, factor_held, term_held, product_of_values, square_from_scaled, Parts, magnitude_over}
use Rattle.product_reduce.proofs.Shared.{mass_same, held_power, held_times, parts_scale, parts_times, den_divides, root_enough, root_least, times_one}
use Rattle.number_forms.proofs.RationalCalls.{rational_value as num_value}

-- ---- one Number

pub value_held : (t : Tree) (h l : ℕ) → is_number t ≡ true → IsFactorHeld t h l → IsHeld (value t) h l
value_held t h l n k = held_number n (factor_as_tree t h l k)

-- ---- a rational before a root, as one term or as two

one_of_both : (c : Fraction) (r : ℕ) → surd_times (term c 1 ∷ []) (term one_fraction r ∷ []) ≡ term c r ∷ []
one_of_both c r = grind (arith, times_one)

lesser_root : (a b : ℕ) → a ≤ b → root_above a ≤ root_above b
lesser_root a b l = root_least a (root_above b) (let e : b ≤ root_above b * root_above b = root_enough b in omega arith)

under_root : (c : Fraction) (r h l : ℕ) → 1 ≤ r → IsHeld (term c r ∷ []) h l → IsHeld (term c 1 ∷ []) h l
under_root c r h l p k = record {
  denominator = k.denominator;
  parts = record { positive = k.parts.positive; whole = k.parts.whole };
  low = k.low;
  scale = k.scale;
  scaled = record { positive = k.scaled.positive; whole = k.scaled.whole };
  high =
      let n : ℕ = magnitude_over k.scale c in
      let g : n * n * 1 ≤ n * n * r = mul-le (n * n) 1 (n * n) r (omega arith) p in
      within k.scale (root_above (n * n * 1)) (root_above (n * n * r)) (k.scale * 2 ^ h) (lesser_root (n * n * 1) (n * n * r) g) k.high;
}
  where
    within : (e a b m : ℕ) → a ≤ b → max e b + 0 ≤ m → max e a + 0 ≤ m
    within e a b m l k = omega arith

rational_held : (c : Fraction) (h l : ℕ) → IsHeld (term c 1 ∷ []) h l → IsHeld (value (num c)) h l
rational_held c h l k = grind arith

radicand_some : (r : Fraction) → is_number (root (num r)) ≡ true → 1 ≤ natural_of r.num
radicand_some r n = let (d, m, e, l, c) = number_words (root (num r)) n in omega (arith, ap natural_of e, l)

pub one_held : IsHeld surd_one 0 0
one_held = held_power [] 0 0 0 (nothing_held 0 0)

-- ---- the product of all

-- a rational and a root in front are one term in front
term_in_front : (c r : Fraction) (v : Surd) (h l p q : ℕ) → IsHeld (term c (natural_of r.num) ∷ []) h l → IsHeld v p q
    → IsHeld (surd_times (value (num c)) (surd_times (value (root (num r))) v)) (h + p) (l + q)
term_in_front c r v h l p q k a = by (is_zero_fraction c)
  where
    by : (b : Bool) → IsHeld (surd_times (if b then [] else surd_of c) (surd_times (value (root (num r))) v)) (h + p) (l + q)
    by true = nothing_held (h + p) (l + q)
    by false = subst (λ (x : Surd). IsHeld x (h + p) (l + q))
        (ap (λ (x : Surd). surd_times x v) (sym (one_of_both c (natural_of r.num))) ∙ surd_times_assoc (surd_of c) (value (root (num r))) v)
        (held_times (term c (natural_of r.num) ∷ []) v h p l q k a)

pub values_held : {ns : Trees} {h l : ℕ} → are_numbers ns ≡ true → AreFactorsHeld ns h l → IsHeld (product_of_values ns) h l
values_held {h = h} {l = l} n none_held = held_wider surd_one 0 h 0 l (omega arith) (omega arith) one_held
values_held {h = h} {l = l} n (factor_held {t = t} {ts = ts} p q k m f r x y) =
    let b = both_true (is_number t) (are_numbers ts) n in
    held_wider (product_of_values (more t ts)) (p + k) h (q + m) l x y
    (held_times (value t) (product_of_values ts) p k q m (value_held t p q b.0 f) (values_held b.1 r))
values_held {h = h} {l = l} n (term_held {c = c} {r = r} {ts = ts} p q k m f s x y) =
    let a = both_true (is_number (num c)) (is_number (root (num r)) && are_numbers ts) n in
    let b = both_true (is_number (root (num r))) (are_numbers ts) a.1 in
    held_wider (product_of_values (more (num c) (more (root (num r)) ts))) (p + k) h (q + m) l x y
    (term_in_front c r (product_of_values ts) p q k m f (values_held b.1 s))

-- ---- the next one

-- the last of several is held by itself, or as the root behind a rational
data LastHeld (ts : Trees) (t : Tree) (h l : ℕ) : Type 0 where
  by_itself : (k n p q : ℕ) → AreFactorsHeld ts k n → IsFactorHeld t p q → k + p ≤ h → n + q ≤ l → LastHeld ts t h l
  behind_rational : (us : Trees) (c r : Fraction) (k n p q : ℕ) → ts ≡ append us (more (num c) none) → t ≡ root (num r) → AreFactorsHeld us k n
      → IsHeld (term c (natural_of r.num) ∷ []) p q → k + p ≤ h → n + q ≤ l → LastHeld ts t h l

one_more : {ts : Trees} {t u : Tree} {p q k n h l : ℕ} → IsFactorHeld u p q → LastHeld ts t k n → p + k ≤ h → q + n ≤ l → LastHeld (more u ts) t h l
one_more {p = p} {q = q} f (by_itself k n a b s g x y) i j = by_itself (p + k) (q + n) a b (factor_held p q k n f s (omega arith) (omega arith)) g (omega arith) (omega arith)
one_more {u = u} {p = p} {q = q} f (behind_rational us c r k n a b e g s m x y) i j =
    behind_rational (more u us) c r (p + k) (q + n) a b (ap (more u) e) g (factor_held p q k n f s (omega arith) (omega arith)) m (omega arith) (omega arith)

two_more : {ts : Trees} {t : Tree} {c r : Fraction} {p q k n h l : ℕ} → IsHeld (term c (natural_of r.num) ∷ []) p q → LastHeld ts t k n → p + k ≤ h → q + n ≤ l
    → LastHeld (more (num c) (more (root (num r)) ts)) t h l
two_more {p = p} {q = q} f (by_itself k n a b s g x y) i j = by_itself (p + k) (q + n) a b (term_held p q k n f s (omega arith) (omega arith)) g (omega arith) (omega arith)
two_more {c = c} {r = r} {p = p} {q = q} f (behind_rational us d s k n a b e g v m x y) i j =
    behind_rational (more (num c) (more (root (num r)) us)) d s (p + k) (q + n) a b (ap (λ (xs : Trees). more (num c) (more (root (num r)) xs)) e) g
    (term_held p q k n f v (omega arith) (omega arith)) m (omega arith) (omega arith)

last_held : (ts : Trees) (t : Tree) {h l : ℕ} → AreFactorsHeld (append ts (more t none)) h l → LastHeld ts t h l
last_held none t (factor_held p q k n f s x y) = by_itself 0 0 p q none_held f (omega arith) (omega arith)
last_held (more u none) t (factor_held p q k n f s x y) = one_more f (last_held none t s) x y
last_held (more u none) t (term_held {c = c} {r = r} p q k n f s x y) = behind_rational none c r 0 0 p q refl refl none_held f (omega arith) (omega arith)
last_held (more u (more v ts)) t (factor_held p q k n f s x y) = one_more f (last_held (more v ts) t s) x y
last_held (more u (more v ts)) t (term_held p q k n f s x y) = two_more f (last_held ts t s) x y

last_number : (ts : Trees) (t : Tree) → are_numbers (append ts (more t none)) ≡ true → (are_numbers ts ≡ true) × (is_number t ≡ true)
last_number none t h = (refl, (both_true (is_number t) true h).0)
last_number (more u ts) t h = grind (arith, last_number ts t)

held_behind : (ts : Trees) (t : Tree) {k n p q : ℕ} → AreFactorsHeld ts k n → IsFactorHeld t p q → AreFactorsHeld (append ts (more t none)) (k + p) (n + q)
held_behind none t {p = p} {q = q} none_held g = factor_held p q 0 0 g none_held (omega arith) (omega arith)
held_behind (more u ts) t {p = p} {q = q} (factor_held a b k n f s x y) g = factor_held a b (k + p) (n + q) f (held_behind ts t s g) (omega arith) (omega arith)
held_behind (more u (more v ts)) t {p = p} {q = q} (term_held a b k n f s x y) g = term_held a b (k + p) (n + q) f (held_behind ts t s g) (omega arith) (omega arith)

pub number_as_factor : (t : Tree) (h l : ℕ) → is_number t ≡ true → IsHeld (value t) h l → IsFactorHeld t h l
number_as_factor t h l n k =
    subst (λ (x : Addend). IsSumHeld (x ∷ []) h l) (sym (ap (λ (b : Bool). if b then addend (value t) none else addend_of t) n))
    (record { terms = weighted (value t) 0 0 ∷ []; weighted = more_weighted 0 0 no_factor_held none_weighted; held = plainly (put_before (value t) h l 0 0 k) })
  where
    plain : (x : ℕ) → x + 0 ≡ x
    plain x = omega arith

    plainly : AreHeld (weighted (value t) 0 0 ∷ []) (h + 0) (l + 0) → AreHeld (weighted (value t) 0 0 ∷ []) h l
    plainly a = subst (λ (x : ℕ). AreHeld (weighted (value t) 0 0 ∷ []) x l) (plain h) (subst (λ (x : ℕ). AreHeld (weighted (value t) 0 0 ∷ []) (h + 0) x) (plain l) a)

values_append : (ts us : Trees) → Same (product_of_values (append ts us)) (surd_times (product_of_values ts) (product_of_values us))
values_append none us = Same-eq (sym (surd_times-surd_one (product_of_values us)))
values_append (more t ts) us = grind (arith, values_append ts us, Same-trans, Same-surd_times, Same-refl, Same-eq, surd_times_assoc)

-- ---- the root behind a rational that is multiplied already

root_proper : (v : Surd) (r : ℕ) → 1 ≤ r → AreProper v → AreProper (surd_times v (term one_fraction r ∷ []))
root_proper [] r p h = tt
root_proper (t ∷ v) r p (h, hs) = (record { not_zero = λ e. h.not_zero (sym (times_one t.coefficient) ∙ e); positive = product_some t.radicand r h.positive p }, root_proper v r p hs)
  where
    product_some : (a b : ℕ) → 0 < a → 1 ≤ b → 0 < a * b
    product_some a b h k = let l : 1 * 1 ≤ a * b = mul-le 1 1 a b h k in omega arith

-- with one factor on both sides radicands are alike where they are without it
times_less : (a b r : ℕ) → a < b → 1 ≤ r → a * r < b * r
times_less a b r l p = let x : (a + 1) * r ≤ b * r = mul-le (a + 1) r b r (omega arith) (omega arith) in omega arith

apart : (a b r : ℕ) → 1 ≤ r → are_alike a b ≡ false → are_alike (a * r) (b * r) ≡ false
apart a b r p h = false_from_ne_true (are_alike (a * r) (b * r)) (λ e. contrary (unscaled e))
  where
    contrary : are_alike a b ≡ true → ⊥
    contrary e = let f : true ≡ false = sym e ∙ h in cc

    root_some : (t m n r : ℕ) → m * m ≡ n * (r * r) → 0 < m → n ≡ t * t → 0 < t
    root_some zero m n r e p f = let x : 1 * 1 ≤ m * m = mul-le 1 1 m m p p in absurd (let y : n * (r * r) ≡ 0 = ap (λ k. k * (r * r)) f ∙ omega arith in omega arith)
    root_some (suc t) m n r e p f = omega arith

    unscaled : are_alike (a * r) (b * r) ≡ true → are_alike a b ≡ true
    unscaled e =
        let m : ℕ = square_root ((a * r) * (b * r)) in
        let x : Alike (a * r) (b * r) m = alike_from (a * r) (b * r) e in
        let (t, f) = square_from_scaled (a * b) r m p (omega (arith, x.square)) in
        alike_true a b t (record { square = sym {b = t * t} f; positive = root_some t m (a * b) r (omega (arith, x.square)) x.positive f })

root_below : (t : Term) (v : Surd) (r : ℕ) → 1 ≤ r → IsBelowAll t v → IsBelowAll (term_times t (term one_fraction r)) (surd_times v (term one_fraction r ∷ []))
root_below t [] r p h = tt
root_below t (u ∷ v) r p (l, a, hs) = (times_less t.radicand u.radicand r l p, apart t.radicand u.radicand r p a, root_below t v r p hs)

root_rises : (v : Surd) (r : ℕ) → 1 ≤ r → Rises v → Rises (surd_times v (term one_fraction r ∷ []))
root_rises [] r p h = tt
root_rises (t ∷ v) r p (h, hs) = (root_below t v r p h, root_rises v r p hs)

-- what a Number so far times the root is the same as
root_same : (us : Trees) (c : Fraction) (r : ℕ) (v : Surd) → Same v (product_of_values (append us (more (num c) none)))
    → Same (surd_times v (term one_fraction r ∷ [])) (surd_times (product_of_values us) (term c r ∷ []))
root_same us c r v s =
    Same-trans (Same-surd_times (Same-trans s (values_append us (more (num c) none))) (Same-refl (term one_fraction r ∷ [])))
    (Same-trans (Same-eq (surd_times_assoc (product_of_values us) (surd_times (value (num c)) surd_one) (term one_fraction r ∷ [])))
    (Same-surd_times (Same-refl (product_of_values us)) (Same-trans (Same-eq (surd_times_assoc (value (num c)) surd_one (term one_fraction r ∷ [])))
    (Same-trans (Same-surd_times (num_value c) (Same-eq (surd_times-surd_one (term one_fraction r ∷ [])))) (Same-eq (one_of_both c r))))))

-- low by what is multiplied so far, and high by what that is the same as
root_held : (v w : Surd) (r h l k n : ℕ) → 1 ≤ r → AreProper v → Rises v → IsHeld v k l → Same (surd_times v (term one_fraction r ∷ [])) w → IsHeld w h n
    → IsHeld (surd_times v (term one_fraction r ∷ [])) h l
unfolding one_fraction
root_held v w r h l k n p a s f e g =
    let d : ℕ = f.denominator in
    let u : Surd = surd_times v (term one_fraction r ∷ []) in
    let x : Parts d u = subst (λ y. Parts y u) (once d) (parts_times d 1 v (term one_fraction r ∷ []) f.parts root_parts) in
    record {
      denominator = d;
      parts = x;
      low = f.low;
      scale = d * g.scale;
      scaled = subst (λ y. Parts y u) (turned g.scale d) (parts_scale g.scale d u g.scaled.positive x);
      high =
          let z : mass_from (d * g.scale) (d * g.scale) u ≤ d * mass_from g.scale g.scale w =
          mass_same g.scale d g.scale u w (root_proper v r p a) (root_rises v r p s) e g.scaled (subst (λ y. Parts y u) (turned g.scale d) (parts_scale g.scale d u g.scaled.positive x)) in
          let y : d * mass_from g.scale g.scale w ≤ d * (g.scale * 2 ^ h) = mul-le d (mass_from g.scale g.scale w) d (g.scale * 2 ^ h) (omega arith) g.high in
          omega arith;
    }
  where
    once : (d : ℕ) → d * 1 ≡ d
    once d = omega arith

    turned : (a b : ℕ) → a * b ≡ b * a
    turned a b = omega arith

    root_parts : Parts 1 (term one_fraction r ∷ [])
    root_parts = record { positive = omega arith; whole = (den_divides (pos 1) 1 (omega arith), tt) }

both_held : (ts us : Trees) (c r : Fraction) (d : Tree) (k n p q : ℕ) → ts ≡ append us (more (num c) none) → are_numbers us ≡ true → is_number (root (num r)) ≡ true → is_number d ≡ true
    → Same (value d) (product_of_values ts) → ((h l : ℕ) → AreFactorsHeld ts h l → IsHeld (value d) h l) → AreFactorsHeld us k n → IsHeld (term c (natural_of r.num) ∷ []) p q
    → IsHeld (surd_times (value d) (value (root (num r)))) (k + p) (n + q)
unfolding is_number
both_held ts us c r d k n p q e a b m s held f g =
    let x : IsHeld (value d) (k + p) (n + q) = held (k + p) (n + q) (subst (λ (xs : Trees). AreFactorsHeld xs (k + p) (n + q)) (sym e) (held_behind us (num c) f (number_as_factor (num c) p q refl (rational_held c p q (under_root c (natural_of r.num) p q (radicand_some r b) g))))) in
    root_held (value d) (surd_times (product_of_values us) (term c (natural_of r.num) ∷ [])) (natural_of r.num) (k + p) (n + q) (k + p) (n + q) (radicand_some r b)
    (value_proper d (number_words d m)) (value_rises d (number_words d m)) x (root_same us c (natural_of r.num) (value d) (subst (λ (xs : Trees). Same (value d) (product_of_values xs)) e s))
    (held_times (product_of_values us) (term c (natural_of r.num) ∷ []) k p n q (values_held a f) g)

-- the product of the first ones times the next
pub next_held : (ts : Trees) (t d : Tree) (h l : ℕ) → are_numbers (append ts (more t none)) ≡ true → is_number d ≡ true → Same (value d) (product_of_values ts)
    → ((k n : ℕ) → AreFactorsHeld ts k n → IsHeld (value d) k n) → AreFactorsHeld (append ts (more t none)) h l → IsHeld (surd_times (value d) (value t)) h l
next_held ts t d h l n m s held a = by (last_held ts t a)
  where
    numbers : (are_numbers ts ≡ true) × (is_number t ≡ true)
    numbers = last_number ts t n

    by : LastHeld ts t h l → IsHeld (surd_times (value d) (value t)) h l
    by (by_itself k i p q f g x y) = held_wider (surd_times (value d) (value t)) (k + p) h (i + q) l x y (held_times (value d) (value t) k p i q (held k i f) (value_held t p q numbers.1 g))
    by (behind_rational us c r k i p q e g f b x y) =
        held_wider (surd_times (value d) (value t)) (k + p) h (i + q) l x y
        (subst (λ (u : Tree). IsHeld (surd_times (value d) (value u)) (k + p) (i + q)) (sym g)
        (both_held ts us c r d k i p q e (last_number us (num c) (ap are_numbers (sym e) ∙ numbers.0)).0 (ap is_number (sym g) ∙ numbers.1) m s held f b))

-- ---- some of the Numbers

pub alone_held : (t : Tree) {h l : ℕ} → is_number t ≡ true → AreFactorsHeld (more t none) h l → IsHeld (value t) h l
alone_held t {h = h} {l = l} n (factor_held p q k m f s x y) = held_wider (value t) p h q l (omega arith) (omega arith) (value_held t p q n f)

pub no_factors_held : (v : Surd) (h l : ℕ) → v ≡ surd_one → IsHeld v h l
no_factors_held v h l e = subst (λ (x : Surd). IsHeld x h l) (sym e) (held_wider surd_one 0 h 0 l (omega arith) (omega arith) one_held)

-- the first ones, where a rational may stand before a root among the others
pub front_held : (ts us : Trees) {h l : ℕ} → are_numbers (append ts us) ≡ true → AreFactorsHeld (append ts us) h l → AreFactorsHeld ts h l
unfolding is_number
front_held none us n a = none_held
front_held (more t none) none n a = a
front_held (more t none) (more u us) n (factor_held p q k m f s x y) = factor_held p q 0 0 f none_held (omega arith) (omega arith)
front_held (more (num c) none) (more (root (num r)) us) n (term_held p q k m f s x y) =
    let b = both_true (is_number (root (num r))) (are_numbers us) n in
    factor_held p q 0 0 (number_as_factor (num c) p q refl (rational_held c p q (under_root c (natural_of r.num) p q (radicand_some r b.0) f))) none_held (omega arith) (omega arith)
front_held (more t (more u ts)) us n (factor_held p q k m f s x y) = factor_held p q k m f (front_held (more u ts) us (both_true (is_number t) (are_numbers (append (more u ts) us)) n).1 s) x y
front_held (more (num c) (more (root (num r)) ts)) us n (term_held p q k m f s x y) =
    term_held p q k m f (front_held ts us (both_true (is_number (root (num r))) (are_numbers (append ts us)) n).1 s) x y
