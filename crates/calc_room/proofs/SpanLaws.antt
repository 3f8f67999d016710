-- What a list of radicands spans.
use Rattle.calc_terms.proofs.SmallLaws.{factor_positive as right_factor}
use Rattle.calc_room.proofs.Shared.{◌≡◌, ℕ, ◌*◌, ◌<◌, List, [], ◌∷◌, Bool, true, false, refl, sym, ap, ◌∙◌, arith, mul_pos, are_alike, square_root, square_from_scaled}
use Rattle.calc_room.proofs.Shared.{Alike, alike_from, alike_true, alike_through, chosen_product, IsSpanned}

-- ---- alike numbers

left_factor : (a b n : ℕ) → a * b ≡ n → 0 < n → 0 < a
left_factor a b n e h = grind arith

alike_left : (r s t : ℕ) → Alike r s t → 0 < r
alike_left r s t a = left_factor r s (t * t) (sym a.square) (mul_pos t t a.positive a.positive)

root_pos : (t n : ℕ) → n ≡ t * t → 0 < n → 0 < t
root_pos t n f h = grind arith

-- where n times a square other than 0 is r * s times a square, n is alike to both together
scaled_alike : (n r s k m : ℕ) → 0 < k → 0 < n * (r * s) → (n * (r * s)) * (k * k) ≡ m * m → are_alike n (r * s) ≡ true
scaled_alike n r s k m h p e = grind (arith, square_from_scaled, alike_true, root_pos)

-- ---- products of chosen radicands

pub none_chosen : (gs : List ℕ) → chosen_product gs [] ≡ 1
none_chosen [] = refl
none_chosen (g ∷ gs) = refl

-- those that are chosen once
chosen_once : List Bool → List Bool → List Bool
chosen_once [] ds = ds
chosen_once (c ∷ cs) [] = c ∷ cs
chosen_once (true ∷ cs) (true ∷ ds) = false ∷ chosen_once cs ds
chosen_once (true ∷ cs) (false ∷ ds) = true ∷ chosen_once cs ds
chosen_once (false ∷ cs) (true ∷ ds) = true ∷ chosen_once cs ds
chosen_once (false ∷ cs) (false ∷ ds) = false ∷ chosen_once cs ds

-- what is chosen twice is a square
record Squared (a b n : ℕ) : Type 0 where
  root : ℕ
  positive : 0 < root
  is : a * b ≡ n * (root * root)

both_squared : (g a b n k : ℕ) → a * b ≡ n * (k * k) → (g * a) * (g * b) ≡ (1 * n) * ((g * k) * (g * k))
both_squared g a b n k e = omega (arith, ap (λ x. g * g * x) e)

first_squared : (g a b n k : ℕ) → a * b ≡ n * (k * k) → (g * a) * (1 * b) ≡ (g * n) * (k * k)
first_squared g a b n k e = omega (arith, ap (λ x. g * x) e)

second_squared : (g a b n k : ℕ) → a * b ≡ n * (k * k) → (1 * a) * (g * b) ≡ (g * n) * (k * k)
second_squared g a b n k e = omega (arith, ap (λ x. g * x) e)

neither_squared : (a b n k : ℕ) → a * b ≡ n * (k * k) → (1 * a) * (1 * b) ≡ (1 * n) * (k * k)
neither_squared a b n k e = omega (arith, e)

once : (gs : List ℕ) (cs ds : List Bool) → 0 < chosen_product gs cs → 0 < chosen_product gs ds → Squared (chosen_product gs cs) (chosen_product gs ds) (chosen_product gs (chosen_once cs ds))
unfolding chosen_once
once [] cs ds h k = record { root = 1; positive = omega arith; is = omega arith }
once (g ∷ gs) [] ds h k = record { root = 1; positive = omega arith; is = omega arith }
once (g ∷ gs) (c ∷ cs) [] h k = record { root = 1; positive = omega arith; is = omega arith }
once (g ∷ gs) (true ∷ cs) (true ∷ ds) h k =
    let s : Squared (chosen_product gs cs) (chosen_product gs ds) (chosen_product gs (chosen_once cs ds)) = once gs cs ds (right_factor g _ h) (right_factor g _ k) in
    record { root = g * s.root; positive = mul_pos g s.root (left_factor g (chosen_product gs cs) _ refl h) s.positive; is = both_squared g _ _ _ s.root s.is }
once (g ∷ gs) (true ∷ cs) (false ∷ ds) h k =
    let s : Squared (chosen_product gs cs) (chosen_product gs ds) (chosen_product gs (chosen_once cs ds)) = once gs cs ds (right_factor g _ h) (right_factor 1 _ k) in
    record { root = s.root; positive = s.positive; is = first_squared g _ _ _ s.root s.is }
once (g ∷ gs) (false ∷ cs) (true ∷ ds) h k =
    let s : Squared (chosen_product gs cs) (chosen_product gs ds) (chosen_product gs (chosen_once cs ds)) = once gs cs ds (right_factor 1 _ h) (right_factor g _ k) in
    record { root = s.root; positive = s.positive; is = second_squared g _ _ _ s.root s.is }
once (g ∷ gs) (false ∷ cs) (false ∷ ds) h k =
    let s : Squared (chosen_product gs cs) (chosen_product gs ds) (chosen_product gs (chosen_once cs ds)) = once gs cs ds (right_factor 1 _ h) (right_factor 1 _ k) in
    record { root = s.root; positive = s.positive; is = neither_squared _ _ _ s.root s.is }

-- ---- the span

pub one_spanned : (gs : List ℕ) → IsSpanned gs 1
one_spanned gs = record { chosen = []; alike = ap (λ n. are_alike n 1) (none_chosen gs) ∙ alike_true 1 1 1 (record { square = refl; positive = omega arith }) }

pub spanned_alike : (gs : List ℕ) (r s : ℕ) → IsSpanned gs r → are_alike r s ≡ true → IsSpanned gs s
spanned_alike gs r s h e = record { chosen = h.chosen; alike = alike_through (chosen_product gs h.chosen) r s h.alike e }

squares_times : (a b n k r s t u : ℕ) → a * b ≡ n * (k * k) → t * t ≡ a * r → u * u ≡ b * s → (n * (r * s)) * (k * k) ≡ (t * u) * (t * u)
squares_times a b n k r s t u e f g = omega (arith, ap (λ x. r * s * x) e, ap (λ x. x * (u * u)) f, ap (λ x. a * r * x) g)

pub spanned_times : (gs : List ℕ) (r s : ℕ) → IsSpanned gs r → IsSpanned gs s → IsSpanned gs (r * s)
spanned_times gs r s h k =
    let a : ℕ = chosen_product gs h.chosen in
    let b : ℕ = chosen_product gs k.chosen in
    let t : ℕ = square_root (a * r) in
    let u : ℕ = square_root (b * s) in
    let p : Alike a r t = alike_from a r h.alike in
    let q : Alike b s u = alike_from b s k.alike in
    let z : Squared a b (chosen_product gs (chosen_once h.chosen k.chosen)) = once gs h.chosen k.chosen (alike_left a r t p) (alike_left b s u q) in
    let n : ℕ = chosen_product gs (chosen_once h.chosen k.chosen) in
    let e : (n * (r * s)) * (z.root * z.root) ≡ (t * u) * (t * u) = squares_times a b n z.root r s t u z.is p.square q.square in
    record { chosen = chosen_once h.chosen k.chosen; alike = scaled_alike n r s z.root (t * u) z.positive (whole n r s z.root t u e p.positive q.positive) e }
  where
    whole : (n r s k t u : ℕ) → (n * (r * s)) * (k * k) ≡ (t * u) * (t * u) → 0 < t → 0 < u → 0 < n * (r * s)
    whole n r s k t u e ht hu = left_factor (n * (r * s)) (k * k) ((t * u) * (t * u)) e (mul_pos (t * u) (t * u) (mul_pos t u ht hu) (mul_pos t u ht hu))
