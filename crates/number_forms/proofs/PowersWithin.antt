-- No operation overflows on the square or a power of a Number that has few bits.
use Rattle.number_forms.proofs.Shared.{◌≡◌, ℕ, zero, suc, ◌+◌, ◌*◌, ◌≤◌, [], ◌∷◌, ◌++◌, ◌⊎◌, inl, inr, map, refl, sym, ap, ◌∙◌, subst, arith, append_assoc, mul-le, value, Term, Surd, term_times}
use Rattle.number_forms.proofs.Shared.{surd_times, IsProper, AreProper, value_proper, number_words, Same-append, Same-refl, IsHeld, held_times, no_larger_power, held_so_far, held_left, held_right}
use Rattle.number_forms.proofs.Shared.{Tree, terms_from, ProductOverflows, SquareRowOverflows, SquareOverflows, PowerOverflows, twice, square_row, square_terms, IsSum, Overflow, calculation_of}
use Rattle.number_forms.proofs.{Shared.{children_of, nth}, Over.{shares_append}, Squares.{square_held, held_front}, Twice.{twice_proper}, WithinBits.{so_far, pair_held, no_misfit, no_product_misfit}}
use Rattle.number_forms.proofs.{WithinBits.{extracted_held, row_within, proper_at, sum_proper, sum_rises, numbers_within}, Worth.{from_next}}
use Rattle.calc_algebra.specs.Numbers.{term_of}

-- ---- squares

-- what stands before the square of the terms from a place on
abbrev squares_before : ℕ → Surd → Surd
squares_before zero v = []
squares_before (suc n) [] = []
squares_before (suc n) (x ∷ w) = square_row x w ++ squares_before n w

squares_from : (n : ℕ) (v : Surd) → square_terms v ≡ squares_before n v ++ square_terms (terms_from n v)
squares_from zero v = refl
squares_from (suc n) [] = refl
squares_from (suc n) (x ∷ w) = ap (λ (u : Surd). square_row x w ++ u) (squares_from n w) ∙ sym (append_assoc (square_row x w) (squares_before n w) (square_terms (terms_from n w)))

proper_from : (n : ℕ) (v : Surd) → AreProper v → AreProper (terms_from n v)
proper_from zero v p = p
proper_from (suc n) [] p = p
proper_from (suc n) (x ∷ v) (p, ps) = proper_from n v ps

square_row_within : (t : Tree) (x : Term) (w : Surd) (h l : ℕ) (o : Overflow) → IsSum t → IsProper x → AreProper w → IsHeld (value t ++ square_row x w) h l → 2 * h + 4 * l ≤ 124
    → SquareRowOverflows t x w o → ⊥
square_row_within t x w h l o is p ps k few (inl m) =
    no_product_misfit x x h l (calculation_of o) p p (held_left (term_times x x ∷ []) (map (term_times (twice x)) w) h l (held_right (value t) (square_row x w) h l k)) few m
square_row_within t x w h l o is p ps k few (inr (inl j)) =
    let a : Term = term_of (nth j.joined.at (children_of t)) in
    let pair : IsHeld (a ∷ term_times x x ∷ []) h l = pair_held t (term_times x x) (map (term_times (twice x)) w) j.joined.at h l is j.joined.within k in
    no_misfit a j.product h l o (extracted_held a j.product (term_times x x) h l j.extracted pair) few j.joined.misfit
square_row_within t x w h l o is p ps k few (inr (inr m)) =
    let mixed : Surd = map (term_times (twice x)) w in
    let before : Surd = term_times x x ∷ value t in
    let sum : IsSum m.partial = m.with_square.sum in
    let held : IsHeld (value m.partial ++ mixed) h l = held_so_far (value m.partial) before mixed h l (sum_proper m.partial sum) (sum_rises m.partial sum)
    (Same-append m.with_square.worth (Same-refl mixed)) (shares_append m.with_square.parts (λ d q. q)) (held_front (value t) (term_times x x) mixed h l k) in
    row_within m.partial (twice x) w h l o sum (twice_proper x p) ps held few m.row

square_within : (v : Surd) (h l : ℕ) (o : Overflow) → AreProper v → IsHeld (surd_times v v) h l → 2 * h + 4 * l ≤ 124 → SquareOverflows v o → ⊥
square_within v h l o p k few s =
    let rest : Surd = terms_from (suc s.at) v in
    let held : IsHeld (value s.partial ++ square_terms (terms_from s.at v)) h l =
    so_far s.partial (squares_before s.at v) (square_terms (terms_from s.at v)) h l (square_terms v) (squares_from s.at v) s.sum s.worth s.parts (square_held v h l k) in
    let next : IsHeld (value s.partial ++ (square_row s.factor rest ++ square_terms rest)) h l =
    subst (λ (u : Surd). IsHeld (value s.partial ++ square_terms u) h l) (from_next v s.at s.factor s.here) held in
    let front : IsHeld (value s.partial ++ square_row s.factor rest) h l = held_left (value s.partial ++ square_row s.factor rest) (square_terms rest) h l
    (subst (λ (u : Surd). IsHeld u h l) (sym (append_assoc (value s.partial) (square_row s.factor rest) (square_terms rest))) next) in
    square_row_within s.partial s.factor rest h l o s.sum (proper_at v s.at s.factor p s.here) (proper_from (suc s.at) v p) front few s.row

-- ---- powers

few_together : (a b n h l : ℕ) → a + b ≤ n → n * (2 * h + 4 * l) ≤ 124 → 2 * (a * h + b * h) + 4 * (a * l + b * l) ≤ 124
few_together a b n h l w few = let x : (a + b) * (2 * h + 4 * l) ≤ n * (2 * h + 4 * l) = mul-le (a + b) (2 * h + 4 * l) n (2 * h + 4 * l) w (omega arith) in omega arith

pub power_within : (v : Surd) (n h l : ℕ) (o : Overflow) → IsHeld v h l → n * (2 * h + 4 * l) ≤ 124 → PowerOverflows v n o → ⊥
power_within v n h l o k few p = by p.product
  where
    high : ℕ
    high = p.low * h + p.high * h

    low : ℕ
    low = p.low * l + p.high * l

    held : IsHeld (surd_times (value p.first) (value p.second)) (p.low * h + p.high * h) (p.low * l + p.high * l)
    held = held_times (value p.first) (value p.second) (p.low * h) (p.high * h) (p.low * l) (p.high * l)
        ((no_larger_power p.first v p.low p.low_positive p.first_power.number p.first_power.worth p.first_power.parts).held h l k)
        ((no_larger_power p.second v p.high p.high_positive p.second_power.number p.second_power.worth p.second_power.parts).held h l k)

    few_bits : 2 * (p.low * h + p.high * h) + 4 * (p.low * l + p.high * l) ≤ 124
    few_bits = few_together p.low p.high n h l p.within few

    by : ProductOverflows (value p.first) (value p.second) o ⊎ ((p.first ≡ p.second) × SquareOverflows (value p.first) o) → ⊥
    by (inl q) = numbers_within p.first p.second o p.first_power.number p.second_power.number (record { high = high; low = low; held = held; few = few_bits }) q
    by (inr (e, s)) = square_within (value p.first) high low o (value_proper p.first (number_words p.first p.first_power.number))
        (subst (λ (t : Tree). IsHeld (surd_times (value p.first) (value t)) high low) (sym e) held) few_bits s
