-- No operation overflows on Numbers whose sum, product, power or inverse has few bits.
use Rattle.number_forms.proofs.Shared.{◌≡◌, ℕ, zero, suc, ◌+◌, ◌*◌, ◌/◌, ◌^◌, ◌≤◌, ◌<◌, [], ◌∷◌, ◌++◌, Bool, true, false, Some, None, inl, inr, pos, map, max, if◌then◌else◌, refl, sym, ap, ◌∙◌, subst}
use Rattle.number_forms.proofs.Shared.{arith, append_assoc, slice_get, Rises, is_number, terms_of, value, Same, Term, Surd, term_times, surd_times, IsProper, AreProper, terms_proper, value_proper}
use Rattle.number_forms.proofs.Shared.{value_rises, number_words, map-append', surd_times-append, HasFewBits, SharesDenominators, magnitude_over, root_above, term_mass, mass, IsHeld, held_so_far}
use Rattle.number_forms.proofs.Shared.{held_left, held_right, held_pair, gcd, whole_fraction, Tree, add, count, terms_from, SumOverflows, RowOverflows, ProductOverflows, InverseOverflows}
use Rattle.number_forms.proofs.Shared.{inverting_calculations, IsSum, Overflow, Calculation, calculation, calculation_of, first_misfit, has_rational, radicand_calculations, joining_calculations}
use Rattle.number_forms.proofs.Shared.{IsProductMisfit, IsExtracted, magnitude_whole, radicands_fit, extracted_fits, extracted_den, children_of, nth, Mul, inverse_fits, inverse_of_sum_fits, joins_fit}
use Rattle.number_forms.proofs.{Shared.{passed, take, take-append-drop}, LastSums.{sum_is}, Shaped.{nth_of_terms}, SumChanges.{sum_value}, Worth.{from_next, products_next}}
use Rattle.surd_bits.proofs.ProductsFit.{mul_positive as product_positive}
use Rattle.calc_algebra.specs.Numbers.{term_of}

-- ---- lists by places

before_from : (n : ℕ) (v : Surd) → v ≡ take n v ++ terms_from n v
before_from n v = sym (take-append-drop n v)

at_place : (n : ℕ) (v : Surd) (x : Term) → slice_get v n ≡ Some x → v ≡ take n v ++ (x ∷ terms_from (suc n) v)
at_place n v x e = before_from n v ∙ ap (λ (w : Surd). take n v ++ w) (from_next v n x e)

pub proper_at : (v : Surd) (n : ℕ) (x : Term) → AreProper v → slice_get v n ≡ Some x → IsProper x
proper_at [] n x a e = cc
proper_at (y ∷ v) zero x (a, b) e = let f : y ≡ x = cc in subst IsProper f a
proper_at (y ∷ v) (suc n) x (a, b) e = proper_at v n x b e

-- ---- sums

pub sum_proper : (t : Tree) → IsSum t → AreProper (value t)
sum_proper t h = let s : IsSum (add (children_of t)) = subst IsSum (sum_is t h) h in subst AreProper (sym (sum_value t h)) (terms_proper (children_of t) s.0)

pub sum_rises : (t : Tree) → IsSum t → Rises (value t)
sum_rises t h = let s : IsSum (add (children_of t)) = subst IsSum (sum_is t h) h in subst Rises (sym (sum_value t h)) s.1

-- a term of the sum with the one behind it
pub pair_held : (t : Tree) (b : Term) (rest : Surd) (at h l : ℕ) → IsSum t → at < count (children_of t) → IsHeld (value t ++ (b ∷ rest)) h l
    → IsHeld (term_of (nth at (children_of t)) ∷ b ∷ []) h l
pair_held t b rest at h l is within k =
    let ts : Surd = terms_of (children_of t) in
    let a : Term = term_of (nth at (children_of t)) in
    let split : value t ≡ take at ts ++ (a ∷ terms_from (suc at) ts) = sum_value t is ∙ at_place at ts a (nth_of_terms (children_of t) at within) in
    held_pair (take at ts) a (terms_from (suc at) ts) [] b rest h l (subst (λ (v : Surd). IsHeld (v ++ (b ∷ rest)) h l) split k)

pub no_misfit : (a b : Term) (h l : ℕ) (o : Overflow) → IsHeld (a ∷ b ∷ []) h l → 2 * h + 4 * l ≤ 124 → Some (calculation_of o) ≡ first_misfit (joining_calculations a b) → ⊥
no_misfit a b h l o k few m = let n : first_misfit (joining_calculations a b) ≡ None = joins_fit a b h l k few in cc

-- the sum so far, with what is left
pub so_far : (t : Tree) (v w : Surd) (h l : ℕ) (whole : Surd) → whole ≡ v ++ w → IsSum t → Same (value t ++ w) whole → SharesDenominators whole (value t ++ w) → IsHeld whole h l
    → IsHeld (value t ++ w) h l
so_far t v w h l whole e k s f m = grind (arith, held_so_far, sum_proper, sum_rises)

pub sum_within : (v w : Surd) (o : Overflow) → HasFewBits (v ++ w) → SumOverflows v w o → ⊥
sum_within v w o b s =
    let whole : v ++ w ≡ (v ++ take s.at w) ++ terms_from s.at w = ap (λ (x : Surd). v ++ x) (before_from s.at w) ∙ sym (append_assoc v (take s.at w) (terms_from s.at w)) in
    let k : IsHeld (value s.partial ++ terms_from s.at w) b.high b.low = so_far s.partial (v ++ take s.at w) (terms_from s.at w) b.high b.low (v ++ w) whole s.sum s.worth s.parts b.held in
    let next : IsHeld (value s.partial ++ (s.next ∷ terms_from (suc s.at) w)) b.high b.low = subst (λ (x : Surd). IsHeld (value s.partial ++ x) b.high b.low) (from_next w s.at s.next s.here) k in
    no_misfit (term_of (nth s.joined.at (children_of s.partial))) s.next b.high b.low o
    (pair_held s.partial s.next (terms_from (suc s.at) w) s.joined.at b.high b.low s.sum s.joined.within next) b.few s.joined.misfit

-- ---- products

rest_positive : (n root rest : ℕ) → 0 < n → n ≡ root * root * rest → 0 < rest
rest_positive n root rest p e = grind arith

pub no_product_misfit : (a b : Term) (h l : ℕ) (c : Calculation) → IsProper a → IsProper b → IsHeld (term_times a b ∷ []) h l → 2 * h + 4 * l ≤ 124 → IsProductMisfit a b (Some c)
    → ⊥
no_product_misfit a b h l c p q k few m =
    let root : a.radicand * b.radicand ≡ m.root * m.root * m.rest = m.square radicands in
    let rest : 0 < m.rest = rest_positive (a.radicand * b.radicand) m.root m.rest (product_positive a.radicand b.radicand p.positive q.positive) root in
    let e : Some c ≡ None = (m.of_coefficients radicands).exactly.1 (extracted_fits a b h l p.not_zero q.not_zero p.positive q.positive k few m.root m.rest rest root) in
    cc
  where
    by : (x : Bool) → first_misfit (if x then [] else calculation Mul (whole_fraction (pos (a.radicand / gcd a.radicand b.radicand))) (whole_fraction (pos (b.radicand / gcd a.radicand b.radicand))) ∷ []) ≡ None
    by true = refl
    by false = passed (calculation Mul (whole_fraction (pos (a.radicand / gcd a.radicand b.radicand))) (whole_fraction (pos (b.radicand / gcd a.radicand b.radicand)))) []
        (radicands_fit a b h l p.not_zero q.not_zero p.positive q.positive k few (gcd a.radicand b.radicand))

    radicands : first_misfit (radicand_calculations a b) ≡ None
    radicands = by (has_rational a b)

-- a term with another, once a square is taken before the root of that
pub extracted_held : (a t u : Term) (h l : ℕ) → IsExtracted t u → IsHeld (a ∷ u ∷ []) h l → IsHeld (a ∷ t ∷ []) h l
extracted_held a t u h l x k = record {
  denominator = k.denominator;
  parts = record { positive = k.parts.positive; whole = (k.parts.whole.0, (extracted_den t u k.denominator x k.parts.whole.1.0, tt)) };
  low = k.low;
  scale = k.scale;
  scaled = record { positive = k.scaled.positive; whole = (k.scaled.whole.0, (extracted_den t u k.scale x k.scaled.whole.1.0, tt)) };
  high = subst (λ n. n ≤ k.scale * 2 ^ h) (sym same) k.high;
}
  where
    square : (n root r s : ℕ) → s ≡ root * root * r → (n * root) * (n * root) * r ≡ n * n * s
    square n root r s e = omega (arith, ap (λ z. n * n * z) e)

    magnitude : magnitude_over k.scale t.coefficient ≡ magnitude_over k.scale u.coefficient * x.root
    magnitude = ap (magnitude_over k.scale) x.coefficient ∙ magnitude_whole u.coefficient k.scale x.root k.scaled.whole.1.0

    same : mass k.scale (a ∷ t ∷ []) ≡ mass k.scale (a ∷ u ∷ [])
    same = ap (λ n. term_mass k.scale k.scale a + (max k.scale (root_above n) + 0))
        (ap (λ n. n * n * t.radicand) magnitude ∙ square (magnitude_over k.scale u.coefficient) x.root t.radicand u.radicand x.square)

pub row_within : (p : Tree) (x : Term) (w : Surd) (h l : ℕ) (o : Overflow) → IsSum p → IsProper x → AreProper w → IsHeld (value p ++ map (term_times x) w) h l → 2 * h + 4 * l ≤ 124
    → RowOverflows (value p) x w o → ⊥
row_within p x w h l o is proper are k few r = elim r.cause [
  | inl m ↦ let row : IsHeld (map (term_times x) w) h l = held_right (value p) (map (term_times x) w) h l k in
      let here : map (term_times x) w ≡ map (term_times x) (take r.at w) ++ ((term_times x r.other ∷ []) ++ map (term_times x) (terms_from (suc r.at) w)) =
      ap (map (term_times x)) (at_place r.at w r.other r.here) ∙ map-append' (term_times x) (take r.at w) (r.other ∷ terms_from (suc r.at) w) in
      let end = held_right (map (term_times x) (take r.at w)) ((term_times x r.other ∷ []) ++ map (term_times x) (terms_from (suc r.at) w)) h l (subst (λ (v : Surd). IsHeld v h l) here row) in
      no_product_misfit x r.other h l (calculation_of o) proper (proper_at w r.at r.other are r.here)
      (held_left (term_times x r.other ∷ []) (map (term_times x) (terms_from (suc r.at) w)) h l end) few m
  | inr j ↦ let left : Surd = map (term_times x) (terms_from r.at w) in
      let done : Surd = map (term_times x) (take r.at w) in
      let whole : value p ++ map (term_times x) w ≡ (value p ++ done) ++ left =
      ap (λ (v : Surd). value p ++ v) (ap (map (term_times x)) (before_from r.at w) ∙ map-append' (term_times x) (take r.at w) (terms_from r.at w)) ∙ sym (append_assoc (value p) done left) in
      let held : IsHeld (value j.partial ++ left) h l = so_far j.partial (value p ++ done) left h l (value p ++ map (term_times x) w) whole j.sum j.worth j.parts k in
      let next : IsHeld (value j.partial ++ (term_times x r.other ∷ map (term_times x) (terms_from (suc r.at) w))) h l =
      subst (λ (v : Surd). IsHeld (value j.partial ++ v) h l) (products_next x w r.at r.other r.here) held in
      let a : Term = term_of (nth j.joined.at (children_of j.partial)) in
      let pair : IsHeld (a ∷ term_times x r.other ∷ []) h l = pair_held j.partial (term_times x r.other) (map (term_times x) (terms_from (suc r.at) w)) j.joined.at h l j.sum j.joined.within next in
      no_misfit a j.product h l o (extracted_held a j.product (term_times x r.other) h l j.extracted pair) few j.joined.misfit
]

pub product_within : (v w : Surd) (o : Overflow) → AreProper v → AreProper w → HasFewBits (surd_times v w) → ProductOverflows v w o → ⊥
product_within v w o pv pw b p =
    let left : Surd = surd_times (terms_from p.at v) w in
    let whole : surd_times v w ≡ surd_times (take p.at v) w ++ left = ap (λ (x : Surd). surd_times x w) (before_from p.at v) ∙ surd_times-append (take p.at v) (terms_from p.at v) w in
    let k : IsHeld (value p.partial ++ left) b.high b.low = so_far p.partial (surd_times (take p.at v) w) left b.high b.low (surd_times v w) whole p.sum p.worth p.parts b.held in
    let row : Surd = map (term_times p.factor) w in
    let rest : Surd = surd_times (terms_from (suc p.at) v) w in
    let next : left ≡ row ++ rest = ap (λ (x : Surd). surd_times x w) (from_next v p.at p.factor p.here) in
    let parted : value p.partial ++ left ≡ (value p.partial ++ row) ++ rest = ap (λ (x : Surd). value p.partial ++ x) next ∙ sym (append_assoc (value p.partial) row rest) in
    let front : IsHeld (value p.partial ++ row) b.high b.low = held_left (value p.partial ++ row) rest b.high b.low (subst (λ (x : Surd). IsHeld x b.high b.low) parted k) in
    row_within p.partial p.factor w b.high b.low o p.sum (proper_at v p.at p.factor pv p.here) pw front b.few p.row

-- of two Numbers
pub numbers_within : (a b : Tree) (o : Overflow) → is_number a ≡ true → is_number b ≡ true → HasFewBits (surd_times (value a) (value b)) → ProductOverflows (value a) (value b) o → ⊥
numbers_within a b o p q = product_within (value a) (value b) o (value_proper a (number_words a p)) (value_proper b (number_words b q))

-- ---- inverses

pub inverse_within : (t : Tree) (o : Overflow) → is_number t ≡ true → HasFewBits (value t) → InverseOverflows (value t) o → ⊥
inverse_within t o n b m = by (value t) (value_proper t (number_words t n)) (value_rises t (number_words t n)) b m
  where
    by : (v : Surd) → AreProper v → Rises v → HasFewBits v → Some (calculation_of o) ≡ first_misfit (inverting_calculations v) → ⊥
    by [] p r b m = cc
    by (x ∷ []) p r b m = let e : first_misfit (inverting_calculations (x ∷ [])) ≡ None = inverse_fits x b.high b.low p.0.not_zero p.0.positive b.held b.few in cc
    by (x ∷ y ∷ []) p r b m = let e : first_misfit (inverting_calculations (x ∷ y ∷ [])) ≡ None = inverse_of_sum_fits x y b.high b.low p.0.not_zero p.1.0.not_zero p.0.positive p.1.0.positive r.0.1 b.held b.few in cc
    by (x ∷ y ∷ z ∷ v) p r b m = cc
