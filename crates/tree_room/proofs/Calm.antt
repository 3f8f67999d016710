-- Exponents that mean whole numbers.
use Rattle.tree_room.proofs.Shared.{arith, ◌≡◌, negsuc, ◌+ℤ◌, ◌*ℤ◌, Bool, true, false, ◌==◌, refl, ap, eqb-true, Some, None, if◌then◌else◌, is_whole_literal, is_some, opposite, whole_fraction, Tree}
use Rattle.tree_room.proofs.Shared.{num, symbol, undef, add, mult, power, root, neg, sub, div, Trees, none, more, append, AllParts, AllPartsOf, IsPart, IsPartOf, itself, in_add, in_mult, in_base}
use Rattle.tree_room.proofs.Shared.{in_exponent, in_root, in_neg, in_left, in_right, in_dividend, in_divisor, first, later, Assignment, IsNumber, IsTerm, AreTerms, is_whole_num, is_half_num, surd_of}
use Rattle.tree_room.proofs.Shared.{whole_plus, whole_times, one_rational, whole_is_no_half, Same-sym, sum_two, product_two, fraction_whole, AllParts-map, Same-trans, Agree-refl, Same-refl, Same-eq}
use Rattle.tree_room.proofs.Shared.{joined_radicand, IsPowerOf, HasPowersOf, MeansWhole, HasCalmExponent, IsCalm, AreCalm}

-- ---- what means a whole number

pub whole_number : (f : Assignment) (e : Tree) → is_whole_num e ≡ true → MeansWhole f e
whole_number f e h = grind (arith, Same-eq, fraction_whole)

pub sum_whole : (f : Assignment) (d e : Tree) → MeansWhole f d → MeansWhole f e → MeansWhole f (add (more d (more e none)))
sum_whole f d e (m, h) (n, k) = (
  m +ℤ n,
  sum_two f d e (surd_of (whole_fraction (m +ℤ n))) (surd_of (whole_fraction m)) (surd_of (whole_fraction n)) h k
      (Same-sym (Same-trans (joined_radicand (whole_fraction m) (whole_fraction n) 1) (Same-eq (ap surd_of (whole_plus m n))))),
)

pub product_whole : (f : Assignment) (d e : Tree) → MeansWhole f d → MeansWhole f e → MeansWhole f (mult (more d (more e none)))
product_whole f d e (m, h) (n, k) = (
  m *ℤ n,
  product_two f d e (surd_of (whole_fraction (m *ℤ n))) (surd_of (whole_fraction m)) (surd_of (whole_fraction n)) h k
      (Same-sym (Same-eq (ap surd_of (whole_times m n)))),
)

pub opposite_whole : (f : Assignment) (e : Tree) → MeansWhole f e → MeansWhole f (neg e)
opposite_whole f e (n, h) = (negsuc 0 *ℤ n, (surd_of (whole_fraction n), h, Same-sym (Same-eq (ap surd_of (whole_times (negsuc 0) n)))))

pub literal_whole : (f : Assignment) (e : Tree) → is_whole_literal e ≡ true → MeansWhole f e
literal_whole f (num q) h = by (q.den == 1) refl h
  where
    by : (z : Bool) → (q.den == 1) ≡ z → is_some (if z then Some q.num else None) ≡ true → MeansWhole f (num q)
    by true e h = whole_number f (num q) e
    by false e h = cc
literal_whole f (neg (num q)) h = by (q.den == 1) refl h
  where
    by : (z : Bool) → (q.den == 1) ≡ z → is_some (opposite (if z then Some q.num else None)) ≡ true → MeansWhole f (neg (num q))
    by true e h = opposite_whole f (num q) (whole_number f (num q) e)
    by false e h = cc
literal_whole f e h = cc

pub no_half : (f : Assignment) (e : Tree) → MeansWhole f e → is_half_num e ≡ false
no_half f (num q) (n, h) = by (q.den == 2) refl
  where
    by : (z : Bool) → (q.den == 2) ≡ z → z ≡ false
    by true e = absurd (whole_is_no_half n q (eqb-true q.den 2 e) (one_rational (whole_fraction n) q _ _ (Agree-refl (surd_of (whole_fraction n))) (Same-refl (surd_of (whole_fraction n))) h))
    by false e = refl
no_half f e h = refl

-- ---- calm trees

term_calm : (f : Assignment) (t : Tree) → IsTerm t → IsCalm f t
term_calm f t h = grind arith

terms_calm : (f : Assignment) (ts : Trees) → AreTerms ts → AreCalm f ts
terms_calm f none h = tt
terms_calm f (more t ts) (h, hs) = (term_calm f t h, terms_calm f ts hs)

pub number_calm : (f : Assignment) (t : Tree) → IsNumber t → IsCalm f t
number_calm f (num q) h = tt
number_calm f (add ts) h = (tt, terms_calm f ts h.1)
number_calm f (root a) h = term_calm f (root a) h
number_calm f (mult ts) h = term_calm f (mult ts) h
number_calm f t h = absurd h

pub calm_append : (f : Assignment) (ts us : Trees) → AreCalm f ts → AreCalm f us → AreCalm f (append ts us)
calm_append f none us h k = k
calm_append f (more t ts) us (h, hs) k = (h, calm_append f ts us hs k)

-- a part of a tree has what all parts have
module _ (P : Tree → Type 0) (p : Tree) where
  at_root : (t : Tree) → AllParts P t → P t
  at_root (num q) h = h
  at_root (symbol x) h = h
  at_root undef h = h
  at_root t h = h.0

  mutual
    at_part : (t : Tree) → IsPart p t → AllParts P t → P p
    at_part t itself h = at_root t h
    at_part (add ts) (in_add k) h = among_parts ts k h.1
    at_part (mult ts) (in_mult k) h = among_parts ts k h.1
    at_part (power b e) (in_base k) (h, hb, he) = at_part b k hb
    at_part (power b e) (in_exponent k) (h, hb, he) = at_part e k he
    at_part (root a) (in_root k) h = at_part a k h.1
    at_part (neg a) (in_neg k) h = at_part a k h.1
    at_part (sub a b) (in_left k) (h, ha, hb) = at_part a k ha
    at_part (sub a b) (in_right k) (h, ha, hb) = at_part b k hb
    at_part (div a b) (in_dividend k) (h, ha, hb) = at_part a k ha
    at_part (div a b) (in_divisor k) (h, ha, hb) = at_part b k hb

    among_parts : (ts : Trees) → IsPartOf p ts → AllPartsOf P ts → P p
    among_parts none k h = elim k [ ]
    among_parts (more t ts) (first k) (h, hs) = at_part t k h
    among_parts (more t ts) (later k) (h, hs) = among_parts ts k hs

pub parts_calm : (f : Assignment) (ts : Trees) (t : Tree) → HasPowersOf ts t → AreCalm f ts → IsCalm f t
parts_calm f ts t h k = AllParts-map (IsPowerOf ts) (HasCalmExponent f) calm t h
  where
    calm : (x : Tree) → IsPowerOf ts x → HasCalmExponent f x
    calm (power b e) i = among_parts (HasCalmExponent f) (power b e) ts i k
    calm x i = tt
