-- The face of a Number is of the kind of which it is known whether it has a value: it divides by rationals alone, and has no powers.
use Rattle.std.proofs.Common.{◌≡◌, ℕ, List, [], ◌∷◌, Bool, true, false, cond, eqb, inr, refl, subst, arith, Contains}
use Rattle.std.specs.Prelude.{⊤, nat_abs}
use Rattle.beautify.proofs.{FaceLaws.{reduced_face_means}, FaceTexts.{face_names}}
use Rattle.calc_algebra.proofs.{BadLaws.{part_means}, Names.{number_names}, NumberLaws.{number_words}, NumberValues.{number_means}}
use Rattle.calc_algebra.specs.{BadAndEasy.{HasValue, IsEasy, IsShort}, Numbers.{AreTerms, IsNumber, IsTerm, is_number, value}, Reduced.{is_reduced}, Surds.{Surd, surd_of}}
use Rattle.calc_language.specs.{Faces.{face, face_of_sum, fraction_of, has_minus, next_term, next_terms, product_of, unless_one, unsigned_face, with_minus}, Grammar.{SoFar, single, summed, multiplied, as_tree, plus_term}}
use Rattle.calc_language.specs.Texts.{HasNames}
use Rattle.calc_terms.proofs.SmallLaws.{nobody}
use Rattle.calc_terms.specs.{Fractions.{Fraction}, Trees.{Tree, num, symbol, undef, add, mult, power, root, neg, sub, div, Trees, none, more, append, names, AllParts, AllPartsOf, IsPart, IsPartOf, itself, in_add, in_mult, in_base, in_exponent, in_root, in_neg, in_left, in_right, in_dividend, in_divisor, first, later, is_num, whole_num}}
use Rattle.session_laws.proofs.NamedLines.{with_names}
use Rattle.tree_handles.proofs.Outcomes.{by_test}

-- a quotient by a rational, or no quotient and no power
abbrev IsSimple : Tree → Type 0
IsSimple (div a b) = is_num b ≡ true
IsSimple (power b e) = ⊥
IsSimple t = ⊤

abbrev AreSimple : Trees → Type 0
AreSimple ts = AllPartsOf IsSimple ts

-- ---- faces

append_simple : (ts us : Trees) → AreSimple ts → AreSimple us → AreSimple (append ts us)
append_simple none us h k = k
append_simple (more t ts) us h k = (h.0, append_simple ts us h.1 k)

product_simple : (ts : Trees) → AreSimple ts → AllParts IsSimple (product_of ts)
product_simple none h = tt
product_simple (more t none) h = h.0
product_simple (more t (more u ts)) h = (tt, h)

unless_simple : (n : ℕ) (ts : Trees) → AreSimple ts → AreSimple (unless_one n ts)
unless_simple n ts h = by_test (λ b. AreSimple (cond b ts (more (whole_num n) ts))) (eqb n 1) (λ e. h) (λ e. (tt, h))

over_simple : (above : Trees) (n : ℕ) → AreSimple above → AllParts IsSimple (fraction_of above (unless_one n none))
over_simple above n h = by_test (λ b. AllParts IsSimple (fraction_of above (cond b none (more (whole_num n) none)))) (eqb n 1) (λ e. product_simple above h) (λ e. (refl, product_simple above h, tt))

with_minus_simple : (b : Bool) (t : Tree) → AllParts IsSimple t → AllParts IsSimple (with_minus b t)
with_minus_simple true t h = (tt, h)
with_minus_simple false t h = h

rational_simple : (q : Fraction) → AllParts IsSimple (unsigned_face (num q))
rational_simple q = over_simple (unless_one (nat_abs q.num) none) q.den (unless_simple (nat_abs q.num) none tt)

root_simple : (q : Fraction) → AllParts IsSimple (root (with_minus (has_minus (num q)) (unsigned_face (num q))))
root_simple q = (tt, with_minus_simple (has_minus (num q)) (unsigned_face (num q)) (rational_simple q))

term_simple : (t : Tree) → IsTerm t → AllParts IsSimple (unsigned_face t)
term_simple (num q) h = rational_simple q
term_simple (root (num r)) h = root_simple r
term_simple (mult (more (num q) (more (root (num r)) none))) h = over_simple (unless_one (nat_abs q.num) (more (root (with_minus (has_minus (num r)) (unsigned_face (num r)))) none)) q.den (unless_simple (nat_abs q.num) _ (root_simple r, tt))
term_simple t h = absurd h

plus_simple : (s : SoFar) (u : Tree) → AllParts IsSimple (as_tree s) → AllParts IsSimple u → AllParts IsSimple (as_tree (plus_term s u))
plus_simple (single t) u h k = (tt, (h, (k, tt)))
plus_simple (summed ts) u h k = (tt, append_simple ts (more u none) h.1 (k, tt))
plus_simple (multiplied ts) u h k = (tt, (h, (k, tt)))

next_simple : (s : SoFar) (b : Bool) (u : Tree) → AllParts IsSimple (as_tree s) → AllParts IsSimple u → AllParts IsSimple (as_tree (next_term s b u))
next_simple s true u h k = (tt, h, k)
next_simple s false u h k = plus_simple s u h k

terms_simple : (s : SoFar) (ts : Trees) → AllParts IsSimple (as_tree s) → AreTerms ts → AllParts IsSimple (as_tree (next_terms s ts))
terms_simple s none h k = h
terms_simple s (more t ts) h k = terms_simple (next_term s (has_minus t) (unsigned_face t)) ts (next_simple s (has_minus t) (unsigned_face t) h (term_simple t k.0)) k.1

sum_simple : (ts : Trees) → AreTerms ts → AllParts IsSimple (face_of_sum ts)
sum_simple none h = (tt, tt)
sum_simple (more t ts) h = terms_simple (single (with_minus (has_minus t) (unsigned_face t))) ts (with_minus_simple (has_minus t) (unsigned_face t) (term_simple t h.0)) h.1

unsigned_simple : (t : Tree) → IsNumber t → AllParts IsSimple (unsigned_face t)
unsigned_simple (num q) h = rational_simple q
unsigned_simple (add ts) h = sum_simple ts h.1
unsigned_simple t h = term_simple t h

face_simple : (t : Tree) → IsNumber t → AllParts IsSimple (face t)
face_simple t h = with_minus_simple (has_minus t) (unsigned_face t) (unsigned_simple t h)

-- ---- parts

module _ (P : Tree → Type 0) (p : Tree) where
  at_root : (t : Tree) → AllParts P t → P t
  at_root (num q) h = h
  at_root (symbol x) h = h
  at_root undef h = h
  at_root t h = h.0

  mutual
    at_part : (t : Tree) → IsPart p t → AllParts P t → P p
    at_part t itself h = at_root t h
    at_part (add ts) (in_add k) h = among_parts ts k h.1
    at_part (mult ts) (in_mult k) h = among_parts ts k h.1
    at_part (power b e) (in_base k) (h, hb, he) = at_part b k hb
    at_part (power b e) (in_exponent k) (h, hb, he) = at_part e k he
    at_part (root a) (in_root k) h = at_part a k h.1
    at_part (neg a) (in_neg k) h = at_part a k h.1
    at_part (sub a b) (in_left k) (h, ha, hb) = at_part a k ha
    at_part (sub a b) (in_right k) (h, ha, hb) = at_part b k hb
    at_part (div a b) (in_dividend k) (h, ha, hb) = at_part a k ha
    at_part (div a b) (in_divisor k) (h, ha, hb) = at_part b k hb

    among_parts : (ts : Trees) → IsPartOf p ts → AllPartsOf P ts → P p
    among_parts none k h = elim k [ ]
    among_parts (more t ts) (first k) (h, hs) = at_part t k h
    among_parts (more t ts) (later k) (h, hs) = among_parts ts k hs

rational_short : (t : Tree) → is_num t ≡ true → (v : Surd) → HasValue t v → IsShort v
rational_short (num q) h v m = (surd_of q, m, omega arith)
rational_short (symbol x) h v m = absurd cc
rational_short undef h v m = absurd cc
rational_short (add ts) h v m = absurd cc
rational_short (mult ts) h v m = absurd cc
rational_short (power b e) h v m = absurd cc
rational_short (root a) h v m = absurd cc
rational_short (neg a) h v m = absurd cc
rational_short (sub a b) h v m = absurd cc
rational_short (div a b) h v m = absurd cc

-- ---- its value

no_members : (xs : List (List ℕ)) → ((x : List ℕ) → Contains xs x → ⊥) → xs ≡ []
no_members [] h = refl
no_members (x ∷ xs) h = absurd (h x (0, omega arith, refl))

module _ (t : Tree) (number : is_number t ≡ true) where
  no_names : (x : List ℕ) → Contains (names t) x → ⊥
  no_names x m = nobody x (subst (λ xs. Contains xs x) (number_names t number) m)

  pub number_named : HasNames t
  number_named = with_names t (λ x m. absurd (no_names x m))

  module _ (reduced : is_reduced t ≡ true) where
    pub face_closed : names (face t) ≡ []
    face_closed = no_members (names (face t)) (λ x m. no_names x ((face_names t reduced number_named).name x m))

    pub face_value : HasValue (face t) (value t)
    face_value = reduced_face_means t reduced [] (value t) (number_means t [] (number_words t number))

    pub face_easy : IsEasy (face t)
    face_easy = record {
      no_symbols = face_closed;
      decided = λ p k. inr (part_means [] p (face t) k (value t) face_value);
      short_divisors = λ a b k v m. rational_short b (at_part IsSimple (div a b) (face t) k (face_simple t (number_words t number))) v m;
      short_bases = λ b e k n w v m. absurd (at_part IsSimple (power b e) (face t) k (face_simple t (number_words t number)));
    }
