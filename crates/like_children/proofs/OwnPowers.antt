-- The powers of trees are parts of them, and a Number has none.
use Rattle.like_children.proofs.Shared.{arith, Tree, num, symbol, undef, add, mult, power, root, neg, sub, div, Trees, none, more, AllPartsOf, IsPart, IsPartOf, itself, in_add, in_mult, in_base}
use Rattle.like_children.proofs.Shared.{in_exponent, in_root, in_neg, in_left, in_right, in_dividend, in_divisor, first, later, IsNumber, IsTerm, AreTerms, IsPowerOf, HasPowersOf}

-- ---- a Number has no power

term_powers : (ts : Trees) (t : Tree) → IsTerm t → HasPowersOf ts t
term_powers ts t h = grind arith

terms_powers : (ts us : Trees) → AreTerms us → AllPartsOf (IsPowerOf ts) us
terms_powers ts none h = tt
terms_powers ts (more t us) h = (term_powers ts t h.0, terms_powers ts us h.1)

pub number_powers : (ts : Trees) (t : Tree) → IsNumber t → HasPowersOf ts t
number_powers ts (num q) h = tt
number_powers ts (add us) h = (tt, terms_powers ts us h.1)
number_powers ts (root a) h = term_powers ts (root a) h
number_powers ts (mult us) h = term_powers ts (mult us) h
number_powers ts t h = absurd h

-- ---- the powers of the terms themselves

mutual
  own_powers : (ts : Trees) (t : Tree) → ((p : Tree) → IsPart p t → IsPartOf p ts) → HasPowersOf ts t
  own_powers ts (num q) k = tt
  own_powers ts (symbol x) k = tt
  own_powers ts undef k = tt
  own_powers ts (add us) k = (tt, own_powers_of ts us (λ p h. k p (in_add h)))
  own_powers ts (mult us) k = (tt, own_powers_of ts us (λ p h. k p (in_mult h)))
  own_powers ts (power b e) k = (k (power b e) itself, own_powers ts b (λ p h. k p (in_base h)), own_powers ts e (λ p h. k p (in_exponent h)))
  own_powers ts (root a) k = (tt, own_powers ts a (λ p h. k p (in_root h)))
  own_powers ts (neg a) k = (tt, own_powers ts a (λ p h. k p (in_neg h)))
  own_powers ts (sub a b) k = (tt, own_powers ts a (λ p h. k p (in_left h)), own_powers ts b (λ p h. k p (in_right h)))
  own_powers ts (div a b) k = (tt, own_powers ts a (λ p h. k p (in_dividend h)), own_powers ts b (λ p h. k p (in_divisor h)))

  pub own_powers_of : (ts us : Trees) → ((p : Tree) → IsPartOf p us → IsPartOf p ts) → AllPartsOf (IsPowerOf ts) us
  own_powers_of ts none k = tt
  own_powers_of ts (more t us) k = (own_powers ts t (λ p h. k p (first h)), own_powers_of ts us (λ p h. k p (later h)))
