-- Names, their bytes and the eight bytes that hold them.
use Rattle.calc_terms.proofs.Shared.{◌≡◌, ℕ, zero, suc, ◌-◌, ◌≤◌, ◌≢◌, List, [], ◌∷◌, ◌++◌, length, take, drop, replicate, Bool, true, false, not, eqb, refl, sym, ap, ◌∙◌, subst, arith, ◌&&◌, ◌||◌}
use Rattle.calc_terms.proofs.Shared.{nat_le, nat_eq, codes, list_all, pointwise, ne_eqb, leb-true, le-leb, length-append, take_at, drop-replicate, length-replicate, append-nil, AllPass-from_list_all}
use Rattle.calc_terms.proofs.Shared.{list_all-from_AllPass, bytes_eq-Decides, is_name_byte, is_reserved, begins_with_letter, is_name, IsName, before_zero, padded, HoldsName}

pub both : (a b : Bool) → (a && b) ≡ true → (a ≡ true) × (b ≡ true)
both true b h = (refl, h)
both false b h = absurd cc

pub and : (a b : Bool) → a ≡ true → b ≡ true → (a && b) ≡ true
and a b h k = rw (h, k) refl

-- no byte of a name is zero
not_zero : (b : ℕ) → is_name_byte b ≡ true → eqb b 0 ≡ false
not_zero b h = ne_eqb b 0 (λ e. absurd (zero_is_none (subst (λ (x : ℕ). is_name_byte x ≡ true) e h)))
  where
    zero_is_none : is_name_byte 0 ≡ true → ⊥
    zero_is_none h = cc

pub before_zero-append : (x rest : List ℕ) → list_all is_name_byte x ≡ true → before_zero (x ++ 0 ∷ rest) ≡ x
before_zero-append [] rest h = refl
before_zero-append (b ∷ x) rest h =
    let p = both (is_name_byte b) (list_all is_name_byte x) h in
    rw (not_zero b p.0) (ap (λ (y : List ℕ). b ∷ y) (before_zero-append x rest p.1))

pub record IsSpelled (x : List ℕ) : Type 0 where
  pub begins : begins_with_letter x ≡ true
  pub spelled : list_all is_name_byte x ≡ true
  pub short : length x ≤ 7
  pub free : is_reserved x ≡ false

pub not_true : (b : Bool) → not b ≡ true → b ≡ false
not_true true h = absurd cc
not_true false h = refl

pub spelled : (x : List ℕ) → is_name x ≡ true → IsSpelled x
spelled x h =
    let a = both (begins_with_letter x && list_all is_name_byte x && nat_le (length x) 7) (not (is_reserved x)) h in
    let b = both (begins_with_letter x && list_all is_name_byte x) (nat_le (length x) 7) a.0 in
    let c = both (begins_with_letter x) (list_all is_name_byte x) b.0 in
    record { begins = c.0; spelled = c.1; short = leb-true (length x) 7 b.1; free = not_true (is_reserved x) a.1 }

-- a name in words
pub clash : (b : Bool) → b ≡ false → b ≡ true → ⊥
clash b h k = cc

reserved_not : (x y : List ℕ) → pointwise nat_eq x y ≡ false → x ≢ y
reserved_not x y h e = absurd (clash (pointwise nat_eq x y) h ((bytes_eq-Decides x y).1 e))

differs : (x y : List ℕ) → x ≢ y → pointwise nat_eq x y ≡ false
differs x y ne = by_test (pointwise nat_eq x y) refl
  where
    by_test : (b : Bool) → pointwise nat_eq x y ≡ b → b ≡ false
    by_test true e = absurd (ne ((bytes_eq-Decides x y).0 e))
    by_test false e = refl

pub neither : (a b : Bool) → (a || b) ≡ false → (a ≡ false) × (b ≡ false)
neither true b h = absurd cc
neither false b h = (refl, h)

to_words : (x : List ℕ) → is_name x ≡ true → IsName x
to_words x h =
    let s = spelled x h in
    let free = neither (pointwise nat_eq x (codes "sqrt")) (pointwise nat_eq x (codes "undef")) s.free in
    record {
      begins = s.begins;
      spelled = AllPass-from_list_all is_name_byte x s.spelled;
      short = s.short;
      not_sqrt = reserved_not x (codes "sqrt") free.0;
      not_undef = reserved_not x (codes "undef") free.1;
    }

from_words : (x : List ℕ) → IsName x → is_name x ≡ true
from_words x h =
    let sqrt = differs x (codes "sqrt") h.not_sqrt in
    let undef = differs x (codes "undef") h.not_undef in
    and _ _ (and _ _ (and _ _ h.begins (list_all-from_AllPass is_name_byte x h.spelled)) (le-leb (length x) 7 h.short)) (rw (sqrt, undef) refl)

-- a test that decides
pub in_words : (x : List ℕ) (b : Bool) → b ≡ is_name x → (b ≡ true → IsName x) × (IsName x → b ≡ true)
in_words x b e = (λ h. to_words x (sym e ∙ h), λ h. e ∙ from_words x h)

-- ---- eight bytes

before_zero-all : (x : List ℕ) → list_all is_name_byte x ≡ true → before_zero x ≡ x
before_zero-all [] h = refl
before_zero-all (b ∷ x) h =
    let p = both (is_name_byte b) (list_all is_name_byte x) h in
    rw (not_zero b p.0) (ap (λ (y : List ℕ). b ∷ y) (before_zero-all x p.1))

before_zero-padded_zeros : (x : List ℕ) (n : ℕ) → list_all is_name_byte x ≡ true → before_zero (x ++ replicate n 0) ≡ x
before_zero-padded_zeros x zero h = ap before_zero (append-nil x) ∙ before_zero-all x h
before_zero-padded_zeros x (suc n) h = before_zero-append x (replicate n 0) h

pub before_zero-padded : (x : List ℕ) → is_name x ≡ true → before_zero (padded x) ≡ x
before_zero-padded x h = before_zero-padded_zeros x (8 - length x) (spelled x h).spelled

pub length-padded : (x : List ℕ) → is_name x ≡ true → length (padded x) ≡ 8
length-padded x h = omega (arith, (spelled x h).short, length-append x (replicate (8 - length x) 0), length-replicate {A = ℕ} (8 - length x) 0)

-- a name's bytes in front of zeros
pub written : (x y : List ℕ) → is_name x ≡ true → y ≡ x → HoldsName (y ++ drop (length x) (0 ∷ 0 ∷ 0 ∷ 0 ∷ 0 ∷ 0 ∷ 0 ∷ 0 ∷ []))
written x y h e =
    let is : y ++ drop (length x) (0 ∷ 0 ∷ 0 ∷ 0 ∷ 0 ∷ 0 ∷ 0 ∷ 0 ∷ []) ≡ padded x = rw e (ap (λ (z : List ℕ). x ++ z) (drop-replicate (length x) 8 0)) in
    let same = ap before_zero is ∙ before_zero-padded x h in
    record { name = ap is_name same ∙ h; whole = is ∙ ap padded (sym same) }

pub written_back : (x y : List ℕ) → is_name x ≡ true → y ≡ x → before_zero (y ++ drop (length x) (0 ∷ 0 ∷ 0 ∷ 0 ∷ 0 ∷ 0 ∷ 0 ∷ 0 ∷ [])) ≡ x
written_back x y h e = rw e (ap (λ (z : List ℕ). before_zero (x ++ z)) (drop-replicate (length x) 8 0)) ∙ before_zero-padded x h

-- what stands before the zeros
pub front : (text : List ℕ) (n : ℕ) → HoldsName text → n ≡ length (before_zero text) → take n text ≡ before_zero text
front text n h e =
    let x = before_zero text in
    ap (λ (t : List ℕ). take n t) h.whole ∙ take_at x (replicate (8 - length x) 0) n (sym e)
