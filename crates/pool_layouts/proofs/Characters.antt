-- The characters of rows: their bytes, and the columns that they take.
use Rattle.pool_layouts.proofs.Shared.{◌≡◌, ◌∙◌, ℕ, zero, suc, ◌<◌, List, [], ◌∷◌, ◌++◌, length, replicate, nat_lt, nat_le, Bool, true, false, Some, refl, ap, arith, encode_utf8_all, encode_ascii}
use Rattle.pool_layouts.proofs.Shared.{le-leb, lt-ltb, list_all, and_from, and_parts, nat_tests, is_digit, is_name_byte, spelled, named, IsPayload, decimal, decimal_is, IsBlack, times_character}
use Rattle.pool_layouts.proofs.Shared.{root_character, times_sign, root_sign, sum_by-cons, sum_by, unwrap_or, is_simple, width_or_zero, TakeOneColumnEach}
use Rattle.std.specs.Char.{encode_utf8}
use Rattle.unicode_width.specs.Width.{char_width}
use Rattle.unicode_width.proofs.Computing.{unicode_width}

-- ---- their bytes

-- characters of one byte
abbrev pub AreSmall : List ℕ → Type 0
AreSmall [] = Unit {0}
AreSmall (c ∷ cs) = (c < 128) × AreSmall cs

pub small_bytes : (cs : List ℕ) → AreSmall cs → encode_utf8_all cs ≡ cs
small_bytes [] h = refl
small_bytes (c ∷ cs) h = (λ k. encode_ascii c h.0 k ++ small_bytes cs h.1 k)

pub replicate_small : (n c : ℕ) → c < 128 → AreSmall (replicate n c)
replicate_small zero c h = tt
replicate_small (suc n) c h = (h, replicate_small n c h)

-- × takes two bytes, and √ three
pub times_encoded : encode_utf8_all (times_character ∷ []) ≡ times_sign
unfolding encode_utf8
times_encoded = refl

pub root_encoded : encode_utf8_all (root_character ∷ []) ≡ root_sign
unfolding encode_utf8
root_encoded = refl

-- ---- their columns

-- a character of one column that joins no other
pub record IsNarrow (c : ℕ) : Type 0 where
  pub one : char_width false c ≡ Some 1
  pub simple : is_simple c ≡ true

pub printable : (c : ℕ) → nat_lt c 127 ≡ true → nat_le 32 c ≡ true → IsNarrow c
unfolding char_width
printable c h k = record { one = rw (h, k) refl; simple = grind (arith, nat_tests) }

pub times_narrow : IsNarrow times_character
unfolding unicode_width
times_narrow = record { one = refl; simple = refl }

pub root_narrow : IsNarrow root_character
unfolding unicode_width
root_narrow = record { one = refl; simple = refl }

abbrev pub AreNarrow : List ℕ → Type 0
AreNarrow [] = Unit {0}
AreNarrow (c ∷ cs) = IsNarrow c × AreNarrow cs

pub narrow_append : (xs ys : List ℕ) → AreNarrow xs → AreNarrow ys → AreNarrow (xs ++ ys)
narrow_append [] ys h k = k
narrow_append (x ∷ xs) ys h k = (h.0, narrow_append xs ys h.1 k)

pub narrow_replicate : (n c : ℕ) → IsNarrow c → AreNarrow (replicate n c)
narrow_replicate zero c h = tt
narrow_replicate (suc n) c h = (h, narrow_replicate n c h)

pub one_each : (cs : List ℕ) → AreNarrow cs → TakeOneColumnEach cs
one_each [] h = tt
one_each (c ∷ cs) h = (h.0.one, one_each cs h.1)

pub all_simple : (cs : List ℕ) → AreNarrow cs → list_all is_simple cs ≡ true
all_simple [] h = refl
all_simple (c ∷ cs) h = and_from (is_simple c) (list_all is_simple cs) h.0.simple (all_simple cs h.1)

pub all_columns : (cs : List ℕ) → AreNarrow cs → sum_by (width_or_zero false) cs ≡ length cs
all_columns [] h = refl
all_columns (c ∷ cs) h = sum_by-cons (width_or_zero false) c cs ∙ omega (arith, all_columns cs h.1, ap (λ o. unwrap_or o 0) h.0.one)

-- ---- characters of numbers and names: of one byte and one column, and none of them a blank

abbrev pub ArePlain : List ℕ → Type 0
ArePlain [] = Unit {0}
ArePlain (c ∷ cs) = (32 < c) × (c < 127) × ArePlain cs

plain_all : (p : ℕ → Bool) → ((c : ℕ) → p c ≡ true → (32 < c) × (c < 127)) → (cs : List ℕ) → list_all p cs ≡ true → ArePlain cs
plain_all p f [] h = tt
plain_all p f (c ∷ cs) h = let (a, b) = and_parts (p c) (list_all p cs) h in ((f c a).0, (f c a).1, plain_all p f cs b)

pub decimal_plain : (n : ℕ) → ArePlain (decimal n)
decimal_plain n = plain_all is_digit (λ c h. (grind (arith, nat_tests), grind (arith, nat_tests))) (decimal n) (decimal_is n).all

pub names_plain : (x : List ℕ) → IsPayload (named x) → ArePlain x
names_plain x h = plain_all is_name_byte (λ c k. (grind (arith, nat_tests), grind (arith, nat_tests))) x (spelled x h).spelled

pub plain_small : (cs : List ℕ) → ArePlain cs → AreSmall cs
plain_small [] h = tt
plain_small (c ∷ cs) h = (omega (arith, h.1), plain_small cs h.2)

pub plain_black : (cs : List ℕ) → ArePlain cs → IsBlack cs
plain_black [] h = tt
plain_black (c ∷ cs) h = (omega (arith, h.0), plain_black cs h.2)

pub plain_narrow : (cs : List ℕ) → ArePlain cs → AreNarrow cs
plain_narrow [] h = tt
plain_narrow (c ∷ cs) h = (printable c (lt-ltb c 127 h.1) (le-leb 32 c (omega (arith, h.0))), plain_narrow cs h.2)
