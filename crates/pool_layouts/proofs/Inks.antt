-- The characters of ink, and their bytes.
use Rattle.pool_layouts.proofs.Shared.{◌≡◌, ◌≢◌, ◌∙◌, ℕ, zero, suc, ◌+◌, ◌<◌, List, [], ◌∷◌, ◌++◌, replicate, encode_utf8_all, sym, ap, arith, append_assoc, append-nil, replicate-append-replicate}
use Rattle.pool_layouts.proofs.Shared.{encodes-append, Payload, IsPayload, Content, extended, Forest, payload_in, Ink, Leaf, IsBlack, IsInk, leaf_characters, ink_characters, inked, blanks_left}
use Rattle.pool_layouts.proofs.{Shared.{leaf_bytes, blanks}, Characters.{AreSmall, small_bytes, replicate_small, times_encoded, decimal_plain, names_plain, plain_small, plain_black}}

-- ---- characters of leaves

leaf_encoded : (x : Payload) → IsPayload x → leaf_characters x ≢ [] → encode_utf8_all (leaf_characters x) ≡ leaf_bytes x
leaf_encoded x h some = grind (arith, small_bytes, plain_small, decimal_plain, names_plain, times_encoded)

leaf_black : (x : Payload) → IsPayload x → IsBlack (leaf_characters x)
leaf_black x h = grind (arith, plain_black, decimal_plain, names_plain)

replicate_black : (n c : ℕ) → c ≢ 32 → IsBlack (replicate n c)
replicate_black zero c h = tt
replicate_black (suc n) c h = (h, replicate_black n c h)

pub ink_black : (f : Forest) (ink : Ink) → IsInk f ink → IsBlack (ink_characters f ink)
ink_black f ink h = grind (arith, leaf_black, replicate_black)

-- ---- what is written

pub blanks_encoded : (n : ℕ) → encode_utf8_all (blanks n) ≡ replicate n 32
blanks_encoded n = small_bytes (blanks n) (replicate_small n 32 (omega arith))

pub inked_some : (n : ℕ) (cs : List ℕ) → cs ≢ [] → inked n cs ≡ blanks n ++ cs
inked_some n cs h = grind arith

pub none_owed : (n : ℕ) (cs : List ℕ) → cs ≢ [] → blanks_left n cs ≡ 0
none_owed n cs h = grind arith

-- a leaf behind blanks
pub leaf_inked : (f : Forest) (i n : ℕ) → IsInk f (Leaf i) → encode_utf8_all (inked n (leaf_characters (payload_in i f))) ≡ replicate n 32 ++ leaf_bytes (payload_in i f)
leaf_inked f i n h =
    ap encode_utf8_all (inked_some n (leaf_characters (payload_in i f)) h.2) ∙ encodes-append (blanks n) (leaf_characters (payload_in i f))
    ∙ ap (λ (x : List ℕ). x ++ encode_utf8_all (leaf_characters (payload_in i f))) (blanks_encoded n)
    ∙ ap (λ (x : List ℕ). replicate n 32 ++ x) (leaf_encoded (payload_in i f) h.1 h.2)

-- one character behind blanks
pub character_inked : (c n : ℕ) (bytes : List ℕ) → encode_utf8_all (c ∷ []) ≡ bytes → encode_utf8_all (inked n (c ∷ [])) ≡ replicate n 32 ++ bytes
character_inked c n bytes e = encodes-append (blanks n) (c ∷ []) ∙ ap (λ (x : List ℕ). x ++ encode_utf8_all (c ∷ [])) (blanks_encoded n) ∙ ap (λ (x : List ℕ). replicate n 32 ++ x) e

-- a bar behind blanks
inked_small : (n : ℕ) (cs : List ℕ) → AreSmall cs → AreSmall (inked n cs)
inked_small n [] h = tt
inked_small n (c ∷ cs) h = both (blanks n) (c ∷ cs) (replicate_small n 32 (omega arith)) h
  where
    both : (a b : List ℕ) → AreSmall a → AreSmall b → AreSmall (a ++ b)
    both [] b g h = h
    both (x ∷ a) b g h = (g.0, both a b g.1 h)

pub bar_inked : (c n k : ℕ) → c < 128 → encode_utf8_all (inked n (replicate k c)) ≡ inked n (replicate k c)
bar_inked c n k h = small_bytes (inked n (replicate k c)) (inked_small n (replicate k c) (replicate_small k c h))

-- ---- contents

pub extended_twice : (t : Content) (a b : List ℕ) → extended (extended t a) b ≡ extended t (a ++ b)
extended_twice t a b = ap (λ (x : List ℕ). let r : Content = record { bytes = x; capacity = t.capacity } in r) (append_assoc t.bytes a b)

pub extended_none : (t : Content) → extended t [] ≡ t
extended_none t = ap (λ (x : List ℕ). let r : Content = record { bytes = x; capacity = t.capacity } in r) (append-nil t.bytes)

pub replicate_more : (n c : ℕ) → replicate (n + 1) c ≡ replicate n c ++ c ∷ []
replicate_more n c = sym (replicate-append-replicate n 1 c)
