-- How many classes a list of radicands spans.
use Rattle.calc_room.proofs.Shared.{◌≡◌, ℕ, suc, ◌+◌, ◌*◌, ◌^◌, ◌≤◌, List, [], ◌∷◌, length, Bool, true, false, refl, sym, ap, ◌∙◌, arith, ⊤, pow-suc, mul_assoc, one-mul, are_alike, alike_common}
use Rattle.calc_room.proofs.{Shared.{chosen_product, IsSpanned}, SpanLaws.{none_chosen}}

-- alike with none of them
abbrev pub NoneAlike : ℕ → List ℕ → Type 0
NoneAlike r [] = ⊤
NoneAlike r (s ∷ rs) = (are_alike r s ≡ false) × NoneAlike r rs

-- no two are alike
abbrev pub AreApart : List ℕ → Type 0
AreApart [] = ⊤
AreApart (r ∷ rs) = NoneAlike r rs × AreApart rs

-- each is spanned
abbrev pub AreSpanned : List ℕ → List ℕ → Type 0
AreSpanned gs [] = ⊤
AreSpanned gs (r ∷ rs) = IsSpanned gs r × AreSpanned gs rs

-- spanned, once m is divided out
record SpannedFrom (gs : List ℕ) (m r : ℕ) : Type 0 where
  chosen : List Bool
  alike : are_alike (m * chosen_product gs chosen) r ≡ true

abbrev EachFrom : List ℕ → ℕ → List ℕ → Type 0
EachFrom gs m [] = ⊤
EachFrom gs m (r ∷ rs) = SpannedFrom gs m r × EachFrom gs m rs

-- those that need no factor g, and those that need it
record Halves (gs : List ℕ) (m n : ℕ) (rs : List ℕ) : Type 0 where
  left : List ℕ
  right : List ℕ
  lengths : length left + length right ≡ length rs
  left_apart : AreApart left
  right_apart : AreApart right
  left_spanned : EachFrom gs m left
  right_spanned : EachFrom gs n right
  left_none : (r : ℕ) → NoneAlike r rs → NoneAlike r left
  right_none : (r : ℕ) → NoneAlike r rs → NoneAlike r right

to_left : (gs : List ℕ) (m n r : ℕ) (rs : List ℕ) → SpannedFrom gs m r → NoneAlike r rs → Halves gs m n rs → Halves gs m n (r ∷ rs)
to_left gs m n r rs s h k = record {
  left = r ∷ k.left;
  right = k.right;
  lengths = omega (arith, k.lengths);
  left_apart = (k.left_none r h, k.left_apart);
  right_apart = k.right_apart;
  left_spanned = (s, k.left_spanned);
  right_spanned = k.right_spanned;
  left_none = λ x y. (y.0, k.left_none x y.1);
  right_none = λ x y. k.right_none x y.1;
}

to_right : (gs : List ℕ) (m n r : ℕ) (rs : List ℕ) → SpannedFrom gs n r → NoneAlike r rs → Halves gs m n rs → Halves gs m n (r ∷ rs)
to_right gs m n r rs s h k = record {
  left = k.left;
  right = r ∷ k.right;
  lengths = omega (arith, k.lengths);
  left_apart = k.left_apart;
  right_apart = (k.right_none r h, k.right_apart);
  left_spanned = k.left_spanned;
  right_spanned = (s, k.right_spanned);
  left_none = λ x y. k.left_none x y.1;
  right_none = λ x y. (y.0, k.right_none x y.1);
}

halve : (g : ℕ) (gs : List ℕ) (m : ℕ) (rs : List ℕ) → AreApart rs → EachFrom (g ∷ gs) m rs → Halves gs m (m * g) rs
halve g gs m [] a e = record { left = []; right = []; lengths = refl; left_apart = tt; right_apart = tt; left_spanned = tt; right_spanned = tt; left_none = λ x y. tt; right_none = λ x y. tt }
halve g gs m (r ∷ rs) (a, as') (e, es) = by e.chosen e.alike (halve g gs m rs as' es)
  where
    by : (cs : List Bool) → are_alike (m * chosen_product (g ∷ gs) cs) r ≡ true → Halves gs m (m * g) rs → Halves gs m (m * g) (r ∷ rs)
    by [] h k = to_left gs m (m * g) r rs (record { chosen = []; alike = ap (λ n. are_alike (m * n) r) (none_chosen gs) ∙ h }) a k
    by (true ∷ cs) h k = to_right gs m (m * g) r rs (record { chosen = cs; alike = ap (λ n. are_alike n r) (mul_assoc m g (chosen_product gs cs)) ∙ h }) a k
    by (false ∷ cs) h k = to_left gs m (m * g) r rs (record { chosen = cs; alike = ap (λ n. are_alike (m * n) r) (sym (one-mul (chosen_product gs cs))) ∙ h }) a k

one_class : (m : ℕ) (rs : List ℕ) → AreApart rs → EachFrom [] m rs → length rs ≤ 1
one_class m [] a e = omega arith
one_class m (r ∷ []) a e = omega arith
one_class m (r ∷ s ∷ rs) (a, as') (e, (f, es)) =
    let x : are_alike r s ≡ true = alike_common r s (m * 1) e.alike f.alike in
    let y : are_alike r s ≡ false = a.0 in
    cc

doubled : (a b c n p q : ℕ) → a + b ≡ c → a ≤ n → b ≤ n → q ≡ n * 2 → c ≤ q
doubled a b c n p q e f g h = omega arith

few_from : (gs : List ℕ) (m : ℕ) (rs : List ℕ) → AreApart rs → EachFrom gs m rs → length rs ≤ 2 ^ length gs
few_from [] m rs a e = one_class m rs a e
few_from (g ∷ gs) m rs a e =
    let h : Halves gs m (m * g) rs = halve g gs m rs a e in
    doubled (length h.left) (length h.right) (length rs) (2 ^ length gs) 0 (2 ^ suc (length gs)) h.lengths
    (few_from gs m h.left h.left_apart h.left_spanned) (few_from gs (m * g) h.right h.right_apart h.right_spanned) (pow-suc 2 (length gs))

each_from : (gs : List ℕ) (rs : List ℕ) → AreSpanned gs rs → EachFrom gs 1 rs
each_from gs [] h = tt
each_from gs (r ∷ rs) (h, hs) = (record { chosen = h.chosen; alike = ap (λ n. are_alike n r) (one-mul (chosen_product gs h.chosen)) ∙ h.alike }, each_from gs rs hs)

-- numbers that are spanned, no two alike, are at most as many as there are choices
pub few_spanned : (gs rs : List ℕ) → AreApart rs → AreSpanned gs rs → length rs ≤ 2 ^ length gs
few_spanned gs rs a h = few_from gs 1 rs a (each_from gs rs h)
