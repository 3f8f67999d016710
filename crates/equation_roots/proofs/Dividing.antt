-- A division by aX + b under way.
use Rattle.std.proofs.Common.{◌≡◌, ◌≢◌, ℕ, ◌+◌, ◌<◌, ◌≤◌, ℤ, pos, ◌+ℤ◌, ◌*ℤ◌, List, [], ◌∷◌, ◌++◌, length, get_or, take, drop, refl, sym, ap, ◌∙◌, arith, append_assoc, length-drop, Bool, true, false}
use Rattle.std.proofs.{Math.Seq.{take-suc, drop-cons}, lemmas.{Int.{ints}, List.{append-nil, drop_all, length-reverse, reverse-reverse, take-append-drop}}}
use Rattle.equation_roots.specs.Wholes.{linear_product, read}
use Rattle.equation_roots.proofs.{Linear.{length-linear}, Wide.{cancel_factor, times_zero_int}}

-- with so many coefficients of the quotient, the last of which is l
pub record Started (a b : ℤ) (r qs : List ℤ) (l : ℤ) (at : ℕ) : Type 0 where
  pub made : (rs : List ℤ) (y : ℤ) → linear_product a b (pos 0) (qs ++ rs) y ≡ take at r ++ linear_product a b l rs y
  pub unique : (ws : List ℤ) → linear_product a b (pos 0) ws (pos 0) ≡ r → (rs : List ℤ) × (ws ≡ qs ++ rs) × (linear_product a b l rs (pos 0) ≡ drop at r)

pub started_none : (a b : ℤ) (r : List ℤ) → Started a b r [] (pos 0) 0
started_none a b r = record { made = λ rs y. refl; unique = λ ws e. (ws, refl, e) }

first_is : (z w : ℤ) (zs ws : List ℤ) → z ∷ zs ≡ w ∷ ws → z ≡ w
first_is z w zs ws e = cc

others_are : (z w : ℤ) (zs ws : List ℤ) → z ∷ zs ≡ w ∷ ws → zs ≡ ws
others_are z w zs ws e = cc

next_of : (r : List ℤ) (at : ℕ) → at < length r → drop at r ≡ get_or r at (pos 0) ∷ drop (at + 1) r
next_of r at h = grind (arith, drop-cons)

front_of : (r : List ℤ) (at : ℕ) → at < length r → take (at + 1) r ≡ take at r ++ get_or r at (pos 0) ∷ []
front_of r at h = grind (arith, take-suc)

-- what comes next of a quotient
more_of : (a b l c : ℤ) (d rs : List ℤ) → 0 < length d → linear_product a b l rs (pos 0) ≡ c ∷ d → (x : ℤ) × (ws : List ℤ) × (rs ≡ x ∷ ws) × (a *ℤ l +ℤ b *ℤ x ≡ c) × (linear_product a b x ws (pos 0) ≡ d)
more_of a b l c d [] h e = absurd (omega (arith, h, ap length (others_are _ _ _ _ e)))
more_of a b l c d (x ∷ ws) h e = (x, ws, refl, first_is _ _ _ _ e, others_are _ _ _ _ e)

module _ (a b : ℤ) (r qs : List ℤ) (l : ℤ) (at : ℕ) (s : Started a b r qs l at) where
  next : (ws : List ℤ) → at + 1 < length r → linear_product a b (pos 0) ws (pos 0) ≡ r
      → (x : ℤ) × (rs : List ℤ) × (ws ≡ qs ++ x ∷ rs) × (a *ℤ l +ℤ b *ℤ x ≡ get_or r at (pos 0)) × (linear_product a b x rs (pos 0) ≡ drop (at + 1) r)
  next ws h e =
      let u = s.unique ws e in
      let m = more_of a b l (get_or r at (pos 0)) (drop (at + 1) r) u.0 (omega (arith, length-drop (at + 1) r)) (u.2 ∙ next_of r at (omega arith)) in
      (m.0, m.1, u.1 ∙ ap (λ z. qs ++ z) m.2, m.3, m.4)

  pub started_more : (x : ℤ) → b ≢ pos 0 → at + 1 < length r → a *ℤ l +ℤ b *ℤ x ≡ get_or r at (pos 0) → Started a b r (qs ++ x ∷ []) x (at + 1)
  started_more x z h e = record {
    made = λ rs y.
        ap (λ w. linear_product a b (pos 0) w y) (append_assoc qs (x ∷ []) rs) ∙ s.made (x ∷ rs) y ∙ ap (λ c. take at r ++ c ∷ linear_product a b x rs y) e
        ∙ sym (append_assoc (take at r) (get_or r at (pos 0) ∷ []) (linear_product a b x rs y)) ∙ ap (λ w. w ++ linear_product a b x rs y) (sym (front_of r at (omega arith)));
    unique = λ ws f.
        let n = next ws h f in
        let same : n.0 ≡ x = cancel_factor b n.0 x z (left_cancel (a *ℤ l) (b *ℤ n.0) (b *ℤ x) (n.3 ∙ sym e)) in
        (n.1, n.2 ∙ ap (λ y. qs ++ y ∷ n.1) same ∙ sym (append_assoc qs (x ∷ []) n.1), ap (λ y. linear_product a b y n.1 (pos 0)) (sym same) ∙ n.4);
  }
    where
      left_cancel : (p q t : ℤ) → p +ℤ q ≡ p +ℤ t → q ≡ t
      left_cancel p q t e = omega (arith, ints)

  pub started_stops : at + 1 < length r → ((x : ℤ) → a *ℤ l +ℤ b *ℤ x ≢ get_or r at (pos 0)) → (ws : List ℤ) → linear_product a b (pos 0) ws (pos 0) ≢ r
  started_stops h k ws e = let n = next ws h e in k n.0 n.3

  last_of : at + 1 ≡ length r → drop at r ≡ get_or r at (pos 0) ∷ []
  last_of h = next_of r at (omega (arith, h)) ∙ ap (λ w. get_or r at (pos 0) ∷ w) (past (at + 1) r (omega (arith, h)))
    where
      past : (n : ℕ) (w : List ℤ) → length w ≤ n → drop n w ≡ []
      past n w g = drop_all n w g

  zero_after : a *ℤ l +ℤ b *ℤ pos 0 ≡ a *ℤ l
  zero_after = ap (λ z. a *ℤ l +ℤ z) (times_zero_int b) ∙ plus_zero_int (a *ℤ l)
    where
      plus_zero_int : (z : ℤ) → z +ℤ pos 0 ≡ z
      plus_zero_int z = omega (arith, ints)

  pub started_done : at + 1 ≡ length r → a *ℤ l ≡ get_or r at (pos 0) → linear_product a b (pos 0) qs (pos 0) ≡ r
  started_done h e =
      ap (λ w. linear_product a b (pos 0) w (pos 0)) (sym (append-nil qs)) ∙ s.made [] (pos 0) ∙ ap (λ z. take at r ++ z ∷ []) (zero_after ∙ e)
      ∙ ap (λ w. take at r ++ w) (sym (last_of h)) ∙ whole
    where
      whole : take at r ++ drop at r ≡ r
      whole = take-append-drop at r

  pub started_fails : at + 1 ≡ length r → a *ℤ l ≢ get_or r at (pos 0) → (ws : List ℤ) → linear_product a b (pos 0) ws (pos 0) ≢ r
  started_fails h k ws e =
      let u = s.unique ws e in
      only u.0 (u.2 ∙ last_of h)
    where
      only : (rs : List ℤ) → linear_product a b l rs (pos 0) ≡ get_or r at (pos 0) ∷ [] → ⊥
      only [] f = k (sym zero_after ∙ first_is _ _ _ _ f)
      only (x ∷ rs) f = let n : length (linear_product a b x rs (pos 0)) ≡ 0 = ap length (others_are _ _ _ _ f) in absurd (omega (arith, length-linear a b x rs (pos 0), n))

pub read_length : (b : Bool) (zs : List ℤ) → length (read b zs) ≡ length zs
read_length true zs = length-reverse zs
read_length false zs = refl

pub read_twice : (b : Bool) (zs : List ℤ) → read b (read b zs) ≡ zs
read_twice true zs = reverse-reverse zs
read_twice false zs = refl
