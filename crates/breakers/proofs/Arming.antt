-- Arming as far as it has come.
use Rattle.breakers.proofs.Shared.{◌≡◌, ℕ, zero, suc, ◌+◌, ◌<◌, ◌≤◌, List, [], ◌∷◌, true, false, length, get_or, map, refl, sym, ap, ◌∙◌, arith, add-one, set, get_or-map, map-set, length-map}
use Rattle.breakers.proofs.Shared.{set-get_or, cond-true, cond-false, list_any_at, list_any, State, armed_after, armed_first}

-- none of the first breakers, as many as this, can be armed
abbrev pub NoneArms : ℕ → List State → Type 0
NoneArms zero bs = Unit {0}
NoneArms (suc n) [] = Unit {0}
NoneArms (suc n) (b ∷ bs) = (b.can_be_armed ≡ false) × NoneArms n bs

-- the next breaker cannot be armed either
none-one : (n : ℕ) (bs : List State) (d : State) → NoneArms n bs → n < length bs
    → (get_or bs n d).can_be_armed ≡ false → NoneArms (suc n) bs
none-one n [] d p h e = absurd (omega arith)
none-one zero (b ∷ bs) d p h e = (e, tt)
none-one (suc n) (b ∷ bs) d p h e = (p.0, none-one n bs d p.1 (omega arith) e)

-- the next breaker can be armed, so it is the first
first-armed : (k n : ℕ) (bs : List State) (d : State) → NoneArms n bs → n < length bs
    → (get_or bs n d).can_be_armed ≡ true → set bs n (armed_after k (get_or bs n d)) ≡ armed_first k bs
first-armed k n [] d p h e = absurd (omega arith)
first-armed k zero (b ∷ bs) d p h e = sym (cond-true b.can_be_armed (armed_after k b ∷ bs) (b ∷ armed_first k bs) e)
first-armed k (suc n) (b ∷ bs) d p h e =
    ap (λ cs. b ∷ cs) (first-armed k n bs d p.1 (omega arith) e) ∙ sym (cond-false b.can_be_armed (armed_after k b ∷ bs) (b ∷ armed_first k bs) p.0)

-- where none can be armed, none is
first-none : (k n : ℕ) (bs : List State) → NoneArms n bs → length bs ≤ n → bs ≡ armed_first k bs
first-none k n [] p h = refl
first-none k zero (b ∷ bs) p h = absurd (omega arith)
first-none k (suc n) (b ∷ bs) p h =
    ap (λ cs. b ∷ cs) (first-none k n bs p.1 (omega arith)) ∙ sym (cond-false b.can_be_armed (armed_after k b ∷ bs) (b ∷ armed_first k bs) p.0)

none-any : (n : ℕ) (bs : List State) → NoneArms n bs → length bs ≤ n → false ≡ list_any (λ b. b.can_be_armed) bs
none-any n [] p h = refl
none-any zero (b ∷ bs) p h = absurd (omega arith)
none-any (suc n) (b ∷ bs) p h = rw p.0 (none-any n bs p.1 (omega arith))

-- the same of a list of things that have a state
module _ {A : Type 0} (state : A → State) where
  pub NoneArms-next : (n : ℕ) (xs ys : List A) (d : A) → NoneArms n (map state ys) → ys ≡ xs → n < length ys
      → (state (get_or ys n d)).can_be_armed ≡ false
      → NoneArms (n + 1) (map state (set ys n (get_or ys n d))) × (set ys n (get_or ys n d) ≡ xs)
  NoneArms-next n xs ys d p e h q =
      let same : set ys n (get_or ys n d) ≡ ys = set-get_or ys n d in
      (rw (same, add-one) (none-one n (map state ys) (state d) p (simp length-map h) (rw (get_or-map state ys n d) q)), same ∙ e)

  pub NoneArms-armed : (n k : ℕ) (old : List State) (ys new : List A) (d y : A) → map state ys ≡ old
      → new ≡ set ys n y → NoneArms n (map state ys) → n < length ys
      → (state (get_or ys n d)).can_be_armed ≡ true → state y ≡ armed_after k (state (get_or ys n d))
      → map state new ≡ armed_first k old
  NoneArms-armed n k old ys new d y e f p h q r =
      let at : get_or (map state ys) n (state d) ≡ state (get_or ys n d) = get_or-map state ys n d in
      let there : set (map state ys) n (armed_after k (get_or (map state ys) n (state d))) ≡ armed_first k (map state ys) =
      first-armed k n (map state ys) (state d) p (simp length-map h) (rw at q) in
      ap (λ zs. map state zs) f ∙ map-set state ys n y ∙ ap (λ s. set (map state ys) n s) (r ∙ ap (λ s. armed_after k s) (sym at))
      ∙ there ∙ ap (λ s. armed_first k s) e

  pub NoneArms-any : (n : ℕ) (old : List State) (ys : List A) (d : A) → map state ys ≡ old → n < length ys
      → (state (get_or ys n d)).can_be_armed ≡ true → true ≡ list_any (λ b. b.can_be_armed) old
  NoneArms-any n old ys d e h q =
      let there : list_any (λ b. b.can_be_armed) (map state ys) ≡ true =
      list_any_at (λ b. b.can_be_armed) (map state ys) n (state d) (simp length-map h) (rw (get_or-map state ys n d) q) in
      sym there ∙ ap (λ s. list_any (λ b. b.can_be_armed) s) e

  pub NoneArms-all : (n k : ℕ) (old : List State) (ys new : List A) → map state ys ≡ old → new ≡ ys
      → NoneArms n (map state ys) → length ys ≤ n
      → (map state new ≡ armed_first k old) × (false ≡ list_any (λ b. b.can_be_armed) old)
  NoneArms-all n k old ys new e f p h = (
    ap (λ zs. map state zs) f ∙ first-none k n (map state ys) p (simp length-map h) ∙ ap (λ s. armed_first k s) e,
    none-any n (map state ys) p (simp length-map h) ∙ ap (λ s. list_any (λ b. b.can_be_armed) s) e,
  )
