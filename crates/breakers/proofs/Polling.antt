-- A check as far as it has come, and whose trips it makes rise.
use Rattle.breakers.proofs.Shared.{◌≡◌, ℕ, zero, suc, ◌+◌, ◌<◌, ◌≤◌, ◌↔◌, List, [], ◌∷◌, length, get_or, map, true, false, Some, None, Result, Ok, Err, refl, ap, subst, arith, add-one, set}
use Rattle.breakers.proofs.Shared.{get_or-map, map-set, length-map, State, Polls, Check, TripsRose, Interrupted}

-- the first breakers, as many as this, were polled and did not trip, and the others are as they were
abbrev pub PassedBelow : ℕ → List State → List State → Type 0
PassedBelow zero old new = new ≡ old
PassedBelow (suc n) (b ∷ bs) (c ∷ cs) = Polls b c false × PassedBelow n bs cs
PassedBelow (suc n) _ _ = ⊥

-- the next breaker is polled, and does not trip either
passed-one : (n : ℕ) (old mid : List State) (b c : State) → PassedBelow n old mid → n < length mid
    → Polls (get_or mid n b) c false → PassedBelow (suc n) old (set mid n c)
passed-one zero old [] b c p h q = absurd (omega arith)
passed-one zero [] (m ∷ ms) b c p h q = cc
passed-one zero (o ∷ os) (m ∷ ms) b c p h q =
    let same : m ≡ o = cc in
    (subst (λ s. Polls s c false) same q, cc)
passed-one (suc n) [] mid b c p h q = absurd p
passed-one (suc n) (o ∷ os) [] b c p h q = absurd p
passed-one (suc n) (o ∷ os) (m ∷ ms) b c p h q = (p.0, passed-one n os ms b c p.1 (omega arith) q)

-- the next breaker is polled, and trips
passed-tripped : (n : ℕ) (old mid : List State) (b c : State) → PassedBelow n old mid → n < length mid
    → Polls (get_or mid n b) c true → Check old (set mid n c) (Some n)
passed-tripped zero old [] b c p h q = absurd (omega arith)
passed-tripped zero [] (m ∷ ms) b c p h q = cc
passed-tripped zero (o ∷ os) (m ∷ ms) b c p h q =
    let same : m ≡ o = cc in
    (subst (λ s. Polls s c true) same q, cc)
passed-tripped (suc n) [] mid b c p h q = absurd p
passed-tripped (suc n) (o ∷ os) [] b c p h q = absurd p
passed-tripped (suc n) (o ∷ os) (m ∷ ms) b c p h q = (p.0, passed-tripped n os ms b c p.1 (omega arith) q)

-- no breaker is left to poll
passed-all : (n : ℕ) (old new : List State) → PassedBelow n old new → length new ≤ n → Check old new None
passed-all zero [] [] p h = tt
passed-all zero (o ∷ os) [] p h = cc
passed-all zero old (m ∷ ms) p h = absurd (omega arith)
passed-all (suc n) [] new p h = absurd p
passed-all (suc n) (o ∷ os) [] p h = absurd p
passed-all (suc n) (o ∷ os) (m ∷ ms) p h = (p.0, passed-all n os ms p.1 (omega arith))

-- in a check that no breaker trips in, no trips rise
calm_rises : (old new : List State) (place : ℕ) → Check old new None → TripsRose old new place → ⊥
calm_rises [] [] place c r = r
calm_rises [] (n ∷ ns) place c r = r
calm_rises (o ∷ os) [] place c r = r
calm_rises (o ∷ os) (n ∷ ns) zero c r = let p : Polls o n false = c.0 in omega arith
calm_rises (o ∷ os) (n ∷ ns) (suc place) c r = calm_rises os ns place c.1 r

-- where nothing was polled, no trips rose
pub unpolled : (old new : List State) (place : ℕ) → new ≡ old → TripsRose old new place → ⊥
unpolled [] [] place e r = r
unpolled [] (n ∷ ns) place e r = r
unpolled (o ∷ os) [] place e r = r
unpolled (o ∷ os) (n ∷ ns) zero e r = let same : n ≡ o = cc in let trips : n.trips ≡ o.trips = cc in omega arith
unpolled (o ∷ os) (n ∷ ns) (suc place) e r = let rest : ns ≡ os = cc in unpolled os ns place rest r

-- in a check that trips the breaker at a place, the trips rise there and nowhere else
pub tripped_rises : (old new : List State) (by place : ℕ) → Check old new (Some by)
    → (by ≡ place) ↔ TripsRose old new place
tripped_rises [] [] by place c = absurd c
tripped_rises [] (n ∷ ns) by place c = absurd c
tripped_rises (o ∷ os) [] by place c = absurd c
tripped_rises (o ∷ os) (n ∷ ns) zero zero c = let p : Polls o n true = c.0 in (λ e. omega arith, λ r. refl)
tripped_rises (o ∷ os) (n ∷ ns) zero (suc place) c = (λ e. absurd (omega arith), λ r. absurd (unpolled os ns place c.1 r))
tripped_rises (o ∷ os) (n ∷ ns) (suc by) zero c = let p : Polls o n false = c.0 in (λ e. absurd (omega arith), λ r. absurd (omega arith))
tripped_rises (o ∷ os) (n ∷ ns) (suc by) (suc place) c =
    let (there, back) = tripped_rises os ns by place c.1 in
    (λ e. there (omega arith), λ r. ap suc (back r))

-- what `check` answers tells where trips rose
pub calm_tells : (old new : List State) → Check old new None → (place : ℕ)
    → ◌≡◌ {A = Result (Unit {0}) Interrupted} (Ok tt) (Err (record { by = place })) ↔ TripsRose old new place
calm_tells old new c place = (λ e. absurd cc, λ r. absurd (calm_rises old new place c r))

pub tripped_tells : (old new : List State) (by : ℕ) → Check old new (Some by) → (place : ℕ)
    → ◌≡◌ {A = Result (Unit {0}) Interrupted} (Err (record { by = by })) (Err (record { by = place })) ↔ TripsRose old new place
tripped_tells old new by c place =
    let (there, back) = tripped_rises old new by place c in
    (λ e. there (let same : ◌≡◌ {A = Interrupted} (record { by = by }) (record { by = place }) = cc in ap (λ i. i.by) same), λ r. ap (λ n. Err (record { by = n })) (back r))

-- the same of a list of things that have a state
module _ {A : Type 0} (state : A → State) where
  pub PassedBelow-next : (n : ℕ) (xs ys : List A) (d y : A) → PassedBelow n (map state xs) (map state ys)
      → n < length ys → Polls (state (get_or ys n d)) (state y) false
      → PassedBelow (n + 1) (map state xs) (map state (set ys n y))
  PassedBelow-next n xs ys d y p h q =
      rw (add-one, map-set) (passed-one n (map state xs) (map state ys) (state d) (state y) p (simp length-map h) (rw (get_or-map state ys n d) q))

  pub PassedBelow-trip : (n : ℕ) (old : List State) (xs ys new : List A) (d y : A) → map state xs ≡ old
      → new ≡ set ys n y → PassedBelow n (map state xs) (map state ys) → n < length ys
      → Polls (state (get_or ys n d)) (state y) true → Check old (map state new) (Some n)
  PassedBelow-trip n old xs ys new d y e f p h q =
      rw (← e, f, map-set) (passed-tripped n (map state xs) (map state ys) (state d) (state y) p (simp length-map h) (rw (get_or-map state ys n d) q))

  pub PassedBelow-all : (n : ℕ) (old : List State) (xs ys new : List A) → map state xs ≡ old → new ≡ ys
      → PassedBelow n (map state xs) (map state ys) → length ys ≤ n → Check old (map state new) None
  PassedBelow-all n old xs ys new e f p h = rw (← e, f) (passed-all n (map state xs) (map state ys) p (simp length-map h))
