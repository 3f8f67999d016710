-- What a filter by trips leaves of the states.
use Rattle.breakers.proofs.Shared.{◌≡◌, List, [], ◌∷◌, Bool, true, false, cond, map, refl, ap, ◌∙◌, ◌==◌, filter, State, kept}

module _ {A : Type 0} (state : A → State) where
  -- the states of the things that have not tripped are the states without trips
  kept_of_filter : (xs : List A) → map state (filter (λ x. (state x).trips == 0) xs) ≡ kept (map state xs)
  kept_of_filter [] = refl
  kept_of_filter (x ∷ xs) =
      let here : (b : Bool) → map state (cond b (x ∷ filter (λ y. (state y).trips == 0) xs) (filter (λ y. (state y).trips == 0) xs)) ≡ cond b (state x ∷ kept (map state xs)) (kept (map state xs)) =
      elim [ true ↦ ap (λ s. state x ∷ s) (kept_of_filter xs) | false ↦ kept_of_filter xs ] in
      here ((state x).trips == 0)

  pub kept_states : (xs ys : List A) → ys ≡ filter (λ x. (state x).trips == 0) xs → map state ys ≡ kept (map state xs)
  kept_states xs ys e = ap (λ zs. map state zs) e ∙ kept_of_filter xs
