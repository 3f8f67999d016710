-- What is made of a tree: it is built in the free bytes, and the stored trees take the places of its names.
use Rattle.session_laws.proofs.Shared.{◌≡◌, ◌∙◌, ℕ, ◌+◌, ◌-◌, ◌<◌, ◌≤◌, List, Result, Ok, Err, refl, sym, subst, arith, building, building_takes_the_size, takes_room, Tree, depth, size, NamedTree}
use Rattle.session_laws.proofs.Shared.{fills, filled, filling, lacks, too_deep, Full, made, Fares, FitsOnTheWay, fares, fits_first}

no_room : (free : ℕ) (t : Tree) (full : Full) → building free t ≡ Err full → size t ≤ free → ⊥
no_room free t full e h = let b : ◌≡◌ {A = Result ℕ Full} (Err full) (Ok (free - size t)) = sym e ∙ (building_takes_the_size free t).1 h in cc

built_left : (free left : ℕ) (t : Tree) → building free t ≡ Ok left → left + size t ≡ free
built_left free left t e =
    let fits = takes_room free left t e in
    let b : ◌≡◌ {A = Result ℕ Full} (Ok left) (Ok (free - size t)) = sym e ∙ (building_takes_the_size free t).1 fits in
    let same : left ≡ free - size t = cc in
    omega (arith, fits, same)

made_fares : (free : ℕ) (vs : List NamedTree) (t : Tree) → Fares free vs t (made free vs t)
made_fares free vs t = by (building free t) (no_room free t) (λ left e. built_left free left t e)
  where
    by : (r : Result ℕ Full) → ((full : Full) → r ≡ Err full → size t ≤ free → ⊥) → ((left : ℕ) → r ≡ Ok left → left + size t ≡ free) → Fares free vs t (elim r [ Err f ↦ lacks f | Ok n ↦ filling n vs t ])
    by (Err f) h k = λ way. h f refl (omega (arith, fits_first free vs t way))
    by (Ok n) h k = fares free n vs t (k n refl)

module _ (free : ℕ) (vs : List NamedTree) (t : Tree) where
  pub made_left : (left : ℕ) (u : Tree) → made free vs t ≡ fills left u → left + size u ≡ free
  made_left left u e = (subst (Fares free vs t) e (made_fares free vs t)).0

  pub made_is : (left : ℕ) (u : Tree) → made free vs t ≡ fills left u → u ≡ filled vs t
  made_is left u e = (subst (Fares free vs t) e (made_fares free vs t)).1

  pub made_deep : made free vs t ≡ too_deep → 64 < depth (filled vs t)
  made_deep e = subst (Fares free vs t) e (made_fares free vs t)

  pub made_has_room : FitsOnTheWay free vs t → (full : Full) → made free vs t ≡ lacks full → ⊥
  made_has_room way full e = subst (Fares free vs t) e (made_fares free vs t) way
