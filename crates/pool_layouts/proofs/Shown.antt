-- What a place of the list shows.
use Rattle.pool_layouts.proofs.Shared.{◌≡◌, ◌∙◌, ℕ, suc, ◌+◌, ◌<◌, List, ◌∷◌, length, drop, get_or, true, ap, arith, drop-cons, add-one, length-drop, State, Label}
use Rattle.pool_layouts.proofs.Shared.{Forest, empty, tree, root_payload, AllNodes, holds, tree_at, payload_in, Stands, forest, found, AreFound}

-- ---- the first of what is left

pub inside_list : {A : Type 0} (xs ys : List A) (n : ℕ) (x : A) → drop n xs ≡ x ∷ ys → n < length xs
inside_list xs ys n x e = omega (arith, ap length e, length-drop n xs)

pub first_is : {A : Type 0} (xs ys : List A) (n : ℕ) (x d : A) → drop n xs ≡ x ∷ ys → get_or xs n d ≡ x
first_is xs ys n x d e = let g : drop n xs ≡ get_or xs n d ∷ drop (suc n) xs = drop-cons xs n d (inside_list xs ys n x e) in cc

pub others_are : {A : Type 0} (xs ys : List A) (n : ℕ) (x : A) → drop n xs ≡ x ∷ ys → drop (n + 1) xs ≡ ys
others_are xs ys n x e = let g : drop n xs ≡ get_or xs n x ∷ drop (suc n) xs = drop-cons xs n x (inside_list xs ys n x e) in ap (λ (k : ℕ). drop k xs) (add-one n) ∙ cc

-- ---- the nodes of a tree in a pool are found there

abbrev pub IsKnown : Forest → Label → ℕ → Type 0
IsKnown base l n = (holds l.id base ≡ true) × (payload_in l.id base ≡ l.payload)

known_all : (base f : Forest) → AreFound base f → AllNodes (IsKnown base) f
known_all base empty h = tt
known_all base (tree l k r) h = ((h.0.0, ap root_payload h.0.1), known_all base k h.1, known_all base r h.2)

pub known : (s : State) (i : ℕ) → Stands s → AllNodes (IsKnown (forest s)) (tree_at i (forest s))
known s i st = known_all (forest s) (tree_at i (forest s)) (found i s st)
