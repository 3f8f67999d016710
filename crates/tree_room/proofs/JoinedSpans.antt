-- What a list of radicands spans, two lists joined span.
use Rattle.tree_room.proofs.Shared.{◌≡◌, ℕ, ◌*◌, List, [], ◌∷◌, ◌++◌, Bool, false, refl, ap, ◌∙◌, arith, if◌then◌else◌, are_alike, AllParts-map, AllPartsOf-map, chosen_product, IsSpanned, SpansRoot}
use Rattle.tree_room.proofs.Shared.{SpansTree, SpansTrees, none_chosen, Tree, Trees}

-- one choice for each radicand; one that is missing does not take it
abbrev choices : List ℕ → List Bool → List Bool
choices [] cs = []
choices (g ∷ gs) [] = false ∷ choices gs []
choices (g ∷ gs) (c ∷ cs) = c ∷ choices gs cs

chosen_first : (gs hs : List ℕ) (cs : List Bool) → chosen_product (gs ++ hs) (choices gs cs) ≡ chosen_product gs cs
chosen_first [] hs cs = none_chosen hs
chosen_first (g ∷ gs) hs [] = omega (arith, chosen_first gs hs [], none_chosen gs)
chosen_first (g ∷ gs) hs (c ∷ cs) = ap (λ n. (if c then g else 1) * n) (chosen_first gs hs cs)

chosen_second : (gs hs : List ℕ) (cs : List Bool) → chosen_product (gs ++ hs) (choices gs [] ++ cs) ≡ chosen_product hs cs
chosen_second [] hs cs = refl
chosen_second (g ∷ gs) hs cs = omega (arith, chosen_second gs hs cs)

spanned_first : (gs hs : List ℕ) (r : ℕ) → IsSpanned gs r → IsSpanned (gs ++ hs) r
spanned_first gs hs r h = record { chosen = choices gs h.chosen; alike = ap (λ n. are_alike n r) (chosen_first gs hs h.chosen) ∙ h.alike }

spanned_second : (gs hs : List ℕ) (r : ℕ) → IsSpanned hs r → IsSpanned (gs ++ hs) r
spanned_second gs hs r h = record { chosen = choices gs [] ++ h.chosen; alike = ap (λ n. are_alike n r) (chosen_second gs hs h.chosen) ∙ h.alike }

-- by a longer list
root_by : (gs hs : List ℕ) → ((r : ℕ) → IsSpanned gs r → IsSpanned hs r) → (t : Tree) → SpansRoot gs t → SpansRoot hs t
root_by gs hs f t h = grind arith

pub tree_first : (gs hs : List ℕ) (t : Tree) → SpansTree gs t → SpansTree (gs ++ hs) t
tree_first gs hs t h = AllParts-map (SpansRoot gs) (SpansRoot (gs ++ hs)) (root_by gs (gs ++ hs) (spanned_first gs hs)) t h

pub tree_second : (gs hs : List ℕ) (t : Tree) → SpansTree hs t → SpansTree (gs ++ hs) t
tree_second gs hs t h = AllParts-map (SpansRoot hs) (SpansRoot (gs ++ hs)) (root_by hs (gs ++ hs) (spanned_second gs hs)) t h

pub trees_first : (gs hs : List ℕ) (ts : Trees) → SpansTrees gs ts → SpansTrees (gs ++ hs) ts
trees_first gs hs ts h = AllPartsOf-map (SpansRoot gs) (SpansRoot (gs ++ hs)) (root_by gs (gs ++ hs) (spanned_first gs hs)) ts h

pub trees_second : (gs hs : List ℕ) (ts : Trees) → SpansTrees hs ts → SpansTrees (gs ++ hs) ts
trees_second gs hs ts h = AllPartsOf-map (SpansRoot hs) (SpansRoot (gs ++ hs)) (root_by hs (gs ++ hs) (spanned_second gs hs)) ts h
