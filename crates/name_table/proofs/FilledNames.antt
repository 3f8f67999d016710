-- Names of filled trees.
use Rattle.name_table.proofs.Shared.{◌≡◌, ℕ, ◌⊎◌, inl, inr, List, [], ◌∷◌, map, refl, sym, ap, subst, Contains, Tree, Forest, replaced, LacksNames, NamedTree, filled, value_in, values, HasEntries}
use Rattle.name_table.proofs.{Shared.{HoldLaterNames, IsHeld, Entry, Table, entries, table_names, behind, in_front, where_in, names_of_replaced}, Later.{names_of_entries}}
use Rattle.calc_terms.proofs.SmallLaws.{nobody as none_in}

-- the names of the new tree
still_lacks : (passed : List (List ℕ)) (v : NamedTree) (t : Tree) → LacksNames passed t → LacksNames (v.name ∷ passed) v.tree → LacksNames (v.name ∷ passed) (replaced v.name v.tree t)
still_lacks passed v t l m y c k =
    elim (names_of_replaced v.name v.tree t y k) [
      | inl p ↦ elim (where_in v.name y passed c) [ inl e ↦ p.1 (sym e) | inr d ↦ l y d p.0 ]
      | inr q ↦ m y c q
    ]

-- the names that are passed
covers_more : (x : List ℕ) (ns passed rest : List (List ℕ)) → ((y : List ℕ) → Contains ns y → Contains passed y ⊎ Contains (x ∷ rest) y) → (y : List ℕ) → Contains ns y → Contains (x ∷ passed) y ⊎ Contains rest y
covers_more x ns passed rest s y c =
    elim (s y c) [ inl p ↦ inl (behind x y passed p) | inr q ↦ elim (where_in x y rest q) [ inl e ↦ inl (subst (Contains (x ∷ passed)) e (in_front x passed)) | inr r ↦ inr r ] ]

-- each name that was passed is gone, since a tree holds later names alone
filled_later : (all passed : List (List ℕ)) (vs : List NamedTree) (t : Tree) → HoldLaterNames passed vs → LacksNames passed t → ((y : List ℕ) → Contains all y → Contains passed y ⊎ Contains (map (λ v. v.name) vs) y) → LacksNames all (filled vs t)
filled_later all passed [] t h l s = λ y c. elim (s y c) [ inl p ↦ l y p | inr q ↦ absurd (none_in y q) ]
filled_later all passed (v ∷ vs) t h l s =
    filled_later all (v.name ∷ passed) vs (replaced v.name v.tree t) h.1 (still_lacks passed v t l h.0) (covers_more v.name all passed (map (λ w. w.name) vs) s)

names-values : (f : Forest) (es : List Entry) → map (λ v. v.name) (map (value_in f) es) ≡ names_of_entries es
names-values f [] = refl
names-values f (e ∷ es) = ap (λ (xs : List (List ℕ)). e.name ∷ xs) (names-values f es)

pub entries_lack : (t : Table) (f : Forest) (u : Tree) → HasEntries t f → LacksNames (table_names t) (filled (values t f) u)
entries_lack t f u held =
    filled_later (table_names t) [] (values t f) u held.later (λ x c. absurd (none_in x c)) (λ y c. inr (subst (λ (xs : List (List ℕ)). Contains xs y) (sym (names-values f (entries t))) c))

pub filled_lacks : (t : Table) (f : Forest) (u : Tree) → IsHeld t f → LacksNames (table_names t) (filled (values t f) u)
filled_lacks t f u held = entries_lack t f u (record { roots = held.roots; whole = held.whole; later = held.later })
