-- What a caller knows of a layout that was given.
use Rattle.pool_layouts.proofs.Shared.{◌≡◌, ◌∙◌, ℕ, ◌≤◌, sym, ap, subst, arith, State, Forest, bytes_in, tree_at, Stands, forest, bytes_in-join, last_root, last_held}
use Rattle.pool_layouts.proofs.Shared.{last_tree, tree_of_root, used_forest, drawing, AllComposed, IsLayout, GivesLayout, Layout, part}

given_tree : {others : Forest} {s : State} {id : ℕ} {l : Layout} → Stands s → (g : GivesLayout others (forest s) id l) → tree_at id (forest s) ≡ g.tree
given_tree {id = id} st g = tree_of_root id st (last_root g.ends) ∙ last_tree g.ends

-- it is a layout tree
pub given_layout : {others : Forest} {s : State} {id : ℕ} {l : Layout} → Stands s → GivesLayout others (forest s) id l → IsLayout id (forest s)
given_layout st g = record { live = last_held g.ends; composed_whole = subst AllComposed (sym (given_tree st g)) g.composed_whole }

-- and which one it is
pub given_drawing : {others : Forest} {s : State} {id : ℕ} {l : Layout} → Stands s → GivesLayout others (forest s) id l → drawing (tree_at id (forest s)) ≡ l
given_drawing st g = ap drawing (given_tree st g) ∙ ap (part 0) g.drawing_is

-- its bytes are at most those of the pool
pub given_room : {others : Forest} {s : State} {id : ℕ} {l : Layout} → Stands s → GivesLayout others (forest s) id l → bytes_in (tree_at id (forest s)) ≤ s.size
given_room {others = others} {s = s} st g =
    omega (arith, ap bytes_in (given_tree st g), used_forest s st, ap bytes_in g.ends.whole, bytes_in-join others g.tree, st.pool.fits)
