-- What the nodes of a tree in a pool hold is valid.
use Rattle.line_text.proofs.Shared.{◌≡◌, ◌∙◌, ℕ, ◌∷◌, ◌++◌, true, subst, sym, IsPayload, State, Label, Forest, empty, tree, flatten, node_of, AllNodes, holds, tree_at, kids_of, Stands, forest}
use Rattle.line_text.proofs.Shared.{live_at, AreNodes, AreNodes-left, AreNodes-right}

abbrev pub HoldsPayload : Label → ℕ → Type 0
HoldsPayload l n = IsPayload l.payload

all_valid : (f : Forest) → AreNodes (flatten f) → AllNodes HoldsPayload f
all_valid empty h = tt
all_valid (tree l k r) h = (h.0.payload, all_valid k (AreNodes-left (flatten k) (flatten r) h.1), all_valid r (AreNodes-right (flatten k) (flatten r) h.1))

pub valid : (s : State) (i : ℕ) → Stands s → holds i (forest s) ≡ true → AllNodes HoldsPayload (tree_at i (forest s))
valid s i st h =
    let p = live_at i s h in
    let k = kids_of i (forest s) in
    let all : AreNodes (p.before ++ (node_of p.label k ∷ (flatten k ++ p.after))) = subst AreNodes (st.flat ∙ p.flat) st.pool.nodes in
    let here = AreNodes-right p.before (node_of p.label k ∷ (flatten k ++ p.after)) all in
    subst (AllNodes HoldsPayload) (sym p.tree-is) (here.0.payload, all_valid k (AreNodes-left (flatten k) p.after here.1), tt)
