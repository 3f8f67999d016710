-- A new node, and new trees behind it that become its children.
use Rattle.number_forms.proofs.Shared.{◌≡◌, ◌<◌, ◌≤◌, ℕ, ◌+◌, true, refl, sym, ap, ◌∙◌, arith, payload_most, bare, rational, size_of_payload, ratio_of, append, count, sizes, Kind, Adds, Tree}
use Rattle.number_forms.proofs.Shared.{Trees, none, more, Rat, State, free_of, Full, refused_below, Gives, Ends, KeepsRefusals, IsRefused, Stands, forest, gives, last_root, adopted_all}
use Rattle.number_forms.proofs.Shared.{behind_there, represents_count, bytes_in-join, join-empty, join_assoc, used_forest, alone, sizes-plains, root-left, compound, takes_kind, Forest, Label}
use Rattle.number_forms.proofs.Shared.{arity, bytes_in, empty, join, one_tree, tree, adopted, behind_root, has_root, represents_join, represents_node, represents_none}

pub adds_none : (f : Forest) → Adds none f f
adds_none f = record { trees = empty; whole = sym (join-empty f); represents = represents_none }

pub adds_more : {ts : Trees} {t : Tree} {f g h : Forest} {j : ℕ} → Adds ts f g → Gives g h j (λ u. u ≡ t) → Adds (append ts (more t none)) f h
adds_more {f = f} a p = record {
  trees = join a.trees p.tree;
  whole = p.ends.whole ∙ ap (λ (x : Forest). join x p.tree) a.whole ∙ join_assoc f a.trees p.tree;
  represents = represents_join a.represents (record { once = p.once; whole = p.whole; plain_trees = alone p.tree p.ends.alone ∙ ap (λ (u : Tree). more u none) p.told });
}

abbrev label : ℕ → Kind → Label
label i k = record { id = i; count = 1; payload = bare k }

node_before : {i : ℕ} {k : Kind} {ts : Trees} {g f h : Forest} → Ends i (one_tree i (bare k) empty) g f → (a : Adds ts f h) → h ≡ join g (tree (label i k) empty a.trees)
node_before {i} {k} {g = g} e a = a.whole ∙ ap (λ (x : Forest). join x a.trees) e.whole ∙ join_assoc g (one_tree i (bare k) empty) a.trees

pub record CanAdopt (i n : ℕ) (f : Forest) : Type 0 where
  pub root : has_root i f ≡ true
  pub within : n ≤ arity (behind_root i f)

pub can_adopt : {i n : ℕ} {k : Kind} {ts : Trees} {g f h : Forest} → Ends i (one_tree i (bare k) empty) g f → Adds ts f h → n ≡ count ts → CanAdopt i n h
can_adopt {i} {n} {k} {g = g} {f = f} e a m = record {
  root = ap (has_root i) a.whole ∙ root-left i f a.trees (last_root e);
  within = omega (arith, m, represents_count a.represents, ap arity (ap (behind_root i) (node_before e a) ∙ behind_there i g a.trees empty (label i k) e.clear refl));
}

pub adopts : {i n : ℕ} {k : Kind} {ts : Trees} {g f h new : Forest} → Ends i (one_tree i (bare k) empty) g f → Adds ts f h → n ≡ count ts → takes_kind k (count ts) ≡ true → new ≡ adopted i n h
    → Gives g new i (λ u. u ≡ compound k ts)
adopts {i} {n} {k} {ts} {g} {f} {h} {new} e a m w q =
    let many : n ≡ arity a.trees = m ∙ sym (represents_count a.represents) in
    let whole : new ≡ join g (one_tree i (bare k) a.trees) = q ∙ ap (adopted i n) (node_before e a) ∙ adopted_all i n g a.trees empty (label i k) e.clear refl many in
    let ends : Ends i (one_tree i (bare k) a.trees) g new = record { whole = whole; alone = refl; root = refl; clear = e.clear } in
    gives ends (represents_node i (bare k) a.represents w) refl

-- ---- bytes

pub adds_free : {ts : Trees} {s t : State} → Stands s → Stands t → KeepsRefusals s t → Adds ts (forest s) (forest t) → free_of s ≡ free_of t + sizes ts
adds_free h k r a = grind (arith, used_forest, bytes_in-join, sizes-plains)

pub node_free : {i : ℕ} {k : Kind} {s t : State} → Stands s → Stands t → KeepsRefusals s t → Ends i (one_tree i (bare k) empty) (forest s) (forest t)
    → free_of s ≡ free_of t + size_of_payload (bare k)
node_free {i} {k} {s} {t} h st r e = omega (arith, used_forest s h, used_forest t st, r.size, h.pool.fits, st.pool.fits, ap bytes_in e.whole, bytes_in-join (forest s) (one_tree i (bare k) empty))

pub number_refused : (q : Rat) {s t : State} {full : Full} → IsRefused (size_of_payload (rational (ratio_of q))) s t full → free_of s < 40
number_refused q r = omega (arith, refused_below r, payload_most (rational (ratio_of q)))
