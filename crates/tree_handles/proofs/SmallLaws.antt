-- Small laws that several crates above cite.
use Rattle.tree_handles.proofs.Shared.{ℕ, zero, suc, ◌<◌, ◌≤◌, arith, ◌≡◌, refl, ap, [], ◌∷◌, ◌+◌, true, Trees, none, more, count, nodes, nodes_of, Tree, size, mult, is_mult, nth, children_of}
use Rattle.tree_handles.proofs.Shared.{set_tree, KeepsFront, Gives, AllOnce, Forest, join, empty, tree, arity, kids, root_count, without_root, State, free_of, KeepsRefusals, Stands, forest}
use Rattle.tree_handles.proofs.{Fronts.{starts_same, starts_join, starts_without}, Given.{given_told}, Room.{given_free}}

pub nodes_nth : (n : ℕ) (ts : Trees) → n < count ts → nodes (nth n ts) ≤ nodes_of ts
nodes_nth n none h = absurd (omega arith)
nodes_nth zero (more t ts) h = omega arith
nodes_nth (suc n) (more t ts) h = omega (arith, nodes_nth n ts (omega arith))

pub replaced_count : (n : ℕ) (u : Tree) (ts : Trees) → count (set_tree n u ts) ≡ count ts
replaced_count n u none = refl
replaced_count zero u (more t ts) = refl
replaced_count (suc n) u (more t ts) = ap suc (replaced_count n u ts)

pub starts_behind : {i : ℕ} {old new : Forest} (g : Forest) → new ≡ join (without_root i old) g → KeepsFront (i ∷ []) old new
starts_behind {i = i} {old = old} {new = new} g e = record { keeps = λ p s n. starts_same p (join (without_root i old) g) new e (starts_join p (without_root i old) g (starts_without i p old n.0 s)) }

pub grown_free : {s t : State} {i : ℕ} {u : Tree} → Stands s → Stands t → KeepsRefusals s t → Gives (forest s) (forest t) i (λ x. x ≡ u) → free_of s ≡ free_of t + size u
grown_free {t = t} h k r g = rw (given_free h k r g, given_told g) refl

pub mult_is : (t : Tree) → is_mult t ≡ true → t ≡ mult (children_of t)
mult_is t h = grind arith

pub once_one : (t : Forest) → arity t ≡ 1 → root_count t ≡ 1 → AllOnce (kids t) → AllOnce t
once_one empty e c h = tt
once_one (tree l b empty) e c h = (c, h, tt)
once_one (tree l b (tree m d s)) e c h = absurd (omega arith)
