-- The first factor of a pair becomes a power in its place, once the exponent of the second is out.
use Rattle.product_reduce.proofs.Shared.{ℕ, ◌<◌, ◌≡◌, eqb, false, ap, ◌∙◌, removed, Tree, Trees, mult, none, more, count, nth, plain, children_of, inserted, Forest, Gives, root_tree, without_root}
use Rattle.product_reduce.proofs.Shared.{eqb-sym, given_told, Becomes, IsTakenOut, set_removed, IsAsBefore, as_before, changes_front, changes_rest, ChangesTree, IsHole, Place, set_child}
use Rattle.product_reduce.proofs.{Beside.{beside_apart, beside_product}, Products.{becomes_after}}

-- ---- the first of a pair is rewritten, once the exponent of the second is out

pub becomes_filled : {i : ℕ} {us : Trees} {f l new : Forest} (n : ℕ) (u : Tree) → Becomes i f l us → n < count us → ChangesTree i (set_child n u (plain (root_tree i l))) l new
    → Becomes i f new (inserted n (more u none) (removed n us))
becomes_filled {us = us} n u b l a = becomes_after b (record {
  product = record { handed = a.handed; tree = a.tree ∙ ap (set_child n u) b.product.tree ∙ ap mult (set_removed n u us l) };
  others = changes_rest a;
  front = changes_front a;
})

-- the exponent stands beside the product as it did before the first factor was taken out
pub record IsPairOut (i n e p : ℕ) (us : Trees) (x : Tree) (g h : Forest) : Type 0 where
  pub clear : eqb i e ≡ false
  pub beside : IsAsBefore e p g h
  pub factor : plain (root_tree p h) ≡ nth n us
  pub exponent : plain (root_tree e h) ≡ x

pub pair_out : {i n e p : ℕ} {ts : Trees} {x : Tree} {place : Place} {f g h : Forest} → IsTakenOut i ts f g e x → IsHole place i n g (without_root p h)
    → Gives (without_root p h) h p (λ t. t ≡ nth n (children_of (plain (root_tree i g)))) → IsPairOut i n e p ts x g h
pair_out {i = i} {n = n} {e = e} y o k =
    let product = beside_product y.beside y.becomes.product in
    let clear = eqb-sym e i (beside_apart i y.beside y.becomes.product.handed.root) in
    let b = as_before o k clear y.beside.handed in
    record { clear = clear; beside = b; factor = given_told k ∙ ap (λ (t : Tree). nth n (children_of t)) product.tree; exponent = b.same ∙ y.beside.tree }

-- ---- the power comes back
