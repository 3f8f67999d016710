-- What trees are put in order by.
use Rattle.std.specs.Prelude.{ℕ, zero, suc, ◌≡◌, ◌<◌, ◌==◌, if◌then◌else◌, true}
use Rattle.calc_algebra.specs.Reduced.{product_tree}
use Rattle.calc_terms.specs.Trees.{Tree, Trees, none, more, is_mult, count}
use Rattle.node_order.specs.declared.keys.Key.{Key}
use Rattle.tree_handles.specs.{Expressions.{plain, children_of, IsExpression}, Forest.{Forest}, Inside.{tree_at}}

-- the trees behind the first ones
abbrev pub trees_behind : ℕ → Trees → Trees
trees_behind zero ts = ts
trees_behind (suc n) none = none
trees_behind (suc n) (more t ts) = trees_behind n ts

-- the tree of a node, or the product of a product's factors behind the first ones
abbrev pub key_tree : Key → Forest → Tree
key_tree k f = if k.behind == 0 then plain (tree_at k.id f) else product_tree (trees_behind k.behind (children_of (plain (tree_at k.id f))))

-- a key of a tree of the language: where factors are left out the tree is a product, and not all are left out
pub record IsKey (k : Key) (f : Forest) : Type 0 where
  pub tree : IsExpression k.id f
  pub product : 0 < k.behind → is_mult (plain (tree_at k.id f)) ≡ true
  pub some : 0 < k.behind → k.behind < count (children_of (plain (tree_at k.id f)))
