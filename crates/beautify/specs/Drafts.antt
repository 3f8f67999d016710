-- Trees that are written node by node, each parent before its children.
use Rattle.std.specs.Prelude.{ℕ, ◌≡◌, ◌≤◌, ⊤, List, [], ◌∷◌, ◌++◌, true, false}
use Rattle.beautify.specs.{Lists.{first, behind}, declared.draft.Noted.{Noted}}
use Rattle.calc_terms.specs.{Payload.{Payload}, Trees.{Trees, more, count}}
use Rattle.node_pool.specs.State.{State}
use Rattle.tree_handles.specs.{Expressions.{grown, takes}, Forest.{Forest, empty, join, one_tree}, Roots.{has_root}, Standing.{forest}}

-- a node that was written, and how many of the trees behind it become its children
pub record Written : Type 0 where
  pub id : ℕ
  pub payload : Payload
  pub children : ℕ

-- what is noted of nodes, the last one first in the list
abbrev pub notes_of : List Written → List Noted
notes_of [] = []
notes_of (w ∷ ws) = notes_of ws ++ (record { node = w.id; children = w.children }) ∷ []

-- the nodes one behind another, each alone
abbrev pub alone_in : List Written → Forest
alone_in [] = empty
alone_in (w ∷ ws) = join (alone_in ws) (one_tree w.id w.payload empty)

-- a node over the first of the trees behind it
abbrev pub with_written : Written → Trees → Trees
with_written w us = more (grown w.payload (first w.children us)) (behind w.children us)

-- the trees that they come to, where these trees stand behind them
abbrev pub spelled : List Written → Trees → Trees
spelled [] us = us
spelled (w ∷ ws) us = spelled ws (with_written w us)

-- each of them takes that many children, and finds them
abbrev pub AreFound : List Written → Trees → Type 0
AreFound [] us = ⊤
AreFound (w ∷ ws) us = (takes w.payload w.children ≡ true) × (w.children ≤ count us) × AreFound ws (with_written w us)

-- none of their identifiers is a root's before them
abbrev pub AreNew : List Written → Forest → Type 0
AreNew [] f = ⊤
AreNew (w ∷ ws) f = (has_root w.id (join f (alone_in ws)) ≡ false) × AreNew ws f

-- nodes were written behind a forest, which come to some trees where others, which are still owed, stand behind them
pub record IsDraft (base : Forest) (ts us : Trees) (notes : List Noted) (s : State) : Type 0 where
  pub nodes : List Written
  pub notes-are : notes ≡ notes_of nodes
  pub stand : forest s ≡ join base (alone_in nodes)
  pub new : AreNew nodes base
  pub found : AreFound nodes us
  pub spells : spelled nodes us ≡ ts
