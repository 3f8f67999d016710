-- What the expansion of a tree comes to.
use Rattle.std.specs.Prelude.{ℕ, ◌≡◌, ◌≤◌, ◌<◌, List, true, false}
use Rattle.breakers.specs.{Breakers.{CalmChecks}, State.{State as Breaker}}
use Rattle.calc_language.specs.{Faces.{face}, Texts.{text}}
use Rattle.calc_measures.specs.Measures.{bits}
use Rattle.calc_terms.specs.{Limits.{bits_limit}, Rat.{value_of}, Trees.{Tree, nodes}}
use Rattle.expansions.specs.{ExpandedTrees.{expanded}, ExpansionRoom.{expansion_room}, PolynomialTrees.{is_polynomial, polynomial_of}}
use Rattle.node_pool.specs.declared.full.Full.{Full}
use Rattle.rational128.specs.{Refusals.{operation_of}, declared.overflow.Overflow.{Overflow}}
use Rattle.reduce_port.specs.Checks.{CalmUpTo, TripsWithin}
use Rattle.tree_handles.specs.Causes.{Overflows}
use Rattle.calc_session.specs.Replies.{Reply, report, refused, full, overflow, interrupted, not_polynomial}

-- the text of the face of the expanded tree
abbrev pub expansion_text : Tree → List ℕ
expansion_text t = text (face (expanded (polynomial_of t)))

-- a node or a copy finds no room, where so many bytes were free for all: only where the room of the tree's expansion is more than these
pub record LacksExpansionRoom (free : ℕ) (t : Tree) (before after : List Breaker) (refusal : Full) : Type 0 where
  pub lacking : refusal.free < refusal.needed
  pub few : refusal.free ≤ free
  pub beyond_room : free < expansion_room t
  pub checks : CalmUpTo (nodes t) before after

-- an operation in a tree does not fit: only where the tree's bits are more than 124
pub record OverflowsBeyondBits (t : Tree) (before after : List Breaker) (o : Overflow) : Type 0 where
  pub does_not_fit : Overflows o
  pub beyond_bits : bits_limit < bits t
  pub checks : CalmUpTo (nodes t) before after

-- The replies to a tree that is to be expanded, where so many bytes are free without it, and these are left with it: it is no polynomial, which is known before any check; or it is expanded in its place.
pub data IsReplyToExpansion (free : ℕ) (before after : List Breaker) (left : ℕ) (t : Tree) : Reply → Type 0 where
  is_no_polynomial : is_polynomial t ≡ false → after ≡ before → IsReplyToExpansion free before after left t (refused not_polynomial)
  is_interrupted : {by : ℕ} → is_polynomial t ≡ true → TripsWithin (nodes t) before after by → IsReplyToExpansion free before after left t (refused (interrupted by))
  does_not_fit : (o : Overflow) → is_polynomial t ≡ true → OverflowsBeyondBits t before after o → IsReplyToExpansion free before after left t (refused (overflow (operation_of o.op) (value_of o.a) (value_of o.b)))
  lacks_bytes : {refusal : Full} → is_polynomial t ≡ true → LacksExpansionRoom free t before after refusal → IsReplyToExpansion free before after left t (refused (full refusal))
  is_expanded : is_polynomial t ≡ true → CalmChecks (nodes t) before after → IsReplyToExpansion free before after left t (report (expansion_text t))
