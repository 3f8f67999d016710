-- What is answered for a whole tree, and where its reduction may end without an answer.
use Rattle.std.specs.Prelude.{ℕ, ◌≡◌, ◌≤◌, ◌<◌, true, false, List, length, Contains}
use Rattle.calc_algebra.specs.{BadAndEasy.{IsEasy}, Meanings.{IsAssignment}, Rewritings.{Reduces}}
use Rattle.calc_measures.specs.{Measures.{all_simple, bits, high, low, room, roots}, PlainOverflows.{is_overflow, nodes_to_overflow}, PlainValues.{plain_value}}
use Rattle.calc_measures.specs.PlainTrees.{IsPlainAnswer, IsPlainOverflow}
use Rattle.calc_room.specs.{Counts.{counted}, Spans.{SpansTree}}
use Rattle.calc_terms.specs.{Limits.{bits_limit}, Trees.{Tree, undef, is_undef, names, nodes}}
use Rattle.reduce_walk.specs.Leaves.{is_leaf}
use Rattle.rational128.specs.declared.overflow.Overflow.{Overflow}
use Rattle.product_reduce.specs.Bits.{IsFactorHeld}
use Rattle.tree_room.specs.Exponents.{IsCalm, zeros}
use Rattle.reduce_port.specs.EasyTrees.{Evaluates, HasEasyBadPart}

-- the answer counts at most the nodes of the tree, is spanned by as many radicands as that has roots, and is calm where its names are 0
pub record IsWithinTree (t answer : Tree) : Type 0 where
  pub counts : counted answer ≤ nodes t
  pub radicands : List ℕ
  pub few : length radicands ≤ roots t
  pub spanned : SpansTree radicands answer
  pub calm : (ns : List (List ℕ)) → IsAssignment (zeros ns) → ((x : List ℕ) → Contains (names t) x → Contains ns x) → IsCalm (zeros ns) answer

-- the answer for a tree t, whatever its parts are
pub record IsReducedFrom (t answer : Tree) : Type 0 where
  pub reduces : Reduces t answer
  pub easy : IsEasy t → Evaluates t answer
  pub bad_part : HasEasyBadPart t → answer ≡ undef
  pub plain : IsPlainAnswer (plain_value t) answer
  pub room : all_simple t ≡ true → IsWithinTree t answer
  pub held : all_simple t ≡ true → is_undef answer ≡ false → IsFactorHeld answer (high t) (low t)
  pub leaf : is_leaf t ≡ true → answer ≡ t

-- a tree whose powers are simple lacks bytes only where fewer than its room are at hand
abbrev pub MayLack : Tree → ℕ → Type 0
MayLack t bytes = all_simple t ≡ true → bytes < room t

-- an operation that does not fit at one of the tree's nodes: the one of its plain value, at the node that this tells, in a tree of more bits than the limit
pub record MayOverflow (t : Tree) (place : ℕ) (o : Overflow) : Type 0 where
  pub plain : IsPlainOverflow (plain_value t) o
  pub at_its_node : is_overflow (plain_value t) ≡ true → place ≡ nodes_to_overflow t
  pub beyond_bits : bits_limit < bits t
