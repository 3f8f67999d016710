-- What the tree of a line comes to.
use Rattle.std.specs.Prelude.{ℕ, ◌≡◌, ◌≤◌, ◌<◌, ⊤, true, false, List, Option, Some, None, Ok, Err, Contains}
use Rattle.breakers.specs.{Breakers.{CalmChecks}, State.{State as Breaker}}
use Rattle.calc_algebra.specs.{BadAndEasy.{IsEasy}, Rewritings.{Reduces}}
use Rattle.calc_language.specs.Faces.{face}
use Rattle.calc_measures.specs.{PlainOverflows.{is_overflow, nodes_to_overflow}, PlainTrees.{IsPlainAnswer, IsPlainOverflow}, PlainValues.{plain_value}}
use Rattle.calc_terms.specs.{Fits.{fraction_fits}, Limits.{bits_limit}, Rat.{value_of}, Trees.{Tree, num, undef, is_undef, names, nodes, size, AllParts}}
use Rattle.calc_parser.specs.Building.{building}
use Rattle.name_table.specs.Filling.{NamedTree, Filling, lacks, too_deep, fills, filling}
use Rattle.node_pool.specs.declared.full.Full.{Full}
use Rattle.rational128.specs.{Refusals.{operation_of}, declared.overflow.Overflow.{Overflow}}
use Rattle.reduce_port.specs.{Bounds.{MayExceed}, Checks.{CalmUpTo, TripsWithin}, EasyTrees.{Evaluates, HasEasyBadPart}}
use Rattle.tree_handles.specs.Causes.{Overflows}
use Rattle.calc_session.specs.Replies.{Reason, Reply, shown, stored, undefined, refused, deep, full, overflow, interrupted, circular}

abbrev pub IsFitting : Tree → Type 0
IsFitting (num q) = fraction_fits q ≡ true
IsFitting t = ⊤

-- numerator and denominator of each rational in it fit
abbrev pub HasFittingRationals : Tree → Type 0
HasFittingRationals t = AllParts IsFitting t

-- A tree is answered by another, where so many bytes are free: it is reduced, has no new name, and every meaning of the first, and it stood in these bytes.
pub record IsAnswerTo (free : ℕ) (t answer : Tree) : Type 0 where
  pub reduces : Reduces t answer
  pub easy : IsEasy t → Evaluates t answer
  pub bad_part : HasEasyBadPart t → answer ≡ undef
  pub plain : IsPlainAnswer (plain_value t) answer
  pub room : size answer ≤ free
  pub fitting : HasFittingRationals answer

-- the replies to a tree that was answered by this one, to be stored under the name where there is one
pub data IsReplyWith (answer : Tree) : Option (List ℕ) → Reply → Type 0 where
  has_no_value : {store : Option (List ℕ)} → is_undef answer ≡ true → IsReplyWith answer store undefined
  holds_its_name : {x : List ℕ} → is_undef answer ≡ false → Contains (names answer) x → IsReplyWith answer (Some x) (refused (circular x))
  is_shown : is_undef answer ≡ false → IsReplyWith answer None (shown (face answer))
  is_stored : {x : List ℕ} → is_undef answer ≡ false → ¬ (Contains (names answer) x) → IsReplyWith answer (Some x) (stored (face answer) x)

-- an operation in a tree does not fit: at its node where the tree is plain, and else only where the tree's bits may be more than 124
pub record OverflowsAt (bits : Option (Tree → ℕ)) (t : Tree) (before after : List Breaker) (o : Overflow) : Type 0 where
  pub does_not_fit : Overflows o
  pub plain : IsPlainOverflow (plain_value t) o
  pub beyond_bits : MayExceed bits t bits_limit
  pub checks : CalmUpTo (nodes t) before after
  pub plain_checks : is_overflow (plain_value t) ≡ true → CalmChecks (nodes_to_overflow t) before after

-- a node or a copy finds no room, where so many bytes were free for all: only where the tree's room may be more than these
pub record LacksRoom (room : Option (Tree → ℕ)) (free : ℕ) (t : Tree) (before after : List Breaker) (refusal : Full) : Type 0 where
  pub lacking : refusal.free < refusal.needed
  pub few : refusal.free ≤ free
  pub beyond_room : MayExceed room t free
  pub checks : CalmUpTo (nodes t) before after

-- The replies to a tree that is reduced, where so many bytes are free without it: by the room and bits that its reducer tells, the breakers before and after, and the name under which it is to be stored.
pub data IsReduction (room bits : Option (Tree → ℕ)) (free : ℕ) (t : Tree) (before after : List Breaker) (store : Option (List ℕ)) : Reply → Type 0 where
  is_interrupted : {by : ℕ} → TripsWithin (nodes t) before after by → IsReduction room bits free t before after store (refused (interrupted by))
  does_not_fit : (o : Overflow) → OverflowsAt bits t before after o → IsReduction room bits free t before after store (refused (overflow (operation_of o.op) (value_of o.a) (value_of o.b)))
  lacks_bytes : {refusal : Full} → LacksRoom room free t before after refusal → IsReduction room bits free t before after store (refused (full refusal))
  is_answered : {answer : Tree} {reply : Reply} → CalmChecks (nodes t) before after → IsAnswerTo free t answer → IsReplyWith answer store reply → IsReduction room bits free t before after store reply

-- A tree is built in the free bytes, and then the stored trees take the places of their names.
abbrev pub made : ℕ → List NamedTree → Tree → Filling
made free values t = elim (building free t) [ Err refusal ↦ lacks refusal | Ok left ↦ filling left values t ]

-- why it is refused
abbrev pub Unmade : Filling → Reason → Type 0
Unmade (lacks refusal) reason = reason ≡ full refusal
Unmade too_deep reason = reason ≡ deep
Unmade (fills left t) reason = ⊥

-- The replies to a tree that is to be made so: it is refused, or the replies are those to the tree that it became, with so many bytes left.
pub data IsReplyToMade (making : Filling) (before after : List Breaker) (IsReplyToTree : ℕ → Tree → Reply → Type 0) : Reply → Type 0 where
  is_not_made : {reason : Reason} → Unmade making reason → after ≡ before → IsReplyToMade making before after IsReplyToTree (refused reason)
  is_made : {left : ℕ} {t : Tree} {reply : Reply} → making ≡ fills left t → IsReplyToTree left t reply → IsReplyToMade making before after IsReplyToTree reply
