-- For how few bytes products and powers are refused, how much their answers count, and where what spans them spans these.
use Rattle.std.specs.Prelude.{ℕ, suc, ◌+◌, ◌≡◌, ◌≤◌, ◌<◌, List, true, ◌&&◌, not, if◌then◌else◌, Some}
use Rattle.calc_algebra.specs.{Meanings.{IsAssignment}, Numbers.{is_number, natural_of}, Reduced.{is_reduced, are_reduced, is_whole_num}}
use Rattle.calc_room.specs.{Counts.{counted}, Spans.{SpansTree}}
use Rattle.calc_terms.specs.Trees.{Tree, num, power, root, Trees, is_mult}
use Rattle.power_reduce.specs.PowerSteps.{rewritten}
use Rattle.product_reduce.specs.Neighbours.{IsPairAt, joined_pair}
use Rattle.tree_room.specs.{Exponents.{IsCalm, zeros}, Needs.{power_room, product_power_room}}

-- where these names, each written once, are 0, each exponent in the tree means a whole number
pub record IsCalmAtZero (ns : List (List ℕ)) (t : Tree) : Type 0 where
  pub once : IsAssignment (zeros ns)
  pub calm : IsCalm (zeros ns) t

-- A tree in the place of another one, which is calm, counts c at most, is calm too, and is spanned by what spans that.
pub record KeepsRoom (c : ℕ) (t u : Tree) : Type 0 where
  pub counts : (ns : List (List ℕ)) → IsCalmAtZero ns t → counted u ≤ c
  pub calm : (ns : List (List ℕ)) → IsCalmAtZero ns t → IsCalmAtZero ns u
  pub spanned : (gs : List ℕ) (ns : List (List ℕ)) → IsCalmAtZero ns t → SpansTree gs t → SpansTree gs u

-- ---- powers

-- a whole power of b needs more where b is a product that is no Number, and counts 1 more there
abbrev pub whole_power_room : Tree → ℕ → ℕ
whole_power_room b m = if is_mult b && not (is_number b) then product_power_room (counted b) m else power_room (counted b) m

abbrev pub whole_power_count : Tree → ℕ
whole_power_count b = if is_mult b && not (is_number b) then 1 + counted b else counted b

-- another power counts no more than it did
abbrev pub power_count : Tree → Tree → ℕ
power_count b e = if is_whole_num e then whole_power_count b else counted (power b e)

-- of the root of a rational above 0, which takes p * q under it, that is spanned; of another tree's root, the tree
abbrev pub SpansRootOf : List ℕ → Tree → Type 0
SpansRootOf gs (num q) = 0 < natural_of q.num → SpansTree gs (root (num q))
SpansRootOf gs t = SpansTree gs t

-- a tree for half of an odd number as the power of b counts 1 more at most, is calm as b is, and is spanned by what spans the root of b
pub record KeepsRootRoom (b t : Tree) : Type 0 where
  pub counts : counted t ≤ 1 + counted b
  pub calm : (ns : List (List ℕ)) → IsCalmAtZero ns b → IsCalmAtZero ns t
  pub spanned : (gs : List ℕ) → SpansRootOf gs b → SpansTree gs t

-- t is what one rewriting makes of a whole power of reduced trees
pub record IsRewritten (b e t : Tree) : Type 0 where
  pub base : is_reduced b ≡ true
  pub exponent : is_reduced e ≡ true
  pub whole : is_whole_num e ≡ true
  pub is : rewritten b e ≡ Some t

-- ---- products

-- the factors at a place and behind it have one base, and are joined there
pub record IsJoinedFrom (at : ℕ) (ts us : Trees) : Type 0 where
  pub pair : IsPairAt at ts
  pub reduced : are_reduced ts ≡ true
  pub is : us ≡ joined_pair at (suc at) ts
