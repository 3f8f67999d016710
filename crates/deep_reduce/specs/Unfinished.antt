-- Trees after one rewriting, some of whose powers are still to be reduced, and bounds on what comes of them.
use Rattle.std.specs.Prelude.{ℕ, ℤ, suc, ◌+◌, ◌≡◌, ◌≤◌, ◌<◌, max, true, false}
use Rattle.calc_measures.specs.Loads.{nest, nest_of, load, load_of_factors, weight}
use Rattle.calc_algebra.specs.{Reduced.{is_reduced, is_opaque_exponent, are_reduced, base_of}, Rewritings.{Rewrites, Reduces}}
use Rattle.calc_terms.specs.{Fractions.{whole_fraction}, Trees.{Tree, num, add, mult, power, Trees, none, more, count}}
use Rattle.node_bounds.specs.{HandedOn.{HandsOn}, Answers.{IsReducedPower}, Rooms.{KeepsRoom, IsRewritten, power_count}}
use Rattle.power_reduce.specs.{Bits.{IsHeldAsPowerOf}, PowerAnswers.{base_in, exponent_in}}
use Rattle.product_reduce.specs.{Answers.{IsFinished}, Gathering.{IsGathered}, Joining.{exponent_of}, Neighbours.{IsPairAt, joined_pair}}
use Rattle.sum_reduce.specs.{Bounds.{KeepsSumBounds}, SumAnswers.{IsSumAnswer}}
use Rattle.tree_handles.specs.{Expressions.{nth, children_of}, Holes.{set_tree}}

-- ---- bounds

-- the largest Nest of b, and of b to the power of one of these
abbrev pub nest_over : Tree → Trees → ℕ
nest_over b none = nest b
nest_over b (more t ts) = max (nest (power b t)) (nest_over b ts)

-- that of a tree whose exponent, a sum, is to be reduced
abbrev pub nest_of_joint : Tree → ℕ
nest_of_joint (power b (add ts)) = nest_over b ts
nest_of_joint t = nest t

-- that of a tree whose exponent, a product, is to be reduced
abbrev pub nest_of_rewritten : Tree → ℕ
nest_of_rewritten (power b (mult ts)) = nest_over b ts
nest_of_rewritten t = nest t

-- the weights of the bases of these powers
abbrev pub weight_of_bases : Trees → ℕ
weight_of_bases none = 0
weight_of_bases (more t ts) = weight (base_in t) + weight_of_bases ts

-- the weight of a power's base, or of the bases of the powers in a product
abbrev pub weight_below : Tree → ℕ
weight_below (mult ts) = weight_of_bases ts
weight_below t = weight (base_in t)

-- ---- trees

-- a power of reduced trees that is not opaque
pub record IsTransparent (t : Tree) : Type 0 where
  pub is : t ≡ power (base_in t) (exponent_in t)
  pub base_reduced : is_reduced (base_in t) ≡ true
  pub exponent_reduced : is_reduced (exponent_in t) ≡ true
  pub transparent : is_opaque_exponent (exponent_in t) ≡ false

abbrev pub AreTransparent : Trees → Type 0
AreTransparent none = Unit {0}
AreTransparent (more t ts) = IsTransparent t × AreTransparent ts

-- a reduced base to the power of a product of reduced trees
pub record IsNested (b : Tree) (ts : Trees) : Type 0 where
  pub base_reduced : is_reduced b ≡ true
  pub reduced : are_reduced ts ≡ true
  pub some : 1 ≤ count ts

-- a product of powers, or a power that may have a product as its exponent
abbrev pub IsUnfinished : Tree → Type 0
IsUnfinished (mult ts) = AreTransparent ts × (1 ≤ count ts)
IsUnfinished (power b (mult ts)) = IsNested b ts
IsUnfinished t = IsTransparent t

-- ---- what comes of them

-- the reduced tree
pub record Finishes (t r : Tree) : Type 0 where
  pub reduces : Reduces t r
  pub nest : nest r ≤ nest_of_rewritten t
  pub load : load r ≤ 1 + weight_below t
  pub room : (b e : Tree) → IsRewritten b e t → KeepsRoom (power_count b e) (power b e) r
  pub held : (b e : Tree) (n : ℤ) → IsRewritten b e t → e ≡ num (whole_fraction n) → IsHeldAsPowerOf n b r

-- a product in which the joint at a place is reduced
pub record IsSettled (at : ℕ) (ts : Trees) (t : Tree) : Type 0 where
  pub exponent : Tree
  pub sum : IsSumAnswer (children_of (exponent_in (nth at ts))) exponent
  pub bounds : KeepsSumBounds (children_of (exponent_in (nth at ts))) exponent
  pub factor : Tree
  pub answer : IsReducedPower (base_in (nth at ts)) exponent factor
  pub is : t ≡ mult (set_tree at factor ts)

-- factors of a product, and what they become: their Numbers one coefficient, with the others behind it in the order of
-- their bases; and two neighbours of one base that base to the sum of their exponents, reduced where the first one stood
pub data Joins : Trees → Trees → Type 0 where
  joins_none : {ts : Trees} → Joins ts ts
  joins_gathered : {ts : Trees} (u : Tree) → IsGathered ts u → Joins ts (children_of u)
  joins_pair : {ts : Trees} (at : ℕ) (e r : Tree) → IsPairAt at ts → IsSumAnswer (more (exponent_of (nth at ts)) (more (exponent_of (nth (suc at) ts)) none)) e → IsReducedPower (base_of (nth at ts)) e r
      → Joins ts (set_tree at r (joined_pair at (suc at) ts))
  joins_then : {ts us vs : Trees} → Joins ts us → Joins us vs → Joins ts vs

-- the finished product of these factors, joined until no two have one base
pub record IsJoinedProduct (ts : Trees) (t : Tree) : Type 0 where
  pub us : Trees
  pub joins : Joins ts us
  pub finished : IsFinished us t

-- a product of reduced factors with what these factors mean, which loads less
pub record IsLess (ts : Trees) (u : Tree) : Type 0 where
  pub is : u ≡ mult (children_of u)
  pub some : 1 ≤ count (children_of u)
  pub reduced : are_reduced (children_of u) ≡ true
  pub rewrites : Rewrites (mult ts) u
  pub nests : nest_of (children_of u) ≤ nest_of ts
  pub loads : load_of_factors (children_of u) < load_of_factors ts
  pub joins : Joins ts (children_of u)
  pub hands_on : HandsOn ts (children_of u)
