-- Nodes of reduced trees, as their faces need them.
use Rattle.std.specs.Prelude.{ℕ, suc, ◌≡◌, ⊤, Bool, false, nat_lt}
use Rattle.calc_language.specs.Faces.{unsigned_face, exponent_below, has_minus}
use Rattle.calc_terms.specs.{Integers.{int_is_negative}, Trees.{Tree, num, symbol, add, mult, power, root, Trees, none, more, HasTwo}}

-- the faces of trees without their minus signs
abbrev pub unsigned_faces : Trees → Trees
unsigned_faces none = none
unsigned_faces (more t ts) = more (unsigned_face t) (unsigned_faces ts)

-- a rational below 0
abbrev pub is_negative_num : Tree → Bool
is_negative_num (num q) = int_is_negative q.num
is_negative_num _ = false

-- a power that stands below the line of a fraction
abbrev pub stands_below : Tree → Bool
stands_below (power b e) = nat_lt 0 (exponent_below e)
stands_below _ = false

-- what stands in a product
abbrev pub IsFactor : Tree → Type 0
IsFactor (num q) = ⊤
IsFactor (symbol x) = ⊤
IsFactor (add ts) = ⊤
IsFactor (power b e) = ⊤
IsFactor (root a) = ⊤
IsFactor _ = ⊥

abbrev pub AreFactors : Trees → Type 0
AreFactors none = ⊤
AreFactors (more t ts) = IsFactor t × AreFactors ts

-- the root's own node is one of a reduced tree that is not Undef; what a power has below the line has no minus sign
abbrev pub IsShowable : Tree → Type 0
IsShowable (num q) = ⊤
IsShowable (symbol x) = ⊤
IsShowable (add ts) = HasTwo ts
IsShowable (mult ts) = HasTwo ts × AreFactors ts
IsShowable (power b e) = (n : ℕ) → exponent_below e ≡ suc n → has_minus b ≡ false
IsShowable (root a) = ⊤
IsShowable _ = ⊥
