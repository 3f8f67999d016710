-- Leaves, each of which is its own answer.
use Rattle.std.specs.Prelude.{ℕ, zero, suc, ◌≡◌, Bool, true, false}
use Rattle.calc_terms.specs.declared.kind.Kind.{Kind}
use Rattle.calc_terms.specs.declared.kind.Kind.TheVariants as kind
use Rattle.calc_terms.specs.Trees.{Tree, num, symbol, undef, Trees, none, more}

abbrev pub is_leaf : Tree → Bool
is_leaf (num q) = true
is_leaf (symbol x) = true
is_leaf undef = true
is_leaf _ = false

-- the kinds of leaves
abbrev pub is_leaf_kind : Kind → Bool
is_leaf_kind kind.Num = true
is_leaf_kind kind.Sym = true
is_leaf_kind kind.Undef = true
is_leaf_kind _ = false

-- there are n trees at least, and the first n are leaves
abbrev pub BeginWithLeaves : ℕ → Trees → Type 0
BeginWithLeaves zero ts = Unit {0}
BeginWithLeaves (suc n) none = ⊥
BeginWithLeaves (suc n) (more t ts) = (is_leaf t ≡ true) × BeginWithLeaves n ts
