-- The span of a list of radicands: the radicands whose roots are rational multiples of products of theirs.
use Rattle.std.specs.Prelude.{ℕ, ◌*◌, ◌≡◌, ⊤, List, [], ◌∷◌, Bool, true, if◌then◌else◌}
use Rattle.calc_algebra.specs.{Numbers.{natural_of}, SquareClasses.{are_alike}, Surds.{Surd}}
use Rattle.calc_terms.specs.Trees.{Tree, num, root, Trees, AllParts, AllPartsOf}

-- the product of those that are chosen, place by place; 1 where none is
abbrev pub chosen_product : List ℕ → List Bool → ℕ
chosen_product [] cs = 1
chosen_product (g ∷ gs) [] = 1
chosen_product (g ∷ gs) (c ∷ cs) = (if c then g else 1) * chosen_product gs cs

-- r times the product of some of the radicands is a square, and not 0
pub record IsSpanned (gs : List ℕ) (r : ℕ) : Type 0 where
  pub chosen : List Bool
  pub alike : are_alike (chosen_product gs chosen) r ≡ true

-- each radicand of the surd is in the span
abbrev pub Spans : List ℕ → Surd → Type 0
Spans gs [] = ⊤
Spans gs (t ∷ v) = IsSpanned gs t.radicand × Spans gs v

-- of the root of p/q, p * q is in the span; nothing is asked of another tree
abbrev pub SpansRoot : List ℕ → Tree → Type 0
SpansRoot gs (root (num q)) = IsSpanned gs (natural_of q.num * q.den)
SpansRoot gs _ = ⊤

-- of each root of a rational in the tree
abbrev pub SpansTree : List ℕ → Tree → Type 0
SpansTree gs t = AllParts (SpansRoot gs) t

abbrev pub SpansTrees : List ℕ → Trees → Type 0
SpansTrees gs ts = AllPartsOf (SpansRoot gs) ts
