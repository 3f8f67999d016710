-- Sorted terms, and what is merged into them.
use Rattle.std.specs.Prelude.{ℕ, ◌<◌, ◌≤◌, ⊤, List, [], ◌∷◌}
use Rattle.polynomials.specs.declared.term.Term.{Term}

-- the packed monomials of all terms are below this one
abbrev pub AreBelow : ℕ → List Term → Type 0
AreBelow k [] = ⊤
AreBelow k (t ∷ ts) = (t.monomial < k) × AreBelow k ts

-- that of the first is not
abbrev pub StartsFrom : ℕ → List Term → Type 0
StartsFrom k [] = ⊤
StartsFrom k (t ∷ ts) = k ≤ t.monomial
