-- Trees whose nodes are all derivable.
use Rattle.dual_diff.proofs.Shared.{◌≡◌, ℕ, zero, suc, ◌<◌, ◌≤◌, List, true, sym, subst, arith, Tree, Trees, none, more, count, nodes, root_kind, AllParts, AllPartsOf, nth}
use Rattle.dual_diff.proofs.{Shared.{children_of, HasDerivative, IsDerivable, IsDerivableExponent, first, occurs}, Exponents.derivable_exponent, Forms.{first_all, smaller_child}}
use Rattle.dual_diff.proofs.Shared.{CanDerive, Holds, IsExpression, Kind, Stands, State, forest, tree_of}
use Rattle.calc_terms.specs.declared.kind.Kind.TheVariants as kind

pub of_root : (x : List ℕ) (t : Tree) → HasDerivative x t → IsDerivable x t
of_root x t h = grind arith

pub of_children : (x : List ℕ) (t : Tree) → HasDerivative x t → AllPartsOf (IsDerivable x) (children_of t)
of_children x t h = grind arith

pub of_node : (x : List ℕ) (t : Tree) → IsDerivable x t → AllPartsOf (IsDerivable x) (children_of t) → HasDerivative x t
of_node x t h k = grind arith

pub at_place : (P : Tree → Type 0) (n : ℕ) (ts : Trees) → n < count ts → AllPartsOf P ts → AllParts P (nth n ts)
at_place P n none l h = absurd (omega arith)
at_place P zero (more t ts) l h = h.0
at_place P (suc n) (more t ts) l h = at_place P n ts (omega arith) h.1

-- a child of a tree that has a derivative has one
pub of_child : (x : List ℕ) (n : ℕ) (t : Tree) → n < count (children_of t) → HasDerivative x t → HasDerivative x (nth n (children_of t))
of_child x n t l h = at_place (IsDerivable x) n (children_of t) l (of_children x t h)

-- a child, whose tree is smaller
pub record IsChild (x : List ℕ) (a t : Tree) : Type 0 where
  pub derivable : HasDerivative x a
  pub smaller : nodes a < nodes t

pub child_in : {x : List ℕ} {a : Tree} (n : ℕ) (t : Tree) → n < count (children_of t) → HasDerivative x t → a ≡ nth n (children_of t) → IsChild x a t
child_in {x} n t l h e = record { derivable = subst (HasDerivative x) (sym e) (of_child x n t l h); smaller = smaller_child n t l e }

-- in a pool
pub child_ready : {x : List ℕ} {j : ℕ} {s : State} {t : Tree} → Stands s → IsExpression j (forest s) → IsChild x (tree_of j s) t → CanDerive x j s
child_ready h e k = record { stands = h; expression = e; derivable = k.derivable }

pub as_holds : {k : Kind} {x : List ℕ} {t : Tree} → root_kind t ≡ k → occurs x t ≡ true → Holds k x t
as_holds e o = record { kind = e; held = o }

pub exponent_in : (x : List ℕ) (t : Tree) {e : Tree} → root_kind t ≡ kind.Pow → occurs x t ≡ true → HasDerivative x t → e ≡ nth 1 (children_of t) → IsDerivableExponent e
exponent_in x t k o h e = subst IsDerivableExponent (sym e) (derivable_exponent x t k o (of_root x t h))

pub one_more : (P : Tree → Type 0) (n : ℕ) (ts : Trees) → n < count ts → AllPartsOf P (first n ts) → AllParts P (nth n ts) → AllPartsOf P (first (suc n) ts)
one_more P n none l h k = absurd (omega arith)
one_more P zero (more t ts) l h k = (k, tt)
one_more P (suc n) (more t ts) l h k = (h.0, one_more P n ts (omega arith) h.1 k)

pub all_of : (P : Tree → Type 0) (n : ℕ) (ts : Trees) → count ts ≤ n → AllPartsOf P (first n ts) → AllPartsOf P ts
all_of P n ts l h = subst (AllPartsOf P) (first_all n ts l) h
