-- Lemmas on the sides of equations, as they are read and built.
use Rattle.std.proofs.Common.{◌≡◌, ℕ, List, [], ◌∷◌, ◌++◌, None, subst, arith}
use Rattle.calc_session.proofs.Shared.{IsLine, IsTreeOf, Tree, Placed, bare, one_list, NamedTree, fills, values, Table, Equation, free_of, Gives, tree_of, KeepsRefusals, Stands, forest, ReadsText}
use Rattle.calc_session.proofs.{Shared.{made, Reason, BuildsSide, AreUnmade, Become, ReadsSide, equation, nothing}, EvaluationLemmas.{gives_told}}
use Rattle.node_pool.specs.State.{State}
use Rattle.calc_session.specs.Solving.{later as unmade_later}

-- ---- they are read

-- the tokens that were cut are the side's
pub side_line : (before : ℕ) {text : List ℕ} {t u : Tree} {tokens : List Placed} → ReadsSide (record { before = before; text = text }) t → ReadsText text tokens None u → IsTreeOf (bare tokens) t
side_line before {text = text} {t = t} {tokens = tokens} (ts, r) s = (None, subst (λ (us : List Placed). IsLine (bare us) None t) (one_list text ts tokens r.cut s.cut) r.line-is)

-- ---- they are built

pub builds_side : (table : Table) (old new : State) (t : Tree) (h id : ℕ) {P : Tree → Type 0} → Gives (forest old) (forest new) h P → made (free_of old) (values table (forest old)) t ≡ fills (free_of new) (tree_of h new) → KeepsRefusals old new → Stands new → id ≡ h → BuildsSide table old new t id
builds_side table old new t h id g m k l e = grind (arith, gives_told)

-- one more equation
pub become_more : {vs : List NamedTree} {free left : ℕ} {es fs : List Equation} → Become vs free es left fs → (e : Equation) (between behind : ℕ) (l r : Tree) → made left vs e.left ≡ fills between l → made between vs e.right ≡ fills behind r
    → Become vs free (es ++ e ∷ []) behind (fs ++ record { left = l; right = r } ∷ [])
become_more nothing e between behind l r p q = equation p q nothing
become_more (equation a b rest) e between behind l r p q = equation a b (become_more rest e between behind l r p q)

-- what is not made behind those that are
pub unmade_behind : {vs : List NamedTree} {free left : ℕ} {es fs gs : List Equation} {reason : Reason} → Become vs free es left fs → AreUnmade vs left gs reason → AreUnmade vs free (es ++ gs) reason
unmade_behind nothing h = h
unmade_behind (equation a b rest) h = unmade_later a b (unmade_behind rest h)
