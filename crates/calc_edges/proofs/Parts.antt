-- Lemmas on parts of what a sink was to take.
use Rattle.calc_edges.proofs.Shared.{ℕ, ◌+◌, ◌≤◌, List, ◌++◌, length, take, Option, sym, subst, arith, length-append, Appends-trans, take-append-add, take-append-le, Appends, AppendsPart}

-- a part behind what was taken whole
pub AppendsPart-after : (a b c : Option (List ℕ)) (bs cs : List ℕ) → Appends a b bs → AppendsPart b c cs → AppendsPart a c (bs ++ cs)
AppendsPart-after a b c bs cs p q = (
  length bs + q.0,
  omega (arith, length-append bs cs, q.1),
  subst (Appends a c) (sym (take-append-add bs cs q.0)) (Appends-trans a b c bs (take q.0 cs) p q.2),
)

-- a part of the front is a part of the whole
pub AppendsPart-more : (a b : Option (List ℕ)) (bs cs : List ℕ) → AppendsPart a b bs → AppendsPart a b (bs ++ cs)
AppendsPart-more a b bs cs q =
    let short : q.0 ≤ length bs = omega (arith, q.1) in
    (q.0, omega (arith, length-append bs cs, q.1), subst (Appends a b) (sym (take-append-le q.0 bs cs short)) q.2)
