use Rattle.pool_layouts.proofs.{Shared.{◌+◌, ℕ, suc, ap, sym, subst, arith, tree, nodes_in, Extent, HasSmall, HasSomeFirst}, Measures.{behind_first, first_within}}
use Rattle.pool_layouts.proofs.extents.second.Goals as goal

pub extent_at-requires-clause-some : goal.extent_at-requires-clause-some
extent_at-requires-clause-some c = let (l, k, p) = c.requires.some in (p.upper, p.above, tree l k p.others, p.small)

pub overflow_add-next : goal.overflow_add-next
overflow_add-next c =
    let (l, k, p) = c.requires.some in
    let b = behind_first p.upper p.above (tree l k p.others) c.args.at c.args.extents.now p.small in
    let here = c.extent_at.ensures.value p.upper p.above (tree l k p.others) p.small in
    record { fits = omega (arith, first_within l k p.others (c.args.at + suc (nodes_in p.above)) c.args.extents.now b, ap (λ (e : Extent). e.nodes) here, c.requires.few) }

pub extent_at-requires-2-clause-some : goal.extent_at-requires-2-clause-some
extent_at-requires-2-clause-some c =
    let (l, k, p) = c.requires.some in
    let b = behind_first p.upper p.above (tree l k p.others) c.args.at c.args.extents.now p.small in
    let here = c.extent_at.ensures.value p.upper p.above (tree l k p.others) p.small in
    subst (λ (n : ℕ). HasSomeFirst (c.args.at + n) c.args.extents.now) (sym (ap (λ (e : Extent). e.nodes) here)) (l, k, p.others, b)

pub returns-clause-value : goal.returns-clause-value
returns-clause-value c = λ l k p.
    let b = behind_first p.upper p.above (tree l k p.others) c.args.at c.args.extents.now p.small in
    let here = c.extent_at.ensures.value p.upper p.above (tree l k p.others) p.small in
    c.extent_at-2.ensures.value l k p.others (subst (λ (n : ℕ). HasSmall (tree l k p.others) (c.args.at + n) c.args.extents.now) (sym (ap (λ (e : Extent). e.nodes) here)) b)
