use Rattle.tree_shapes.proofs.Shared.{◌≡◌, ◌∙◌, ap, arith, sym, subst, refl, size, given_handed, given_other, given_apart, given_told, given_same, given_rest, given_without, gives_as, plain, Forest}
use Rattle.tree_shapes.proofs.{Shared.{tree_of, Shape, grown_free}, Room.{pair_bytes, single_bytes}}
use Rattle.node_pool.proofs.Ids.{eqb_sym as eqb-sym}
use Rattle.tree_shapes.proofs.shapes.+grow.Goals as goal

pub node_over_two-requires-clause-first : goal.node_over_two-requires-clause-first
node_over_two-requires-clause-first t c = given_other c.in_ok-right-in-Two.ensures.ok (given_handed c.in_ok-left-in-Two.ensures.ok)

pub node_over_two-requires-clause-second : goal.node_over_two-requires-clause-second
node_over_two-requires-clause-second t c = given_handed c.in_ok-right-in-Two.ensures.ok

pub node_over_two-requires-clause-apart : goal.node_over_two-requires-clause-apart
node_over_two-requires-clause-apart t c = eqb-sym c.in_ok-right-in-Two.right c.in_ok-left-in-Two.left (given_apart c.in_ok-right-in-Two.ensures.ok (given_handed c.in_ok-left-in-Two.ensures.ok))

pub node_over-requires-clause-handed : goal.node_over-requires-clause-handed
node_over-requires-clause-handed t c = given_handed c.in_ok-child-in-One.ensures.ok

pub returns-in_ok-tree-in-Two-clause-ok : goal.returns-in_ok-tree-in-Two-clause-ok
returns-in_ok-tree-in-Two-clause-ok t c =
    let left = given_handed c.in_ok-left-in-Two.ensures.ok in
    let same = given_same c.in_ok-left-in-Two.left c.in_ok-right-in-Two.ensures.ok left.root in
    let first = subst (λ (f : Forest). plain f ≡ tree_of c.in-Two.left.now) (sym same) (given_told c.in_ok-left-in-Two.ensures.ok) in
    gives_as c.in_ok-tree-in-Two.ensures.ok (given_without c.in_ok-right-in-Two.ensures.ok left ∙ given_rest c.in_ok-left-in-Two.ensures.ok)
    (λ u e. e ∙ rw (c.kind.ensures.kind, first, given_told c.in_ok-right-in-Two.ensures.ok) refl ∙ ap tree_of (sym c.in-Two.is))

pub returns-in_ok-tree-in-One-clause-ok : goal.returns-in_ok-tree-in-One-clause-ok
returns-in_ok-tree-in-One-clause-ok t c =
    gives_as c.in_ok-tree-in-One.ensures.ok (given_rest c.in_ok-child-in-One.ensures.ok)
    (λ u e. e ∙ rw (c.kind-in-One.ensures.kind, given_told c.in_ok-child-in-One.ensures.ok) refl ∙ ap tree_of (sym c.in-One.is))

pub returns-in_ok-tree-in-Two-clause-exactly : goal.returns-in_ok-tree-in-Two-clause-exactly
returns-in_ok-tree-in-Two-clause-exactly t c =
    let left = c.in_ok-left-in-Two.ensures in
    let right = c.in_ok-right-in-Two.ensures in
    let first = grown_free c.requires left.stands left.kept left.ok in
    let second = grown_free left.stands right.stands right.kept right.ok in
    let bytes = ap (λ (s : Shape). size (tree_of s)) c.in-Two.is ∙ pair_bytes c.in-Two.pair (tree_of c.in-Two.left.now) (tree_of c.in-Two.right.now) in
    grind (arith, first, second, bytes, c.kind.ensures.kind)

pub returns-in_err-tree-in-Two-clause-exactly : goal.returns-in_err-tree-in-Two-clause-exactly
returns-in_err-tree-in-Two-clause-exactly t c =
    let left = c.in_ok-left-in-Two.ensures in
    let right = c.in_ok-right-in-Two.ensures in
    let first = grown_free c.requires left.stands left.kept left.ok in
    let second = grown_free left.stands right.stands right.kept right.ok in
    let bytes = ap (λ (s : Shape). size (tree_of s)) c.in-Two.is ∙ pair_bytes c.in-Two.pair (tree_of c.in-Two.left.now) (tree_of c.in-Two.right.now) in
    grind (arith, first, second, bytes, c.kind.ensures.kind)

pub returns-in_err-right-in-Two-clause-exactly : goal.returns-in_err-right-in-Two-clause-exactly
returns-in_err-right-in-Two-clause-exactly t c =
    let left = c.in_ok-left-in-Two.ensures in
    let first = grown_free c.requires left.stands left.kept left.ok in
    let bytes = ap (λ (s : Shape). size (tree_of s)) c.in-Two.is ∙ pair_bytes c.in-Two.pair (tree_of c.in-Two.left.now) (tree_of c.in-Two.right.now) in
    grind (arith, first, bytes)

pub returns-in_ok-tree-in-One-clause-exactly : goal.returns-in_ok-tree-in-One-clause-exactly
returns-in_ok-tree-in-One-clause-exactly t c =
    let child = c.in_ok-child-in-One.ensures in
    let first = grown_free c.requires child.stands child.kept child.ok in
    let bytes = ap (λ (s : Shape). size (tree_of s)) c.in-One.is ∙ single_bytes c.in-One.single (tree_of c.in-One.child.now) in
    grind (arith, first, bytes, c.kind-in-One.ensures.kind)

pub returns-in_err-tree-in-One-clause-exactly : goal.returns-in_err-tree-in-One-clause-exactly
returns-in_err-tree-in-One-clause-exactly t c =
    let child = c.in_ok-child-in-One.ensures in
    let first = grown_free c.requires child.stands child.kept child.ok in
    let bytes = ap (λ (s : Shape). size (tree_of s)) c.in-One.is ∙ single_bytes c.in-One.single (tree_of c.in-One.child.now) in
    grind (arith, first, bytes, c.kind-in-One.ensures.kind)
