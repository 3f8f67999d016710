use Rattle.tree_walks.proofs.Shared.{rules, ◌∙◌, ◌+◌, ◌++◌, inl, sym, ap, refl, arith, drop, take, passed_on, name_of, plain, payload_in, tree_at, forest, owned, last_held, has_name, occurrences}
use Rattle.tree_walks.proofs.{Shared.{tree_of, without_root}, Chunks.{found_all, headed, put, goes_on, all_passed, more_passed, all_gone, few_passed, fewer}, Filling.{IsFilling, IsLeaf, IsSource}}
use Rattle.tree_walks.proofs.{Filling.{IsStopped, source, source_in, begins, next, stopped, ended, leaf, leaf_stopped, leaf_goes, leaf_done}, replacing.put_copies.Goals.{Start, Then-is_leaf_of}}
use Rattle.tree_walks.proofs.replacing.put_copies.Goals.{In_err-put_copy, In_ok-put_copy}
use Rattle.tree_walks.proofs.replacing.put_copies.Goals as goal

pub kind-requires-clause-live : goal.kind-requires-clause-live
kind-requires-clause-live c = rw c.id-root.ensures (last_held c.requires.last.ends)

pub is_leaf_of-requires-clause-live : goal.is_leaf_of-requires-clause-live
is_leaf_of-requires-clause-live c = rw c.id-root.ensures (last_held c.requires.last.ends)

src : (c : Start) → IsSource c.args.source (plain (tree_at c.args.source (forest c.args.pool.now))) (without_root c.args.tree (forest c.args.pool.now))
src c = source c.args.source c.requires.last c.requires.expression c.requires.elsewhere

-- ---- the whole tree is such a leaf

whole : (c : Then-is_leaf_of) → IsLeaf (name_of c.args.name) (plain (tree_at c.args.source (forest c.args.pool.now))) (tree_of c.args.tree c.args.pool.now)
whole c =
    leaf (name_of c.args.name) _ c.requires.stands c.requires.last (ap (λ i. has_name (name_of c.args.name) (payload_in i (forest c.args.pool.now))) (sym c.id-root.ensures)
    ∙ sym c.is_leaf_of.ensures ∙ c.if-is_leaf_of.true)

pub returns-in_err-copy-clause-full : goal.returns-in_err-copy-clause-full
returns-in_err-copy-clause-full c =
    let at = goal.at.returns-in_err-copy-clause-full c in
    passed_on c.from_residual.result c.in_err-copy.field-0.0 _ c.from_residual.ensures.0 c.from_residual.ensures.1
    (leaf_stopped c.args.tree (whole at.Then-is_leaf_of) (source_in c.requires.last.tree (src at.Start) c.requires.last.ends.whole).bytes c.in_err-copy.ensures.full)

pub release-requires-clause-releasable : goal.release-requires-clause-releasable
release-requires-clause-releasable c = inl (leaf_goes c.requires.last (c.in_ok-copy.ensures.given c.requires.expression)).root

pub returns-then-is_leaf_of : goal.returns-then-is_leaf_of
returns-then-is_leaf_of c =
    let given = c.in_ok-copy.ensures.given c.requires.expression in
    let copy = c.in_ok-copy.ensures in
    let gone = c.release.ensures in
    let d = leaf_done (whole (goal.at.returns-then-is_leaf_of c).Then-is_leaf_of) c.requires.stands copy.stands gone.stands c.requires.last given copy.kept gone.kept
    (c.release.ensures.owned (owned (leaf_goes c.requires.last given))) in
    record { ok = d.gives; ok_room = d.room; front = d.front; full = search rules; refuses = search rules; lacks = search rules; kept = search rules; stands = search rules }

-- ---- its leaves are

pub find_leaves-found-requires-clause-live : goal.find_leaves-found-requires-clause-live
find_leaves-found-requires-clause-live c = rw c.id-root.ensures (last_held c.requires.last.ends)

pub loop-at-init : goal.loop-at-init
loop-at-init c =
    let inner = ap (λ i. has_name (name_of c.args.name) (payload_in i (forest c.args.pool.now))) (sym c.id-root.ensures) ∙ sym c.is_leaf_of.ensures ∙ c.if-is_leaf_of.false in
    found_all (begins (name_of c.args.name) (plain (tree_at c.args.source (forest c.args.pool.now))) c.requires.stands c.requires.last inner) refl c.id-root.ensures c.find_leaves-found.ensures

pub put_copy-requires-clause-expression : goal.put_copy-requires-clause-expression
put_copy-requires-clause-expression c = let w = c.loop-at.invariant.filling in (source_in w.now (src (goal.at.put_copy-requires-clause-expression c).Start) w.ends.whole).expression

pub put_copy-requires-clause-leaf : goal.put_copy-requires-clause-leaf
put_copy-requires-clause-leaf c = let m = next (headed c.index-leaves-at.result c.loop-at.invariant c.loop-at-test.true) in (m.at, m.parent, m.leaf)

stops : (c : In_err-put_copy) → IsStopped c.args.tree (name_of c.args.name) (plain (tree_at c.args.source (forest c.args.pool.now))) c.args.pool.now c.put_copy.new.pool c.in_err-put_copy.field-0.0
stops c =
    let w = headed c.index-leaves-at.result c.loop-at.invariant c.loop-at-test.true in
    stopped w (source_in w.now (source c.args.source c.requires.last c.requires.expression c.requires.elsewhere) w.ends.whole).bytes c.in_err-put_copy.ensures.full

pub returns-in_err-put_copy-clause-full : goal.returns-in_err-put_copy-clause-full
returns-in_err-put_copy-clause-full c =
    passed_on c.from_residual-in_err-put_copy.result c.in_err-put_copy.field-0.0 _ c.from_residual-in_err-put_copy.ensures.0 c.from_residual-in_err-put_copy.ensures.1
    (stops (goal.at.returns-in_err-put_copy-clause-full c).In_err-put_copy).told

pub returns-in_err-put_copy-clause-front : goal.returns-in_err-put_copy-clause-front
returns-in_err-put_copy-clause-front c = (stops (goal.at.returns-in_err-put_copy-clause-front c).In_err-put_copy).front

-- one more is replaced
one : (c : In_ok-put_copy) → IsFilling c.args.tree (name_of c.args.name) (plain (tree_at c.args.source (forest c.args.pool.now))) c.args.pool.now c.put_copy.new.pool
    (c.loop-at.invariant.n + occurrences (name_of c.args.name) (plain (tree_at c.args.source (forest c.args.pool.now))))
    (drop (c.loop-at.at + 1) (take c.loop-at.found c.loop-at.leaves) ++ c.loop-at.invariant.behind)
one c =
    let p = c.in_ok-put_copy.ensures in
    put c.index-leaves-at.result c.loop-at.invariant c.loop-at-test.true (source c.args.source c.requires.last c.requires.expression c.requires.elsewhere) p.ok p.room p.kept p.stands

pub count_leaves-requires-clause-live : goal.count_leaves-requires-clause-live
count_leaves-requires-clause-live c =
    let at = goal.at.count_leaves-requires-clause-live c in
    let f = one at.In_ok-put_copy in
    (source_in f.now (src at.Start) f.ends.whole).expression.live

pub overflow_add-passed : goal.overflow_add-passed
overflow_add-passed c = omega (arith, few_passed c.loop-at.invariant.filling, c.loop-at.invariant.count, c.count_leaves.ensures.few)

pub find_leaves-found-requires-then-at-eq-LEAVES-clause-live : goal.find_leaves-found-requires-then-at-eq-LEAVES-clause-live
find_leaves-found-requires-then-at-eq-LEAVES-clause-live c = rw c.id-root.ensures (last_held (one (goal.at.find_leaves-found-requires-then-at-eq-LEAVES-clause-live c).In_ok-put_copy).ends)

pub loop-at-smaller-then-at-eq-LEAVES : goal.loop-at-smaller-then-at-eq-LEAVES
loop-at-smaller-then-at-eq-LEAVES c =
    let at = goal.at.loop-at-smaller-then-at-eq-LEAVES c in
    let w = c.loop-at.invariant in
    let f = one at.In_ok-put_copy in
    fewer c.loop-at.passed c.loop-at.at (headed c.index-leaves-at.result w c.loop-at-test.true) f w.count
    (omega (arith, all_passed w c.if-at-eq-LEAVES.true f (src at.Start) c.count_leaves.ensures.value))

pub loop-at-preserved-then-at-eq-LEAVES : goal.loop-at-preserved-then-at-eq-LEAVES
loop-at-preserved-then-at-eq-LEAVES c =
    let at = goal.at.loop-at-preserved-then-at-eq-LEAVES c in
    let f = one at.In_ok-put_copy in
    found_all f (all_passed c.loop-at.invariant c.if-at-eq-LEAVES.true f (src at.Start) c.count_leaves.ensures.value) c.id-root.ensures c.find_leaves-found-then-at-eq-LEAVES.ensures

pub loop-at-smaller : goal.loop-at-smaller
loop-at-smaller c =
    let w = c.loop-at.invariant in
    fewer c.loop-at.passed c.loop-at.at (headed c.index-leaves-at.result w c.loop-at-test.true) (one (goal.at.loop-at-smaller c).In_ok-put_copy) w.count
    (more_passed c.loop-at.passed c.loop-at.at _ w.count)

pub loop-at-preserved : goal.loop-at-preserved
loop-at-preserved c = let w = c.loop-at.invariant in goes_on w (omega (arith, w.more, c.if-at-eq-LEAVES.false)) (one (goal.at.loop-at-preserved c).In_ok-put_copy)

pub returns : goal.returns
returns c =
    let d = ended c.loop-at.invariant.filling (all_gone c.loop-at.invariant (omega arith)) in
    record { ok = d.gives; ok_room = d.room; front = d.front; full = search rules; refuses = search rules; lacks = search rules; kept = search rules; stands = search rules }
