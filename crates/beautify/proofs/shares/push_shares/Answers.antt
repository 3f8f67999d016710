use Rattle.beautify.proofs.Shared.{◌≡◌, ◌∙◌, ◌∷◌, ◌++◌, [], ℕ, suc, ◌+◌, length, refl, sym, ap, arith, length-append, plain, rest_trees, tree_at, kids_of, forest}
use Rattle.beautify.proofs.{Shared.{next_child, last_child, root_ids}, Sharing.{few_shared, shared_more, shared_none, turned, turned_items}, Steps.few_children}
use Rattle.beautify.proofs.shares.push_shares.Goals as goal

pub part_of-requires-clause-expression : goal.part_of-requires-clause-expression
part_of-requires-clause-expression c = (next_child {n = c.args.from + length c.loop-child.yielded} c.requires.stands c.requires.expression c.loop-child.invariant.ids c.in-Some.ensures.steps).expression

pub push-requires : goal.push-requires
push-requires c =
    let n = next_child {n = c.args.from + length c.loop-child.yielded} c.requires.stands c.requires.expression c.loop-child.invariant.ids c.in-Some.ensures.steps in
    let few = few_shared c.loop-child.invariant.shared in
    record { room = omega (arith, few.0, few.1, n.within, c.requires.room, c.loop-child.invariant.capacity) }

pub overflow_add-came : goal.overflow_add-came
overflow_add-came c =
    let n = next_child {n = c.args.from + length c.loop-child.yielded} c.requires.stands c.requires.expression c.loop-child.invariant.ids c.in-Some.ensures.steps in
    let few = few_shared c.loop-child.invariant.shared in
    record { fits = omega (arith, few.0, n.within, few_children c.args.parent c.args.pool.now c.requires.stands c.requires.expression) }

pub loop-child-preserved-in-Some-part_of : goal.loop-child-preserved-in-Some-part_of
loop-child-preserved-in-Some-part_of c =
    let l = c.loop-child in
    let n = next_child {n = c.args.from + length c.loop-child.yielded} c.requires.stands c.requires.expression l.invariant.ids c.in-Some.ensures.steps in
    let one_on : suc (c.args.from + length l.yielded) ≡ c.args.from + length (l.yielded ++ c.in-Some.child ∷ []) = omega (arith, length-append l.yielded (c.in-Some.child ∷ [])) in
    record {
      ids = n.left-are ∙ ap (λ (k : ℕ). root_ids (rest_trees k (kids_of c.args.parent (forest c.args.pool.now)))) one_on;
      shared = shared_more c.in-Some-part_of.next l.invariant.shared n.within n.expression n.tree (sym c.in-Some-part_of.is ∙ c.part_of.ensures) c.push.ensures.items;
      capacity = omega (arith, l.invariant.capacity, c.push.ensures.capacity);
    }

pub loop-child-preserved : goal.loop-child-preserved
loop-child-preserved c =
    let l = c.loop-child in
    let n = next_child {n = c.args.from + length c.loop-child.yielded} c.requires.stands c.requires.expression l.invariant.ids c.in-Some.ensures.steps in
    let one_on : suc (c.args.from + length l.yielded) ≡ c.args.from + length (l.yielded ++ c.in-Some.child ∷ []) = omega (arith, length-append l.yielded (c.in-Some.child ∷ [])) in
    record {
      ids = n.left-are ∙ ap (λ (k : ℕ). root_ids (rest_trees k (kids_of c.args.parent (forest c.args.pool.now)))) one_on;
      shared = shared_none l.invariant.shared n.within n.expression n.tree (sym c.in_default.is ∙ c.part_of.ensures);
      capacity = l.invariant.capacity;
    }

pub returns-clause-owed : goal.returns-clause-owed
returns-clause-owed c us r o =
    let t = plain (tree_at c.args.parent (forest c.args.pool.now)) in
    let s = c.loop-child.invariant.shared in
    let last = last_child {n = c.args.from + length c.loop-child.yielded} c.requires.stands c.requires.expression c.loop-child.invariant.ids c.in-None.ensures.steps.0 in
    let start : c.len-start.result ≡ length c.args.pending.now.items = c.len-start.ensures ∙ c.args.pending.now.ok.0 in
    let items = turned_items s c.deref_mut.ensures.value c.loop-child.pending.ok.0 start c.reverse.ensures.after in
    (turned t s last c.requires.showable c.requires.sharing items).owed us r o

pub returns-clause-came : goal.returns-clause-came
returns-clause-came c =
    let t = plain (tree_at c.args.parent (forest c.args.pool.now)) in
    let s = c.loop-child.invariant.shared in
    let last = last_child {n = c.args.from + length c.loop-child.yielded} c.requires.stands c.requires.expression c.loop-child.invariant.ids c.in-None.ensures.steps.0 in
    (turned t s last c.requires.showable c.requires.sharing refl).came-is
