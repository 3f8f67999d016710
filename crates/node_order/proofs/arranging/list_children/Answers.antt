use Rattle.node_order.proofs.Shared.{◌≡◌, ◌<◌, length, sym, ap, ◌∙◌, arith, inl, enumerate_source, enumerate_count, ext_get_or, length-set, root_ids, root_id, rest_trees, tree_nth, kids_of, forest}
use Rattle.node_order.proofs.{Shared.{arity-rest_trees, root_ids-nth, length-root_ids}, Listing.{IsTurn, turn, all_came, listed_more}, arranging.list_children.Goals.{In-Some}}
use Rattle.node_order.proofs.arranging.list_children.Goals as goal

pub loop-at-init-derived : goal.loop-at-init-derived
loop-at-init-derived c =
    let k = kids_of c.args.parent (forest c.args.pool.now) in
    let rest = rest_trees c.args.from k in
    let whole : enumerate_source c.into_iter-at-iterator.result ≡ root_ids rest = cc in
    let none : enumerate_count c.into_iter-at-iterator.result ≡ 0 = cc in
    ((tt, tt, inl (omega (arith, none, ap length whole, length-root_ids rest, arity-rest_trees c.args.from k, c.requires.all, c.requires.few))), tt)

turned : (c : In-Some) → IsTurn (length c.loop-at.yielded) c.in-Some.at c.in-Some.id (rest_trees c.args.from (kids_of c.args.parent (forest c.args.pool.now)))
turned c = turn (rest_trees c.args.from (kids_of c.args.parent (forest c.args.pool.now))) c.into_iter-at-iterator.result _ _ c.loop-at.yielded _ c.in-Some.at c.in-Some.id (cc) (cc) c.loop-at.yielded_by c.in-Some.is c.next.ensures.steps

inside : (c : In-Some) → c.in-Some.at < length c.loop-at.listed
inside c =
    let t = turned c in
    omega (arith, t.inside, t.at-is, arity-rest_trees c.args.from (kids_of c.args.parent (forest c.args.pool.now)), c.requires.all, c.loop-at.invariant.long)

pub bounds-listed-at : goal.bounds-listed-at
bounds-listed-at c = inside c

pub offset_bounds-listed-at : goal.offset_bounds-listed-at
offset_bounds-listed-at c = omega (arith, inside c, c.loop-at.invariant.long, c.requires.few)

pub loop-at-preserved : goal.loop-at-preserved
loop-at-preserved c =
    let rest = rest_trees c.args.from (kids_of c.args.parent (forest c.args.pool.now)) in
    let t = turned c in
    record {
      long = length-set c.loop-at.listed c.in-Some.at c.in-Some.id ∙ c.loop-at.invariant.long;
      same = listed_more (λ n x. x ≡ root_id (tree_nth n rest)) c.loop-at.listed c.loop-at.yielded c.in-Some.at c.in-Some.id (c.in-Some.at, c.in-Some.id) t.at-is (inside c) c.loop-at.invariant.same t.id-is;
    }

pub returns : goal.returns
returns c =
    let k = kids_of c.args.parent (forest c.args.pool.now) in
    let rest = rest_trees c.args.from k in
    let many = all_came rest c.into_iter-at-iterator.result _ _ c.loop-at.yielded _ (cc) (cc) c.loop-at.yielded_by c.in-None.is c.next.ensures.steps in
    let long : length c.loop-at.listed ≡ length (root_ids rest) = omega (arith, length-root_ids rest, arity-rest_trees c.args.from k, c.requires.all, c.loop-at.invariant.long) in
    ext_get_or 0 c.loop-at.listed (root_ids rest) long (λ n lt. c.loop-at.invariant.same n 0 (omega (arith, lt, many, long, length-root_ids rest)) ∙ sym (root_ids-nth n 0 rest (omega (arith, lt, long, length-root_ids rest))))
