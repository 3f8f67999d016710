use Rattle.node_order.proofs.Shared.{◌≡◌, ◌<◌, ◌+◌, ℕ, length, sym, ap, ◌∙◌, subst, arith, inl, enumerate_source, enumerate_count, length-set, IsKey, key_tree, root_ids, plains, plain, nth}
use Rattle.node_order.proofs.Shared.{rest_trees, kids_of, tree_at, forest, arity-rest_trees, count-plains, IsSeenChild, seen_child, length-root_ids}
use Rattle.node_order.proofs.{Listing.{IsTurn, turn, all_came, later_child, listed_more}, SortLaws.{child_plain}, sorting.list_keys.Goals.{In-Some, In-None}, sorting.list_keys.Given.{Over}}
use Rattle.node_order.proofs.sorting.list_keys.Goals as goal

pub loop-at-init-derived : goal.loop-at-init-derived
loop-at-init-derived g c =
    let k = kids_of c.args.parent (forest c.args.pool.now) in
    let rest = rest_trees c.args.from k in
    let whole : enumerate_source c.into_iter-at-iterator.result ≡ root_ids rest = cc in
    let none : enumerate_count c.into_iter-at-iterator.result ≡ 0 = cc in
    ((tt, tt, inl (omega (arith, none, ap length whole, length-root_ids rest, arity-rest_trees c.args.from k, c.requires.all, c.requires.few))), tt)

turned : (g : Over) (c : In-Some g) → IsTurn (length c.loop-at.yielded) c.in-Some.at c.in-Some.id (rest_trees c.args.from (kids_of c.args.parent (forest c.args.pool.now)))
turned g c = turn (rest_trees c.args.from (kids_of c.args.parent (forest c.args.pool.now))) c.into_iter-at-iterator.result _ _ c.loop-at.yielded _ c.in-Some.at c.in-Some.id (cc) (cc) c.loop-at.yielded_by c.in-Some.is c.next.ensures.steps

seen : (g : Over) (c : In-Some g) → IsSeenChild (c.args.from + length c.loop-at.yielded) c.args.parent c.in-Some.id (forest c.args.pool.now)
seen g c =
    let n = length c.loop-at.yielded in
    let t = turned g c in
    seen_child (c.args.from + n) c.args.parent c.in-Some.id c.args.pool.now c.requires.stands (later_child c.args.parent c.args.from n c.in-Some.id (forest c.args.pool.now) t.inside t.id-is)

same : (g : Over) (c : In-Some g) → plain (tree_at c.in-Some.id (forest c.args.pool.now)) ≡ nth (c.args.from + length c.loop-at.yielded) (plains (kids_of c.args.parent (forest c.args.pool.now)))
same g c = child_plain c.args.parent (c.args.from + length c.loop-at.yielded) c.in-Some.id (forest c.args.pool.now) (seen g c).tree-is

inside : (g : Over) (c : In-Some g) → c.in-Some.at < length c.loop-at.listed
inside g c =
    let t = turned g c in
    omega (arith, t.inside, t.at-is, arity-rest_trees c.args.from (kids_of c.args.parent (forest c.args.pool.now)), c.requires.all, c.loop-at.invariant.long)

pub key-requires-clause-tree : goal.key-requires-clause-tree
key-requires-clause-tree g c = (seen g c).expression c.requires.parent

pub key-requires-clause-keyed : goal.key-requires-clause-keyed
key-requires-clause-keyed g c =
    let k = kids_of c.args.parent (forest c.args.pool.now) in
    subst g.K.Keys.has_key (sym (same g c)) (c.requires.keyed (c.args.from + length c.loop-at.yielded) (omega arith) (omega (arith, (turned g c).inside, arity-rest_trees c.args.from k, count-plains k)))

pub bounds-listed-at : goal.bounds-listed-at
bounds-listed-at g c = inside g c.before

pub offset_bounds-listed-at : goal.offset_bounds-listed-at
offset_bounds-listed-at g c = omega (arith, inside g c.before, c.loop-at.invariant.long, c.requires.few)

pub loop-at-preserved : goal.loop-at-preserved
loop-at-preserved g c =
    let k = kids_of c.args.parent (forest c.args.pool.now) in
    let item : ℕ × ℕ = (c.in-Some.at, c.in-Some.id) in
    let t = turned g c.before in
    record {
      long = length-set c.loop-at.listed c.in-Some.at c.key.result ∙ c.loop-at.invariant.long;
      valid = listed_more (λ n x. IsKey x (forest c.args.pool.now)) c.loop-at.listed c.loop-at.yielded c.in-Some.at c.key.result item t.at-is (inside g c.before) c.loop-at.invariant.valid c.key.ensures.valid;
      trees =
          listed_more (λ n x. key_tree x (forest c.args.pool.now) ≡ g.K.Keys.key_of (nth (c.args.from + n) (plains k))) c.loop-at.listed c.loop-at.yielded c.in-Some.at c.key.result item t.at-is (inside g c.before) c.loop-at.invariant.trees
          (c.key.ensures.value ∙ ap g.K.Keys.key_of (same g c.before));
    }

listed_all : (g : Over) (c : In-None g) → length c.loop-at.listed ≡ length c.loop-at.yielded
listed_all g c =
    let k = kids_of c.args.parent (forest c.args.pool.now) in
    let rest = rest_trees c.args.from k in
    let many = all_came rest c.into_iter-at-iterator.result _ _ c.loop-at.yielded _ (cc) (cc) c.loop-at.yielded_by c.in-None.is c.next.ensures.steps in
    omega (arith, many, arity-rest_trees c.args.from k, c.requires.all, c.loop-at.invariant.long)

pub returns-clause-valid : goal.returns-clause-valid
returns-clause-valid g c = λ n d lt. c.loop-at.invariant.valid n d (omega (arith, lt, listed_all g c))

pub returns-clause-trees : goal.returns-clause-trees
returns-clause-trees g c = λ n d lt. c.loop-at.invariant.trees n d (omega (arith, lt, listed_all g c))
