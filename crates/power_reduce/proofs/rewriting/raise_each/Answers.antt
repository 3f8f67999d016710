use Rattle.power_reduce.proofs.Shared.{rules, ◌≡◌, ◌+◌, ◌<◌, refl, ap, ◌∙◌, arith, Tree, count, is_mult, mult, raised, without_root, forest, Forest, ChangesTree, size, free_of, refused_below}
use Rattle.power_reduce.proofs.Shared.{passed_on, plain, eqb-sym, given_free, expression, seen, tree_of, children_of, keeps_none, keeps_after, behind_first, behind_later, behind_new, front_at}
use Rattle.power_reduce.proofs.Shared.{front_end, front_without, front_after_two, given_apart, given_handed, given_other, given_told, changes_front, changes_last, changes_other, changes_same, live}
use Rattle.power_reduce.proofs.{Shared.{none_done, part_within, product_row, children_told}, RaisedBytes.{read_bytes, next_lacks, last_lacks}, Raising.{to_power, product_behind, next_raised}}
use Rattle.power_reduce.proofs.{Raising.{all_raised, raised_front}, rewriting.raise_each.Goals.{After-children-last, In_ok-raise_factor-2}}
use Rattle.tree_handles.proofs.SmallLaws.{mult_is as product_words}
use Rattle.power_reduce.proofs.rewriting.raise_each.Goals as goal

-- how many factors there are
many : (c : After-children-last) → c.children-last.result ≡ count (children_of (tree_of c.args.product c.args.pool.now))
many c = children_told c.id.ensures c.children-last.ensures.value c.requires.stands c.requires.first

pub overflow_sub-last : goal.overflow_sub-last
overflow_sub-last c = grind (arith, many)

pub loop-at-init : goal.loop-at-init
loop-at-init c = record { stands = c.requires.stands; kept = keeps_none c.args.pool.now; part = none_done (to_power (tree_of c.args.exponent c.args.pool.now)) product_row c.requires.first (product_words _ c.requires.product) }

pub copy_tree-requires-clause-live : goal.copy_tree-requires-clause-live
copy_tree-requires-clause-live c = live c.loop-at.pool c.id-in-loop-at.ensures (changes_other c.loop-at.invariant.part.now c.requires.apart c.requires.second).root

pub returns-in_err-copy-clause-front : goal.returns-in_err-copy-clause-front
returns-in_err-copy-clause-front c = front_at (changes_front c.loop-at.invariant.part.now) c.in_err-copy.ensures.full.same

pub raise_factor-requires : goal.raise_factor-requires
raise_factor-requires c =
    let g = c.in_ok-copy.ensures.given (expression c.id-in-loop-at.ensures c.loop-at.invariant.stands (changes_other c.loop-at.invariant.part.now c.requires.apart c.requires.second)) in
    let p = c.loop-at.invariant.part in
    let t = product_behind p g in
    record {
      stands = search rules;
      first = given_other g p.now.handed;
      second = given_handed g;
      apart = eqb-sym _ _ (given_apart g p.now.handed);
      product = ap is_mult (t ∙ p.now.tree);
      within = omega (arith, ap (λ (x : Tree). count (children_of x)) t, part_within p (omega (arith, many (goal.at.raise_factor-requires c).After-children-last, c.loop-at-test.true)));
    }

pub returns-in_err-raise_factor-clause-front : goal.returns-in_err-raise_factor-clause-front
returns-in_err-raise_factor-clause-front c =
    let g = c.in_ok-copy.ensures.given (expression c.id-in-loop-at.ensures c.loop-at.invariant.stands (changes_other c.loop-at.invariant.part.now c.requires.apart c.requires.second)) in
    let p = changes_front c.loop-at.invariant.part.now in
    front_after_two behind_first (behind_new g.ends p) (front_end g.ends p) c.raise_factor.ensures.front

pub loop-at-preserved : goal.loop-at-preserved
loop-at-preserved c =
    let p = c.loop-at.invariant.part in
    let beside = changes_other p.now c.requires.apart c.requires.second in
    let g = c.in_ok-copy.ensures.given (expression c.id-in-loop-at.ensures c.loop-at.invariant.stands beside) in
    let own = seen c.id-in-loop-at.ensures c.loop-at.invariant.stands beside ∙ ap plain (changes_same c.args.exponent p.now c.requires.apart) in
    record {
      stands = c.in_ok-raise_factor.ensures.stands;
      kept = keeps_after _ _ _ c.loop-at.invariant.kept (keeps_after _ _ _ c.in_ok-copy.ensures.kept c.in_ok-raise_factor.ensures.kept);
      part = next_raised p g own (omega (arith, many (goal.at.loop-at-preserved c).After-children-last, c.loop-at-test.true)) c.in_ok-raise_factor.ensures.ok;
    }

pub raise_factor-requires-2 : goal.raise_factor-requires-2
raise_factor-requires-2 c =
    let p = c.loop-at.invariant.part in
    let l = many (goal.at.raise_factor-requires-2 c).After-children-last in
    record {
      stands = search rules;
      first = p.now.handed;
      second = changes_other p.now c.requires.apart c.requires.second;
      apart = search rules;
      product = ap is_mult p.now.tree;
      within = omega (arith, l, part_within p (omega (arith, l, c.requires.some, c.loop-at-test.false, c.loop-at.auto.at-end)), c.requires.some, c.loop-at-test.false, c.loop-at.auto.at-end);
    }

pub returns-in_err-raise_factor-2-clause-front : goal.returns-in_err-raise_factor-2-clause-front
returns-in_err-raise_factor-2-clause-front c = front_after_two behind_first (behind_later behind_first) (changes_front c.loop-at.invariant.part.now) c.raise_factor-2.ensures.front

-- all factors are raised
raised_all : (c : In_ok-raise_factor-2) → (c.children-last.result ≡ count (children_of (tree_of c.args.product c.args.pool.now)))
    → ChangesTree c.args.product (mult (raised (children_of (tree_of c.args.product c.args.pool.now)) (tree_of c.args.exponent c.args.pool.now))) (without_root c.args.exponent (forest c.args.pool.now)) (forest c.raise_factor-2.new.pool)
raised_all c l =
    all_raised c.args.exponent _ c.loop-at.invariant.part c.requires.apart refl (omega (arith, l, c.requires.some, c.loop-at-test.false, c.loop-at.auto.at-end)) (omega (arith, l, c.requires.some)) c.in_ok-raise_factor-2.ensures.ok

pub move_last-requires-clause-root : goal.move_last-requires-clause-root
move_last-requires-clause-root c = (raised_all (goal.at.move_last-requires-clause-root c).In_ok-raise_factor-2 (many (goal.at.move_last-requires-clause-root c).After-children-last)).handed.root

pub returns-clause-ok : goal.returns-clause-ok
returns-clause-ok c = changes_last (raised_all (goal.at.returns-clause-ok c).In_ok-raise_factor-2 (many (goal.at.returns-clause-ok c).After-children-last)) c.move_last.ensures.last refl

pub returns-clause-front : goal.returns-clause-front
returns-clause-front c = front_end c.move_last.ensures.last (front_without behind_first (raised_front (raised_all (goal.at.returns-clause-front c).In_ok-raise_factor-2 (many (goal.at.returns-clause-front c).After-children-last))))

-- ---- bytes at hand

pub returns-in_err-copy-clause-room : goal.returns-in_err-copy-clause-room
returns-in_err-copy-clause-room c =
    let p = c.loop-at.invariant.part in
    let read = read_bytes c.loop-at.invariant.stands c.id-in-loop-at.ensures (changes_other p.now c.requires.apart c.requires.second) in
    let few : free_of c.loop-at.pool < 8 + size (tree_of c.args.exponent c.args.pool.now) = omega (arith, refused_below c.in_err-copy.ensures.full, read, ap (λ (x : Forest). size (plain x)) (changes_same c.args.exponent p.now c.requires.apart)) in
    passed_on c.from_residual.result c.in_err-copy.field-0.0 _ c.from_residual.ensures.0 c.from_residual.ensures.1
    (next_lacks c.requires.stands c.loop-at.invariant.stands c.loop-at.invariant.kept c.requires.first (product_words _ c.requires.product) p (omega (arith, many (goal.at.returns-in_err-copy-clause-room c).After-children-last, c.loop-at-test.true)) few)

pub returns-in_err-raise_factor-clause-room : goal.returns-in_err-raise_factor-clause-room
returns-in_err-raise_factor-clause-room c =
    let p = c.loop-at.invariant.part in
    let beside = changes_other p.now c.requires.apart c.requires.second in
    let g = c.in_ok-copy.ensures.given (expression c.id-in-loop-at.ensures c.loop-at.invariant.stands beside) in
    let copied = ap size (given_told g ∙ seen c.id-in-loop-at.ensures c.loop-at.invariant.stands beside ∙ ap plain (changes_same c.args.exponent p.now c.requires.apart)) in
    let few : free_of c.loop-at.pool < 8 + size (tree_of c.args.exponent c.args.pool.now) = omega (arith, given_free c.loop-at.invariant.stands c.in_ok-copy.ensures.stands c.in_ok-copy.ensures.kept g, copied, c.in_err-raise_factor.ensures.room) in
    passed_on c.from_residual-in_err-raise_factor.result c.in_err-raise_factor.field-0.0 _ c.from_residual-in_err-raise_factor.ensures.0 c.from_residual-in_err-raise_factor.ensures.1
    (next_lacks c.requires.stands c.loop-at.invariant.stands c.loop-at.invariant.kept c.requires.first (product_words _ c.requires.product) p (omega (arith, many (goal.at.returns-in_err-raise_factor-clause-room c).After-children-last, c.loop-at-test.true)) few)

pub returns-in_err-raise_factor-2-clause-room : goal.returns-in_err-raise_factor-2-clause-room
returns-in_err-raise_factor-2-clause-room c =
    passed_on c.from_residual-in_err-raise_factor-2.result c.in_err-raise_factor-2.field-0.0 _ c.from_residual-in_err-raise_factor-2.ensures.0 c.from_residual-in_err-raise_factor-2.ensures.1
    (last_lacks c.requires.stands c.loop-at.invariant.stands c.loop-at.invariant.kept c.requires.first (product_words _ c.requires.product) c.loop-at.invariant.part
    (omega (arith, many (goal.at.returns-in_err-raise_factor-2-clause-room c).After-children-last, c.requires.some, c.loop-at-test.false, c.loop-at.auto.at-end)) c.in_err-raise_factor-2.ensures.room)
