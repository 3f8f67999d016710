use Rattle.power_reduce.proofs.Shared.{◌≡◌, ◌≤◌, true, false, Result, Ok, Err, refl, ◌∙◌, arith, IsOk, none, more, mult, IsOver, IsTaken, over_end, without_put, IsAdded, children_in, added_as, moved}
use Rattle.power_reduce.proofs.Shared.{represents_count, base_in, exponent_in, Gives, tree_of, put, forest, behind_first, front_at, front_end, front_put, front_without, gives_as, given_rest}
use Rattle.power_reduce.proofs.{Shared.{given_root, ends_as, last_apart, other_root, root_held, free_of, taken_free, merged_free}, InPlace.{first_alone, merged_front, apart_last, without_added}}
use Rattle.power_reduce.proofs.{Joining.{sides_merged, first_taken, then_taken, first_on, product_given, alone_over, joined}, Powers.{over_power}}
use Rattle.power_reduce.proofs.rewriting.join_exponents.Goals.{After-merge_children, After-take_child-first, After-take_child-exponent, After-add_child-2}
use Rattle.calc_terms.specs.declared.kind.Kind.TheVariants as kind
use Rattle.power_reduce.proofs.rewriting.join_exponents.Goals as goal

pub merge_children-requires-clause-within : goal.merge_children-requires-clause-within
merge_children-requires-clause-within c = omega (arith, children_in c.requires.stands (over_power c.requires.handed c.requires.sides.power))

pub merge_children-requires-clause-unshared : goal.merge_children-requires-clause-unshared
merge_children-requires-clause-unshared c = first_alone c.requires.stands (over_power c.requires.handed c.requires.sides.power)

-- the inner power's children stand in its place
merged : (c : After-merge_children) → IsAdded kind.Pow c.args.power (more (base_in (base_in (tree_of c.args.power c.args.pool.now))) (more (exponent_in (base_in (tree_of c.args.power c.args.pool.now))) (more (exponent_in (tree_of c.args.power c.args.pool.now)) none))) (forest c.args.pool.now) (forest c.merge_children.new.pool)
merged c = sides_merged c.args.pool.now c.requires.handed c.requires.sides.power c.requires.base (c.merge_children.ensures.root c.requires.handed.root)

-- its exponent is taken, and then the outer one
first : (c : After-take_child-first) → (m : IsAdded kind.Pow c.args.power (more (base_in (base_in (tree_of c.args.power c.args.pool.now))) (more (exponent_in (base_in (tree_of c.args.power c.args.pool.now))) (more (exponent_in (tree_of c.args.power c.args.pool.now)) none))) (forest c.args.pool.now) (forest c.merge_children.new.pool)) × IsTaken kind.Pow c.args.power 1 (exponent_in (base_in (tree_of c.args.power c.args.pool.now))) (more (base_in (base_in (tree_of c.args.power c.args.pool.now))) (more (exponent_in (tree_of c.args.power c.args.pool.now)) none)) (forest c.merge_children.new.pool) (forest c.take_child-first.new.pool) c.take_child-first.result
first c =
    let m = sides_merged c.args.pool.now c.requires.handed c.requires.sides.power c.requires.base (c.merge_children.ensures.root c.requires.handed.root) in
    (m, first_taken m.over (c.take_child-first.ensures.last m.over.root))

second : (c : After-take_child-exponent) → (m : IsAdded kind.Pow c.args.power (more (base_in (base_in (tree_of c.args.power c.args.pool.now))) (more (exponent_in (base_in (tree_of c.args.power c.args.pool.now))) (more (exponent_in (tree_of c.args.power c.args.pool.now)) none))) (forest c.args.pool.now) (forest c.merge_children.new.pool)) × IsTaken kind.Pow c.args.power 1 (exponent_in (base_in (tree_of c.args.power c.args.pool.now))) (more (base_in (base_in (tree_of c.args.power c.args.pool.now))) (more (exponent_in (tree_of c.args.power c.args.pool.now)) none)) (forest c.merge_children.new.pool) (forest c.take_child-first.new.pool) c.take_child-first.result
    × IsTaken kind.Pow c.args.power 1 (exponent_in (tree_of c.args.power c.args.pool.now)) (more (base_in (base_in (tree_of c.args.power c.args.pool.now))) none) (forest c.take_child-first.new.pool) (forest c.take_child-exponent.new.pool) c.take_child-exponent.result
second c =
    let m = sides_merged c.args.pool.now c.requires.handed c.requires.sides.power c.requires.base (c.merge_children.ensures.root c.requires.handed.root) in
    let a = first_taken m.over (c.take_child-first.ensures.last m.over.root) in
    (m, a, then_taken a.over (c.take_child-exponent.ensures.last a.over.root))

-- both are the children of the product, and the power has its base alone
product : (c : After-add_child-2) → (m : IsAdded kind.Pow c.args.power (more (base_in (base_in (tree_of c.args.power c.args.pool.now))) (more (exponent_in (base_in (tree_of c.args.power c.args.pool.now))) (more (exponent_in (tree_of c.args.power c.args.pool.now)) none))) (forest c.args.pool.now) (forest c.merge_children.new.pool)) × (b : IsTaken kind.Pow c.args.power 1 (exponent_in (tree_of c.args.power c.args.pool.now)) (more (base_in (base_in (tree_of c.args.power c.args.pool.now))) none) (forest c.take_child-first.new.pool) (forest c.take_child-exponent.new.pool) c.take_child-exponent.result)
    × Gives (put c.args.power b.now (forest c.merge_children.new.pool)) (forest c.add_child-2.new.pool) c.in-Ok.product (λ u. u ≡ mult (more (exponent_in (base_in (tree_of c.args.power c.args.pool.now))) (more (exponent_in (tree_of c.args.power c.args.pool.now)) none)))
    × IsOver kind.Pow c.args.power (more (base_in (base_in (tree_of c.args.power c.args.pool.now))) none) (put c.args.power b.now (forest c.merge_children.new.pool))
product c =
    let m = sides_merged c.args.pool.now c.requires.handed c.requires.sides.power c.requires.base (c.merge_children.ensures.root c.requires.handed.root) in
    let a = first_taken m.over (c.take_child-first.ensures.last m.over.root) in
    let b = then_taken a.over (c.take_child-exponent.ensures.last a.over.root) in
    let one = ends_as (c.add_child.ensures.last _ _ c.in-Ok.ensures.ok (given_root b.gives)) refl (given_rest b.gives) in
    (m, b, product_given m.over a b (c.add_child-2.ensures.last _ _ one (given_root (first_on m.over a b))), alone_over m.over b)

pub take_child-first-requires-clause-within : goal.take_child-first-requires-clause-within
take_child-first-requires-clause-within c = omega (arith, children_in c.merge_children.ensures.stands (merged (goal.at.take_child-first-requires-clause-within c).After-merge_children).over)

pub take_child-exponent-requires-clause-within : goal.take_child-exponent-requires-clause-within
take_child-exponent-requires-clause-within c = omega (arith, children_in c.take_child-first.ensures.stands (first (goal.at.take_child-exponent-requires-clause-within c).After-take_child-first).1.over)

no_ok : {A E : Type 0} (r : Result A E) → IsOk r → ((h : A) → r ≡ Ok h → ⊥) → ⊥
no_ok (Ok h) e n = n h refl
no_ok (Err x) e n = let k : false ≡ true = e in cc

pub unreachable-requires : goal.unreachable-requires
unreachable-requires c =
    let w = second (goal.at.unreachable-requires c).After-take_child-exponent in
    let freed = merged_free c.args.power 0 c.requires.stands c.merge_children.ensures.stands c.merge_children.ensures.kept c.requires.handed.root (omega (arith, represents_count (over_power c.requires.handed c.requires.sides.power).kids)) (c.merge_children.ensures.root c.requires.handed.root) in
    let once = taken_free c.args.power 1 c.merge_children.ensures.stands c.take_child-first.ensures.stands c.take_child-first.ensures.kept w.0.over.root (c.take_child-first.ensures.last w.0.over.root) in
    let twice = taken_free c.args.power 1 c.take_child-first.ensures.stands c.take_child-exponent.ensures.stands c.take_child-exponent.ensures.kept w.1.over.root (c.take_child-exponent.ensures.last w.1.over.root) in
    let room : 8 ≤ free_of c.take_child-exponent.new.pool = omega (arith, freed, once, twice) in
    no_ok c.node.result (c.node.ensures.exactly.1 room) c.in_default.not-Ok

pub add_child-requires-clause-root : goal.add_child-requires-clause-root
add_child-requires-clause-root c = other_root c.take_child-exponent.result c.in-Ok.ensures.ok (given_root (second (goal.at.add_child-requires-clause-root c).After-take_child-exponent).2.gives)

pub add_child-requires-clause-apart : goal.add_child-requires-clause-apart
add_child-requires-clause-apart c = last_apart c.take_child-exponent.result c.in-Ok.ensures.stands c.in-Ok.ensures.ok (given_root (second (goal.at.add_child-requires-clause-apart c).After-take_child-exponent).2.gives)

pub add_child-requires-2-clause-root : goal.add_child-requires-2-clause-root
add_child-requires-2-clause-root c =
    let w = second (goal.at.add_child-requires-2-clause-root c).After-take_child-exponent in
    let one = ends_as (c.add_child.ensures.last _ _ c.in-Ok.ensures.ok (given_root w.2.gives)) refl (given_rest w.2.gives) in
    other_root c.take_child-first.result one (given_root (first_on w.0.over w.1 w.2))

pub add_child-requires-2-clause-apart : goal.add_child-requires-2-clause-apart
add_child-requires-2-clause-apart c =
    let w = second (goal.at.add_child-requires-2-clause-apart c).After-take_child-exponent in
    let one = ends_as (c.add_child.ensures.last _ _ c.in-Ok.ensures.ok (given_root w.2.gives)) refl (given_rest w.2.gives) in
    last_apart c.take_child-first.result c.add_child.ensures.stands one (given_root (first_on w.0.over w.1 w.2))

pub add_child-requires-3-clause-live : goal.add_child-requires-3-clause-live
add_child-requires-3-clause-live c =
    let w = product (goal.at.add_child-requires-3-clause-live c).After-add_child-2 in
    root_held c.args.power _ (over_end w.3 w.2.ends).root

pub add_child-requires-3-clause-within : goal.add_child-requires-3-clause-within
add_child-requires-3-clause-within c =
    let w = product (goal.at.add_child-requires-3-clause-within c).After-add_child-2 in
    omega (arith, children_in c.add_child-2.ensures.stands (over_end w.3 w.2.ends))

pub add_child-requires-3-clause-root : goal.add_child-requires-3-clause-root
add_child-requires-3-clause-root c = given_root (product (goal.at.add_child-requires-3-clause-root c).After-add_child-2).2

pub add_child-requires-3-clause-apart : goal.add_child-requires-3-clause-apart
add_child-requires-3-clause-apart c =
    let w = product (goal.at.add_child-requires-3-clause-apart c).After-add_child-2 in
    apart_last c.add_child-2.ensures.stands w.3 w.2

pub move_last-requires-clause-root : goal.move_last-requires-clause-root
move_last-requires-clause-root c =
    let w = product (goal.at.move_last-requires-clause-root c).After-add_child-2 in
    (added_as 1 w.3 w.2 (c.add_child-3.ensures.root (over_end w.3 w.2.ends).root) refl).over.root

pub returns-clause-gives : goal.returns-clause-gives
returns-clause-gives c =
    let w = product (goal.at.returns-clause-gives c).After-add_child-2 in
    gives_as (moved (added_as 1 w.3 w.2 (c.add_child-3.ensures.root (over_end w.3 w.2.ends).root) refl) refl c.move_last.ensures.last (joined _ _ c.requires.base c.requires.inside c.requires.transparent))
    (without_put c.args.power w.1.now _ ∙ without_added w.0) (λ t y. y)

pub returns-clause-front : goal.returns-clause-front
returns-clause-front c =
    let w = product (goal.at.returns-clause-front c).After-add_child-2 in
    let x = added_as 1 w.3 w.2 (c.add_child-3.ensures.root (over_end w.3 w.2.ends).root) refl in
    front_end c.move_last.ensures.last (front_without behind_first (front_at (front_put x.now behind_first (front_put w.1.now behind_first (merged_front w.0))) x.whole))
