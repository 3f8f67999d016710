use Rattle.power_reduce.proofs.Shared.{◌≤◌, inl, refl, ap, ◌∙◌, arith, rules, Tree, power, value_of, num, none, more, count, size, IsAdded, over_handed, over_plain, children_in, free_of, base_in}
use Rattle.power_reduce.proofs.Shared.{exponent_in, nth, children_of, tree_of, forest, gives_as, given_handed, given_root, given_told, owned, ChangesTree, changes_as, changes_last, changes_last_front}
use Rattle.power_reduce.proofs.{Shared.{hole_stays, set_child, front_again}, InPlace.{first_alone, hole_at, root_merged, merged_front, number_bytes, without_added}, Powers.{over_power}}
use Rattle.power_reduce.proofs.{Halves.{half_rewritten, half_room, halved}, rewriting.halve_root.Goals.{After-merge_children, After-fill}}
use Rattle.calc_terms.specs.declared.kind.Kind.TheVariants as kind
use Rattle.power_reduce.proofs.rewriting.halve_root.Goals as goal

pub merge_children-requires-clause-within : goal.merge_children-requires-clause-within
merge_children-requires-clause-within c = omega (arith, children_in c.requires.stands (over_power c.requires.handed c.requires.sides.power))

pub merge_children-requires-clause-unshared : goal.merge_children-requires-clause-unshared
merge_children-requires-clause-unshared c = first_alone c.requires.stands (over_power c.requires.handed c.requires.sides.power)

-- the power of the root's argument
merged : (c : After-merge_children) → IsAdded kind.Pow c.args.power (more (nth 0 (children_of (base_in (tree_of c.args.power c.args.pool.now)))) (more (exponent_in (tree_of c.args.power c.args.pool.now)) none)) (forest c.args.pool.now) (forest c.merge_children.new.pool)
merged c = root_merged c.args.pool.now c.requires.handed c.requires.sides.power c.requires.root (c.merge_children.ensures.root c.requires.handed.root)

pub open_child-hole-requires : goal.open_child-hole-requires
open_child-hole-requires c =
    let o = (merged (goal.at.open_child-hole-requires c).After-merge_children).over in
    record { stands = search rules; handed = over_handed o refl; within = omega (arith, ap (λ (t : Tree). count (children_of t)) (over_plain o refl)) }

pub release-requires-clause-releasable : goal.release-requires-clause-releasable
release-requires-clause-releasable c = inl (given_root c.open_child-hole.ensures.child)

pub unreachable-requires : goal.unreachable-requires
unreachable-requires c =
    let child = c.open_child-hole.ensures.child in
    let told = given_told child ∙ ap (λ (t : Tree). nth 1 (children_of t)) (over_plain (merged (goal.at.unreachable-requires c).After-merge_children).over refl) ∙ c.requires.exponent in
    let free = number_bytes c.open_child-hole.ensures.stands c.release.ensures.stands c.release.ensures.kept (given_handed child) (c.release.ensures.owned (owned (given_handed child))) in
    let room : size (num (value_of c.whole.result)) ≤ free_of c.release.new.pool = omega (arith, free, ap size told, half_room c.args.n c.whole.result (halved c.args.n c.whole.result c.requires.fits c.whole.ensures)) in
    absurd (cc (c.in-Err.ensures.exactly.1 room))

pub fill-requires : goal.fill-requires
fill-requires c =
    let g = c.in-Ok.ensures.given in
    let gone = c.release.ensures.owned (owned (given_handed c.open_child-hole.ensures.child)) in
    record { stands = search rules; hole = (_, _, _, hole_stays g (hole_at c.open_child-hole.ensures.hole gone)); handed = given_handed g }

-- the half stands where the exponent did
half_put : (c : After-fill) → ChangesTree c.args.power (power (nth 0 (children_of (base_in (tree_of c.args.power c.args.pool.now)))) (num (value_of c.whole.result))) (forest c.merge_children.new.pool) (forest c.fill.new.pool)
half_put c =
    let m = root_merged c.args.pool.now c.requires.handed c.requires.sides.power c.requires.root (c.merge_children.ensures.root c.requires.handed.root) in
    let g = c.in-Ok.ensures.given in
    let gone = c.release.ensures.owned (owned (given_handed c.open_child-hole.ensures.child)) in
    changes_as (c.fill.ensures.changed _ _ _ (hole_stays g (hole_at c.open_child-hole.ensures.hole gone))) (λ x. set_child 1 (given_told g x) (over_plain m.over refl x))

pub move_last-requires-clause-root : goal.move_last-requires-clause-root
move_last-requires-clause-root c = (half_put (goal.at.move_last-requires-clause-root c).After-fill).handed.root

pub returns-clause-gives : goal.returns-clause-gives
returns-clause-gives c =
    let m = merged (goal.at.returns-clause-gives c).After-merge_children in
    let is = half_rewritten _ _ c.args.n c.whole.result c.requires.root c.requires.number c.requires.even c.requires.exponent (halved c.args.n c.whole.result c.requires.fits c.whole.ensures) in
    gives_as (changes_last (half_put (goal.at.returns-clause-gives c).After-fill) c.move_last.ensures.last is) (without_added m) (λ t y. y)

pub returns-clause-front : goal.returns-clause-front
returns-clause-front c =
    let m = merged (goal.at.returns-clause-front c).After-merge_children in
    front_again (merged_front m) (changes_last_front (half_put (goal.at.returns-clause-front c).After-fill) c.move_last.ensures.last)
