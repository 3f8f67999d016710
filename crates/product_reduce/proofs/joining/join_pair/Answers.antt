use Rattle.product_reduce.proofs.Shared.{◌≡◌, ◌∙◌, ap, subst, refl, arith, rules, Becomes, Forest, Tree, Trees, count_removed, is_reduced, count, nth, plain, children_of, root_tree, without_root}
use Rattle.product_reduce.proofs.Shared.{forest, given_handed, given_told, behind_first, front_after_two, joint, joined_pair, factors_in, hole_beside, hole_stays, ChangesTree, set_child}
use Rattle.product_reduce.proofs.{Beside.{beside_product, behind_beside}, Finished.{reduced_nth}, FreeBytes.{refusal_told}, Joins.{becomes_filled, pair_out}, joining.join_pair.Goals.{After-fill}}
use Rattle.number_forms.proofs.Exchanged.{nth_before as nth_removed}
use Rattle.product_reduce.proofs.joining.join_pair.Goals as goal

pub open_child-hole-requires : goal.open_child-hole-requires
open_child-hole-requires c =
    let y = c.in_ok-exponent.ensures.ok in
    let product = beside_product y.beside y.becomes.product in
    let few = count_removed c.args.second (factors_in c.args.product.now (forest c.args.pool.now)) c.requires.within in
    record { stands = search rules; handed = product.handed; within = omega (arith, ap (λ (t : Tree). count (children_of t)) product.tree, few, c.requires.order, c.requires.within) }

pub raise-requires : goal.raise-requires
raise-requires c =
    let ts : Trees = factors_in c.args.product.now (forest c.args.pool.now) in
    let child = c.open_child-hole.ensures.child in
    let z = pair_out c.in_ok-exponent.ensures.ok c.open_child-hole.ensures.hole child in
    record {
      stands = search rules;
      first = given_handed child;
      second = z.beside.handed;
      apart = z.beside.apart;
      reduced =
          ap is_reduced (z.factor ∙ nth_removed c.args.first c.args.second ts c.requires.order) ∙ reduced_nth c.args.first ts (omega (arith, c.requires.order, c.requires.within)) c.requires.reduced;
    }

pub returns-in_err-power-clause-front : goal.returns-in_err-power-clause-front
returns-in_err-power-clause-front c =
    let y = c.in_ok-exponent.ensures.ok in
    front_after_two behind_first (behind_beside y.beside y.becomes.front) c.take_exponent.ensures.front (c.open_child-hole.ensures.front _ _ c.raise.ensures.front)

pub returns-in_err-power-clause-room : goal.returns-in_err-power-clause-room
returns-in_err-power-clause-room c = refusal_told c.from_residual-in_err-power.result (omega (arith, c.open_child-hole.ensures.free, c.in_ok-exponent.ensures.placed, c.in_err-power.ensures.room))

pub fill-requires : goal.fill-requires
fill-requires c =
    let o = c.open_child-hole.ensures.hole in
    let g = c.in_ok-power.ensures.ok in
    let z = pair_out c.in_ok-exponent.ensures.ok o c.open_child-hole.ensures.child in
    record { stands = search rules; hole = (_, _, _, hole_stays g (hole_beside c.in_ok-exponent.exponent z.clear o)); handed = given_handed g }

-- the joint stands where the first of them did
joined : (c : After-fill)
    → Becomes c.args.product.now (forest c.args.pool.now) (forest c.fill.new.pool) (joined_pair c.args.first c.args.second (factors_in c.args.product.now (forest c.args.pool.now)))
joined c =
    let ts : Trees = factors_in c.args.product.now (forest c.args.pool.now) in
    let power : Tree = joint (nth c.args.first ts) (nth c.args.second ts) in
    let y = c.in_ok-exponent.ensures.ok in
    let o = c.open_child-hole.ensures.hole in
    let g = c.in_ok-power.ensures.ok in
    let z = pair_out y o c.open_child-hole.ensures.child in
    let told : plain (root_tree c.in_ok-power.power (forest c.raise.new.pool)) ≡ power = given_told g ∙ rw (z.factor, z.exponent, nth_removed c.args.first c.args.second ts c.requires.order) refl in
    let Put : Tree → Forest → Type 0 = λ u f. ChangesTree c.args.product.now (set_child c.args.first u (plain (root_tree c.args.product.now f))) f (forest c.fill.new.pool) in
    let changed = c.fill.ensures.changed _ _ _ (hole_stays g (hole_beside c.in_ok-exponent.exponent z.clear o)) in
    becomes_filled c.args.first power y.becomes (omega (arith, count_removed c.args.second ts c.requires.within, c.requires.order, c.requires.within))
    (subst (Put power) y.beside.rest (subst (λ (u : Tree). Put u (without_root c.in_ok-exponent.exponent (forest c.take_exponent.new.pool))) told changed))

pub returns-clause-ok : goal.returns-clause-ok
returns-clause-ok c = joined (goal.at.returns-clause-ok c).After-fill

pub returns-clause-front : goal.returns-clause-front
returns-clause-front c = (joined (goal.at.returns-clause-front c).After-fill).front
