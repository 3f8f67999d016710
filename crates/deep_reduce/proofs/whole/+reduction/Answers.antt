use Rattle.deep_reduce.proofs.Shared.{rules, ◌≡◌, ◌<◌, ◌+◌, ◌^◌, ℕ, length, ap, ◌∙◌, refl, sym, subst, arith, Option, Tree, Trees, add, count, is_mult, size, kind_of_root, product_kind}
use Rattle.deep_reduce.proofs.Shared.{no_product_kind, if_map, passed_on, IsReducedProduct, IsReducedPower, IsSummed, joins_none, joins_then, IsHeldAsPowerOf, IsFactorHeld, raised_high, raised_low}
use Rattle.deep_reduce.proofs.Shared.{IsCalmAtZero, IsJoinedFrom, whole_power_room, SpansTree, free_of, replaced_free, gives_itself, IsPairAt, base_in, exponent_in, are_reduced, is_whole_num}
use Rattle.deep_reduce.proofs.Shared.{Rewrites, tree_of, children_of, keeps_none, keeps_after, behind_first, front_same, front_end, front_without, gives, gives_as, given_handed, given_told}
use Rattle.deep_reduce.proofs.Shared.{represents_handed, changes_as, changes_free, changes_front, changes_last, changes_last_front, children_told, front_again, hole_stays, KeepsProductBounds, product_count, plain_value}
use Rattle.deep_reduce.proofs.Shared.{contrary, product_fits, powers_ready, part_ready, exponent_ready, joint_exponents, joint_fits, half_no_whole, joint_lacks, is_rewritten, on_ok_after, fault_after}
use Rattle.deep_reduce.proofs.Arms.{factors_refused, is_finished, is_gathered, is_at, is_few, is_done, is_again, is_held, gathered_hands, any_fault, any_refusal, misfit_fault, rewritten_defined, is_bounded}
use Rattle.deep_reduce.proofs.Children.{exponent_told, exponent_set, factor_set, gives_next, front_next, exponent_seen, with_product, without_product, taken_falls, two_sides, handed_within}
use Rattle.deep_reduce.proofs.Falls.{joint_falls, two_falls, next_two_falls, pairs_fall, product_falls, power_falls, rewritten_falls, powers_fall, ready_product_falls, exponent_falls}
use Rattle.deep_reduce.proofs.{Falls.{ready_power_falls, one_power_falls}, Finished.{product_of_powers, ready_product, transparent_children, ready_power, power_lifted, power_of_kind}}
use Rattle.deep_reduce.proofs.Lacking.{lacks_as, result_lacks, leaves_after, step_short, short_as, short_at, short_beside, handed_on, joint_sum_lacks, joint_power_short, joint_at_spans, joint_ready, next_bytes, step_lacks, power_refused, power_result}
use Rattle.deep_reduce.proofs.{Lacking.{ready_product as ready_for_product, ready_power as ready_for_power, ready_exponent, ready_part}, Measures.{few_factors, below_measure}}
use Rattle.deep_reduce.proofs.Told.{half_no_whole as half_is_not_whole}
use Rattle.deep_reduce.proofs.{Opened.{opened, power_after, power_finished}, Rows.{IsPowerOf, none_reduced, next_power, next_within, next_of, next_told, next_reduced, all_reduced}, Settled.{joint_at}}
use Rattle.deep_reduce.proofs.Settled.{ready_joint, ready_summed, pair_joined, settled_less, settled_within, less_gathered, less_next, gathered_product, some_pair, product_after, product_finished}
use Rattle.std.proofs.Common.{IfSome, Err}
use Rattle.node_bounds.proofs.HeldFits.{power_fits}
use Rattle.calc_terms.specs.Trees.{power as power_tree}
use Rattle.tree_handles.proofs.SmallLaws.{mult_is as product_words}
use Rattle.tree_handles.specs.declared.fault.NumberFault.TheVariants as fault
use Rattle.deep_reduce.proofs.whole.+reduction.Goals as goal

-- ---- reduce_product

pub reduce_product-returns-in-Done : goal.reduce_product-returns-in-Done
reduce_product-returns-in-Done t c =
    let ts : Trees = children_of (tree_of c.args.product c.args.pool.now) in
    let g = is_finished c.args.product c.args.pool.now c.gather_factors.new.pool c.in-Done.is c.in_ok-answer.ensures.done in
    let b = is_bounded c.args.product c.args.pool.now c.gather_factors.new.pool c.in-Done.is c.in_ok-answer.ensures.bounds in
    record {
      ok = gives_as (gives_itself g) refl (λ u f. product_finished ts u c.requires.reduced f.0 (subst (KeepsProductBounds ts) (sym f.1) b));
      joined = record { us = ts; joins = joins_none; finished = given_told g };
      written = λ d n. (given_told g).written d;
      rationals = search rules;
      defined = tt;
      front = c.gather_factors.ensures.front;
      kept = c.in_ok-answer.ensures.kept;
      faults = tt;
      caused = tt;
      room = λ gs ns k s. tt;
      bits = λ h l a few. tt;
      stands = c.gather_factors.ensures.stands;
    }

pub reduce_product-join_pairs-requires : goal.reduce_product-join_pairs-requires
reduce_product-join_pairs-requires t c =
    let g = is_gathered c.args.product c.args.pool.now c.gather_factors.new.pool c.in-Joined.is c.in_ok-answer.ensures.gathered in
    let j = given_told g in
    let place = is_at c.args.product c.args.pool.now c.gather_factors.new.pool c.in-Joined.is c.in_ok-answer.ensures.pair in (
      below_measure c.decreases (pairs_fall c.in-Joined.at (tree_of c.args.product c.args.pool.now) (tree_of c.in-Joined.product c.gather_factors.new.pool) j place),
      (
        c.in_ok-answer.ensures.stands,
        (given_handed g, (gathered_product _ _ j, (j.reduced, (place, is_few c.args.product c.args.pool.now c.gather_factors.new.pool c.in-Joined.is c.in_ok-answer.ensures.fits)))),
      ),
    )

pub reduce_product-returns-in_err-joined-in-Joined : goal.reduce_product-returns-in_err-joined-in-Joined
reduce_product-returns-in_err-joined-in-Joined t c =
    let g = is_gathered c.args.product c.args.pool.now c.gather_factors.new.pool c.in-Joined.is c.in_ok-answer.ensures.gathered in
    let u : Tree = tree_of c.in-Joined.product c.gather_factors.new.pool in
    let hands = gathered_hands c.args.product c.args.pool.now c.gather_factors.new.pool c.in-Joined.is c.in_ok-answer.ensures.gathered c.in_ok-answer.ensures.joined_bounds in
    let f = c.from_residual-in_err-joined-in-Joined in
    let e = c.in_err-joined-in-Joined in
    record {
      ok = search rules;
      joined = search rules;
      written = search rules;
      rationals = search rules;
      defined = passed_on f.result e.field-0.0 _ f.ensures.0 f.ensures.1 (any_fault e.field-0.0 _ (given_told g).joinable.defined);
      front = front_next g c.gather_factors.ensures.front c.join_pairs.ensures.front;
      kept = search rules;
      faults = search rules;
      caused = search rules;
      room = λ gs ns k s.
          let x = handed_on (tree_of c.args.product c.args.pool.now) u c.requires.product (product_words u (gathered_product _ _ (given_told g))) hands gs ns k s in
          passed_on f.result e.field-0.0 _ f.ensures.0 f.ensures.1
          (lacks_as e.field-0.0 (e.ensures.room gs ns x.calm x.spanned)
          (λ l. short_as (replaced_free c.requires.stands c.in_ok-answer.ensures.stands c.in_ok-answer.ensures.kept c.requires.handed g) x.needs l));
      bits = λ h l a few. passed_on f.result e.field-0.0 _ f.ensures.0 f.ensures.1 (e.ensures.bits h l (hands.held h l a) few);
      stands = search rules;
    }

pub reduce_product-reduce_product-requires : goal.reduce_product-reduce_product-requires
reduce_product-reduce_product-requires t c =
    let g = c.in_ok-joined-in-Joined.ensures.ok in
    let j = given_told (is_gathered c.args.product c.args.pool.now c.gather_factors.new.pool c.in-Joined.is c.in_ok-answer.ensures.gathered) in
    let l = less_gathered _ _ _ j (gathered_hands c.args.product c.args.pool.now c.gather_factors.new.pool c.in-Joined.is c.in_ok-answer.ensures.gathered c.in_ok-answer.ensures.joined_bounds) (given_told g) in
    (below_measure c.decreases (product_falls (tree_of c.args.product c.args.pool.now) _ l), (c.in_ok-joined-in-Joined.ensures.leaves.stands, (given_handed g, (ap is_mult l.is, (l.some, l.reduced)))))

pub reduce_product-returns-in_ok-joined-in-Joined : goal.reduce_product-returns-in_ok-joined-in-Joined
reduce_product-returns-in_ok-joined-in-Joined t c =
    let first = is_gathered c.args.product c.args.pool.now c.gather_factors.new.pool c.in-Joined.is c.in_ok-answer.ensures.gathered in
    let j = given_told first in
    let l = less_gathered _ _ _ j (gathered_hands c.args.product c.args.pool.now c.gather_factors.new.pool c.in-Joined.is c.in_ok-answer.ensures.gathered c.in_ok-answer.ensures.joined_bounds) (given_told c.in_ok-joined-in-Joined.ensures.ok) in
    let next = gives_next first c.in_ok-joined-in-Joined.ensures.ok (λ u y. y) in
    record {
      ok = if_map c.reduce_product.result _ _ c.reduce_product.ensures.ok (λ h x. gives_next next x (λ r a. product_after _ _ _ r c.requires.reduced j.joinable l a));
      joined = if_map c.reduce_product.result _ _ c.reduce_product.ensures.joined (λ h x. record { us = x.us; joins = joins_then l.joins x.joins; finished = x.finished });
      written = if_map c.reduce_product.result _ _ c.reduce_product.ensures.written (λ h x d n. absurd (n j.coefficient j.joinable));
      rationals = search rules;
      defined = any_refusal c.reduce_product.result _ j.joinable.defined;
      front = front_next next (front_next first c.gather_factors.ensures.front c.join_pairs.ensures.front) c.reduce_product.ensures.front;
      kept = search rules;
      faults = search rules;
      caused = search rules;
      room = λ gs ns k s.
          let v : Tree = tree_of c.in_ok-joined-in-Joined.joined c.join_pairs.new.pool in
          let x = handed_on (tree_of c.args.product c.args.pool.now) v c.requires.product l.is l.hands_on gs ns k s in
          let kept = keeps_after _ _ _ c.in_ok-answer.ensures.kept c.in_ok-joined-in-Joined.ensures.leaves.kept in
          result_lacks c.reduce_product.result (c.reduce_product.ensures.room gs ns x.calm x.spanned)
          (λ m. short_as (replaced_free c.requires.stands c.in_ok-joined-in-Joined.ensures.leaves.stands kept c.requires.handed next) x.needs m);
      bits = λ h m a few. c.reduce_product.ensures.bits h m (l.hands_on.held h m a) few;
      stands = search rules;
    }

pub reduce_product-returns-in_err-answer : goal.reduce_product-returns-in_err-answer
reduce_product-returns-in_err-answer t c =
    let f = c.from_residual in
    let e = c.in_err-answer in
    record {
      ok = search rules;
      joined = search rules;
      written = search rules;
      rationals = λ q. factors_refused (plain_value (tree_of c.args.product c.args.pool.now)) c.gather_factors.new.pool f.result e.field-0.0 f.ensures.1 (e.ensures.rationals q);
      defined = passed_on f.result e.field-0.0 _ f.ensures.0 f.ensures.1 e.ensures.defined;
      front = c.gather_factors.ensures.front;
      kept = search rules;
      faults = passed_on f.result e.field-0.0 _ f.ensures.0 f.ensures.1 e.ensures.faults;
      caused = passed_on f.result e.field-0.0 _ f.ensures.0 f.ensures.1 e.ensures.caused;
      room = λ gs ns k s. passed_on f.result e.field-0.0 _ f.ensures.0 f.ensures.1
          (lacks_as e.field-0.0 (e.ensures.room gs s) (λ l. step_short (product_count (children_of (tree_of c.args.product c.args.pool.now))) (2 ^ length gs) _ l));
      bits = λ h l a few. passed_on f.result e.field-0.0 _ f.ensures.0 f.ensures.1 (e.ensures.bits h l a few);
      stands = c.gather_factors.ensures.stands;
    }

-- ---- join_pairs

pub join_pairs-join_two-requires : goal.join_pairs-join_two-requires
join_pairs-join_two-requires t c = (
  below_measure c.decreases (two_falls c.args.first (tree_of c.args.product c.args.pool.now) c.requires.reduced c.requires.pair),
  (c.requires.stands, (c.requires.handed, (c.requires.product, (c.requires.reduced, (c.requires.pair, c.requires.fits))))),
)

pub join_pairs-loop-next-init : goal.join_pairs-loop-next-init
join_pairs-loop-next-init t c = record {
  stands = c.in_ok-joined.ensures.leaves.stands;
  kept = c.in_ok-joined.ensures.leaves.kept;
  given = c.in_ok-joined.ensures.ok;
  pair = some_pair c.args.first _ c.next_pair-next.result c.next_pair-next.ensures.pair;
  fits = c.next_pair-next.ensures.fits;
  front = c.join_two.ensures.front;
}

pub join_pairs-join_two-requires-in-Some : goal.join_pairs-join_two-requires-in-Some
join_pairs-join_two-requires-in-Some t c =
    let i = c.loop-next.invariant in
    let l = given_told i.given in
    let pair = subst (λ (n : Option ℕ). IfSome n (λ at. IsPairAt at (children_of (tree_of c.loop-next.joined c.loop-next.pool)))) c.in-Some.is i.pair in
    let fits = subst (λ (n : Option ℕ). IfSome n (λ at. at + 1 < 2 ^ 16)) c.in-Some.is i.fits in (
      below_measure c.decreases (next_two_falls (tree_of c.args.product c.args.pool.now) _ l),
      (i.stands, (given_handed i.given, (ap is_mult l.is, (l.reduced, (pair, fits))))),
    )

pub join_pairs-loop-next-preserved : goal.join_pairs-loop-next-preserved
join_pairs-loop-next-preserved t c =
    let i = c.loop-next.invariant in
    let g = i.given in
    record {
      stands = c.in-Ok.ensures.leaves.stands;
      kept = keeps_after _ _ _ i.kept c.in-Ok.ensures.leaves.kept;
      given = gives_next g c.in-Ok.ensures.ok (λ v s. less_next (children_of (tree_of c.args.product c.args.pool.now)) _ v (given_told g) s);
      pair = some_pair c.in-Some.at _ c.next_pair-next-in-Some.result c.next_pair-next-in-Some.ensures.pair;
      fits = c.next_pair-next-in-Some.ensures.fits;
      front = front_next g i.front c.join_two-in-Some.ensures.front;
    }

pub join_pairs-returns-in-Err : goal.join_pairs-returns-in-Err
join_pairs-returns-in-Err t c =
    let i = c.loop-next.invariant in
    let l = given_told i.given in
    record {
      ok = tt;
      front = front_next i.given i.front c.join_two-in-Some.ensures.front;
      room = λ gs ns k s.
          let x = handed_on (tree_of c.args.product c.args.pool.now) (tree_of c.loop-next.joined c.loop-next.pool) c.requires.product l.is l.hands_on gs ns k s in
          lacks_as c.in-Err.fault (c.in-Err.ensures.room gs ns x.calm x.spanned) (λ m. short_as (replaced_free c.requires.stands i.stands i.kept c.requires.handed i.given) x.needs m);
      bits = λ h m a few. c.in-Err.ensures.bits h m (l.hands_on.held h m a) few;
      leaves = search rules;
    }

pub join_pairs-returns : goal.join_pairs-returns
join_pairs-returns t c =
    let i = c.loop-next.invariant in
    record {
      ok = i.given;
      front = i.front;
      room = λ gs ns k s. tt;
      bits = λ h l a few. tt;
      leaves = record { kept = i.kept; faults = tt; caused = tt; stands = i.stands };
    }

pub join_pairs-returns-in_err-joined : goal.join_pairs-returns-in_err-joined
join_pairs-returns-in_err-joined t c =
    let f = c.from_residual in
    let e = c.in_err-joined in
    record {
      ok = search rules;
      front = c.join_two.ensures.front;
      room = λ gs ns k s. passed_on f.result e.field-0.0 _ f.ensures.0 f.ensures.1 (e.ensures.room gs ns k s);
      bits = λ h l a few. passed_on f.result e.field-0.0 _ f.ensures.0 f.ensures.1 (e.ensures.bits h l a few);
      leaves = search rules;
    }

-- ---- join_two

pub join_two-reduce_joint-requires : goal.join_two-reduce_joint-requires
join_two-reduce_joint-requires t c =
    let g = c.in_ok-joined.ensures.ok in
    let j = pair_joined c.args.at (children_of (tree_of c.args.product c.args.pool.now)) _ c.requires.reduced c.requires.pair (given_told g) in
    (below_measure c.decreases (joint_falls (tree_of c.args.product c.args.pool.now) _ c.args.at j), (c.in_ok-joined.ensures.stands, (given_handed g, (ap is_mult j.is, j.joint))))

pub join_two-returns : goal.join_two-returns
join_two-returns t c =
    let g = c.in_ok-joined.ensures.ok in
    let u : Tree = tree_of c.args.product c.args.pool.now in
    let ts : Trees = children_of u in
    let j = pair_joined c.args.at ts _ c.requires.reduced c.requires.pair (given_told g) in
    let from : IsJoinedFrom c.args.at ts (children_of (tree_of c.in_ok-joined.joined c.join_neighbours.new.pool)) = record { pair = c.requires.pair; reduced = c.requires.reduced; is = j.whole } in
    record {
      ok = if_map c.reduce_joint.result _ _ c.reduce_joint.ensures.ok (λ h x. gives_next g x (λ r s. settled_less c.args.at ts _ r j s));
      within = if_map c.reduce_joint.result _ _ c.reduce_joint.ensures.ok (λ h x. settled_within c.args.at _ _ j.joint (given_told x));
      front = front_next g c.join_neighbours.ensures.front c.reduce_joint.ensures.front;
      room = λ gs ns k s.
          let w = product_words u c.requires.product in
          result_lacks c.reduce_joint.result (c.reduce_joint.ensures.room gs ns ts from (subst (IsCalmAtZero ns) w k) (subst (SpansTree gs) w s))
          (λ l. short_at (replaced_free c.requires.stands c.in_ok-joined.ensures.stands c.in_ok-joined.ensures.kept c.requires.handed g) l);
      bits = λ h l a few. c.reduce_joint.ensures.bits h l ts from a few;
      leaves = leaves_after c.reduce_joint.result _ _ _ c.in_ok-joined.ensures.kept c.reduce_joint.ensures.leaves;
    }

pub join_two-returns-in_err-joined : goal.join_two-returns-in_err-joined
join_two-returns-in_err-joined t c =
    let u : Tree = tree_of c.args.product c.args.pool.now in
    let w = product_words u c.requires.product in
    record {
      ok = search rules;
      within = search rules;
      front = c.join_neighbours.ensures.front;
      room = λ gs ns k s. passed_on c.from_residual.result (fault.Full c.in_err-joined.field-0.0) _ c.from_residual.ensures.0 c.from_residual.ensures.1
          (short_beside (free_of c.args.pool.now) w (joint_lacks gs (children_of u) (free_of c.args.pool.now) c.requires.reduced (subst (SpansTree gs) w s).1 c.in_err-joined.ensures.room));
      bits = λ h l a few. passed_on c.from_residual.result (fault.Full c.in_err-joined.field-0.0) _ c.from_residual.ensures.0 c.from_residual.ensures.1 tt;
      leaves = search rules;
    }

-- ---- reduce_joint

pub reduce_joint-open_child-hole-requires : goal.reduce_joint-open_child-hole-requires
reduce_joint-open_child-hole-requires t c = record { stands = search rules; handed = c.requires.handed; within = c.requires.joint.within }

pub reduce_joint-sum_exponent-requires : goal.reduce_joint-sum_exponent-requires
reduce_joint-sum_exponent-requires t c =
    let child = c.open_child-hole.ensures.child in
    let e = given_told child in
    let r = ready_joint _ (joint_at c.requires.joint) in
    record {
      stands = search rules;
      handed = given_handed child;
      power = subst (λ (x : Tree). x ≡ power_tree (base_in x) (add (children_of (exponent_in x)))) (sym e) r.is;
      some = omega (arith, ap (λ (x : Tree). count (children_of (exponent_in x))) e, r.some);
      reduced = ap (λ (x : Tree). are_reduced (children_of (exponent_in x))) e ∙ r.reduced;
    }

pub reduce_joint-returns-in_err-power : goal.reduce_joint-returns-in_err-power
reduce_joint-returns-in_err-power t c =
    let us : Trees = children_of (tree_of c.args.product c.args.pool.now) in
    let x : Tree = tree_of c.open_child-hole.result.1 c.open_child-hole.new.pool in
    let e = given_told c.open_child-hole.ensures.child in
    let w = product_words (tree_of c.args.product c.args.pool.now) c.requires.product in
    record {
      ok = search rules;
      front = c.open_child-hole.ensures.front _ _ c.sum_exponent.ensures.front;
      room = λ gs ns ts k q s. passed_on c.from_residual.result c.in_err-power.field-0.0 _ c.from_residual.ensures.0 c.from_residual.ensures.1
          (lacks_as c.in_err-power.field-0.0 (c.in_err-power.ensures.room gs (subst (SpansTree gs) (sym e) (joint_at_spans gs c.args.at ts us k s.1)))
          (λ l. omega (arith, joint_sum_lacks gs c.args.at ts us k s.1 x (free_of c.open_child-hole.new.pool) (free_of c.args.pool.now) e c.open_child-hole.ensures.free l, ap size w)));
      bits = λ h l ts k b few.
          passed_on c.from_residual.result c.in_err-power.field-0.0 _ c.from_residual.ensures.0 c.from_residual.ensures.1
          (c.in_err-power.ensures.bits 8 0 (joint_exponents c.args.at ts us k x e h l b few) (omega arith));
      leaves = search rules;
    }

pub reduce_joint-reduce_power-requires : goal.reduce_joint-reduce_power-requires
reduce_joint-reduce_power-requires t c =
    let r = ready_joint _ (joint_at c.requires.joint) in
    let g = c.in_ok-power.ensures.ok in
    let s = subst (λ (x : Tree). IsSummed (base_in x) (children_of (exponent_in x)) (tree_of c.in_ok-power.power c.sum_exponent.new.pool)) (given_told c.open_child-hole.ensures.child) (given_told g) in
    let y = ready_summed _ _ _ r.base_reduced s in (
      below_measure c.decreases (power_falls (tree_of c.args.product c.args.pool.now) _ c.args.at r.is s),
      (c.in_ok-power.ensures.leaves.stands, (given_handed g, (y.is, (y.base_reduced, y.exponent_reduced)))),
    )

pub reduce_joint-returns-in_err-factor : goal.reduce_joint-returns-in_err-factor
reduce_joint-returns-in_err-factor t c =
    let us : Trees = children_of (tree_of c.args.product c.args.pool.now) in
    let x : Tree = tree_of c.open_child-hole.result.1 c.open_child-hole.new.pool in
    let v : Tree = tree_of c.in_ok-power.power c.sum_exponent.new.pool in
    let child = c.open_child-hole.ensures.child in
    let e = given_told child in
    let g = c.in_ok-power.ensures.ok in
    let w = product_words (tree_of c.args.product c.args.pool.now) c.requires.product in
    record {
      ok = search rules;
      front = c.open_child-hole.ensures.front _ _ (front_next g c.sum_exponent.ensures.front c.reduce_power.ensures.front);
      room = λ gs ns ts k q s.
          let m = subst (λ (y : Tree). IsSummed (base_in y) (children_of (exponent_in y)) v) e (given_told g) in
          let moved = replaced_free c.open_child-hole.ensures.stands c.in_ok-power.ensures.leaves.stands c.in_ok-power.ensures.leaves.kept (given_handed child) g in
          let y = joint_ready gs ns c.args.at ts us v k q s m in
          passed_on c.from_residual-in_err-factor.result c.in_err-factor.field-0.0 _ c.from_residual-in_err-factor.ensures.0 c.from_residual-in_err-factor.ensures.1
          (power_refused _ _ v c.in_err-factor.field-0.0 y.is y.calm
          (λ h. lacks_as c.in_err-factor.field-0.0 (c.in_err-factor.ensures.room gs ns y.calm y.spanned h)
          (λ l. omega (arith, joint_power_short gs c.args.at ts us k s.1 x v (free_of c.sum_exponent.new.pool + size v) (free_of c.args.pool.now) e (ap base_in m.is ∙ sym (ap base_in e)) (omega (arith, moved, c.open_child-hole.ensures.free)) l, ap size w)))
          (λ h z. c.in_err-factor.ensures.others h z));
      bits = λ h l ts k b few. passed_on c.from_residual-in_err-factor.result c.in_err-factor.field-0.0 _ c.from_residual-in_err-factor.ensures.0 c.from_residual-in_err-factor.ensures.1
          (joint_fits c.args.at ts us k x e {A = ℕ} v h l (Err c.in_err-factor.field-0.0) (given_told g) b few c.in_err-factor.ensures.bits c.in_err-factor.ensures.others);
      leaves = search rules;
    }

pub reduce_joint-fill-requires : goal.reduce_joint-fill-requires
reduce_joint-fill-requires t c =
    let g = gives_next c.in_ok-power.ensures.ok c.in_ok-factor.ensures.ok (λ u x. x) in
    record { stands = search rules; hole = (_, _, _, hole_stays g c.open_child-hole.ensures.hole); handed = given_handed g }

pub reduce_joint-move_last-requires-clause-root : goal.reduce_joint-move_last-requires-clause-root
reduce_joint-move_last-requires-clause-root t c =
    let g = gives_next c.in_ok-power.ensures.ok c.in_ok-factor.ensures.ok (λ u x. x) in
    (c.fill.ensures.changed _ _ _ (hole_stays g c.open_child-hole.ensures.hole)).handed.root

pub reduce_joint-returns : goal.reduce_joint-returns
reduce_joint-returns t c =
    let g = gives_next c.in_ok-power.ensures.ok c.in_ok-factor.ensures.ok (λ u x. x) in
    let v : Tree = tree_of c.in_ok-factor.factor c.reduce_power.new.pool in
    let changed = c.fill.ensures.changed _ _ _ (hole_stays g c.open_child-hole.ensures.hole) in
    let p = changes_as changed (factor_set (tree_of c.args.product c.args.pool.now) c.args.at v c.requires.product) in
    let s = subst (λ (x : Tree). IsSummed (base_in x) (children_of (exponent_in x)) (tree_of c.in_ok-power.power c.sum_exponent.new.pool)) (given_told c.open_child-hole.ensures.child) (given_told c.in_ok-power.ensures.ok) in
    let answer = subst (λ (x : Tree). IsReducedPower (base_in x) (exponent_in x) v) s.is (given_told c.in_ok-factor.ensures.ok) in
    record {
      ok = changes_last p c.move_last.ensures.last (record { exponent = s.exponent; sum = s.sum; bounds = s.bounds; factor = v; answer = answer; is = refl });
      front = changes_last_front changed c.move_last.ensures.last;
      room = λ gs ns ts k q x. tt;
      bits = λ h l ts k a few. tt;
      leaves = search rules;
    }

-- ---- reduce_power

pub reduce_power-returns-in-Done : goal.reduce_power-returns-in-Done
reduce_power-returns-in-Done t c =
    let b : Tree = base_in (tree_of c.args.power c.args.pool.now) in
    let e : Tree = exponent_in (tree_of c.args.power c.args.pool.now) in
    let d = is_done c.args.power c.args.pool.now c.power_step.new.pool c.in-Done.is c.in_ok-answer.ensures.ok in
    record {
      ok = gives_as (gives_itself d.1) refl (λ u a. power_finished b e u d.0 a.0
          (λ n q. subst (IsHeldAsPowerOf n b) (sym a.1) (is_held c.power_step.new.pool c.in-Done.is n b (c.in_ok-answer.ensures.held n q))));
      rationals = search rules;
      defined = tt;
      front = c.power_step.ensures.front;
      kept = c.in_ok-answer.ensures.kept;
      faults = tt;
      caused = tt;
      room = λ gs ns k s w. tt;
      root_room = λ gs h s. tt;
      others = λ w h. refl;
      bits = λ n h l q a few. tt;
      root_bits = λ h l q z a few more. tt;
      stands = c.power_step.ensures.stands;
    }

pub reduce_power-reduce_rewritten-requires : goal.reduce_power-reduce_rewritten-requires
reduce_power-reduce_rewritten-requires t c =
    let g = is_again c.args.power c.args.pool.now c.power_step.new.pool c.in-Again.is c.in_ok-answer.ensures.ok in
    let o = opened _ _ _ (sym c.has_half_exponent.ensures ∙ c.if-has_half_exponent.false) c.requires.base c.requires.exponent (given_told g).0 in
    (below_measure c.decreases (rewritten_falls _ _ c.requires.power o), (c.in_ok-answer.ensures.stands, (given_handed g, o.unfinished)))

pub reduce_power-returns-in-Again : goal.reduce_power-returns-in-Again
reduce_power-returns-in-Again t c =
    let g = is_again c.args.power c.args.pool.now c.power_step.new.pool c.in-Again.is c.in_ok-answer.ensures.ok in
    let w = given_told g in
    let n = sym c.has_half_exponent.ensures ∙ c.if-has_half_exponent.false in
    let r = is_rewritten _ _ _ n c.requires.base c.requires.exponent w.0 in
    record {
      ok =
          let same = subst (λ (x : Tree). Rewrites x (tree_of c.in-Again.tree c.power_step.new.pool)) c.requires.power w.1 in
          if_map c.reduce_rewritten.result _ _ c.reduce_rewritten.ensures.ok (λ h x. gives_next g x (λ r f. power_after _ _ _ r n c.requires.base c.requires.exponent (w.0, same) f));
      rationals = search rules;
      defined = any_refusal c.reduce_rewritten.result _ (rewritten_defined (tree_of c.args.power c.args.pool.now) _ c.requires.power n w.0);
      front = front_next g c.power_step.ensures.front c.reduce_rewritten.ensures.front;
      kept = search rules;
      faults = search rules;
      caused = search rules;
      room = λ gs ns k s e.
          result_lacks c.reduce_rewritten.result (c.reduce_rewritten.ensures.room gs ns _ _ r (subst (IsCalmAtZero ns) c.requires.power k) (subst (SpansTree gs) c.requires.power s))
          (λ l. short_at (replaced_free c.requires.stands c.in_ok-answer.ensures.stands c.in_ok-answer.ensures.kept c.requires.handed g) l);
      root_room = λ gs h s. contrary h n;
      others = λ e h. contrary r.whole e;
      bits = λ m h l q a few. c.reduce_rewritten.ensures.bits _ _ m h l r q a few;
      root_bits = λ h l e z a few more. contrary e n;
      stands = search rules;
    }

pub reduce_power-returns-then-has_half_exponent : goal.reduce_power-returns-then-has_half_exponent
reduce_power-returns-then-has_half_exponent t c =
    let e : Tree = exponent_in (tree_of c.args.power c.args.pool.now) in
    let half = sym c.has_half_exponent.ensures ∙ c.if-has_half_exponent.true in
    let x = c.reduce_half_power.ensures in
    record {
      ok = x.ok;
      rationals = λ p q h. contrary half h;
      defined = x.defined;
      front = x.front;
      kept = x.leaves.kept;
      faults = x.leaves.faults;
      caused = x.leaves.caused;
      room = λ gs ns k s w. contrary w (half_is_not_whole e half);
      root_room = λ gs h s. x.room gs s;
      others = λ w h. contrary half h;
      bits = λ n h l q a few. half_no_whole e n half q;
      root_bits = λ h l q z a few more. x.bits h l z a few more;
      stands = x.leaves.stands;
    }

pub reduce_power-returns-in_err-answer : goal.reduce_power-returns-in_err-answer
reduce_power-returns-in_err-answer t c =
    let n = sym c.has_half_exponent.ensures ∙ c.if-has_half_exponent.false in
    let f = c.from_residual in
    let e = c.in_err-answer in
    record {
      ok = search rules;
      rationals = search rules;
      defined = passed_on f.result e.field-0.0 _ f.ensures.0 f.ensures.1 (misfit_fault (tree_of c.args.power c.args.pool.now) e.field-0.0 c.requires.power e.ensures.overflow);
      front = c.power_step.ensures.front;
      kept = search rules;
      faults = search rules;
      caused = search rules;
      room = λ gs ns k s w. passed_on f.result e.field-0.0 _ f.ensures.0 f.ensures.1
          (step_lacks gs (tree_of c.args.power c.args.pool.now) (free_of c.args.pool.now) e.field-0.0 (e.ensures.room gs s w));
      root_room = λ gs h s. contrary h n;
      others = search rules;
      bits = λ m h l q a few. passed_on f.result e.field-0.0 _ f.ensures.0 f.ensures.1 (e.ensures.bits m q h l a few);
      root_bits = λ h l q z a few more. contrary q n;
      stands = search rules;
    }

-- ---- reduce_rewritten

pub reduce_rewritten-reduce_powers-requires : goal.reduce_rewritten-reduce_powers-requires
reduce_rewritten-reduce_powers-requires t c =
    let m = product_kind _ (sym c.in-Mult.is ∙ kind_of_root {k = c.kind.result} c.id.ensures c.requires.stands c.requires.handed c.kind.ensures.plain) in
    (below_measure c.decreases (powers_fall (tree_of c.args.tree c.args.pool.now) m), (c.requires.stands, (c.requires.handed, (m, transparent_children _ m c.requires.unfinished))))

pub reduce_rewritten-reduce_product-requires : goal.reduce_rewritten-reduce_product-requires
reduce_rewritten-reduce_product-requires t c =
    let m = product_kind _ (sym c.in-Mult.is ∙ kind_of_root {k = c.kind.result} c.id.ensures c.requires.stands c.requires.handed c.kind.ensures.plain) in
    let g = c.in_ok-product-in-Mult.ensures.ok in
    let y = ready_product _ _ m c.requires.unfinished (given_told g) in
    (below_measure c.decreases (ready_product_falls _ _ y), (c.in_ok-product-in-Mult.ensures.leaves.stands, (given_handed g, (y.is, (y.some, y.reduced)))))

pub reduce_rewritten-returns-in_ok-product-in-Mult : goal.reduce_rewritten-returns-in_ok-product-in-Mult
reduce_rewritten-returns-in_ok-product-in-Mult t c =
    let u : Tree = tree_of c.args.tree c.args.pool.now in
    let m = product_kind _ (sym c.in-Mult.is ∙ kind_of_root {k = c.kind.result} c.id.ensures c.requires.stands c.requires.handed c.kind.ensures.plain) in
    let g = c.in_ok-product-in-Mult.ensures.ok in
    let v : Tree = tree_of c.in_ok-product-in-Mult.product c.reduce_powers.new.pool in
    record {
      ok = if_map c.reduce_product.result _ _ c.reduce_product.ensures.ok (λ h x. gives_next g x (λ r a. product_of_powers _ _ r m c.requires.unfinished (given_told g) a));
      front = front_next g c.reduce_powers.ensures.front c.reduce_product.ensures.front;
      room = λ gs ns b e r k s.
          let x = ready_for_product gs ns b e u v m r k s (given_told g) in
          result_lacks c.reduce_product.result (c.reduce_product.ensures.room gs ns x.calm x.spanned)
          (λ l. short_at (replaced_free c.requires.stands c.in_ok-product-in-Mult.ensures.leaves.stands c.in_ok-product-in-Mult.ensures.leaves.kept c.requires.handed g) (x.lacks _ l));
      bits = λ b e n h l r q a few.
          product_fits (children_of v) c.reduce_product.result
          (λ d. c.reduce_product.ensures.bits (raised_high n h l) (raised_low n h l) (powers_ready b e u v n h l m r (given_told g) q a d) few) c.reduce_product.ensures.defined;
      leaves = leaves_after c.reduce_product.result _ _ _ c.in_ok-product-in-Mult.ensures.leaves.kept (record {
        kept = c.reduce_product.ensures.kept;
        faults = c.reduce_product.ensures.faults;
        caused = c.reduce_product.ensures.caused;
        stands = c.reduce_product.ensures.stands;
      });
    }

pub reduce_rewritten-reduce_exponent-requires : goal.reduce_rewritten-reduce_exponent-requires
reduce_rewritten-reduce_exponent-requires t c =
    let k = kind_of_root {k = c.kind.result} c.id.ensures c.requires.stands c.requires.handed c.kind.ensures.plain in
    let p = power_of_kind _ (no_product_kind _ (λ e. c.in_default.not-Mult (k ∙ sym e))) c.requires.unfinished in
    (below_measure c.decreases (exponent_falls (tree_of c.args.tree c.args.pool.now)), (c.requires.stands, (c.requires.handed, (p, c.requires.unfinished))))

pub reduce_rewritten-reduce_power-requires : goal.reduce_rewritten-reduce_power-requires
reduce_rewritten-reduce_power-requires t c =
    let k = kind_of_root {k = c.kind.result} c.id.ensures c.requires.stands c.requires.handed c.kind.ensures.plain in
    let g = c.in_ok-power-in_default.ensures.ok in
    let y = ready_power _ _ (power_of_kind _ (no_product_kind _ (λ e. c.in_default.not-Mult (k ∙ sym e))) c.requires.unfinished) c.requires.unfinished (given_told g) in
    (below_measure c.decreases (ready_power_falls _ _ y), (c.in_ok-power-in_default.ensures.leaves.stands, (given_handed g, (y.is, (y.base_reduced, y.exponent_reduced)))))

pub reduce_rewritten-returns-in_ok-power-in_default : goal.reduce_rewritten-returns-in_ok-power-in_default
reduce_rewritten-returns-in_ok-power-in_default t c =
    let k = kind_of_root {k = c.kind.result} c.id.ensures c.requires.stands c.requires.handed c.kind.ensures.plain in
    let p = power_of_kind _ (no_product_kind _ (λ e. c.in_default.not-Mult (k ∙ sym e))) c.requires.unfinished in
    let g = c.in_ok-power-in_default.ensures.ok in
    let y = ready_power _ _ p c.requires.unfinished (given_told g) in
    let kept = c.in_ok-power-in_default.ensures.leaves.kept in
    record {
      ok = if_map c.reduce_power.result _ _ c.reduce_power.ensures.ok (λ h x. gives_next g x (λ r a. power_lifted _ _ r (ap is_mult p) (given_told g) y a));
      front = front_next g c.reduce_exponent.ensures.front c.reduce_power.ensures.front;
      room = λ gs ns b e r k s.
          let x = ready_for_power gs ns b e (tree_of c.args.tree c.args.pool.now) (tree_of c.in_ok-power-in_default.power c.reduce_exponent.new.pool) (ap is_mult p) r k s (given_told g) in
          power_result _ _ (tree_of c.in_ok-power-in_default.power c.reduce_exponent.new.pool) c.reduce_power.result y.is x.calm
          (λ w. result_lacks c.reduce_power.result (c.reduce_power.ensures.room gs ns x.calm x.spanned w)
          (λ l. short_at (replaced_free c.requires.stands c.in_ok-power-in_default.ensures.leaves.stands kept c.requires.handed g) (x.lacks _ l)))
          (λ w h. c.reduce_power.ensures.others w h);
      bits = λ b e n h l r q a few.
          power_fits b e (tree_of c.args.tree c.args.pool.now) (tree_of c.in_ok-power-in_default.power c.reduce_exponent.new.pool) n h l c.reduce_power.result (ap is_mult p) r
          (given_told g) q a few c.reduce_power.ensures.bits c.reduce_power.ensures.others;
      leaves = record {
        kept = on_ok_after c.reduce_power.result _ _ _ kept c.reduce_power.ensures.kept;
        faults = fault_after c.reduce_power.result _ _ _ kept c.reduce_power.ensures.faults;
        caused = c.reduce_power.ensures.caused;
        stands = c.reduce_power.ensures.stands;
      };
    }

pub reduce_rewritten-returns-in_err-product-in-Mult : goal.reduce_rewritten-returns-in_err-product-in-Mult
reduce_rewritten-returns-in_err-product-in-Mult t c =
    let f = c.from_residual in
    let e = c.in_err-product-in-Mult in
    record {
      ok = search rules;
      front = c.reduce_powers.ensures.front;
      room = λ gs ns b x r k s. passed_on f.result e.field-0.0 _ f.ensures.0 f.ensures.1 (e.ensures.room gs ns b x r k s);
      bits = λ b x n h l r q a few. passed_on f.result e.field-0.0 _ f.ensures.0 f.ensures.1 (e.ensures.bits b x n h l r q a few);
      leaves = search rules;
    }

pub reduce_rewritten-returns-in_err-power-in_default : goal.reduce_rewritten-returns-in_err-power-in_default
reduce_rewritten-returns-in_err-power-in_default t c =
    let f = c.from_residual-in_err-power-in_default in
    let e = c.in_err-power-in_default in
    record {
      ok = search rules;
      front = c.reduce_exponent.ensures.front;
      room = λ gs ns b x r k s. passed_on f.result e.field-0.0 _ f.ensures.0 f.ensures.1 (e.ensures.room gs ns b x r k s);
      bits = λ b x n h l r q a few. passed_on f.result e.field-0.0 _ f.ensures.0 f.ensures.1 (e.ensures.bits b x n h l r q a few);
      leaves = search rules;
    }

-- ---- reduce_powers

pub reduce_powers-loop-at-init : goal.reduce_powers-loop-at-init
reduce_powers-loop-at-init t c = record { stands = c.requires.stands; kept = keeps_none c.args.pool.now; part = none_reduced c.requires.handed (product_words _ c.requires.product) }

pub reduce_powers-open_child-hole-requires : goal.reduce_powers-open_child-hole-requires
reduce_powers-open_child-hole-requires t c =
    let many = children_told c.id.ensures c.children-powers.ensures.value c.requires.stands c.requires.handed in
    let n = next_power c.loop-at.invariant.part (omega (arith, many, c.loop-at-test.true)) in
    record { stands = search rules; handed = n.now.handed; within = next_within n }

pub reduce_powers-reduce_power-requires : goal.reduce_powers-reduce_power-requires
reduce_powers-reduce_power-requires t c =
    let many = children_told c.id.ensures c.children-powers.ensures.value c.requires.stands c.requires.handed in
    let n = next_power c.loop-at.invariant.part (omega (arith, many, c.loop-at-test.true)) in
    let child = c.open_child-hole.ensures.child in
    let q = subst (IsPowerOf (children_of (tree_of c.args.product c.args.pool.now))) (sym (next_told n child)) (next_of n c.requires.powers) in (
      below_measure c.decreases (one_power_falls (tree_of c.args.product c.args.pool.now) _ q),
      (c.open_child-hole.ensures.stands, (given_handed child, (q.transparent.is, (q.transparent.base_reduced, q.transparent.exponent_reduced)))),
    )

pub reduce_powers-returns-in_err-reduced : goal.reduce_powers-returns-in_err-reduced
reduce_powers-returns-in_err-reduced t c =
    let many = children_told c.id.ensures c.children-powers.ensures.value c.requires.stands c.requires.handed in
    let m = next_power c.loop-at.invariant.part (omega (arith, many, c.loop-at-test.true)) in
    let told = next_told m c.open_child-hole.ensures.child in
    let whole : Tree = tree_of c.args.product c.args.pool.now in
    record {
      ok = search rules;
      front = front_again (changes_front m.now) (c.open_child-hole.ensures.front _ _ c.reduce_power.ensures.front);
      room = λ gs ns b e r k s.
          let x = ready_part gs ns b e whole m.t m.done m.rest m.reduced c.requires.product r k s m.split m.are in
          let free = changes_free c.requires.stands c.loop-at.invariant.stands c.loop-at.invariant.kept c.requires.handed m.now in
          passed_on c.from_residual.result c.in_err-reduced.field-0.0 _ c.from_residual.ensures.0 c.from_residual.ensures.1
          (lacks_as c.in_err-reduced.field-0.0 (c.in_err-reduced.ensures.room gs ns (subst (IsCalmAtZero ns) (sym told) x.calm) (subst (SpansTree gs) (sym told) x.spanned) (ap (λ (y : Tree). is_whole_num (exponent_in y)) told ∙ x.whole))
          (λ l. omega (arith, x.lacks _ (subst (λ (y : Tree). free_of c.open_child-hole.new.pool + size y < whole_power_room (base_in y) (2 ^ length gs)) told l), c.open_child-hole.ensures.free, free, next_bytes m)));
      bits = λ b e n h l r q f few.
          let x = part_ready b e whole m.t m.done m.rest n h l c.requires.product r m.split q f few in
          passed_on c.from_residual.result c.in_err-reduced.field-0.0 _ c.from_residual.ensures.0 c.from_residual.ensures.1
          (c.in_err-reduced.ensures.bits n x.p x.q (ap exponent_in told ∙ x.exponent) (subst (λ (y : Tree). IsFactorHeld (base_in y) x.p x.q) (sym told) x.held) x.few);
      leaves = search rules;
    }

pub reduce_powers-fill-requires : goal.reduce_powers-fill-requires
reduce_powers-fill-requires t c =
    let g = c.in_ok-reduced.ensures.ok in
    record { stands = search rules; hole = (_, _, _, hole_stays g c.open_child-hole.ensures.hole); handed = given_handed g }

pub reduce_powers-loop-at-preserved : goal.reduce_powers-loop-at-preserved
reduce_powers-loop-at-preserved t c =
    let many = children_told c.id.ensures c.children-powers.ensures.value c.requires.stands c.requires.handed in
    let n = next_power c.loop-at.invariant.part (omega (arith, many, c.loop-at-test.true)) in
    let g = c.in_ok-reduced.ensures.ok in
    let v : Tree = tree_of c.in_ok-reduced.reduced c.reduce_power.new.pool in
    let p = subst (λ (x : Tree). IsReducedPower (base_in x) (exponent_in x) v) (next_told n c.open_child-hole.ensures.child) (given_told g) in
    record {
      stands = c.fill.ensures.stands;
      kept = keeps_after _ _ _ c.loop-at.invariant.kept (keeps_after _ _ _ c.open_child-hole.ensures.kept (keeps_after _ _ _ c.in_ok-reduced.ensures.kept c.fill.ensures.kept));
      part = next_reduced n v p (c.fill.ensures.changed _ _ _ (hole_stays g c.open_child-hole.ensures.hole));
    }

pub reduce_powers-returns : goal.reduce_powers-returns
reduce_powers-returns t c =
    let many = children_told c.id.ensures c.children-powers.ensures.value c.requires.stands c.requires.handed in
    let x = all_reduced c.loop-at.invariant.part (omega (arith, many, c.loop-at-test.false)) in
    record {
      ok = changes_last x.now c.move_last.ensures.last (record { factors = x.factors; are = x.are; is = refl });
      front = changes_last_front c.loop-at.invariant.part.now c.move_last.ensures.last;
      room = λ gs ns b e r k s. tt;
      bits = λ b e n h l r q a few. tt;
      leaves = search rules;
    }

-- ---- reduce_exponent

pub reduce_exponent-child_id-exponent-requires-clause-within : goal.reduce_exponent-child_id-exponent-requires-clause-within
reduce_exponent-child_id-exponent-requires-clause-within t c = omega (arith, handed_within c.id.ensures c.requires.stands c.requires.handed, two_sides c.requires.power)

pub reduce_exponent-open_child-hole-requires : goal.reduce_exponent-open_child-hole-requires
reduce_exponent-open_child-hole-requires t c = record { stands = search rules; handed = c.requires.handed; within = omega (arith, two_sides c.requires.power) }

pub reduce_exponent-reduce_product-requires : goal.reduce_exponent-reduce_product-requires
reduce_exponent-reduce_product-requires t c =
    let child = c.child_id-exponent.ensures in
    let k = exponent_seen {x = c.kind.result} c.id.ensures c.requires.stands c.requires.handed c.requires.power child.expression child.plain c.kind.ensures.plain in
    let m = product_kind _ (sym c.in-Mult.is ∙ k) in
    let p = with_product _ c.requires.power m c.requires.unfinished in
    let told = exponent_told c.requires.power c.open_child-hole.ensures.child in
    let handed = given_handed c.open_child-hole.ensures.child in
    let stands = c.open_child-hole.ensures.stands in
    let is = ap is_mult told ∙ m in (
      below_measure c.decreases (taken_falls _ _ p told (few_factors _ _ stands handed is)),
      (stands, (handed, (is, (omega (arith, ap (λ (x : Tree). count (children_of x)) told, p.nested.some), ap (λ (x : Tree). are_reduced (children_of x)) told ∙ p.nested.reduced)))),
    )

pub reduce_exponent-returns-in_err-product-in-Mult : goal.reduce_exponent-returns-in_err-product-in-Mult
reduce_exponent-returns-in_err-product-in-Mult t c =
    let child = c.child_id-exponent.ensures in
    let z = exponent_seen {x = c.kind.result} c.id.ensures c.requires.stands c.requires.handed c.requires.power child.expression child.plain c.kind.ensures.plain in
    let m = product_kind _ (sym c.in-Mult.is ∙ z) in
    let told = exponent_told c.requires.power c.open_child-hole.ensures.child in
    let whole : Tree = tree_of c.args.power c.args.pool.now in
    let taken : Tree = tree_of c.open_child-hole.result.1 c.open_child-hole.new.pool in
    record {
      ok = search rules;
      front = c.open_child-hole.ensures.front _ _ c.reduce_product.ensures.front;
      room = λ gs ns b e r k s.
          let x = ready_exponent gs ns b e whole taken (ap is_mult c.requires.power) (ap is_mult told ∙ m) told r k s in
          passed_on c.from_residual.result c.in_err-product-in-Mult.field-0.0 _ c.from_residual.ensures.0 c.from_residual.ensures.1
          (lacks_as c.in_err-product-in-Mult.field-0.0 (c.in_err-product-in-Mult.ensures.room gs ns x.0 x.1)
          (λ l. omega (arith, x.2 _ l, c.open_child-hole.ensures.free, ap size c.requires.power, ap size told)));
      bits = λ b e n h l r q f few. passed_on c.from_residual.result c.in_err-product-in-Mult.field-0.0 _ c.from_residual.ensures.0 c.from_residual.ensures.1
          (c.in_err-product-in-Mult.ensures.bits 14 0 (exponent_ready b e whole taken n h l (ap is_mult c.requires.power) (ap is_mult told ∙ m) told r q f few) (omega arith));
      leaves = search rules;
    }

pub reduce_exponent-fill-requires : goal.reduce_exponent-fill-requires
reduce_exponent-fill-requires t c =
    let g = c.in_ok-product-in-Mult.ensures.ok in
    record { stands = search rules; hole = (_, _, _, hole_stays g c.open_child-hole.ensures.hole); handed = given_handed g }

pub reduce_exponent-move_last-requires-clause-root : goal.reduce_exponent-move_last-requires-clause-root
reduce_exponent-move_last-requires-clause-root t c = (c.fill.ensures.changed _ _ _ (hole_stays c.in_ok-product-in-Mult.ensures.ok c.open_child-hole.ensures.hole)).handed.root

pub reduce_exponent-returns-in_ok-product-in-Mult : goal.reduce_exponent-returns-in_ok-product-in-Mult
reduce_exponent-returns-in_ok-product-in-Mult t c =
    let child = c.child_id-exponent.ensures in
    let k = exponent_seen {x = c.kind.result} c.id.ensures c.requires.stands c.requires.handed c.requires.power child.expression child.plain c.kind.ensures.plain in
    let p = with_product _ c.requires.power (product_kind _ (sym c.in-Mult.is ∙ k)) c.requires.unfinished in
    let g = c.in_ok-product-in-Mult.ensures.ok in
    let v : Tree = tree_of c.in_ok-product-in-Mult.product c.reduce_product.new.pool in
    let product = subst (λ (x : Tree). IsReducedProduct (children_of x) v) (exponent_told c.requires.power c.open_child-hole.ensures.child) (given_told g) in
    let changed = c.fill.ensures.changed _ _ _ (hole_stays g c.open_child-hole.ensures.hole) in
    record {
      ok = changes_last (changes_as changed (exponent_set v c.requires.power)) c.move_last.ensures.last (p.lifted _ (record { exponent = v; product = product; is = refl }));
      front = changes_last_front changed c.move_last.ensures.last;
      room = λ gs ns b e r q s. tt;
      bits = λ b e n h l r q a few. tt;
      leaves = search rules;
    }

pub reduce_exponent-returns-in_default : goal.reduce_exponent-returns-in_default
reduce_exponent-returns-in_default t c =
    let child = c.child_id-exponent.ensures in
    let k = exponent_seen {x = c.kind.result} c.id.ensures c.requires.stands c.requires.handed c.requires.power child.expression child.plain c.kind.ensures.plain in
    let other = no_product_kind _ (λ e. c.in_default.not-Mult (k ∙ sym e)) in
    let last = c.move_last-in_default.ensures.last in
    record {
      ok = gives last (represents_handed c.requires.handed) (without_product _ c.requires.power other);
      front = front_end last (front_without behind_first front_same);
      room = λ gs ns b e r k s. tt;
      bits = λ b e n h l r q a few. tt;
      leaves = record { kept = c.move_last-in_default.ensures.kept; faults = tt; caused = tt; stands = c.move_last-in_default.ensures.stands };
    }
