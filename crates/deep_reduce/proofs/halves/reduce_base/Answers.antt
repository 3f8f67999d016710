use Rattle.deep_reduce.proofs.Shared.{◌≡◌, false, rules, refl, sym, ap, ◌∙◌, subst, value, int_is_negative, IsFactorHeld, IsNoLargerThanRoot, SpansTree, forest, free_of, passed_on, is_reduced, Tree}
use Rattle.deep_reduce.proofs.Shared.{is_root, power, exponent_in, argument_of, IfRational, IsRootAnswer, tree_of, ChangesTree, changes_as, changes_last, changes_last_front, given_handed, given_told}
use Rattle.deep_reduce.proofs.{Shared.{hole_stays}, HalfPowers.{root_lacks}, Children.{base_told, base_set}, halves.reduce_base.Goals.{After-fill}}
use Rattle.node_bounds.proofs.HeldRoots.{root_fits}
use Rattle.deep_reduce.proofs.halves.reduce_base.Goals as goal

pub reduce_root-requires : goal.reduce_root-requires
reduce_root-requires c =
    let told = base_told c.requires.power c.open_child-hole.ensures.child in
    record {
      stands = search rules;
      handed = given_handed c.open_child-hole.ensures.child;
      root = ap is_root told ∙ c.requires.root;
      reduced = ap (λ (x : Tree). is_reduced (argument_of x)) told ∙ c.requires.reduced;
    }

pub returns-in_err-reduced : goal.returns-in_err-reduced
returns-in_err-reduced c =
    let told = base_told c.requires.power c.open_child-hole.ensures.child in
    record {
      ok = search rules;
      front = c.open_child-hole.ensures.front _ _ c.reduce_root.ensures.front;
      room = passed_on c.from_residual.result c.in_err-reduced.field-0.0 _ c.from_residual.ensures.0 c.from_residual.ensures.1
          (root_lacks (tree_of c.args.power c.args.pool.now) (free_of c.open_child-hole.new.pool)
          (free_of c.args.pool.now) c.in_err-reduced.field-0.0 c.in_err-reduced.ensures.full_below_96_bytes c.open_child-hole.ensures.free);
      bits = λ h l k few. passed_on c.from_residual.result c.in_err-reduced.field-0.0 _ c.from_residual.ensures.0 c.from_residual.ensures.1
          (root_fits _ c.in_err-reduced.field-0.0 c.in_err-reduced.ensures.bits c.in_err-reduced.ensures.overflows.0 (subst (λ (x : Tree). IsFactorHeld (argument_of x) h l) (sym told) k) few);
      leaves = search rules;
    }

pub fill-requires : goal.fill-requires
fill-requires c =
    let g = c.in_ok-reduced.ensures.ok in
    record { stands = search rules; hole = (_, _, _, hole_stays g c.open_child-hole.ensures.hole); handed = given_handed g }

-- the root is reduced where it stood
rooted : (c : After-fill)
    → ChangesTree c.args.power (power (tree_of c.in_ok-reduced.reduced c.reduce_root.new.pool) (exponent_in (tree_of c.args.power c.args.pool.now))) (forest c.args.pool.now) (forest c.fill.new.pool)
rooted c = changes_as (c.fill.ensures.changed _ _ _ (hole_stays c.in_ok-reduced.ensures.ok c.open_child-hole.ensures.hole)) (base_set _ c.requires.power)

pub move_last-requires-clause-root : goal.move_last-requires-clause-root
move_last-requires-clause-root c = (rooted (goal.at.move_last-requires-clause-root c).After-fill).handed.root

pub returns : goal.returns
returns c =
    let told = base_told c.requires.power c.open_child-hole.ensures.child in
    let root = c.in_ok-reduced.ensures in
    let v : Tree = tree_of c.in_ok-reduced.reduced c.reduce_root.new.pool in
    let p = rooted (goal.at.returns c).After-fill in
    record {
      ok = changes_last p c.move_last.ensures.last (record {
        root = v;
        answer = subst (λ (x : Tree). IsRootAnswer (argument_of x) v) told (given_told root.ok);
        spanned = λ gs s. root.spanned gs (subst (SpansTree gs) (sym told) s);
        measured = subst (λ (x : Tree). IfRational (argument_of x) (λ q. int_is_negative q.num ≡ false → IsNoLargerThanRoot q (value v))) told root.measured;
        is = refl;
      });
      front = changes_last_front p c.move_last.ensures.last;
      room = tt;
      bits = λ h l k few. tt;
      leaves = search rules;
    }
