use Rattle.std.proofs.Common.{◌∙◌, refl, sym, ap, subst, arith}
use Rattle.calc_terms.specs.{Leaf.{name_of}, Trees.{Tree, sub, nodes}}
use Rattle.calc_session.proofs.Shared.{CalmChecks, is_polynomial, polynomial_of, states, flatten, free_of, forest, keeps_after, reason_of, refusal_in, given_told, tree_of}
use Rattle.tree_handles.proofs.Beside.{gives_rest}
use Rattle.calc_session.proofs.{EvaluationLemmas.{front_over, keeps_then}, PoolLemmas.{old_below, still_counted}, RootingLemmas.{adds_one_free, both_ok, from_start, ok_map}, SolvingLemmas.{calm_refusal, err_as}}
use Rattle.calc_session.specs.Rooting.{HoldsOnly, IsFoundIn, is_made, is_not_made}
use Rattle.calc_session.proofs.rooting.find_roots.Goals as goal

pub roots_of_tree-found-requires-clause-ready : goal.roots_of_tree-found-requires-clause-ready
roots_of_tree-found-requires-clause-ready g c = let (e, r) = c.requires.reads in
    record { stands = c.place_difference.ensures.stands; lists = omega (arith, c.requires.ready.lists, (c.in-Ok.ensures.placed e r).adds.kept.size) }

pub roots_of_tree-found-requires-clause-last : goal.roots_of_tree-found-requires-clause-last
roots_of_tree-found-requires-clause-last g c = let (e, r) = c.requires.reads in
    gives_rest (c.in-Ok.ensures.placed e r).adds.gives (λ t h. tt)

pub roll_back-requires-clause-below : goal.roll_back-requires-clause-below
roll_back-requires-clause-below g c = let (e, r) = c.requires.reads in
    (forest c.args.work.now.pool, old_below (c.open_mark-mark.ensures.trees c.requires.ready.stands) (front_over (c.in-Ok.ensures.placed e r).adds.gives c.roots_of_tree-found.ensures.front))

pub roll_back-requires-in-Err-clause-below : goal.roll_back-requires-in-Err-clause-below
roll_back-requires-in-Err-clause-below g c = (forest c.args.work.now.pool, old_below (c.open_mark-mark.ensures.trees c.requires.ready.stands) c.place_difference.ensures.front)

pub returns-in-Ok-clause-found : goal.returns-in-Ok-clause-found
returns-in-Ok-clause-found g c = λ e r.
    let d = c.in-Ok.ensures.placed e r in
    let same = given_told d.adds.gives in
    both_ok c.roots_of_tree-found.result c.roots_of_tree-found.ensures.found c.roots_of_tree-found.ensures.expanded (λ f h k. record {
      rest = d.rest;
      sides = d.sides;
      become = d.become;
      only = subst (HoldsOnly (name_of c.args.name)) same k.0;
      polynomial = ap is_polynomial (sym same) ∙ k.1;
      calm = subst (λ (t : Tree). CalmChecks (nodes t) (states g.B.Breaker.state c.args.watch.now) (states g.B.Breaker.state c.roots_of_tree-found.new.watch)) same k.2;
      is_found = subst (λ (t : Tree). IsFoundIn (name_of c.args.name) (polynomial_of t) f) same h;
    })

pub returns-in-Ok-clause-refused : goal.returns-in-Ok-clause-refused
returns-in-Ok-clause-refused g c = λ e r.
    let d = c.in-Ok.ensures.placed e r in
    err_as c.roots_of_tree-found.result c.roots_of_tree-found.ensures.refused (λ x h. is_made d.become (from_start (free_of c.args.work.now.pool) (tree_of c.in-Ok.tree c.place_difference.new.pool) (sub d.sides.left d.sides.right) (given_told d.adds.gives)
    (adds_one_free c.requires.ready.stands d.adds) h))

pub returns-in-Ok-clause-counted_ok : goal.returns-in-Ok-clause-counted_ok
returns-in-Ok-clause-counted_ok g c = let (e, r) = c.requires.reads in
    ok_map c.roots_of_tree-found.result c.roots_of_tree-found.ensures.counted_ok (λ k. keeps_after _ _ _ (keeps_after _ _ _ (c.in-Ok.ensures.placed e r).adds.kept k) c.roll_back.ensures.kept)

pub returns-in-Ok-clause-counted : goal.returns-in-Ok-clause-counted
returns-in-Ok-clause-counted g c = let (e, r) = c.requires.reads in
    err_as c.roots_of_tree-found.result c.roots_of_tree-found.ensures.counted (λ x h. still_counted (refusal_in (reason_of x)) c.args.work.now.pool c.roots_of_tree-found.new.work.pool c.roll_back.new.pool
    (keeps_then (refusal_in (reason_of x)) c.args.work.now.pool c.place_difference.new.pool c.roots_of_tree-found.new.work.pool (c.in-Ok.ensures.placed e r).adds.kept h) c.roll_back.ensures.kept)

pub returns-in-Ok-clause-as_before : goal.returns-in-Ok-clause-as_before
returns-in-Ok-clause-as_before g c = let (e, r) = c.requires.reads in
    let back = c.roll_back.ensures in
    back.stands.flat ∙ ap flatten (back.forest (forest c.args.work.now.pool) (old_below (c.open_mark-mark.ensures.trees c.requires.ready.stands) (front_over (c.in-Ok.ensures.placed e r).adds.gives c.roots_of_tree-found.ensures.front))) ∙ sym c.requires.ready.stands.flat

pub returns-in-Err-clause-refused : goal.returns-in-Err-clause-refused
returns-in-Err-clause-refused g c = λ e r. is_not_made (c.in-Err.ensures.refused e r) refl

pub returns-in-Err-clause-interrupted : goal.returns-in-Err-clause-interrupted
returns-in-Err-clause-interrupted g c = calm_refusal c.in-Err.refusal (states g.B.Breaker.state c.args.watch.now) c.in-Err.ensures.no_breaker

pub returns-in-Err-clause-as_before : goal.returns-in-Err-clause-as_before
returns-in-Err-clause-as_before g c = let back = c.roll_back-in-Err.ensures in
    back.stands.flat ∙ ap flatten (back.forest (forest c.args.work.now.pool) (old_below (c.open_mark-mark.ensures.trees c.requires.ready.stands) c.place_difference.ensures.front)) ∙ sym c.requires.ready.stands.flat
