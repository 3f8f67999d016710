use Rattle.node_order.proofs.Shared.{◌≡◌, ℕ, ◌+◌, ◌<◌, List, take, length, get_or, refl, sym, ap, ◌∙◌, subst, arith, IsPermutation, swap, range_with_len, IsPermutation-sym, IsPermutation-trans}
use Rattle.node_order.proofs.{Shared.{picked_behind, root_ids, Forest, arity, kids, rest_trees, root_tree, put, forest, keeps_none, keeps_after}, Arranged.{arranged, arranged_root, arranged_siblings}}
use Rattle.node_order.proofs.{Arranged.{arranged_swap, arranged_start, all_placed}, Inverses.{AreInverse, IsSought, inverse_start, inverse_swap, sought}, Places.{placed_swap}, SortLaws.{handle_kids}}
use Rattle.node_order.proofs.arranging.arrange.Goals as goal

pub loop-at-init : goal.loop-at-init
loop-at-init c =
    let m = length c.args.order.now in
    let first = c.list_places.ensures ∙ ap (range_with_len 0) c.requires.current in
    let second = c.list_places-2.ensures ∙ ap (range_with_len 0) c.requires.whereabouts in
    record {
      stands = c.requires.stands;
      kept = keeps_none c.args.pool.now;
      shape =
          arranged_start c.args.parent.now c.args.from m (forest c.args.pool.now) c.requires.all
          ∙ ap (λ (xs : List ℕ). put c.args.parent.now (picked_behind c.args.from xs (kids (root_tree c.args.parent.now (forest c.args.pool.now)))) (forest c.args.pool.now)) (sym first);
      moved = subst (λ (xs : List ℕ). IsPermutation xs c.args.order.now) (sym first) c.requires.places;
      inverse = subst (AreInverse m c.list_places.new.listed) (sym second) (subst (λ (xs : List ℕ). AreInverse m xs (range_with_len 0 m)) (sym first) (inverse_start m));
      same = refl;
    }

pub bounds-whereabouts-wanted : goal.bounds-whereabouts-wanted
bounds-whereabouts-wanted c =
    let i = c.loop-at.invariant.inverse in
    let s = sought (length c.args.order.now) c.loop-at.at c.loop-at.current c.loop-at.whereabouts c.args.order.now c.requires.places i c.loop-at.invariant.same c.loop-at-test.true in
    omega (arith, s.0, i.wide, c.from-wanted.ensures)

pub list_children-requires-clause-all : goal.list_children-requires-clause-all
list_children-requires-clause-all c = omega (arith, c.requires.all, c.requires.ids, ap arity (handle_kids c.args.parent.now c.id.result c.args.pool.now c.requires.stands c.requires.root c.id.ensures))

pub bounds-ids-wanted : goal.bounds-ids-wanted
bounds-ids-wanted c =
    let i = c.loop-at.invariant.inverse in
    let s = sought (length c.args.order.now) c.loop-at.at c.loop-at.current c.loop-at.whereabouts c.args.order.now c.requires.places i c.loop-at.invariant.same c.loop-at-test.true in
    omega (arith, s.0, c.from-wanted.ensures, c.list_children.auto.listed, c.requires.ids)

pub swap_siblings-requires-clause-siblings : goal.swap_siblings-requires-clause-siblings
swap_siblings-requires-clause-siblings c =
    let n = length c.args.order.now in
    let at = c.loop-at.at in
    let xs = c.loop-at.current in
    let ys = c.loop-at.whereabouts in
    let place = c.from-place.result in
    let i = c.loop-at.invariant.inverse in
    let there : place ≡ get_or ys (get_or c.args.order.now at 0) 0 = c.from-place.ensures ∙ ap (λ k. get_or ys k 0) c.from-wanted.ensures in
    let s = subst (λ p. IsSought n at p xs c.args.order.now) (sym there) (sought n at xs ys c.args.order.now c.requires.places i c.loop-at.invariant.same c.loop-at-test.true).1 in
    let a = arranged c.args.parent.now c.args.from xs c.args.order.now (forest c.args.pool.now) (forest c.loop-at.pool) c.requires.root c.requires.all c.requires.places c.loop-at.invariant.moved c.loop-at.invariant.shape in
    let kids-are = handle_kids c.args.parent.now c.id.result c.args.pool.now c.requires.stands c.requires.root c.id.ensures in (
      c.args.parent.now,
      c.args.from + at,
      c.args.from + place,
      arranged_siblings c.args.parent.now c.args.from at place c.from-here.result c.from-wanted.result c.index-ids-here.result c.index-ids-wanted.result xs c.list_children.new.listed (forest c.args.pool.now) c.loop-at.pool c.loop-at.invariant.stands a
          (c.list_children.ensures ∙ ap (λ (k : Forest). root_ids (rest_trees c.args.from k)) kids-are) (omega (arith, i.long)) (omega (arith, s.inside, i.long)) c.from-here.ensures (c.from-wanted.ensures ∙ sym s.found) c.index-ids-here.is c.index-ids-wanted.is,
    )

pub swap-requires-in-loop-at-clause-b_in_bounds : goal.swap-requires-in-loop-at-clause-b_in_bounds
swap-requires-in-loop-at-clause-b_in_bounds c =
    let i = c.loop-at.invariant.inverse in
    let s = sought (length c.args.order.now) c.loop-at.at c.loop-at.current c.loop-at.whereabouts c.args.order.now c.requires.places i c.loop-at.invariant.same c.loop-at-test.true in
    omega (arith, s.0, i.wide, c.from-wanted.ensures)

pub loop-at-preserved : goal.loop-at-preserved
loop-at-preserved c =
    let n = length c.args.order.now in
    let at = c.loop-at.at in
    let xs = c.loop-at.current in
    let ys = c.loop-at.whereabouts in
    let place = c.from-place.result in
    let i = c.loop-at.invariant.inverse in
    let there : place ≡ get_or ys (get_or c.args.order.now at 0) 0 = c.from-place.ensures ∙ ap (λ k. get_or ys k 0) c.from-wanted.ensures in
    let s = subst (λ p. IsSought n at p xs c.args.order.now) (sym there) (sought n at xs ys c.args.order.now c.requires.places i c.loop-at.invariant.same c.loop-at-test.true).1 in
    let a = arranged c.args.parent.now c.args.from xs c.args.order.now (forest c.args.pool.now) (forest c.loop-at.pool) c.requires.root c.requires.all c.requires.places c.loop-at.invariant.moved c.loop-at.invariant.shape in
    let room : place < length xs = omega (arith, s.inside, i.long) in
    let kids-are = handle_kids c.args.parent.now c.id.result c.args.pool.now c.requires.stands c.requires.root c.id.ensures in
    let pair =
    arranged_siblings c.args.parent.now c.args.from at place c.from-here.result c.from-wanted.result c.index-ids-here.result c.index-ids-wanted.result xs c.list_children.new.listed (forest c.args.pool.now) c.loop-at.pool c.loop-at.invariant.stands a
    (c.list_children.ensures ∙ ap (λ (k : Forest). root_ids (rest_trees c.args.from k)) kids-are) (omega (arith, i.long)) room c.from-here.ensures (c.from-wanted.ensures ∙ sym s.found) c.index-ids-here.is c.index-ids-wanted.is in
    let undone : swap ys (get_or xs at 0) (get_or xs place 0) ≡ c.swap-in-loop-at.new.self =
    ap (λ k. swap ys k (get_or xs place 0)) (sym c.from-here.ensures) ∙ ap (swap ys c.from-here.result) (s.found ∙ sym c.from-wanted.ensures) ∙ sym c.swap-in-loop-at.ensures.after in
    record {
      stands = c.swap_siblings.ensures.stands;
      kept = keeps_after c.args.pool.now c.loop-at.pool c.swap_siblings.new.pool c.loop-at.invariant.kept c.swap_siblings.ensures.kept;
      shape =
          arranged_swap c.args.parent.now c.args.from at place xs (forest c.args.pool.now) (forest c.loop-at.pool) (forest c.swap_siblings.new.pool) a s.low room
          (c.swap_siblings.ensures.root c.args.parent.now (c.args.from + at) (c.args.from + place) pair (arranged_root c.args.parent.now c.args.from xs (forest c.args.pool.now) (forest c.loop-at.pool) a))
          ∙ ap (λ (zs : List ℕ). put c.args.parent.now (picked_behind c.args.from zs (kids (root_tree c.args.parent.now (forest c.args.pool.now)))) (forest c.args.pool.now)) (sym c.swap.ensures.after);
      moved = IsPermutation-trans c.swap.new.self xs c.args.order.now (IsPermutation-sym xs c.swap.new.self c.swap.ensures.permutation) c.loop-at.invariant.moved;
      inverse =
          subst (AreInverse n c.swap.new.self) undone
          (subst (λ (zs : List ℕ). AreInverse n zs (swap ys (get_or xs at 0) (get_or xs place 0))) (sym c.swap.ensures.after) (inverse_swap n at place xs ys i c.loop-at-test.true s.inside));
      same = ap (take (at + 1)) c.swap.ensures.after ∙ placed_swap xs c.args.order.now at place c.loop-at.invariant.same c.loop-at-test.true s.low room s.found;
    }

pub returns-clause-forest : goal.returns-clause-forest
returns-clause-forest c =
    c.loop-at.invariant.shape
    ∙ ap (λ (xs : List ℕ). put c.args.parent.now (picked_behind c.args.from xs (kids (root_tree c.args.parent.now (forest c.args.pool.now)))) (forest c.args.pool.now))
    (all_placed c.loop-at.current c.args.order.now c.loop-at.at c.loop-at.invariant.inverse.long (omega arith) c.loop-at.invariant.same)
