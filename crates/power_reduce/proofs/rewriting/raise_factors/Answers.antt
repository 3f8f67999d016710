use Rattle.power_reduce.proofs.Shared.{rules, ◌≤◌, sym, ap, ◌∙◌, subst, arith, replaced_free, passed_on, if_map, eqb-sym, refusal_as, exponent_in, tree_of, is_number, is_reduced, Tree, count, is_mult}
use Rattle.power_reduce.proofs.Shared.{size, plain, children_of, behind_first, behind_new, front_same, front_end, front_without, front_after_one, front_after_two, gives_as, given_apart, given_handed}
use Rattle.power_reduce.proofs.Shared.{given_other, given_rest, given_same, given_told, given_without, handed_beside, tree-without, none_given, none_kept, refuses_after, LacksBytes, Refuses}
use Rattle.power_reduce.proofs.{Exponents.{inside_whole}, Rooms.{sides_free, split_short, raised_short}, PartsOf.{first_handed, first_tree, some_parts, powers_as}}
use Rattle.power_reduce.proofs.rewriting.raise_factors.Goals as goal

pub product_of_parts-requires : goal.product_of_parts-requires
product_of_parts-requires c = record {
  stands = search rules;
  handed = first_handed _ c.take_sides-base.ensures.gives;
  product = ap is_mult (first_tree _ c.take_sides-base.ensures.gives) ∙ c.requires.base;
  reduced = ap is_reduced (first_tree _ c.take_sides-base.ensures.gives) ∙ c.requires.sides.base;
}

pub returns-in_err-product : goal.returns-in_err-product
returns-in_err-product c = record {
  ok = none_given c.from_residual.result _ c.from_residual.ensures.0;
  front =
      let g = c.take_sides-base.ensures.gives in
      front_after_one (behind_new g.first-given.ends (front_without behind_first front_same)) c.take_sides-base.ensures.front c.product_of_parts.ensures.front;
  kept = none_kept c.from_residual.result _ c.from_residual.ensures.0;
  full = passed_on c.from_residual.result c.in_err-product.field-0.0 (Refuses c.args.pool.now c.product_of_parts.new.pool) c.from_residual.ensures.0 c.from_residual.ensures.1 (refuses_after c.take_sides-base.ensures.kept c.in_err-product.ensures.full);
  caused = passed_on c.from_residual.result c.in_err-product.field-0.0 (LacksBytes c.product_of_parts.new.pool) c.from_residual.ensures.0 c.from_residual.ensures.1 c.in_err-product.ensures.caused;
  room = λ gs s.
      let t : Tree = tree_of c.args.power c.args.pool.now in
      passed_on c.from_residual.result c.in_err-product.field-0.0 _ c.from_residual.ensures.0 c.from_residual.ensures.1
      (split_short gs t _ _ c.requires.sides.power c.requires.sides.base (inside_whole (exponent_in t) c.requires.inside) s
      (sides_free c.requires.stands c.take_sides-base.ensures.stands c.take_sides-base.ensures.kept c.requires.handed c.take_sides-base.ensures.gives) c.in_err-product.ensures.room);
  stands = c.product_of_parts.ensures.stands;
}

pub raise_each-requires : goal.raise_each-requires
raise_each-requires c =
    let g = c.take_sides-base.ensures.gives in
    let p = c.in_ok-product.ensures.ok in
    let e = handed_beside c.take_sides-base.result.0 (eqb-sym _ _ (given_apart g.second-given (given_handed g.first-given))) (given_handed g.second-given) in
    let b = first_tree _ g in
    record {
      stands = search rules;
      first = given_handed c.in_ok-product.ensures.ok;
      second = given_other p e;
      apart = given_apart p e;
      product = ap is_mult (given_told c.in_ok-product.ensures.ok);
      some = subst (λ (t : Tree). 1 ≤ count (children_of t)) (sym (given_told p)) (some_parts _ (ap is_mult b ∙ c.requires.base) (ap is_reduced b ∙ c.requires.sides.base) (ap is_number b ∙ c.requires.number));
    }

pub returns-clause-ok : goal.returns-clause-ok
returns-clause-ok c =
    let g = c.take_sides-base.ensures.gives in
    let p = c.in_ok-product.ensures.ok in
    let e = handed_beside c.take_sides-base.result.0 (eqb-sym _ _ (given_apart g.second-given (given_handed g.first-given))) (given_handed g.second-given) in
    let apart = eqb-sym _ _ (given_apart g.second-given (given_handed g.first-given)) in
    let b = first_tree _ g in
    let x = ap plain (given_same c.take_sides-base.result.1 p e.root ∙ tree-without c.take_sides-base.result.0 c.take_sides-base.result.1 _ apart) ∙ given_told g.second-given in
    if_map c.raise_each.result _ _ c.raise_each.ensures.ok
    (λ h k. gives_as k (given_without p e ∙ given_without g.second-given (given_handed g.first-given) ∙ given_rest g.first-given)
    (λ t w. powers_as _ _ t _ _ _ c.requires.base c.requires.number c.requires.inside w (given_told p) b x))

pub returns-clause-front : goal.returns-clause-front
returns-clause-front c =
    let g = c.take_sides-base.ensures.gives in
    let p = c.in_ok-product.ensures.ok in
    let base = behind_new g.first-given.ends (front_without behind_first front_same) in
    let exponent = behind_new g.second-given.ends (front_end g.first-given.ends (front_without behind_first front_same)) in
    front_after_two (behind_new p.ends (front_without base c.take_sides-base.ensures.front)) exponent (front_after_one base c.take_sides-base.ensures.front c.product_of_parts.ensures.front) c.raise_each.ensures.front

pub returns-clause-room : goal.returns-clause-room
returns-clause-room c = λ gs s.
    let t : Tree = tree_of c.args.power c.args.pool.now in
    let g = c.take_sides-base.ensures.gives in
    let p = c.in_ok-product.ensures.ok in
    let apart = eqb-sym _ _ (given_apart g.second-given (given_handed g.first-given)) in
    let e = handed_beside c.take_sides-base.result.0 apart (given_handed g.second-given) in
    let b = first_tree _ g in
    let x = ap plain (given_same c.take_sides-base.result.1 p e.root ∙ tree-without c.take_sides-base.result.0 c.take_sides-base.result.1 _ apart) ∙ given_told g.second-given in
    let sides = sides_free c.requires.stands c.take_sides-base.ensures.stands c.take_sides-base.ensures.kept c.requires.handed g in
    let parts = replaced_free c.take_sides-base.ensures.stands c.in_ok-product.ensures.stands c.in_ok-product.ensures.kept (first_handed _ g) p in
    refusal_as c.raise_each.result c.raise_each.ensures.room (λ full l.
    raised_short gs t _ _ _ _ _ c.requires.sides.power c.requires.base c.requires.sides.base c.requires.number (inside_whole (exponent_in t) c.requires.inside) s (given_told p) b x
    (omega (arith, sides, parts, ap size b, ap size x)) l)
