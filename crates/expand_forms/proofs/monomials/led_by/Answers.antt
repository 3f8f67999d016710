use Rattle.expand_forms.proofs.Shared.{expression, ◌∙◌, ap, refl, sym, ◌<◌, if◌then◌else◌, value_of, Tree, mult, more, num, seen, number_bytes, led_by, free_of, gives_itself, passed_on}
use Rattle.expand_forms.proofs.Shared.{eqb-sym, children_of, tree_of, behind_first, front_end, front_same, front_without, given_apart, given_handed, given_root, given_told, gives_as, apart}
use Rattle.expand_forms.proofs.{Shared.{arith, kept_after, kept_same, other_root, root_held, mult_is, number_refused}, AddedTrees.{led_last}}
use Rattle.number_forms.proofs.Safety.{no_answer, placed, refused_placing}
use Rattle.expand_forms.proofs.monomials.led_by.Goals as goal

pub is_written-requires-clause-expression : goal.is_written-requires-clause-expression
is_written-requires-clause-expression c = expression c.id.ensures c.requires.stands (given_handed c.requires.product)

pub add_child-requires : goal.add_child-requires
add_child-requires c = let first = c.in_ok-first.ensures.given in let product = given_handed c.requires.product in let here = other_root c.args.product first.ends product.root in record {
  stands = c.in_ok-first.ensures.stands;
  live = root_held c.args.product _ here;
  within = omega arith;
  root = given_root first;
  apart = apart c.args.product c.in_ok-first.first c.in_ok-first.ensures.stands (eqb-sym c.in_ok-first.first c.args.product (given_apart first product)) here (given_root first);
}

pub returns : goal.returns
returns c = record {
  ok = let first = c.in_ok-first.ensures.given in
      let read = seen c.id.ensures c.requires.stands (given_handed c.requires.product) in
      let same = ap (λ (u : Tree). led_by (value_of c.args.coefficient) (children_of u)) (sym read) ∙ c.is_written.ensures
      ∙ (λ i. if c.if-not-is_written.false i then more (num (value_of c.args.coefficient)) (children_of (read i)) else children_of (read i)) in
      gives_as (led_last c.requires.product first (c.add_child.ensures.root (other_root c.args.product first.ends (given_root c.requires.product)))) refl (λ u h. h ∙ ap mult (sym same));
  room = tt;
  safe = let first = c.in_ok-first.ensures.given in
      let led = led_last c.requires.product first (c.add_child.ensures.root (other_root c.args.product first.ends (given_root c.requires.product))) in
      placed (front_end led.ends (front_without behind_first front_same)) (kept_after c.in_ok-first.ensures.kept c.add_child.ensures.kept) c.add_child.ensures.stands;
}

pub returns-then-not-is_written : goal.returns-then-not-is_written
returns-then-not-is_written c = record {
  ok = let t = tree_of c.args.product c.args.pool.now in
      let read = seen c.id.ensures c.requires.stands (given_handed c.requires.product) in
      let same = ap (λ (u : Tree). led_by (value_of c.args.coefficient) (children_of u)) (sym read) ∙ c.is_written.ensures
      ∙ (λ i. if c.if-not-is_written.true i then more (num (value_of c.args.coefficient)) (children_of (read i)) else children_of (read i)) in
      gives_as (gives_itself c.requires.product) refl (λ u h. h.1 ∙ mult_is t (given_told c.requires.product) ∙ ap mult (sym same));
  room = tt;
  safe = placed front_same (kept_same c.args.pool.now) c.requires.stands;
}

pub returns-in_err-first : goal.returns-in_err-first
returns-in_err-first c = let r = c.from_residual.result in let e = c.in_err-first.field-0.0 in let said = c.from_residual.ensures in record {
  ok = no_answer r _ said.0;
  room = passed_on r e (λ full. free_of c.args.pool.now < number_bytes) said.0 said.1 (number_refused c.args.coefficient c.in_err-first.ensures.full);
  safe = refused_placing r e said.0 said.1 c.in_err-first.ensures.full c.in_err-first.ensures.stands;
}
