use Rattle.expand_forms.proofs.Shared.{passed_on, given_root, kept_after, ◌≡◌, ◌≤◌, ◌∙◌, ap, refl, sym, subst, product_tree, value_of, Tree, count, is_mult, mult, many_factors, expression, seen, led_by, children_of}
use Rattle.expand_forms.proofs.Shared.{tree_of, behind_first, behind_new, front_after_one, front_same, front_without, given_handed, given_rest, given_told, gives_as, live}
use Rattle.expand_forms.proofs.TermReadings.{led_some, led_term}
use Rattle.number_forms.proofs.Safety.{no_answer, passed_placing, placed}
use Rattle.expand_forms.proofs.monomials.completed.Goals as goal

pub children-requires-clause-live : goal.children-requires-clause-live
children-requires-clause-live c = live c.led_by.new.pool c.id.ensures (given_root c.in_ok-led.ensures.ok)

pub unwrapped-requires : goal.unwrapped-requires
unwrapped-requires c = record {
  stands = c.in_ok-led.ensures.safe.stands;
  handed = given_handed c.in_ok-led.ensures.ok;
  product = ap is_mult (given_told c.in_ok-led.ensures.ok);
  some = subst (λ (t : Tree). 1 ≤ count (children_of t)) (sym (given_told c.in_ok-led.ensures.ok)) (led_some (value_of c.args.coefficient) (children_of (tree_of c.args.product c.args.pool.now)));
}

pub returns-then-children-eq1 : goal.returns-then-children-eq1
returns-then-children-eq1 c = record {
  ok = λ m e.
      let q = value_of c.args.coefficient in
      gives_as c.unwrapped.ensures.tree (given_rest c.in_ok-led.ensures.ok)
      (λ t h. h ∙ ap (λ (u : Tree). product_tree (children_of u)) (given_told c.in_ok-led.ensures.ok) ∙ ap (λ (u : Tree). product_tree (led_by q (children_of u))) e ∙ led_term q m);
  room = tt;
  safe = let s = c.in_ok-led.ensures.safe in
      placed (front_after_one (behind_new c.in_ok-led.ensures.ok.ends (front_without behind_first front_same)) s.front c.unwrapped.ensures.front)
      (kept_after s.kept c.unwrapped.ensures.kept) c.unwrapped.ensures.stands;
}

pub returns-in_err-led : goal.returns-in_err-led
returns-in_err-led c = let r = c.from_residual.result in let said = c.from_residual.ensures in record {
  ok = λ m e. no_answer r _ said.0;
  room = passed_on r c.in_err-led.field-0.0 _ said.0 said.1 c.in_err-led.ensures.room;
  safe = passed_placing r c.in_err-led.field-0.0 said.0 said.1 c.in_err-led.ensures.safe;
}

pub returns : goal.returns
returns c = record {
  ok = λ m e.
      let q = value_of c.args.coefficient in
      let led = c.in_ok-led.ensures.ok in
      let ts = led_by q (children_of (tree_of c.args.product c.args.pool.now)) in
      let many : c.children.result ≡ count ts = c.children.ensures.plain (expression c.id.ensures c.in_ok-led.ensures.safe.stands (given_handed led)) ∙ ap (λ (t : Tree). count (children_of t))
      (seen c.id.ensures c.in_ok-led.ensures.safe.stands (given_handed led) ∙ given_told led) in
      gives_as led refl (λ t h. h ∙ many_factors (mult ts) refl (led_some q (children_of (tree_of c.args.product c.args.pool.now))) (λ o. c.if-children-eq1.false (many ∙ o))
      ∙ ap (λ (u : Tree). product_tree (led_by q (children_of u))) e ∙ led_term q m);
  room = tt;
  safe = c.in_ok-led.ensures.safe;
}
