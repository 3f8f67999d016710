use Rattle.expand_forms.proofs.Shared.{◌∙◌, inl, ap, refl, sym, subst, ◌<◌, arith, ◌≡◌, Tree, num, size, one_value, expression, seen, expanded, has_polynomial_root, polynomial_of, AreExpanded}
use Rattle.expand_forms.proofs.Shared.{gives_rest, gives_without, kept_after, root_ids, kids_of_last, IsExpression, children_of, plain, Forest, tree_at, without_root, forest, behind_new, front_after}
use Rattle.expand_forms.proofs.Shared.{front_after_one, front_at, front_same, front_without, given_handed, given_other, given_rest, given_told, gives_as, handed_at, owned, HasFewTerms, node_bytes}
use Rattle.expand_forms.proofs.Shared.{free_of, OfFull, passed_on, full_as, num_most, refused_below, given_free, value_of, IsHeld, IsNoOverflow, Polynomial, lists_none, has_parts, parts_of, total}
use Rattle.expand_forms.proofs.{Shared.{few_none, number_refused}, Expansions.{empty_sum, nothing_added, sum_same}, NodeParts.{total_parts}, TermReadings.{beside}}
use Rattle.tree_handles.specs.declared.fault.NumberFault.TheVariants as fault
use Rattle.number_forms.proofs.Safety.{after, after_one, answered, fits_full, no_answer, passed, passed_full, refused}
use Rattle.expand_forms.proofs.node.place_sum.Goals as goal

pub join_parts-requires : goal.join_parts-requires
join_parts-requires c =
    let k = c.in_ok-one.ensures.given in
    let new = c.in_ok-sum.ensures.given refl in
    let r = given_rest new in
    let st = c.in_ok-one.ensures.stands in
    let x = beside k c.requires.expression in
    record {
      stands = c.in_ok-sum.ensures.stands;
      sum = gives_rest new (λ t e. empty_sum e);
      lists = lists_none c.new-list.ensures (ap root_ids (kids_of_last c.in_ok-sum.ensures.stands c.in_ok-sum.ensures.ok));
      one = subst (IsExpression c.id.result) (sym r) (expression c.id.ensures st (given_handed k));
      is_one = ap (λ (f : Forest). plain (tree_at c.id.result f)) r ∙ seen c.id.ensures st (given_handed k) ∙ given_told k ∙ ap num (one_value c.whole.result c.whole.ensures);
      expression = subst (IsExpression c.args.id) (sym r) x.expression;
      polynomial = ap (λ (f : Forest). has_polynomial_root (plain (tree_at c.args.id f))) r ∙ ap has_polynomial_root x.same ∙ c.requires.polynomial;
      parts = ap (λ (f : Forest). has_parts (plain (tree_at c.args.id f))) r ∙ ap has_parts x.same ∙ c.requires.parts;
      children = subst (λ (f : Forest). AreExpanded (children_of (plain (tree_at c.args.id f)))) (sym r) (subst (λ (t : Tree). AreExpanded (children_of t)) (sym x.same) c.requires.children);
    }

pub returns-in_err-join_parts : goal.returns-in_err-join_parts
returns-in_err-join_parts c = let new = c.in_ok-sum.ensures.given refl in let r = given_rest new in record {
  ok = no_answer c.from_residual-in_err-join_parts.result _ c.from_residual-in_err-join_parts.ensures.0;
  safe = after_one (kept_after c.in_ok-one.ensures.kept c.in_ok-sum.ensures.kept) (behind_new new.ends c.number.ensures.front) (front_after c.number.ensures.front c.node.ensures.front)
      (passed c.from_residual-in_err-join_parts.result c.in_err-join_parts.field-0.0 c.from_residual-in_err-join_parts.ensures.0 c.from_residual-in_err-join_parts.ensures.1 c.in_err-join_parts.ensures.safe);
  fits = λ h l x k. let t = plain (tree_at c.args.id (forest c.args.pool.now)) in let v = total
      (parts_of (plain (tree_at c.args.id (without_root c.in_ok-sum.sum (forest c.node.new.pool))))) in let children : v ≡ polynomial_of t = ap (λ (f : Forest). total (parts_of (plain (tree_at c.args.id f)))) r ∙ ap (λ (u : Tree). total (parts_of u)) (beside c.in_ok-one.ensures.given c.requires.expression).same ∙ total_parts t c.requires.parts in passed_on c.from_residual-in_err-join_parts.result c.in_err-join_parts.field-0.0 IsNoOverflow c.from_residual-in_err-join_parts.ensures.0 c.from_residual-in_err-join_parts.ensures.1 (c.in_err-join_parts.ensures.fits h l (subst (λ (u : Polynomial). IsHeld u h l) (sym (nothing_added v (given_told new) ∙ children)) x) k);
  room = λ ns n h. let k = c.in_ok-one.ensures.given in let st = c.in_ok-one.ensures.stands in let x = beside k c.requires.expression in let free = given_free c.requires.stands st c.in_ok-one.ensures.kept k in let left = given_free st c.in_ok-sum.ensures.stands c.in_ok-sum.ensures.kept new in let children : total (parts_of (plain (tree_at c.args.id (without_root c.in_ok-sum.sum (forest c.node.new.pool))))) ≡ polynomial_of (plain (tree_at c.args.id (forest c.args.pool.now))) = ap (λ (f : Forest). total (parts_of (plain (tree_at c.args.id f)))) r ∙ ap (λ (u : Tree). total (parts_of u)) x.same ∙ total_parts (plain (tree_at c.args.id (forest c.args.pool.now))) c.requires.parts in let lacks = c.in_err-join_parts.ensures.room ns 0 n (few_none ns (given_told new)) (subst (HasFewTerms ns n) (sym children) h) in passed_on c.from_residual-in_err-join_parts.result c.in_err-join_parts.field-0.0 (OfFull (λ full. free_of c.args.pool.now < node_bytes ns n)) c.from_residual-in_err-join_parts.ensures.0 c.from_residual-in_err-join_parts.ensures.1 (full_as c.in_err-join_parts.field-0.0 lacks (λ full few. omega (arith, free, left, ap size (given_told k), num_most (value_of c.whole.result), few)));
}

pub finished-requires-clause-sum : goal.finished-requires-clause-sum
finished-requires-clause-sum c = gives_rest c.in_ok-join_parts.ensures.ok (λ t h. h.sum)

pub returns-in_err-answer : goal.returns-in_err-answer
returns-in_err-answer c = let r = c.from_residual-in_err-answer.result in let said = c.from_residual-in_err-answer.ensures in record {
  ok = no_answer r _ said.0;
  safe = let s = c.in_ok-join_parts.ensures.safe in let sum = behind_new (c.in_ok-sum.ensures.given refl).ends c.number.ensures.front in after_one
      (kept_after (kept_after c.in_ok-one.ensures.kept c.in_ok-sum.ensures.kept) s.kept) sum (front_after_one sum (front_after c.number.ensures.front c.node.ensures.front) s.front)
      (passed_full r c.in_err-answer.field-0.0 said.0 said.1 c.in_err-answer.ensures.safe);
  fits = λ h l x k. passed_on r (fault.Full c.in_err-answer.field-0.0) IsNoOverflow said.0 said.1 tt;
  room = λ ns n h. let k = c.in_ok-one.ensures.given in let st = c.in_ok-one.ensures.stands in let sum = gives_as c.in_ok-join_parts.ensures.ok (given_rest (c.in_ok-sum.ensures.given refl))
      (λ t e. e) in let free = given_free c.requires.stands st c.in_ok-one.ensures.kept k in let left = given_free st c.in_ok-join_parts.ensures.safe.stands
      (kept_after c.in_ok-sum.ensures.kept c.in_ok-join_parts.ensures.safe.kept) sum in passed_on r (fault.Full c.in_err-answer.field-0.0)
      (OfFull (λ full. free_of c.args.pool.now < node_bytes ns n)) said.0 said.1
      (omega (arith, free, left, ap size (given_told k), num_most (value_of c.whole.result), c.in_err-answer.ensures.room));
}

pub release-requires-clause-releasable : goal.release-requires-clause-releasable
release-requires-clause-releasable c =
    let k = c.in_ok-one.ensures.given in
    let back = given_rest c.in_ok-join_parts.ensures.ok ∙ given_rest (c.in_ok-sum.ensures.given refl) in
    inl (given_other c.in_ok-answer.ensures.ok (handed_at (given_handed k) back)).root

pub returns : goal.returns
returns c = let k = c.in_ok-one.ensures.given in record {
  ok = let new = c.in_ok-sum.ensures.given refl in let joined = c.in_ok-join_parts.ensures.ok in let back = given_rest joined
      ∙ given_rest new in let answer = gives_as c.in_ok-answer.ensures.ok back
      (λ t e. e) in let one = given_handed k in let r = given_rest new in let x = beside k c.requires.expression in gives_as
      (gives_without c.in_ok-one.one answer one.root (c.release.ensures.owned (owned (given_other answer one)))) (given_rest k)
      (λ t e. e ∙ sum_same (given_told joined) ∙ ap expanded (nothing_added (total (parts_of (plain (tree_at c.args.id (without_root c.in_ok-sum.sum (forest c.node.new.pool)))))) (given_told new)) ∙ (λ i. expanded (total (parts_of (plain (tree_at c.args.id (r i)))))) ∙ ap (λ (u : Tree). expanded (total (parts_of u))) x.same ∙ ap expanded (total_parts (plain (tree_at c.args.id (forest c.args.pool.now))) c.requires.parts));
  safe = let s = c.in_ok-join_parts.ensures.safe in let sum = behind_new (c.in_ok-sum.ensures.given refl).ends c.number.ensures.front in let back = given_rest c.in_ok-join_parts.ensures.ok
      ∙ given_rest (c.in_ok-sum.ensures.given refl) in answered
      (front_at (front_without (behind_new k.ends front_same) (front_after_one sum (front_after_one sum (front_after c.number.ensures.front c.node.ensures.front) s.front) c.in_ok-answer.ensures.safe.front))
      (c.release.ensures.owned (owned (given_other c.in_ok-answer.ensures.ok (handed_at (given_handed k) back)))))
      (kept_after (kept_after (kept_after c.in_ok-one.ensures.kept c.in_ok-sum.ensures.kept) s.kept) (kept_after c.in_ok-answer.ensures.safe.kept c.release.ensures.kept)) c.release.ensures.stands;
  fits = λ h l x k. tt;
  room = λ ns n h. tt;
}

-- ---- few bytes

-- ---- what fits

pub returns-in_err-one : goal.returns-in_err-one
returns-in_err-one c = let r = c.from_residual.result in let said = c.from_residual.ensures in record {
  ok = no_answer r _ said.0;
  fits = λ a b d e. fits_full r c.in_err-one.field-0.0 _ said.0 said.1;
  room = λ ns n h.
      passed_on r (fault.Full c.in_err-one.field-0.0) (OfFull (λ full. free_of c.args.pool.now < node_bytes ns n)) said.0 said.1
      (omega (arith, number_refused c.whole.result c.in_err-one.ensures.full));
  safe = refused r c.in_err-one.field-0.0 said.0 said.1 c.in_err-one.ensures.full c.in_err-one.ensures.stands;
}

pub returns-in_err-sum : goal.returns-in_err-sum
returns-in_err-sum c = let r = c.from_residual-in_err-sum.result in let said = c.from_residual-in_err-sum.ensures in record {
  ok = no_answer r _ said.0;
  fits = λ a b d e. fits_full r c.in_err-sum.field-0.0 _ said.0 said.1;
  room = λ ns n h.
      let k = c.in_ok-one.ensures.given in
      let free = given_free c.requires.stands c.in_ok-one.ensures.stands c.in_ok-one.ensures.kept k in
      let few : free_of c.number.new.pool < 8 = refused_below c.in_err-sum.ensures.full in
      passed_on r (fault.Full c.in_err-sum.field-0.0) (OfFull (λ full. free_of c.args.pool.now < node_bytes ns n)) said.0 said.1
      (omega (arith, free, ap size (given_told k), num_most (value_of c.whole.result), few));
  safe = after c.in_ok-one.ensures.kept c.number.ensures.front (refused r c.in_err-sum.field-0.0 said.0 said.1 c.in_err-sum.ensures.full c.in_err-sum.ensures.stands);
}
