use Rattle.expand_forms.proofs.Shared.{◌∙◌, ap, refl, sym, subst, ◌<◌, ◌+◌, ◌≤◌, ◌*◌, arith, expanded, product, Polynomial, polynomial_of, IsExpanded, gives_rest, kept_after, IsExpression, plain}
use Rattle.expand_forms.proofs.Shared.{root_ids, Forest, kids_of_last, tree_at, without_root, forest, behind_new, front_after_one, front_same, given_rest, given_told, gives_as, HasFewTerms, sum_bytes}
use Rattle.expand_forms.proofs.{Shared.{free_of, OfFull, passed_on, full_as, given_free, mul-le, refused_below, IsHeld, IsNoOverflow, lists_none}, Expansions.{empty_sum, nothing_added, sum_same}}
use Rattle.expansions.proofs.{FewTerms.{few_append, few_none, few_product, some_few}, TermBytes.{some_bytes}}
use Rattle.tree_handles.specs.declared.fault.NumberFault.TheVariants as fault
use Rattle.number_forms.proofs.Safety.{after_one, answer_of, fits_full, no_answer, passed, passed_full, refused}
use Rattle.expand_forms.proofs.products.product_within.Goals as goal

pub new-list-requires : goal.new-list-requires
new-list-requires g c = omega (arith, c.requires.few)

pub join_products-requires : goal.join_products-requires
join_products-requires g c =
    let new = c.in_ok-sum.ensures.given refl in
    let r = sym (given_rest new) in
    let lists = lists_none c.new-list.ensures (ap root_ids (kids_of_last c.in_ok-sum.ensures.stands c.in_ok-sum.ensures.ok)) in
    (omega (arith, c.requires.few), (c.in_ok-sum.ensures.stands, (gives_rest new (λ t e. empty_sum e), (lists, (subst (IsExpression c.args.a) r c.requires.first, (subst (IsExpression c.args.b) r c.requires.second, (subst (λ (f : Forest). IsExpanded (plain (tree_at c.args.a f))) r c.requires.first_expanded, subst (λ (f : Forest). IsExpanded (plain (tree_at c.args.b f))) r c.requires.second_expanded)))))))

pub finished-requires-clause-sum : goal.finished-requires-clause-sum
finished-requires-clause-sum g c = gives_rest c.in_ok-join_products.ensures.ok (λ t h. h.sum)

pub returns : goal.returns
returns g c = record {
  ok = let new = c.in_ok-sum.ensures.given refl in
      let r = given_rest new in
      let joined = c.in_ok-join_products.ensures.ok in
      gives_as c.in_ok-finished.ensures.ok (given_rest joined ∙ r)
      (λ t e. e ∙ sum_same (given_told joined) ∙ ap expanded (nothing_added (product (polynomial_of (plain (tree_at c.args.a (without_root c.in_ok-sum.sum (forest c.node.new.pool))))) (polynomial_of (plain (tree_at c.args.b (without_root c.in_ok-sum.sum (forest c.node.new.pool)))))) (given_told new)) ∙ (λ i. expanded (product (polynomial_of (plain (tree_at c.args.a (r i)))) (polynomial_of (plain (tree_at c.args.b (r i)))))));
  fits = λ a b d e. tt;
  room = λ a b d e f. tt;
  safe = let sum = behind_new (c.in_ok-sum.ensures.given refl).ends front_same in
      let s = c.in_ok-join_products.ensures.safe in
      after_one (kept_after c.in_ok-sum.ensures.kept s.kept) sum (front_after_one sum c.node.ensures.front s.front) (answer_of c.in_ok-finished.ensures.safe);
}

-- ---- few bytes

pub returns-in_err-finished : goal.returns-in_err-finished
returns-in_err-finished g c = let r = c.from_residual-in_err-finished.result in let said = c.from_residual-in_err-finished.ensures in record {
  ok = no_answer r _ said.0;
  fits = λ a b d e. fits_full r c.in_err-finished.field-0.0 _ said.0 said.1;
  room = λ ns m n ha hb.
      let sum = gives_as c.in_ok-join_products.ensures.ok (given_rest (c.in_ok-sum.ensures.given refl)) (λ t h. h) in
      let free = given_free c.requires.stands c.in_ok-join_products.ensures.safe.stands (kept_after c.in_ok-sum.ensures.kept c.in_ok-join_products.ensures.safe.kept) sum in
      let some : 1 ≤ m * n = mul-le 1 1 m n (some_few c.requires.first_expanded ha) (some_few c.requires.second_expanded hb) in
      passed_on r (fault.Full c.in_err-finished.field-0.0) (OfFull (λ full. free_of c.args.pool.now < sum_bytes ns (m * n))) said.0 said.1
      (omega (arith, free, c.in_err-finished.ensures.room, some_bytes ns (m * n) some));
  safe = let sum = behind_new (c.in_ok-sum.ensures.given refl).ends front_same in
      let s = c.in_ok-join_products.ensures.safe in
      after_one (kept_after c.in_ok-sum.ensures.kept s.kept) sum (front_after_one sum c.node.ensures.front s.front)
      (passed_full r c.in_err-finished.field-0.0 said.0 said.1 c.in_err-finished.ensures.safe);
}

-- ---- what fits

pub returns-in_err-join_products : goal.returns-in_err-join_products
returns-in_err-join_products g c = record {
  ok = no_answer c.from_residual-in_err-join_products.result _ c.from_residual-in_err-join_products.ensures.0;
  fits = λ h l x k.
      let new = c.in_ok-sum.ensures.given refl in
      let r = given_rest new in
      let v = product (polynomial_of (plain (tree_at c.args.a (without_root c.in_ok-sum.sum (forest c.node.new.pool)))))
      (polynomial_of (plain (tree_at c.args.b (without_root c.in_ok-sum.sum (forest c.node.new.pool))))) in
      let is = nothing_added v (given_told new) ∙ (λ i. product (polynomial_of (plain (tree_at c.args.a (r i)))) (polynomial_of (plain (tree_at c.args.b (r i))))) in
      passed_on c.from_residual-in_err-join_products.result c.in_err-join_products.field-0.0 IsNoOverflow c.from_residual-in_err-join_products.ensures.0 c.from_residual-in_err-join_products.ensures.1
      (c.in_err-join_products.ensures.fits h l (subst (λ (u : Polynomial). IsHeld u h l) (sym is) x) k);
  room = λ ns m n ha hb.
      let new = c.in_ok-sum.ensures.given refl in
      let r = sym (given_rest new) in
      let free = given_free c.requires.stands c.in_ok-sum.ensures.stands c.in_ok-sum.ensures.kept new in
      let lacks = c.in_err-join_products.ensures.room ns (m * n + 0) (few_append (few_product (subst (λ (f : Forest). HasFewTerms ns m (polynomial_of (plain (tree_at c.args.a f)))) r ha) (subst (λ (f : Forest). HasFewTerms ns n (polynomial_of (plain (tree_at c.args.b f)))) r hb)) (few_none ns (given_told new))) in
      passed_on c.from_residual-in_err-join_products.result c.in_err-join_products.field-0.0
      (OfFull (λ full. free_of c.args.pool.now < sum_bytes ns (m * n))) c.from_residual-in_err-join_products.ensures.0 c.from_residual-in_err-join_products.ensures.1
      (full_as c.in_err-join_products.field-0.0 lacks (λ full few. omega (arith, free, few)));
  safe = after_one c.in_ok-sum.ensures.kept (behind_new (c.in_ok-sum.ensures.given refl).ends front_same) c.node.ensures.front
      (passed c.from_residual-in_err-join_products.result c.in_err-join_products.field-0.0 c.from_residual-in_err-join_products.ensures.0 c.from_residual-in_err-join_products.ensures.1 c.in_err-join_products.ensures.safe);
}

pub returns-in_err-sum : goal.returns-in_err-sum
returns-in_err-sum g c = let r = c.from_residual.result in let said = c.from_residual.ensures in record {
  ok = no_answer r _ said.0;
  fits = λ a b d e. fits_full r c.in_err-sum.field-0.0 _ said.0 said.1;
  room = λ ns m n ha hb.
      let few : free_of c.args.pool.now < 8 = refused_below c.in_err-sum.ensures.full in
      passed_on r (fault.Full c.in_err-sum.field-0.0) (OfFull (λ full. free_of c.args.pool.now < sum_bytes ns (m * n))) said.0 said.1 (omega (arith, few));
  safe = refused r c.in_err-sum.field-0.0 said.0 said.1 c.in_err-sum.ensures.full c.in_err-sum.ensures.stands;
}
