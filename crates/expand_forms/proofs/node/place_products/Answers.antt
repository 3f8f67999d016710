use Rattle.expand_forms.proofs.Shared.{◌≡◌, ◌<◌, ◌+◌, ◌-◌, ◌∙◌, ℕ, ap, refl, sym, subst, arith, ◌≤◌, ◌*◌, length, AreExpanded, Tree, count, has_polynomial_root, mult, names, one_value}
use Rattle.expand_forms.proofs.Shared.{expanded, product_of, polynomial_of, IsExpanded, gives_rest, kept_after, IsExpression, children_of, nth, plain, Forest, tree_at, without_root, forest}
use Rattle.expand_forms.proofs.Shared.{behind_new, front_after_one, front_same, given_handed, given_rest, given_told, gives_as, node_bytes, sum_bytes, free_of, OfFull, passed_on, full_as, Polynomial}
use Rattle.expand_forms.proofs.Shared.{given_free, IsHeld, has_factors, multiplied, number_refused, answer_few, answer_size, terms_rise, product_length, tree_monomials, answer_held, held_product}
use Rattle.expand_forms.proofs.{NodeAnswers.{empty_product, next_product, product_expanded, product_from}, NodeParts.{few_factor, few_rest, multiplied_expanded, multiplied_product}}
use Rattle.expand_forms.proofs.{NodeChildren.{expanded_nth}, Nodes.{from}, TermReadings.{beside}, Within.{IsWithin, within}, NodeRooms.{expanded_from, rest_product, some_product}}
use Rattle.expand_forms.proofs.{NodeBits.{together_next}, node.place_products.Goals.{After-factor_id}}
use Rattle.tree_handles.specs.declared.fault.NumberFault.TheVariants as fault
use Rattle.number_forms.proofs.Safety.{after_one, answered, fits_full, no_answer, refused}
use Rattle.expand_forms.proofs.node.place_products.Goals as goal

pub factor_number-left-requires : goal.factor_number-left-requires
factor_number-left-requires c = let x = beside c.in_ok-product.ensures.given c.requires.expression in record {
  stands = c.in_ok-product.ensures.stands;
  expression = x.expression;
  polynomial = ap has_polynomial_root x.same ∙ c.requires.polynomial;
  children = subst (λ (t : Tree). AreExpanded (children_of t)) (sym x.same) c.requires.children;
  factors = ap has_factors x.same ∙ c.requires.factors;
}

pub loop-left-init : goal.loop-left-init
loop-left-init c =
    let k = c.in_ok-product.ensures.given in
    let x = beside k c.requires.expression in
    let ts = multiplied (plain (tree_at c.args.id (forest c.args.pool.now))) in
    let many : c.factor_number-left.result ≡ count ts = c.factor_number-left.ensures ∙ ap (λ (t : Tree). count (multiplied t)) x.same in
    record {
      given = gives_as k refl (λ t e. empty_product c.whole.result c.factor_number-left.result ts (one_value c.whole.result c.whole.ensures) many e);
      within = omega (arith, many);
      front = c.in_ok-product.ensures.front;
      kept = c.in_ok-product.ensures.kept;
      stands = c.in_ok-product.ensures.stands;
    }

pub factor_id-requires-clause-expression : goal.factor_id-requires-clause-expression
factor_id-requires-clause-expression c = (beside c.loop-left.invariant.given c.requires.expression).expression

pub factor_id-requires-clause-within : goal.factor_id-requires-clause-within
factor_id-requires-clause-within c =
    let j = c.loop-left.invariant in omega (arith, ap (λ (t : Tree). count (multiplied t)) (beside j.given c.requires.expression).same, j.within, c.loop-left-test.true)

-- the factor stands below the node, beside the product
factor_within : (c : After-factor_id) → IsWithin c.factor_id.result (forest c.args.pool.now) (forest c.loop-left.pool)
factor_within c = within c.loop-left.invariant.given c.requires.expression c.factor_id.ensures.inside c.factor_id.ensures.expression

factor_is : (c : After-factor_id) → plain (tree_at c.factor_id.result (forest c.args.pool.now)) ≡ nth (c.loop-left.left - 1) (multiplied (plain (tree_at c.args.id (forest c.args.pool.now))))
factor_is c = sym (factor_within c).same ∙ c.factor_id.ensures.factor ∙ ap (λ (t : Tree). nth (c.loop-left.left - 1) (multiplied t)) (beside c.loop-left.invariant.given c.requires.expression).same

pub times-requires : goal.times-requires
times-requires c = let ts = multiplied (plain (tree_at c.args.id (forest c.args.pool.now))) in record {
  stands = c.loop-left.invariant.stands;
  second = given_handed c.loop-left.invariant.given;
  first = subst (IsExpression c.factor_id.result) (sym (given_rest c.loop-left.invariant.given)) (factor_within (goal.at.times-requires c).After-factor_id).expression;
  first_expanded = let j = c.loop-left.invariant in subst (λ (f : Forest). IsExpanded (plain (tree_at c.factor_id.result f))) (sym (given_rest j.given))
      (subst IsExpanded (sym (factor_is (goal.at.times-requires c).After-factor_id))
      (expanded_nth (c.loop-left.left - 1) ts (multiplied_expanded (plain (tree_at c.args.id (forest c.args.pool.now))) c.requires.children) (omega (arith, j.within, c.loop-left-test.true))));
  last = gives_rest c.loop-left.invariant.given (λ t e. product_expanded (from c.loop-left.left ts) e);
}

pub loop-left-preserved : goal.loop-left-preserved
loop-left-preserved c =
    let j = c.loop-left.invariant in
    let ts = multiplied (plain (tree_at c.args.id (forest c.args.pool.now))) in
    let n = c.loop-left.left - 1 in
    let r = given_rest j.given in
    let next : c.loop-left.left ≡ n + 1 = omega (arith, c.loop-left-test.true) in
    let told = given_told j.given ∙ ap (λ (k : ℕ). expanded (product_of (from k ts))) next in
    record {
      given = gives_as c.in-Ok.ensures.ok r (λ t e. next_product n ts (omega (arith, j.within, c.loop-left-test.true))
          ((λ i. plain (tree_at c.factor_id.result (r i))) ∙ factor_is (goal.at.loop-left-preserved c).After-factor_id) told e);
      within = omega (arith, j.within);
      front = front_after_one (behind_new j.given.ends front_same) j.front c.times.ensures.safe.front;
      kept = kept_after j.kept c.in-Ok.ensures.safe.kept;
      stands = c.in-Ok.ensures.safe.stands;
    }

pub returns-in-Err : goal.returns-in-Err
returns-in-Err c = let j = c.loop-left.invariant in let at = c.loop-left.left - 1 in let next : c.loop-left.left ≡ at + 1 = omega (arith, c.loop-left-test.true) in record {
  ok = tt;
  safe = after_one j.kept (behind_new j.given.ends front_same) j.front c.in-Err.ensures.safe;
  fits = λ h l x k. let inv = c.loop-left.invariant in let ts = multiplied (plain (tree_at c.args.id (forest c.args.pool.now))) in let (i, j, p, q, y, z, m, n) = together_next at ts
      (omega (arith, inv.within, c.loop-left-test.true)) x in let child = (λ i. plain (tree_at c.factor_id.result (given_rest inv.given i))) ∙ factor_is
      (goal.at.returns-in-Err c).After-factor_id in let one = subst (λ (t : Tree). IsHeld (polynomial_of t) i j) (sym child) y in let rest = answer_held
      (tree_monomials (mult (from c.loop-left.left ts))) (given_told inv.given) (subst (λ (k : ℕ). IsHeld (product_of (from k ts)) p q) (sym next) z) in c.in-Err.ensures.fits
      (i + p) (j + q) (held_product (tree_monomials (plain (tree_at c.factor_id.result (without_root c.loop-left.product (forest c.loop-left.pool))))) one rest) (omega (arith, m, n, k));
  room = λ whole n h l. let ns = names whole in let t = plain (tree_at c.args.id (forest c.args.pool.now)) in let ts = multiplied t in let v = product_of
      (from c.loop-left.left ts) in let child = (λ i. plain (tree_at c.factor_id.result (given_rest j.given i)))
      ∙ factor_is (goal.at.returns-in-Err c).After-factor_id in let some = some_product (from c.loop-left.left ts)
      (expanded_from c.loop-left.left ts (multiplied_expanded t c.requires.children)) in let one = few_factor at h child in let rest = few_rest c.loop-left.left h in let monomials = tree_monomials (mult (from c.loop-left.left ts)) in let lacks = c.in-Err.ensures.room ns (length (polynomial_of (plain (tree_at c.factor_id.result (without_root c.loop-left.product (forest c.loop-left.pool)))))) (length v) one (answer_few monomials (given_told j.given) rest some) in let most = answer_size monomials (given_told j.given) rest some in let all : length (product_of ts) ≤ n = omega (arith, l, ap (λ (x : Polynomial). length x) (multiplied_product t c.requires.factors)) in let whole_product : length (polynomial_of (plain (tree_at c.factor_id.result (without_root c.loop-left.product (forest c.loop-left.pool))))) * length v ≡ length (product_of (from at ts)) = ap (λ (u : Tree). length (polynomial_of u) * length v) child ∙ ap (λ (k : ℕ). length (polynomial_of (nth at ts)) * length (product_of (from k ts))) next ∙ sym (product_length (polynomial_of (nth at ts)) (product_of (from (at + 1) ts))) ∙ sym (ap (λ (x : Polynomial). length x) (product_from at ts (omega (arith, j.within, c.loop-left-test.true)))) in let free = given_free c.requires.stands j.stands j.kept j.given in full_as c.in-Err.fault lacks (λ full few. omega (arith, free, most, terms_rise ns (length v) n (omega (arith, rest_product c.loop-left.left ts (multiplied_expanded t c.requires.children), all)), terms_rise ns (length (product_of (from at ts))) n (omega (arith, rest_product at ts (multiplied_expanded t c.requires.children), all)), ap (λ (k : ℕ). sum_bytes ns k) whole_product, few));
}

-- ---- few bytes

-- ---- what fits

pub returns-in_err-product : goal.returns-in_err-product
returns-in_err-product c = let r = c.from_residual.result in let said = c.from_residual.ensures in record {
  ok = no_answer r _ said.0;
  fits = λ a b d e. fits_full r c.in_err-product.field-0.0 _ said.0 said.1;
  room = λ whole n h l.
      passed_on r (fault.Full c.in_err-product.field-0.0) (OfFull (λ full. free_of c.args.pool.now < node_bytes (names whole) n)) said.0 said.1
      (omega (arith, number_refused c.whole.result c.in_err-product.ensures.full));
  safe = refused r c.in_err-product.field-0.0 said.0 said.1 c.in_err-product.ensures.full c.in_err-product.ensures.stands;
}

pub returns : goal.returns
returns c = record {
  ok = let t = plain (tree_at c.args.id (forest c.args.pool.now)) in
      let none : c.loop-left.left ≡ 0 = omega (arith, c.loop-left-test.false) in
      gives_as c.loop-left.invariant.given refl (λ u e. e ∙ ap (λ (k : ℕ). expanded (product_of (from k (multiplied t)))) none ∙ ap expanded (multiplied_product t c.requires.factors));
  fits = λ a b d e. tt;
  room = λ a b d e. tt;
  safe = let j = c.loop-left.invariant in answered j.front j.kept j.stands;
}
