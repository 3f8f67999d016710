use Rattle.expand_forms.proofs.Shared.{refl, rules, Overflows, kept_after, ◌≡◌, ◌<◌, ◌∙◌, [], ◌∷◌, ap, sym, subst, arith, length, not_from_false, no_zero, plus, value_of, Tree, count, is_mult, size, Fraction, one_fraction}
use Rattle.expand_forms.proofs.Shared.{lists_at, term_tree, IsNoOverflow, term_bytes, Monomial, monomial_times, summand, IsPlace, IsSum, HasMonomial, coefficient_in, free_of, OfFull, gives_rest}
use Rattle.expand_forms.proofs.Shared.{passed_on, children_of, nth, plain, Forest, Gives, KeepsFront, tree_of, tree_at, without_root, forest, behind_first, behind_new, front_after, front_after_one}
use Rattle.expand_forms.proofs.Shared.{front_after_two, front_same, given_handed, given_other, given_rest, given_root, given_same, given_told, gives_as, given_free, expression, lists_behind}
use Rattle.expand_forms.proofs.{Shared.{factors_most, monomial_times_monomial, contradiction}, Sums.{sum_still}, Splits.{total_fits}, Joins.{IsFoundAt, has_monomial, placed_behind, put_in, set_in}}
use Rattle.expand_forms.proofs.{Joins.{sum_read, term_read}, TermReadings.{beside, product_monomial}, adding.join_product.Given.{Over}, adding.join_product.Goals.{After-child-other, After-id-2}}
use Rattle.expand_forms.proofs.adding.join_product.Goals.{In-Err, In-Ok, In_ok-product, In_ok-term-in-Err}
use Rattle.tree_handles.specs.declared.fault.NumberFault.TheVariants as fault
use Rattle.number_forms.proofs.Safety.{after_one, answered, beside_all, fits_full, no_answer, overflowed, passed, passed_full, room_overflow, then_safe}
use Rattle.expand_forms.proofs.adding.join_product.Goals as goal

pub place_merged-requires : goal.place_merged-requires
place_merged-requires g c = let (m, n, hm, hn) = c.requires.monomials in let x = beside c.requires.sum c.requires.first in let y = beside c.requires.sum c.requires.second in record {
  stands = c.requires.stands;
  factors = c.of-left.ensures;
  first = x.expression;
  second = y.expression;
  monomials = (m, n, subst (HasMonomial m) (sym x.same) hm, subst (HasMonomial n) (sym y.same) hn);
}

-- ---- the product, behind the sum

-- its monomial
sought : (g : Over) (c : After-id-2 g) (m n : Monomial) → HasMonomial m (plain (tree_at c.args.s (without_root c.args.sum.now (forest c.args.pool.now))))
    → HasMonomial n (plain (tree_at c.args.t (without_root c.args.sum.now (forest c.args.pool.now))))
    → HasMonomial (monomial_times m n) (plain (tree_at c.id-2.result (forest c.place_merged.new.pool)))
sought g c m n hm hn =
    let p = placed_behind c.requires.sum c.requires.first c.requires.second c.in_ok-product.ensures.ok m n hm hn in
    product_monomial (monomial_times_monomial m n hm.monomial hn.monomial) (term_read c.place_merged.new.pool p c.in_ok-product.ensures.safe.stands c.id-2.ensures ∙ given_told p)

pub place_of-requires : goal.place_of-requires
place_of-requires g c =
    let (m, n, hm, hn) = c.requires.monomials in
    let p = placed_behind c.requires.sum c.requires.first c.requires.second c.in_ok-product.ensures.ok m n hm hn in
    let st = c.in_ok-product.ensures.safe.stands in
    let x = expression c.id.ensures st (given_other p (given_handed c.requires.sum)) in
    let sum = subst IsSum (sym (sum_read c.args.pool.now c.place_merged.new.pool c.requires.sum p st c.id.ensures)) (given_told c.requires.sum) in
    let lists = lists_at c.id.ensures (lists_behind c.requires.sum p c.requires.lists) in
    let s = sought g (goal.at.place_of-requires g c).After-id-2 m n hm hn in
    (search rules, (st, (x, (sum, (lists, (expression c.id-2.ensures st (given_handed p), (monomial_times m n, s)))))))

-- ---- a new term

place_in : (g : Over) (c : In-Err g) (q : Fraction) (m n : Monomial) → HasMonomial m (plain (tree_at c.args.s (without_root c.args.sum.now (forest c.args.pool.now))))
    → HasMonomial n (plain (tree_at c.args.t (without_root c.args.sum.now (forest c.args.pool.now))))
    → IsPlace c.in-Err.at (term_tree (summand q (monomial_times m n))) (children_of (tree_of c.args.sum.now c.args.pool.now))
place_in g c q m n hm hn =
    let h = monomial_times_monomial m n hm.monomial hn.monomial in
    subst (λ (t : Tree). IsPlace c.in-Err.at (term_tree (summand q (monomial_times m n))) (children_of t)) (sum_read c.args.pool.now c.place_merged.new.pool c.requires.sum
    (placed_behind c.requires.sum c.requires.first c.requires.second c.in_ok-product.ensures.ok m n hm hn) c.in_ok-product.ensures.safe.stands c.id.ensures)
    (c.in-Err.ensures.place (monomial_times m n) (term_tree (summand q (monomial_times m n))) (sought g c.before.before m n hm hn) (has_monomial q h))

pub completed-requires-clause-product : goal.completed-requires-clause-product
completed-requires-clause-product g c =
    let (m, n, hm, hn) = c.requires.monomials in gives_rest (placed_behind c.requires.sum c.requires.first c.requires.second c.in_ok-product.ensures.ok m n hm hn) (λ t e. ap is_mult e)

completed : (g : Over) (c : In_ok-term-in-Err g) (m n : Monomial) → HasMonomial m (plain (tree_at c.args.s (without_root c.args.sum.now (forest c.args.pool.now))))
    → HasMonomial n (plain (tree_at c.args.t (without_root c.args.sum.now (forest c.args.pool.now))))
    → Gives (forest c.args.pool.now) (forest c.completed.new.pool) c.in_ok-term-in-Err.term (λ u. u ≡ term_tree (summand (value_of c.args.coefficient) (monomial_times m n)))
completed g c m n hm hn =
    let p = placed_behind c.requires.sum c.requires.first c.requires.second c.in_ok-product.ensures.ok m n hm hn in
    gives_as (c.in_ok-term-in-Err.ensures.ok (monomial_times m n) (given_told p)) (given_rest p) (λ u h. h)

pub insert_child-requires : goal.insert_child-requires
insert_child-requires g c =
    let (m, n, hm, hn) = c.requires.monomials in
    let r = completed g (goal.at.insert_child-requires g c).In_ok-term-in-Err m n hm hn in
    let place = place_in g (goal.at.insert_child-requires g c).In-Err one_fraction m n hm hn in
    let same = ap (λ (f : Forest). count (children_of (plain f))) (given_same c.args.sum.now r (given_root c.requires.sum)) in
    (search rules, (c.in_ok-term-in-Err.ensures.safe.stands, (gives_rest r (λ t h. tt), (sum_still c.requires.sum (given_rest r), (lists_behind c.requires.sum r c.requires.lists, omega (arith, place.within, same))))))

pub returns-in_ok-term-in-Err : goal.returns-in_ok-term-in-Err
returns-in_ok-term-in-Err g c = record {
  ok = λ m n hm hn.
      let p = placed_behind c.requires.sum c.requires.first c.requires.second c.in_ok-product.ensures.ok m n hm hn in
      let r = completed g (goal.at.returns-in_ok-term-in-Err g c).In_ok-term-in-Err m n hm hn in
      let q = value_of c.args.coefficient in
      put_in (summand q (monomial_times m n)) c.in-Err.at c.requires.sum r (no_zero q (not_from_false _ c.requires.nonzero)) (monomial_times_monomial m n hm.monomial hn.monomial)
      (place_in g (goal.at.returns-in_ok-term-in-Err g c).In-Err q m n hm hn) c.insert_child.ensures.sum;
  lists = c.insert_child.ensures.lists;
  fits = λ a b d e f h i j. tt;
  room = λ a b d e. tt;
  safe = let (m, n, hm, hn) = c.requires.monomials in
      let p = placed_behind c.requires.sum c.requires.first c.requires.second c.in_ok-product.ensures.ok m n hm hn in
      let r = completed g (goal.at.returns-in_ok-term-in-Err g c).In_ok-term-in-Err m n hm hn in
      let s = c.in_ok-product.ensures.safe in
      let t = c.in_ok-term-in-Err.ensures.safe in
      answered (front_after_two behind_first (behind_new r.ends front_same) (front_after_one (behind_new p.ends front_same) (front_after front_same s.front) t.front) c.insert_child.ensures.front)
      (kept_after (kept_after s.kept t.kept) c.insert_child.ensures.kept) c.insert_child.ensures.stands;
}

-- ---- a term that is there

found : (g : Over) (c : In-Ok g) (q : Fraction) (m n : Monomial) → HasMonomial m (plain (tree_at c.args.s (without_root c.args.sum.now (forest c.args.pool.now))))
    → HasMonomial n (plain (tree_at c.args.t (without_root c.args.sum.now (forest c.args.pool.now))))
    → IsFoundAt c.in-Ok.at (term_tree (summand q (monomial_times m n))) (children_of (tree_of c.args.sum.now c.args.pool.now))
found g c q m n hm hn =
    let h = monomial_times_monomial m n hm.monomial hn.monomial in
    subst (λ (t : Tree). IsFoundAt c.in-Ok.at (term_tree (summand q (monomial_times m n))) (children_of t)) (sum_read c.args.pool.now c.place_merged.new.pool c.requires.sum
    (placed_behind c.requires.sum c.requires.first c.requires.second c.in_ok-product.ensures.ok m n hm hn) c.in_ok-product.ensures.safe.stands c.id.ensures)
    (c.in-Ok.ensures.found (monomial_times m n) (term_tree (summand q (monomial_times m n))) (sought g c.before.before m n hm hn) (has_monomial q h))

within : (g : Over) (c : In-Ok g) → c.in-Ok.at < count (children_of (tree_of c.args.sum.now c.args.pool.now))
within g c = let (m, n, hm, hn) = c.requires.monomials in (found g c one_fraction m n hm hn).0

pub child-other-requires : goal.child-other-requires
child-other-requires g c =
    let (m, n, hm, hn) = c.requires.monomials in
    let p = placed_behind c.requires.sum c.requires.first c.requires.second c.in_ok-product.ensures.ok m n hm hn in
    let st = c.in_ok-product.ensures.safe.stands in
    let x = expression c.id-in-Ok.ensures st (given_other p (given_handed c.requires.sum)) in
    let lists = lists_at c.id-in-Ok.ensures (lists_behind c.requires.sum p c.requires.lists) in
    let same = sum_read c.args.pool.now c.place_merged.new.pool c.requires.sum p st c.id-in-Ok.ensures in
    (search rules, (st, (x, (lists, subst (λ (t : Tree). c.in-Ok.at < count (children_of t)) (sym same) (within g (goal.at.child-other-requires g c).In-Ok)))))

-- what it is read as
other : (g : Over) (c : After-child-other g) → plain (tree_at c.child-other.result (forest c.place_merged.new.pool)) ≡ nth c.in-Ok.at (children_of (tree_of c.args.sum.now c.args.pool.now))
other g c =
    let (m, n, hm, hn) = c.requires.monomials in
    c.child-other.ensures.plain ∙ ap (λ (t : Tree). nth c.in-Ok.at (children_of t)) (sum_read c.args.pool.now c.place_merged.new.pool c.requires.sum
    (placed_behind c.requires.sum c.requires.first c.requires.second c.in_ok-product.ensures.ok m n hm hn) c.in_ok-product.ensures.safe.stands c.id-in-Ok.ensures)

pub replace-requires : goal.replace-requires
replace-requires g c =
    let (m, n, hm, hn) = c.requires.monomials in
    let p = placed_behind c.requires.sum c.requires.first c.requires.second c.in_ok-product.ensures.ok m n hm hn in
    let sum = subst (λ (f : Forest). Gives (without_root c.args.sum.now f) f c.args.sum.now IsSum) (sym (given_rest p)) c.requires.sum in
    let same = ap (λ (f : Forest). count (children_of (plain f))) (given_same c.args.sum.now p (given_root c.requires.sum)) in
    (search rules, (c.in_ok-product.ensures.safe.stands, ((monomial_times m n, gives_rest p (λ t e. e)), (sum, (lists_behind c.requires.sum p c.requires.lists, omega (arith, within g (goal.at.replace-requires g c).In-Ok, same))))))

replaced : (g : Over) (c : In_ok-product g) {f : Forest} → KeepsFront (c.args.sum.now ∷ c.in_ok-product.product ∷ []) (forest c.place_merged.new.pool) f
    → KeepsFront (c.args.sum.now ∷ []) (forest c.args.pool.now) f
replaced g c k =
    let (m, n, hm, hn) = c.requires.monomials in
    front_after_two behind_first (behind_new (placed_behind c.requires.sum c.requires.first c.requires.second c.in_ok-product.ensures.ok m n hm hn).ends front_same)
    (front_after front_same c.in_ok-product.ensures.safe.front) k

pub returns-in_ok-replace-in-Ok : goal.returns-in_ok-replace-in-Ok
returns-in_ok-replace-in-Ok g c = record {
  ok = λ m n hm hn.
      let p = placed_behind c.requires.sum c.requires.first c.requires.second c.in_ok-product.ensures.ok m n hm hn in
      let st = c.in_ok-product.ensures.safe.stands in
      let now = c.place_merged.new.pool in
      let q = value_of c.args.coefficient in
      let ts = children_of (tree_of c.args.sum.now c.args.pool.now) in
      let same = (found g (goal.at.returns-in_ok-replace-in-Ok g c).In-Ok q m n hm hn).1 in
      let total : value_of c.in_ok-total-in-Ok.total ≡ plus (coefficient_in (nth c.in-Ok.at ts)) q =
      c.in_ok-total-in-Ok.ensures.sum ∙ ap (λ r. plus r q) (c.coefficient.ensures ∙ ap coefficient_in (other g (goal.at.returns-in_ok-replace-in-Ok g c).After-child-other)) in
      set_in (summand q (monomial_times m n)) c.in-Ok.at (value_of c.in_ok-total-in-Ok.total) c.requires.sum p
      (within g (goal.at.returns-in_ok-replace-in-Ok g c).In-Ok) same total (c.in_ok-replace-in-Ok.ensures.ok (monomial_times m n) (given_told p));
  lists = c.in_ok-replace-in-Ok.ensures.lists;
  fits = λ a b d e f h i j. tt;
  room = λ a b d e. tt;
  safe = let s = c.in_ok-replace-in-Ok.ensures.safe in
      answered (replaced g (goal.at.returns-in_ok-replace-in-Ok g c).In_ok-product s.front) (kept_after c.in_ok-product.ensures.safe.kept s.kept) s.stands;
}

-- ---- few bytes

few : (g : Over) (c : In_ok-product g) (m n : Monomial) → HasMonomial m (plain (tree_at c.args.s (without_root c.args.sum.now (forest c.args.pool.now))))
    → HasMonomial n (plain (tree_at c.args.t (without_root c.args.sum.now (forest c.args.pool.now))))
    → free_of c.place_merged.new.pool < 40 → free_of c.args.pool.now < term_bytes (length (monomial_times m n))
few g c m n hm hn l =
    let p = placed_behind c.requires.sum c.requires.first c.requires.second c.in_ok-product.ensures.ok m n hm hn in
    omega (arith, given_free c.requires.stands c.in_ok-product.ensures.safe.stands c.in_ok-product.ensures.safe.kept p, ap size (given_told p), factors_most (monomial_times m n), l)

pub returns-in_err-term-in-Err : goal.returns-in_err-term-in-Err
returns-in_err-term-in-Err g c = let r = c.from_residual-in_err-term-in-Err.result in let said = c.from_residual-in_err-term-in-Err.ensures in record {
  ok = λ a b d e. no_answer r _ said.0;
  lists = no_answer r _ said.0;
  fits = λ a b d e f h i j. fits_full r c.in_err-term-in-Err.field-0.0 _ said.0 said.1;
  room = λ m n hm hn.
      passed_on r (fault.Full c.in_err-term-in-Err.field-0.0) (OfFull (λ full. free_of c.args.pool.now < term_bytes (length (monomial_times m n)))) said.0 said.1
      (few g (goal.at.returns-in_err-term-in-Err g c).In_ok-product m n hm hn c.in_err-term-in-Err.ensures.room);
  safe = let (m, n, hm, hn) = c.requires.monomials in
      let s = c.in_ok-product.ensures.safe in
      after_one s.kept (behind_new (placed_behind c.requires.sum c.requires.first c.requires.second c.in_ok-product.ensures.ok m n hm hn).ends front_same) (front_after front_same s.front)
      (passed_full r c.in_err-term-in-Err.field-0.0 said.0 said.1 c.in_err-term-in-Err.ensures.safe);
}

pub returns-in_err-replace-in-Ok : goal.returns-in_err-replace-in-Ok
returns-in_err-replace-in-Ok g c = let r = c.from_residual-in_err-replace-in-Ok.result in let said = c.from_residual-in_err-replace-in-Ok.ensures in record {
  ok = λ a b d e. no_answer r _ said.0;
  lists = no_answer r _ said.0;
  fits = λ a b d e f h i j. fits_full r c.in_err-replace-in-Ok.field-0.0 _ said.0 said.1;
  room = λ m n hm hn.
      passed_on r (fault.Full c.in_err-replace-in-Ok.field-0.0) (OfFull (λ full. free_of c.args.pool.now < term_bytes (length (monomial_times m n)))) said.0 said.1
      (few g (goal.at.returns-in_err-replace-in-Ok g c).In_ok-product m n hm hn c.in_err-replace-in-Ok.ensures.room);
  safe = let s = c.in_err-replace-in-Ok.ensures.safe in
      then_safe c.in_ok-product.ensures.safe.kept (replaced g (goal.at.returns-in_err-replace-in-Ok g c).In_ok-product s.front) (passed_full r c.in_err-replace-in-Ok.field-0.0 said.0 said.1 s);
}

-- ---- what fits

pub returns-in_err-product : goal.returns-in_err-product
returns-in_err-product g c = let r = c.from_residual.result in let said = c.from_residual.ensures in record {
  ok = λ a b d e. no_answer r _ said.0;
  lists = no_answer r _ said.0;
  fits = λ m n h l hm hn held k.
      passed_on r c.in_err-product.field-0.0 IsNoOverflow said.0 said.1 (c.in_err-product.ensures.fits m n h (subst (HasMonomial m) (sym (beside c.requires.sum c.requires.first).same) hm)
      (subst (HasMonomial n) (sym (beside c.requires.sum c.requires.second).same) hn) held.exponents.0 (omega (arith, k)));
  room = λ m n hm hn.
      passed_on r c.in_err-product.field-0.0 (OfFull (λ full. free_of c.args.pool.now < term_bytes (length (monomial_times m n)))) said.0 said.1
      (c.in_err-product.ensures.room m n (subst (HasMonomial m) (sym (beside c.requires.sum c.requires.first).same) hm) (subst (HasMonomial n) (sym (beside c.requires.sum c.requires.second).same) hn));
  safe = beside_all (passed r c.in_err-product.field-0.0 said.0 said.1 c.in_err-product.ensures.safe);
}

pub returns-in_err-total-in-Ok : goal.returns-in_err-total-in-Ok
returns-in_err-total-in-Ok g c = let r = c.from_residual-in_err-total-in-Ok.result in let said = c.from_residual-in_err-total-in-Ok.ensures in record {
  ok = λ a b d e. no_answer r _ said.0;
  lists = no_answer r _ said.0;
  fits = λ m n h l hm hn held k.
      contradiction (total_fits (given_told c.requires.sum) (summand (value_of c.args.coefficient) (monomial_times m n)) c.in-Ok.at
      (within g (goal.at.returns-in_err-total-in-Ok g c).In-Ok) held k (value_of c.coefficient.result)
      (c.coefficient.ensures ∙ ap coefficient_in (other g (goal.at.returns-in_err-total-in-Ok g c).After-child-other))) (c.in_err-total-in-Ok.ensures.refused.0 refl);
  room = λ a b d e. room_overflow r c.in_err-total-in-Ok.field-0.0 _ said.0 said.1;
  safe = let s = c.in_ok-product.ensures.safe in
      overflowed r c.in_err-total-in-Ok.field-0.0 said.0 said.1
      (subst Overflows (sym c.in_err-total-in-Ok.ensures.named) (c.in_err-total-in-Ok.ensures.refused.0 refl)) (front_after front_same s.front) s.kept s.stands;
}

pub of-left-requires-clause-expression : goal.of-left-requires-clause-expression
of-left-requires-clause-expression g c = (beside c.requires.sum c.requires.first).expression
