use Rattle.std.proofs.{Common.{◌≡◌, ◌+◌, ◌-◌, ◌<◌, ◌≤◌, List, ap, ◌∷◌, ◌++◌, sym, subst, length, take, drop, rules, arith, take_all}, lemmas.List.{length-drop}}
use Rattle.polynomials.specs.{declared.term.Term.{Term}, Polynomials.{HaveExponents}, Terms.{AreTermsOf, IsNormal, polynomial_of, summand_of}}
use Rattle.polynomials.proofs.{Merges.{exchanged_below, exchanged_exponents, exchanged_terms, put_below, put_exponents, put_terms, pushed}, Normal.{behind_none, behind_other, first_and_rest, normal_end}}
use Rattle.polynomials.proofs.{Shared.{passed_on}, Causes.{caused_more, not_done, not_given, pushed_length}}
use Rattle.polynomials.proofs.merging.put.Goals as goal

pub returns-then-is_empty-clause-terms : goal.returns-then-is_empty-clause-terms
returns-then-is_empty-clause-terms c =
    let none : length c.args.rest.now ≡ 0 = search rules in
    put_terms c.args.list.now.items c.args.rest.now c.push_nonzero.new.list.items c.args.term c.in_ok-push_nonzero.ensures.ok c.requires.normal c.requires.below
    (behind_none c.args.term.monomial c.args.rest.now none)

-- what is left behind the first term
behind : (xs : List Term) → take (length xs - 1) (drop 1 xs) ≡ drop 1 xs
behind xs = take_all (length xs - 1) (drop 1 xs) (omega (arith, length-drop 1 xs))

pub returns-then-next-term-clause-terms : goal.returns-then-next-term-clause-terms
returns-then-next-term-clause-terms c =
    let xs = c.args.list.now.items in
    let some : 0 < length c.args.rest.now = search rules in
    let first : c.args.rest.now ≡ c.index-rest-0.result ∷ drop 1 c.args.rest.now = first_and_rest c.args.rest.now c.index-rest-0.result some c.index-rest-0.is in
    rw behind (subst (λ (ys : List Term). AreTermsOf (summand_of c.args.term ∷ polynomial_of (xs ++ ys)) (c.push_nonzero-then-next-term.new.list.items ++ drop 1 c.args.rest.now)) (sym first)
    (exchanged_terms xs (drop 1 c.args.rest.now) c.index-rest-0.result c.args.term c.in_ok-plus.field-0 c.push_nonzero-then-next-term.new.list.items
    c.in_ok-push_nonzero-2.ensures.ok c.if-next-term.true c.in_ok-plus.ensures.monomial c.in_ok-plus.ensures.coefficient
    (subst (λ (ys : List Term). IsNormal (xs ++ ys)) first c.requires.normal) c.requires.below))

pub returns-then-next-term-clause-exponents : goal.returns-then-next-term-clause-exponents
returns-then-next-term-clause-exponents c = λ d h.
    let xs = c.args.list.now.items in
    let some : 0 < length c.args.rest.now = search rules in
    let first : c.args.rest.now ≡ c.index-rest-0.result ∷ drop 1 c.args.rest.now = first_and_rest c.args.rest.now c.index-rest-0.result some c.index-rest-0.is in
    rw behind (exchanged_exponents xs (drop 1 c.args.rest.now) c.index-rest-0.result c.args.term c.in_ok-plus.field-0 c.push_nonzero-then-next-term.new.list.items
    c.in_ok-push_nonzero-2.ensures.ok c.if-next-term.true c.in_ok-plus.ensures.monomial d
    (subst (λ (ys : List Term). HaveExponents d (summand_of c.args.term ∷ polynomial_of (xs ++ ys))) first h))

pub returns-then-next-term-clause-below : goal.returns-then-next-term-clause-below
returns-then-next-term-clause-below c = λ k h.
    exchanged_below c.args.list.now.items (drop 1 c.args.rest.now) c.index-rest-0.result c.args.term c.in_ok-plus.field-0 c.push_nonzero-then-next-term.new.list.items
    c.in_ok-push_nonzero-2.ensures.ok c.if-next-term.true c.in_ok-plus.ensures.monomial k c.requires.below h

pub returns-clause-terms : goal.returns-clause-terms
returns-clause-terms c =
    put_terms c.args.list.now.items c.args.rest.now c.push_nonzero-2.new.list.items c.args.term c.in_ok-push_nonzero-3.ensures.ok c.requires.normal c.requires.below
    (behind_other c.args.term.monomial c.args.rest.now c.index-rest-0.result c.index-rest-0.is (normal_end c.args.list.now.items c.args.rest.now c.requires.normal) c.requires.from c.if-next-term.false)

pub returns-then-is_empty-clause-exponents : goal.returns-then-is_empty-clause-exponents
returns-then-is_empty-clause-exponents c = put_exponents c.args.list.now.items c.args.rest.now c.push_nonzero.new.list.items c.args.term c.in_ok-push_nonzero.ensures.ok

pub returns-clause-exponents : goal.returns-clause-exponents
returns-clause-exponents c = put_exponents c.args.list.now.items c.args.rest.now c.push_nonzero-2.new.list.items c.args.term c.in_ok-push_nonzero-3.ensures.ok

pub returns-then-is_empty-clause-below : goal.returns-then-is_empty-clause-below
returns-then-is_empty-clause-below c = λ k h. put_below c.args.list.now.items c.args.rest.now c.push_nonzero.new.list.items c.args.term c.in_ok-push_nonzero.ensures.ok k c.requires.below h

pub returns-clause-below : goal.returns-clause-below
returns-clause-below c = λ k h. put_below c.args.list.now.items c.args.rest.now c.push_nonzero-2.new.list.items c.args.term c.in_ok-push_nonzero-3.ensures.ok k c.requires.below h

-- ---- how many there are

few : (xs ys zs : List Term) (t : Term) → zs ≡ pushed xs t → length zs + length ys ≤ length xs + length ys + 1
few xs ys zs t e = omega (arith, ap length e, pushed_length xs t)

few_behind : (xs ys zs : List Term) (t : Term) → zs ≡ pushed xs t → length zs + length (take (length ys - 1) (drop 1 ys)) ≤ length xs + length ys + 1
few_behind xs ys zs t e = omega (arith, ap length e, pushed_length xs t, ap length (behind ys), length-drop 1 ys)

pub returns-then-is_empty-clause-few : goal.returns-then-is_empty-clause-few
returns-then-is_empty-clause-few c = few c.args.list.now.items c.args.rest.now c.push_nonzero.new.list.items c.args.term c.in_ok-push_nonzero.ensures.ok

pub returns-then-next-term-clause-few : goal.returns-then-next-term-clause-few
returns-then-next-term-clause-few c = few_behind c.args.list.now.items c.args.rest.now c.push_nonzero-then-next-term.new.list.items c.in_ok-plus.field-0 c.in_ok-push_nonzero-2.ensures.ok

pub returns-clause-few : goal.returns-clause-few
returns-clause-few c = few c.args.list.now.items c.args.rest.now c.push_nonzero-2.new.list.items c.args.term c.in_ok-push_nonzero-3.ensures.ok

-- ---- refusals

pub returns-in_err-push_nonzero : goal.returns-in_err-push_nonzero
returns-in_err-push_nonzero c =
    let r = c.from_residual in
    let u = c.in_err-push_nonzero.field-0.0 in
    record {
      terms = not_given r.result _ r.ensures.0;
      exponents = λ d h. not_given r.result _ r.ensures.0;
      below = λ k h. not_done r.result _ r.ensures.0;
      few = not_given r.result _ r.ensures.0;
      unfit = passed_on r.result u _ r.ensures.0 r.ensures.1 c.in_err-push_nonzero.ensures.unfit;
      room = search rules;
    }

pub returns-in_err-plus : goal.returns-in_err-plus
returns-in_err-plus c =
    let r = c.from_residual-in_err-plus in
    let u = c.in_err-plus.field-0.0 in
    record {
      terms = not_given r.result _ r.ensures.0;
      exponents = λ d h. not_given r.result _ r.ensures.0;
      below = λ k h. not_done r.result _ r.ensures.0;
      few = not_given r.result _ r.ensures.0;
      unfit = passed_on r.result u _ r.ensures.0 r.ensures.1 (caused_more u (λ h. absurd h) c.in_err-plus.ensures.unfit);
      room = search rules;
    }

pub returns-in_err-push_nonzero-2 : goal.returns-in_err-push_nonzero-2
returns-in_err-push_nonzero-2 c =
    let r = c.from_residual-in_err-push_nonzero-2 in
    let u = c.in_err-push_nonzero-2.field-0.0 in
    record {
      terms = not_given r.result _ r.ensures.0;
      exponents = λ d h. not_given r.result _ r.ensures.0;
      below = λ k h. not_done r.result _ r.ensures.0;
      few = not_given r.result _ r.ensures.0;
      unfit = passed_on r.result u _ r.ensures.0 r.ensures.1 c.in_err-push_nonzero-2.ensures.unfit;
      room = search rules;
    }

pub returns-in_err-push_nonzero-3 : goal.returns-in_err-push_nonzero-3
returns-in_err-push_nonzero-3 c =
    let r = c.from_residual-in_err-push_nonzero-3 in
    let u = c.in_err-push_nonzero-3.field-0.0 in
    record {
      terms = not_given r.result _ r.ensures.0;
      exponents = λ d h. not_given r.result _ r.ensures.0;
      below = λ k h. not_done r.result _ r.ensures.0;
      few = not_given r.result _ r.ensures.0;
      unfit = passed_on r.result u _ r.ensures.0 r.ensures.1 c.in_err-push_nonzero-3.ensures.unfit;
      room = search rules;
    }
