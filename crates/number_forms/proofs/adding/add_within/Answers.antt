use Rattle.number_forms.proofs.Shared.{◌≡◌, ℕ, inl, sym, ap, ◌∙◌, subst, arith, ◌*◌, ◌^◌, ◌<◌, length, is_number, value, Same-trans, Same-append, Same-eq, lists_at, lists_listed, other_plain}
use Rattle.number_forms.proofs.Shared.{gives_without, gives_rest, kept_after, overflow_as, tree_of, IsHanded, plain, without_root, forest, behind_first, behind_later, behind_new, front_same}
use Rattle.number_forms.proofs.Shared.{front_at, front_without, front_after_one, given_handed, given_told, given_rest, given_other, gives_as, handed_beside, handed_at, owned, tree-without}
use Rattle.number_forms.proofs.{Shared.{passed_on, Spans, Surd, joining_need, replaced_free, both_replaced_free, expression, kept_same}, Denominators.{shares_eq}, Over.{over_as, shares_append}}
use Rattle.number_forms.proofs.{Overflows.{sum_overflows_as}, Rooms.{full_as, few_for_sum, number_spans, sum_lacks, sum_lacks_two, sum_spans_same}, Refusals.{none_given}}
use Rattle.number_forms.proofs.Safety.{after_one, answer_of, passed, passed_full}
use Rattle.tree_handles.specs.declared.fault.NumberFault.TheVariants as fault
use Rattle.number_forms.proofs.adding.add_within.Goals as goal

pub join_terms-requires : goal.join_terms-requires
join_terms-requires g c = (omega (arith, c.requires.few), (c.in_ok-sum.ensures.safe.stands, (gives_rest c.in_ok-sum.ensures.ok (λ t h. h.sum), (lists_at (sym c.id.ensures) (lists_listed _ c.of-list.ensures), (subst (λ (i : ℕ). IsHanded i (without_root c.in_ok-sum.sum (forest c.sum_over.new.pool))) (sym c.id-2.ensures) (handed_at (handed_beside c.args.a c.requires.apart c.requires.second) (given_rest c.in_ok-sum.ensures.ok)), (let beside = handed_beside c.args.a c.requires.apart c.requires.second in let same = other_plain c.args.b c.in_ok-sum.ensures.ok beside.root ∙ ap plain (tree-without c.args.a c.args.b (forest c.args.pool.now) c.requires.apart) in ap (λ (i : ℕ). is_number (tree_of i c.sum_over.new.pool)) c.id-2.ensures ∙ ap is_number same ∙ c.requires.second_number))))))

pub release-requires-clause-releasable : goal.release-requires-clause-releasable
release-requires-clause-releasable g c =
    inl (given_other c.in_ok-join_terms.ensures.ok (handed_at (handed_beside c.args.a c.requires.apart c.requires.second) (given_rest c.in_ok-sum.ensures.ok))).root

pub number_of-requires-clause-sum : goal.number_of-requires-clause-sum
number_of-requires-clause-sum g c =
    let b = handed_at (handed_beside c.args.a c.requires.apart c.requires.second) (given_rest c.in_ok-sum.ensures.ok) in
    let joined = c.in_ok-join_terms.ensures.ok in
    gives_rest (gives_without c.args.b joined b.root (c.release.ensures.owned (owned (given_other joined b)))) (λ t h. h.sum)

pub of-list-requires : goal.of-list-requires
of-list-requires g c = (omega (arith, c.requires.few), (c.in_ok-sum.ensures.safe.stands, expression c.id.ensures c.in_ok-sum.ensures.safe.stands (given_handed c.in_ok-sum.ensures.ok)))

pub returns-in_err-sum : goal.returns-in_err-sum
returns-in_err-sum g c = let r = c.from_residual.result in let e = fault.Full c.in_err-sum.field-0.0 in let said = c.from_residual.ensures in record {
  ok = none_given r _ said.0;
  overflow = passed_on r e _ said.0 said.1 tt;
  room = λ gs s t. passed_on r e _ said.0 said.1 (sum_lacks_two gs _ _ _ c.requires.first_number c.requires.second_number s t c.in_err-sum.ensures.room);
  safe = after_one (kept_same c.args.pool.now) behind_first front_same (passed_full r c.in_err-sum.field-0.0 said.0 said.1 c.in_err-sum.ensures.safe);
}

pub returns-in_err-join_terms : goal.returns-in_err-join_terms
returns-in_err-join_terms g c = let r = c.from_residual-in_err-join_terms.result in let e = c.in_err-join_terms.field-0.0 in let said = c.from_residual-in_err-join_terms.ensures in record {
  ok = none_given r _ said.0;
  overflow = let beside = handed_beside c.args.a c.requires.apart c.requires.second in let sum = c.in_ok-sum.ensures.ok in
      let same : tree_of c.id-2.result c.sum_over.new.pool ≡ tree_of c.args.b c.args.pool.now =
      ap (λ (i : ℕ). tree_of i c.sum_over.new.pool) c.id-2.ensures ∙ other_plain c.args.b sum beside.root ∙ ap plain (tree-without c.args.a c.args.b (forest c.args.pool.now) c.requires.apart) in
      passed_on r e _ said.0 said.1 (overflow_as c.in_err-join_terms.field-0.0 c.in_err-join_terms.ensures.overflow (λ o s. sum_overflows_as _ _ _ _ o (given_told sum).worth (given_told sum).parts (ap value same) s));
  room = λ gs s t. let a = tree_of c.args.a c.args.pool.now in
      let b = tree_of c.args.b c.args.pool.now in let beside = handed_beside c.args.a c.requires.apart c.requires.second in
      let sum = c.in_ok-sum.ensures.ok in
      let same : tree_of c.id-2.result c.sum_over.new.pool ≡ b = ap (λ (i : ℕ). tree_of i c.sum_over.new.pool) c.id-2.ensures ∙ other_plain c.args.b sum beside.root
      ∙ ap plain (tree-without c.args.a c.args.b (forest c.args.pool.now) c.requires.apart) in
      let free = replaced_free c.requires.stands c.in_ok-sum.ensures.safe.stands c.in_ok-sum.ensures.safe.kept c.requires.first sum in
      let first = sum_spans_same gs a _ c.requires.first_number (given_told sum) s in
      let second = subst (λ (v : Surd). Spans gs v) (sym (ap value same)) (number_spans gs b c.requires.second_number t) in
      passed_on r e _ said.0 said.1 (full_as c.in_err-join_terms.field-0.0 (c.in_err-join_terms.ensures.room gs first second)
      (λ full few. sum_lacks gs _ b c.requires.second_number t (subst (λ (n : ℕ). n < joining_need * 2 ^ length gs) free few)));
  safe = let sum = behind_new c.in_ok-sum.ensures.ok.ends (front_without behind_first front_same) in after_one c.in_ok-sum.ensures.safe.kept sum (front_after_one behind_first front_same c.sum_over.ensures.safe.front) (passed r e said.0 said.1 c.in_err-join_terms.ensures.safe);
}

pub returns-in_err-number_of : goal.returns-in_err-number_of
returns-in_err-number_of g c = let r = c.from_residual-in_err-number_of.result in let e = fault.Full c.in_err-number_of.field-0.0 in let said = c.from_residual-in_err-number_of.ensures in record {
  ok = none_given r _ said.0;
  overflow = passed_on r e _ said.0 said.1 tt;
  room = λ gs s t. let sum = c.in_ok-sum.ensures.ok in
      let b = handed_at (handed_beside c.args.a c.requires.apart c.requires.second) (given_rest sum) in let joined = c.in_ok-join_terms.ensures.ok in
      let left = gives_without c.args.b joined b.root (c.release.ensures.owned (owned (given_other joined b))) in
      let all = gives_as left (ap (without_root c.args.b) (given_rest sum)) (λ t h. h) in
      let kept = kept_after c.in_ok-sum.ensures.safe.kept (kept_after c.in_ok-join_terms.ensures.safe.kept c.release.ensures.kept) in
      let free = both_replaced_free c.requires.stands c.release.ensures.stands kept c.requires.apart c.requires.first c.requires.second all in
      passed_on r e _ said.0 said.1 (few_for_sum gs _ (subst (λ (n : ℕ). n < 40) free c.in_err-number_of.ensures.room));
  safe = let b = handed_at (handed_beside c.args.a c.requires.apart c.requires.second) (given_rest c.in_ok-sum.ensures.ok) in let sum = behind_new c.in_ok-sum.ensures.ok.ends (front_without behind_first front_same) in let joined = front_after_one sum (front_after_one behind_first front_same c.sum_over.ensures.safe.front) c.join_terms.ensures.safe.front in let kept = kept_after c.in_ok-sum.ensures.safe.kept (kept_after c.in_ok-join_terms.ensures.safe.kept c.release.ensures.kept) in after_one kept sum (front_at (front_without (behind_later behind_first) joined) (c.release.ensures.owned (owned (given_other c.in_ok-join_terms.ensures.ok b)))) (passed_full r c.in_err-number_of.field-0.0 said.0 said.1 c.in_err-number_of.ensures.safe);
}

pub returns : goal.returns
returns g c = record {
  ok = let beside = handed_beside c.args.a c.requires.apart c.requires.second in let sum = c.in_ok-sum.ensures.ok in
      let b = handed_at beside (given_rest sum) in let joined = c.in_ok-join_terms.ensures.ok in
      let left = gives_without c.args.b joined b.root (c.release.ensures.owned (owned (given_other joined b))) in
      let same : tree_of c.id-2.result c.sum_over.new.pool ≡ tree_of c.args.b c.args.pool.now =
      ap (λ (i : ℕ). tree_of i c.sum_over.new.pool) c.id-2.ensures ∙ other_plain c.args.b sum beside.root ∙ ap plain (tree-without c.args.a c.args.b (forest c.args.pool.now) c.requires.apart) in
      let worth = Same-trans (given_told left).worth (Same-append (given_told sum).worth (Same-eq (ap value same))) in
      gives_as c.in_ok-number_of.ensures.ok (given_rest left ∙ ap (without_root c.args.b) (given_rest sum))
      (λ t h. over_as h worth (λ d p. (given_told left).parts d (shares_append (given_told sum).parts (shares_eq (sym (ap value same))) d p)));
  overflow = tt;
  room = λ a b d. tt;
  safe = let b = handed_at (handed_beside c.args.a c.requires.apart c.requires.second) (given_rest c.in_ok-sum.ensures.ok) in let sum = behind_new c.in_ok-sum.ensures.ok.ends (front_without behind_first front_same) in let joined = front_after_one sum (front_after_one behind_first front_same c.sum_over.ensures.safe.front) c.join_terms.ensures.safe.front in let kept = kept_after c.in_ok-sum.ensures.safe.kept (kept_after c.in_ok-join_terms.ensures.safe.kept c.release.ensures.kept) in after_one kept sum (front_at (front_without (behind_later behind_first) joined) (c.release.ensures.owned (owned (given_other c.in_ok-join_terms.ensures.ok b)))) (answer_of c.in_ok-number_of.ensures.safe);
}
