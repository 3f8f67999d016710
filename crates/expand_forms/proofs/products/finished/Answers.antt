use Rattle.expand_forms.proofs.Shared.{◌≡◌, ◌≤◌, inl, sym, ap, ◌∙◌, refl, arith, Tree, count, num, only_child, only_owned, gives_itself, tree_of, children_of, behind_first, front_same}
use Rattle.expand_forms.proofs.Shared.{front_at, front_end, front_put, front_without, given_root, given_handed, given_told, gives_as, owned, refusal_as, released_free, expression, seen}
use Rattle.expand_forms.proofs.{Shared.{kept_after, kept_same, two_from, if_given, zero_value, number_refused}, Expansions.{more_sum, none_sum, one_sum}, Sums.{sum_is}}
use Rattle.number_forms.proofs.Safety.{after_placing, one_placed, placed}
use Rattle.expand_forms.proofs.products.finished.Goals as goal

pub children-terms-requires-clause-live : goal.children-terms-requires-clause-live
children-terms-requires-clause-live c = (expression c.id.ensures c.requires.stands (given_handed c.requires.sum)).live

pub release-requires-clause-releasable : goal.release-requires-clause-releasable
release-requires-clause-releasable c = inl (given_root c.requires.sum)

pub release-requires-then-terms-eq1-clause-releasable : goal.release-requires-then-terms-eq1-clause-releasable
release-requires-then-terms-eq1-clause-releasable c =
    let sum = tree_of c.args.sum c.args.pool.now in
    inl (only_owned c.requires.sum (children_of sum) (sum_is (given_told c.requires.sum)) (c.take_child-term.ensures.last (given_root c.requires.sum))).root

pub returns-then-terms-eq0 : goal.returns-then-terms-eq0
returns-then-terms-eq0 c = record {
  ok = let sum = tree_of c.args.sum c.args.pool.now in let read = expression c.id.ensures c.requires.stands (given_handed c.requires.sum) in let many = ap
      (λ (t : Tree). count (children_of t)) (seen c.id.ensures c.requires.stands (given_handed c.requires.sum)) in let none : count (children_of sum) ≡ 0 = sym
      (c.children-terms.ensures.plain read ∙ many) ∙ c.if-terms-eq0.true in if_given _ _ _ _ _ c.number.result c.number.ensures.given
      (c.release.ensures.owned (owned (given_handed c.requires.sum))) (λ t e. e ∙ ap num (zero_value c.whole.result c.whole.ensures) ∙ sym (none_sum (given_told c.requires.sum) none));
  safe = let gone = c.release.ensures.owned (owned (given_handed c.requires.sum)) in after_placing c.release.ensures.kept (front_at (front_without behind_first front_same) gone)
      (one_placed _ c.number.result c.number.ensures.kept c.number.ensures.full c.number.ensures.front c.number.ensures.stands);
  room = let h = given_handed c.requires.sum in let free = released_free c.requires.stands c.release.ensures.stands c.release.ensures.kept h
      (c.release.ensures.owned (owned h)) in refusal_as c.number.result c.number.ensures.full (λ full r. omega (arith, free, number_refused c.whole.result r));
}

pub returns-then-terms-eq1 : goal.returns-then-terms-eq1
returns-then-terms-eq1 c = let sum = tree_of c.args.sum c.args.pool.now in let taken = c.take_child-term.ensures.last (given_root c.requires.sum) in record {
  ok = let told = given_told c.requires.sum in let read = expression c.id.ensures c.requires.stands (given_handed c.requires.sum) in let many = ap
      (λ (t : Tree). count (children_of t)) (seen c.id.ensures c.requires.stands (given_handed c.requires.sum)) in let one : count (children_of sum) ≡ 1 = sym
      (c.children-terms.ensures.plain read ∙ many) ∙ c.if-terms-eq1.true in let gone = c.release-then-terms-eq1.ensures.owned
      (owned (only_owned c.requires.sum (children_of sum) (sum_is told) taken)) in only_child c.requires.sum (children_of sum) (sum_is told) (omega (arith, one)) taken gone (one_sum told one);
  safe = let gone = c.release-then-terms-eq1.ensures.owned (owned (only_owned c.requires.sum (children_of sum) (sum_is (given_told c.requires.sum)) taken)) in placed
      (front_at (front_without behind_first (front_end taken (front_put _ behind_first front_same))) gone)
      (kept_after c.take_child-term.ensures.kept c.release-then-terms-eq1.ensures.kept) c.release-then-terms-eq1.ensures.stands;
  room = tt;
}

pub returns-else-terms-eq1 : goal.returns-else-terms-eq1
returns-else-terms-eq1 c = record {
  ok = let sum = tree_of c.args.sum c.args.pool.now in
      let told = given_told c.requires.sum in
      let read = expression c.id.ensures c.requires.stands (given_handed c.requires.sum) in
      let many = ap (λ (t : Tree). count (children_of t)) (seen c.id.ensures c.requires.stands (given_handed c.requires.sum)) in
      let all : c.children-terms.result ≡ count (children_of sum) = c.children-terms.ensures.plain read ∙ many in
      let two : 2 ≤ c.children-terms.result = two_from c.children-terms.result c.if-terms-eq0.false c.if-terms-eq1.false in
      gives_as (gives_itself c.requires.sum) refl (λ t h. h.1 ∙ more_sum told (omega (arith, all, two)));
  room = tt;
  safe = placed front_same (kept_same c.args.pool.now) c.requires.stands;
}
