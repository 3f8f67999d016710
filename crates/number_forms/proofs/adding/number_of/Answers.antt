use Rattle.number_forms.proofs.Shared.{◌≡◌, ◌≤◌, inl, sym, ap, ◌∙◌, refl, arith, subst, ◌<◌, pos, value, IsNumberOver, Tree, count, num, root_size, gives_itself, tree_of, children_of, behind_first}
use Rattle.number_forms.proofs.Shared.{front_same, front_at, front_end, front_put, front_without, given_root, given_handed, given_told, gives_as, owned, num_most, value_of, free_of, refused_below}
use Rattle.number_forms.proofs.{Shared.{released_free, expression, seen, only_child, only_owned, kept_after, kept_same}, LastSums.{sum_is}}
use Rattle.number_forms.proofs.{Shaped.{zero_sum, one_sum, more_sum, zero_number_of, two_from}, TermTrees.{if_given}, Rooms.{refusal_as}, adding.number_of.Goals.{After-children-terms}}
use Rattle.number_forms.proofs.Safety.{after_placing, one_placed, placed}
use Rattle.surd_terms.proofs.Rationals.{whole_value as whole_is}
use Rattle.number_forms.proofs.adding.number_of.Goals as goal

pub children-terms-requires-clause-live : goal.children-terms-requires-clause-live
children-terms-requires-clause-live c = (expression c.id.ensures c.requires.stands (given_handed c.requires.sum)).live

-- how many terms there are
terms : (c : After-children-terms) → c.children-terms.result ≡ count (children_of (tree_of c.args.sum c.args.pool.now))
terms c = c.children-terms.ensures.plain (expression c.id.ensures c.requires.stands (given_handed c.requires.sum))
    ∙ ap (λ (t : Tree). count (children_of t)) (seen c.id.ensures c.requires.stands (given_handed c.requires.sum))

pub release-requires-clause-releasable : goal.release-requires-clause-releasable
release-requires-clause-releasable c = inl (given_root c.requires.sum)

pub release-requires-then-terms-eq1-clause-releasable : goal.release-requires-then-terms-eq1-clause-releasable
release-requires-then-terms-eq1-clause-releasable c =
    let sum = tree_of c.args.sum c.args.pool.now in
    inl (only_owned c.requires.sum (children_of sum) (sum_is sum (given_told c.requires.sum)) (c.take_child-term.ensures.last (given_root c.requires.sum))).root

pub returns-else-terms-eq1 : goal.returns-else-terms-eq1
returns-else-terms-eq1 c = record {
  ok = let sum = tree_of c.args.sum c.args.pool.now in let told = given_told c.requires.sum in
      let all : c.children-terms.result ≡ count (children_of sum) = terms (goal.at.returns-else-terms-eq1 c).After-children-terms in
      let two : 2 ≤ c.children-terms.result = two_from c.children-terms.result c.if-terms-eq0.false c.if-terms-eq1.false in
      gives_as (gives_itself c.requires.sum) refl (λ t h. let e = h.1 in subst (IsNumberOver (value sum)) (sym e) (more_sum sum (children_of sum) told (sum_is sum told) (omega (arith, all, two))));
  room = tt;
  safe = placed front_same (kept_same c.args.pool.now) c.requires.stands;
}

pub returns-then-terms-eq0 : goal.returns-then-terms-eq0
returns-then-terms-eq0 c = record {
  ok = let sum = tree_of c.args.sum c.args.pool.now in
      let none : count (children_of sum) ≡ 0 = sym (terms (goal.at.returns-then-terms-eq0 c).After-children-terms) ∙ c.if-terms-eq0.true in
      if_given _ _ _ _ _ c.number.result c.number.ensures.given (c.release.ensures.owned (owned (given_handed c.requires.sum)))
      (λ t e. zero_number_of _ t _ (zero_sum sum (given_told c.requires.sum) none) e (whole_is c.whole.result (pos 0) c.whole.ensures));
  room = let sum = given_handed c.requires.sum in
      let free = released_free c.requires.stands c.release.ensures.stands c.release.ensures.kept sum (c.release.ensures.owned (owned sum)) in
      refusal_as c.number.result c.number.ensures.full (λ full r. let few : free_of c.release.new.pool < root_size (num (value_of c.whole.result)) = refused_below r in
      omega (arith, free, few, num_most (value_of c.whole.result)));
  safe = after_placing c.release.ensures.kept (front_at (front_without behind_first front_same) (c.release.ensures.owned (owned (given_handed c.requires.sum)))) (one_placed _ c.number.result c.number.ensures.kept c.number.ensures.full c.number.ensures.front c.number.ensures.stands);
}

pub returns-then-terms-eq1 : goal.returns-then-terms-eq1
returns-then-terms-eq1 c = record {
  ok = let sum = tree_of c.args.sum c.args.pool.now in let told = given_told c.requires.sum in
      let one : count (children_of sum) ≡ 1 = sym (terms (goal.at.returns-then-terms-eq1 c).After-children-terms) ∙ c.if-terms-eq1.true in
      let taken = c.take_child-term.ensures.last (given_root c.requires.sum) in
      let gone = c.release-then-terms-eq1.ensures.owned (owned (only_owned c.requires.sum (children_of sum) (sum_is sum told) taken)) in
      only_child c.requires.sum (children_of sum) (sum_is sum told) (omega (arith, one)) taken gone (one_sum sum (children_of sum) told (sum_is sum told) one);
  room = tt;
  safe = placed (let sum = tree_of c.args.sum c.args.pool.now in let taken = c.take_child-term.ensures.last (given_root c.requires.sum) in let gone = c.release-then-terms-eq1.ensures.owned (owned (only_owned c.requires.sum (children_of sum) (sum_is sum (given_told c.requires.sum)) taken)) in front_at (front_without behind_first (front_end taken (front_put _ behind_first front_same))) gone) (kept_after c.take_child-term.ensures.kept c.release-then-terms-eq1.ensures.kept) c.release-then-terms-eq1.ensures.stands;
}
