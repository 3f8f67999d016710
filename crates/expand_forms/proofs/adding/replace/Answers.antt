use Rattle.expand_forms.proofs.Shared.{passed_on, inl, rules, kept_after, kept_same, ◌≡◌, ◌<◌, ◌∙◌, Bool, ap, refl, subst, sym, if◌then◌else◌, is_zero_fraction, value_of, add, count, is_mult, more, none, Lists, term_tree, summand}
use Rattle.expand_forms.proofs.Shared.{removed, children_of, inserted, plain, Forest, tree_of, root_tree, without_root, behind_first, behind_later, behind_new, front_after_one, front_after_two}
use Rattle.expand_forms.proofs.Shared.{front_at, front_same, front_without, given_handed, given_rest, given_root, given_same, given_told, gives_as, owned, lists_behind}
use Rattle.expand_forms.proofs.{ListedTerms.{lists_before}, Sums.{sum_still}}
use Rattle.number_forms.proofs.Safety.{no_answer, passed_placing, placed, then_placing}
use Rattle.expand_forms.proofs.adding.replace.Goals as goal

pub remove_child-requires : goal.remove_child-requires
remove_child-requires g c =
    let p = c.requires.product.1 in
    let back = c.release.ensures.owned (owned (given_handed p)) in
    let lists = subst (λ (f : Forest). Lists c.args.list.now c.args.sum.now f) (sym back) (lists_before c.requires.sum p c.requires.lists) in
    let same = given_same c.args.sum.now p (given_root c.requires.sum) ∙ ap (root_tree c.args.sum.now) (sym back) in
    (search rules, (c.release.ensures.stands, (sum_still c.requires.sum back, (lists, subst (λ (f : Forest). c.args.at < count (children_of (plain f))) same c.requires.within))))

pub returns-then-is_zero : goal.returns-then-is_zero
returns-then-is_zero g c = record {
  ok = λ m e.
      let p = c.requires.product.1 in
      let back = c.release.ensures.owned (owned (given_handed p)) in
      let ts = children_of (tree_of c.args.sum.now c.args.pool.now) in
      let s = term_tree (summand (value_of c.args.total) m) in
      let same = ap (root_tree c.args.sum.now) back ∙ sym (given_same c.args.sum.now p (given_root c.requires.sum)) in
      let test : is_zero_fraction (value_of c.args.total) ≡ _ = sym c.is_zero.ensures ∙ c.if-is_zero.true in
      gives_as c.remove_child.ensures.sum (ap (without_root c.args.sum.now) back) (λ t h. h ∙ ap (λ (f : Forest). add (removed c.args.at (children_of (plain f)))) same
      ∙ sym (ap (λ (b : Bool). add (if b then removed c.args.at ts else inserted c.args.at (more s none) (removed c.args.at ts))) test));
  lists = c.remove_child.ensures.lists;
  room = tt;
  safe = let back = c.release.ensures.owned (owned (given_handed c.requires.product.1)) in
      placed (front_after_one behind_first (front_at (front_without (behind_later behind_first) front_same) back) c.remove_child.ensures.front)
      (kept_after c.release.ensures.kept c.remove_child.ensures.kept) c.remove_child.ensures.stands;
}

pub completed-requires-clause-product : goal.completed-requires-clause-product
completed-requires-clause-product g c = gives_as c.requires.product.1 refl (λ u h. ap is_mult h)

pub exchange_child-requires : goal.exchange_child-requires
exchange_child-requires g c =
    let p = c.requires.product.1 in
    let r = c.in_ok-term.ensures.ok c.requires.product.0 (given_told p) in
    let lists = lists_behind c.requires.sum r (lists_before c.requires.sum p c.requires.lists) in
    let same = given_same c.args.sum.now p (given_root c.requires.sum) ∙ sym (given_same c.args.sum.now r (given_root c.requires.sum)) in
    let within = subst (λ (f : Forest). c.args.at < count (children_of (plain f))) same c.requires.within in
    (search rules, (c.in_ok-term.ensures.safe.stands, (gives_as r (sym (given_rest r)) (λ t h. tt), (sum_still c.requires.sum (given_rest r), (lists, within)))))

pub returns : goal.returns
returns g c = record {
  ok = λ m e.
      let p = c.requires.product.1 in
      let r = c.in_ok-term.ensures.ok m e in
      let ts = children_of (tree_of c.args.sum.now c.args.pool.now) in
      let s = term_tree (summand (value_of c.args.total) m) in
      let same = given_same c.args.sum.now r (given_root c.requires.sum) ∙ sym (given_same c.args.sum.now p (given_root c.requires.sum)) in
      let test : is_zero_fraction (value_of c.args.total) ≡ _ = sym c.is_zero.ensures ∙ c.if-is_zero.false in
      gives_as c.exchange_child.ensures.sum (ap (without_root c.args.sum.now) (given_rest r))
      (λ t h. h ∙ (λ i. add (inserted c.args.at (more (given_told r i) none) (removed c.args.at (children_of (plain (same i))))))
      ∙ sym (ap (λ (b : Bool). add (if b then removed c.args.at ts else inserted c.args.at (more s none) (removed c.args.at ts))) test));
  lists = c.exchange_child.ensures.lists;
  room = tt;
  safe = let r = c.in_ok-term.ensures.ok c.requires.product.0 (given_told c.requires.product.1) in
      let s = c.in_ok-term.ensures.safe in
      placed (front_after_two behind_first (behind_new r.ends (front_without (behind_later behind_first) front_same))
      (front_after_one (behind_later behind_first) front_same s.front) c.exchange_child.ensures.front) (kept_after s.kept c.exchange_child.ensures.kept) c.exchange_child.ensures.stands;
}

pub returns-in_err-term : goal.returns-in_err-term
returns-in_err-term g c = let r = c.from_residual.result in let said = c.from_residual.ensures in let s = c.in_err-term.ensures.safe in record {
  ok = λ m e. no_answer r _ said.0;
  lists = no_answer r _ said.0;
  room = passed_on r c.in_err-term.field-0.0 _ said.0 said.1 c.in_err-term.ensures.room;
  safe = then_placing (kept_same c.args.pool.now) (front_after_one (behind_later behind_first) front_same s.front) (passed_placing r c.in_err-term.field-0.0 said.0 said.1 s);
}

pub release-requires-clause-releasable : goal.release-requires-clause-releasable
release-requires-clause-releasable g c = inl (given_root c.requires.product.1)
