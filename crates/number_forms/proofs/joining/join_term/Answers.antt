use Rattle.number_forms.proofs.Shared.{sym, subst, refl, rules, Tree, add, IsApart, removed, lists_at, children_of, tree_of, term_of, given_handed, given_told, gives_as, JoinOverflows, passed_on}
use Rattle.number_forms.proofs.{Shared.{expression, seen, front_same, kept_same}, LastSums.{sum_add}, SumChanges.{read_sum, sum_value, cancelled, made_one, matched, apart_rest}}
use Rattle.number_forms.proofs.{Refusals.{none_kept}, Safety.{answer_of, answered, overflowed}}
use Rattle.tree_handles.specs.declared.fault.NumberFault.TheVariants as fault
use Rattle.number_forms.proofs.joining.join_term.Goals as goal

pub match_in-requires : goal.match_in-requires
match_in-requires g c = (search rules, (c.requires.stands, (expression c.id.ensures c.requires.stands (given_handed c.requires.sum), (read_sum _ c.args.sum.now c.args.pool.now c.id.ensures c.requires.stands c.requires.sum, lists_at c.id.ensures c.requires.lists))))

pub insert-requires : goal.insert-requires
insert-requires g c = (search rules, (c.requires.stands, (c.requires.sum, (c.requires.lists, ((let sum : Tree = tree_of c.args.sum.now c.args.pool.now in let same = seen c.id.ensures c.requires.stands (given_handed c.requires.sum) in subst (IsApart (term_of c.args.term).radicand) (sym (sum_value sum (given_told c.requires.sum))) (matched (term_of c.args.term) _ sum _ _ same c.in-Apart.is c.in_ok-at.ensures.ok).0), (let same = seen c.id.ensures c.requires.stands (given_handed c.requires.sum) in (matched (term_of c.args.term) _ (tree_of c.args.sum.now c.args.pool.now) _ _ same c.in-Apart.is c.in_ok-at.ensures.ok).1))))))

pub remove_child-requires : goal.remove_child-requires
remove_child-requires g c = (search rules, (c.requires.stands, (gives_as c.requires.sum refl sum_add, (c.requires.lists, (let same = seen c.id.ensures c.requires.stands (given_handed c.requires.sum) in (matched (term_of c.args.term) _ (tree_of c.args.sum.now c.args.pool.now) _ _ same c.in-Zero.is c.in_ok-at.ensures.ok).0)))))

pub replace-requires : goal.replace-requires
replace-requires g c =
    let sum : Tree = tree_of c.args.sum.now c.args.pool.now in let same = seen c.id.ensures c.requires.stands (given_handed c.requires.sum) in
    let m = matched (term_of c.args.term) _ sum _ _ same c.in-Term.is c.in_ok-at.ensures.ok in
    let apart = apart_rest c.in-Term.at sum (add (removed c.in-Term.at (children_of sum))) (term_of c.args.term) (term_of c.in-Term.joined) (given_told c.requires.sum) m.0 (record { not_zero = c.in-Term.joined.not_zero; positive = c.in-Term.joined.positive }) m.1.0 m.1.1 refl in
    (search rules, (c.requires.stands, (c.requires.sum, (c.requires.lists, (m.0, apart)))))

pub returns-in_err-at : goal.returns-in_err-at
returns-in_err-at g c = let r = c.from_residual.result in let e = fault.Overflow c.in_err-at.field-0.0 in let said = c.from_residual.ensures in record {
  ok = none_kept r _ said.0;
  lists = none_kept r _ said.0;
  overflow = let same = seen c.id.ensures c.requires.stands (given_handed c.requires.sum) in
      passed_on r e _ said.0 said.1 (subst (λ (t : Tree). JoinOverflows t (term_of c.args.term) c.in_err-at.field-0.0) same c.in_err-at.ensures.overflow);
  room = passed_on r e _ said.0 said.1 tt;
  safe = overflowed r c.in_err-at.field-0.0 said.0 said.1 c.in_err-at.ensures.caused front_same (kept_same c.args.pool.now) c.requires.stands;
}

pub returns-in_ok-replace-in-Term : goal.returns-in_ok-replace-in-Term
returns-in_ok-replace-in-Term g c = record {
  ok = let sum : Tree = tree_of c.args.sum.now c.args.pool.now in let same = seen c.id.ensures c.requires.stands (given_handed c.requires.sum) in
      let m = matched (term_of c.args.term) _ sum _ _ same c.in-Term.is c.in_ok-at.ensures.ok in
      gives_as c.in_ok-replace-in-Term.ensures.ok refl (λ x w. made_one c.in-Term.at sum (add (removed c.in-Term.at (children_of sum))) x (term_of c.args.term) (term_of c.in-Term.joined)
      (given_told c.requires.sum) m.0 m.1.1 m.2 refl w);
  lists = c.in_ok-replace-in-Term.ensures.lists;
  overflow = tt;
  room = tt;
  safe = answer_of c.in_ok-replace-in-Term.ensures.safe;
}

pub returns-in-Zero : goal.returns-in-Zero
returns-in-Zero g c = record {
  ok = let sum : Tree = tree_of c.args.sum.now c.args.pool.now in let same = seen c.id.ensures c.requires.stands (given_handed c.requires.sum) in
      let m = matched (term_of c.args.term) _ sum _ _ same c.in-Zero.is c.in_ok-at.ensures.ok in
      gives_as c.remove_child.ensures.sum refl (λ t e. cancelled c.in-Zero.at sum t (term_of c.args.term) (given_told c.requires.sum) m.0 m.1.1 e);
  lists = c.remove_child.ensures.lists;
  overflow = tt;
  room = tt;
  safe = answered c.remove_child.ensures.front c.remove_child.ensures.kept c.remove_child.ensures.stands;
}

pub returns-in_ok-insert-in-Apart-clause-safe : goal.returns-in_ok-insert-in-Apart-clause-safe
returns-in_ok-insert-in-Apart-clause-safe g c = answer_of c.in_ok-insert-in-Apart.ensures.safe
