use Rattle.number_forms.proofs.Shared.{rules, ◌≡◌, ◌<◌, ◌≤◌, true, refl, sym, ap, subst, arith, Tree, count, is_add, term_of, free_of, passed_on, Forest, Gives, children_of, without_root}
use Rattle.number_forms.proofs.Shared.{lists_behind, given_rest, given_root, given_told, gives_as, gives_rest, other_plain, behind_first, behind_new, front_same, front_after, front_after_two}
use Rattle.number_forms.proofs.{Shared.{kept_after}, Exchanged.{exchanged_in}, LastSums.{sum_add}, Refusals.{none_kept}, Safety.{lacked, placed}}
use Rattle.number_forms.proofs.joining.exchange.Goals as goal

pub exchange_child-requires : goal.exchange_child-requires
exchange_child-requires g c =
    let p = c.in_ok-new.ensures.ok in
    let sum = subst (λ (f : Forest). Gives (without_root c.args.sum.now f) f c.args.sum.now (λ t. is_add t ≡ true)) (sym (given_rest p)) (gives_as c.requires.sum refl sum_add) in
    let within = subst (λ (t : Tree). c.args.at < count (children_of t)) (sym (other_plain c.args.sum.now p (given_root c.requires.sum))) c.requires.within in
    (search rules, (c.place_term.ensures.stands, (gives_rest p (λ t h. tt), (sum, (lists_behind c.requires.sum p c.requires.lists, within)))))

pub returns-in_err-new : goal.returns-in_err-new
returns-in_err-new g c = let r = c.from_residual.result in let e = c.in_err-new.field-0.0 in let said = c.from_residual.ensures in record {
  ok = none_kept r _ said.0;
  lists = none_kept r _ said.0;
  room = let lacking : 96 ≤ free_of c.args.pool.now → ⊥ = λ enough. absurd (cc (c.in_err-new.ensures.room enough)) in passed_on r e _ said.0 said.1 (omega (arith, lacking));
  safe = lacked r e said.0 said.1 (front_after front_same c.place_term.ensures.front) c.in_err-new.ensures.full c.in_err-new.ensures.caused c.place_term.ensures.stands;
}

pub returns : goal.returns
returns g c = record {
  ok = let p = c.in_ok-new.ensures.ok in let same = other_plain c.args.sum.now p (given_root c.requires.sum) in
      gives_as c.exchange_child.ensures.sum (ap (without_root c.args.sum.now) (given_rest p))
      (λ u h. exchanged_in c.args.at _ (term_of c.args.term) (given_told c.requires.sum) same (given_told p) c.args.term.positive c.requires.within c.requires.radicand c.requires.apart h);
  lists = c.exchange_child.ensures.lists;
  room = tt;
  safe = placed (front_after_two behind_first (behind_new c.in_ok-new.ensures.ok.ends front_same) (front_after front_same c.place_term.ensures.front) c.exchange_child.ensures.front) (kept_after c.in_ok-new.ensures.kept c.exchange_child.ensures.kept) c.exchange_child.ensures.stands;
}
