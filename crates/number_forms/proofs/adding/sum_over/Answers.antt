use Rattle.number_forms.proofs.{Shared.{sym, ap, ◌∙◌, root_kind, tree_of, behind_first, front_same, front_end, front_without, represents_handed, gives, expression, seen}, ByKind.{sum_of_number}}
use Rattle.number_forms.proofs.{ReducedNumbers.{no_add}, Safety.{placed}}
use Rattle.number_forms.proofs.adding.sum_over.Goals as goal

pub kind-requires-clause-live : goal.kind-requires-clause-live
kind-requires-clause-live c = (expression c.id.ensures c.requires.stands c.requires.handed).live

pub sum_over_term-requires : goal.sum_over_term-requires
sum_over_term-requires c =
    let same = seen c.id.ensures c.requires.stands c.requires.handed in let read = expression c.id.ensures c.requires.stands c.requires.handed in
    record { stands = c.requires.stands; handed = c.requires.handed; number = c.requires.number; no_sum = no_add (tree_of c.args.a c.args.pool.now) (λ k. c.in_default.not-Add (c.kind.ensures.plain read ∙ ap root_kind same ∙ k)) }

pub returns-in-Add : goal.returns-in-Add
returns-in-Add c = record {
  ok = let same = seen c.id.ensures c.requires.stands c.requires.handed in let read = expression c.id.ensures c.requires.stands c.requires.handed in
      gives c.move_last.ensures.last (represents_handed c.requires.handed) (sum_of_number (tree_of c.args.a c.args.pool.now) c.requires.number (ap root_kind (sym same) ∙ sym (c.kind.ensures.plain read) ∙ c.in-Add.is));
  room = tt;
  safe = placed (front_end c.move_last.ensures.last (front_without behind_first front_same)) c.move_last.ensures.kept c.move_last.ensures.stands;
}
