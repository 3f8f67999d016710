use Rattle.expand_forms.proofs.Shared.{◌∙◌, ◌<◌, ap, subst, sym, IsListOf, OfFull, Tree, children_of, expression, free_of, has_polynomial_root, names, node_bytes, passed_on, polynomial_of, seen}
use Rattle.expand_forms.proofs.{Shared.{tree_of, AreReady, few_names}, PowersOfSums.{all_ready}, node.expand_node.Goals.{Then-expand_values}}
use Rattle.expansions.specs.Named.{names_of}
use Rattle.tree_handles.specs.declared.fault.NumberFault.TheVariants as fault
use Rattle.number_forms.proofs.Safety.{answer_of, fits_full, no_answer, passed_full}
use Rattle.expand_forms.proofs.node.expand_node.Goals as goal

pub expand_values-requires : goal.expand_values-requires
expand_values-requires c = let s = seen c.id.ensures c.requires.stands c.requires.handed in record {
  stands = c.requires.stands;
  expression = expression c.id.ensures c.requires.stands c.requires.handed;
  polynomial = ap has_polynomial_root s ∙ c.requires.polynomial;
  children = subst (λ (t : Tree). AreReady (children_of t)) (sym s) (all_ready (children_of (tree_of c.args.tree c.args.pool.now)) c.requires.children);
}

-- the terms that are listed
listed : (c : Then-expand_values) → IsListOf (names_of c.expand_values.new.lists.names.items) c.expand_values.new.lists.answer.items (polynomial_of (tree_of c.args.tree c.args.pool.now))
listed c =
    subst (λ (t : Tree). IsListOf (names_of c.expand_values.new.lists.names.items) c.expand_values.new.lists.answer.items (polynomial_of t)) (seen c.id.ensures c.requires.stands c.requires.handed)
    (c.expand_values.ensures.list c.if-expand_values.true)

pub place_listed-requires : goal.place_listed-requires
place_listed-requires c = record {
  stands = c.requires.stands;
  handed = c.requires.handed;
  list = (polynomial_of (tree_of c.args.tree c.args.pool.now), listed (goal.at.place_listed-requires c).Then-expand_values);
  few = c.expand_values.ensures.few c.if-expand_values.true;
}

pub returns-in_err-place_listed : goal.returns-in_err-place_listed
returns-in_err-place_listed c = let r = c.from_residual.result in let e = c.in_err-place_listed.field-0.0 in let said = c.from_residual.ensures in record {
  ok = no_answer r _ said.0;
  fits = λ a b d. fits_full r e _ said.0 said.1;
  room = λ whole n h l.
      let t = tree_of c.args.tree c.args.pool.now in
      let list = listed (goal.at.returns-in_err-place_listed c).Then-expand_values in
      passed_on r (fault.Full c.in_err-place_listed.field-0.0) (OfFull (λ full. free_of c.args.pool.now < node_bytes (names whole) n)) said.0 said.1
      (c.in_err-place_listed.ensures.room (polynomial_of t) (names whole) n list (few_names whole t n h l));
  safe = passed_full r e said.0 said.1 c.in_err-place_listed.ensures.safe;
}

pub returns-then-expand_values : goal.returns-then-expand_values
returns-then-expand_values c = record {
  ok = c.in_ok-place_listed.ensures.ok (polynomial_of (tree_of c.args.tree c.args.pool.now)) (listed (goal.at.returns-then-expand_values c).Then-expand_values);
  fits = λ a b d. tt;
  room = λ a b d e. tt;
  safe = answer_of c.in_ok-place_listed.ensures.safe;
}
