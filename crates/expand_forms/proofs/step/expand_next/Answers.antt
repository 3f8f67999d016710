use Rattle.expand_forms.proofs.Shared.{◌∙◌, ◌≡◌, ◌+◌, ℕ, true, refl, sym, subst, ap, arith, rules, OfFull, Tree, behind_first, behind_new, children_of, expression, free_of}
use Rattle.expand_forms.proofs.Shared.{front_same, front_without, given_handed, gives, gives_as, given_rest, given_told, has_polynomial_root, if_map, kept_same, no_new_name, own_bits, passed_on}
use Rattle.expand_forms.proofs.Shared.{polynomial_of, represents_handed, seen, tree_of, size, within_same, names, most_terms, replaced_free, IsListOf, MayLack, IfErr, AreReady, is_power_of_sum}
use Rattle.expand_forms.proofs.{Shared.{refused_as, few_names, list_as, few_terms, most_of_all}, PowersOfSums.{children_ready, lacks, leaf_ready, left_from, left_power, no_result, over_ready}}
use Rattle.expand_forms.proofs.{PowersOfSums.{placed_from, polynomial_root, same}, step.expand_next.Goals.{Then-expand_values}}
use Rattle.expansions.specs.Named.{names_of}
use Rattle.expand_forms.proofs.OverAnswers as over
use Rattle.tree_handles.specs.declared.fault.NumberFault.TheVariants as fault
use Rattle.number_forms.proofs.Safety.{after_one, answer_of, answered, fits_full, no_answer, passed, passed_full}
use Rattle.expand_forms.proofs.step.expand_next.Goals as goal

pub expand_values-requires : goal.expand_values-requires
expand_values-requires c = let s = seen c.id-2.ensures c.requires.stands c.requires.handed in let o = c.requires.over in let now = tree_of c.args.tree c.args.pool.now in record {
  stands = c.requires.stands;
  expression = expression c.id-2.ensures c.requires.stands c.requires.handed;
  polynomial = ap has_polynomial_root s ∙ polynomial_root o.whole now o.over o.taken;
  children = subst (λ (t : Tree). AreReady (children_of t)) (sym s) (children_ready o.whole now o.over o.taken);
}

pub is_left-requires : goal.is_left-requires
is_left-requires c = let s = seen c.id.ensures c.requires.stands c.requires.handed in let o = c.requires.over in let now = tree_of c.args.tree c.args.pool.now in record {
  stands = c.requires.stands;
  expression = expression c.id.ensures c.requires.stands c.requires.handed;
  polynomial = ap has_polynomial_root s ∙ polynomial_root o.whole now o.over o.taken;
  children = subst (λ (t : Tree). AreReady (children_of t)) (sym s) (children_ready o.whole now o.over o.taken);
}

pub returns-then-is_left : goal.returns-then-is_left
returns-then-is_left c =
    let now = tree_of c.args.tree c.args.pool.now in
    let h : is_power_of_sum now ≡ true = ap is_power_of_sum (sym (seen c.id.ensures c.requires.stands c.requires.handed)) ∙ left_power _ (c.is_left.ensures.0 (search rules)) in record {
      ok = λ whole p o. gives c.requires.last (represents_handed c.requires.handed) (left_from whole now o p h);
      safe = answered front_same (kept_same c.args.pool.now) c.requires.stands;
      fits = λ whole p o. tt;
      room = λ whole p o. tt;
    }

-- ---- in lists

listed : (c : Then-expand_values) → IsListOf (names_of c.expand_values.new.lists.names.items) c.expand_values.new.lists.answer.items (polynomial_of (tree_of c.args.tree c.args.pool.now))
listed c =
    subst (λ (t : Tree). IsListOf (names_of c.expand_values.new.lists.names.items) c.expand_values.new.lists.answer.items (polynomial_of t)) (seen c.id-2.ensures c.requires.stands c.requires.handed)
    (c.expand_values.ensures.list c.if-expand_values.true)

pub place_listed-requires : goal.place_listed-requires
place_listed-requires c = record {
  stands = c.requires.stands;
  handed = c.requires.handed;
  list = (polynomial_of (tree_of c.args.tree c.args.pool.now), listed (goal.at.place_listed-requires c).Then-expand_values);
  few = c.expand_values.ensures.few c.if-expand_values.true;
}

-- ---- among the trees

pub expand_by_trees-requires : goal.expand_by_trees-requires
expand_by_trees-requires c = let o = c.requires.over in let g = c.in_ok-raised.ensures.ok o.whole o.taken o.over in let mid = tree_of c.in_ok-raised.raised c.raise_powers.new.pool in record {
  stands = c.in_ok-raised.ensures.safe.stands;
  handed = given_handed g;
  polynomial = over.polynomial_root o.whole mid (given_told g) o.taken;
  children = over.children_expanded o.whole mid (given_told g) o.taken;
}

pub returns : goal.returns
returns c =
    let x = c.requires.over in
    let given = c.in_ok-raised.ensures.ok x.whole x.taken x.over in
    let mid = tree_of c.in_ok-raised.raised c.raise_powers.new.pool in
    let r = c.expand_by_trees.result in
    let free = free_of c.raise_powers.new.pool in
    let bytes = replaced_free c.requires.stands c.in_ok-raised.ensures.safe.stands c.in_ok-raised.ensures.safe.kept c.requires.handed given in
    record {
      ok = λ whole p o. let g = c.in_ok-raised.ensures.ok whole p o in if_map r _ _ c.expand_by_trees.ensures.ok
          (λ i y. gives_as y (given_rest g) (λ t e. leaf_ready whole t (over.expanded_from whole mid (given_told g) p t e)));
      safe = after_one c.in_ok-raised.ensures.safe.kept (behind_new given.ends (front_without behind_first front_same)) c.raise_powers.ensures.safe.front c.expand_by_trees.ensures.safe;
      fits = λ whole p o. refused_as r (c.expand_by_trees.ensures.fits whole (given_told (c.in_ok-raised.ensures.ok whole p o)) p) (λ v l. omega (arith, l, own_bits whole));
      room = λ whole p o. let y = given_told (c.in_ok-raised.ensures.ok whole p o) in subst (λ (n : ℕ). IfErr r (OfFull (λ full. MayLack whole n))) bytes
          (lacks whole mid (over_ready y) p r free (over.few_bytes whole mid y p r free c.expand_by_trees.ensures.room));
    }

pub returns-in_err-place_listed : goal.returns-in_err-place_listed
returns-in_err-place_listed c = let r = c.from_residual.result in let e = c.in_err-place_listed.field-0.0 in let said = c.from_residual.ensures in record {
  ok = λ a b d. no_answer r _ said.0;
  fits = λ a b d. fits_full r e _ said.0 said.1;
  room = λ whole p o.
      let now = tree_of c.args.tree c.args.pool.now in
      let list = list_as (same whole now o p) (listed (goal.at.returns-in_err-place_listed c).Then-expand_values) in
      let few = few_names whole whole (most_terms whole) (no_new_name (within_same (names whole))) (omega (arith, few_terms whole, most_of_all whole)) in
      let free = free_of c.args.pool.now in
      passed_on r (fault.Full c.in_err-place_listed.field-0.0) (OfFull (λ full. MayLack whole (free + size now))) said.0 said.1
      (lacks whole now o p (no_result (fault.Full c.in_err-place_listed.field-0.0)) free (c.in_err-place_listed.ensures.room (polynomial_of whole) (names whole) (most_terms whole) list few));
  safe = passed_full r e said.0 said.1 c.in_err-place_listed.ensures.safe;
}

pub returns-then-expand_values : goal.returns-then-expand_values
returns-then-expand_values c = record {
  ok = λ whole p o.
      let now = tree_of c.args.tree c.args.pool.now in
      gives_as (c.in_ok-place_listed.ensures.ok (polynomial_of now) (listed (goal.at.returns-then-expand_values c).Then-expand_values)) refl (λ t e. placed_from whole now o p t e);
  fits = λ a b d. tt;
  room = λ a b d. tt;
  safe = answer_of c.in_ok-place_listed.ensures.safe;
}

pub returns-in_err-raised : goal.returns-in_err-raised
returns-in_err-raised c = let r = c.from_residual-in_err-raised.result in let e = c.in_err-raised.field-0.0 in let said = c.from_residual-in_err-raised.ensures in record {
  ok = λ whole p o. no_answer r _ said.0;
  fits = λ whole p o. passed_on r e _ said.0 said.1 (c.in_err-raised.ensures.fits whole p o);
  room = λ whole p o. passed_on r e _ said.0 said.1 (c.in_err-raised.ensures.room whole p o);
  safe = passed r e said.0 said.1 c.in_err-raised.ensures.safe;
}
