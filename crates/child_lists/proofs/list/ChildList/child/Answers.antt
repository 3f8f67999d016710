use Rattle.child_lists.proofs.{Shared.{◌≡◌, ◌<◌, Bool, get_or, sym, ap, ◌∙◌, arith, told, root_ids, IsChildAt, arity, kids_of, forest, seen_child, root_ids-nth}, ListedChildren.{children_number}}
use Rattle.child_lists.proofs.{list.ChildList.child.Given.{Over}, list.ChildList.child.Goals.{After-index-ids-place}}
use Rattle.child_lists.proofs.list.ChildList.child.Goals as goal

pub child_id-requires-clause-within : goal.child_id-requires-clause-within
child_id-requires-clause-within g c = omega (arith, c.requires.within, children_number c.args.parent (forest c.args.pool.now) c.requires.expression)

here : (g : Over) (c : After-index-ids-place g) → IsChildAt c.args.at c.args.parent c.index-ids-place.result (forest c.args.pool.now)
here g c =
    let k = kids_of c.args.parent (forest c.args.pool.now) in
    let within : c.args.at < arity k = omega (arith, c.requires.within, children_number c.args.parent (forest c.args.pool.now) c.requires.expression) in
    let items : c.as_slice-ids.result.now ≡ root_ids k = c.as_slice-ids.ensures.value ∙ c.requires.lists.ids-are _ (sym c.self.view_is ∙ ap (λ (b : Bool). told b c.self.inside.ids.items) c.if-self.true) in
    record {
      within = within;
      id-is = c.index-ids-place.is ∙ (λ i. get_or (items i) (c.from-place.ensures i) c.index-ids-place.result) ∙ root_ids-nth c.args.at c.index-ids-place.result k within;
    }

pub returns-then-place-ids : goal.returns-then-place-ids
returns-then-place-ids g c = record {
  child = here g (goal.at.returns-then-place-ids g c).After-index-ids-place;
  expression =
      (seen_child c.args.at c.args.parent c.index-ids-place.result c.args.pool.now c.requires.stands
      (here g (goal.at.returns-then-place-ids g c).After-index-ids-place)).expression c.requires.expression;
  plain =
      (seen_child c.args.at c.args.parent c.index-ids-place.result c.args.pool.now c.requires.stands
      (here g (goal.at.returns-then-place-ids g c).After-index-ids-place)).plain-is c.requires.expression;
}

pub returns-else-self-clause-child : goal.returns-else-self-clause-child
returns-else-self-clause-child g c = record {
  within = omega (arith, c.requires.within, children_number c.args.parent (forest c.args.pool.now) c.requires.expression);
  id-is = c.child_id.ensures.value;
}
