use Rattle.number_forms.proofs.{Shared.{refl, behind_first, behind_later, free_of, front_after_two, front_same, gives_as, passed_on, refused_below, tree_of, without-swap}, Refusals.{none_given}}
use Rattle.number_forms.proofs.{RisingPairs.{falling_pair, rising_pair}, Rooms.{sum_lacks_two}, Safety.{answered, refused}}
use Rattle.tree_handles.specs.declared.fault.NumberFault.TheVariants as fault
use Rattle.number_forms.proofs.adding.add_terms.Goals as goal

pub returns-in_ok-node_over_two-in-Less : goal.returns-in_ok-node_over_two-in-Less
returns-in_ok-node_over_two-in-Less c = record {
  ok = gives_as c.in_ok-node_over_two-in-Less.ensures.ok refl (λ t e. rising_pair (tree_of c.args.a c.args.pool.now) (tree_of c.args.b c.args.pool.now) t c.in-Less.ensures e);
  overflow = tt;
  room = λ a b d. tt;
  safe = answered c.node_over_two.ensures.front c.in_ok-node_over_two-in-Less.ensures.kept c.node_over_two.ensures.stands;
}

pub returns-in_ok-node_over_two-in-Greater : goal.returns-in_ok-node_over_two-in-Greater
returns-in_ok-node_over_two-in-Greater c = record {
  ok = gives_as c.in_ok-node_over_two-in-Greater.ensures.ok (without-swap c.args.a c.args.b _ c.requires.apart)
      (λ t e. falling_pair (tree_of c.args.a c.args.pool.now) (tree_of c.args.b c.args.pool.now) t c.in-Greater.ensures e);
  overflow = tt;
  room = λ a b d. tt;
  safe = answered (front_after_two (behind_later behind_first) behind_first front_same c.node_over_two-in-Greater.ensures.front) c.in_ok-node_over_two-in-Greater.ensures.kept c.node_over_two-in-Greater.ensures.stands;
}

pub returns-in_err-node_over_two-in-Less : goal.returns-in_err-node_over_two-in-Less
returns-in_err-node_over_two-in-Less c =
    let a = tree_of c.args.a c.args.pool.now in let b = tree_of c.args.b c.args.pool.now in let free = free_of c.args.pool.now in
    let r = c.from_residual.result in let e = fault.Full c.in_err-node_over_two-in-Less.field-0.0 in let said = c.from_residual.ensures in
    let lack = c.in_err-node_over_two-in-Less.ensures.full in record {
      ok = none_given r _ said.0;
      overflow = passed_on r e _ said.0 said.1 tt;
      room = λ gs s t. passed_on r e _ said.0 said.1 (sum_lacks_two gs free a b c.requires.first_number c.requires.second_number s t (refused_below lack));
      safe = refused r c.in_err-node_over_two-in-Less.field-0.0 said.0 said.1 c.in_err-node_over_two-in-Less.ensures.full c.node_over_two.ensures.stands;
    }

pub returns-in_err-node_over_two-in-Greater : goal.returns-in_err-node_over_two-in-Greater
returns-in_err-node_over_two-in-Greater c =
    let a = tree_of c.args.a c.args.pool.now in let b = tree_of c.args.b c.args.pool.now in let free = free_of c.args.pool.now in
    let r = c.from_residual-in_err-node_over_two-in-Greater.result in let e = fault.Full c.in_err-node_over_two-in-Greater.field-0.0 in
    let said = c.from_residual-in_err-node_over_two-in-Greater.ensures in let lack = c.in_err-node_over_two-in-Greater.ensures.full in record {
      ok = none_given r _ said.0;
      overflow = passed_on r e _ said.0 said.1 tt;
      room = λ gs s t. passed_on r e _ said.0 said.1 (sum_lacks_two gs free a b c.requires.first_number c.requires.second_number s t (refused_below lack));
      safe = refused r c.in_err-node_over_two-in-Greater.field-0.0 said.0 said.1 c.in_err-node_over_two-in-Greater.ensures.full c.node_over_two-in-Greater.ensures.stands;
    }
