-- The slot at the place that was found is taken out.
use Rattle.name_table.proofs.{Shared.{ap, ◌∙◌, sym, rules, map, is_some, name_of, entry_of}, Slots.{IsTaken, IsMissing, taken, missing, place_inside}}
use Rattle.name_table.proofs.table.NameTable.take.Goals as goal

out : (c : goal.After-remove) → IsTaken (name_of c.args.name) c.args.self.now.stored c.remove.result c.remove.new.self.items
out c = taken (name_of c.args.name) c.self.inside.stored.items c.as_slice.result.now c.remove.new.self.items c.args.self.now.stored c.in_ok-at.at c.remove.result (ap (λ t. t.stored) c.self.view_is) c.as_slice.ensures.value (sym c.place_in.ensures ∙ c.in_ok-at.was) c.self.invariant c.remove.ensures.value c.remove.ensures.items

none : (c : goal.After-from_residual) → IsMissing (name_of c.args.name) c.args.self.now.stored
none c = missing (name_of c.args.name) c.self.inside.stored.items c.as_slice.result.now c.args.self.now.stored (ap (λ t. t.stored) c.self.view_is) c.as_slice.ensures.value (sym c.place_in.ensures ∙ c.in_err-at.was)

pub remove-requires : goal.remove-requires
remove-requires c = (search rules, place_inside (name_of c.args.name) c.self.inside.stored.items c.as_slice.result.now c.in_ok-at.at c.as_slice.ensures.value (sym c.place_in.ensures ∙ c.in_ok-at.was))

pub invariant_of-self : goal.invariant_of-self
invariant_of-self c = (out c).used

pub returns : goal.returns
returns c =
    record {
      stored = (out c).found;
      table = ap (λ a. record { ans = a; stored = map entry_of c.remove.new.self.items }) (ap (λ t. t.ans) c.self.view_is) ∙ ap (λ es. record { ans = c.args.self.now.ans; stored = es }) (out c).without;
      tree = (out c).tree;
    }

pub returns-in_err-at : goal.returns-in_err-at
returns-in_err-at c =
    record {
      stored = ap is_some c.from_residual.ensures ∙ sym (none c).stored_not;
      table = sym (ap (λ es. record c.args.self.now { stored = es }) (none c).without);
      tree = c.from_residual.ensures ∙ sym (none c).tree;
    }
