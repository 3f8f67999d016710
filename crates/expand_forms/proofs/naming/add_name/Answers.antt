use Rattle.expand_forms.proofs.{Shared.{◌≤◌, ℕ, List, length, take, drop, subst, sym, name_of, Name, AreNamesBelow, StartNamesFrom, HasName}, naming.add_name.Goals.{After-insert_name}}
use Rattle.expansions.proofs.NameLists.{insert_kept, insert_there, insert_names}
use Rattle.expansions.specs.Named.{names_of}
use Rattle.expand_forms.proofs.naming.add_name.Goals as goal

module _ (c : After-insert_name) where
  abbrev xs : List Name
  xs = c.args.names.now.items

  abbrev at : ℕ
  at = c.place_of_name-at.result

  within : at ≤ length xs
  within = subst (λ (ys : List Name). at ≤ length ys) c.deref-2.ensures.value c.place_of_name-at.ensures.within

  below : AreNamesBelow (name_of c.args.name) (names_of (take at xs))
  below = subst (λ (ys : List Name). AreNamesBelow (name_of c.args.name) (names_of (take at ys))) c.deref-2.ensures.value c.place_of_name-at.ensures.below

  above : StartNamesFrom (name_of c.args.name) (names_of (drop at xs))
  above = subst (λ (ys : List Name). StartNamesFrom (name_of c.args.name) (names_of (drop at ys))) c.deref-2.ensures.value c.place_of_name-at.ensures.above

pub returns-clause-names : goal.returns-clause-names
returns-clause-names c =
    let k = (goal.at.returns-clause-names c).After-insert_name in
    insert_names (xs k) (at k) c.args.name _ (within k) c.insert_name.ensures.items c.requires.names (below k) (above k)
    (λ h. c.has_name.ensures.other c.if-has_name.false (subst (λ (ys : List Name). HasName (name_of c.args.name) (names_of ys)) (sym c.deref.ensures.value) h))

pub returns-clause-there : goal.returns-clause-there
returns-clause-there c = let k = (goal.at.returns-clause-there c).After-insert_name in insert_there (xs k) (at k) c.args.name _ (within k) c.insert_name.ensures.items

pub returns-clause-kept : goal.returns-clause-kept
returns-clause-kept c = let k = (goal.at.returns-clause-kept c).After-insert_name in insert_kept (xs k) (at k) c.args.name _ (within k) c.insert_name.ensures.items
