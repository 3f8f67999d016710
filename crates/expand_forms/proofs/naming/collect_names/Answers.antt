use Rattle.expand_forms.proofs.Shared.{◌≡◌, List, length, subst, sym, ap, ◌∙◌, arith, name_of, Name, forest, names, plain, tree_at, AreNames, found, contained_has, has_contained}
use Rattle.expand_forms.proofs.{NamedNodes.{AreCollected, collected_all, collected_none, next_node}, naming.collect_names.Goals.{in-Sym, in_default}}
use Rattle.expansions.specs.Named.{names_of}
use Rattle.calc_terms.specs.declared.kind.Kind.TheVariants as kind
use Rattle.expand_forms.proofs.naming.collect_names.Goals as goal

pub loop-node-init : goal.loop-node-init
loop-node-init c = let e = sym c.clear.ensures.items in let f = forest c.args.pool.now in record {
  collected = subst (λ (xs : List Name). AreCollected (names_of xs) c.into_iter-node-iterator.result (names (plain (tree_at c.args.tree f))) f) e
      (collected_none c.args.tree f c.requires.expression (c.into_iter-node-iterator.ensures.into_iter_gives ∙ c.nodes_of-node-items.ensures)
      (found c.args.tree c.args.pool.now c.requires.stands));
  rising = subst (λ (xs : List Name). AreNames (names_of xs)) e tt;
  few = omega (arith, ap length c.clear.ensures.items);
}

pub name-requires-clause-live : goal.name-requires-clause-live
name-requires-clause-live c = (next_node c.loop-node.invariant.collected c.in-Some.ensures.steps).live

pub name-requires-clause-symbol : goal.name-requires-clause-symbol
name-requires-clause-symbol c =
    elim c.match-matches.branch [
      | in-Sym w ↦ (next_node c.loop-node.invariant.collected c.in-Some.ensures.steps).symbol-is w.in-Sym.is
      | in_default w ↦ absurd (let e = sym w.matches-is ∙ c.if-matches.true in cc)
    ]

pub loop-node-preserved-in-Continue-1 : goal.loop-node-preserved-in-Continue-1
loop-node-preserved-in-Continue-1 c =
    let n = next_node c.loop-node.invariant.collected c.in-Some.ensures.steps in
    let is : c.in-Some.node.kind ≡ kind.Sym = elim c.match-matches.branch [ in-Sym w ↦ w.in-Sym.is | in_default w ↦ absurd (let e = sym w.matches-is ∙ c.if-matches.true in cc) ] in record {
      collected = n.with_name is (name_of c.name.result) (names_of c.add_name.new.names.items) c.name.ensures.plain c.in_ok-add_name.ensures.there c.in_ok-add_name.ensures.kept;
      rising = c.in_ok-add_name.ensures.names;
      few = c.in_ok-add_name.ensures.few;
    }

pub loop-node-preserved : goal.loop-node-preserved
loop-node-preserved c =
    let n = next_node c.loop-node.invariant.collected c.in-Some.ensures.steps in
    let other : c.in-Some.node.kind ≡ kind.Sym → ⊥ = λ z. elim c.match-matches.branch [
      | in-Sym w ↦ (let e = sym w.matches-is ∙ c.if-matches.false in absurd cc)
      | in_default w ↦ w.in_default.not-Sym z
    ] in
    record { collected = n.without other; rising = c.loop-node.invariant.rising; few = c.loop-node.invariant.few }

pub returns-clause-all : goal.returns-clause-all
returns-clause-all c = λ x h.
    let total = names (plain (tree_at c.args.tree (forest c.args.pool.now))) in
    contained_has (names_of c.loop-node.names.items) x (collected_all c.loop-node.invariant.collected c.in-None.ensures.steps.0 x (has_contained total x h))
