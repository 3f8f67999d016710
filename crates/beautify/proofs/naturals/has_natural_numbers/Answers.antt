use Rattle.beautify.proofs.{Shared.{◌∙◌, sym, rules, tree_at, forest, found}, NaturalNodes.{tree_natural, read, read_all}}
use Rattle.beautify.proofs.naturals.has_natural_numbers.Goals as goal

pub loop-node-init : goal.loop-node-init
loop-node-init c = record { trees = tree_at c.args.tree (forest c.args.pool.now); left-are = (cc); found = found c.args.tree c.args.pool.now c.requires.stands; same = tree_natural c.args.tree (forest c.args.pool.now) c.requires.expression }

pub holds_natural-requires : goal.holds_natural-requires
holds_natural-requires c =
    record { live = (read c.loop-node.invariant c.in-Some.ensures.steps).live; node = (read c.loop-node.invariant c.in-Some.ensures.steps).visit-is; stands = search rules }

pub returns-then-not-holds_natural : goal.returns-then-not-holds_natural
returns-then-not-holds_natural c = sym ((read c.loop-node.invariant c.in-Some.ensures.steps).here (sym c.holds_natural.ensures ∙ c.if-not-holds_natural.true))

pub loop-node-preserved : goal.loop-node-preserved
loop-node-preserved c = (read c.loop-node.invariant c.in-Some.ensures.steps).more (sym c.holds_natural.ensures ∙ c.if-not-holds_natural.false)

pub returns : goal.returns
returns c = sym (read_all c.loop-node.invariant c.in-None.ensures.steps.0)
