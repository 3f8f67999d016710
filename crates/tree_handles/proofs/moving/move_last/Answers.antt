use Rattle.tree_handles.proofs.{Shared.{rules, ◌≡◌, ℕ, ap, ◌∙◌, arith, inr, State, place_of, join, root_tree, without_root, forest, Stands}, Adding.{root_live}, Forests.{stands}}
use Rattle.tree_handles.proofs.{Swapping.{IsBlock, block, counted_last}, AtRoots.{moved_last}, moving.move_last.Goals.{After-behind-end}}
use Rattle.tree_handles.proofs.moving.move_last.Goals as goal

pub locate-from-requires : goal.locate-from-requires
locate-from-requires c = rw c.id.ensures (root_live c.args.handle.now c.args.pool.now c.requires.stands c.requires.root)

facts : (c : After-behind-end) → IsBlock c.args.handle.now c.locate-from.result c.behind-end.result c.args.pool.now
facts c =
    block c.args.handle.now _ _ c.args.pool.now c.requires.stands c.requires.root
    (record { start = c.locate-from.ensures.value ∙ ap (λ (i : ℕ). place_of i c.args.pool.now.nodes) c.id.ensures; boundary = c.behind-end.ensures.boundary; rest = c.behind-end.ensures.rest })

pub move_block-requires-clause-outside : goal.move_block-requires-clause-outside
move_block-requires-clause-outside c = inr (omega (arith, (facts (goal.at.move_block-requires-clause-outside c).After-behind-end).stop, c.used-last.ensures.value, c.behind-end.ensures.order))

all : (c : goal.After-move_block) → (forest c.move_block.new.self ≡ join (without_root c.args.handle.now (forest c.args.pool.now)) (root_tree c.args.handle.now (forest c.args.pool.now))) × Stands c.move_block.new.self
all c =
    stands c.move_block.new.self _ (ap (λ (x : State). x.nodes) c.move_block.ensures.nodes ∙ rw c.used-last.ensures.value (facts (goal.at.returns c).After-behind-end).done) c.move_block.ensures.pool
    (counted_last c.args.handle.now c.args.pool.now c.requires.stands)

pub returns : goal.returns
returns c =
    let d = all c in
    record { forest = d.0; last = moved_last c.args.handle.now c.args.pool.now c.move_block.new.self c.requires.stands d.1 c.requires.root d.0; stands = d.1; kept = search rules }

pub returns-then-end-last : goal.returns-then-end-last
returns-then-end-last c =
    let stays = (facts (goal.at.returns-then-end-last c).After-behind-end).stays (omega (arith, c.if-end-last.true, c.used-last.ensures.value)) in
    record { forest = stays; last = moved_last c.args.handle.now c.args.pool.now c.args.pool.now c.requires.stands c.requires.stands c.requires.root stays; kept = search rules; stands = search rules }
