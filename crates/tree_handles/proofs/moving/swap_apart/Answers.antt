use Rattle.tree_handles.proofs.{Shared.{rules, ◌≡◌, ◌<◌, ℕ, ap, ◌∙◌, State, AreSiblings, swapped_nth, kids_of, with_kids, forest, Stands}, ChildPlaces.placed, Forests.stands}
use Rattle.tree_handles.proofs.{Swapping.{IsExchange, swaps, counted_swapped}, moving.swap_apart.Goals.{After-behind-end, After-swap_blocks}}
use Rattle.tree_handles.proofs.moving.swap_apart.Goals as goal

pub locate-start-requires : goal.locate-start-requires
locate-start-requires c = let s = c.requires.siblings in (placed s.1 s.0 c.args.first c.args.pool.now c.requires.stands s.4.first).live

pub locate-next-requires : goal.locate-next-requires
locate-next-requires c = let s = c.requires.siblings in (placed s.2 s.0 c.args.second c.args.pool.now c.requires.stands s.4.second).live

facts : (c : After-behind-end) (p i j : ℕ) → i < j → AreSiblings p i c.args.first j c.args.second (forest c.args.pool.now)
    → IsExchange c.locate-start.result c.behind-mid.result c.locate-next.result c.behind-end.result (with_kids p (swapped_nth i j (kids_of p (forest c.args.pool.now)))
    (forest c.args.pool.now)) c.args.pool.now.nodes
facts c p i j lt h =
    swaps p i j c.args.first c.args.second _ _ _ _ c.args.pool.now c.requires.stands lt h
    (record { start = c.locate-start.ensures.value; boundary = c.behind-mid.ensures.boundary; rest = c.behind-mid.ensures.rest })
    (record { start = c.locate-next.ensures.value; boundary = c.behind-end.ensures.boundary; rest = c.behind-end.ensures.rest })

pub swap_blocks-requires-clause-apart : goal.swap_blocks-requires-clause-apart
swap_blocks-requires-clause-apart c = let s = c.requires.siblings in (facts (goal.at.swap_blocks-requires-clause-apart c).After-behind-end s.0 s.1 s.2 s.3 s.4).apart

done : (c : After-swap_blocks) (p i j : ℕ) → i < j → AreSiblings p i c.args.first j c.args.second (forest c.args.pool.now)
    → (forest c.swap_blocks.new.self ≡ with_kids p (swapped_nth i j (kids_of p (forest c.args.pool.now))) (forest c.args.pool.now)) × Stands c.swap_blocks.new.self
done c p i j lt h =
    stands c.swap_blocks.new.self _ (ap (λ (x : State). x.nodes) c.swap_blocks.ensures.nodes ∙ (facts (goal.at.returns c).After-behind-end p i j lt h).done) c.swap_blocks.ensures.pool
    (counted_swapped p i j c.args.pool.now c.requires.stands)

pub returns : goal.returns
returns c =
    let s = c.requires.siblings in
    record { forest = λ parent i j lt h. (done c parent i j lt h).0; stands = (done c s.0 s.1 s.2 s.3 s.4).1; kept = search rules }
