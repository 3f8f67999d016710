use Rattle.tree_handles.proofs.Shared.{rules, ◌≡◌, ℕ, ap, ◌∙◌, place_of, State, IsChildAt, Forest, join, set_nth, tree_nth, Ends, kids_of, with_kids, forest, Stands}
use Rattle.tree_handles.proofs.{Adding.root_live, Swapping.{IsExchange, known_live, exchange, counted_exchanged, exchanged_last}, Forests.stands, Lasts.last_root}
use Rattle.tree_handles.proofs.moving.replace_known_child.Goals.{After-behind-end}
use Rattle.tree_handles.proofs.moving.replace_known_child.Goals as goal

pub locate-first-requires : goal.locate-first-requires
locate-first-requires c = let k = c.requires.known in known_live k.0 k.1 c.args.child c.args.new k.2 k.3 c.args.pool.now c.requires.stands k.4 k.5

pub locate-second-requires : goal.locate-second-requires
locate-second-requires c = let k = c.requires.known in rw c.id.ensures (root_live c.args.new c.args.pool.now c.requires.stands (last_root k.4))

pub swap_blocks-requires-clause-low : goal.swap_blocks-requires-clause-low
swap_blocks-requires-clause-low c = c.behind-mid.ensures.order

facts : (c : After-behind-end) (p n : ℕ) (t others : Forest) → Ends c.args.new t others (forest c.args.pool.now) → IsChildAt n p c.args.child others
    → IsExchange c.locate-first.result c.behind-mid.result c.locate-second.result c.behind-end.result
    (join (with_kids p (set_nth n t (kids_of p others)) others) (tree_nth n (kids_of p others))) c.args.pool.now.nodes
facts c p n t others h k =
    exchange p n c.args.child c.args.new _ _ _ _ t others c.args.pool.now c.requires.stands h k
    (record { start = c.locate-first.ensures.value; boundary = c.behind-mid.ensures.boundary; rest = c.behind-mid.ensures.rest })
    (record { start = c.locate-second.ensures.value ∙ ap (λ (i : ℕ). place_of i c.args.pool.now.nodes) c.id.ensures; boundary = c.behind-end.ensures.boundary; rest = c.behind-end.ensures.rest })

pub swap_blocks-requires-clause-apart : goal.swap_blocks-requires-clause-apart
swap_blocks-requires-clause-apart c = let k = c.requires.known in (facts (goal.at.swap_blocks-requires-clause-apart c).After-behind-end k.0 k.1 k.2 k.3 k.4 k.5).apart

all : (c : goal.After-of) (p n : ℕ) (t others : Forest) → Ends c.args.new t others (forest c.args.pool.now) → IsChildAt n p c.args.child others
    → (forest c.swap_blocks.new.self ≡ join (with_kids p (set_nth n t (kids_of p others)) others) (tree_nth n (kids_of p others))) × Stands c.swap_blocks.new.self
all c p n t others h k =
    stands c.swap_blocks.new.self _ (ap (λ (u : State). u.nodes) c.swap_blocks.ensures.nodes ∙ (facts (goal.at.returns c).After-behind-end p n t others h k).done) c.swap_blocks.ensures.pool
    (counted_exchanged p n t others c.args.pool.now c.requires.stands h.whole)

pub returns : goal.returns
returns c = record {
  forest = λ p n t others h k. (all c p n t others h k).0;
  stands = let k = c.requires.known in (all c k.0 k.1 k.2 k.3 k.4 k.5).1;
  last = λ p n t others h k root. let a = all c p n t others h k in exchanged_last p n c.of.result t others c.args.pool.now c.swap_blocks.new.self c.requires.stands a.1 h.whole k.within a.0
      (c.of.ensures ∙ k.id-is) root;
  handle = search rules;
  kept = search rules;
}
