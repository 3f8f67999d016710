use Rattle.calc_parser.proofs.Shared.{◌≡◌, List, map, OnOk, Ok, Err, refl, sym, ap, ◌∙◌, subst, Tree, bare, tokens_of, free_of, gives_as, placing, IsTreeOf, Node, postfix, node_of, tokens_in, IfErr}
use Rattle.calc_parser.proofs.{Leaves.{ok_as}, LineSteps.{same_tokens}, Replay.{same_nodes}, building.place_line.Goals.{After-items}}
use Rattle.calc_parser.proofs.building.place_line.Goals as goal

-- the steps are the nodes of the line's tree
nodes_are : (c : After-items) (t : Tree) → IsTreeOf (bare (tokens_of c.args.tokens.now)) t → map (node_of (tokens_in c.items.result.now)) c.args.steps.now ≡ postfix t
nodes_are c t is = ap (λ ts. map (node_of ts) c.args.steps.now) (same_tokens c.items.result.now (tokens_of c.args.tokens.now) c.items.ensures.tokens) ∙ c.requires.made t is

pub place_nodes-requires-clause-tree : goal.place_nodes-requires-clause-tree
place_nodes-requires-clause-tree c = let (t, is) = c.requires.line in (t, nodes_are (goal.at.place_nodes-requires-clause-tree c).After-items t is)

pub returns-clause-ok : goal.returns-clause-ok
returns-clause-ok c =
    let (t, is) = c.requires.line in
    let steps = nodes_are (goal.at.returns-clause-ok c).After-items t is in
    ok_as c.place_nodes.result c.place_nodes.ensures.ok (λ h g. gives_as g refl (λ u q. subst (IsTreeOf (bare (tokens_of c.args.tokens.now))) (same_nodes t u (sym steps ∙ q)) is))

pub returns-clause-room : goal.returns-clause-room
returns-clause-room c = λ t is.
    subst (λ (ns : List Node). OnOk c.place_nodes.result (placing (free_of c.args.pool.now) ns ≡ Ok (free_of c.place_nodes.new.pool))) (nodes_are (goal.at.returns-clause-room c).After-items t is) c.place_nodes.ensures.room

pub returns-clause-full : goal.returns-clause-full
returns-clause-full c = λ t is.
    subst (λ (ns : List Node). IfErr c.place_nodes.result (λ full. placing (free_of c.args.pool.now) ns ≡ Err full)) (nodes_are (goal.at.returns-clause-full c).After-items t is) c.place_nodes.ensures.full
