use Rattle.calc_parser.proofs.{Shared.{◌≡◌, map, ap, ◌∙◌, arith, option_map, name_of, Tree, depth, bare, tokens_of, node_of, IsLine}, checking.checked.Goals.{After-depth}}
use Rattle.calc_parser.proofs.checking.checked.Goals as goal

-- the depth of the line's tree
depth_is : (c : After-depth) (t : Tree) → IsLine (bare (tokens_of c.args.tokens.now)) (option_map name_of c.in-Ok.store) t → c.depth.result ≡ depth t
depth_is c t line =
    let ts = bare (tokens_of c.args.tokens.now) in
    c.depth.ensures ts t (ap (map (node_of ts)) c.steps.ensures.steps ∙ c.read_line.ensures.made t (option_map name_of c.in-Ok.store, line))

pub returns-then-depth-gt-DEPTH_LIMIT-clause-found : goal.returns-then-depth-gt-DEPTH_LIMIT-clause-found
returns-then-depth-gt-DEPTH_LIMIT-clause-found c =
    let (t, line) = c.in-Ok.ensures.line in
    let deep = depth_is (goal.at.returns-then-depth-gt-DEPTH_LIMIT-clause-found c).After-depth t line in
    record { store = option_map name_of c.in-Ok.store; tree = t; line = line; over = omega (arith, deep, c.if-depth-gt-DEPTH_LIMIT.true) }

pub returns-clause-found : goal.returns-clause-found
returns-clause-found c =
    let (t, line) = c.in-Ok.ensures.line in
    let deep = depth_is (goal.at.returns-clause-found c).After-depth t line in
    record { tree = t; line = line; within = omega (arith, deep, c.if-depth-gt-DEPTH_LIMIT.false) }
