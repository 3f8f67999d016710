use Rattle.beautify.proofs.Shared.{◌+◌, ap, arith, Tree, Terms, Face, share_room, form_room, nth, append, face, more, unsigned_faces, behind, children_of, plain, tree_at, forest}
use Rattle.beautify.proofs.{Pushing.owes_as, Resolving.{sum, ready_child}}
use Rattle.beautify.proofs.sums.push_sum.Goals as goal

pub returns-clause-owed : goal.returns-clause-owed
returns-clause-owed c us r o =
    let f = forest c.args.pool.now in
    let t = plain (tree_at c.args.sum f) in
    let ts = children_of t in
    let x = c.requires.ready.expression in
    let s = sum t c.requires.sum c.requires.ready.showable in
    let is = c.child_id.ensures.plain x in
    let terms = c.push_shares.ensures.owed us r o in
    let all = c.push.ensures.owed f _ _ terms (ready_child {n = 0} c.requires.ready (omega (arith, s.some)) (c.child_id.ensures.expression x) is) in
    let here = owes_as {s = r + share_room Terms (behind 1 ts) + form_room Face (nth 0 ts)} all (ap (λ (u : Tree). more (face u) (append (unsigned_faces (behind 1 ts)) us)) is) (omega (arith, ap (form_room Face) is)) in
    owes_as (c.push_signs.ensures.owed us _ here) (ap (λ (u : Tree). more u us) s.face-is) (omega (arith, s.bytes))
