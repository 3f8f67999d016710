use Rattle.node_pool.proofs.{Shared.{◌≡◌, arith, ap, refl, set, sym, ◌∙◌, ◌+◌, Header, size_of_header, noted}, Cuts.{boundary_le, between_next, between_none}, Noting.noted_more}
use Rattle.node_pool.proofs.places.note_nodes.Goals as goal

pub header_in-header-requires-clause-inside : goal.header_in-header-requires-clause-inside
header_in-header-requires-clause-inside c = omega (arith, boundary_le c.args.to c.args.buffer.now.nodes c.requires.to)

pub size_in-at-requires-clause-inside : goal.size_in-at-requires-clause-inside
size_in-at-requires-clause-inside c = omega (arith, boundary_le c.args.to c.args.buffer.now.nodes c.requires.to)

pub loop-at-preserved : goal.loop-at-preserved
loop-at-preserved c =
    let ns = c.args.buffer.now.nodes in
    let h = c.header_in-header.ensures in
    let same : c.size_in-at.result ≡ size_of_header c.header_in-header.result = c.size_in-at.ensures ∙ ap size_of_header (sym h.value) in
    let i = c.loop-at.invariant in
    let size = c.size_in-at.ensures in
    let more = between_next c.loop-at.at c.size_in-at.result c.args.to ns i.boundary c.requires.to c.loop-at-test.true (rw same h.rest) size in
    let r = noted_more c.loop-at.list (set c.loop-at.list c.from.result c.loop-at.at) _ _ _ c.loop-at.at c.from.result _ more.0 (c.from.ensures ∙ ap (λ (y : Header). y.id) h.value) (ap (λ k. c.loop-at.at + k) size) refl i.known in
    record { boundary = rw same h.next; within = more.1; known = r.0; rest = r.1 ∙ i.rest }

pub returns : goal.returns
returns c = ap (λ ms. noted c.loop-at.at ms c.loop-at.list) (sym (between_none c.loop-at.at c.args.to c.args.buffer.now.nodes c.loop-at-test.false)) ∙ c.loop-at.invariant.rest
