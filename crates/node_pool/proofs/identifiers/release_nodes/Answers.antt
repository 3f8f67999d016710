use Rattle.node_pool.proofs.{Shared.{rules, ◌≡◌, arith, ap, length, sym, ◌∙◌, ◌≤◌, Header, size_of_header, between, without_ids}, Sizes.length_le_used}
use Rattle.node_pool.proofs.{Cuts.{boundary_le, cut, between_next, between_none}, Marks.released}
use Rattle.node_pool.proofs.identifiers.release_nodes.Goals as goal

pub header_in-header-requires-clause-inside : goal.header_in-header-requires-clause-inside
header_in-header-requires-clause-inside c = omega (arith, boundary_le c.args.to c.args.buffer.now.nodes c.requires.to)

pub size_in-at-requires-clause-inside : goal.size_in-at-requires-clause-inside
size_in-at-requires-clause-inside c = omega (arith, boundary_le c.args.to c.args.buffer.now.nodes c.requires.to)

pub overflow_add-gone : goal.overflow_add-gone
overflow_add-gone c =
    let ns = c.args.buffer.now.nodes in
    let k = c.header_in-header.ensures.kept in
    let few : length (between c.args.from c.args.to ns) ≤ 524280 = omega (arith, length_le_used (between c.args.from c.args.to ns), (cut c.args.from c.args.to ns c.requires.from c.requires.to c.requires.order).size, boundary_le c.args.to ns c.requires.to, k.fits, k.small) in
    record { fits = omega (arith, few, c.loop-at.invariant.gone) }

pub loop-at-preserved : goal.loop-at-preserved
loop-at-preserved c =
    let ns = c.args.buffer.now.nodes in
    let h = c.header_in-header.ensures in
    let same : c.size_in-at.result ≡ size_of_header c.header_in-header.result = c.size_in-at.ensures ∙ ap size_of_header (sym h.value) in
    let i = c.loop-at.invariant in
    let more = between_next c.loop-at.at c.size_in-at.result c.args.to ns i.boundary c.requires.to c.loop-at-test.true (rw same h.rest) (c.size_in-at.ensures) in
    let r = released c.loop-at.flags c.release-below.new.flags _ _ _ c.header_in-header.result.id more.0 (ap (λ (y : Header). y.id) h.value) c.release-below.ensures.flags i.known in
    record { boundary = rw same h.next; within = more.1; known = r.0; taken = c.release-below.ensures.taken; rest = r.1 ∙ i.rest; gone = omega (arith, i.gone, ap length more.0) }

pub returns : goal.returns
returns c =
    let none = between_none c.loop-at.at c.args.to c.args.buffer.now.nodes c.loop-at-test.false in
    record { flags = ap (λ ms. without_ids ms c.loop-at.flags) (sym none) ∙ c.loop-at.invariant.rest; gone = omega (arith, c.loop-at.invariant.gone, ap length none); taken = search rules }
