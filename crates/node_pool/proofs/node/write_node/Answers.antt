use Rattle.node_pool.proofs.{Shared.{◌+◌, ◌∙◌, ap, sym, arith, payload_of, payload_bytes, put, put-nil, Leaf}, Puts.{node_put}}
use Rattle.calc_terms.proofs.Sizes.{payload_least as size_leaf}
use Rattle.node_pool.proofs.node.write_node.Goals as goal

pub returns-in-Num : goal.returns-in-Num
returns-in-Num c = node_put c.args.store.now c.write_header.new.store _ c.args.at c.args.header.id (payload_of c.args.leaf) c.args.header (omega (arith, c.requires.inside, size_leaf (payload_of c.args.leaf))) c.requires.header c.write_header.ensures.put
    (c.write_number.ensures ∙ ap (λ (x : Leaf). put c.write_header.new.store (c.args.at + 8) (payload_bytes (payload_of x))) (sym c.in-Num.is))

pub returns-in-Sym : goal.returns-in-Sym
returns-in-Sym c = node_put c.args.store.now c.write_header.new.store _ c.args.at c.args.header.id (payload_of c.args.leaf) c.args.header (omega (arith, c.requires.inside, size_leaf (payload_of c.args.leaf))) c.requires.header c.write_header.ensures.put
    (c.write.ensures ∙ ap (put c.write_header.new.store (c.args.at + 8)) c.padded.ensures.value ∙ ap (λ (x : Leaf). put c.write_header.new.store (c.args.at + 8) (payload_bytes (payload_of x))) (sym c.in-Sym.is))

pub returns-in-Plain : goal.returns-in-Plain
returns-in-Plain c = node_put c.args.store.now c.write_header.new.store _ c.args.at c.args.header.id (payload_of c.args.leaf) c.args.header (omega (arith, c.requires.inside, size_leaf (payload_of c.args.leaf))) c.requires.header c.write_header.ensures.put
    (put-nil c.write_header.new.store (c.args.at + 8) ∙ ap (λ (x : Leaf). put c.write_header.new.store (c.args.at + 8) (payload_bytes (payload_of x))) (sym c.in-Plain.is))
