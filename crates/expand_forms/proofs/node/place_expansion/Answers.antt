use Rattle.expand_forms.proofs.Shared.{◌≡◌, ◌<◌, ◌∙◌, true, ap, refl, sym, arith, names, size, plain, Forest, arity, bytes_in, at, tree_at, forest, front_end, front_same, gives_as, node_bytes}
use Rattle.expand_forms.proofs.{Shared.{free_of, OfFull, passed_on, refused_below, size-plain, bits_of, high, low, OfOverflow, has_factors, has_parts, few_names}, NodeKinds.{leaf_itself}}
use Rattle.expand_forms.proofs.{NodeRooms.{leaf_size}, NodeBits.{few_bits, over_kind, within_bits}, NodeParts.{factors_over, parts_over}}
use Rattle.tree_handles.specs.declared.fault.NumberFault.TheVariants as fault
use Rattle.number_forms.proofs.Safety.{answered, no_answer, refused}
use Rattle.expand_forms.proofs.node.place_expansion.Goals as goal

pub returns-then-has_factors-clause-fits : goal.returns-then-has_factors-clause-fits
returns-then-has_factors-clause-fits c = λ whole o p.
    let t = plain (tree_at c.args.id (forest c.args.pool.now)) in
    let k : has_factors t ≡ true = sym c.has_factors.ensures ∙ c.if-has_factors.true in
    within_bits c.place_products.result whole (λ few. let (h, l, held, less) = factors_over whole t (over_kind whole t o) k p o.children few in c.place_products.ensures.fits h l held less)

pub returns-then-has_parts-clause-fits : goal.returns-then-has_parts-clause-fits
returns-then-has_parts-clause-fits c = λ whole o p.
    let t = plain (tree_at c.args.id (forest c.args.pool.now)) in
    let k : has_parts t ≡ true = sym c.has_parts.ensures ∙ c.if-has_parts.true in
    within_bits c.place_sum.result whole (λ few. c.place_sum.ensures.fits (high whole) (low whole) (parts_over whole t (over_kind whole t o) k p o.children) (few_bits whole few))

pub returns-then-has_parts-clause-room : goal.returns-then-has_parts-clause-room
returns-then-has_parts-clause-room c = λ whole n h l. c.place_sum.ensures.room (names whole) n (few_names whole (plain (tree_at c.args.id (forest c.args.pool.now))) n h l)

-- ---- leaves

pub returns : goal.returns
returns c = let t = plain (tree_at c.args.id (forest c.args.pool.now)) in let given = c.in_ok-copy_tree.ensures.given c.requires.expression in record {
  ok = gives_as given refl (λ u e. e ∙ leaf_itself t c.requires.polynomial (sym c.has_factors.ensures ∙ c.if-has_factors.false) (sym c.has_parts.ensures ∙ c.if-has_parts.false));
  safe = answered (front_end given.ends front_same) c.in_ok-copy_tree.ensures.kept c.in_ok-copy_tree.ensures.stands;
  fits = λ whole o p. tt;
  room = λ whole n h l. tt;
}

pub returns-in_err-copy_tree : goal.returns-in_err-copy_tree
returns-in_err-copy_tree c =
    let r = c.from_residual.result in let e = fault.Full c.in_err-copy_tree.field-0.0 in let said = c.from_residual.ensures in
    let t = plain (tree_at c.args.id (forest c.args.pool.now)) in
    let small = leaf_size t c.requires.polynomial (sym c.has_factors.ensures ∙ c.if-has_factors.false) (sym c.has_parts.ensures ∙ c.if-has_parts.false) in
    let tree : Forest = tree_at c.args.id (forest c.args.pool.now) in
    let alone : arity tree ≡ 1 = ap arity (at c.args.id (forest c.args.pool.now) c.requires.expression.live).tree-is in
    let bytes : bytes_in tree ≡ size t = sym (size-plain tree alone c.requires.expression.whole) in
    let few : free_of c.args.pool.now < bytes_in tree = refused_below c.in_err-copy_tree.ensures.full in
    record {
      ok = no_answer r _ said.0;
      safe = refused r c.in_err-copy_tree.field-0.0 said.0 said.1 c.in_err-copy_tree.ensures.full c.in_err-copy_tree.ensures.stands;
      fits = λ whole o p. passed_on r e (OfOverflow (λ x. 124 < bits_of whole)) said.0 said.1 tt;
      room = λ whole n h l. passed_on r (fault.Full c.in_err-copy_tree.field-0.0)
          (OfFull (λ full. free_of c.args.pool.now < node_bytes (names whole) n)) said.0 said.1 (omega (arith, bytes, small, few));
    }
