use Rattle.dual_diff.proofs.Shared.{◌<◌, ◌+◌, ◌∙◌, refl, sym, ap, arith, rules, whole_fraction, name_of, count, nodes, none, num, power, size, sizes, whole_num, derivative, products, with_derivative}
use Rattle.dual_diff.proofs.{Shared.{behind, first, occurs, told, children_of, nth, takes_kind, CanDerive, one, tree_of, ◌≤◌}, AllNodes.{as_holds, child_in, child_ready, exponent_in}}
use Rattle.dual_diff.proofs.{Forms.{base_and_exponent, one_argument, quotient_nodes, sizes_append, two_children}, Numbers.{first_power, lowered_as, lowered_told, small_fits, told_fits, told_less}}
use Rattle.dual_diff.proofs.{Numbers.{told_less_fits, told_less_of, told_small, zero_power}, Products.{count_derivatives, count_with, derivatives_all, derivatives_more, derivatives_room, made_rule}}
use Rattle.dual_diff.proofs.{Products.{made_some, more_than_one, one_product, products_room, sum_room}, Rules.{absent_zero, other_linear, product_sum, quotient_divided, quotient_whole, root_slope}}
use Rattle.dual_diff.proofs.{Rules.{same_node, symbol_one}, Slices.{rest_after, slice_first, with_room}, Written.{added, added_behind, all_factors, can_copy, factors_through, gather, gather_behind}}
use Rattle.dual_diff.proofs.Written.{room_for, seen_more, still, written_as, written_more, written_none, written_same}
use Rattle.dual_diff.proofs.writing.+writing.Goals as goal

-- ---- write_derivative

pub write_derivative-number-requires : goal.write_derivative-number-requires
write_derivative-number-requires g t c =
    let L = g.met.W.Writer.laws in
    record { stands = c.requires.tree.stands; fits = search rules; room = L.less c.requires.room (omega (arith, ap size (absent_zero (name_of c.args.name) (tree_of c.args.tree c.args.pool.now) (sym c.holds.ensures ∙ c.if-not-holds.true)))) }

pub write_derivative-returns-then-not-holds : goal.write_derivative-returns-then-not-holds
write_derivative-returns-then-not-holds g t c =
    written_as g.met.W.Writer.laws c.number.ensures (ap one (sym (absent_zero (name_of c.args.name) (tree_of c.args.tree c.args.pool.now) (sym c.holds.ensures ∙ c.if-not-holds.true))))

pub write_derivative-number-requires-in-Sym : goal.write_derivative-number-requires-in-Sym
write_derivative-number-requires-in-Sym g t c =
    let x = symbol_one (name_of c.args.name) (tree_of c.args.tree c.args.pool.now) (sym (c.kind.ensures.plain c.requires.tree.expression) ∙ c.in-Sym.is) (sym c.holds.ensures ∙ c.if-not-holds.false) in
    record { stands = c.requires.tree.stands; fits = search rules; room = g.met.W.Writer.laws.less c.requires.room (omega (arith, ap size x)) }

pub write_derivative-returns-in-Sym : goal.write_derivative-returns-in-Sym
write_derivative-returns-in-Sym g t c =
    written_as g.met.W.Writer.laws c.number-in-Sym.ensures
    (ap one (sym (symbol_one (name_of c.args.name) (tree_of c.args.tree c.args.pool.now) (sym (c.kind.ensures.plain c.requires.tree.expression) ∙ c.in-Sym.is) (sym c.holds.ensures ∙ c.if-not-holds.false))))

pub write_derivative-write_products-requires : goal.write_derivative-write_products-requires
write_derivative-write_products-requires g t c =
    λ κs l. (omega (arith, c.decreases), (l, (c.requires.tree, (as_holds (sym (c.kind.ensures.plain c.requires.tree.expression) ∙ c.in-Mult.is) (sym c.holds.ensures ∙ c.if-not-holds.false), c.requires.room))))

pub write_derivative-write_quotient-requires : goal.write_derivative-write_quotient-requires
write_derivative-write_quotient-requires g t c =
    λ κs l. (omega (arith, c.decreases), (l, (c.requires.tree, (as_holds (sym (c.kind.ensures.plain c.requires.tree.expression) ∙ c.in-Div.is) (sym c.holds.ensures ∙ c.if-not-holds.false), c.requires.room))))

pub write_derivative-write_power-requires : goal.write_derivative-write_power-requires
write_derivative-write_power-requires g t c =
    λ κs l. (omega (arith, c.decreases), (l, (c.requires.tree, (as_holds (sym (c.kind.ensures.plain c.requires.tree.expression) ∙ c.in-Pow.is) (sym c.holds.ensures ∙ c.if-not-holds.false), c.requires.room))))

pub write_derivative-write_root-requires : goal.write_derivative-write_root-requires
write_derivative-write_root-requires g t c =
    λ κs l. (omega (arith, c.decreases), (l, (c.requires.tree, (as_holds (sym (c.kind.ensures.plain c.requires.tree.expression) ∙ c.in-Root.is) (sym c.holds.ensures ∙ c.if-not-holds.false), c.requires.room))))

pub write_derivative-write_same-requires : goal.write_derivative-write_same-requires
write_derivative-write_same-requires g t c =
    let is = c.kind.ensures.plain c.requires.tree.expression in
    let there = sym c.holds.ensures ∙ c.if-not-holds.false in
    let o = c.in_default in
    λ κs l. (omega (arith, c.decreases), (l, (c.requires.tree, (as_holds (sym is) there, (other_linear (name_of c.args.name) c.kind.result (tree_of c.args.tree c.args.pool.now) is there o.not-Sym o.not-Mult o.not-Div o.not-Pow o.not-Root, c.requires.room)))))

-- ---- write_same

pub write_same-loop-at-init : goal.write_same-loop-at-init
write_same-loop-at-init g t c = g.met.W.Writer.laws.nothing c.requires.tree.stands

pub write_same-child_of-child-requires : goal.write_same-child_of-child-requires
write_same-child_of-child-requires g t c =
    let d = still g.met.W.Writer.laws c.loop-at.invariant c.requires.tree in
    record {
      stands = d.stands;
      expression = d.expression;
      within = omega (arith, ap (λ v. count (children_of v)) ((g.met.W.Writer.laws.keeps c.loop-at.invariant).same c.args.tree c.requires.tree.expression), c.children-children.ensures.plain c.requires.tree.expression, c.loop-at-test.true);
    }

pub write_same-write_derivative-requires : goal.write_same-write_derivative-requires
write_same-write_derivative-requires g t c =
    let L = g.met.W.Writer.laws in
    let x = name_of c.args.name in
    let u = tree_of c.args.tree c.args.pool.now in
    let within : c.loop-at.at < count (children_of u) = omega (arith, c.children-children.ensures.plain c.requires.tree.expression, c.loop-at-test.true) in
    let at = c.child_of-child.ensures.plain ∙ ap (λ v. nth c.loop-at.at (children_of v)) ((L.keeps c.loop-at.invariant).same c.args.tree c.requires.tree.expression) in
    let k = child_in {x = x} c.loop-at.at u within c.requires.tree.derivable at in
    let s = same_node x c.args.kind u (sym c.requires.holds.kind) c.requires.linear c.requires.holds.held in
    λ κs l. (omega (arith, k.smaller, c.decreases), (l, (child_ready (L.keeps c.loop-at.invariant).stands c.child_of-child.ensures.expression k, L.room c.loop-at.invariant c.requires.room (omega (arith, s.bytes, ap (λ v. size (derivative x v)) at, derivatives_room x c.loop-at.at (children_of u) within)))))

pub write_same-loop-at-preserved : goal.write_same-loop-at-preserved
write_same-loop-at-preserved g t c =
    let L = g.met.W.Writer.laws in
    let x = name_of c.args.name in
    let u = tree_of c.args.tree c.args.pool.now in
    let within : c.loop-at.at < count (children_of u) = omega (arith, c.children-children.ensures.plain c.requires.tree.expression, c.loop-at-test.true) in
    let at = c.child_of-child.ensures.plain ∙ ap (λ v. nth c.loop-at.at (children_of v)) ((L.keeps c.loop-at.invariant).same c.args.tree c.requires.tree.expression) in
    written_as L (L.joined c.loop-at.invariant (written_as L c.write_derivative.ensures (ap (λ v. one (derivative x v)) at))) (derivatives_more x c.loop-at.at (children_of u) within)

pub write_same-over-requires : goal.write_same-over-requires
write_same-over-requires g t c =
    let L = g.met.W.Writer.laws in
    let x = name_of c.args.name in
    let u = tree_of c.args.tree c.args.pool.now in
    let n = c.children-children.ensures.plain c.requires.tree.expression in
    let s = same_node x c.args.kind u (sym c.requires.holds.kind) c.requires.linear c.requires.holds.held in
    gather L (written_as L c.loop-at.invariant (derivatives_all x c.loop-at.at (children_of u) (omega (arith, n, c.loop-at-test.false))))
    (count_derivatives x (children_of u) ∙ sym n) c.used-begin.ensures.value
    (ap (takes_kind c.args.kind) n ∙ s.takes) c.requires.room (omega (arith, s.bytes))

pub write_same-returns : goal.write_same-returns
write_same-returns g t c =
    let L = g.met.W.Writer.laws in
    let x = name_of c.args.name in
    let u = tree_of c.args.tree c.args.pool.now in
    let n = c.children-children.ensures.plain c.requires.tree.expression in
    let s = same_node x c.args.kind u (sym c.requires.holds.kind) c.requires.linear c.requires.holds.held in
    written_as L (c.over.ensures _ _ _ (written_as L c.loop-at.invariant (derivatives_all x c.loop-at.at (children_of u) (omega (arith, n, c.loop-at-test.false)))) (count_derivatives x (children_of u) ∙ sym n)) (ap one (sym s.rule))

-- ---- write_products

pub write_products-loop-at-init : goal.write_products-loop-at-init
write_products-loop-at-init g t c = written_none g.met.W.Writer.laws (name_of c.args.name) (children_of (tree_of c.args.tree c.args.pool.now)) c.requires.tree.stands

pub write_products-child_of-factor-requires : goal.write_products-child_of-factor-requires
write_products-child_of-factor-requires g t c =
    let L = g.met.W.Writer.laws in
    let d = still L c.loop-at.invariant.written c.requires.tree in
    record {
      stands = d.stands;
      expression = d.expression;
      within = omega (arith, ap (λ v. count (children_of v)) ((L.keeps c.loop-at.invariant.written).same c.args.tree c.requires.tree.expression), c.children-factors.ensures.plain c.requires.tree.expression, c.loop-at-test.true);
    }

pub write_products-overflow_add-seen : goal.write_products-overflow_add-seen
write_products-overflow_add-seen g t c =
    let i = c.loop-at.invariant in
    let u = tree_of c.args.tree c.args.pool.now in
    let within : c.loop-at.at < count (children_of u) = omega (arith, c.children-factors.ensures.plain c.requires.tree.expression, c.loop-at-test.true) in
    let is = c.child_of-factor.ensures.plain ∙ ap (λ v. nth c.loop-at.at (children_of v)) ((g.met.W.Writer.laws.keeps i.written).same c.args.tree c.requires.tree.expression) in
    let m = seen_more c.loop-at.at (children_of u) within i.seen-is (c.tree_bytes-seen.ensures.plain c.child_of-factor.ensures.expression ∙ ap size is) c.factor_bytes-whole.ensures in
    record { fits = omega (arith, m.fits, c.factor_bytes-whole.type_inv) }

pub write_products-overflow_sub-whole : goal.write_products-overflow_sub-whole
write_products-overflow_sub-whole g t c =
    let i = c.loop-at.invariant in
    let u = tree_of c.args.tree c.args.pool.now in
    let within : c.loop-at.at < count (children_of u) = omega (arith, c.children-factors.ensures.plain c.requires.tree.expression, c.loop-at-test.true) in
    let is = c.child_of-factor.ensures.plain ∙ ap (λ v. nth c.loop-at.at (children_of v)) ((g.met.W.Writer.laws.keeps i.written).same c.args.tree c.requires.tree.expression) in
    (seen_more c.loop-at.at (children_of u) within i.seen-is (c.tree_bytes-seen.ensures.plain c.child_of-factor.ensures.expression ∙ ap size is) c.factor_bytes-whole.ensures).fits

pub write_products-write_product-requires : goal.write_products-write_product-requires
write_products-write_product-requires g t c =
    let L = g.met.W.Writer.laws in
    let i = c.loop-at.invariant in
    let x = name_of c.args.name in
    let at = c.loop-at.at in
    let u = tree_of c.args.tree c.args.pool.now in
    let within : at < count (children_of u) = omega (arith, c.children-factors.ensures.plain c.requires.tree.expression, c.loop-at-test.true) in
    let same = (L.keeps i.written).same c.args.tree c.requires.tree.expression in
    let is = c.child_of-factor.ensures.plain ∙ ap (λ v. nth at (children_of v)) same in
    let m = seen_more at (children_of u) within i.seen-is (c.tree_bytes-seen.ensures.plain c.child_of-factor.ensures.expression ∙ ap size is) c.factor_bytes-whole.ensures in
    let made = products_room x at i.made (children_of u) within (ap (occurs x) (sym is) ∙ sym c.holds.ensures ∙ c.if-not-holds.false) i.is in
    let room : sizes i.made + size (with_derivative x at (children_of u)) ≤ size (derivative x u) =
    omega (arith, made, ap size (product_sum x u c.requires.holds.kind), sum_room (products x none (children_of u))) in
    let earlier = i.seen-is ∙ ap (λ v. sizes (first at (children_of v))) (sym same) in
    let later = m.later ∙ ap (λ v. sizes (behind (at + 1) (children_of v))) (sym same) in
    let inside : at < count (children_of (tree_of c.args.tree c.loop-at.pool)) = omega (arith, within, ap (λ v. count (children_of v)) same) in
    λ κs l. (omega (arith, ap nodes same, c.decreases), (l, (still L i.written c.requires.tree, (inside, (earlier, (later, room_for L (λ v. with_derivative x at (children_of v)) i.written c.requires.tree.expression c.requires.room room))))))

pub write_products-loop-at-preserved : goal.write_products-loop-at-preserved
write_products-loop-at-preserved g t c =
    let L = g.met.W.Writer.laws in
    let i = c.loop-at.invariant in
    let x = name_of c.args.name in
    let at = c.loop-at.at in
    let within : at < count (children_of (tree_of c.args.tree c.args.pool.now)) = omega (arith, c.children-factors.ensures.plain c.requires.tree.expression, c.loop-at-test.true) in
    let same = (L.keeps i.written).same c.args.tree c.requires.tree.expression in
    let is = c.child_of-factor.ensures.plain ∙ ap (λ v. nth at (children_of v)) same in
    written_more L within (ap (occurs x) (sym is) ∙ sym c.holds.ensures ∙ c.if-not-holds.false) i (c.tree_bytes-seen.ensures.plain c.child_of-factor.ensures.expression ∙ ap size is)
    (written_as L c.write_product.ensures (ap (λ v. one (with_derivative x at (children_of v))) same))

pub write_products-loop-at-preserved-then-not-holds : goal.write_products-loop-at-preserved-then-not-holds
write_products-loop-at-preserved-then-not-holds g t c =
    let L = g.met.W.Writer.laws in
    let i = c.loop-at.invariant in
    let within : c.loop-at.at < count (children_of (tree_of c.args.tree c.args.pool.now)) = omega (arith, c.children-factors.ensures.plain c.requires.tree.expression, c.loop-at-test.true) in
    let is = c.child_of-factor.ensures.plain ∙ ap (λ v. nth c.loop-at.at (children_of v)) ((L.keeps i.written).same c.args.tree c.requires.tree.expression) in
    written_same L within (ap (occurs (name_of c.args.name)) (sym is) ∙ sym c.holds.ensures ∙ c.if-not-holds.true) i (c.tree_bytes-seen.ensures.plain c.child_of-factor.ensures.expression ∙ ap size is)

pub write_products-over-requires : goal.write_products-over-requires
write_products-over-requires g t c =
    let u = tree_of c.args.tree c.args.pool.now in
    let i = c.loop-at.invariant in
    let rule = made_rule (name_of c.args.name) c.loop-at.at i.made u c.requires.holds.kind (omega (arith, c.children-factors.ensures.plain c.requires.tree.expression, c.loop-at-test.false)) i.is in
    gather g.met.W.Writer.laws i.written (sym i.many-is) c.used-begin.ensures.value refl c.requires.room
    (omega (arith, ap size rule, ap size (more_than_one i.made (omega (arith, i.many-is, c.if-products-gt1.true)))))

pub write_products-returns-then-products-gt1 : goal.write_products-returns-then-products-gt1
write_products-returns-then-products-gt1 g t c =
    let u = tree_of c.args.tree c.args.pool.now in
    let i = c.loop-at.invariant in
    let rule = made_rule (name_of c.args.name) c.loop-at.at i.made u c.requires.holds.kind (omega (arith, c.children-factors.ensures.plain c.requires.tree.expression, c.loop-at-test.false)) i.is in
    written_as g.met.W.Writer.laws (c.over.ensures _ _ _ i.written (sym i.many-is)) (ap one (more_than_one i.made (omega (arith, i.many-is, c.if-products-gt1.true)) ∙ sym rule))

pub write_products-returns-else-products-gt1 : goal.write_products-returns-else-products-gt1
write_products-returns-else-products-gt1 g t c =
    let x = name_of c.args.name in
    let u = tree_of c.args.tree c.args.pool.now in
    let i = c.loop-at.invariant in
    let done : count (children_of u) ≤ c.loop-at.at = omega (arith, c.children-factors.ensures.plain c.requires.tree.expression, c.loop-at-test.false) in
    let some = made_some x c.loop-at.at i.made u c.requires.holds.kind c.requires.holds.held done i.is in
    written_as g.met.W.Writer.laws i.written
    (one_product i.made (omega (arith, i.many-is, some, c.if-products-gt1.false)) ∙ ap one (sym (made_rule x c.loop-at.at i.made u c.requires.holds.kind done i.is)))

-- ---- write_product

pub write_product-copies-requires : goal.write_product-copies-requires
write_product-copies-requires g t c =
    let ts = children_of (tree_of c.args.tree c.args.pool.now) in
    record {
      stands = c.requires.tree.stands;
      expression = c.requires.tree.expression;
      order = omega arith;
      within = omega (arith, c.requires.within);
      bytes = c.requires.earlier ∙ ap sizes (sym (slice_first c.args.at ts));
      room = g.met.W.Writer.laws.less c.requires.room (omega (arith, c.requires.earlier, with_room (name_of c.args.name) c.args.at ts));
    }

pub write_product-write_derivative-requires : goal.write_product-write_derivative-requires
write_product-write_derivative-requires g t c =
    let L = g.met.W.Writer.laws in
    let x = name_of c.args.name in
    let u = tree_of c.args.tree c.args.pool.now in
    let e = c.child_of-factor.ensures.expression in
    let k = child_in {x = x} c.args.at u c.requires.within c.requires.tree.derivable c.child_of-factor.ensures.plain in
    let before = written_as L c.copies.ensures (slice_first c.args.at (children_of u)) in
    λ κs l. (omega (arith, ap nodes ((L.keeps before).same c.child_of-factor.result e), k.smaller, c.decreases), (l, (still L before (child_ready c.requires.tree.stands e k), room_for L (derivative x) before e c.requires.room (omega (arith, with_room x c.args.at (children_of u), ap (λ v. size (derivative x v)) c.child_of-factor.ensures.plain)))))

pub write_product-copies-requires-2 : goal.write_product-copies-requires-2
write_product-copies-requires-2 g t c =
    let L = g.met.W.Writer.laws in
    let x = name_of c.args.name in
    let ts = children_of (tree_of c.args.tree c.args.pool.now) in
    let n = c.children-factors.ensures.plain c.requires.tree.expression in
    let through = factors_through L x c.args.at ts c.copies.ensures c.child_of-factor.ensures.expression c.child_of-factor.ensures.plain c.write_derivative.ensures in
    let k = L.keeps through in
    let same = k.same c.args.tree c.requires.tree.expression in
    record {
      stands = k.stands;
      expression = k.expressions c.args.tree c.requires.tree.expression;
      order = omega (arith, n, c.requires.within);
      within = omega (arith, n, ap (λ v. count (children_of v)) same);
      bytes = c.requires.later ∙ ap sizes (sym (rest_after c.args.at n c.requires.within same));
      room = L.room through c.requires.room (omega (arith, c.requires.later, with_room x c.args.at ts, sizes_append (first c.args.at ts) (one (derivative x (nth c.args.at ts)))));
    }

pub write_product-over-requires : goal.write_product-over-requires
write_product-over-requires g t c =
    let L = g.met.W.Writer.laws in
    let x = name_of c.args.name in
    let ts = children_of (tree_of c.args.tree c.args.pool.now) in
    let n = c.children-factors.ensures.plain c.requires.tree.expression in
    let through = factors_through L x c.args.at ts c.copies.ensures c.child_of-factor.ensures.expression c.child_of-factor.ensures.plain c.write_derivative.ensures in
    let all = all_factors L x c.args.at ts through c.copies-2.ensures (rest_after c.args.at n c.requires.within ((L.keeps through).same c.args.tree c.requires.tree.expression)) in
    gather L all (count_with x c.args.at ts c.requires.within ∙ sym n) c.used-begin.ensures.value refl c.requires.room (omega arith)

pub write_product-returns : goal.write_product-returns
write_product-returns g t c =
    let L = g.met.W.Writer.laws in
    let x = name_of c.args.name in
    let ts = children_of (tree_of c.args.tree c.args.pool.now) in
    let n = c.children-factors.ensures.plain c.requires.tree.expression in
    let through = factors_through L x c.args.at ts c.copies.ensures c.child_of-factor.ensures.expression c.child_of-factor.ensures.plain c.write_derivative.ensures in
    let all = all_factors L x c.args.at ts through c.copies-2.ensures (rest_after c.args.at n c.requires.within ((L.keeps through).same c.args.tree c.requires.tree.expression)) in
    c.over.ensures _ _ _ all (count_with x c.args.at ts c.requires.within ∙ sym n)

-- ---- write_quotient

pub write_quotient-write_derivative-requires : goal.write_quotient-write_derivative-requires
write_quotient-write_derivative-requires g t c =
    let x = name_of c.args.name in
    let u = tree_of c.args.tree c.args.pool.now in
    let rule = quotient_divided x u c.requires.holds.kind c.requires.holds.held c.child_of-dividend.ensures.plain c.child_of-divisor.ensures.plain (sym c.holds.ensures ∙ c.if-not-holds.true) in
    let k = child_in {x = x} 0 u (omega (arith, two_children u c.requires.holds.kind)) c.requires.tree.derivable c.child_of-dividend.ensures.plain in
    λ κs l. (omega (arith, k.smaller, c.decreases), (l, (child_ready c.requires.tree.stands c.child_of-dividend.ensures.expression k, g.met.W.Writer.laws.less c.requires.room (omega (arith, ap size rule)))))

pub write_quotient-copy-requires : goal.write_quotient-copy-requires
write_quotient-copy-requires g t c =
    let rule = quotient_divided (name_of c.args.name)
    (tree_of c.args.tree c.args.pool.now) c.requires.holds.kind c.requires.holds.held c.child_of-dividend.ensures.plain c.child_of-divisor.ensures.plain
    (sym c.holds.ensures ∙ c.if-not-holds.true) in
    can_copy g.met.W.Writer.laws c.write_derivative.ensures c.child_of-divisor.ensures.expression c.requires.room (omega (arith, ap size rule))

pub write_quotient-over-requires : goal.write_quotient-over-requires
write_quotient-over-requires g t c =
    let L = g.met.W.Writer.laws in
    let rule = quotient_divided (name_of c.args.name)
    (tree_of c.args.tree c.args.pool.now) c.requires.holds.kind c.requires.holds.held c.child_of-dividend.ensures.plain c.child_of-divisor.ensures.plain
    (sym c.holds.ensures ∙ c.if-not-holds.true) in
    gather L (added L (λ v. v) c.write_derivative.ensures c.child_of-divisor.ensures.expression c.copy.ensures) refl c.used-begin.ensures.value refl c.requires.room (omega (arith, ap size rule))

pub write_quotient-returns-then-not-holds : goal.write_quotient-returns-then-not-holds
write_quotient-returns-then-not-holds g t c =
    let L = g.met.W.Writer.laws in
    let rule = quotient_divided (name_of c.args.name)
    (tree_of c.args.tree c.args.pool.now) c.requires.holds.kind c.requires.holds.held c.child_of-dividend.ensures.plain c.child_of-divisor.ensures.plain
    (sym c.holds.ensures ∙ c.if-not-holds.true) in
    written_as L (c.over.ensures _ _ _ (added L (λ v. v) c.write_derivative.ensures c.child_of-divisor.ensures.expression c.copy.ensures) refl) (ap one (sym rule))

pub write_quotient-write_difference-requires : goal.write_quotient-write_difference-requires
write_quotient-write_difference-requires g t c =
    let x = name_of c.args.name in
    let u = tree_of c.args.tree c.args.pool.now in
    let rule = quotient_whole x u c.requires.holds.kind c.child_of-dividend.ensures.plain c.child_of-divisor.ensures.plain (sym c.holds.ensures ∙ c.if-not-holds.false) in
    let halves = two_children u c.requires.holds.kind in
    let above = child_in {x = x} 0 u (omega (arith, halves)) c.requires.tree.derivable c.child_of-dividend.ensures.plain in
    let below = child_in {x = x} 1 u (omega (arith, halves)) c.requires.tree.derivable c.child_of-divisor.ensures.plain in
    let fewer = quotient_nodes u c.requires.holds.kind c.child_of-dividend.ensures.plain c.child_of-divisor.ensures.plain in
    let a : CanDerive x c.child_of-dividend.result c.args.pool.now = child_ready c.requires.tree.stands c.child_of-dividend.ensures.expression above in
    let b : CanDerive x c.child_of-divisor.result c.args.pool.now = child_ready c.requires.tree.stands c.child_of-divisor.ensures.expression below in
    λ κs l. (omega (arith, fewer, c.decreases), (l, (a, (b, g.met.W.Writer.laws.less c.requires.room (omega (arith, ap size rule))))))

pub write_quotient-write_power_of-requires : goal.write_quotient-write_power_of-requires
write_quotient-write_power_of-requires g t c =
    let L = g.met.W.Writer.laws in
    let rule = quotient_whole (name_of c.args.name) (tree_of c.args.tree c.args.pool.now) c.requires.holds.kind c.child_of-dividend.ensures.plain c.child_of-divisor.ensures.plain
    (sym c.holds.ensures ∙ c.if-not-holds.false) in
    let k = L.keeps c.write_difference.ensures in
    let e = c.child_of-divisor.ensures.expression in
    record { stands = k.stands; expression = k.expressions c.child_of-divisor.result e; fits = search rules; room = room_for L (λ v. power v (whole_num 2)) c.write_difference.ensures e c.requires.room (omega (arith, ap size rule)) }

pub write_quotient-over-requires-2 : goal.write_quotient-over-requires-2
write_quotient-over-requires-2 g t c =
    let L = g.met.W.Writer.laws in
    let rule = quotient_whole (name_of c.args.name) (tree_of c.args.tree c.args.pool.now) c.requires.holds.kind c.child_of-dividend.ensures.plain c.child_of-divisor.ensures.plain
    (sym c.holds.ensures ∙ c.if-not-holds.false) in
    gather L (added L (λ v. power v (whole_num 2)) c.write_difference.ensures c.child_of-divisor.ensures.expression c.write_power_of.ensures) refl c.used-begin.ensures.value refl c.requires.room (omega (arith, ap size rule))

pub write_quotient-returns : goal.write_quotient-returns
write_quotient-returns g t c =
    let L = g.met.W.Writer.laws in
    let rule = quotient_whole (name_of c.args.name) (tree_of c.args.tree c.args.pool.now) c.requires.holds.kind c.child_of-dividend.ensures.plain c.child_of-divisor.ensures.plain
    (sym c.holds.ensures ∙ c.if-not-holds.false) in
    written_as L (c.over-2.ensures _ _ _ (added L (λ v. power v (whole_num 2)) c.write_difference.ensures c.child_of-divisor.ensures.expression c.write_power_of.ensures) refl) (ap one (sym rule))

-- ---- write_difference

pub write_difference-write_derivative-requires : goal.write_difference-write_derivative-requires
write_difference-write_derivative-requires g t c = λ κs l. (omega (arith, c.decreases), (l, (c.requires.above, g.met.W.Writer.laws.less c.requires.room (omega arith))))

pub write_difference-copy-requires : goal.write_difference-copy-requires
write_difference-copy-requires g t c = can_copy g.met.W.Writer.laws c.write_derivative.ensures c.requires.below.expression c.requires.room (omega arith)

pub write_difference-over-requires : goal.write_difference-over-requires
write_difference-over-requires g t c =
    let L = g.met.W.Writer.laws in
    gather L (added L (λ v. v) c.write_derivative.ensures c.requires.below.expression c.copy.ensures) refl c.used-begin.ensures.value refl c.requires.room (omega arith)

pub write_difference-copy-requires-2 : goal.write_difference-copy-requires-2
write_difference-copy-requires-2 g t c =
    let L = g.met.W.Writer.laws in
    can_copy L (c.over.ensures _ _ _ (added L (λ v. v) c.write_derivative.ensures c.requires.below.expression c.copy.ensures) refl) c.requires.above.expression c.requires.room (omega arith)

pub write_difference-write_derivative-requires-2 : goal.write_difference-write_derivative-requires-2
write_difference-write_derivative-requires-2 g t c =
    let L = g.met.W.Writer.laws in
    let left = c.over.ensures _ _ _ (added L (λ v. v) c.write_derivative.ensures c.requires.below.expression c.copy.ensures) refl in
    let both = added L (λ v. v) left c.requires.above.expression c.copy-2.ensures in
    λ κs l. (omega (arith, ap nodes ((L.keeps both).same c.args.divisor c.requires.below.expression), c.decreases), (l, (still L both c.requires.below, room_for L (derivative (name_of c.args.name)) both c.requires.below.expression c.requires.room (omega arith))))

pub write_difference-over-requires-2 : goal.write_difference-over-requires-2
write_difference-over-requires-2 g t c =
    let L = g.met.W.Writer.laws in
    let left = c.over.ensures _ _ _ (added L (λ v. v) c.write_derivative.ensures c.requires.below.expression c.copy.ensures) refl in
    let copied = written_as L c.copy-2.ensures (ap one ((L.keeps left).same c.args.dividend c.requires.above.expression)) in
    gather_behind L left (added_behind L (derivative (name_of c.args.name)) left copied c.requires.below.expression c.write_derivative-2.ensures) refl c.used-middle.ensures.value refl c.requires.room (omega arith)

pub write_difference-over-requires-3 : goal.write_difference-over-requires-3
write_difference-over-requires-3 g t c =
    let L = g.met.W.Writer.laws in
    let left = c.over.ensures _ _ _ (added L (λ v. v) c.write_derivative.ensures c.requires.below.expression c.copy.ensures) refl in
    let copied = written_as L c.copy-2.ensures (ap one ((L.keeps left).same c.args.dividend c.requires.above.expression)) in
    let right = c.over-2.ensures _ _ _ (added_behind L (derivative (name_of c.args.name)) left copied c.requires.below.expression c.write_derivative-2.ensures) refl in
    gather L (L.joined left right) refl c.used-begin.ensures.value refl c.requires.room (omega arith)

pub write_difference-returns : goal.write_difference-returns
write_difference-returns g t c =
    let L = g.met.W.Writer.laws in
    let left = c.over.ensures _ _ _ (added L (λ v. v) c.write_derivative.ensures c.requires.below.expression c.copy.ensures) refl in
    let copied = written_as L c.copy-2.ensures (ap one ((L.keeps left).same c.args.dividend c.requires.above.expression)) in
    let right = c.over-2.ensures _ _ _ (added_behind L (derivative (name_of c.args.name)) left copied c.requires.below.expression c.write_derivative-2.ensures) refl in
    c.over-3.ensures _ _ _ (L.joined left right) refl

-- ---- write_power

pub write_power-literal_exponent-number-requires-clause-derivable : goal.write_power-literal_exponent-number-requires-clause-derivable
write_power-literal_exponent-number-requires-clause-derivable g t c =
    exponent_in (name_of c.args.name) (tree_of c.args.tree c.args.pool.now) c.requires.holds.kind c.requires.holds.held c.requires.tree.derivable c.child_of-exponent.ensures.plain

pub write_power-number-requires : goal.write_power-number-requires
write_power-number-requires g t c =
    let n = c.literal_exponent-number in
    let rule = zero_power (name_of c.args.name)
    (tree_of c.args.tree c.args.pool.now) n.result c.requires.holds.kind c.requires.holds.held c.child_of-base.ensures.plain c.child_of-exponent.ensures.plain n.ensures.value n.ensures.small (sym c.is_zero.ensures ∙ c.if-is_zero.true) in
    record { stands = c.requires.tree.stands; fits = search rules; room = g.met.W.Writer.laws.less c.requires.room (omega (arith, ap size rule)) }

pub write_power-returns-then-is_zero : goal.write_power-returns-then-is_zero
write_power-returns-then-is_zero g t c =
    let n = c.literal_exponent-number in
    let rule = zero_power (name_of c.args.name)
    (tree_of c.args.tree c.args.pool.now) n.result c.requires.holds.kind c.requires.holds.held c.child_of-base.ensures.plain c.child_of-exponent.ensures.plain n.ensures.value n.ensures.small (sym c.is_zero.ensures ∙ c.if-is_zero.true) in
    written_as g.met.W.Writer.laws c.number.ensures (ap one (sym rule))

pub write_power-write_derivative-requires : goal.write_power-write_derivative-requires
write_power-write_derivative-requires g t c =
    let x = name_of c.args.name in
    let u = tree_of c.args.tree c.args.pool.now in
    let n = c.literal_exponent-number in
    let rule = first_power x u n.result c.requires.holds.kind c.requires.holds.held c.child_of-base.ensures.plain c.child_of-exponent.ensures.plain n.ensures.value n.ensures.small
    (sym c.is_one.ensures ∙ c.if-is_one.true) in
    let k = child_in {x = x} 0 u (omega (arith, base_and_exponent u c.requires.holds.kind)) c.requires.tree.derivable c.child_of-base.ensures.plain in
    λ κs l. (omega (arith, k.smaller, c.decreases), (l, (child_ready c.requires.tree.stands c.child_of-base.ensures.expression k, g.met.W.Writer.laws.less c.requires.room (omega (arith, ap size rule)))))

pub write_power-returns-then-is_one : goal.write_power-returns-then-is_one
write_power-returns-then-is_one g t c =
    let n = c.literal_exponent-number in
    let rule = first_power (name_of c.args.name)
    (tree_of c.args.tree c.args.pool.now) n.result c.requires.holds.kind c.requires.holds.held c.child_of-base.ensures.plain c.child_of-exponent.ensures.plain n.ensures.value n.ensures.small (sym c.is_one.ensures ∙ c.if-is_one.true) in
    written_as g.met.W.Writer.laws c.write_derivative.ensures (ap one (sym rule))

pub write_power-write_lowered-requires : goal.write_power-write_lowered-requires
write_power-write_lowered-requires g t c =
    let x = name_of c.args.name in
    let u = tree_of c.args.tree c.args.pool.now in
    let n = c.literal_exponent-number in
    let rule = lowered_told x u n.result c.requires.holds.kind c.requires.holds.held c.child_of-base.ensures.plain c.child_of-exponent.ensures.plain n.ensures.value n.ensures.small
    (sym c.is_zero.ensures ∙ c.if-is_zero.false) (sym c.is_one.ensures ∙ c.if-is_one.false) in
    let k = child_in {x = x} 0 u (omega (arith, base_and_exponent u c.requires.holds.kind)) c.requires.tree.derivable c.child_of-base.ensures.plain in
    λ κs l. (omega (arith, k.smaller, c.decreases), (l, (child_ready c.requires.tree.stands c.child_of-base.ensures.expression k, (told_small n.result n.ensures.small, g.met.W.Writer.laws.less c.requires.room (omega (arith, ap size rule))))))

pub write_power-returns : goal.write_power-returns
write_power-returns g t c =
    let n = c.literal_exponent-number in
    let rule = lowered_told (name_of c.args.name)
    (tree_of c.args.tree c.args.pool.now) n.result c.requires.holds.kind c.requires.holds.held c.child_of-base.ensures.plain c.child_of-exponent.ensures.plain n.ensures.value n.ensures.small (sym c.is_zero.ensures ∙ c.if-is_zero.false) (sym c.is_one.ensures ∙ c.if-is_one.false) in
    written_as g.met.W.Writer.laws c.write_lowered.ensures (ap one (sym rule))

-- ---- write_lowered

pub write_lowered-number-requires : goal.write_lowered-number-requires
write_lowered-number-requires g t c = record {
  stands = c.requires.base.stands;
  fits = told_fits c.args.number c.requires.small;
  room = g.met.W.Writer.laws.less c.requires.room (omega (arith, ap (λ z. size (num (whole_fraction z))) (told c.args.number (small_fits c.args.number c.requires.small))));
}

pub write_lowered-write_power_of-requires : goal.write_lowered-write_power_of-requires
write_lowered-write_power_of-requires g t c =
    let L = g.met.W.Writer.laws in
    let k = L.keeps c.number.ensures in
    record {
      stands = k.stands;
      expression = k.expressions c.args.base c.requires.base.expression;
      fits = told_less_fits c.args.number c.requires.small;
      room = L.room c.number.ensures c.requires.room
          (omega (arith, ap (λ z. size (num (whole_fraction z))) (told c.args.number (small_fits c.args.number c.requires.small)), ap (λ z. size (num (whole_fraction z))) (told_less c.args.number c.requires.small), ap size (k.same c.args.base c.requires.base.expression)));
    }

pub write_lowered-write_derivative-requires : goal.write_lowered-write_derivative-requires
write_lowered-write_derivative-requires g t c =
    let L = g.met.W.Writer.laws in
    let raised = added L (λ v. power v (num (whole_fraction (told_less_of c.args.number)))) c.number.ensures c.requires.base.expression c.write_power_of.ensures in
    λ κs l. (omega (arith, ap nodes ((L.keeps raised).same c.args.base c.requires.base.expression), c.decreases), (l, (still L raised c.requires.base, room_for L (derivative (name_of c.args.name)) raised c.requires.base.expression c.requires.room (omega (arith, ap size (lowered_as c.args.number c.requires.small (tree_of c.args.base c.args.pool.now) (derivative (name_of c.args.name) (tree_of c.args.base c.args.pool.now))))))))

pub write_lowered-over-requires : goal.write_lowered-over-requires
write_lowered-over-requires g t c =
    let L = g.met.W.Writer.laws in
    let raised = added L (λ v. power v (num (whole_fraction (told_less_of c.args.number)))) c.number.ensures c.requires.base.expression c.write_power_of.ensures in
    let all = added L (derivative (name_of c.args.name)) raised c.requires.base.expression c.write_derivative.ensures in
    gather L all refl c.used-begin.ensures.value refl c.requires.room
    (omega (arith, ap size (lowered_as c.args.number c.requires.small (tree_of c.args.base c.args.pool.now) (derivative (name_of c.args.name) (tree_of c.args.base c.args.pool.now)))))

pub write_lowered-returns : goal.write_lowered-returns
write_lowered-returns g t c =
    let L = g.met.W.Writer.laws in
    let raised = added L (λ v. power v (num (whole_fraction (told_less_of c.args.number)))) c.number.ensures c.requires.base.expression c.write_power_of.ensures in
    let all = added L (derivative (name_of c.args.name)) raised c.requires.base.expression c.write_derivative.ensures in
    written_as L (c.over.ensures _ _ _ all refl) (ap one (lowered_as c.args.number c.requires.small _ _))

-- ---- write_root

pub write_root-write_derivative-requires : goal.write_root-write_derivative-requires
write_root-write_derivative-requires g t c =
    let x = name_of c.args.name in
    let u = tree_of c.args.tree c.args.pool.now in
    let k = child_in {x = x} 0 u (omega (arith, one_argument u c.requires.holds.kind)) c.requires.tree.derivable c.child_of-argument.ensures.plain in
    λ κs l. (omega (arith, k.smaller, c.decreases), (l, (child_ready c.requires.tree.stands c.child_of-argument.ensures.expression k, g.met.W.Writer.laws.less c.requires.room (omega (arith, ap size (root_slope x u c.requires.holds.kind c.requires.holds.held c.child_of-argument.ensures.plain))))))

pub write_root-number-requires : goal.write_root-number-requires
write_root-number-requires g t c =
    let L = g.met.W.Writer.laws in
    let rule = root_slope (name_of c.args.name) (tree_of c.args.tree c.args.pool.now) c.requires.holds.kind c.requires.holds.held c.child_of-argument.ensures.plain in
    record { stands = (L.keeps c.write_derivative.ensures).stands; fits = search rules; room = L.room c.write_derivative.ensures c.requires.room (omega (arith, ap size rule)) }

pub write_root-copy-requires : goal.write_root-copy-requires
write_root-copy-requires g t c =
    let L = g.met.W.Writer.laws in
    let rule = root_slope (name_of c.args.name) (tree_of c.args.tree c.args.pool.now) c.requires.holds.kind c.requires.holds.held c.child_of-argument.ensures.plain in
    can_copy L (L.joined c.write_derivative.ensures c.number.ensures) c.requires.tree.expression c.requires.room (omega (arith, ap size rule))

pub write_root-over-requires : goal.write_root-over-requires
write_root-over-requires g t c =
    let L = g.met.W.Writer.laws in
    let rule = root_slope (name_of c.args.name) (tree_of c.args.tree c.args.pool.now) c.requires.holds.kind c.requires.holds.held c.child_of-argument.ensures.plain in
    gather_behind L c.write_derivative.ensures
    (added_behind L (λ v. v) c.write_derivative.ensures c.number.ensures c.requires.tree.expression c.copy.ensures) refl c.used-middle.ensures.value refl c.requires.room
    (omega (arith, ap size rule))

pub write_root-over-requires-2 : goal.write_root-over-requires-2
write_root-over-requires-2 g t c =
    let L = g.met.W.Writer.laws in
    let rule = root_slope (name_of c.args.name) (tree_of c.args.tree c.args.pool.now) c.requires.holds.kind c.requires.holds.held c.child_of-argument.ensures.plain in
    let below = c.over.ensures _ _ _ (added_behind L (λ v. v) c.write_derivative.ensures c.number.ensures c.requires.tree.expression c.copy.ensures) refl in
    gather L (L.joined c.write_derivative.ensures below) refl c.used-begin.ensures.value refl c.requires.room (omega (arith, ap size rule))

pub write_root-returns : goal.write_root-returns
write_root-returns g t c =
    let L = g.met.W.Writer.laws in
    let rule = root_slope (name_of c.args.name) (tree_of c.args.tree c.args.pool.now) c.requires.holds.kind c.requires.holds.held c.child_of-argument.ensures.plain in
    let below = c.over.ensures _ _ _ (added_behind L (λ v. v) c.write_derivative.ensures c.number.ensures c.requires.tree.expression c.copy.ensures) refl in
    written_as L (c.over-2.ensures _ _ _ (L.joined c.write_derivative.ensures below) refl) (ap one (sym rule))
