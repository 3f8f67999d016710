use Rattle.beautify.proofs.{Shared.{◌≡◌, ◌+◌, ◌<◌, ◌∙◌, sym, ap, arith, Tree, Trees, share_room, Below, append, more, factors_below, children_of, plain, tree_at, forest, count}, Pushing.{owes_as}}
use Rattle.beautify.proofs.Resolving.{product, product_first}
use Rattle.calc_terms.proofs.SmallLaws.{no_factors as no_trees, count_append as count-append}
use Rattle.beautify.proofs.products.push_product.Goals as goal

pub push_shares-below-requires : goal.push_shares-below-requires
push_shares-below-requires c =
    let p = product (plain (tree_at c.args.product (forest c.args.pool.now))) c.requires.product c.requires.ready.showable in
    record {
      stands = c.requires.stands;
      expression = c.requires.ready.expression;
      showable = c.requires.ready.showable;
      within = omega arith;
      sharing = p.factors;
      room = omega (arith, c.requires.room, p.slots);
    }

pub push_above-requires-clause-room : goal.push_above-requires-clause-room
push_above-requires-clause-room c =
    let p = product (plain (tree_at c.args.product (forest c.args.pool.now))) c.requires.product c.requires.ready.showable in
    let s = c.push_shares-below.ensures in
    omega (arith, c.requires.room, p.slots, p.few_below, s.came, s.length, s.capacity)

pub returns-then-below-eq0-clause-length : goal.returns-then-below-eq0-clause-length
returns-then-below-eq0-clause-length c =
    let p = product (plain (tree_at c.args.product (forest c.args.pool.now))) c.requires.product c.requires.ready.showable in
    let s = c.push_shares-below.ensures in
    omega (arith, p.slots, p.few_below, s.came, s.length, c.push_above.ensures.length)

pub push_multiplied-requires : goal.push_multiplied-requires
push_multiplied-requires c =
    let p = product (plain (tree_at c.args.product (forest c.args.pool.now))) c.requires.product c.requires.ready.showable in
    let s = c.push_shares-below.ensures in
    record { room = omega (arith, c.requires.room, p.slots, p.few_below, s.came, s.length, s.capacity) }

pub push_above-requires-2-clause-room : goal.push_above-requires-2-clause-room
push_above-requires-2-clause-room c =
    let p = product (plain (tree_at c.args.product (forest c.args.pool.now))) c.requires.product c.requires.ready.showable in
    let s = c.push_shares-below.ensures in
    let m = c.push_multiplied.ensures in
    omega (arith, c.requires.room, p.slots, p.few_below, s.came, s.length, s.capacity, m.length, m.capacity)

pub push_over-requires-clause-room : goal.push_over-requires-clause-room
push_over-requires-clause-room c =
    let p = product (plain (tree_at c.args.product (forest c.args.pool.now))) c.requires.product c.requires.ready.showable in
    let s = c.push_shares-below.ensures in
    let m = c.push_multiplied.ensures in
    let above = c.push_above-2.ensures in
    omega (arith, c.requires.room, p.slots, p.few_below, s.came, s.length, s.capacity, m.length, m.capacity, above.length, above.capacity)

pub returns-clause-length : goal.returns-clause-length
returns-clause-length c =
    let p = product (plain (tree_at c.args.product (forest c.args.pool.now))) c.requires.product c.requires.ready.showable in
    let s = c.push_shares-below.ensures in
    omega (arith, p.slots, p.few_below, s.came, s.length, c.push_multiplied.ensures.length, c.push_above-2.ensures.length, c.push_over.ensures.length)

pub returns-then-below-eq0-clause-owed : goal.returns-then-below-eq0-clause-owed
returns-then-below-eq0-clause-owed c us r o =
    let t = plain (tree_at c.args.product (forest c.args.pool.now)) in
    let ts = children_of t in
    let p = product t c.requires.product c.requires.ready.showable in
    let nothing = no_trees (factors_below ts) (sym c.push_shares-below.ensures.came ∙ c.if-below-eq0.true) in
    let below = owes_as {s = r + share_room Below ts} (c.push_shares-below.ensures.owed us r o) (ap (λ (vs : Trees). append vs us) nothing) (omega arith) in
    owes_as (c.push_above.ensures.owed us _ below) (ap (λ (u : Tree). more u us) (p.whole nothing)) (omega (arith, p.bytes))

pub returns-clause-owed : goal.returns-clause-owed
returns-clause-owed c us r o =
    let f = forest c.args.pool.now in
    let t = plain (tree_at c.args.product f) in
    let ts = children_of t in
    let p = product t c.requires.product c.requires.ready.showable in
    let n : c.push_shares-below.result ≡ count (factors_below ts) = c.push_shares-below.ensures.came in
    let some : 0 < c.push_shares-below.result = omega (arith, c.if-below-eq0.false) in
    let factors = c.push_shares-below.ensures.owed us r o in
    let joined = c.push_multiplied.ensures.some f (append (factors_below ts) us) _ factors some (omega (arith, n, count-append (factors_below ts) us)) in
    let below = owes_as {s = r + share_room Below ts + 8} joined (product_first c.push_shares-below.result (factors_below ts) us n) (omega arith) in
    let above = c.push_above-2.ensures.owed _ _ below in
    owes_as (c.push_over.ensures.owed f _ _ above (omega arith)) (ap (λ (u : Tree). more u us) (p.parted (omega (arith, n, some)))) (omega (arith, p.bytes))
