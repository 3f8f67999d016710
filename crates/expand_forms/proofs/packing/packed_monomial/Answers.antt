use Rattle.expand_forms.proofs.Shared.{◌≡◌, ◌<◌, ◌≤◌, ℕ, suc, ◌+◌, ◌-◌, ◌*◌, ◌^◌, length, subst, sym, ap, ◌∙◌, arith, name_of, forest, IsTaken, names_length}
use Rattle.expand_forms.proofs.PackedTerms.{name_at, overflow, packed_all, packed_more, packed_none}
use Rattle.expansions.specs.Named.{names_of}
use Rattle.expand_forms.proofs.packing.packed_monomial.Goals as goal

pub loop-name-init : goal.loop-name-init
loop-name-init c = λ m h n. let a = c.factor_nodes-nodes.ensures m h in packed_none n (record { monomial = h.monomial; begins = c.next_read-next.ensures.factor m a; ahead = c.next_read-next.ensures.ahead m a })

pub overflow_mul-packed : goal.overflow_mul-packed
overflow_mul-packed c =
    let (m, h, n) = c.requires.monomial in
    let p = c.loop-name.invariant m h n in
    record { fits = omega (arith, overflow c.loop-name.name-index c.loop-name.packed 0 (omega (arith, c.loop-name-test.true, c.requires.few)) p.below (omega arith)) }

pub overflow_add-packed : goal.overflow_add-packed
overflow_add-packed c =
    let (m, h, n) = c.requires.monomial in
    let p = c.loop-name.invariant m h n in
    let small : c.from.result < 256 = omega (arith, c.from.ensures) in
    record { fits = overflow c.loop-name.name-index c.loop-name.packed c.from.result (omega (arith, c.loop-name-test.true, c.requires.few)) p.below small }

pub loop-name-preserved : goal.loop-name-preserved
loop-name-preserved c = λ m h n.
    let p = c.loop-name.invariant m h n in
    let small : c.from.result < 256 = omega (arith, c.from.ensures) in
    let more : c.loop-name.name-index + 1 ≡ suc c.loop-name.name-index = omega arith in
    let within : c.loop-name.name-index < length (names_of c.args.names.now) = omega (arith, names_length c.args.names.now, c.loop-name-test.true) in
    let base = forest c.args.pool.now in
    packed_more (name_of c.name-item.result) c.from.result (c.loop-name.name-index + 1) p c.requires.names within
    (name_at c.args.names.now c.loop-name.name-index c.name-item.result c.loop-name-test.true c.name-item.is) small
    (subst (λ (e : ℕ). IsTaken p.rest (name_of c.name-item.result) e c.take_exponent.new.next c.take_exponent.new.nodes base) (sym c.from.ensures)
    (c.in_ok-exponent.ensures.taken p.rest p.coming)) more

pub returns : goal.returns
returns c =
    let many : c.loop-name.name-index ≡ length (names_of c.args.names.now) = omega (arith, names_length c.args.names.now, c.loop-name-test.false, c.loop-name.auto.name-index-end) in
    let few : length (names_of c.args.names.now) ≤ 8 = omega (arith, names_length c.args.names.now, c.requires.few) in
    let shift = c.shifted.ensures ∙ ap (λ (k : ℕ). c.loop-name.packed * 256 ^ (8 - k)) (sym (names_length c.args.names.now) ∙ sym many) in
    let (m, h, n) = c.requires.monomial in
    record { monomial = λ k x y. (packed_all (c.loop-name.invariant k x y) many few shift).monomial; names = (packed_all (c.loop-name.invariant m h n) many few shift).names }
