use Rattle.std.proofs.Common.{◌+◌, ◌-◌, ◌<◌, ◌≡◌, ◌*ℤ◌, ℕ, ℤ, pos, get_or, length, length-append, sym, ap, ◌∙◌, arith}
use Rattle.equation_roots.specs.{Told.{wholes_of}, Wholes.{read}}
use Rattle.equation_roots.proofs.{Dividing.{read_length, started_done, started_fails, started_more, started_stops}, Wide.{fits_of, same_bits, stopped_in, told, went_in}}
use Rattle.equation_roots.proofs.division.quotient.Goals as goal
use mir.Syntax.{w128}
use mir.Val.{of_z, to_z}

pub returns-in-None-clause-exact : goal.returns-in-None-clause-exact
returns-in-None-clause-exact c =
    let r = read c.args.backward (wholes_of c.args.p.now) in
    let l = to_z w128 c.loop-at.last-bits in
    let s = rw (told c.args.a c.requires.first, told c.args.b c.requires.second) at c.loop-at.invariant.started in
    let n : c.loop-at.at + 1 < length r = omega (arith, read_length c.args.backward (wholes_of c.args.p.now), c.len-degree.ensures.value, c.requires.some) in
    started_stops c.args.a c.args.b r (wholes_of c.loop-at.quotient) l c.loop-at.at s n
    (λ x e. stopped_in c.in_ok-next.field-0 c.entry.result c.args.a l c.args.b c.entry.ensures.fits c.requires.first c.requires.second c.in_ok-next.ensures.exact c.in-None.is x (e ∙ sym c.entry.ensures.value))

pub loop-at-preserved : goal.loop-at-preserved
loop-at-preserved c =
    let r = read c.args.backward (wholes_of c.args.p.now) in
    let l = to_z w128 c.loop-at.last-bits in
    let s = rw (told c.args.a c.requires.first, told c.args.b c.requires.second) at c.loop-at.invariant.started in
    let n : c.loop-at.at + 1 < length r = omega (arith, read_length c.args.backward (wholes_of c.args.p.now), c.len-degree.ensures.value, c.requires.some) in
    let f = fits_of c.in_ok-next.field-0 c.in-Some.next c.in_ok-next.ensures.fits c.in-Some.is in
    let e = went_in c.in_ok-next.field-0 c.entry.result c.args.a l c.args.b c.in-Some.next c.entry.ensures.fits c.requires.first c.requires.second c.in_ok-next.ensures.exact c.in-Some.is in
    record {
      started =
          rw (told c.args.a c.requires.first, told c.args.b c.requires.second, c.push.ensures, told c.in-Some.next f)
          (started_more c.args.a c.args.b r (wholes_of c.loop-at.quotient) l c.loop-at.at s c.in-Some.next c.requires.not_zero n (e ∙ c.entry.ensures.value));
      long = ap length c.push.ensures ∙ length-append (wholes_of c.loop-at.quotient) _ ∙ ap (λ (m : ℕ). m + 1) c.loop-at.invariant.long;
      fits = rw (told c.in-Some.next f) f;
    }

pub returns-then-branch-entry-clause-exact : goal.returns-then-branch-entry-clause-exact
returns-then-branch-entry-clause-exact c =
    let r = read c.args.backward (wholes_of c.args.p.now) in
    let l = to_z w128 c.loop-at.last-bits in
    let s = rw (told c.args.a c.requires.first, told c.args.b c.requires.second) at c.loop-at.invariant.started in
    let n : c.loop-at.at + 1 ≡ length r = omega (arith, read_length c.args.backward (wholes_of c.args.p.now), c.len-degree.ensures.value, c.requires.some) in
    let k : c.len-degree.result - 1 ≡ c.loop-at.at = omega (arith, c.len-degree.ensures.value, c.requires.some) in
    let v = ap (λ (z : ℤ). z *ℤ l) (sym (told c.args.a c.requires.first)) ∙ sym c.in_ok-product.ensures.value in
    let w = c.entry-2.ensures.value ∙ ap (λ (m : ℕ). get_or r m (pos 0)) k in
    started_done c.args.a c.args.b r (wholes_of c.loop-at.quotient) l c.loop-at.at s n (v ∙ same_bits c.in_ok-product.field-0 c.entry-2.result c.in_ok-product.ensures.fits c.entry-2.ensures.fits c.if-branch-entry.true ∙ w)

pub returns-else-branch-entry-clause-exact : goal.returns-else-branch-entry-clause-exact
returns-else-branch-entry-clause-exact c =
    let r = read c.args.backward (wholes_of c.args.p.now) in
    let l = to_z w128 c.loop-at.last-bits in
    let s = rw (told c.args.a c.requires.first, told c.args.b c.requires.second) at c.loop-at.invariant.started in
    let n : c.loop-at.at + 1 ≡ length r = omega (arith, read_length c.args.backward (wholes_of c.args.p.now), c.len-degree.ensures.value, c.requires.some) in
    let k : c.len-degree.result - 1 ≡ c.loop-at.at = omega (arith, c.len-degree.ensures.value, c.requires.some) in
    let v = ap (λ (z : ℤ). z *ℤ l) (sym (told c.args.a c.requires.first)) ∙ sym c.in_ok-product.ensures.value in
    let w = c.entry-2.ensures.value ∙ ap (λ (m : ℕ). get_or r m (pos 0)) k in
    started_fails c.args.a c.args.b r (wholes_of c.loop-at.quotient) l c.loop-at.at s n (λ e. c.if-branch-entry.false (ap (of_z w128) (sym v ∙ e ∙ sym w)))
