use Rattle.expand_forms.proofs.{Shared.{sym, ◌≡◌, ◌<◌, ◌≤◌, ℕ, zero, suc, List, length, get_or, refl, ap, subst, arith, length-map, name_of, factors_of, AreRead}, PlacedTerms.{IsListedTo}}
use Rattle.expand_forms.proofs.{PlacedTerms.{listed_none, listed_all, listed_push, listed_skip, small_told, whole_read}, placing.list_packed.Goals.{then-exponent-ne0, else-exponent-ne0}}
use Rattle.expansions.proofs.PackedOrders.{packed_length}
use Rattle.expand_forms.specs.declared.factors.Factor.{Factor as Read}
use Rattle.expansions.specs.Named.{names_of}
use Rattle.expand_forms.proofs.placing.list_packed.Goals as goal

pub loop-place-init : goal.loop-place-init
loop-place-init c = subst (λ (xs : List Read). IsListedTo (names_of c.args.names.now) c.exponents_of-exponents.result 0 xs) (sym c.clear.ensures)
    (listed_none (names_of c.args.names.now) c.exponents_of-exponents.result)

one_of : (n : ℕ) → (n ≡ 0 → ⊥) → 1 ≤ n
one_of zero h = absurd (h refl)
one_of (suc n) h = omega arith

pub loop-place-preserved : goal.loop-place-preserved
loop-place-preserved c =
    let ns = c.args.names.now in
    let es = c.exponents_of-exponents.result in
    let i = c.loop-place.place in
    let some : i < length ns = c.loop-place-test.true in
    let within : i < length es = omega (arith, some, c.requires.names, ap length c.exponents_of-exponents.ensures, packed_length c.args.monomial) in
    elim c.if-exponent-ne0.branch [
      | then-exponent-ne0 w ↦
          let e = get_or es i 0 in
          rw (w.factors-is, w.push.ensures.items)
          (listed_push ns es c.index-names-place.result _ c.loop-place.invariant some within w.if-exponent-ne0.true
          (record {
            name = ap name_of c.index-names-place.is;
            exponent = whole_read w.whole.result e _ w.whole.ensures
                (small_told w.from.result e w.from.ensures c.index-names-place.element_fits.fits);
            positive = one_of e w.if-exponent-ne0.true;
          }))
      | else-exponent-ne0 w ↦ rw w.factors-is (listed_skip ns es c.index-names-place.result c.loop-place.invariant some within w.if-exponent-ne0.false)
    ]

pub returns-clause-read : goal.returns-clause-read
returns-clause-read c =
    subst (λ (es : List ℕ). AreRead c.loop-place.factors.items (factors_of (names_of c.args.names.now) es)) c.exponents_of-exponents.ensures
    (listed_all c.loop-place.invariant (omega (arith, c.loop-place-test.false, length-map c.args.names.now name_of)))
