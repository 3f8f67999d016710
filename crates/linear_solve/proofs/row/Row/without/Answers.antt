use Rattle.linear_solve.proofs.Shared.{◌≡◌, ◌<◌, length, Ok, Err, refl, sym, ap, ◌∙◌, err_from_is_err_and, Fraction, negative, value_of, and_then, product_of, sum_of, entry, entries_of}
use Rattle.linear_solve.proofs.{Shared.{misfit_of}, Calculations.{then_err, then_ok}, Entries.{add_told, longer, mul_told, pair_all, pair_more, pair_stops}}
use Rattle.linear_solve.proofs.Places.{below_first, below_second, past_min}
use Rattle.linear_solve.proofs.row.Row.without.Goals as goal

pub returns-in_err-removed-clause-overflow : goal.returns-in_err-removed-clause-overflow
returns-in_err-removed-clause-overflow g c =
    let p = err_from_is_err_and c.from_residual.result c.from_residual.ensures.1 in
    let e = c.in_err-removed.field-0.0 in
    let l : c.loop-at.at < length (entries_of c.args.self.now) = below_first c.min-at-end.ensures c.len.ensures.value c.len-2.ensures.value c.loop-at-test.true in
    let k : c.loop-at.at < length (entries_of c.args.other.now) = below_second c.min-at-end.ensures c.len.ensures.value c.len-2.ensures.value c.loop-at-test.true in
    let told = mul_told c.neg.result c.get.result (Err e) c.in_err-removed.ensures.product c.in_err-removed.ensures.refused c.in_err-removed.ensures.named in
    let made : product_of (negative (value_of c.args.multiple)) (value_of c.get.result) ≡ Err (misfit_of e) = ap (λ x. product_of x (value_of c.get.result)) (sym c.neg.ensures) ∙ sym told in
    rw (p.1, p.2) (pair_stops (λ (p : Fraction × Fraction). and_then (product_of (negative (value_of c.args.multiple)) p.1) (λ m. sum_of p.0 m)) (entries_of c.args.self.now) (entries_of c.args.other.now) c.loop-at.at (entries_of c.loop-at.rest) (entry c.loop-at.at (entries_of c.args.self.now)) (value_of c.get.result) (misfit_of e)
    l k refl c.get.ensures c.loop-at.invariant.made (then_err _ _ _ made))

pub returns-in_err-difference-clause-overflow : goal.returns-in_err-difference-clause-overflow
returns-in_err-difference-clause-overflow g c =
    let p = err_from_is_err_and c.from_residual-in_err-difference.result c.from_residual-in_err-difference.ensures.1 in
    let e = c.in_err-difference.field-0.0 in
    let r = c.in_ok-removed.removed in
    let l : c.loop-at.at < length (entries_of c.args.self.now) = below_first c.min-at-end.ensures c.len.ensures.value c.len-2.ensures.value c.loop-at-test.true in
    let k : c.loop-at.at < length (entries_of c.args.other.now) = below_second c.min-at-end.ensures c.len.ensures.value c.len-2.ensures.value c.loop-at-test.true in
    let told = mul_told c.neg.result c.get.result (Ok r) c.in_ok-removed.ensures.product c.in_ok-removed.ensures.refused c.in_ok-removed.ensures.named in
    let made : product_of (negative (value_of c.args.multiple)) (value_of c.get.result) ≡ Ok (value_of r) = ap (λ x. product_of x (value_of c.get.result)) (sym c.neg.ensures) ∙ sym told in
    rw (p.1, p.2) (pair_stops (λ (p : Fraction × Fraction). and_then (product_of (negative (value_of c.args.multiple)) p.1) (λ m. sum_of p.0 m)) (entries_of c.args.self.now) (entries_of c.args.other.now) c.loop-at.at (entries_of c.loop-at.rest) (value_of c.get-in-loop-at.result) (value_of c.get.result) (misfit_of e)
    l k c.get-in-loop-at.ensures c.get.ensures c.loop-at.invariant.made
    (then_ok _ _ _ made ∙ sym (add_told c.get-in-loop-at.result r (Err e) c.in_err-difference.ensures.sum c.in_err-difference.ensures.refused c.in_err-difference.ensures.named)))

pub loop-at-preserved : goal.loop-at-preserved
loop-at-preserved g c =
    let r = c.in_ok-removed.removed in
    let l : c.loop-at.at < length (entries_of c.args.self.now) = below_first c.min-at-end.ensures c.len.ensures.value c.len-2.ensures.value c.loop-at-test.true in
    let k : c.loop-at.at < length (entries_of c.args.other.now) = below_second c.min-at-end.ensures c.len.ensures.value c.len-2.ensures.value c.loop-at-test.true in
    let told = mul_told c.neg.result c.get.result (Ok r) c.in_ok-removed.ensures.product c.in_ok-removed.ensures.refused c.in_ok-removed.ensures.named in
    let made : product_of (negative (value_of c.args.multiple)) (value_of c.get.result) ≡ Ok (value_of r) = ap (λ x. product_of x (value_of c.get.result)) (sym c.neg.ensures) ∙ sym told in
    record {
      made = rw c.push.ensures (pair_more (λ (p : Fraction × Fraction). and_then (product_of (negative (value_of c.args.multiple)) p.1) (λ m. sum_of p.0 m)) (entries_of c.args.self.now) (entries_of c.args.other.now) c.loop-at.at (entries_of c.loop-at.rest) (value_of c.get-in-loop-at.result) (value_of c.get.result) (value_of c.in_ok-difference.difference)
          l k c.get-in-loop-at.ensures c.get.ensures c.loop-at.invariant.made
          (then_ok _ _ _ made ∙ sym
          (add_told c.get-in-loop-at.result r (Ok c.in_ok-difference.difference) c.in_ok-difference.ensures.sum c.in_ok-difference.ensures.refused c.in_ok-difference.ensures.named)));
      long = longer _ _ _ c.loop-at.at c.push.ensures c.loop-at.invariant.long;
    }

pub returns-clause-ok : goal.returns-clause-ok
returns-clause-ok g c =
    pair_all (λ (p : Fraction × Fraction). and_then (product_of (negative (value_of c.args.multiple)) p.1) (λ m. sum_of p.0 m)) (entries_of c.args.self.now)
    (entries_of c.args.other.now) c.loop-at.at (entries_of c.loop-at.rest)
    (past_min c.min-at-end.ensures c.len.ensures.value c.len-2.ensures.value c.loop-at-test.false) c.loop-at.invariant.made
