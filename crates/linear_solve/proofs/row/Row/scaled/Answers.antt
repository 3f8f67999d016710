use Rattle.linear_solve.proofs.{Shared.{◌<◌, length, Ok, Err, sym, err_from_is_err_and, value_of, product_of, entries_of, misfit_of}, Entries.{longer, mul_told, row_more, row_stops}}
use Rattle.linear_solve.proofs.Places.{below_end}
use Rattle.linear_solve.proofs.row.Row.scaled.Goals as goal

pub returns-in_err-product-clause-overflow : goal.returns-in_err-product-clause-overflow
returns-in_err-product-clause-overflow g c =
    let p = err_from_is_err_and c.from_residual.result c.from_residual.ensures.1 in
    let e = c.in_err-product.field-0.0 in
    let l : c.loop-at.at < length (entries_of c.args.self.now) = below_end c.len-at-end.ensures.value c.loop-at-test.true in
    rw (p.1, p.2) (row_stops (λ e. product_of e (value_of c.args.factor)) (entries_of c.args.self.now) c.loop-at.at (entries_of c.loop-at.products) (value_of c.get.result) (misfit_of e)
    l c.get.ensures c.loop-at.invariant.made (sym (mul_told c.get.result c.args.factor (Err e) c.in_err-product.ensures.product c.in_err-product.ensures.refused c.in_err-product.ensures.named)))

pub loop-at-preserved : goal.loop-at-preserved
loop-at-preserved g c =
    let l : c.loop-at.at < length (entries_of c.args.self.now) = below_end c.len-at-end.ensures.value c.loop-at-test.true in
    record {
      made = rw c.push.ensures
          (row_more (λ e. product_of e (value_of c.args.factor)) (entries_of c.args.self.now) c.loop-at.at (entries_of c.loop-at.products) (value_of c.get.result) (value_of c.in_ok-product.product)
          l c.get.ensures c.loop-at.invariant.made
          (sym (mul_told c.get.result c.args.factor (Ok c.in_ok-product.product) c.in_ok-product.ensures.product c.in_ok-product.ensures.refused c.in_ok-product.ensures.named)));
      long = longer _ _ _ c.loop-at.at c.push.ensures c.loop-at.invariant.long;
    }
