use Rattle.rational128.proofs.Shared.{◌≡◌, ap, sym, ◌∙◌, rules, nat_abs, FitsSigned, w128, to_z-of_z, whole_fraction, whole_numerator}
use Rattle.rational128.proofs.powers.pow.Goals as goal

pub returns-clause-refused : goal.returns-clause-refused
returns-clause-refused c =
    let fits : FitsSigned w128 c.args.n = search rules in
    let e : nat_abs (whole_fraction c.args.n).num ≡ c.unsigned_abs.result = ap nat_abs (whole_numerator c.args.n ∙ sym (to_z-of_z w128 c.args.n fits)) ∙ sym c.unsigned_abs.ensures.value in
    rw e (search rules)
