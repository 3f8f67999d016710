use Rattle.calc_terms.proofs.{Shared.{◌≡◌, ◌∙◌, ap, nat_abs, sym, Bool, ◌&&◌, ◌==◌, w128, fits_signed_from_abs, to_z-of_z, int_is_one, value_of, Rat, is_one_fraction}, ShortForm.{one_by, whole_test}}
use Rattle.calc_terms.proofs.rat.Rat.is_one.Goals as goal
use Rattle.calc_terms.proofs.rat.Rat.is_one.Goals.{After-is_one_int}

first : (c : After-is_one_int) → c.is_one_int.result ≡ int_is_one c.args.self.num
first c = c.is_one_int.ensures ∙ ap int_is_one (to_z-of_z w128 c.args.self.num (fits_signed_from_abs w128 c.args.self.num c.args.self.fits))

pub returns-then-is_one_int : goal.returns-then-is_one_int
returns-then-is_one_int c =
    let r = c.args.self in
    let one = sym (first (goal.at.returns-then-is_one_int c).After-is_one_int) ∙ c.if-is_one_int.true in
    whole_test _ _ c.is_whole.ensures ∙ sym (one_by r.num (nat_abs r.den) r.in_lowest_terms ∙ ap (λ (b : Bool). b && (nat_abs r.den == 1)) one)

pub returns-else-is_one_int : goal.returns-else-is_one_int
returns-else-is_one_int c =
    let r = c.args.self in
    let none = sym (first (goal.at.returns-else-is_one_int c).After-is_one_int) ∙ c.if-is_one_int.false in
    c.if-is_one_int.false ∙ sym (one_by r.num (nat_abs r.den) r.in_lowest_terms ∙ ap (λ (b : Bool). b && (nat_abs r.den == 1)) none)
