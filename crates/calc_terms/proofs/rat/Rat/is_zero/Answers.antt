use Rattle.calc_terms.proofs.{Shared.{◌∙◌, ap, sym, w128, fits_signed_from_abs, to_z-of_z, int_is_zero}, ShortForm.{lowest_itself}}
use Rattle.calc_terms.proofs.rat.Rat.is_zero.Goals as goal

pub returns : goal.returns
returns c =
    let r = c.args.self in
    c.is_zero_int.ensures ∙ ap int_is_zero (to_z-of_z w128 r.num (fits_signed_from_abs w128 r.num r.fits) ∙ sym (lowest_itself r.num _ r.in_lowest_terms).0)
