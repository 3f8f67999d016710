-- Small laws that several crates above cite.
use Rattle.rational128.proofs.{Shared.{◌≡◌, ℤ, true, sym, ap, ◌∙◌, to_z, of_z, w128, is_zero_fraction, int_is_zero, Rat, ratio_of, value_of, num}, LowestTerms.{ratio_parts}, Signed.{told}}

pub zero_rational : (q : Rat) (n : ℤ) → n ≡ (ratio_of q).num → of_z w128 n ≡ 0 → is_zero_fraction (value_of q) ≡ true
zero_rational q n e h = ap int_is_zero ((ratio_parts q).num ∙ sym (told q.num q.fits) ∙ ap (λ z. to_z w128 (of_z w128 z)) (sym e) ∙ ap (to_z w128) h)
