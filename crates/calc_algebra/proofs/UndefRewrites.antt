-- Trees that have no meaning: a part without one, zero to a power of at most 0, a division by zero, the root of a negative rational.
use Rattle.calc_algebra.proofs.Shared.{arith, ◌≡◌, ℕ, pos, neg_ℤ, true, Fraction, zero_fraction, whole_fraction, int_is_negative, Assignment, IsAssignment, Means, Same, Surd, Tree, num, undef, power}
use Rattle.calc_algebra.proofs.{Shared.{[], root, IsPart}, MeaningRewrites.{KeepsMeanings, KeepsMeanings-refl}, NumberRewrites.{root_parts}, PowerLaws.{no_power_of_zero}, PowerRewrites.{power_parts}}
use Rattle.calc_algebra.proofs.{SquareClassLaws.{Same-trans}, TermLaws.{zero_term}, BadLaws.{no_root, part_means}}

-- a tree with a part that has no meaning has none
pub undefined_part : (p t : Tree) → IsPart p t → KeepsMeanings p undef → KeepsMeanings t undef
undefined_part p t h k = grind (arith, part_means)

-- a tree with Undef in it has no meaning
pub undef_part : (t : Tree) → IsPart undef t → KeepsMeanings t undef
undef_part t h = undefined_part undef t h (KeepsMeanings-refl undef)

zero_base : (b : Tree) → KeepsMeanings b (num zero_fraction) → (f : Assignment) → IsAssignment f → (w : Surd) → Means b f w → Same w []
zero_base b h f once w m = Same-trans (h.means f once w m) (zero_term 1)

-- zero to a whole power of at most 0
pub zero_to_nothing : (b : Tree) (n : ℕ) → KeepsMeanings b (num zero_fraction) → KeepsMeanings (power b (num (whole_fraction (neg_ℤ (pos n))))) undef
zero_to_nothing b n h = record {
  means = λ f once v m.
      let p = power_parts f b (neg_ℤ (pos n)) v m in
      no_power_of_zero n p.base v (zero_base b h f once p.base p.base_means) p.is;
}

-- the root of a negative rational
pub root_of_negative : (q : Fraction) → int_is_negative q.num ≡ true → KeepsMeanings (root (num q)) undef
root_of_negative q h = record { means = λ f once v m. no_root q.num q.den v h (root_parts f q v m) }
