-- Which operation does not fit where the terms of a sum are collected.
use Rattle.std.specs.Prelude.{◌≡◌, ◌≤◌, true, false}
use Rattle.calc_terms.specs.{Fits.{add_op}, Trees.{Tree, num, Trees, more, append, count}}
use Rattle.calc_algebra.specs.{Numbers.{is_number, value}, Reduced.{part_of}}
use Rattle.calc_measures.specs.{PlainTrees.{IsPlainOverflow}, PlainValues.{calculated}}
use Rattle.coefficients.specs.{Coefficients.{coefficient_of}, Overflows.{NamesPut}}
use Rattle.number_forms.specs.{Answers.{IsNumberOf}, Overflows.{SumOverflows}}
use Rattle.rational128.specs.declared.overflow.Overflow.{Overflow}
use Rattle.sum_reduce.specs.Collected.{AreLike, Collects, sum_of_coefficients}

-- where two Numbers are added: of two rationals it is their sum, and of others that of two terms
abbrev pub NamesSum : Tree → Tree → Overflow → Type 0
NamesSum (num p) (num q) o = IsPlainOverflow (calculated add_op p q) o
NamesSum a b o = SumOverflows (value a) (value b) o

-- why terms cannot be collected: two Numbers cannot be added; nor the coefficient of some terms with one part and that of one
-- more of them; or the coefficient of all of them, which is a rational, does not go into a part that is a sum
pub data Hinders (o : Overflow) : Trees → Type 0 where
  hinders_numbers : (a b : Tree) (ts : Trees) → is_number a ≡ true → is_number b ≡ true → NamesSum a b o → Hinders o (more a (more b ts))
  hinders_like : (us ts : Trees) (c p u : Tree) → 1 ≤ count us → AreLike p us → IsNumberOf (sum_of_coefficients us) c → is_number u ≡ false → part_of u ≡ p → NamesSum c (coefficient_of u) o → Hinders o (append us (more u ts))
  hinders_part : (us ts : Trees) (c p : Tree) → 2 ≤ count us → AreLike p us → IsNumberOf (sum_of_coefficients us) c → NamesPut c p o → Hinders o (append us ts)

-- the terms are collected so far that this hinders the next step
pub record Overflows (ts : Trees) (o : Overflow) : Type 0 where
  pub us : Trees
  pub collects : Collects ts us
  pub hinders : Hinders o us
