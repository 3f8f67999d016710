-- The factors of a product: products in it opened, its Numbers as one coefficient, and the others.
use Rattle.std.specs.Prelude.{ℕ, ◌≡◌, true, if◌then◌else◌}
use Rattle.calc_algebra.specs.{Numbers.{is_number, value}, Reduced.{is_num_one, product_tree}, SquareClasses.{Same}, Surds.{Surd, surd_one, surd_times}}
use Rattle.calc_bits.specs.Masses.{IsHeld}
use Rattle.calc_terms.specs.Trees.{Tree, Trees, none, more, append, opened_into}
use Rattle.coefficients.specs.Coefficients.{factors_of, with_coefficient}
use Rattle.product_reduce.specs.Bits.{AreFactorsHeld}
pub use Rattle.like_children.specs.Numbers.{numbers_in, others_in}

-- the factors of a product in a product stand in its place
abbrev pub opened : Trees → Trees
opened ts = opened_into factors_of ts

-- the values of Numbers multiplied
abbrev pub product_of_values : Trees → Surd
product_of_values none = surd_one
product_of_values (more t ts) = surd_times (value t) (product_of_values ts)

-- the Numbers among the factors as one Number, which is held by what holds them one by one
pub record IsCoefficient (c : Tree) (ts : Trees) : Type 0 where
  pub number : is_number c ≡ true
  pub same : Same (value c) (product_of_values (numbers_in ts))
  pub held : (h l : ℕ) → AreFactorsHeld (numbers_in ts) h l → IsHeld (value c) h l

-- a coefficient before the other factors, as a product is written: 1 is left out, and one of a single class is spliced
abbrev pub coefficient_before : Tree → Trees → Trees
coefficient_before c ts = if is_num_one c then ts else append (factors_of c) ts

-- a coefficient times other factors as one tree: it alone where there are none, and else as it is written before their product
abbrev pub coefficient_times : Tree → Trees → Tree
coefficient_times c none = c
coefficient_times c (more t ts) = with_coefficient c (product_tree (more t ts))
