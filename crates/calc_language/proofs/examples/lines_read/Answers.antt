use Rattle.calc_language.proofs.{Shared.refl, Reader.sum_at, Scanner.{scan_in, reads, stores}}
use Rattle.std.proofs.Common.{[], ◌∷◌}
use Rattle.calc_terms.specs.{Gcd.gcd, Fractions.lowest}
use Rattle.calc_language.specs.Tokens.{literal_at, word_at}
use Rattle.calc_language.proofs.examples.lines_read.Goals as goal

pub returns : goal.returns
unfolding scan_in sum_at gcd lowest literal_at word_at
returns c = record {
  implicit_product = reads 60 _ _ _ refl refl;
  implicit_before_quotient = reads 60 _ _ _ refl refl;
  one_sum = reads 60 _ _ _ refl refl;
  parentheses_end_a_sum = reads 60 _ _ _ refl refl;
  difference_then_sum = reads 60 _ _ _ refl refl;
  powers_from_the_right = reads 60 _ _ _ refl refl;
  minus_before_a_power = reads 60 _ _ _ refl refl;
  minus_in_an_exponent = reads 60 _ _ _ refl refl;
  decimals = reads 60 _ _ _ refl refl;
  a_name = reads 60 _ _ _ refl refl;
  a_store = stores 60 _ (_ ∷ _ ∷ _ ∷ []) _ _ refl refl;
}
