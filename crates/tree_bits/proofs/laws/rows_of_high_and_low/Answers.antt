use Rattle.tree_bits.proofs.{Shared.{undef_held}, Rows.{rational_row, sum_row, opposite_row, difference_row, product_row, quotient_row, power_row, kept_row, rational_to_symbol, symbol_to_symbol}}
use Rattle.tree_bits.proofs.{Rows.{root_row}, Sums.{symbol_is_held}}
use Rattle.tree_bits.proofs.laws.rows_of_high_and_low.Goals as goal

pub returns : goal.returns
returns c = record {
  rationals = rational_row;
  symbols = symbol_is_held;
  undef = λ t. undef_held;
  sums = sum_row;
  opposites = opposite_row;
  differences = difference_row;
  products = product_row;
  quotients = quotient_row;
  powers = power_row;
  kept_powers = kept_row;
  rationals_to_symbols = rational_to_symbol;
  symbols_to_symbols = symbol_to_symbol;
  roots = root_row;
}
