use Rattle.tree_room.proofs.{Shared.{surd_of, whole_fraction}, Calm.{whole_number, literal_whole, opposite_whole, sum_whole, product_whole, no_half}, Zeros.{symbol_zero}}
use Rattle.tree_room.proofs.laws.whole_meanings.Goals as goal

pub returns : goal.returns
returns c = record {
  whole_numbers = whole_number;
  literals = literal_whole;
  symbols = symbol_zero;
  sums = sum_whole;
  opposites = opposite_whole;
  multiples = λ f e n h k. product_whole f e n h (whole_number f n k);
  rewritten = λ f d e once k (n, h). (n, k.means f once (surd_of (whole_fraction n)) h);
  no_half = no_half;
}
