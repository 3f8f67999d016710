use Rattle.tree_room.proofs.{Shared.{counted_number, counted_other}, Counts.{counts_one, number_counts_one, appended, all_appended, flat_sum, flat_product}}
use Rattle.tree_room.proofs.laws.children_counted.Goals as goal

pub returns : goal.returns
returns c = record {
  one_at_least = counts_one;
  number = number_counts_one;
  coefficient = counted_number;
  other = counted_other;
  appended = appended;
  all_appended = all_appended;
  flat_sum = flat_sum;
  flat_product = flat_product;
}
