use Rattle.calc_room.proofs.NumberSpans.{spans_append, spans_scale, spans_times, spans_power}
use Rattle.calc_room.proofs.laws.sums_and_products_are_spanned.Goals as goal

pub returns : goal.returns
returns c = record {
  sums = spans_append;
  multiples = spans_scale;
  products = spans_times;
  powers = spans_power;
}
