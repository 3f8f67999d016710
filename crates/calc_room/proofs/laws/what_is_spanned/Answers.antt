use Rattle.calc_room.proofs.SpanLaws.{one_spanned, spanned_alike, spanned_times}
use Rattle.calc_room.proofs.laws.what_is_spanned.Goals as goal

pub returns : goal.returns
returns c = record {
  one = one_spanned;
  alike = spanned_alike;
  products = spanned_times;
}
