use Rattle.calc_room.proofs.{Shared.{number_words}, NumberSpans.{sum_spanned, product_spanned, power_spanned, inverse_spanned}}
use Rattle.calc_room.proofs.laws.answers_are_spanned.Goals as goal

pub returns : goal.returns
returns c = record {
  sums = λ gs a b t h k l. sum_spanned gs a b t (number_words a h) (number_words b k) (number_words t l);
  products = λ gs a b t h k l. product_spanned gs a b t (number_words a h) (number_words b k) (number_words t l);
  powers = λ gs a t n h l. power_spanned gs a t n (number_words a h) (number_words t l);
  inverses = λ gs a t h l. inverse_spanned gs a t (number_words a h) (number_words t l);
}
