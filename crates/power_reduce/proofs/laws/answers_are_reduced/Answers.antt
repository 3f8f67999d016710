use Rattle.power_reduce.proofs.Answered.{number_answer, zero_exponent_answer, one_exponent_answer, undefined_answer, undef_base_answer, undef_exponent_answer, kept_answer}
use Rattle.power_reduce.proofs.laws.answers_are_reduced.Goals as goal

pub returns : goal.returns
returns c = record {
  undef_base = undef_base_answer;
  undef_exponent = undef_exponent_answer;
  undefined = undefined_answer;
  zero = zero_exponent_answer;
  one = one_exponent_answer;
  number = number_answer;
  kept = kept_answer;
}
