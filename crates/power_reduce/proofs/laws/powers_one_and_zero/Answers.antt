use Rattle.power_reduce.proofs.Shared.{[], ◌<◌, arith, inr, inl, Contains-append_left, one_fraction, num, names, power_one_is_base, power_zero_is_one, reduced_test, keeps}
use Rattle.power_reduce.proofs.laws.powers_one_and_zero.Goals as goal

pub returns : goal.returns
returns c = record {
  one = λ b h. record { reduced = h; no_new_name = record { name = λ x k. Contains-append_left (names b) [] x k }; meanings = keeps (power_one_is_base b) };
  zero = λ b. record {
    reduced = reduced_test (num one_fraction) (inr (inl tt));
    no_new_name = record { name = λ x k. absurd (let h : k.0 < 0 = k.1 in omega arith) };
    meanings = keeps (power_zero_is_one b);
  };
}
