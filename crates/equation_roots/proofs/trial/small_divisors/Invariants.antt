use Rattle.std.proofs.Common.{◌≡◌, ℕ, suc, ◌<◌, false, length, get_or}
use Rattle.std.specs.Int.{◌∣◌}
use Rattle.equation_roots.proofs.trial.small_divisors.Given as goal

abbrev pub invariant-loop-step : goal.invariant-loop-step
invariant-loop-step l = record {
  long : length l.divisors.items ≡ l.step;
  unmarked : (n : ℕ) → n < l.step → get_or l.divisors.items n false ≡ false → ¬ (suc n ∣ l.magnitude);
}
