use Rattle.std.proofs.Common.{◌≡◌, ◌<◌, ◌+◌, ℕ, suc, nat_abs, length, length-append, ap, sym, subst, ◌∙◌, arith, false, Bool, List, get_or}
use Rattle.std.specs.Int.{◌∣◌}
use Rattle.equation_roots.proofs.{Trials.{marks_more, no_divisor}, Wide.{told}}
use Rattle.equation_roots.proofs.trial.small_divisors.Goals as goal

pub loop-step-preserved : goal.loop-step-preserved
loop-step-preserved c = record {
  long = ap length c.push.ensures.items ∙ length-append c.loop-step.divisors.items _ ∙ ap (λ (m : ℕ). m + 1) c.loop-step.invariant.long;
  unmarked =
      subst (λ (xs : List Bool). (n : ℕ) → n < c.loop-step.step + 1 → get_or xs n false ≡ false → ¬ (suc n ∣ c.unsigned_abs-magnitude.result)) (sym c.push.ensures.items)
      (marks_more c.loop-step.divisors.items _ c.loop-step.step c.unsigned_abs-magnitude.result c.loop-step.invariant.long (no_divisor c.unsigned_abs-magnitude.result c.loop-step.step) c.loop-step.invariant.unmarked);
}

pub returns : goal.returns
returns c = record {
  long = c.loop-step.invariant.long ∙ omega (arith, c.loop-step-test.false);
  unmarked = λ n h f d.
      c.loop-step.invariant.unmarked n (omega (arith, h, c.loop-step-test.false)) f (subst (λ (m : ℕ). suc n ∣ m) (sym (c.unsigned_abs-magnitude.ensures.value ∙ ap nat_abs (told c.args.n c.requires))) d);
}
