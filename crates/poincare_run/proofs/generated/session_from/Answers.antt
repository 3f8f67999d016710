use Rattle.std.proofs.Common.{◌≡◌, ◌∙◌, ◌+◌, ◌%◌, ◌++◌, ◌∷◌, [], arith, sym, ap, append_assoc}
use Rattle.poincare_run.proofs.{Shared.{first_lines, first_number, next_seed, pattern, second_number, seed, with_digits}, GeneratedLemmas.{seed-zero, seed-more, first_lines-zero, first_lines-more}}
use Rattle.poincare_run.proofs.generated.session_from.Goals as goal

pub loop-k-init : goal.loop-k-init
loop-k-init c = record { lines = c.new-lines.ensures.items ∙ sym (first_lines-zero c.args.number); seed = sym (seed-zero c.args.number); small = omega arith }

-- the seed of the next line
seed_is : (c : goal.In_ok-push) → next_seed c.loop-k.seed ≡ seed c.args.number (c.loop-k.k + 1)
seed_is c = ap next_seed c.loop-k.invariant.seed ∙ sym (seed-more c.args.number c.loop-k.k)

pub loop-k-preserved : goal.loop-k-preserved
loop-k-preserved c =
    let s = next_seed c.loop-k.seed in
    let form = pattern ((c.loop-k.k + 1) % 8) in
    let before = first_lines c.args.number c.loop-k.k in
    let line = with_digits (first_number s) (second_number s) form in
    record {
      lines = c.in_ok-push.ensures.items ∙ ap (λ l. l ++ 10 ∷ []) (c.in_ok-push_line.ensures ∙ ap (λ l. l ++ line) c.loop-k.invariant.lines)
          ∙ append_assoc before line (10 ∷ []) ∙ ap (λ x. before ++ (with_digits (first_number x) (second_number x) form ++ 10 ∷ [])) (seed_is c)
          ∙ sym (first_lines-more c.args.number c.loop-k.k);
      seed = seed_is c;
      small = omega arith;
    }
