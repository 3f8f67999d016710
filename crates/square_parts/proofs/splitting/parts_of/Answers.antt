use Rattle.square_parts.proofs.{Shared.{arith}, CleanParts.{clean_alone, clean_with_rest, small_no_square, rounded_no_square, square_not_clean, square_fits}}
use Rattle.square_parts.proofs.splitting.parts_of.Goals as goal
use Rattle.square_parts.proofs.splitting.parts_of.Goals.{then-found-gt-SQUARE_OF_TRIAL_LIMIT+else-root-found, else-found-gt-SQUARE_OF_TRIAL_LIMIT}

pub overflow_mul-result : goal.overflow_mul-result
overflow_mul-result c = omega (arith, square_fits c.args.found c.isqrt-root.result c.requires.found c.if-root-found.true)

pub returns-then-root-found-clause-clean : goal.returns-then-root-found-clause-clean
returns-then-root-found-clause-clean c = clean_alone c.args.found c.requires.found

pub returns-then-root-found-clause-untaken : goal.returns-then-root-found-clause-untaken
returns-then-root-found-clause-untaken c = λ clean. absurd (square_not_clean c.args.found c.isqrt-root.result c.requires.found c.requires.no_other c.if-found-gt-SQUARE_OF_TRIAL_LIMIT.true c.if-root-found.true clean)

pub returns-clause-clean : goal.returns-clause-clean
returns-clause-clean c =
    clean_with_rest c.args.found c.requires.found c.requires.no_other
    (elim c.if-found-gt-SQUARE_OF_TRIAL_LIMIT.branch [
      | then-found-gt-SQUARE_OF_TRIAL_LIMIT+else-root-found w ↦ rounded_no_square c.args.found.rest w.isqrt-root.result w.isqrt-root.ensures.square_at_most w.isqrt-root.ensures.next_square_above w.if-root-found.false
      | else-found-gt-SQUARE_OF_TRIAL_LIMIT w ↦ small_no_square c.args.found.rest c.requires.no_other w.if-found-gt-SQUARE_OF_TRIAL_LIMIT.false
    ])
