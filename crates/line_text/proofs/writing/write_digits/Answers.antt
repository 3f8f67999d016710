use Rattle.line_text.proofs.{Shared.{◌∙◌, ◌≤◌, ℕ, List, length, sym, ap, subst, arith, decimal, extended, spare_of}, Leaves.{digits_are, magnitude_is}}
use Rattle.line_text.proofs.writing.write_digits.Goals as goal

pub write_short-requires-clause-room : goal.write_short-requires-clause-room
write_short-requires-clause-room c =
    let m = magnitude_is c.num.result c.args.number.num c.unsigned_abs-magnitude.result c.args.number.fits c.num.ensures.value c.unsigned_abs-magnitude.ensures.value in
    subst (λ (n : ℕ). length (decimal n) ≤ spare_of c.args.page.now) (sym m) c.requires

pub returns-then-magnitude-lt100 : goal.returns-then-magnitude-lt100
returns-then-magnitude-lt100 c =
    let m = magnitude_is c.num.result c.args.number.num c.unsigned_abs-magnitude.result c.args.number.fits c.num.ensures.value c.unsigned_abs-magnitude.ensures.value in
    c.write_short.ensures ∙ ap (λ (n : ℕ). extended c.args.page.now (decimal n)) m

pub push-requires : goal.push-requires
push-requires c = omega (arith, ap length (digits_are c.as_bytes.result.now c.num.result c.args.number.num c.unsigned_abs-magnitude.result c.args.number.fits c.num.ensures.value c.unsigned_abs-magnitude.ensures.value (c.as_bytes.ensures.value ∙ c.format.ensures.text)), c.requires)

pub returns : goal.returns
returns c =
    c.push.ensures
    ∙ ap (λ (x : List ℕ). extended c.args.page.now x) (digits_are c.as_bytes.result.now c.num.result c.args.number.num c.unsigned_abs-magnitude.result c.args.number.fits c.num.ensures.value c.unsigned_abs-magnitude.ensures.value (c.as_bytes.ensures.value ∙ c.format.ensures.text))
