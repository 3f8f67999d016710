use Rattle.number_forms.proofs.{Shared.{rules, FitsSigned, ap, ◌∙◌, nat_abs, w128, to_z-of_z, value_of}, Recognized.{small_whole, clean_whole}}
use Rattle.number_forms.proofs.recognize.is_radicand.Goals as goal

pub returns-then-n-lt2 : goal.returns-then-n-lt2
returns-then-n-lt2 c = let fits : FitsSigned w128 c.in-Some.n = search rules in small_whole (value_of c.args.r) c.in-Some.n _ c.in-Some.ensures.value c.if-n-lt2.true (to_z-of_z w128 _ fits)

pub returns : goal.returns
returns c =
    let fits : FitsSigned w128 c.in-Some.n = search rules in let told = to_z-of_z w128 c.in-Some.n fits in
    clean_whole (value_of c.args.r) c.in-Some.n _ _ _ c.in-Some.ensures.value c.if-n-lt2.false told (c.unsigned_abs.ensures.value ∙ ap nat_abs told) c.is_clean.ensures
