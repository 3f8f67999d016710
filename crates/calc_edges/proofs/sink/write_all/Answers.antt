use Rattle.calc_edges.proofs.Shared.{◌≡◌, Err, ℕ, ◌+◌, ◌-◌, List, ◌++◌, length, take, drop, arith, sym, ap, ◌∙◌, subst, take-add, drop-drop, length-drop, take_rest, Appends-trans, Appends, Failures}
use Rattle.calc_edges.proofs.Stops.{cause_of_call}
use Rattle.calc_edges.proofs.sink.write_all.Goals as goal

-- what a write leaves of the rest is a rest of the whole
left_of_rest : (all rest : List ℕ) (n m : ℕ) → rest ≡ drop n all → take (length rest - m) (drop m rest) ≡ drop (n + m) all
left_of_rest all rest n m is_rest = take_rest rest m ∙ ap (drop m) is_rest ∙ drop-drop m n all

-- a front, and then a front of the rest
front_of_rest : (all rest : List ℕ) (n m : ℕ) → rest ≡ drop n all → take (n + m) all ≡ take n all ++ take m rest
front_of_rest all rest n m is_rest = take-add n m all ∙ ap (λ l. take n all ++ take m l) (sym is_rest)

pub loop-rest-preserved : goal.loop-rest-preserved
loop-rest-preserved g c =
    let (n, within, is_rest, appended, calm) = c.loop-rest.invariant in
    let m = c.in-Ok.count in
    let all = c.args.bytes.now in
    let rest = c.loop-rest.rest.now in (
      n + m,
      omega (arith, ap length is_rest, length-drop n all, c.in-Ok.ensures.bound),
      left_of_rest all rest n m is_rest,
      subst (Appends _ _) (sym (front_of_rest all rest n m is_rest)) (Appends-trans _ _ _ _ _ appended c.in-Ok.ensures.appended),
      ap (λ (f : Failures). f.count) c.in-Ok.ensures.counted ∙ calm,
    )

pub returns-in_default-clause-cause : goal.returns-in_default-clause-cause
returns-in_default-clause-cause g c = let (n, within, is_rest, appended, calm) = c.loop-rest.invariant in cause_of_call (g.K.Sink.faults c.args.sink.now) (g.K.Sink.faults c.loop-rest.sink) _ (Err _) calm c.in_default.ensures.counted
