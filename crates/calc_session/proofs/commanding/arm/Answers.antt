use Rattle.calc_session.proofs.{Shared.{◌∙◌, sym, subst, codes, TripsRose, states, after_report, IsReplyToArming, arms_a_breaker, finds_no_breaker, report}, CommandLemmas.{arming_trips_none, written}}
use Rattle.calc_session.proofs.EvaluationLemmas.{none_rose}
use Rattle.calc_session.proofs.commanding.arm.Goals as goal

pub returns-then-arm_first-clause-told : goal.returns-then-arm_first-clause-told
returns-then-arm_first-clause-told g c =
    subst (λ w. IsReplyToArming c.args.checks (states g.B.Breaker.state c.args.watch.now) (states g.B.Breaker.state c.arm_first.new.self) (report w)) (sym (written c.args.text.now c.write_after.new.text (after_report c.args.checks) c.write_after.ensures c.requires.empty))
    (arms_a_breaker (sym c.arm_first.ensures.whether_one_can_be ∙ c.if-arm_first.true) c.arm_first.ensures.armed)

pub returns-then-arm_first-clause-no_check : goal.returns-then-arm_first-clause-no_check
returns-then-arm_first-clause-no_check g c = λ place h.
    arming_trips_none c.args.checks (states g.B.Breaker.state c.args.watch.now) place (subst (λ bs. TripsRose (states g.B.Breaker.state c.args.watch.now) bs place) c.arm_first.ensures.armed h)

pub returns-else-arm_first-clause-told : goal.returns-else-arm_first-clause-told
returns-else-arm_first-clause-told g c =
    subst (λ w. IsReplyToArming c.args.checks (states g.B.Breaker.state c.args.watch.now) (states g.B.Breaker.state c.arm_first.new.self) (report w)) (sym (written c.args.text.now c.write_no_breaker.new.text (codes "no breaker") c.write_no_breaker.ensures c.requires.empty))
    (finds_no_breaker (sym c.arm_first.ensures.whether_one_can_be ∙ c.if-arm_first.false) c.if-arm_first.ensures.false_changes_nothing)

pub returns-else-arm_first-clause-no_check : goal.returns-else-arm_first-clause-no_check
returns-else-arm_first-clause-no_check g c = λ place h.
    none_rose (states g.B.Breaker.state c.args.watch.now) place (subst (λ bs. TripsRose (states g.B.Breaker.state c.args.watch.now) bs place) c.if-arm_first.ensures.false_changes_nothing h)
