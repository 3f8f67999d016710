use Rattle.std.proofs.Common.{◌≡◌, ◌≤◌, ◌∙◌, ◌*◌, ◌+◌, ap, sym, subst, arith}
use Rattle.calc_session.proofs.{Shared.{ratio_of, Content, IsHeld, rational, size_of_payload, payload_most, free_of, forest}, OpeningLemmas.{IsOpened, first_state_is, opened, seen_is}}
use Rattle.calc_session.proofs.session.Session.open.Goals.{After-unwrap-answer}
use Rattle.node_pool.specs.State.{State}
use Rattle.calc_session.proofs.session.Session.open.Goals as goal

here : (c : After-unwrap-answer) → IsOpened c.in_ok-work.work.pool c.number.new.pool c.unwrap-answer.result
here c =
    opened c.in_ok-work.work.pool c.number.new.pool c.number.result c.unwrap-answer.result (ratio_of c.whole.result) c.number.ensures.ok c.number.ensures.least c.number.ensures.kept c.unwrap-answer.ensures
    (ap (λ (s : State). s.nodes) c.in_ok-work.ensures.pool) c.whole.ensures c.number.ensures.stands

pub invariant_of-result : goal.invariant_of-result
invariant_of-result c =
    let o = here (goal.at.invariant_of-result c).After-unwrap-answer in
    record {
      ready = record { stands = c.number.ensures.stands; lists = omega (arith, c.in_ok-work.ensures.faces, o.kept.size, ap (λ (s : State). s.size) c.in_ok-work.ensures.pool) };
      held = subst (λ t. IsHeld t (forest c.number.new.pool)) (sym c.new.ensures) o.held;
      room = ap (λ (t : Content). t.capacity) c.in_ok-text.ensures.text ∙ ap (λ n. 3 * n + 8448) (sym (o.kept.size ∙ ap (λ (s : State). s.size) c.in_ok-work.ensures.pool));
      served = c.in_ok-text.ensures.drafter ∙ sym (o.kept.size ∙ ap (λ (s : State). s.size) c.in_ok-work.ensures.pool);
    }

pub returns : goal.returns
returns c =
    let o = here (goal.at.returns c).After-unwrap-answer in
    seen_is _ _ _ _ _ _ _ _ (first_state_is c.number.new.pool c.new.result c.unwrap-answer.result c.args.size c.new.ensures o.first o.nodes (o.kept.size ∙ ap (λ (s : State). s.size) c.in_ok-work.ensures.pool))
    (o.kept.refusals ∙ ap (λ (s : State). s.refusals) c.in_ok-work.ensures.pool) (o.kept.last_refused ∙ ap (λ (s : State). s.last_refused) c.in_ok-work.ensures.pool) (ap (λ (t : Content). t.bytes) c.in_ok-text.ensures.text)

pub unwrap-answer-requires : goal.unwrap-answer-requires
unwrap-answer-requires c =
    let free : free_of c.in_ok-work.work.pool ≡ c.args.size = omega (arith, ap free_of c.in_ok-work.ensures.pool) in
    let room : size_of_payload (rational (ratio_of c.whole.result)) ≤ free_of c.in_ok-work.work.pool = omega (arith, payload_most (rational (ratio_of c.whole.result)), free, c.requires.least) in
    c.number.ensures.exactly.1 room
