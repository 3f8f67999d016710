use Rattle.number_forms.proofs.Shared.{sym, ap, ◌∙◌, arith, is_num, size, plain, Forest, root_tree, forest, behind_first, behind_later, front_same, front_at, front_without, handed_beside, handed_at}
use Rattle.number_forms.proofs.Shared.{tree-without}
use Rattle.number_forms.proofs.rationals.take_rationals.Goals as goal

pub take_rational-q-requires-clause-handed : goal.take_rational-q-requires-clause-handed
take_rational-q-requires-clause-handed c = handed_at (handed_beside c.args.a c.requires.apart c.requires.second) c.take_rational-p.ensures.gone

pub take_rational-q-requires-clause-rational : goal.take_rational-q-requires-clause-rational
take_rational-q-requires-clause-rational c =
    ap (λ (f : Forest). is_num (plain (root_tree c.args.b f))) c.take_rational-p.ensures.gone ∙ ap (λ (f : Forest). is_num (plain f)) (tree-without c.args.a c.args.b (forest c.args.pool.now) c.requires.apart) ∙ c.requires.second_rational

pub returns-clause-second : goal.returns-clause-second
returns-clause-second c =
    sym (ap (λ (f : Forest). plain (root_tree c.args.b f)) c.take_rational-p.ensures.gone ∙ ap plain (tree-without c.args.a c.args.b (forest c.args.pool.now) c.requires.apart)) ∙ c.take_rational-q.ensures.value

pub returns-clause-room : goal.returns-clause-room
returns-clause-room c =
    omega (arith, c.take_rational-q.ensures.room, ap (λ (f : Forest). size (plain (root_tree c.args.b f))) c.take_rational-p.ensures.gone, ap (λ (f : Forest). size (plain f)) (tree-without c.args.a c.args.b (forest c.args.pool.now) c.requires.apart))

pub returns-clause-front : goal.returns-clause-front
returns-clause-front c = front_at (front_without (behind_later behind_first) (front_at (front_without behind_first front_same) c.take_rational-p.ensures.gone)) c.take_rational-q.ensures.gone
