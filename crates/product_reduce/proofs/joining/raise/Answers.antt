use Rattle.product_reduce.proofs.Shared.{◌∙◌, ap, refl, arith, size, both_replaced_free, refused_below, plain, gives_as, given_other, given_apart, given_told, given_same, given_without, handed_beside}
use Rattle.product_reduce.proofs.{Shared.{behind_first, behind_later, behind_new, front_same, front_without, front_after_one, front_after_two, eqb-sym, tree-without}, FreeBytes.{refusal_told}}
use Rattle.product_reduce.proofs.Beside.{beside_other, beside_apart, beside_below, beside_gone, beside_without, beside_tree, beside_tree_below, behind_clear}
use Rattle.product_reduce.proofs.joining.raise.Goals as goal

pub node_over_two-requires-clause-first : goal.node_over_two-requires-clause-first
node_over_two-requires-clause-first c = let s = c.in_ok-base.ensures.ok in beside_other s.base s.exponent.handed

pub node_over_two-requires-clause-second : goal.node_over_two-requires-clause-second
node_over_two-requires-clause-second c = let s = c.in_ok-base.ensures.ok in beside_other s.base (beside_other s.exponent (handed_beside c.args.factor c.requires.apart c.requires.second))

pub node_over_two-requires-clause-apart : goal.node_over_two-requires-clause-apart
node_over_two-requires-clause-apart c = let s = c.in_ok-base.ensures.ok in beside_apart c.args.exponent s.exponent (handed_beside c.args.factor c.requires.apart c.requires.second).root

pub returns-in_err-sum-clause-front : goal.returns-in_err-sum-clause-front
returns-in_err-sum-clause-front c = grind (arith, front_after_two, behind_clear, front_without, behind_first, front_same, behind_later, front_after_one)

pub node_over_two-requires-2-clause-first : goal.node_over_two-requires-2-clause-first
node_over_two-requires-2-clause-first c =
    let s = c.in_ok-base.ensures.ok in
    let x = handed_beside c.args.factor c.requires.apart c.requires.second in
    given_other c.in_ok-sum.ensures.ok (beside_without c.args.exponent (beside_gone s.base s.exponent) x.root).handed

pub node_over_two-requires-2-clause-apart : goal.node_over_two-requires-2-clause-apart
node_over_two-requires-2-clause-apart c =
    let s = c.in_ok-base.ensures.ok in
    let x = handed_beside c.args.factor c.requires.apart c.requires.second in
    eqb-sym c.in_ok-sum.sum c.in_ok-base.base (given_apart c.in_ok-sum.ensures.ok (beside_without c.args.exponent (beside_gone s.base s.exponent) x.root).handed)

pub returns-in_err-power-clause-front : goal.returns-in_err-power-clause-front
returns-in_err-power-clause-front c =
    let s = c.in_ok-base.ensures.ok in
    let start = front_after_one behind_first front_same c.split_factor.ensures.front in
    let own = behind_clear s.exponent.clear (front_without behind_first front_same) in
    let two = front_after_two own (behind_later behind_first) start c.node_over_two.ensures.front in
    let base = behind_clear (beside_below s.base s.exponent) (front_without behind_first front_same) in
    let sum = behind_new c.in_ok-sum.ensures.ok.ends (front_without (behind_later behind_first) (front_without own start)) in
    front_after_two base sum two c.node_over_two-2.ensures.front

pub returns-clause-ok : goal.returns-clause-ok
returns-clause-ok c =
    let s = c.in_ok-base.ensures.ok in
    let x = handed_beside c.args.factor c.requires.apart c.requires.second in
    let g = c.in_ok-sum.ensures.ok in
    let b = beside_without c.args.exponent (beside_gone s.base s.exponent) x.root in
    let tree-x = ap plain (beside_tree c.args.exponent s.base (beside_other s.exponent x).root ∙ beside_tree c.args.exponent s.exponent x.root ∙ tree-without c.args.factor c.args.exponent _ c.requires.apart) in
    gives_as c.in_ok-power.ensures.ok (given_without g b.handed ∙ b.rest)
    (λ t e. e ∙ rw (ap plain (given_same c.in_ok-base.base g b.handed.root) ∙ b.tree, given_told g, beside_tree_below s.base s.exponent, tree-x) refl)

pub returns-clause-front : goal.returns-clause-front
returns-clause-front c =
    let s = c.in_ok-base.ensures.ok in
    let start = front_after_one behind_first front_same c.split_factor.ensures.front in
    let own = behind_clear s.exponent.clear (front_without behind_first front_same) in
    let two = front_after_two own (behind_later behind_first) start c.node_over_two.ensures.front in
    let base = behind_clear (beside_below s.base s.exponent) (front_without behind_first front_same) in
    let sum = behind_new c.in_ok-sum.ensures.ok.ends (front_without (behind_later behind_first) (front_without own start)) in
    front_after_two base sum two c.node_over_two-2.ensures.front

pub returns-in_err-power-clause-room : goal.returns-in_err-power-clause-room
returns-in_err-power-clause-room c =
    let s = c.in_ok-base.ensures.ok in
    let a = beside_other s.base s.exponent.handed in
    let b = beside_other s.base (beside_other s.exponent (handed_beside c.args.factor c.requires.apart c.requires.second)) in
    let d = beside_apart c.args.exponent s.exponent (handed_beside c.args.factor c.requires.apart c.requires.second).root in
    let g = c.in_ok-sum.ensures.ok in
    let free = both_replaced_free c.split_factor.ensures.leaves.stands c.node_over_two.ensures.stands c.in_ok-sum.ensures.kept d a b g in
    refusal_told c.from_residual-in_err-power.result (omega (arith, free, ap size (given_told g), c.in_ok-base.ensures.placed, refused_below c.in_err-power.ensures.full))
