use Rattle.number_forms.proofs.Shared.{◌≡◌, ℕ, ◌<◌, ◌*◌, ◌^◌, length, rules, ap, ◌∙◌, subst, sym, ◌/◌, is_number, value, Tree, other_plain, kept_after, overflow_as, refused_as, IsPowerOver, tree_of, plain}
use Rattle.number_forms.proofs.Shared.{Forest, root_tree, behind_new, front_same, front_at, front_after_one, given_handed, given_told, given_rest, given_other, gives_as, gives_rest, handed_at}
use Rattle.number_forms.proofs.{Shared.{PowerOverflows, passed_on, SpansTree, raising_need, given_free}, Over.{squared_power, of_power}, TermTrees.{if_given}}
use Rattle.number_forms.proofs.{Overflows.{power_overflows_more, square_overflows}, PowerSteps.{half_twice, half_below, half_within, half_positive, half_again, half_next}, Rooms.{full_as, refusal_as, power_spans, step_lacks}}
use Rattle.number_forms.proofs.{powers.+power_of.Goals.{In_ok-half, In_ok-square}, Refusals.{none_given}, Safety.{after_one, passed, then_safe}}
use Rattle.number_forms.proofs.powers.+power_of.Goals as goal

pub squared-requires-clause-handed : goal.squared-requires-clause-handed
squared-requires-clause-handed _ c = given_handed c.in_ok-half.ensures.ok

pub squared-requires-clause-number : goal.squared-requires-clause-number
squared-requires-clause-number _ c = (given_told c.in_ok-half.ensures.ok).number

-- the Number as it stands beside the power for half the exponent, and beside the square of that
beside : (k : ℕ) (c : In_ok-half k) → tree_of c.args.a.now c.power_of.new.pool ≡ tree_of c.args.a.now c.args.pool.now
beside k c = other_plain c.args.a.now c.in_ok-half.ensures.ok c.requires.handed.root

same : (k : ℕ) (c : In_ok-square k) → tree_of c.args.a.now c.squared.new.pool ≡ tree_of c.args.a.now c.args.pool.now
same k c =
    let rest = given_rest c.in_ok-half.ensures.ok in
    other_plain c.args.a.now c.in_ok-square.ensures.ok (handed_at c.requires.handed rest).root ∙ ap (λ (f : Forest). plain (root_tree c.args.a.now f)) rest

pub is_longer_squared-requires : goal.is_longer_squared-requires
is_longer_squared-requires _ c = let half = c.in_ok-half.ensures.ok in record {
  stands = c.in_ok-half.ensures.safe.stands;
  half = given_handed half;
  half_number = (given_told half).number;
  handed = given_other half c.requires.handed;
  number = ap is_number (beside _ (goal.at.is_longer_squared-requires _ c).In_ok-half) ∙ c.requires.number;
}

pub multiplied-requires : goal.multiplied-requires
multiplied-requires _ c =
    let half = c.in_ok-half.ensures.ok in let it = beside _ (goal.at.multiplied-requires _ c).In_ok-half in record {
      stands = c.in_ok-half.ensures.safe.stands;
      power = gives_rest half (λ t h. subst (λ (x : Tree). IsPowerOver (value x) (c.args.n / 2) t) (sym it) h);
      handed = handed_at c.requires.handed (given_rest half);
      number = ap is_number it ∙ c.requires.number;
      positive = half_twice c.args.n c.requires.twice;
      below = half_below c.args.n;
      few = half_within c.args.n (c.is_longer_squared.ensures.few (search rules));
    }

pub multiplied-requires-2 : goal.multiplied-requires-2
multiplied-requires-2 _ c =
    let half = c.in_ok-half.ensures.ok in let it = same _ (goal.at.multiplied-requires-2 _ c).In_ok-square in
    let square = gives_rest c.in_ok-square.ensures.ok (λ t h. subst (λ (x : Tree). IsPowerOver (value x) (2 * (c.args.n / 2)) t) (sym it) (squared_power _ _ t (c.args.n / 2) (given_told half) h)) in
    record {
      stands = c.in_ok-square.ensures.safe.stands;
      power = square;
      handed = handed_at c.requires.handed (given_rest c.in_ok-square.ensures.ok ∙ given_rest half);
      number = ap is_number it ∙ c.requires.number;
      positive = half_positive c.args.n c.requires.twice;
      below = half_again c.args.n;
      few = half_next c.args.n;
    }

pub returns-in_err-half : goal.returns-in_err-half
returns-in_err-half _ c = let r = c.from_residual.result in let e = c.in_err-half.field-0.0 in let said = c.from_residual.ensures in record {
  ok = none_given r _ said.0;
  overflow = passed_on r e _ said.0 said.1 (overflow_as c.in_err-half.field-0.0 c.in_err-half.ensures.overflow (λ o p. power_overflows_more _ _ _ o (half_below c.args.n) p));
  room = λ gs s. passed_on r e _ said.0 said.1 (c.in_err-half.ensures.room gs s);
  safe = passed r e said.0 said.1 c.in_err-half.ensures.safe;
}

pub returns-in_err-square : goal.returns-in_err-square
returns-in_err-square _ c = let r = c.from_residual-in_err-square.result in let e = c.in_err-square.field-0.0 in let said = c.from_residual-in_err-square.ensures in record {
  ok = none_given r _ said.0;
  overflow = passed_on r e _ said.0 said.1 (overflow_as c.in_err-square.field-0.0 c.in_err-square.ensures.overflow (λ o p. square_overflows _ (tree_of c.in_ok-half.half c.power_of.new.pool) c.args.n o (half_twice c.args.n c.requires.twice) (given_told c.in_ok-half.ensures.ok) p));
  room = λ gs s. let half = c.in_ok-half.ensures.ok in
      let h : Tree = tree_of c.in_ok-half.half c.power_of.new.pool in
      let spanned = power_spans gs (tree_of c.args.a.now c.args.pool.now) h (c.args.n / 2) c.requires.number (of_power (given_told half)) s in
      let free = given_free c.requires.stands c.in_ok-half.ensures.safe.stands c.in_ok-half.ensures.safe.kept half in
      passed_on r e _ said.0 said.1 (full_as c.in_err-square.field-0.0 (c.in_err-square.ensures.room gs spanned) (λ full few. step_lacks gs _ _ h (given_told half).number spanned free few));
  safe = after_one c.in_ok-half.ensures.safe.kept (behind_new c.in_ok-half.ensures.ok.ends front_same) c.power_of.ensures.safe.front (passed r e said.0 said.1 c.in_err-square.ensures.safe);
}

pub returns : goal.returns
returns _ c = record {
  ok = if_given _ _ _ _ _ c.multiplied-2.result c.multiplied-2.ensures.ok (given_rest c.in_ok-square.ensures.ok ∙ given_rest c.in_ok-half.ensures.ok)
      (λ t h. subst (λ (x : Tree). IsPowerOver (value x) c.args.n t) (same _ (goal.at.returns _ c).In_ok-square) h);
  overflow = refused_as c.multiplied-2.result c.multiplied-2.ensures.overflow (λ o p. subst (λ (x : Tree). PowerOverflows (value x) c.args.n o) (same _ (goal.at.returns _ c).In_ok-square) p);
  room = λ gs s. let square = gives_as c.in_ok-square.ensures.ok (given_rest c.in_ok-half.ensures.ok) (λ t k. k) in
      let free = given_free c.requires.stands c.in_ok-square.ensures.safe.stands (kept_after c.in_ok-half.ensures.safe.kept c.in_ok-square.ensures.safe.kept) square in
      refusal_as c.multiplied-2.result (c.multiplied-2.ensures.room gs (subst (SpansTree gs) (sym (same _ (goal.at.returns _ c).In_ok-square)) s))
      (λ e p. full_as e p (λ full few. subst (λ (n : ℕ). n < raising_need * 2 ^ length gs) (sym free) few));
  safe = then_safe (kept_after c.in_ok-half.ensures.safe.kept c.in_ok-square.ensures.safe.kept) (let half = c.in_ok-half.ensures.ok in front_after_one (behind_new c.in_ok-square.ensures.ok.ends (front_at front_same (given_rest half))) (front_after_one (behind_new half.ends front_same) c.power_of.ensures.safe.front c.squared.ensures.safe.front) c.multiplied-2.ensures.safe.front) c.multiplied-2.ensures.safe;
}

pub returns-then-is_longer_squared : goal.returns-then-is_longer_squared
returns-then-is_longer_squared _ c = let half = c.in_ok-half.ensures.ok in let it = beside _ (goal.at.returns-then-is_longer_squared _ c).In_ok-half in record {
  ok = if_given _ _ _ _ _ c.multiplied.result c.multiplied.ensures.ok (given_rest half) (λ t h. subst (λ (x : Tree). IsPowerOver (value x) c.args.n t) it h);
  overflow = refused_as c.multiplied.result c.multiplied.ensures.overflow (λ o p. subst (λ (x : Tree). PowerOverflows (value x) c.args.n o) it p);
  room = λ gs s. let free = given_free c.requires.stands c.in_ok-half.ensures.safe.stands c.in_ok-half.ensures.safe.kept half in
      refusal_as c.multiplied.result (c.multiplied.ensures.room gs (subst (SpansTree gs) (sym it) s)) (λ e p. full_as e p (λ full few. subst (λ (n : ℕ). n < raising_need * 2 ^ length gs) (sym free) few));
  safe = after_one c.in_ok-half.ensures.safe.kept (behind_new half.ends front_same) c.power_of.ensures.safe.front c.multiplied.ensures.safe;
}
