use Rattle.number_forms.proofs.Shared.{◌≡◌, ◌≤◌, ◌<◌, ◌+◌, ◌*◌, ◌^◌, List, length, rules, ◌/◌, ap, ◌∙◌, subst, sym, ℕ, arith, refl, is_number, value, Tree, Same-refl, IsPowerOver, PowerOverflows}
use Rattle.number_forms.proofs.Shared.{other_plain, passed_on, overflow_as, refused_as, tree_of, behind_new, front_same, front_after_one, given_rest, handed_at, gives_as, gives_rest, SpansTree}
use Rattle.number_forms.proofs.{Shared.{free_of, raising_need, given_free, number_tree}, Over.{power_itself, squared_power}, Overflows.{square_overflows}, PowerSteps.{half_one, half_twice}}
use Rattle.number_forms.proofs.{TermTrees.{if_given}, Rooms.{full_as, refusal_as}, powers.square_or_cube.Goals.{After-square_of, In_ok-square}, Refusals.{none_given}}
use Rattle.number_forms.proofs.Safety.{answer_of, passed, passed_full, then_safe}
use Rattle.surd_terms.specs.declared.term.Term.{Term}
use Rattle.tree_handles.specs.declared.fault.NumberFault.TheVariants as fault
use Rattle.number_forms.proofs.powers.square_or_cube.Goals as goal

itself : (c : After-square_of) → IsPowerOver (value (tree_of c.args.a.now c.args.pool.now)) 1 (tree_of c.args.a.now c.args.pool.now)
itself c = power_itself (tree_of c.args.a.now c.args.pool.now) (record { number = c.requires.number; worth = Same-refl (value (tree_of c.args.a.now c.args.pool.now)) })

half : (c : After-square_of) → IsPowerOver (value (tree_of c.args.a.now c.args.pool.now)) (c.args.n / 2) (tree_of c.args.a.now c.args.pool.now)
half c =
    let a : Tree = tree_of c.args.a.now c.args.pool.now in
    subst (λ (n : ℕ). IsPowerOver (value a) n a) (sym (half_one c.args.n c.requires.twice c.requires.few)) (itself c)

-- the Number as it stands beside the square
same : (c : In_ok-square) → tree_of c.args.a.now c.square_of.new.pool ≡ tree_of c.args.a.now c.args.pool.now
same c = other_plain c.args.a.now c.in_ok-square.ensures.ok c.requires.handed.root

pub multiplied-requires : goal.multiplied-requires
multiplied-requires c =
    let at = goal.at.multiplied-requires c in let a : Tree = tree_of c.args.a.now c.args.pool.now in let square = gives_rest c.in_ok-square.ensures.ok
    (λ t h. subst (λ (x : Tree). IsPowerOver (value x) 2 t) (sym (same at.In_ok-square)) (squared_power (value a) a t 1 (itself at.After-square_of) h)) in record {
      stands = c.in_ok-square.ensures.safe.stands;
      power = square;
      handed = handed_at c.requires.handed (given_rest c.in_ok-square.ensures.ok);
      number = ap is_number (same at.In_ok-square) ∙ c.requires.number;
      positive = search rules;
      below = c.requires.twice;
      few = search rules;
    }

pub returns-then-has_room : goal.returns-then-has_room
returns-then-has_room c = record {
  ok = let power = c.raise_values.ensures (search rules) in
      gives_as c.in_ok-place_terms.ensures.ok refl (λ t e. subst (IsPowerOver (value (tree_of c.args.a.now c.args.pool.now)) c.args.n)
      (sym (e ∙ ap number_tree c.as_slice-then-has_room.ensures.value)) power);
  overflow = tt;
  room = λ a b. tt;
  safe = answer_of c.in_ok-place_terms.ensures.safe;
}

pub returns-in_err-place_terms : goal.returns-in_err-place_terms
returns-in_err-place_terms c = let r = c.from_residual.result in let e = fault.Full c.in_err-place_terms.field-0.0 in let said = c.from_residual.ensures in record {
  ok = none_given r _ said.0;
  overflow = passed_on r e _ said.0 said.1 tt;
  room = λ gs s. let enough : 40 + 96 * length c.as_slice.result.now ≤ free_of c.args.pool.now = c.has_room.ensures.0 (search rules) in
      let same : c.as_slice.result.now ≡ c.as_slice-then-has_room.result.now = c.as_slice.ensures.value ∙ sym c.as_slice-then-has_room.ensures.value in
      passed_on r e _ said.0 said.1 (absurd (omega (arith, enough, ap (λ (ts : List Term). length ts) same, c.in_err-place_terms.ensures.room)));
  safe = passed_full r c.in_err-place_terms.field-0.0 said.0 said.1 c.in_err-place_terms.ensures.safe;
}

pub returns-in_err-square : goal.returns-in_err-square
returns-in_err-square c = let r = c.from_residual-in_err-square.result in let e = c.in_err-square.field-0.0 in let said = c.from_residual-in_err-square.ensures in record {
  ok = none_given r _ said.0;
  overflow = passed_on r e _ said.0 said.1 (overflow_as c.in_err-square.field-0.0 c.in_err-square.ensures.overflow
      (λ o p. square_overflows _ (tree_of c.args.a.now c.args.pool.now) c.args.n o (half_twice c.args.n c.requires.twice) (half (goal.at.returns-in_err-square c).After-square_of) p));
  room = λ gs s. passed_on r e _ said.0 said.1 (full_as c.in_err-square.field-0.0 (c.in_err-square.ensures.room gs s) (λ full few. omega (arith, few)));
  safe = passed r e said.0 said.1 c.in_err-square.ensures.safe;
}

pub returns : goal.returns
returns c = record {
  ok = if_given _ _ _ _ _ c.multiplied.result c.multiplied.ensures.ok (given_rest c.in_ok-square.ensures.ok)
      (λ t h. subst (λ (x : Tree). IsPowerOver (value x) c.args.n t) (same (goal.at.returns c).In_ok-square) h);
  overflow = refused_as c.multiplied.result c.multiplied.ensures.overflow (λ o p. subst (λ (x : Tree). PowerOverflows (value x) c.args.n o) (same (goal.at.returns c).In_ok-square) p);
  room = λ gs s. let free = given_free c.requires.stands c.in_ok-square.ensures.safe.stands c.in_ok-square.ensures.safe.kept c.in_ok-square.ensures.ok in
      refusal_as c.multiplied.result (c.multiplied.ensures.room gs (subst (SpansTree gs) (sym (same (goal.at.returns c).In_ok-square)) s))
      (λ e p. full_as e p (λ full few. subst (λ (n : ℕ). n < raising_need * 2 ^ length gs) (sym free) few));
  safe = then_safe c.in_ok-square.ensures.safe.kept (front_after_one (behind_new c.in_ok-square.ensures.ok.ends front_same) c.square_of.ensures.safe.front c.multiplied.ensures.safe.front) c.multiplied.ensures.safe;
}
