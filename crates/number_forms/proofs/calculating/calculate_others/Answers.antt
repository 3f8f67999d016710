use Rattle.number_forms.proofs.Shared.{◌≡◌, ◌≤◌, ◌+◌, ◌*◌, ◌∙◌, List, [], ◌∷◌, length, inl, sym, ap, subst, arith, rules, IfErr, IsHanded, IsNumberOver, KeepsFront, behind_first, behind_later}
use Rattle.number_forms.proofs.Shared.{both_released_free, eqb-sym, forest, free_of, front_at, front_same, front_without, gives_as, handed_at, handed_beside, kept_after, owned, passed_on, tree_of}
use Rattle.number_forms.proofs.{Shared.{value, without-swap, without_root, LacksJointRoom, both, number_tree, Joint, Gives, IfOk, OfOverflow}, ListedTerms.{number_over}}
use Rattle.number_forms.proofs.{calculating.calculate_others.Goals.{After-release, After-release-then-has_room}, Refusals.{none_given}, Safety.{after, answer_of, passed_full, fits_full}}
use Rattle.surd_terms.specs.declared.term.Term.{Term}
use Rattle.number_forms.specs.Joints.{JointOverflows}
use Rattle.tree_handles.specs.declared.fault.NumberFault.TheVariants as fault
use Rattle.number_forms.proofs.calculating.calculate_others.Goals as goal

-- ---- both are gone

first : (c : After-release) → IsHanded c.args.a (forest c.release.new.pool)
first c = handed_at (handed_beside c.args.b (eqb-sym c.args.a c.args.b c.requires.apart) c.requires.first) (c.release.ensures.owned (owned c.requires.second))

gone : (c : After-release-then-has_room) → forest c.release-then-has_room.new.pool ≡ without_root c.args.b (without_root c.args.a (forest c.args.pool.now))
gone c =
    let a = first (goal.at.After-release-then-has_room c).After-release in
    c.release-then-has_room.ensures.owned (owned a) ∙ ap (without_root c.args.a) (c.release.ensures.owned (owned c.requires.second)) ∙ without-swap c.args.a c.args.b _ c.requires.apart

front : (c : After-release-then-has_room) → KeepsFront (c.args.a ∷ c.args.b ∷ []) (forest c.args.pool.now) (forest c.release-then-has_room.new.pool)
front c = front_at (front_without (behind_later behind_first) (front_without behind_first front_same)) (gone c)

pub release-requires-then-has_room-clause-releasable : goal.release-requires-then-has_room-clause-releasable
release-requires-then-has_room-clause-releasable c = inl (first (goal.at.release-requires-then-has_room-clause-releasable c).After-release).root

pub returns-in-Sum : goal.returns-in-Sum
returns-in-Sum c = record {
  ok = subst (λ (j : Joint). IfOk c.add_others.result (λ h. Gives (without_root c.args.b (without_root c.args.a (forest c.args.pool.now))) (forest c.add_others.new.pool) h (IsNumberOver (both j (value (tree_of c.args.a c.args.pool.now)) (value (tree_of c.args.b c.args.pool.now)))))) (sym c.in-Sum.is) c.add_others.ensures.ok;
  overflow = subst (λ (j : Joint). IfErr c.add_others.result (OfOverflow (JointOverflows j (value (tree_of c.args.a c.args.pool.now)) (value (tree_of c.args.b c.args.pool.now))))) (sym c.in-Sum.is) c.add_others.ensures.overflow;
  room = λ gs s t. subst (λ (j : Joint). IfErr c.add_others.result (LacksJointRoom j c.args.a c.args.b c.args.pool.now gs)) (sym c.in-Sum.is) (c.add_others.ensures.room gs s t);
  safe = c.add_others.ensures.safe;
}

pub returns-in-Product : goal.returns-in-Product
returns-in-Product c = record {
  ok = subst (λ (j : Joint). IfOk c.multiply_others.result (λ h. Gives (without_root c.args.b (without_root c.args.a (forest c.args.pool.now))) (forest c.multiply_others.new.pool) h (IsNumberOver (both j (value (tree_of c.args.a c.args.pool.now)) (value (tree_of c.args.b c.args.pool.now)))))) (sym c.in-Product.is) c.multiply_others.ensures.ok;
  overflow = subst (λ (j : Joint). IfErr c.multiply_others.result (OfOverflow (JointOverflows j (value (tree_of c.args.a c.args.pool.now)) (value (tree_of c.args.b c.args.pool.now))))) (sym c.in-Product.is) c.multiply_others.ensures.overflow;
  room = λ gs s t. subst (λ (j : Joint). IfErr c.multiply_others.result (LacksJointRoom j c.args.a c.args.b c.args.pool.now gs)) (sym c.in-Product.is) (c.multiply_others.ensures.room gs s t);
  safe = c.multiply_others.ensures.safe;
}

pub returns-in_err-place_terms : goal.returns-in_err-place_terms
returns-in_err-place_terms c = let r = c.from_residual.result in let e = fault.Full c.in_err-place_terms.field-0.0 in let said = c.from_residual.ensures in record {
  ok = none_given r _ said.0;
  overflow = fits_full r c.in_err-place_terms.field-0.0 _ said.0 said.1;
  room = λ gs s t. let kept = kept_after c.release.ensures.kept c.release-then-has_room.ensures.kept in
      let both_gone = gone (goal.at.returns-in_err-place_terms c).After-release-then-has_room in
      let free = both_released_free c.requires.stands c.release-then-has_room.ensures.stands kept c.requires.apart c.requires.first c.requires.second both_gone in
      let enough : 40 + 96 * length c.as_slice.result.now ≤ free_of c.args.pool.now = c.has_room.ensures.0 (search rules) in
      let same : c.as_slice.result.now ≡ c.as_slice-then-has_room.result.now = c.as_slice.ensures.value ∙ sym c.as_slice-then-has_room.ensures.value in
      passed_on r e _ said.0 said.1 (absurd (omega (arith, free, enough, ap (λ (ts : List Term). length ts) same, c.in_err-place_terms.ensures.room)));
  safe = after (kept_after c.release.ensures.kept c.release-then-has_room.ensures.kept) (front (goal.at.returns-in_err-place_terms c).After-release-then-has_room) (passed_full r c.in_err-place_terms.field-0.0 said.0 said.1 c.in_err-place_terms.ensures.safe);
}

pub returns-then-has_room : goal.returns-then-has_room
returns-then-has_room c = record {
  ok = let v = both c.args.joint (value (tree_of c.args.a c.args.pool.now)) (value (tree_of c.args.b c.args.pool.now)) in
      let terms = c.calculate_values.ensures (search rules) in
      gives_as c.in_ok-place_terms.ensures.ok (gone (goal.at.returns-then-has_room c).After-release-then-has_room)
      (λ t e. subst (IsNumberOver v) (sym (e ∙ ap number_tree c.as_slice-then-has_room.ensures.value)) (number_over _ terms));
  overflow = tt;
  room = λ a b d. tt;
  safe = after (kept_after c.release.ensures.kept c.release-then-has_room.ensures.kept) (front (goal.at.returns-then-has_room c).After-release-then-has_room) (answer_of c.in_ok-place_terms.ensures.safe);
}
