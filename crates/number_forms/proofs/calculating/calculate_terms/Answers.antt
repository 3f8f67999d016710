use Rattle.number_forms.proofs.Shared.{refl, subst, sym, ◌∙◌, IfErr, tree_of, gives_as, without-swap, LacksJointRoom, Joint, Gives, IfOk, IsNumberOver, OfOverflow, both, forest, value, without_root}
use Rattle.number_forms.proofs.{Shared.{behind_first, behind_later, front_same, front_after_two}, Kept.{with_neutral, neutral_with}, Safety.{answered}}
use Rattle.number_forms.specs.Joints.{JointOverflows}
use Rattle.number_forms.proofs.calculating.calculate_terms.Goals as goal

pub returns-then-is_neutral-clause-ok : goal.returns-then-is_neutral-clause-ok
returns-then-is_neutral-clause-ok c =
    gives_as c.keep_other.ensures.gives refl
    (λ t e. neutral_with c.args.joint (tree_of c.args.a c.args.pool.now) (tree_of c.args.b c.args.pool.now) t (sym c.is_neutral.ensures ∙ c.if-is_neutral.true) c.requires.second_number e)

pub returns-then-is_neutral-2-clause-ok : goal.returns-then-is_neutral-2-clause-ok
returns-then-is_neutral-2-clause-ok c =
    gives_as c.keep_other-then-is_neutral-2.ensures.gives (without-swap c.args.a c.args.b _ c.requires.apart) (λ t e.
    let neutral = sym c.is_neutral-else-is_neutral.ensures ∙ c.if-is_neutral-2.true in
    with_neutral c.args.joint (tree_of c.args.a c.args.pool.now) (tree_of c.args.b c.args.pool.now) t neutral c.requires.first_number e)

pub returns-in-Sum : goal.returns-in-Sum
returns-in-Sum c = record {
  ok = subst (λ (j : Joint). IfOk c.add_terms.result (λ h. Gives (without_root c.args.b (without_root c.args.a (forest c.args.pool.now))) (forest c.add_terms.new.pool) h (IsNumberOver (both j (value (tree_of c.args.a c.args.pool.now)) (value (tree_of c.args.b c.args.pool.now)))))) (sym c.in-Sum.is) c.add_terms.ensures.ok;
  overflow = subst (λ (j : Joint). IfErr c.add_terms.result (OfOverflow (JointOverflows j (value (tree_of c.args.a c.args.pool.now)) (value (tree_of c.args.b c.args.pool.now))))) (sym c.in-Sum.is) c.add_terms.ensures.overflow;
  room = λ gs s t. subst (λ (j : Joint). IfErr c.add_terms.result (LacksJointRoom j c.args.a c.args.b c.args.pool.now gs)) (sym c.in-Sum.is) (c.add_terms.ensures.room gs s t);
  first_neutral = λ h. absurd (cc (c.is_neutral.ensures, c.if-is_neutral.false, h));
  second_neutral = λ k h. absurd (cc (c.is_neutral-else-is_neutral.ensures, c.if-is_neutral-2.false, h));
  safe = c.add_terms.ensures.safe;
}

pub returns-in-Product-clause-first_neutral : goal.returns-in-Product-clause-first_neutral
returns-in-Product-clause-first_neutral c = λ h. absurd (cc (c.is_neutral.ensures, c.if-is_neutral.false, h))

pub returns-in-Product-clause-second_neutral : goal.returns-in-Product-clause-second_neutral
returns-in-Product-clause-second_neutral c = λ k h. absurd (cc (c.is_neutral-else-is_neutral.ensures, c.if-is_neutral-2.false, h))

pub returns-then-is_neutral-clause-safe : goal.returns-then-is_neutral-clause-safe
returns-then-is_neutral-clause-safe c = answered c.keep_other.ensures.front c.keep_other.ensures.kept c.keep_other.ensures.stands

pub returns-then-is_neutral-2-clause-safe : goal.returns-then-is_neutral-2-clause-safe
returns-then-is_neutral-2-clause-safe c = answered (front_after_two (behind_later behind_first) behind_first front_same c.keep_other-then-is_neutral-2.ensures.front) c.keep_other-then-is_neutral-2.ensures.kept c.keep_other-then-is_neutral-2.ensures.stands
