use Rattle.radical_forms.proofs.Shared.{rules, ◌≡◌, ◌*◌, [], ◌∷◌, false, refl, sym, ap, ◌∙◌, subst, arith, natural_of, SpansTree, value_of, Tree, num, root, is_num, is_undef, root_kind, size}
use Rattle.radical_forms.proofs.Shared.{expression_root, last_tree, least_size, behind_first, front_same, front_end, front_without, gives, gives_as, given_told, represents_handed, plain, Forest}
use Rattle.radical_forms.proofs.{Shared.{tree_of, argument_of}, Handed.{root_is, has_child, argument_at, undef_by_kind, no_num_by_kind, no_undef_by_kind}, RootLaws.{no_argument_answer, other_answer}}
use Rattle.radical_forms.proofs.{RootLaws.{no_other_wide, answer_as}, Spanned.{spans_answer, spans_root_of}, RootBits.{no_wide, not_refused, other_rational}}
use Rattle.radical_forms.proofs.roots.reduce_root.Goals.{After-rational-q, After-kind}
use Rattle.radical_forms.proofs.roots.reduce_root.Goals as goal

pub child_id-argument-requires-clause-within : goal.child_id-argument-requires-clause-within
child_id-argument-requires-clause-within c = rw c.id.ensures (has_child c.requires.stands c.requires.handed c.requires.root)

argument_is : (c : After-rational-q) → argument_of (tree_of c.args.root c.args.pool.now) ≡ num (value_of c.rational-q.result)
argument_is c =
    argument_at c.args.root c.child_id-argument.result c.id.result c.args.pool.now c.requires.stands c.requires.handed c.requires.root c.id.ensures c.child_id-argument.ensures.plain
    ∙ c.rational-q.ensures.plain

pub root_of_rational-requires-clause-root : goal.root_of_rational-requires-clause-root
root_of_rational-requires-clause-root c = root_is (tree_of c.args.root c.args.pool.now) c.requires.root ∙ ap root (argument_is (goal.at.root_of_rational-requires-clause-root c).After-rational-q)

pub returns-in-Num : goal.returns-in-Num
returns-in-Num c =
    let r = c.root_of_rational.ensures in
    let argument = argument_is (goal.at.returns-in-Num c).After-rational-q in
    let is = root_is (tree_of c.args.root c.args.pool.now) c.requires.root ∙ ap root argument in
    rw argument (record {
      ok = r.ok;
      overflows = r.overflows;
      named = r.named;
      measured = r.measured;
      bits = λ few. not_refused c.root_of_rational.result (λ o. no_wide (num (value_of c.rational-q.result)) few (r.overflows.0 o));
      room = r.room;
      first_lack = r.first_lack;
      full_of_a_rational = λ full. refl;
      full_below_96_bytes = r.full_below_96_bytes;
      front = r.front;
      kept = r.kept;
      faults = r.faults;
      caused = r.caused;
      spanned = λ gs s. spans_answer gs _ _ c.root_of_rational.result _ c.root_of_rational.new.pool r.ok is s;
      spanned_alone = λ q e h. spans_answer _ _ _ c.root_of_rational.result _ c.root_of_rational.new.pool r.ok refl (spans_root_of q _ e h);
      stands = r.stands;
    })

kind_is : (c : After-kind) → c.kind.result ≡ root_kind (argument_of (tree_of c.args.root c.args.pool.now))
kind_is c =
    let e = c.child_id-argument.ensures.expression (rw c.id.ensures (expression_root c.requires.stands c.requires.handed)) in
    c.kind.ensures.plain e ∙ ap root_kind (sym (argument_at c.args.root c.child_id-argument.result c.id.result c.args.pool.now c.requires.stands c.requires.handed c.requires.root c.id.ensures c.child_id-argument.ensures.plain))

pub returns-in-Undef : goal.returns-in-Undef
returns-in-Undef c =
    let is = undef_by_kind _ (sym (kind_is (goal.at.returns-in-Undef c).After-kind) ∙ c.in-Undef.is) in
    let told = given_told c.undefined.ensures.gives in
    record {
      ok = gives_as c.undefined.ensures.gives refl (λ t e. answer_as is e no_argument_answer);
      overflows = (λ x. absurd x, λ w. no_other_wide _ (ap is_num is) w);
      named = tt;
      measured = other_rational _ _ (ap is_num is);
      bits = λ few. tt;
      room = omega (arith, ap size told, least_size (tree_of c.args.root c.args.pool.now));
      first_lack = tt;
      full_of_a_rational = λ x. absurd x;
      full_below_96_bytes = λ x. absurd x;
      front = search rules;
      kept = search rules;
      faults = tt;
      caused = tt;
      spanned = λ gs s. subst (SpansTree gs) (sym told) tt;
      spanned_alone = λ q e h. subst (SpansTree (natural_of q.num * q.den ∷ [])) (sym told) tt;
      stands = search rules;
    }

pub returns-in_default : goal.returns-in_default
returns-in_default c =
    let kind_of = kind_is (goal.at.returns-in_default c).After-kind in
    let tree : Tree = tree_of c.args.root c.args.pool.now in
    let no_num : is_num (argument_of tree) ≡ false = no_num_by_kind (argument_of tree) (λ k. c.in_default.not-Num (kind_of ∙ k)) in
    let no_undef : is_undef (argument_of tree) ≡ false = no_undef_by_kind (argument_of tree) (λ k. c.in_default.not-Undef (kind_of ∙ k)) in record {
      ok = gives c.move_last.ensures.last (represents_handed c.requires.handed) (answer_as refl (root_is tree c.requires.root) (other_answer (argument_of tree) no_num no_undef c.requires.reduced));
      overflows = (λ x. absurd x, λ w. no_other_wide (argument_of tree) no_num w);
      named = tt;
      measured = other_rational (argument_of tree) _ no_num;
      bits = λ few. tt;
      room = let same : size (tree_of c.args.root c.move_last.new.pool) ≡ size tree = ap (λ (f : Forest). size (plain f)) (last_tree c.move_last.ensures.last) in omega (arith, same);
      first_lack = tt;
      full_of_a_rational = λ x. absurd x;
      full_below_96_bytes = λ x. absurd x;
      front = front_end c.move_last.ensures.last (front_without behind_first front_same);
      kept = c.move_last.ensures.kept;
      faults = tt;
      caused = tt;
      spanned = λ gs s. subst (λ (f : Forest). SpansTree gs (plain f)) (sym (last_tree c.move_last.ensures.last)) s;
      spanned_alone = λ q e h. absurd (cc (ap is_num e, no_num));
      stands = c.move_last.ensures.stands;
    }
