use Rattle.expand_forms.proofs.Shared.{◌≡◌, ◌<◌, ◌≤◌, ◌++◌, ◌∷◌, ◌∙◌, [], ℕ, suc, length, map, take, true, refl, sym, ap, subst, arith, length-append, Tree, Trees, count, forest, is_add}
use Rattle.expand_forms.proofs.Shared.{kids_of, name_of, names, nth, plain, polynomial_of, normal, rest_trees, root_ids, root_kind, same_normal, sum_kind, tree_at, value_of, Polynomial}
use Rattle.expand_forms.proofs.Shared.{next_child, last_child, zero_value, taken_all}
use Rattle.expand_forms.proofs.{NotedPowers.{AreUpTo, IsNextPower, IsOnly, all_coefficients, among_one, last_coefficient, next_above, next_up_to, none_above, none_up_to, only_above, only_term, only_up_to, power_at}}
use Rattle.expand_forms.proofs.{ReadTerms.{count_is}, TermReadings.{sum_terms_in}, powers.powers_of.Goals.{in-Add, in_default, In-Some, Then-not-matches}}
use Rattle.calc_terms.specs.declared.kind.Kind.TheVariants as kind
use Rattle.expand_forms.proofs.powers.powers_of.Goals as goal

-- ---- 0, or a term

module _ (c : Then-not-matches) where
  abbrev t : Tree
  t = plain (tree_at c.args.expanded (forest c.args.pool.now))

  no_sum : kind.Add ≡ root_kind t → ⊥
  no_sum e =
      elim c.match-matches.branch [
        | in-Add w ↦ (let z = sym w.matches-is ∙ c.if-not-matches.true in absurd cc)
        | in_default w ↦ w.in_default.not-Add (c.kind.ensures.plain c.requires.expression ∙ sym e)
      ]

  only : IsOnly (name_of c.args.name ∷ []) t
  only = only_term (name_of c.args.name ∷ []) t c.requires.expanded (among_one (name_of c.args.name) (names t) c.requires.one_name) no_sum

pub note_term-requires-clause-term : goal.note_term-requires-clause-term
note_term-requires-clause-term c = let o = only (goal.at.note_term-requires-clause-term c).Then-not-matches in (o.summand-is, o.is)

pub returns-in_err-note_term-clause-none : goal.returns-in_err-note_term-clause-none
returns-in_err-note_term-clause-none c =
    let k = (goal.at.returns-in_err-note_term-clause-none c).Then-not-matches in
    let o = only k in
    (λ e. only_above (name_of c.args.name) (t k) o (c.in_err-note_term.ensures o.summand-is o.is), λ h. c.from_residual.ensures)

pub overflow_add-result : goal.overflow_add-result
overflow_add-result c = let o = only (goal.at.overflow_add-result c).Then-not-matches in record { fits = omega (arith, (c.in_ok-note_term.ensures o.summand-is o.is).0.0) }

pub returns-then-not-matches : goal.returns-then-not-matches
returns-then-not-matches c =
    let k = (goal.at.returns-then-not-matches c).Then-not-matches in
    let o = only k in
    let x = name_of c.args.name in
    let cs = c.note_term.new.coefficients in
    let up = only_up_to x (t k) o _ cs c.whole-coefficients.result c.in_ok-note_term.field-0 refl (zero_value c.whole-coefficients.result c.whole-coefficients.ensures) (c.in_ok-note_term.ensures o.summand-is o.is) in
    record {
      some = (omega arith, omega (arith, up.few), all_coefficients cs up o.same);
      leading = last_coefficient cs up o.same;
      none = (λ e. cc, λ h. absurd (none_above cs up o.same h));
    }

-- ---- a sum

pub loop-term-init : goal.loop-term-init
loop-term-init c = record {
  ids = c.into_iter-term-iterator.ensures.into_iter_gives ∙ c.child_ids-term-items.ensures;
  noted = none_up_to (name_of c.args.name) _ c.whole-coefficients.result refl (zero_value c.whole-coefficients.result c.whole-coefficients.ensures);
}

module _ (c : In-Some) where
  abbrev u : Tree
  u = plain (tree_at c.args.expanded (forest c.args.pool.now))

  abbrev i : ℕ
  i = length c.loop-term.yielded

  is_sum : is_add u ≡ true
  is_sum =
      elim c.match-matches.branch [
        | in-Add w ↦ sum_kind u (sym w.in-Add.is ∙ c.kind.ensures.plain c.requires.expression)
        | in_default w ↦ absurd (let e = sym w.matches-is ∙ c.if-not-matches.false in cc)
      ]

  next : IsNextPower (name_of c.args.name ∷ []) (normal (polynomial_of u)) i (plain (tree_at c.in-Some.term (forest c.args.pool.now)))
  next =
      let n = next_child c.requires.stands c.requires.expression c.loop-term.invariant.ids c.in-Some.ensures.steps in
      let terms = sym (sum_terms_in u is_sum) in
      power_at (name_of c.args.name ∷ []) u c.requires.expanded (among_one (name_of c.args.name) (names u) c.requires.one_name) i (plain (tree_at c.in-Some.term (forest c.args.pool.now)))
      (subst (λ (ts : Trees). i < count ts) terms n.within) (n.tree ∙ ap (nth i) terms)

  more : suc i ≡ length (c.loop-term.yielded ++ c.in-Some.term ∷ [])
  more = omega (arith, length-append c.loop-term.yielded (c.in-Some.term ∷ []))

pub note_term-requires-in-loop-term : goal.note_term-requires-in-loop-term
note_term-requires-in-loop-term c = let p = next (goal.at.note_term-requires-in-loop-term c).In-Some in record {
  stands = c.requires.stands;
  expression = (next_child c.requires.stands c.requires.expression c.loop-term.invariant.ids c.in-Some.ensures.steps).expression;
  term = (p.summand-is, p.is);
}

pub returns-in_err-note_term-2-clause-none : goal.returns-in_err-note_term-2-clause-none
returns-in_err-note_term-2-clause-none c =
    let k = (goal.at.returns-in_err-note_term-2-clause-none c).In-Some in
    let p = next k in
    (λ e. next_above (name_of c.args.name) (u k) _ (i k) p (c.in_err-note_term-2.ensures p.summand-is p.is), λ h. c.from_residual-in_err-note_term-2.ensures)

pub loop-term-preserved : goal.loop-term-preserved
loop-term-preserved c =
    let k = (goal.at.loop-term-preserved c).In-Some in
    let p = next k in
    let n = next_child c.requires.stands c.requires.expression c.loop-term.invariant.ids c.in-Some.ensures.steps in
    let w = normal (polynomial_of (u k)) in
    let new = c.note_term-in-loop-term.new.coefficients in
    record {
      ids = n.left-are ∙ ap (λ (j : ℕ). root_ids (rest_trees j (kids_of c.args.expanded (forest c.args.pool.now)))) (more k);
      noted = subst (λ (j : ℕ). AreUpTo (name_of c.args.name) (take j w) (map value_of new) c.max-highest.result) (more k)
          (next_up_to (name_of c.args.name) w (i k) _ p c.loop-term.coefficients new c.loop-term.highest c.in_ok-note_term-2.field-0 c.max-highest.result c.loop-term.invariant.noted
          (c.in_ok-note_term-2.ensures p.summand-is p.is) c.max-highest.ensures);
    }

pub returns : goal.returns
returns c =
    let x = name_of c.args.name in
    let s = plain (tree_at c.args.expanded (forest c.args.pool.now)) in
    let m : is_add s ≡ true = elim c.match-matches.branch [
      | in-Add w ↦ sum_kind s (sym w.in-Add.is ∙ c.kind.ensures.plain c.requires.expression)
      | in_default w ↦ absurd (let e = sym w.matches-is ∙ c.if-not-matches.false in cc)
    ] in
    let last = last_child c.requires.stands c.requires.expression c.loop-term.invariant.ids c.in-None.ensures.steps.0 in
    let few : length (normal (polynomial_of s)) ≤ length c.loop-term.yielded =
    omega (arith, last, ap count (sum_terms_in s m), count_is (x ∷ []) s c.requires.expanded (among_one x (names s) c.requires.one_name)) in
    let up : AreUpTo x (normal (polynomial_of s)) (map value_of c.loop-term.coefficients) c.loop-term.highest =
    subst (λ (v : Polynomial). AreUpTo x v (map value_of c.loop-term.coefficients) c.loop-term.highest) (taken_all (normal (polynomial_of s)) (length c.loop-term.yielded) few)
    c.loop-term.invariant.noted in
    let same = same_normal (polynomial_of s) in
    record {
      some = (omega arith, omega (arith, up.few), all_coefficients c.loop-term.coefficients up same);
      leading = last_coefficient c.loop-term.coefficients up same;
      none = (λ e. cc, λ h. absurd (none_above c.loop-term.coefficients up same h));
    }
