use Rattle.expand_forms.proofs.Shared.{◌≡◌, ◌<◌, ◌++◌, ◌∷◌, [], ℕ, suc, length, take, true, subst, sym, ap, ◌∙◌, arith, length-append, Tree, Trees, count, forest, is_add, kids_of, more, none, normal}
use Rattle.expand_forms.proofs.Shared.{◌≤◌, IsListOf, nth, plain, polynomial_of, rest_trees, root_ids, root_kind, sum_kind, terms_in, tree_at, next_child, last_child, on_ok_weaker}
use Rattle.expand_forms.proofs.{ReadTerms.{IsNextSummand, alone_is, count_is, listed_all, listed_none, summand_at}, TermReadings.{sum_terms_in}, reading.read_terms.Goals.{in-Add, in_default, In-Some}}
use Rattle.expand_forms.proofs.reading.read_terms.Goals.{Else-term_count-eq0}
use Rattle.expansions.specs.Named.{names_of}
use Rattle.calc_terms.specs.declared.kind.Kind.TheVariants as kind
use Rattle.expand_forms.proofs.reading.read_terms.Goals as goal

-- ---- a sum

pub loop-term-init : goal.loop-term-init
loop-term-init c = record {
  ids = c.into_iter-term-iterator.ensures.into_iter_gives ∙ c.child_ids-term-items.ensures;
  listed = listed_none c.args.names.now c.requires.names c.requires.few c.clear.ensures.items;
}

module _ (c : In-Some) where
  abbrev t : Tree
  t = plain (tree_at c.args.tree (forest c.args.pool.now))

  abbrev i : ℕ
  i = length c.loop-term.yielded

  is_sum : is_add t ≡ true
  is_sum =
      elim c.match-matches.branch [
        | in-Add w ↦ sum_kind t (sym w.in-Add.is ∙ c.kind.ensures.plain c.requires.expression)
        | in_default w ↦ absurd (let e = sym w.matches-is ∙ c.if-matches.true in cc)
      ]

  next : IsNextSummand (names_of c.args.names.now) (normal (polynomial_of t)) i (plain (tree_at c.in-Some.term (forest c.args.pool.now)))
  next =
      let n = next_child c.requires.stands c.requires.expression c.loop-term.invariant.ids c.in-Some.ensures.steps in
      let terms = sym (sum_terms_in t is_sum) in
      summand_at (names_of c.args.names.now) t c.requires.expanded c.requires.named i (plain (tree_at c.in-Some.term (forest c.args.pool.now))) (subst (λ (ts : Trees). i < count ts) terms n.within)
      (n.tree ∙ ap (nth i) terms)

pub add_term-requires : goal.add_term-requires
add_term-requires c = let k = (goal.at.add_term-requires c).In-Some in let x = next k in record {
  stands = c.requires.stands;
  expression = (next_child c.requires.stands c.requires.expression c.loop-term.invariant.ids c.in-Some.ensures.steps).expression;
  listed = (x.summand-is, take (i k) (normal (polynomial_of (t k))), x.is, c.loop-term.invariant.listed);
}

pub loop-term-preserved : goal.loop-term-preserved
loop-term-preserved c =
    let k = (goal.at.loop-term-preserved c).In-Some in
    let x = next k in
    let v = normal (polynomial_of (t k)) in
    let n = next_child c.requires.stands c.requires.expression c.loop-term.invariant.ids c.in-Some.ensures.steps in
    let more : suc (i k) ≡ length (c.loop-term.yielded ++ c.in-Some.term ∷ []) = omega (arith, length-append c.loop-term.yielded (c.in-Some.term ∷ [])) in
    record {
      ids = n.left-are ∙ ap (λ (j : ℕ). root_ids (rest_trees j (kids_of c.args.tree (forest c.args.pool.now)))) more;
      listed = subst (IsListOf (names_of c.args.names.now) c.add_term.new.list.items) (sym x.more ∙ ap (λ (j : ℕ). take j v) more)
          (c.in_ok-add_term.ensures.listed x.summand-is (take (i k) v) x.is c.loop-term.invariant.listed);
    }

pub returns-then-matches : goal.returns-then-matches
returns-then-matches c =
    let t = plain (tree_at c.args.tree (forest c.args.pool.now)) in
    let m : is_add t ≡ true = elim c.match-matches.branch [
      | in-Add w ↦ sum_kind t (sym w.in-Add.is ∙ c.kind.ensures.plain c.requires.expression)
      | in_default w ↦ absurd (let e = sym w.matches-is ∙ c.if-matches.true in cc)
    ] in
    let last = last_child c.requires.stands c.requires.expression c.loop-term.invariant.ids c.in-None.ensures.steps.0 in
    record { terms = listed_all t (omega (arith, last, ap count (sum_terms_in t m), count_is (names_of c.args.names.now) t c.requires.expanded c.requires.named)) c.loop-term.invariant.listed }

-- ---- 0, or a term

pub returns-then-term_count-eq0 : goal.returns-then-term_count-eq0
returns-then-term_count-eq0 c =
    let t = plain (tree_at c.args.tree (forest c.args.pool.now)) in
    let none : length (normal (polynomial_of t)) ≤ 0 = omega (arith, c.term_count.ensures, c.if-term_count-eq0.true, count_is (names_of c.args.names.now) t c.requires.expanded c.requires.named) in
    record { terms = listed_all {i = 0} t none (listed_none c.args.names.now c.requires.names c.requires.few c.clear.ensures.items) }

module _ (c : Else-term_count-eq0) where
  abbrev u : Tree
  u = plain (tree_at c.args.tree (forest c.args.pool.now))

  no_sum : kind.Add ≡ root_kind u → ⊥
  no_sum e =
      elim c.match-matches.branch [
        | in-Add w ↦ (let z = sym w.matches-is ∙ c.if-matches.false in absurd cc)
        | in_default w ↦ w.in_default.not-Add (c.kind.ensures.plain c.requires.expression ∙ sym e)
      ]

  alone : terms_in u ≡ more u none
  alone = alone_is u no_sum (λ e. c.if-term_count-eq0.false (c.term_count.ensures ∙ e))

  only : IsNextSummand (names_of c.args.names.now) (normal (polynomial_of u)) 0 u
  only = summand_at (names_of c.args.names.now) u c.requires.expanded c.requires.named 0 u (omega (arith, ap count alone)) (sym (ap (nth 0) alone))

pub add_term-requires-2-clause-listed : goal.add_term-requires-2-clause-listed
add_term-requires-2-clause-listed c =
    let x = only (goal.at.add_term-requires-2-clause-listed c).Else-term_count-eq0 in (x.summand-is, [], x.is, listed_none c.args.names.now c.requires.names c.requires.few c.clear.ensures.items)

pub returns : goal.returns
returns c =
    let k = (goal.at.returns c).Else-term_count-eq0 in
    let x = only k in
    let one : length (normal (polynomial_of (u k))) ≤ 1 = omega (arith, count_is (names_of c.args.names.now) (u k) c.requires.expanded c.requires.named, ap count (alone k)) in record {
      terms = on_ok_weaker c.add_term-2.result (λ l. listed_all {i = 1} (u k) one (subst (IsListOf (names_of c.args.names.now) c.add_term-2.new.list.items) (sym x.more) l))
          (c.add_term-2.ensures.listed x.summand-is [] x.is (listed_none c.args.names.now c.requires.names c.requires.few c.clear.ensures.items));
    }
