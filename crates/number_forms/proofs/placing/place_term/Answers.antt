use Rattle.number_forms.proofs.Shared.{◌≡◌, ◌↔◌, subst, ◌≤◌, sym, ap, ◌∙◌, false, pos, IsOk, IfErr, Err, is_one_fraction, one_is, whole_fraction, value_of, Tree, num, root, mult, more, none, size}
use Rattle.number_forms.proofs.{Shared.{term_tree, root_size, free_of, building, term_of}, ListedTerms.{term_told}}
use Rattle.number_forms.proofs.{Placings.{exact, multiple_term, number_lacks, one_test, rational_term, root_term, told_tree}, TermTrees.{if_gives}}
use Rattle.number_forms.proofs.placing.place_term.Goals.{After-radicand-then-is_one, After-radicand-else-is_one}
use Rattle.number_forms.proofs.placing.place_term.Goals as goal

-- the coefficient is 1, and the root stands alone
rooted : (c : After-radicand-then-is_one) → root (num (whole_fraction (pos c.radicand-then-is_one.result))) ≡ term_tree (term_of c.args.term)
rooted c =
    let one = one_is (value_of c.coefficient-coefficient.result) (sym c.is_one.ensures ∙ c.if-is_one.true) in
    ap (λ n. root (num (whole_fraction (pos n)))) c.radicand-then-is_one.ensures.value
    ∙ sym (root_term (term_of c.args.term) (λ k. c.if-radicand-eq1.false (c.radicand.ensures.value ∙ k)) (sym c.coefficient-coefficient.ensures.value ∙ one))

-- it is another
multiplied : (c : After-radicand-else-is_one)
    → mult (more (num (value_of c.coefficient-coefficient.result)) (more (root (num (whole_fraction (pos c.radicand-else-is_one.result)))) none)) ≡ term_tree (term_of c.args.term)
multiplied c =
    let other : is_one_fraction (value_of c.coefficient-coefficient.result) ≡ false = sym c.is_one.ensures ∙ c.if-is_one.false in
    (λ i. mult (more (num (c.coefficient-coefficient.ensures.value i)) (more (root (num (whole_fraction (pos (c.radicand-else-is_one.ensures.value i))))) none)))
    ∙ sym (multiple_term (term_of c.args.term) (λ k. c.if-radicand-eq1.false (c.radicand.ensures.value ∙ k))
    (λ k. cc (ap is_one_fraction (c.coefficient-coefficient.ensures.value ∙ k) ∙ one_test, other)))

pub returns-then-radicand-eq1-clause-ok : goal.returns-then-radicand-eq1-clause-ok
returns-then-radicand-eq1-clause-ok c = if_gives c.number.result _ _ _ _ c.number.ensures.given
    (λ u e. term_told c.args.term (e ∙ ap num c.coefficient-coefficient.ensures.value ∙ sym (rational_term (term_of c.args.term) (sym c.radicand.ensures.value ∙ c.if-radicand-eq1.true))))

pub returns-then-is_one-clause-ok : goal.returns-then-is_one-clause-ok
returns-then-is_one-clause-ok c =
    if_gives c.place_root.result _ _ _ _ c.place_root.ensures.ok (λ u e. term_told c.args.term (e ∙ rooted (goal.at.returns-then-is_one-clause-ok c).After-radicand-then-is_one))

pub returns-else-is_one-clause-ok : goal.returns-else-is_one-clause-ok
returns-else-is_one-clause-ok c =
    if_gives c.place_multiple.result _ _ _ _ c.place_multiple.ensures.ok (λ u e. term_told c.args.term (e ∙ multiplied (goal.at.returns-else-is_one-clause-ok c).After-radicand-else-is_one))

-- ---- exactly where the bytes suffice

pub returns-then-radicand-eq1-clause-exactly : goal.returns-then-radicand-eq1-clause-exactly
returns-then-radicand-eq1-clause-exactly c =
    subst (λ (t : Tree). IsOk c.number.result ↔ (size t ≤ free_of c.args.pool.now))
    (ap num c.coefficient-coefficient.ensures.value ∙ sym (rational_term (term_of c.args.term) (sym c.radicand.ensures.value ∙ c.if-radicand-eq1.true))) c.number.ensures.exactly

pub returns-then-is_one-clause-exactly : goal.returns-then-is_one-clause-exactly
returns-then-is_one-clause-exactly c = subst (λ (t : Tree). IsOk c.place_root.result ↔ (size t ≤ free_of c.args.pool.now)) (rooted (goal.at.returns-then-is_one-clause-exactly c).After-radicand-then-is_one)
    (exact _ c.place_root.result c.requires.stands c.place_root.ensures.safe.stands c.place_root.ensures.safe.kept c.place_root.ensures.ok c.place_root.ensures.first_lack)

pub returns-else-is_one-clause-exactly : goal.returns-else-is_one-clause-exactly
returns-else-is_one-clause-exactly c = subst (λ (t : Tree). IsOk c.place_multiple.result ↔ (size t ≤ free_of c.args.pool.now)) (multiplied (goal.at.returns-else-is_one-clause-exactly c).After-radicand-else-is_one)
    (exact _ c.place_multiple.result c.requires.stands c.place_multiple.ensures.safe.stands c.place_multiple.ensures.safe.kept c.place_multiple.ensures.ok c.place_multiple.ensures.first_lack)

pub returns-then-is_one-clause-first_lack : goal.returns-then-is_one-clause-first_lack
returns-then-is_one-clause-first_lack c = subst (λ (t : Tree). IfErr c.place_root.result (λ full. building (free_of c.args.pool.now) t ≡ Err full))
    (rooted (goal.at.returns-then-is_one-clause-first_lack c).After-radicand-then-is_one) c.place_root.ensures.first_lack

pub returns-else-is_one-clause-first_lack : goal.returns-else-is_one-clause-first_lack
returns-else-is_one-clause-first_lack c = subst (λ (t : Tree). IfErr c.place_multiple.result (λ full. building (free_of c.args.pool.now) t ≡ Err full))
    (multiplied (goal.at.returns-else-is_one-clause-first_lack c).After-radicand-else-is_one) c.place_multiple.ensures.first_lack

pub returns-then-radicand-eq1-clause-first_lack : goal.returns-then-radicand-eq1-clause-first_lack
returns-then-radicand-eq1-clause-first_lack c =
    subst (λ (t : Tree). IfErr c.number.result (λ full. building (free_of c.args.pool.now) t ≡ Err full))
    (ap num c.coefficient-coefficient.ensures.value ∙ sym (rational_term (term_of c.args.term) (sym c.radicand.ensures.value ∙ c.if-radicand-eq1.true)))
    (number_lacks c.args.pool.now c.number.new.pool (root_size (num (value_of c.coefficient-coefficient.result))) c.number.result c.number.ensures.full)

-- ---- the very tree

pub returns-then-radicand-eq1-clause-tree : goal.returns-then-radicand-eq1-clause-tree
returns-then-radicand-eq1-clause-tree c = told_tree c.number.result _ c.number.new.pool _ _ c.number.ensures.given
    (ap num c.coefficient-coefficient.ensures.value ∙ sym (rational_term (term_of c.args.term) (sym c.radicand.ensures.value ∙ c.if-radicand-eq1.true)))

pub returns-then-is_one-clause-tree : goal.returns-then-is_one-clause-tree
returns-then-is_one-clause-tree c = told_tree c.place_root.result _ c.place_root.new.pool _ _ c.place_root.ensures.ok (rooted (goal.at.returns-then-is_one-clause-tree c).After-radicand-then-is_one)

pub returns-else-is_one-clause-tree : goal.returns-else-is_one-clause-tree
returns-else-is_one-clause-tree c =
    told_tree c.place_multiple.result _ c.place_multiple.new.pool _ _ c.place_multiple.ensures.ok (multiplied (goal.at.returns-else-is_one-clause-tree c).After-radicand-else-is_one)
