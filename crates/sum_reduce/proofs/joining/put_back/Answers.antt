use Rattle.sum_reduce.proofs.Shared.{◌≡◌, ◌∙◌, ap, arith, ◌^◌, length, sym, subst, ◌∷◌, rules, is_reduced, more, none, Tree, size, nth, with_coefficient, factors_of, IsMonic, inserted, removed}
use Rattle.sum_reduce.proofs.Shared.{forest, Forest, tree_of, without_root, children_of, given_handed, given_told, eqb-sym, terms_in, passed_named, put_as, is_number, value, counted, SpansTree}
use Rattle.sum_reduce.proofs.{Shared.{put_room, passed_lacks, HaveFewBits, addend, plain, count, tree-without, as_before, hole_beside, hole_stays}, Sums.{IsChanged, filled, sum_beside, beside_front}}
use Rattle.sum_reduce.proofs.{PutsFit.{put_fits}, joining.put_back.Goals.{After-fill}}
use Rattle.sum_reduce.proofs.joining.put_back.Goals as goal

pub open_child-hole-requires : goal.open_child-hole-requires
open_child-hole-requires c = record { stands = search rules; handed = c.requires.sum.handed; within = c.requires.within }

pub put_coefficient-requires : goal.put_coefficient-requires
put_coefficient-requires c =
    let child = c.open_child-hole.ensures.child in
    let b = as_before c.open_child-hole.ensures.hole child (eqb-sym c.args.coefficient c.args.sum.now c.requires.apart) c.requires.handed in
    record { stands = search rules; first = b.handed; second = given_handed child; apart = eqb-sym _ _ b.apart; reduced = ap is_reduced (given_told child) ∙ c.requires.reduced }

pub fill-requires : goal.fill-requires
fill-requires c =
    let g = c.in_ok-term.ensures.ok in
    record {
      stands =
          search rules;
      hole =
          (_, _, _, hole_stays g (hole_beside c.args.coefficient (eqb-sym c.args.coefficient c.args.sum.now c.requires.apart) c.open_child-hole.ensures.hole));
      handed = given_handed g;
    }

-- the term stands where its part did
put : (c : After-fill) → IsChanged c.args.sum.now (inserted c.args.at (more (with_coefficient (tree_of c.args.coefficient c.args.pool.now) (nth c.args.at (terms_in c.args.sum.now (forest c.args.pool.now)))) none) (removed c.args.at (terms_in c.args.sum.now (forest c.args.pool.now))))
    (without_root c.args.coefficient (forest c.args.pool.now)) (forest c.fill.new.pool)
put c =
    let clear = eqb-sym c.args.coefficient c.args.sum.now c.requires.apart in
    let o = c.open_child-hole.ensures.hole in
    let child = c.open_child-hole.ensures.child in
    let g = c.in_ok-term.ensures.ok in
    let told = given_told g ∙ (λ x. with_coefficient ((as_before o child clear c.requires.handed).same x) (given_told child x)) in
    let same : terms_in c.args.sum.now (without_root c.args.coefficient (forest c.args.pool.now)) ≡ terms_in c.args.sum.now (forest c.args.pool.now) = ap (λ (t : Forest). children_of (plain t)) (tree-without c.args.coefficient c.args.sum.now (forest c.args.pool.now) c.requires.apart) in
    let x = filled c.args.at (tree_of c.in_ok-term.term c.put_coefficient.new.pool) (sum_beside c.args.coefficient c.requires.apart c.requires.sum) (omega (arith, ap count same, c.requires.within)) (c.fill.ensures.changed _ _ _ (hole_stays g (hole_beside c.args.coefficient clear o))) in
    record { changes = x.changes; terms = x.terms ∙ (λ i. inserted c.args.at (more (told i) none) (removed c.args.at (same i))) }

pub returns-clause-ok : goal.returns-clause-ok
returns-clause-ok c = (put (goal.at.returns-clause-ok c).After-fill).changes

pub returns-clause-terms : goal.returns-clause-terms
returns-clause-terms c = (put (goal.at.returns-clause-terms c).After-fill).terms

pub returns-clause-front : goal.returns-clause-front
returns-clause-front c = beside_front (put (goal.at.returns-clause-front c).After-fill).changes

pub returns-in_err-term-clause-overflow : goal.returns-in_err-term-clause-overflow
returns-in_err-term-clause-overflow c =
    let child = c.open_child-hole.ensures.child in
    let b = as_before c.open_child-hole.ensures.hole child (eqb-sym c.args.coefficient c.args.sum.now c.requires.apart) c.requires.handed in
    passed_named c.from_residual.result c.in_err-term.field-0.0 _ _ c.from_residual.ensures.1 c.in_err-term.ensures.named (λ x h. put_as x b.same (given_told child) h)

pub returns-in_err-term-clause-room : goal.returns-in_err-term-clause-room
returns-in_err-term-clause-room c = λ gs n s t.
    let part = given_told c.open_child-hole.ensures.child in
    let same = (as_before c.open_child-hole.ensures.hole c.open_child-hole.ensures.child (eqb-sym c.args.coefficient c.args.sum.now c.requires.apart) c.requires.handed).same in
    passed_lacks c.from_residual.result c.in_err-term.field-0.0 _ _ c.from_residual.ensures.1
    (c.in_err-term.ensures.room gs (ap is_number same ∙ n) (subst (SpansTree gs) (sym same) s) (subst (SpansTree gs) (sym part) t))
    (λ full l. omega (arith, l, c.open_child-hole.ensures.free, ap size same, ap size part, ap (λ (x : Tree). put_room (counted x) (2 ^ length gs)) part))

pub returns-in_err-term-clause-bits : goal.returns-in_err-term-clause-bits
returns-in_err-term-clause-bits c = λ xs m b.
    let part = given_told c.open_child-hole.ensures.child in
    let same = (as_before c.open_child-hole.ensures.hole c.open_child-hole.ensures.child (eqb-sym c.args.coefficient c.args.sum.now c.requires.apart) c.requires.handed).same in
    passed_named c.from_residual.result c.in_err-term.field-0.0 (λ o. ⊥) (λ o. ⊥) c.from_residual.ensures.1
    (put_fits c.in_err-term.field-0.0 c.put_coefficient.new.pool _ _ xs c.in_err-term.ensures.named c.in_err-term.ensures.caused (subst IsMonic (sym part) m)
    (subst HaveFewBits (λ i. addend (value (sym same i)) (factors_of (sym part i)) ∷ xs) b)) (λ x h. h)
