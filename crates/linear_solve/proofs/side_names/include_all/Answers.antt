use Rattle.linear_solve.proofs.{Shared.{◌≡◌, ◌+◌, ◌++◌, [], ◌∷◌, ℕ, suc, List, take, sym, ap, ◌∙◌, subst, arith, take-suc, Contains, names_at, forest}, RisingLemmas.{includes_as, includes_both}}
use Rattle.linear_solve.proofs.RisingLemmas.{includes_wider, names_at-in, names_at-push}
use Rattle.linear_solve.proofs.side_names.include_all.Goals as goal

pub returns-then-not-include_names-clause-included : goal.returns-then-not-include_names-clause-included
returns-then-not-include_names-clause-included c =
    let next : take (suc c.loop-at.at) c.args.roots.now ≡ take c.loop-at.at c.args.roots.now ++ c.index-roots-at.result ∷ []
    = take-suc c.args.roots.now c.loop-at.at c.index-roots-at.result c.loop-at-test.true ∙ ap (λ (i : ℕ). take c.loop-at.at c.args.roots.now ++ i ∷ []) (sym c.index-roots-at.is) in
    includes_wider
    (λ x m. names_at-in (forest c.args.pool.now) (suc c.loop-at.at) c.args.roots.now x
    (subst (λ (xs : List (List ℕ)). Contains xs x) (sym (ap (names_at (forest c.args.pool.now)) next ∙ names_at-push (forest c.args.pool.now) (take c.loop-at.at c.args.roots.now) c.index-roots-at.result)) m))
    (includes_both c.loop-at.invariant.included c.if-not-include_names.ensures.included)

pub loop-at-preserved : goal.loop-at-preserved
loop-at-preserved c =
    let next : take (suc c.loop-at.at) c.args.roots.now ≡ take c.loop-at.at c.args.roots.now ++ c.index-roots-at.result ∷ []
    = take-suc c.args.roots.now c.loop-at.at c.index-roots-at.result c.loop-at-test.true ∙ ap (λ (i : ℕ). take c.loop-at.at c.args.roots.now ++ i ∷ []) (sym c.index-roots-at.is) in
    let one : suc c.loop-at.at ≡ c.loop-at.at + 1 = omega arith in
    record {
      rises = c.if-not-include_names.ensures.rises;
      included = includes_as (sym (ap (names_at (forest c.args.pool.now)) next ∙ names_at-push (forest c.args.pool.now) (take c.loop-at.at c.args.roots.now) c.index-roots-at.result) ∙ ap (λ (n : ℕ). names_at (forest c.args.pool.now) (take n c.args.roots.now)) one)
          (includes_both c.loop-at.invariant.included c.if-not-include_names.ensures.included);
    }
