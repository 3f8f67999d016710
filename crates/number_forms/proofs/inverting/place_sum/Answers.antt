use Rattle.number_forms.proofs.Shared.{◌≡◌, ℕ, Err, ◌∙◌, refl, ap, [], ◌∷◌, add, Gives, forest, given_handed, Full, building, passed_on, sum_of_terms, term_of, term_tree, kept_after}
use Rattle.number_forms.proofs.{Placings.{first_lacks, second_lacks, parent_lacks, given_is}, Pairs.{first_handed, pair_apart, pair_rest, pair_trees, pair_front}, Rooms.{refusal_as}}
use Rattle.number_forms.proofs.{Refusals.{none_given}, TermTrees.{if_given}, inverting.place_sum.Goals.{In_ok-first, In_ok-second}, Safety.{after_placing, lacked, one_placed, then_placing}}
use Rattle.surd_terms.specs.declared.term.Term.{Term}
use Rattle.number_forms.proofs.inverting.place_sum.Goals as goal

first : (c : In_ok-first) → Gives (forest c.args.pool.now) (forest c.place_term.new.pool) c.in_ok-first.first (λ t. t ≡ term_tree (term_of c.args.a))
first c = given_is c.in_ok-first.ensures.ok c.in_ok-first.ensures.tree

second : (c : In_ok-second) → Gives (forest c.place_term.new.pool) (forest c.place_term-2.new.pool) c.in_ok-second.second (λ t. t ≡ term_tree (term_of c.args.b))
second c = given_is c.in_ok-second.ensures.ok c.in_ok-second.ensures.tree

pub node_over_two-requires : goal.node_over_two-requires
node_over_two-requires c =
    let p = c.in_ok-first.ensures.ok in let q = c.in_ok-second.ensures.ok in
    record { stands = c.place_term-2.ensures.stands; takes = refl; first = first_handed p q; second = given_handed q; apart = pair_apart _ _ p q }

-- ---- the first node that lacks bytes

abbrev Short : ℕ → Term → Term → Full → Type 0
Short free a b full = building free (sum_of_terms (term_of a) (term_of b)) ≡ Err full

pub returns-in_err-first : goal.returns-in_err-first
returns-in_err-first c = let r = c.from_residual.result in let e = c.in_err-first.field-0.0 in let said = c.from_residual.ensures in let lack = c.in_err-first.ensures in record {
  ok = none_given r _ said.0;
  first_lack = passed_on r e _ said.0 said.1 (first_lacks _ (term_tree (term_of c.args.a)) (term_tree (term_of c.args.b)) (8 ∷ []) lack.first_lack);
  safe = lacked r e said.0 said.1 c.place_term.ensures.front c.in_err-first.ensures.full c.in_err-first.ensures.caused c.place_term.ensures.stands;
}

pub returns-in_err-second : goal.returns-in_err-second
returns-in_err-second c =
    let r = c.from_residual-in_err-second.result in let e = c.in_err-second.field-0.0 in let said = c.from_residual-in_err-second.ensures in let lack = c.in_err-second.ensures in record {
      ok = none_given r _ said.0;
      first_lack = passed_on r e _ said.0 said.1 (second_lacks c.requires.stands c.place_term.ensures.stands c.in_ok-first.ensures.kept (first (goal.at.returns-in_err-second c).In_ok-first)
          (term_tree (term_of c.args.b)) (8 ∷ []) lack.first_lack);
      safe = after_placing c.in_ok-first.ensures.kept c.place_term.ensures.front (lacked r e said.0 said.1 c.place_term-2.ensures.front c.in_err-second.ensures.full c.in_err-second.ensures.caused c.place_term-2.ensures.stands);
    }

pub returns : goal.returns
returns c = record {
  ok = let p = first (goal.at.returns c).In_ok-first in let q = second (goal.at.returns c).In_ok-second in
      if_given _ _ _ _ _ c.node_over_two.result c.node_over_two.ensures.ok (pair_rest p q) (λ t e. e ∙ ap add (pair_trees _ _ p q));
  first_lack = let at = goal.at.returns c in
      refusal_as c.node_over_two.result c.node_over_two.ensures.full (λ full f. parent_lacks c.requires.stands c.place_term.ensures.stands c.in_ok-first.ensures.kept (first at.In_ok-first)
      c.place_term-2.ensures.stands c.in_ok-second.ensures.kept (second at.In_ok-second) f);
  safe = then_placing (kept_after c.in_ok-first.ensures.kept c.in_ok-second.ensures.kept) (pair_front c.in_ok-first.ensures.ok c.in_ok-second.ensures.ok c.place_term.ensures.front c.place_term-2.ensures.front c.node_over_two.ensures.front) (one_placed _ c.node_over_two.result c.node_over_two.ensures.kept c.node_over_two.ensures.full c.node_over_two.ensures.front c.node_over_two.ensures.stands);
}
