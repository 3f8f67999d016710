use Rattle.number_forms.proofs.Shared.{◌≡◌, ℕ, pos, Err, ◌∙◌, refl, ap, [], ◌∷◌, whole_fraction, value_of, num, root, mult, more, none, Rat, given_handed, Full, building, passed_on, kept_after}
use Rattle.number_forms.proofs.{Placings.{first_lacks, second_lacks, parent_lacks, lacking}, Pairs.{first_handed, pair_apart, pair_rest, pair_trees, pair_front}, Rooms.{refusal_as}}
use Rattle.number_forms.proofs.{Refusals.{none_given}, TermTrees.{if_given}, Safety.{after_placing, one_placed, passed_placing, refused_placing, then_placing}}
use Rattle.number_forms.proofs.placing.place_multiple.Goals as goal

pub node_over_two-requires : goal.node_over_two-requires
node_over_two-requires c =
    let rational = c.in_ok-rational.ensures.given in let root = c.in_ok-root.ensures.ok in
    record { stands = c.place_root.ensures.safe.stands; takes = refl; first = first_handed rational root; second = given_handed root; apart = pair_apart _ _ rational root }

-- ---- the first node that lacks bytes

abbrev Short : ℕ → Rat → ℕ → Full → Type 0
Short free q r full = building free (mult (more (num (value_of q)) (more (root (num (whole_fraction (pos r)))) none))) ≡ Err full

pub returns-in_err-rational : goal.returns-in_err-rational
returns-in_err-rational c = let r = c.from_residual.result in let e = c.in_err-rational.field-0.0 in let said = c.from_residual.ensures in let lack = c.in_err-rational.ensures.full in record {
  ok = none_given r _ said.0;
  first_lack = passed_on r e _ said.0 said.1 (first_lacks _ (num (value_of c.args.coefficient)) (root (num (whole_fraction (pos c.args.radicand)))) (8 ∷ []) (lacking [] lack));
  safe = refused_placing r e said.0 said.1 c.in_err-rational.ensures.full c.number.ensures.stands;
}

pub returns-in_err-root : goal.returns-in_err-root
returns-in_err-root c =
    let r = c.from_residual-in_err-root.result in let e = c.in_err-root.field-0.0 in let said = c.from_residual-in_err-root.ensures in let lack = c.in_err-root.ensures in record {
      ok = none_given r _ said.0;
      first_lack = passed_on r e _ said.0 said.1 (second_lacks c.requires.stands c.number.ensures.stands c.in_ok-rational.ensures.kept c.in_ok-rational.ensures.given
          (root (num (whole_fraction (pos c.args.radicand)))) (8 ∷ []) lack.first_lack);
      safe = after_placing c.in_ok-rational.ensures.kept c.number.ensures.front (passed_placing r e said.0 said.1 c.in_err-root.ensures.safe);
    }

pub returns : goal.returns
returns c = record {
  ok = let rational = c.in_ok-rational.ensures.given in let root = c.in_ok-root.ensures.ok in
      if_given _ _ _ _ _ c.node_over_two.result c.node_over_two.ensures.ok (pair_rest rational root) (λ t e. e ∙ ap mult (pair_trees _ _ rational root));
  first_lack = refusal_as c.node_over_two.result c.node_over_two.ensures.full
      (λ full f. parent_lacks c.requires.stands c.number.ensures.stands c.in_ok-rational.ensures.kept c.in_ok-rational.ensures.given
      c.place_root.ensures.safe.stands c.in_ok-root.ensures.safe.kept c.in_ok-root.ensures.ok f);
  safe = then_placing (kept_after c.in_ok-rational.ensures.kept c.in_ok-root.ensures.safe.kept) (pair_front c.in_ok-rational.ensures.given c.in_ok-root.ensures.ok c.number.ensures.front c.place_root.ensures.safe.front c.node_over_two.ensures.front) (one_placed _ c.node_over_two.result c.node_over_two.ensures.kept c.node_over_two.ensures.full c.node_over_two.ensures.front c.node_over_two.ensures.stands);
}
