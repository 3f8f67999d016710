use Rattle.number_forms.proofs.Shared.{◌≡◌, ℕ, pos, Err, ◌+◌, [], ◌∷◌, ap, sym, ◌∙◌, front_after_one, Fraction, whole_fraction, num, root, root_size, behind_new, front_same, given_handed}
use Rattle.number_forms.proofs.{Shared.{given_told, given_rest, free_of, Full, building, taking, passed_on}, Placings.{taken, lacking}, Rooms.{refusal_as}, TermTrees.{if_given}}
use Rattle.number_forms.proofs.{placing.place_root.Goals.{In_ok-rational}, Refusals.{none_given}, Safety.{one_placed, refused_placing, then_placing}}
use Rattle.tree_handles.proofs.SmallLaws.{grown_free as free_before}
use Rattle.number_forms.proofs.placing.place_root.Goals as goal

pub node_over-requires-clause-handed : goal.node_over-requires-clause-handed
node_over-requires-clause-handed c = given_handed c.in_ok-rational.ensures.given

-- the bytes of a number's node
abbrev bytes : Fraction → ℕ
bytes q = root_size (num q)

mid : (c : In_ok-rational) → free_of c.args.pool.now ≡ free_of c.number.new.pool + bytes (whole_fraction (pos c.args.radicand))
mid c = free_before c.requires.stands c.number.ensures.stands c.in_ok-rational.ensures.kept c.in_ok-rational.ensures.given ∙ ap (λ (q : Fraction). free_of c.number.new.pool + bytes q) c.whole.ensures

-- ---- the first node that lacks bytes

abbrev Short : ℕ → ℕ → Full → Type 0
Short free r full = building free (root (num (whole_fraction (pos r)))) ≡ Err full

pub returns-in_err-rational : goal.returns-in_err-rational
returns-in_err-rational c = let r = c.from_residual.result in let e = c.in_err-rational.field-0.0 in let said = c.from_residual.ensures in record {
  ok = none_given r _ said.0;
  first_lack = passed_on r e _ said.0 said.1 (ap (λ (q : Fraction). taking (free_of c.args.pool.now) (bytes q ∷ 8 ∷ [])) (sym c.whole.ensures) ∙ lacking (8 ∷ []) c.in_err-rational.ensures.full);
  safe = refused_placing r e said.0 said.1 c.in_err-rational.ensures.full c.number.ensures.stands;
}

pub returns : goal.returns
returns c = record {
  ok = let rational = c.in_ok-rational.ensures.given in
      if_given _ _ _ _ _ c.node_over.result c.node_over.ensures.ok (given_rest rational) (λ t e. e ∙ ap root (given_told rational ∙ ap num c.whole.ensures));
  first_lack = refusal_as c.node_over.result c.node_over.ensures.full
      (λ full r. taken _ _ (bytes (whole_fraction (pos c.args.radicand))) (8 ∷ []) (mid (goal.at.returns c).In_ok-rational) ∙ lacking [] r);
  safe = then_placing c.in_ok-rational.ensures.kept (front_after_one (behind_new c.in_ok-rational.ensures.given.ends front_same) c.number.ensures.front c.node_over.ensures.front) (one_placed _ c.node_over.result c.node_over.ensures.kept c.node_over.ensures.full c.node_over.ensures.front c.node_over.ensures.stands);
}
