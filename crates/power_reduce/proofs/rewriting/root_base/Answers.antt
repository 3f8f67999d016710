use Rattle.power_reduce.proofs.Shared.{◌+◌, inl, sym, ap, ◌∙◌, arith, to_z, of_z, Ratio, num, size, free_of, refused_below, replaced_free, passed_on, if_map, eqb-sym, refusal_as, given_free}
use Rattle.power_reduce.proofs.Shared.{released_free, w128, lowest, whole_fraction, base_in, exponent_in, tree_of, told, plain, behind_first, behind_new, front_same, front_at, front_end}
use Rattle.power_reduce.proofs.Shared.{front_without, front_after, front_after_one, front_after_two, gives_as, given_apart, given_handed, given_rest, given_root, given_same, given_told, given_without}
use Rattle.power_reduce.proofs.Shared.{owned, given_other, keeps_on, lacks_in, none_given, none_kept, refuses_on, kept_after, refuses_after, LacksBytes, Refuses}
use Rattle.power_reduce.proofs.{Rooms.{sides_free, no_root, no_exponent, no_power}, PartsOf.{gives_at}, Roots.{rooted_as}}
use Rattle.calc_terms.specs.Trees.{root as root_tree}
use Rattle.power_reduce.proofs.rewriting.root_base.Goals as goal

pub release-requires-clause-releasable : goal.release-requires-clause-releasable
release-requires-clause-releasable c = inl (given_root c.take_sides-base.ensures.gives.second-given)

pub node_over-requires-clause-handed : goal.node_over-requires-clause-handed
node_over-requires-clause-handed c =
    let g = c.take_sides-base.ensures.gives in
    given_handed (gives_at g.first-given (c.release.ensures.owned (owned (given_handed g.second-given)) ∙ given_rest g.second-given))

pub returns-in_err-root : goal.returns-in_err-root
returns-in_err-root c = record {
  ok = none_given c.from_residual.result _ c.from_residual.ensures.0;
  front =
      let g = c.take_sides-base.ensures.gives in
      let base = behind_new g.first-given.ends (front_without behind_first front_same) in
      let exponent = behind_new g.second-given.ends (front_end g.first-given.ends (front_without behind_first front_same)) in
      let taken = front_at (front_without exponent c.take_sides-base.ensures.front) (c.release.ensures.owned (owned (given_handed g.second-given))) in
      front_after_one base taken c.node_over.ensures.front;
  kept = none_kept c.from_residual.result _ c.from_residual.ensures.0;
  full = passed_on c.from_residual.result c.in_err-root.field-0.0 (Refuses c.args.pool.now c.node_over.new.pool) c.from_residual.ensures.0 c.from_residual.ensures.1 (refuses_after (kept_after c.take_sides-base.ensures.kept c.release.ensures.kept) c.in_err-root.ensures.full.refuses);
  caused = passed_on c.from_residual.result c.in_err-root.field-0.0 (LacksBytes c.node_over.new.pool) c.from_residual.ensures.0 c.from_residual.ensures.1 c.in_err-root.ensures.full.lacks;
  room =
      let g = c.take_sides-base.ensures.gives in
      let sides = sides_free c.requires.stands c.take_sides-base.ensures.stands c.take_sides-base.ensures.kept c.requires.handed g in
      let freed = released_free c.take_sides-base.ensures.stands c.release.ensures.stands c.release.ensures.kept (given_handed g.second-given) (c.release.ensures.owned (owned (given_handed g.second-given))) in
      passed_on c.from_residual.result c.in_err-root.field-0.0 _ c.from_residual.ensures.0 c.from_residual.ensures.1
      (no_root (tree_of c.args.power c.args.pool.now) _ _ (omega (arith, sides, freed, ap size (given_told g.second-given))) (refused_below c.in_err-root.ensures.full));
  stands = c.node_over.ensures.stands;
}

pub returns-in_err-whole : goal.returns-in_err-whole
returns-in_err-whole c = record {
  ok = none_given c.from_residual-in_err-whole.result _ c.from_residual-in_err-whole.ensures.0;
  front =
      let g = c.take_sides-base.ensures.gives in
      let base = behind_new g.first-given.ends (front_without behind_first front_same) in
      let exponent = behind_new g.second-given.ends (front_end g.first-given.ends (front_without behind_first front_same)) in
      let taken = front_at (front_without exponent c.take_sides-base.ensures.front) (c.release.ensures.owned (owned (given_handed g.second-given))) in
      front_after (front_after_one base taken c.node_over.ensures.front) c.number.ensures.front;
  kept = none_kept c.from_residual-in_err-whole.result _ c.from_residual-in_err-whole.ensures.0;
  full = passed_on c.from_residual-in_err-whole.result c.in_err-whole.field-0.0 (Refuses c.args.pool.now c.number.new.pool) c.from_residual-in_err-whole.ensures.0 c.from_residual-in_err-whole.ensures.1 (refuses_after (kept_after (kept_after c.take_sides-base.ensures.kept c.release.ensures.kept) c.in_ok-root.ensures.kept) c.in_err-whole.ensures.full.refuses);
  caused = passed_on c.from_residual-in_err-whole.result c.in_err-whole.field-0.0 (LacksBytes c.number.new.pool) c.from_residual-in_err-whole.ensures.0 c.from_residual-in_err-whole.ensures.1 c.in_err-whole.ensures.full.lacks;
  room =
      let g = c.take_sides-base.ensures.gives in
      let sides = sides_free c.requires.stands c.take_sides-base.ensures.stands c.take_sides-base.ensures.kept c.requires.handed g in
      let freed = released_free c.take_sides-base.ensures.stands c.release.ensures.stands c.release.ensures.kept (given_handed g.second-given) (c.release.ensures.owned (owned (given_handed g.second-given))) in
      let first = gives_at g.first-given (c.release.ensures.owned (owned (given_handed g.second-given)) ∙ given_rest g.second-given) in
      let root = c.in_ok-root.ensures.ok in
      let rooted = replaced_free c.release.ensures.stands c.in_ok-root.ensures.stands c.in_ok-root.ensures.kept (given_handed first) root in
      let n = ap (λ (q : Ratio). size (num (lowest q.num q.den))) c.whole.ensures ∙ ap (λ x. size (num x)) (ap whole_fraction (told c.args.n c.requires.fits) ∙ ap whole_fraction (sym c.requires.numerator)) in
      passed_on c.from_residual-in_err-whole.result c.in_err-whole.field-0.0 _ c.from_residual-in_err-whole.ensures.0 c.from_residual-in_err-whole.ensures.1
      (no_exponent (tree_of c.args.power c.args.pool.now) (tree_of c.in_ok-root.root c.node_over.new.pool) _ (free_of c.node_over.new.pool) (free_of c.release.new.pool) (free_of c.args.pool.now) (given_told root ∙ ap root_tree (given_told first)) n (omega (arith, sides, freed, ap size (given_told g.second-given)))
      (omega (arith, rooted, ap size (given_told first))) (refused_below c.in_err-whole.ensures.full));
  stands = c.number.ensures.stands;
}

pub node_over_two-requires-clause-first : goal.node_over_two-requires-clause-first
node_over_two-requires-clause-first c = given_other c.in_ok-whole.ensures.given (given_handed c.in_ok-root.ensures.ok)

pub node_over_two-requires-clause-apart : goal.node_over_two-requires-clause-apart
node_over_two-requires-clause-apart c = eqb-sym _ _ (given_apart c.in_ok-whole.ensures.given (given_handed c.in_ok-root.ensures.ok))

pub returns-clause-ok : goal.returns-clause-ok
returns-clause-ok c =
    let g = c.take_sides-base.ensures.gives in
    let first = gives_at g.first-given (c.release.ensures.owned (owned (given_handed g.second-given)) ∙ given_rest g.second-given) in
    let root = c.in_ok-root.ensures.ok in
    let whole = c.in_ok-whole.ensures.given in
    let r = given_handed root in
    let base = ap plain (given_same c.in_ok-root.root whole r.root) ∙ given_told root in
    if_map c.node_over_two.result _ _ c.node_over_two.ensures.ok
    (λ h k. gives_as k (given_without whole r ∙ given_rest root ∙ given_rest first)
    (λ t w. rooted_as (base_in (tree_of c.args.power c.args.pool.now)) (exponent_in (tree_of c.args.power c.args.pool.now)) t _ _ _ c.whole.result (to_z w128 (of_z w128 c.args.n)) c.requires.half c.requires.sides.base_defined w base (given_told first) (given_told whole) c.whole.ensures (ap whole_fraction (told c.args.n c.requires.fits) ∙ ap whole_fraction (sym c.requires.numerator))))

pub returns-clause-front : goal.returns-clause-front
returns-clause-front c =
    let g = c.take_sides-base.ensures.gives in
    let base = behind_new g.first-given.ends (front_without behind_first front_same) in
    let exponent = behind_new g.second-given.ends (front_end g.first-given.ends (front_without behind_first front_same)) in
    let taken = front_at (front_without exponent c.take_sides-base.ensures.front) (c.release.ensures.owned (owned (given_handed g.second-given))) in
    let over = front_after_one base taken c.node_over.ensures.front in
    front_after_two (behind_new c.in_ok-root.ensures.ok.ends (front_without base taken)) (behind_new c.in_ok-whole.ensures.given.ends over) (front_after over c.number.ensures.front) c.node_over_two.ensures.front

-- ---- bytes at hand

pub returns-clause-room : goal.returns-clause-room
returns-clause-room c =
    let g = c.take_sides-base.ensures.gives in
    let sides = sides_free c.requires.stands c.take_sides-base.ensures.stands c.take_sides-base.ensures.kept c.requires.handed g in
    let freed = released_free c.take_sides-base.ensures.stands c.release.ensures.stands c.release.ensures.kept (given_handed g.second-given) (c.release.ensures.owned (owned (given_handed g.second-given))) in
    let first = gives_at g.first-given (c.release.ensures.owned (owned (given_handed g.second-given)) ∙ given_rest g.second-given) in
    let root = c.in_ok-root.ensures.ok in
    let whole = c.in_ok-whole.ensures.given in
    let rooted = replaced_free c.release.ensures.stands c.in_ok-root.ensures.stands c.in_ok-root.ensures.kept (given_handed first) root in
    let n = ap (λ (q : Ratio). size (num (lowest q.num q.den))) c.whole.ensures ∙ ap (λ x. size (num x)) (ap whole_fraction (told c.args.n c.requires.fits) ∙ ap whole_fraction (sym c.requires.numerator)) in
    refusal_as c.node_over_two.result c.node_over_two.ensures.full (λ full l.
    no_power (tree_of c.args.power c.args.pool.now) (tree_of c.in_ok-root.root c.node_over.new.pool) _ (free_of c.number.new.pool) (free_of c.node_over.new.pool) (free_of c.release.new.pool) (free_of c.args.pool.now) (given_told root ∙ ap root_tree (given_told first)) n (omega (arith, sides, freed, ap size (given_told g.second-given)))
    (omega (arith, rooted, ap size (given_told first))) (given_free c.in_ok-root.ensures.stands c.in_ok-whole.ensures.stands c.in_ok-whole.ensures.kept whole ∙ ap (λ x. free_of c.number.new.pool + size x) (given_told whole)) (refused_below l))

pub returns-clause-kept : goal.returns-clause-kept
returns-clause-kept c = keeps_on _ c.node_over_two.result (kept_after (kept_after (kept_after c.take_sides-base.ensures.kept c.release.ensures.kept) c.in_ok-root.ensures.kept) c.in_ok-whole.ensures.kept) c.node_over_two.ensures.kept

pub returns-clause-full : goal.returns-clause-full
returns-clause-full c = refuses_on _ _ c.node_over_two.result (kept_after (kept_after (kept_after c.take_sides-base.ensures.kept c.release.ensures.kept) c.in_ok-root.ensures.kept) c.in_ok-whole.ensures.kept) c.node_over_two.ensures.full

pub returns-clause-caused : goal.returns-clause-caused
returns-clause-caused c = lacks_in _ _ _ c.node_over_two.result c.node_over_two.ensures.full
