use Rattle.expand_forms.proofs.Shared.{◌≡◌, ◌∙◌, ◌<◌, ◌≤◌, ◌+◌, ℕ, true, length, ap, subst, sym, arith, AreExpanded, HasNoNewName, IsOver, OfFull, OfOverflow, Tree, children_of, expanded}
use Rattle.expand_forms.proofs.Shared.{free_of, given_handed, given_told, has_polynomial_root, most_bits, nth, own_bits, passed_on, polynomial_of, size, tree_of, MayLack, changes_as, changes_front}
use Rattle.expand_forms.proofs.{Shared.{hole_stays, keeps_after, set_child}, OverAnswers.{few_bytes}, PowersOfSums.{children_ready, lacks, no_result, power_bits, power_lacks, power_of, ready_nth}}
use Rattle.expand_forms.proofs.{PowersOfSums.{ready_power}, powers_of_sums.raise_power.Goals.{After-open_child-hole}}
use Rattle.tree_handles.proofs.Refused.{overflow_as}
use Rattle.number_forms.proofs.Safety.{answered, no_answer, passed, then_safe}
use Rattle.expand_forms.proofs.powers_of_sums.raise_power.Goals as goal

-- the tree that is raised
module _ (c : After-open_child-hole) where
  abbrev now : Tree
  now = tree_of c.args.tree.now c.args.pool.now

  abbrev power : Tree
  power = nth c.args.at (children_of now)

  told : tree_of c.open_child-hole.result.1 c.open_child-hole.new.pool ≡ power
  told = given_told c.open_child-hole.ensures.child

  parts : (has_polynomial_root power ≡ true) × AreExpanded (children_of power)
  parts =
      let o = c.requires.over in
      ready_power (ready_nth c.args.at (children_of now) (children_ready o.whole now o.over o.taken) c.requires.within) c.requires.power

pub expand_node-requires : goal.expand_node-requires
expand_node-requires c = let k = (goal.at.expand_node-requires c).After-open_child-hole in record {
  stands = c.open_child-hole.ensures.stands;
  handed = given_handed c.open_child-hole.ensures.child;
  polynomial = ap has_polynomial_root (told k) ∙ (parts k).0;
  children = subst (λ (t : Tree). AreExpanded (children_of t)) (sym (told k)) (parts k).1;
}

pub fill-requires : goal.fill-requires
fill-requires c = let g = c.in_ok-sum.ensures.ok in record { stands = c.in_ok-sum.ensures.safe.stands; hole = (_, _, _, hole_stays g c.open_child-hole.ensures.hole); handed = given_handed g }

pub returns : goal.returns
returns c =
    let k = (goal.at.returns c).After-open_child-hole in
    let g = c.in_ok-sum.ensures.ok in
    let changed = changes_as (c.fill.ensures.changed _ _ _ (hole_stays g c.open_child-hole.ensures.hole))
    (ap (λ (v : Tree). set_child c.args.at v (now k)) (given_told g ∙ ap (λ (v : Tree). expanded (polynomial_of v)) (told k))) in
    record {
      ok = changed;
      safe = answered (changes_front changed) (keeps_after _ _ _ c.open_child-hole.ensures.kept (keeps_after _ _ _ c.in_ok-sum.ensures.safe.kept c.fill.ensures.kept)) c.fill.ensures.stands;
      fits = λ whole p o. tt;
      room = λ whole p o. tt;
    }

pub returns-in_err-sum : goal.returns-in_err-sum
returns-in_err-sum c = record {
  ok = no_answer c.from_residual.result _ c.from_residual.ensures.0;
  fits = λ whole p o.
      let k = (goal.at.returns-in_err-sum c).After-open_child-hole in
      let x = power_of whole (now k) c.args.at o p c.requires.within c.requires.power in
      passed_on c.from_residual.result c.in_err-sum.field-0.0 (OfOverflow (λ v. 124 < most_bits whole)) c.from_residual.ensures.0 c.from_residual.ensures.1
      (overflow_as c.in_err-sum.field-0.0 (c.in_err-sum.ensures.fits x.child (subst (λ (t : Tree). IsOver x.child t) (sym (told k)) x.over) x.polynomial)
      (λ v l. omega (arith, l, own_bits x.child, power_bits whole x)));
  room = λ whole p o.
      let k = (goal.at.returns-in_err-sum c).After-open_child-hole in
      let x = power_of whole (now k) c.args.at o p c.requires.within c.requires.power in
      let e = c.in_err-sum.field-0.0 in
      let free = free_of c.open_child-hole.new.pool in
      let few = few_bytes x.child (power k) x.over x.polynomial (no_result e) free
      (λ w n h l. c.in_err-sum.ensures.room w n (subst (HasNoNewName w) (sym (told k)) h) (subst (λ (t : Tree). length (polynomial_of t) ≤ n) (sym (told k)) l)) in
      passed_on c.from_residual.result e (OfFull (λ full. MayLack whole (free_of c.args.pool.now + size (now k)))) c.from_residual.ensures.0 c.from_residual.ensures.1
      (subst (λ (n : ℕ). OfFull (λ full. MayLack whole (n + size (now k))) e) c.open_child-hole.ensures.free (lacks whole (now k) o p (no_result e) free (power_lacks whole x (no_result e) free few)));
  safe = let s = c.in_err-sum.ensures.safe in
      then_safe c.open_child-hole.ensures.kept (c.open_child-hole.ensures.front _ _ s.front) (passed c.from_residual.result c.in_err-sum.field-0.0 c.from_residual.ensures.0 c.from_residual.ensures.1 s);
}
