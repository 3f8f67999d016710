use Rattle.tree_handles.proofs.Shared.{◌≡◌, ◌-◌, ◌<◌, ◌≤◌, ap, subst, ◌∙◌, arith, refl, Header, State, first_of, with_count, since, IsNearer, released_at}
use Rattle.tree_handles.proofs.Releases.{few_nodes, gone_unheld, owed_few, owed_start, owed_boundary, owed_inside, owed_live, owed_now, nearer_end, held, held_boundary, kept_others}
use Rattle.tree_handles.proofs.releasing.release_at.Goals as goal

pub loop-owed-init : goal.loop-owed-init
loop-owed-init c = record { owed = owed_start c.args.pool.now.nodes c.args.at c.requires.boundary c.requires.inside c.requires.trees; pool = c.requires.pool; others = refl }

pub step-requires-clause-boundary : goal.step-requires-clause-boundary
step-requires-clause-boundary c = owed_boundary c.loop-owed.pool.nodes c.loop-owed.place c.loop-owed.owed (released_at c.args.at 1 c.args.pool.now.nodes) c.loop-owed.invariant.owed

pub step-requires-clause-inside : goal.step-requires-clause-inside
step-requires-clause-inside c = owed_inside c.loop-owed.pool.nodes c.loop-owed.place c.loop-owed.owed (released_at c.args.at 1 c.args.pool.now.nodes) c.loop-owed.invariant.owed c.loop-owed-test.true

pub set_count-requires : goal.set_count-requires
set_count-requires c =
    let id : c.of.result ≡ (first_of (since c.loop-owed.place c.loop-owed.pool.nodes)).id = c.of.ensures ∙ ap (λ (h : Header). h.id) c.step.ensures.header in
    rw id (owed_live c.loop-owed.pool.nodes c.loop-owed.place c.loop-owed.owed (released_at c.args.at 1 c.args.pool.now.nodes) c.loop-owed.invariant.owed c.loop-owed-test.true)

counted : (c : goal.After-set_count) → c.set_count.new.self.nodes ≡ with_count (first_of (since c.loop-owed.place c.loop-owed.pool.nodes)).id ((first_of (since c.loop-owed.place c.loop-owed.pool.nodes)).count - 1) c.loop-owed.pool.nodes
counted c =
    let id : c.of.result ≡ (first_of (since c.loop-owed.place c.loop-owed.pool.nodes)).id = c.of.ensures ∙ ap (λ (h : Header). h.id) c.step.ensures.header in
    ap (λ (s : State). s.nodes) c.set_count.ensures.nodes ∙ rw (id, c.step.ensures.header) refl

pub behind-place-requires : goal.behind-place-requires
behind-place-requires c = record { boundary = held_boundary c.loop-owed.pool.nodes c.set_count.new.self.nodes c.loop-owed.place c.loop-owed.owed (released_at c.args.at 1 c.args.pool.now.nodes) c.loop-owed.invariant.owed c.loop-owed-test.true c.step.ensures.pool.distinct (counted c) }

held-next : (c : goal.After-behind-place) → IsNearer c.loop-owed.pool.nodes c.set_count.new.self.nodes c.loop-owed.place c.loop-owed.owed c.behind-place.result (c.loop-owed.owed - 1) (released_at c.args.at 1 c.args.pool.now.nodes)
held-next c =
    let ns = c.loop-owed.pool.nodes in
    let many : 1 < (first_of (since c.loop-owed.place ns)).count = subst (λ (h : Header). 1 < h.count) c.step.ensures.header c.if-header-gt1.true in
    let id : c.of.result ≡ (first_of (since c.loop-owed.place ns)).id = c.of.ensures ∙ ap (λ (h : Header). h.id) c.step.ensures.header in
    let now : c.set_count.new.self.nodes ≡ with_count (first_of (since c.loop-owed.place ns)).id ((first_of (since c.loop-owed.place ns)).count - 1) ns = ap (λ (s : State). s.nodes) c.set_count.ensures.nodes ∙ rw (id, c.step.ensures.header) refl in
    held ns c.set_count.new.self.nodes c.loop-owed.place c.loop-owed.owed c.behind-place.result (released_at c.args.at 1 c.args.pool.now.nodes) c.loop-owed.invariant.owed c.loop-owed-test.true c.step.ensures.pool.distinct many now c.behind-place.ensures.boundary c.behind-place.ensures.rest

pub loop-owed-smaller-then-header-gt1 : goal.loop-owed-smaller-then-header-gt1
loop-owed-smaller-then-header-gt1 c = (held-next c).less

pub loop-owed-preserved-then-header-gt1 : goal.loop-owed-preserved-then-header-gt1
loop-owed-preserved-then-header-gt1 c = record { owed = (held-next c).now; pool = c.set_count.ensures.pool; others = kept_others c.args.pool.now c.loop-owed.pool c.set_count.new.self _ c.loop-owed.invariant.others c.set_count.ensures.nodes }

pub remove_unheld-owed-requires : goal.remove_unheld-owed-requires
remove_unheld-owed-requires c = record {
  boundary = owed_boundary c.loop-owed.pool.nodes c.loop-owed.place c.loop-owed.owed (released_at c.args.at 1 c.args.pool.now.nodes) c.loop-owed.invariant.owed;
  few = omega (arith, owed_few c.loop-owed.pool.nodes c.loop-owed.place c.loop-owed.owed (released_at c.args.at 1 c.args.pool.now.nodes) c.loop-owed.invariant.owed, few_nodes c.loop-owed.pool c.loop-owed.invariant.pool);
}

gone-next : (c : goal.After-remove_unheld-owed) → IsNearer c.loop-owed.pool.nodes c.remove_unheld-owed.new.self.nodes c.loop-owed.place c.loop-owed.owed c.loop-owed.place c.remove_unheld-owed.result (released_at c.args.at 1 c.args.pool.now.nodes)
gone-next c =
    let ns = c.loop-owed.pool.nodes in
    let place = c.loop-owed.place in
    let end = released_at c.args.at 1 c.args.pool.now.nodes in
    let owed = c.loop-owed.invariant.owed in
    let few : (first_of (since place ns)).count ≤ 1 = subst (λ (h : Header). h.count ≤ 1) c.step.ensures.header c.if-header-gt1.false in
    rw (ap (λ (s : State). s.nodes) c.remove_unheld-owed.ensures.nodes, c.remove_unheld-owed.ensures.owed)
    (nearer_end ns _ place c.loop-owed.owed place _ end owed (gone_unheld ns place c.loop-owed.owed (owed_now ns place c.loop-owed.owed end owed) c.loop-owed-test.true few))

pub loop-owed-smaller : goal.loop-owed-smaller
loop-owed-smaller c = (gone-next c).less

pub loop-owed-preserved : goal.loop-owed-preserved
loop-owed-preserved c = record { owed = (gone-next c).now; pool = c.remove_unheld-owed.ensures.pool; others = kept_others c.args.pool.now c.loop-owed.pool c.remove_unheld-owed.new.self _ c.loop-owed.invariant.others c.remove_unheld-owed.ensures.nodes }
