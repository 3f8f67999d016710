use Rattle.tree_handles.proofs.Shared.{rules, ◌≡◌, ℕ, false, sym, ap, subst, ◌∙◌, bare, State, has, holds, forest}
use Rattle.tree_handles.proofs.{Forests.{has-flatten, keeps, is_refused, not_within, stands_refused}, Gathering.{gathered, IsOver, over}, building.node_over_last.Goals.After-of}
use Rattle.tree_handles.proofs.building.node_over_last.Goals as goal

pub insert-requires-clause-boundary : goal.insert-requires-clause-boundary
insert-requires-clause-boundary c = (gathered 0 c.args.trees c.args.begin c.args.kind (forest c.args.pool.now) c.args.pool.now.nodes c.requires.few c.requires.stands.flat c.requires.begin).begin

fresh : (c : After-of) → holds c.in-Ok.id (forest c.args.pool.now) ≡ false
fresh c = sym (ap (has c.in-Ok.id) c.requires.stands.flat ∙ has-flatten c.in-Ok.id (forest c.args.pool.now)) ∙ c.in-Ok.ensures.least.free

all : (c : After-of) → IsOver c.of.result c.args.trees (bare c.args.kind) (forest c.args.pool.now) c.insert.new.self
all c =
    let g = gathered c.in-Ok.id c.args.trees c.args.begin c.args.kind (forest c.args.pool.now) c.args.pool.now.nodes c.requires.few c.requires.stands.flat c.requires.begin in
    subst (λ (i : ℕ). IsOver i c.args.trees (bare c.args.kind) (forest c.args.pool.now) c.insert.new.self) (sym c.of.ensures)
    (over c.in-Ok.id c.args.trees (bare c.args.kind) (forest c.args.pool.now) c.insert.new.self (fresh c) c.requires.stands.counted c.insert.ensures.pool (ap (λ (s : State). s.nodes) c.in-Ok.ensures.ok ∙ g.done))

pub returns-in-Ok : goal.returns-in-Ok
returns-in-Ok c =
    record { ok = (all c).ends; kept = keeps c.args.pool.now c.insert.new.self _ c.in-Ok.ensures.ok; stands = (all c).stands; full = search rules; exactly = search rules }

pub returns-in-Err-clause-full : goal.returns-in-Err-clause-full
returns-in-Err-clause-full c = is_refused _ c.args.pool.now c.insert.new.self c.in-Err.full c.in-Err.ensures.full c.in-Err.ensures.counted (not_within c.in-Err.ensures.exactly)

pub returns-in-Err-clause-stands : goal.returns-in-Err-clause-stands
returns-in-Err-clause-stands c = stands_refused c.args.pool.now c.insert.new.self c.in-Err.full c.in-Err.ensures.counted c.insert.ensures.pool c.requires.stands
