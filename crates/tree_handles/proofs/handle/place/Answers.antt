use Rattle.tree_handles.proofs.Shared.{rules, ◌≡◌, false, refl, sym, ap, ◌∙◌, arith, payload_of, State, has, empty, join, one_tree, Ends, holds, Stands, forest, IsCounted}
use Rattle.tree_handles.proofs.{Forests.{placed, stands, has-flatten, all-join, keeps, is_refused, not_within, stands_refused}, Fronts.{front_same, front_end, front_at}, Roots.no_root}
use Rattle.tree_handles.proofs.handle.place.Goals as goal

all : (c : goal.In-Ok) → (forest c.place.new.self ≡ join (forest c.args.pool.now) (one_tree c.in-Ok.id (payload_of c.args.leaf) empty)) × Stands c.place.new.self
all c =
    let now = ap (λ (s : State). s.nodes) c.in-Ok.ensures.ok in
    let f = forest c.args.pool.now in
    let new = one_tree c.in-Ok.id (payload_of c.args.leaf) empty in
    stands c.place.new.self (join f new) (placed f c.args.pool.now.nodes c.place.new.self.nodes c.in-Ok.id (payload_of c.args.leaf) c.requires.stands.flat now) c.place.ensures.pool
    (all-join IsCounted f new c.requires.stands.counted (omega arith, tt, tt))

fresh : (c : goal.In-Ok) → holds c.in-Ok.id (forest c.args.pool.now) ≡ false
fresh c = sym (ap (has c.in-Ok.id) c.requires.stands.flat ∙ has-flatten c.in-Ok.id (forest c.args.pool.now)) ∙ c.in-Ok.ensures.least.free

ends : (c : goal.In-Ok) → Ends c.in-Ok.id (one_tree c.in-Ok.id (payload_of c.args.leaf) empty) (forest c.args.pool.now) (forest c.place.new.self)
ends c = record { whole = (all c).0; alone = refl; root = refl; clear = no_root c.in-Ok.id (forest c.args.pool.now) (fresh c) }

pub returns-in-Ok : goal.returns-in-Ok
returns-in-Ok c =
    record {
      ok = ends c;
      fresh = fresh c;
      front = front_end (ends c) front_same;
      kept = keeps c.args.pool.now c.place.new.self _ c.in-Ok.ensures.ok;
      stands = (all c).1;
      least = search rules;
      full = search rules;
      exactly = search rules;
    }

pub returns-in-Err-clause-front : goal.returns-in-Err-clause-front
returns-in-Err-clause-front c = front_at front_same (ap forest c.in-Err.ensures.counted)

pub returns-in-Err-clause-full : goal.returns-in-Err-clause-full
returns-in-Err-clause-full c = is_refused _ c.args.pool.now c.place.new.self c.in-Err.full c.in-Err.ensures.full c.in-Err.ensures.counted (not_within c.in-Err.ensures.exactly)

pub returns-in-Err-clause-stands : goal.returns-in-Err-clause-stands
returns-in-Err-clause-stands c = stands_refused c.args.pool.now c.place.new.self c.in-Err.full c.in-Err.ensures.counted c.place.ensures.pool c.requires.stands
