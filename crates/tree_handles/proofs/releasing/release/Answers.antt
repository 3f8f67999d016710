use Rattle.tree_handles.proofs.{Shared.{◌≡◌, ℕ, ap, ◌∙◌, State, place_of, released_in, forest, Stands}, Counted.counted-released_in, Distinct.distinct, Forests.{stands, keeps}}
use Rattle.tree_handles.proofs.{Held.{ready, releasable_held, released-owned}, Parts.live_node}
use Rattle.tree_handles.proofs.releasing.release.Goals as goal

pub locate-at-requires : goal.locate-at-requires
locate-at-requires c = rw c.id.ensures (live_node c.args.handle c.args.pool.now c.requires.stands (releasable_held c.args.handle (forest c.args.pool.now) c.requires.releasable))

pub release_at-requires-clause-trees : goal.release_at-requires-clause-trees
release_at-requires-clause-trees c = (ready c.args.handle c.locate-at.result c.args.pool.now c.requires.stands c.requires.releasable (c.locate-at.ensures.value ∙ ap (λ (i : ℕ). place_of i c.args.pool.now.nodes) c.id.ensures)).trees

all : (c : goal.After-release_at) → (forest c.release_at.new.pool ≡ released_in c.args.handle (forest c.args.pool.now)) × Stands c.release_at.new.pool
all c =
    let is_ready = ready c.args.handle c.locate-at.result c.args.pool.now c.requires.stands c.requires.releasable (c.locate-at.ensures.value ∙ ap (λ (i : ℕ). place_of i c.args.pool.now.nodes) c.id.ensures) in
    stands c.release_at.new.pool (released_in c.args.handle (forest c.args.pool.now)) (ap (λ (s : State). s.nodes) c.release_at.ensures.nodes ∙ is_ready.done) c.release_at.ensures.pool (counted-released_in c.args.handle (forest c.args.pool.now) c.requires.stands.counted)

pub returns : goal.returns
returns c =
    record {
      forest = (all c).0;
      owned = λ h. (all c).0 ∙ released-owned c.args.handle (forest c.args.pool.now) (distinct c.args.pool.now c.requires.stands) h;
      kept = keeps c.args.pool.now c.release_at.new.pool _ c.release_at.ensures.nodes;
      stands = (all c).1;
    }
