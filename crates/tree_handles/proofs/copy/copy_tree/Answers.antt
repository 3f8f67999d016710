use Rattle.tree_handles.proofs.{Shared.{rules, ◌≡◌, ℕ, ap, sym, ◌∙◌, true, false, Bool, Header, free_of}, Copying.{IsTree, tree_here, IsCopyTree, copy_done, copy_given, fits_iff}}
use Rattle.tree_handles.proofs.{Forests.{is_refused, not_within, stands_refused}, Parts.{live_node}, copy.copy_tree.Goals.{After-behind-end, After-copy_nodes}}
use Rattle.tree_handles.proofs.copy.copy_tree.Goals as goal

pub locate-from-requires : goal.locate-from-requires
locate-from-requires c = live_node c.args.source c.args.pool.now c.requires.stands c.requires.live

source : (c : After-behind-end) → IsTree c.args.source c.locate-from.result c.behind-end.result c.args.pool.now
source c = tree_here c.args.source _ _ c.args.pool.now c.requires.stands c.requires.live
    (record { start = c.locate-from.ensures.value; boundary = c.behind-end.ensures.boundary; rest = c.behind-end.ensures.rest })

copied : (c : After-copy_nodes) → IsCopyTree c.args.source c.used-place.result c.args.pool.now c.copy_nodes.new.pool
copied c =
    copy_done c.args.source c.locate-from.result c.behind-end.result c.used-place.result c.args.pool.now c.ask.new.self c.copy_nodes.new.pool c.requires.stands
    (source (goal.at.header-requires c).After-behind-end) c.in-Ok.ensures.ok c.used-place.ensures.value c.copy_nodes.ensures

pub header-requires : goal.header-requires
header-requires c = record { boundary = (copied c).boundary; inside = (copied c).inside }

pub returns-in-Ok : goal.returns-in-Ok
returns-in-Ok c =
    let d = copied (goal.at.returns-in-Ok c).After-copy_nodes in
    let told = c.of-in-Ok.ensures ∙ c.of.ensures ∙ ap (λ (h : Header). h.id) c.header.ensures.value ∙ d.root in
    record {
      ok = record { copy = d.copy; whole = d.forest-is; same = d.same; root = sym told };
      given = λ w. copy_given c.args.source c.of-in-Ok.result c.used-place.result c.args.pool.now c.copy_nodes.new.pool d told (d.stands c.header.ensures.pool) w;
      kept = d.kept;
      exactly = fits_iff (◌≡◌ {A = Bool} true true) _ _ (free_of c.args.pool.now) (source (goal.at.returns-in-Ok c).After-behind-end).size c.in-Ok.ensures.exactly;
      stands = d.stands c.header.ensures.pool;
      full = search rules;
    }

pub returns-in-Err : goal.returns-in-Err
returns-in-Err c =
    let size = (source (goal.at.returns-in-Err c).After-behind-end).size in
    let exactly = fits_iff (◌≡◌ {A = Bool} false true) _ _ (free_of c.args.pool.now) size c.in-Err.ensures.exactly in
    record {
      full = is_refused _ c.args.pool.now c.ask.new.self c.in-Err.full (c.in-Err.ensures.full ∙ ap (λ (n : ℕ). record { needed = n; free = free_of c.args.pool.now }) size) c.in-Err.ensures.counted
          (not_within exactly);
      exactly = exactly;
      stands = stands_refused c.args.pool.now c.ask.new.self c.in-Err.full c.in-Err.ensures.counted c.ask.ensures.pool c.requires.stands;
      ok = search rules;
      given = search rules;
      kept = search rules;
    }
