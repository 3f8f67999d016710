use Rattle.pool_layouts.proofs.Shared.{rules, OnOk, IfErr, ◌≡◌, Option, Ok, sym, subst, Kind, bare, size_of_payload, free_of, taking, forest, IsStopped, StandsIn, around_sizes}
use Rattle.pool_layouts.proofs.Placing.{ok_as, last_tree_is, stands_over, placed_last, refused_last}
use Rattle.pool_layouts.proofs.laying.stand_in.Goals as goal

pub node_over_last-requires : goal.node_over_last-requires
node_over_last-requires c =
    let last = last_tree_is c.args.last c.args.begin (forest c.args.pool.now) c.requires.last in
    record { few = last.few; begin = last.begin_is; stands = search rules; bare = search rules }

pub returns-in-Some : goal.returns-in-Some
returns-in-Some c =
    record {
      ok = ok_as c.node_over_last.result c.node_over_last.ensures.ok
          (λ h e. subst (λ (a : Option Kind). StandsIn a c.args.last (forest c.args.pool.now) (forest c.node_over_last.new.pool) h) (sym c.in-Some.is) (stands_over c.in-Some.outer c.args.last h (forest c.args.pool.now) (forest c.node_over_last.new.pool) e));
      room = subst (λ (a : Option Kind). OnOk c.node_over_last.result (taking (free_of c.args.pool.now) (around_sizes a) ≡ Ok (free_of c.node_over_last.new.pool)))
          (sym c.in-Some.is) (placed_last c.args.pool.now c.node_over_last.new.pool 1 (bare c.in-Some.outer) c.node_over_last.result c.requires.stands c.node_over_last.ensures.stands c.node_over_last.ensures.kept c.node_over_last.ensures.ok c.node_over_last.ensures.exactly);
      full = subst (λ (a : Option Kind). IfErr c.node_over_last.result (IsStopped (forest c.args.pool.now) (around_sizes a) c.args.pool.now c.node_over_last.new.pool))
          (sym c.in-Some.is) (refused_last c.args.pool.now c.node_over_last.new.pool (size_of_payload (bare c.in-Some.outer)) c.node_over_last.result c.node_over_last.ensures.full c.node_over_last.ensures.exactly);
      kept = search rules;
      stands = search rules;
    }
