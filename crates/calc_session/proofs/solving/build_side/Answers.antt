use Rattle.std.proofs.Common.{◌+◌, None, refl, subst, sym}
use Rattle.calc_session.proofs.{Shared.{CountsRefusal, err_from_is_err_and, front_same}, SideLemmas.{builds_side, side_line}, TextLemmas.{read_at_all}}
use Rattle.calc_session.proofs.solving.build_side.Goals as goal

pub read_side-requires : goal.read_side-requires
read_side-requires c = record { order = c.requires.order; within = c.requires.within; short = c.requires.short }

pub build_and_fill-requires : goal.build_and_fill-requires
build_and_fill-requires c = record {
  stands = c.requires.stands;
  entries = c.requires.entries;
  line = let (t, r) = c.in_ok-read_side.ensures.read in (t, (None, r.line-is));
}

pub returns : goal.returns
returns c =
    let filled = c.in_ok-tree.ensures in
    record {
      built = λ t reads.
          let (u, r) = c.in_ok-read_side.ensures.read in
          builds_side c.args.table.now c.args.pool.now c.build_and_fill.new.pool t c.in_ok-tree.tree c.id.result filled.ok (filled.made t (side_line (c.args.equations.now.before + c.args.side.from) reads r)) filled.kept filled.stands c.id.ensures;
      refused = λ t reads. tt;
      counted = tt;
      no_breaker = tt;
      front = filled.front;
      stands = filled.stands;
    }

pub returns-in_err-read_side : goal.returns-in_err-read_side
returns-in_err-read_side c =
    let p = err_from_is_err_and c.from_residual.result c.from_residual.ensures.1 in
    let err = c.in_err-read_side.ensures in
    record {
      built = λ t reads. rw p.1 tt;
      refused = λ t reads. absurd (read_at_all _ reads.1 err.refused);
      counted = rw (p.1, p.2) (subst (λ lack. CountsRefusal lack c.args.pool.now c.args.pool.now) (sym err.no_pool) (record { size = refl; refusals = refl; last_refused = refl }));
      no_breaker = rw (p.1, p.2) err.no_breaker;
      front = front_same;
      stands = c.requires.stands;
    }

pub returns-in_err-tree : goal.returns-in_err-tree
returns-in_err-tree c =
    let p = err_from_is_err_and c.from_residual-in_err-tree.result c.from_residual-in_err-tree.ensures.1 in
    let err = c.in_err-tree.ensures in
    record {
      built = λ t reads. rw p.1 tt;
      refused = λ t reads.
          let (u, r) = c.in_ok-read_side.ensures.read in
          rw (p.1, p.2) (err.refused t (side_line (c.args.equations.now.before + c.args.side.from) reads r));
      counted = rw (p.1, p.2) err.counted;
      no_breaker = rw (p.1, p.2) err.no_breaker;
      front = err.front;
      stands = err.stands;
    }
