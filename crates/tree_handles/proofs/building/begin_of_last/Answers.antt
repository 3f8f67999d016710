use Rattle.tree_handles.proofs.{Shared.{ℕ, sym, ap, ◌∙◌, place_of, since, forest}, Adding.root_live, LastTwo.{AreLastTwo, last_two}, building.begin_of_last.Goals.Then-behind-used}
use Rattle.tree_handles.proofs.building.begin_of_last.Goals as goal

pub locate-begin-requires : goal.locate-begin-requires
locate-begin-requires c = rw c.id.ensures (root_live c.args.left.now c.args.pool.now c.requires.stands c.requires.first)

pub locate-mid-requires : goal.locate-mid-requires
locate-mid-requires c = rw c.id-2.ensures (root_live c.args.right.now c.args.pool.now c.requires.stands c.requires.second)

two : (c : Then-behind-used) → AreLastTwo c.args.left.now c.args.right.now c.locate-begin.result (forest c.args.pool.now)
two c =
    let s = c.args.pool.now in
    last_two c.args.left.now c.args.right.now c.locate-begin.result c.locate-mid.result c.behind-then-behind-mid.result s c.requires.stands c.requires.first c.requires.second
    (record {
      start = c.locate-begin.ensures.value ∙ ap (λ (i : ℕ). place_of i s.nodes) c.id.ensures;
      boundary = c.locate-mid.ensures.boundary;
      rest = ap (λ (j : ℕ). since j s.nodes)
          (sym c.if-behind-mid.true) ∙ c.behind.ensures.rest;
    })
    (record { start = c.locate-mid.ensures.value ∙ ap (λ (i : ℕ). place_of i s.nodes) c.id-2.ensures; boundary = c.behind-then-behind-mid.ensures.boundary; rest = c.behind-then-behind-mid.ensures.rest })
    (c.if-behind-used.true ∙ c.used.ensures.value)

pub returns-then-behind-used : goal.returns-then-behind-used
returns-then-behind-used c = record { trees = (two c).trees; others = (two c).others; begin = (two c).begins; few = (two c).few }
