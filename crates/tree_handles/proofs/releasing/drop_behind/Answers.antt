use Rattle.tree_handles.proofs.{Shared.{rules, ◌≡◌, ◌+◌, ◌-◌, ◌∙◌, ap, sym, subst, arith, IsBoundary, without, State, Forest, bytes_in, Starts, Stands, forest}, Dropping.{stands_first, dropped}}
use Rattle.tree_handles.proofs.releasing.drop_behind.Goals as goal

pub overflow_sub-len : goal.overflow_sub-len
overflow_sub-len c =
    let (first, x, e) = c.requires.front in
    omega (arith, (stands_first c.requires.stands x e).within, c.used.ensures.value)

pub remove_block-requires : goal.remove_block-requires
remove_block-requires c =
    let (first, x, e) = c.requires.front in
    let end : c.args.bytes + (c.used.result - c.args.bytes) ≡ c.used.result = omega (arith, (stands_first c.requires.stands x e).within, c.used.ensures.value) in
    record { from = (stands_first c.requires.stands x e).boundary; to = subst (λ at. IsBoundary at c.args.pool.now.nodes) (sym end) c.used.ensures.boundary }

-- for any trees that stand first
all : (c : goal.After-remove_block) (first : Forest) → Starts first (forest c.args.pool.now) → c.args.bytes ≡ bytes_in first → (forest c.remove_block.new.self ≡ first) × Stands c.remove_block.new.self
all c first x e =
    let s = c.args.pool.now in
    let bytes = c.args.bytes in
    dropped c.requires.stands x e (c.remove_block.ensures.nodes ∙ ap (λ k. let r : State = record s { nodes = without bytes (bytes + (k - bytes)) s.nodes } in r) c.used.ensures.value) c.remove_block.ensures.pool

pub returns : goal.returns
returns c =
    let (first, x, e) = c.requires.front in
    record { forest = λ first x e. (all c first x e).0; stands = (all c first x e).1; kept = search rules }
