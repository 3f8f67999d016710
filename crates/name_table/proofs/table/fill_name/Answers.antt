-- The tree of the table is put in, and then its depth is asked.
use Rattle.name_table.proofs.Shared.{arith, ◌≡◌, sym, subst, ◌<◌, Bool, true, false, State, Tree, err_from_is_err_and, depth, tree_at, name_of, free_of, IsExpression, plain, tree_of, forest}
use Rattle.name_table.proofs.{Fillings.{beside_expression, filled_one, new_expression, put_in, new_tree, refused_deep, refused_lacks}, table.fill_name.Goals.{Else-is_deeper}}
use Rattle.name_table.proofs.table.fill_name.Goals as goal

pub replace_name-requires-clause-expression : goal.replace_name-requires-clause-expression
replace_name-requires-clause-expression c = beside_expression c.args.source c.requires.stands c.requires.last c.requires.root c.requires.whole

pub is_deeper-requires-clause-expression : goal.is_deeper-requires-clause-expression
is_deeper-requires-clause-expression c = subst (λ i. IsExpression i (forest c.replace_name.new.pool)) (sym c.id.ensures) (new_expression c.replace_name.ensures.stands c.in_ok-filled.ensures.ok)

pub returns-clause-ok : goal.returns-clause-ok
returns-clause-ok c = put_in (name_of c.args.name) c.args.source (tree_of c.args.tree c.args.pool.now) c.requires.stands c.requires.last c.requires.root c.in_ok-filled.ensures.ok

pub returns-in_err-filled-clause-refused : goal.returns-in_err-filled-clause-refused
returns-in_err-filled-clause-refused c =
    let p = err_from_is_err_and c.from_residual.result c.from_residual.ensures.1 in
    rw (p.1, p.2) (refused_lacks (name_of c.args.name) c.args.source (free_of c.args.pool.now) (tree_of c.args.tree c.args.pool.now) c.in_err-filled.field-0.0 c.requires.stands c.requires.last c.requires.root c.in_err-filled.ensures.full)

pub returns-then-is_deeper-clause-refused : goal.returns-then-is_deeper-clause-refused
returns-then-is_deeper-clause-refused c =
    refused_deep (name_of c.args.name) c.args.source (free_of c.args.pool.now) (free_of c.replace_name.new.pool) (tree_of c.args.tree c.args.pool.now) c.requires.stands c.requires.last c.requires.root c.replace_name.ensures.stands
    c.in_ok-filled.ensures.ok c.in_ok-filled.ensures.ok_room (subst (λ i. 64 < depth (plain (tree_at i (forest c.replace_name.new.pool)))) c.id.ensures (c.is_deeper.ensures.0 c.if-is_deeper.true))

both : {t : Bool} → t ≡ true → t ≡ false → ⊥
both {t} p q = cc

not_deep : (c : Else-is_deeper) → 64 < depth (tree_of c.in_ok-filled.filled c.replace_name.new.pool) → ⊥
not_deep c h =
    let s : State = c.replace_name.new.pool in
    let e = new_tree c.replace_name.ensures.stands c.in_ok-filled.ensures.ok in
    both (c.is_deeper.ensures.1 (subst (λ i. 64 < depth (plain (tree_at i (forest s)))) (sym c.id.ensures) (subst (λ (t : Tree). 64 < depth t) (sym e) h))) c.if-is_deeper.false

pub returns-clause-ok_room : goal.returns-clause-ok_room
returns-clause-ok_room c =
    filled_one c.replace_name.new.pool (name_of c.args.name) c.args.source (free_of c.args.pool.now) (free_of c.replace_name.new.pool)
    (tree_of c.args.tree c.args.pool.now) c.requires.stands c.requires.last c.requires.root
    c.in_ok-filled.ensures.ok c.in_ok-filled.ensures.ok_room (not_deep c)

pub returns-clause-shallow : goal.returns-clause-shallow
returns-clause-shallow c = let h : 64 < depth (tree_of c.in_ok-filled.filled c.replace_name.new.pool) → ⊥ = not_deep c in omega arith
