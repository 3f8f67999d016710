-- A pool that was opened.
use Rattle.tree_handles.proofs.{Shared.{◌≡◌, [], arith, ap, sym, subst, used, AreNodes, AreDistinct, State, IsPool, IsPoolSize, empty, Stands}, Forests.stands}

pub stands_open : (s : State) → s.nodes ≡ [] → IsPoolSize s.size → Stands s
stands_open s e size =
    let pool : IsPool s = record { nodes = subst AreNodes (sym e) tt; distinct = subst AreDistinct (sym e) tt; fits = omega (arith, ap used e); size = size } in
    (stands s empty e pool tt).1
