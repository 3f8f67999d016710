-- Two trees that stand last.
use Rattle.tree_handles.proofs.Shared.{◌≡◌, ℕ, ◌≤◌, [], ◌++◌, refl, sym, ap, ◌∙◌, arith, true, append-nil, used, since, State, since-append, Forest, empty, join, arity, flatten, forest_of, bytes_in}
use Rattle.tree_handles.proofs.{Shared.{before_last, last_trees, Ends, has_root, root_tree, without_root, forest, Stands}, Forests.{arity-join, bytes-flatten, forest_of_whole, join-empty, join_assoc}}
use Rattle.tree_handles.proofs.{Gathering.{before_last-join, last_trees-join}, Lasts.{last_rest}, Roots.{root_arity, root_id-root_tree}, Swapping.{no_bytes, block}, Parts.{IsTold}}

pub record AreLastTwo (a b begin : ℕ) (f : Forest) : Type 0 where
  pub trees : last_trees 2 f ≡ join (root_tree a f) (root_tree b f)
  pub others : before_last 2 f ≡ without_root a (without_root b f)
  pub begins : begin ≡ bytes_in (before_last 2 f)
  pub few : 2 ≤ arity f

pub last_two : (a b from mid end : ℕ) (s : State) → Stands s → has_root a (forest s) ≡ true → has_root b (forest s) ≡ true → IsTold a from mid s.nodes → IsTold b mid end s.nodes
    → end ≡ used s.nodes → AreLastTwo a b from (forest s)
last_two a b from mid end s st first second h k e =
    let f = forest s in
    let ns = s.nodes in
    let t = root_tree a f in
    let u = root_tree b f in
    let p = block a from mid s st first h in
    let q = block b mid end s st second k in
    let last : since (used ns) ns ≡ [] = ap (since (used ns)) (sym (append-nil ns)) ∙ since-append ns [] in
    let none : q.right ≡ empty = no_bytes q.right (ap used (sym q.ends ∙ ap (λ (j : ℕ). since j ns) e ∙ last)) in
    let tail : flatten p.right ≡ flatten u = sym p.ends ∙ q.here ∙ ap (λ (y : Forest). flatten u ++ flatten y) none ∙ append-nil (flatten u) in
    let right : p.right ≡ u = sym (forest_of_whole p.right) ∙ ap forest_of tail ∙ forest_of_whole u in
    let whole : f ≡ join p.left (join t u) = p.whole ∙ ap (λ (y : Forest). join p.left (join t y)) right in
    let one : arity t ≡ 1 = root_arity a f first in
    let other : arity u ≡ 1 = root_arity b f second in
    let both : 2 ≡ arity (join t u) = omega (arith, arity-join t u, one, other) in
    let before : before_last 2 f ≡ p.left = ap (before_last 2) whole ∙ before_last-join 2 p.left (join t u) both in
    let apart : f ≡ join (join p.left t) u = whole ∙ sym (join_assoc p.left t u) in
    let behind : f ≡ join q.left u = q.whole ∙ ap (λ (y : Forest). join q.left (join u y)) none ∙ ap (join q.left) (join-empty u) in
    let same : q.left ≡ join p.left t = sym (ap (before_last 1) behind ∙ before_last-join 1 q.left u (sym other)) ∙ ap (before_last 1) apart ∙ before_last-join 1 (join p.left t) u (sym other) in
    let ends : Ends b u (join p.left t) f = record { whole = apart; alone = other; root = root_id-root_tree b f second; clear = ap (has_root b) (sym same) ∙ q.clear } in
    let inner : Ends a t p.left (join p.left t) = record { whole = refl; alone = one; root = root_id-root_tree a f first; clear = p.clear } in
    record {
      trees = ap (last_trees 2) whole ∙ last_trees-join 2 p.left (join t u) both;
      others = before ∙ sym (ap (without_root a) (last_rest ends) ∙ last_rest inner);
      begins = p.begins ∙ bytes-flatten p.left ∙ ap bytes_in (sym before);
      few = omega (arith, ap arity whole, arity-join p.left (join t u), both);
    }
