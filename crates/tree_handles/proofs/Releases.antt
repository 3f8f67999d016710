-- Releasing trees, node after node.
use Rattle.tree_handles.proofs.Shared.{◌≡◌, ℕ, zero, suc, ◌+◌, ◌-◌, ◌<◌, ◌≤◌, List, [], ◌∷◌, ◌++◌, length, cond, eqb, refl, sym, ap, ◌∙◌, subst, arith, append_assoc, Bool, true, false, eqb-false}
use Rattle.tree_handles.proofs.Shared.{leb-true, lt-ltb, le-ltb, IsStep, step, unheld, unheld_more, owed_behind, length-append, Node, size_of, has, used, first_of, with_count, AreDistinct, until}
use Rattle.tree_handles.proofs.Shared.{since, between, without, IsBoundary, State, IsPool, used-append, length_le_used, since-append, until-append, until-since, boundary-append, with_count-append}
use Rattle.tree_handles.proofs.Shared.{without-append, Label, Forest, empty, tree, join, arity, node_of, flatten, first_trees, rest_trees, forest_of, released, release_first, released_at, skip}
use Rattle.tree_handles.proofs.{Shared.{IsOwed, IsNearer, owed_nodes, leb}, Distinct.{not_before}, Forests.{flatten-join, arity-join, join_assoc, forest_of_whole, skip-flatten}}
use Rattle.tree_handles.proofs.Parts.{place_is, has_mid, used_some}

pub since_is : (ns : List Node) (at owed : ℕ) (end : List Node) (o : IsOwed ns at owed end) → since at ns ≡ flatten o.trees
since_is ns at owed end o = ap (λ (k : ℕ). since k ns) o.place ∙ ap (since (used o.before)) o.whole ∙ since-append o.before (flatten o.trees)

pub until_is : (ns : List Node) (at owed : ℕ) (end : List Node) (o : IsOwed ns at owed end) → until at ns ≡ o.before
until_is ns at owed end o = ap (λ (k : ℕ). until k ns) o.place ∙ ap (until (used o.before)) o.whole ∙ until-append o.before (flatten o.trees)

pub owed_is : (ns : List Node) (at owed : ℕ) (end : List Node) (o : IsOwed ns at owed end) → owed_nodes ns at owed ≡ length (flatten (first_trees owed o.trees))
owed_is ns at owed end o = ap (λ (f : Forest). length (flatten (first_trees owed f))) (ap forest_of (since_is ns at owed end o) ∙ forest_of_whole o.trees)

pub owed_boundary : (ns : List Node) (at owed : ℕ) (end : List Node) → IsOwed ns at owed end → IsBoundary at ns
owed_boundary ns at owed end o = subst (IsBoundary at) (sym o.whole) (boundary-append o.before (flatten o.trees) at o.place)

pub owed_inside : (ns : List Node) (at owed : ℕ) (end : List Node) → IsOwed ns at owed end → 0 < owed → at < used ns
owed_inside ns at owed end o h = omega (arith, ap used o.whole, used-append o.before (flatten o.trees), o.place, o.few, used_some o.trees (omega (arith, o.few)))

some_tree : (f : Forest) → 0 < used (flatten f) → 1 ≤ arity f
some_tree empty h = absurd (omega arith)
some_tree (tree l k r) h = omega arith

-- at the start
pub owed_start : (ns : List Node) (at : ℕ) → IsBoundary at ns → at < used ns → since at ns ≡ flatten (forest_of (since at ns)) → IsOwed ns at 1 (released_at at 1 ns)
owed_start ns at b h e = grind (arith, until-since, some_tree, used-append)

-- ---- laws of release

pub released-join : (f g : Forest) → released (join f g) ≡ join (released f) (released g)
released-join empty g = refl
released-join (tree l k r) g = grind (arith, join_assoc, released-join r g)

first_trees-add : (f g : Forest) (n : ℕ) → first_trees (arity f + n) (join f g) ≡ join f (first_trees n g)
first_trees-add empty g n = ap (λ (k : ℕ). first_trees k g) (omega arith)
first_trees-add (tree l k r) g n =
    let e : arity (tree l k r) + n ≡ suc (arity r + n) = omega arith in
    ap (λ (j : ℕ). first_trees j (tree l k (join r g))) e ∙ ap (λ (x : Forest). tree l k x) (first_trees-add r g n)

pub rest_trees-add : (f g : Forest) (n : ℕ) → rest_trees (arity f + n) (join f g) ≡ rest_trees n g
rest_trees-add empty g n = ap (λ (k : ℕ). rest_trees k g) (omega arith)
rest_trees-add (tree l k r) g n =
    let e : arity (tree l k r) + n ≡ suc (arity r + n) = omega arith in
    ap (λ (j : ℕ). rest_trees j (tree l k (join r g))) e ∙ rest_trees-add r g n

-- ---- a tree that is held stays

owed_length : (ns : List Node) (at j : ℕ) (end : List Node) (a : List Node) (l : Label) (k r : Forest) → ns ≡ a ++ flatten (tree l k r) → at ≡ used a → owed_nodes ns at (suc j) ≡ suc (length (flatten k ++ flatten (first_trees j r)))
owed_length ns at j end a l k r e h =
    ap (λ (f : Forest). length (flatten (first_trees (suc j) f))) (ap forest_of (ap (λ (i : ℕ). since i ns) h ∙ ap (since (used a)) e ∙ since-append a (flatten (tree l k r))) ∙ forest_of_whole (tree l k r))

-- the first node
first_is : (ns : List Node) (at : ℕ) (a : List Node) (l : Label) (k r : Forest) → ns ≡ a ++ flatten (tree l k r) → at ≡ used a → since at ns ≡ node_of l k ∷ (flatten k ++ flatten r)
first_is ns at a l k r e h = ap (λ (j : ℕ). since j ns) h ∙ ap (since (used a)) e ∙ since-append a (flatten (tree l k r))

pub released_held : (l : Label) (k r : Forest) → 1 < l.count → released (tree l k r) ≡ tree (record l { count = l.count - 1 }) k (released r)
released_held l k r h = ap (λ (t : Bool). cond t (tree (record l { count = l.count - 1 }) k (released r)) (join (released k) (released r))) (lt-ltb 1 l.count h)

released_gone : (l : Label) (k r : Forest) → l.count ≤ 1 → released (tree l k r) ≡ join (released k) (released r)
released_gone l k r h = ap (λ (t : Bool). cond t (tree (record l { count = l.count - 1 }) k (released r)) (join (released k) (released r))) (le-ltb 1 l.count h)

held_tree : (ns ms : List Node) (at j next : ℕ) (end : List Node) (a : List Node) (l : Label) (k r : Forest) → ns ≡ a ++ flatten (tree l k r) → at ≡ used a → suc j ≤ arity (tree l k r) → a ++ flatten (release_first (suc j) (tree l k r)) ≡ end
    → IsOwed ns at (suc j) end → AreDistinct ns → 1 < l.count → ms ≡ with_count l.id (l.count - 1) ns → IsBoundary next ms → since next ms ≡ skip 1 (since at ms) → IsNearer ns ms at (suc j) next j end
held_tree ns ms at j next end a l k r e h few rest o d many q b behind =
    let m = node_of l k in
    let new = record l { count = l.count - 1 } in
    let n = node_of new k in
    let clear : has l.id a ≡ false = not_before a m (flatten k ++ flatten r) (subst AreDistinct e d) in
    let now : ms ≡ a ++ (n ∷ (flatten k ++ flatten r)) = q ∙ ap (with_count l.id (l.count - 1)) e ∙ with_count-append l.id (l.count - 1) a m (flatten k ++ flatten r) clear refl in
    let there : since at ms ≡ n ∷ (flatten k ++ flatten r) = first_is ms at a new k r now h in
    let count : 0 + arity k ≡ arity k + 0 = omega arith in
    let after : since next ms ≡ flatten r =
    behind ∙ ap (skip 1) there ∙ ap (λ (i : ℕ). skip i (flatten k ++ flatten r)) count ∙ skip-flatten k 0 (flatten r) in
    let split : ms ≡ (a ++ (n ∷ flatten k)) ++ flatten r = now ∙ sym (append_assoc a (n ∷ flatten k) (flatten r)) in
    let x = first_trees j r in
    let y = rest_trees j r in
    let left : flatten (release_first (suc j) (tree l k r)) ≡ n ∷ (flatten k ++ flatten (release_first j r)) = ap (λ (f : Forest). flatten (join f y)) (released_held l k x many) in
    let owed : IsOwed ms next j end = record {
      before = a ++ (n ∷ flatten k);
      trees = r;
      whole = split;
      place = place_is next ms (a ++ (n ∷ flatten k)) (flatten r) b split after;
      few = omega arith;
      rest = append_assoc a (n ∷ flatten k) (flatten (release_first j r)) ∙ ap (λ (t : List Node). a ++ t) (sym left) ∙ rest;
    } in
    record { now = owed; less = omega (arith, owed_is ms next j end owed, owed_length ns at j end a l k r e h, length-append (flatten k) (flatten x)) }

gone_tree : (ns ms : List Node) (at j next : ℕ) (end : List Node) (a : List Node) (l : Label) (k r : Forest) → ns ≡ a ++ flatten (tree l k r) → at ≡ used a → suc j ≤ arity (tree l k r) → a ++ flatten (release_first (suc j) (tree l k r)) ≡ end
    → l.count ≤ 1 → next ≡ at + size_of (node_of l k) → ms ≡ without at next ns → IsNearer ns ms at (suc j) at (j + arity k) end
gone_tree ns ms at j next end a l k r e h few rest one size q =
    let m = node_of l k in
    let x = first_trees j r in
    let y = rest_trees j r in
    let now : ms ≡ a ++ (flatten k ++ flatten r) = q ∙ ap (without at next) e ∙ without-append a (m ∷ []) (flatten k ++ flatten r) at next h (omega arith) in
    let count : j + arity k ≡ arity k + j = omega arith in
    let first : first_trees (j + arity k) (join k r) ≡ join k x = ap (λ (i : ℕ). first_trees i (join k r)) count ∙ first_trees-add k r j in
    let last : rest_trees (j + arity k) (join k r) ≡ y = ap (λ (i : ℕ). rest_trees i (join k r)) count ∙ rest_trees-add k r j in
    let left : release_first (suc j) (tree l k r) ≡ release_first (j + arity k) (join k r) =
    ap (λ (f : Forest). join f y) (released_gone l k x one ∙ sym (released-join k x)) ∙ ap (λ (f : Forest). join (released f) y) (sym first) ∙ ap (λ (f : Forest). join (released (first_trees (j + arity k) (join k r))) f) (sym last) in
    let owed : IsOwed ms at (j + arity k) end = record {
      before = a;
      trees = join k r;
      whole = now ∙ ap (λ (t : List Node). a ++ t) (sym (flatten-join k r));
      place = h;
      few = omega (arith, arity-join k r);
      rest = ap (λ (f : Forest). a ++ flatten f) (sym left) ∙ rest;
    } in
    record { now = owed; less = omega (arith, owed_is ms at (j + arity k) end owed, ap (λ (f : Forest). length (flatten f)) first, ap length (flatten-join k x), owed_length ns at j end a l k r e h) }

held_forest : (ns ms : List Node) (at j next : ℕ) (end : List Node) (a : List Node) (f : Forest) → ns ≡ a ++ flatten f → at ≡ used a → suc j ≤ arity f → a ++ flatten (release_first (suc j) f) ≡ end
    → IsOwed ns at (suc j) end → AreDistinct ns → 1 < (first_of (since at ns)).count → ms ≡ with_count (first_of (since at ns)).id ((first_of (since at ns)).count - 1) ns → IsBoundary next ms → since next ms ≡ skip 1 (since at ms) → IsNearer ns ms at (suc j) next j end
held_forest ns ms at j next end a empty e h few rest o d many q b r = absurd (omega arith)
held_forest ns ms at j next end a (tree l k t) e h few rest o d many q b r =
    let n : first_of (since at ns) ≡ node_of l k = ap first_of (first_is ns at a l k t e h) in
    held_tree ns ms at j next end a l k t e h few rest o d (subst (λ (x : Node). 1 < x.count) n many) (q ∙ ap (λ (x : Node). with_count x.id (x.count - 1) ns) n) b r

pub held : (ns ms : List Node) (at owed next : ℕ) (end : List Node) → IsOwed ns at owed end → 0 < owed → AreDistinct ns → 1 < (first_of (since at ns)).count
    → ms ≡ with_count (first_of (since at ns)).id ((first_of (since at ns)).count - 1) ns → IsBoundary next ms → since next ms ≡ skip 1 (since at ms) → IsNearer ns ms at owed next (owed - 1) end
held ns ms at zero next end o some d many e b r = absurd (omega arith)
held ns ms at (suc j) next end o some d many e b r =
    let less : j ≡ suc j - 1 = omega arith in
    subst (λ (i : ℕ). IsNearer ns ms at (suc j) next i end) less (held_forest ns ms at j next end o.before o.trees o.whole o.place o.few o.rest o d many e b r)

gone_forest : (ns ms : List Node) (at j next still : ℕ) (end : List Node) (a : List Node) (f : Forest) → ns ≡ a ++ flatten f → at ≡ used a → suc j ≤ arity f → a ++ flatten (release_first (suc j) f) ≡ end
    → (first_of (since at ns)).count ≤ 1 → next ≡ at + size_of (first_of (since at ns)) → ms ≡ without at next ns → still ≡ suc j - 1 + (first_of (since at ns)).children → IsNearer ns ms at (suc j) at still end
gone_forest ns ms at j next still end a empty e h few rest one size q s = absurd (omega arith)
gone_forest ns ms at j next still end a (tree l k t) e h few rest one size q s =
    let n : first_of (since at ns) ≡ node_of l k = ap first_of (first_is ns at a l k t e h) in
    let c : still ≡ j + arity k = s ∙ ap (λ (x : Node). suc j - 1 + x.children) n ∙ omega arith in
    subst (λ (i : ℕ). IsNearer ns ms at (suc j) at i end) (sym c) (gone_tree ns ms at j next end a l k t e h few rest (subst (λ (x : Node). x.count ≤ 1) n one) (size ∙ ap (λ (x : Node). at + size_of x) n) q)

pub gone : (ns ms : List Node) (at owed next still : ℕ) (end : List Node) → IsOwed ns at owed end → 0 < owed → (first_of (since at ns)).count ≤ 1
    → next ≡ at + size_of (first_of (since at ns)) → ms ≡ without at next ns → still ≡ owed - 1 + (first_of (since at ns)).children → IsNearer ns ms at owed at still end
gone ns ms at zero next still end o some few e q s = absurd (omega arith)
gone ns ms at (suc j) next still end o some few e q s = gone_forest ns ms at j next still end o.before o.trees o.whole o.place o.few o.rest few e q s

-- ---- what the calls in between ask for

live_forest : (ns : List Node) (at owed : ℕ) (a : List Node) (f : Forest) → ns ≡ a ++ flatten f → at ≡ used a → 0 < arity f → has (first_of (since at ns)).id ns ≡ true
live_forest ns at owed a empty e h some = absurd (omega arith)
live_forest ns at owed a (tree l k r) e h some = grind (arith, first_is, has_mid)

boundary_forest : (ns ms : List Node) (at : ℕ) (a : List Node) (f : Forest) → ns ≡ a ++ flatten f → at ≡ used a → 0 < arity f → AreDistinct ns → ms ≡ with_count (first_of (since at ns)).id ((first_of (since at ns)).count - 1) ns → IsBoundary at ms
boundary_forest ns ms at a empty e h some d q = absurd (omega arith)
boundary_forest ns ms at a (tree l k r) e h some d q = grind (arith, first_is, not_before, with_count-append, boundary-append)

pub arity_le : (f : Forest) → arity f ≤ length (flatten f)
arity_le empty = omega arith
arity_le (tree l k r) = omega (arith, arity_le r, length-append (flatten k) (flatten r))

pub owed_live : (ns : List Node) (at owed : ℕ) (end : List Node) → IsOwed ns at owed end → 0 < owed → has (first_of (since at ns)).id ns ≡ true
owed_live ns at owed end o some = live_forest ns at owed o.before o.trees o.whole o.place (omega (arith, o.few))

pub held_boundary : (ns ms : List Node) (at owed : ℕ) (end : List Node) → IsOwed ns at owed end → 0 < owed → AreDistinct ns → ms ≡ with_count (first_of (since at ns)).id ((first_of (since at ns)).count - 1) ns → IsBoundary at ms
held_boundary ns ms at owed end o some d q = boundary_forest ns ms at o.before o.trees o.whole o.place (omega (arith, o.few)) d q

pub owed_few : (ns : List Node) (at owed : ℕ) (end : List Node) → IsOwed ns at owed end → owed ≤ length ns
owed_few ns at owed end o = omega (arith, o.few, arity_le o.trees, ap length o.whole, length-append o.before (flatten o.trees))

pub few_nodes : (s : State) → IsPool s → length s.nodes ≤ 65535
few_nodes s p = omega (arith, length_le_used s.nodes, p.fits, p.size.most)

-- ---- a run of nodes that go

-- what is left without a block, from its place on
pub since-without : (place at : ℕ) (ns : List Node) → IsBoundary place ns → since place (without place at ns) ≡ since at ns
since-without place at ns b = ap (λ (k : ℕ). since k (until place ns ++ since at ns)) (sym b) ∙ since-append (until place ns) (since at ns)

-- a node more goes
pub without-without : (place at : ℕ) (n : Node) (ns rest : List Node) → IsBoundary place ns → since at ns ≡ n ∷ rest → without place (place + size_of n) (without place at ns) ≡ until place ns ++ rest
without-without place at n ns rest b e =
    ap (λ (l : List Node). without place (place + size_of n) (until place ns ++ l)) e ∙ without-append (until place ns) (n ∷ []) rest place (place + size_of n) (sym b) (omega arith)

-- the end is told by the nodes as they are
pub owed_left : (ns : List Node) (at owed : ℕ) (end : List Node) → IsOwed ns at owed end → released_at at owed ns ≡ end
owed_left ns at owed end o =
    ap (λ (l : List Node). l ++ flatten (release_first owed (forest_of (since at ns)))) (until_is ns at owed end o)
    ∙ ap (λ (f : Forest). o.before ++ flatten (release_first owed f)) (ap forest_of (since_is ns at owed end o) ∙ forest_of_whole o.trees) ∙ o.rest

pub owed_now : (ns : List Node) (at owed : ℕ) (end : List Node) → IsOwed ns at owed end → IsOwed ns at owed (released_at at owed ns)
owed_now ns at owed end o = subst (IsOwed ns at owed) (sym (owed_left ns at owed end o)) o

pub nearer_end : (ns ms : List Node) (at owed next still : ℕ) (end : List Node) → IsOwed ns at owed end → IsNearer ns ms at owed next still (released_at at owed ns) → IsNearer ns ms at owed next still end
nearer_end ns ms at owed next still end o n = subst (IsNearer ns ms at owed next still) (owed_left ns at owed end o) n

-- the run so far
pub record IsRun (ns : List Node) (place owed at still : ℕ) : Type 0 where
  pub nearer : IsNearer ns (without place at ns) place owed place still (released_at place owed ns)
  pub boundary : IsBoundary at ns
  pub order : place ≤ at

-- the first node goes
pub run_start : (ns : List Node) (place owed next still : ℕ) → IsOwed ns place owed (released_at place owed ns) → 0 < owed → (first_of (since place ns)).count ≤ 1 → IsBoundary next ns → next ≡ place + size_of (first_of (since place ns))
    → still ≡ owed - 1 + (first_of (since place ns)).children → IsRun ns place owed next still
run_start ns place owed next still o some few b e s = record { nearer = gone ns (without place next ns) place owed next still (released_at place owed ns) o some few e refl s; boundary = b; order = omega arith }

-- what the next node asks for
pub run_inside : (ns : List Node) (place owed at still : ℕ) → IsBoundary place ns → IsRun ns place owed at still → 0 < still → at < used ns
run_inside ns place owed at still b r some =
    let inside = owed_inside (without place at ns) place still (released_at place owed ns) r.nearer.now some in
    omega (arith, inside, used-append (until place ns) (since at ns), b, ap used (until-since at ns), used-append (until at ns) (since at ns), r.boundary)

pub run_more : (ns : List Node) (place owed at still next more : ℕ) → IsBoundary place ns → IsRun ns place owed at still → 0 < still → (first_of (since at ns)).count ≤ 1 → IsBoundary next ns → next ≡ at + size_of (first_of (since at ns))
    → since at ns ≡ first_of (since at ns) ∷ since next ns → more ≡ still - 1 + (first_of (since at ns)).children → IsRun ns place owed next more
run_more ns place owed at still next more b r some few bn e q s =
    let n = first_of (since at ns) in
    let ms = without place at ns in
    let end = released_at place owed ns in
    let first : first_of (since place ms) ≡ n = ap first_of (since-without place at ns b) in
    let now : without place next ns ≡ without place (place + size_of n) ms = sym (without-without place at n ns (since next ns) b q) in
    let x = gone ms (without place next ns) place still (place + size_of n) more end r.nearer.now some (subst (λ (y : Node). y.count ≤ 1) (sym first) few) (ap (λ (y : Node). place + size_of y) (sym first)) now (s ∙ ap (λ (y : Node). still - 1 + y.children) (sym first)) in
    record {
      nearer = record { now = x.now; less = omega (arith, x.less, r.nearer.less) };
      boundary = bn;
      order = omega (arith, r.order);
    }

-- what is no node stays as it was
pub kept_others : (a s t : State) (ns : List Node) → s ≡ record a { nodes = s.nodes } → t ≡ record s { nodes = ns } → t ≡ record a { nodes = t.nodes }
kept_others a s t ns e q = q ∙ ap (λ (x : State). record x { nodes = ns }) e ∙ ap (λ (ms : List Node). record a { nodes = ms }) (sym (ap (λ (x : State). x.nodes) q))

-- ---- all nodes of a run

run_step : (t u : Bool) (n : Node) (m ns : List Node) (place owed at still : ℕ) → eqb still 0 ≡ t → leb n.count 1 ≡ u → IsBoundary place ns → IsRun ns place owed at still → since at ns ≡ n ∷ m
    → ((next more : ℕ) → IsRun ns place owed next more → since next ns ≡ m → IsRun ns place owed (next + used (unheld more m)) (owed_behind more (unheld more m)))
    → IsRun ns place owed (at + used (cond t [] (cond u (n ∷ unheld (still - 1 + n.children) m) []))) (owed_behind still (cond t [] (cond u (n ∷ unheld (still - 1 + n.children) m) [])))
run_step true u n m ns place owed at still et eu b r e rec = grind (arith)
run_step false false n m ns place owed at still et eu b r e rec = grind (arith)
run_step false true n m ns place owed at still et eu b r e rec =
    let ne : still ≡ 0 → ⊥ = eqb-false still 0 et in
    let some : 0 < still = omega arith in
    let few : n.count ≤ 1 = leb-true n.count 1 eu in
    let first : first_of (since at ns) ≡ n = ap first_of e in
    let next = at + size_of n in
    let one : IsStep at next ns = subst (λ (x : Node). IsStep at (at + size_of x) ns) first (step at ns r.boundary (run_inside ns place owed at still b r some)) in
    let rest : since next ns ≡ m = cc (e, one.rest) in
    let more = still - 1 + n.children in
    let run : IsRun ns place owed next more =
    run_more ns place owed at still next more b r some (subst (λ (x : Node). x.count ≤ 1) (sym first) few) one.boundary (ap (λ (x : Node). at + size_of x) (sym first)) one.rest (ap (λ (x : Node). still - 1 + x.children) (sym first)) in
    let behind : next + used (unheld more m) ≡ at + (size_of n + used (unheld more m)) = omega arith in
    subst (λ (k : ℕ). IsRun ns place owed k (owed_behind more (unheld more m))) behind (rec next more run rest)

run_all : (m ns : List Node) (place owed at still : ℕ) → IsBoundary place ns → IsRun ns place owed at still → since at ns ≡ m → IsRun ns place owed (at + used (unheld still m)) (owed_behind still (unheld still m))
run_all [] ns place owed at still b r e = grind (arith)
run_all (n ∷ m) ns place owed at still b r e = run_step (eqb still 0) (leb n.count 1) n m ns place owed at still refl refl b r e (λ next more q h. run_all m ns place owed next more b q h)

-- a node that nothing else holds goes, and those behind it up to one that is held
pub gone_unheld : (ns : List Node) (place owed : ℕ) → IsOwed ns place owed (released_at place owed ns) → 0 < owed → (first_of (since place ns)).count ≤ 1
    → IsNearer ns (without place (place + used (unheld owed (since place ns))) ns) place owed place (owed_behind owed (unheld owed (since place ns))) (released_at place owed ns)
gone_unheld ns place owed o some few =
    let end = released_at place owed ns in
    let n = first_of (since place ns) in
    let next = place + size_of n in
    let still = owed - 1 + n.children in
    let one = step place ns (owed_boundary ns place owed end o) (owed_inside ns place owed end o some) in
    let run = run_all (since next ns) ns place owed next still (owed_boundary ns place owed end o) (run_start ns place owed next still o some few one.boundary refl refl) refl in
    let all : unheld owed (since place ns) ≡ n ∷ unheld still (since next ns) = unheld_more owed (since place ns) n (since next ns) one.rest some few in
    let behind : next + used (unheld still (since next ns)) ≡ place + (size_of n + used (unheld still (since next ns))) = omega arith in
    subst (λ (l : List Node). IsNearer ns (without place (place + used l) ns) place owed place (owed_behind owed l) end) (sym all)
    (subst (λ (k : ℕ). IsNearer ns (without place k ns) place owed place (owed_behind still (unheld still (since next ns))) end) behind run.nearer)
