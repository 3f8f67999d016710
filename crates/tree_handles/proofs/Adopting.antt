-- Trees behind a root that become its children.
use Rattle.std.specs.Prelude.{◌≡◌, ℕ, ◌+◌, ◌<◌, ◌≤◌, List, ◌∷◌, ◌++◌, length, true, false}
use Rattle.tree_handles.proofs.Shared.{refl, sym, ap, ◌∙◌, subst, arith, append_assoc, cond, Bool, eq-eqb, length-append, Node, with_children, State}
use Rattle.tree_handles.proofs.Shared.{with_children-append, Label, Forest, empty, tree, join, arity, kids, node_of, flatten, first_trees, rest_trees, root_id, with_root_kids, with_nth}
use Rattle.tree_handles.proofs.{Shared.{AllNodes, Ends, kids_of, has_root, behind_root, adopted, put, Stands, forest, IsCounted}, Distinct.distinct, Parts.found, Forests.flatten-join}
use Rattle.tree_handles.proofs.Forests.{join_assoc, arity-join, arity-first_trees, first-rest, first_trees-join, rest_trees-join, join-empty, all-join, all-left, all-right, all-first_trees}
use Rattle.tree_handles.proofs.{Forests.all-rest_trees, Lasts.{kids_of_root, last_put}, Releases.{arity_le, few_nodes}, Roots.top}

behind-right : (i : ℕ) (f g : Forest) → has_root i f ≡ false → behind_root i (join f g) ≡ behind_root i g
behind-right i empty g h = refl
behind-right i (tree l k r) g h = grind (arith, behind-right i r g)

adopted-right : (i n : ℕ) (f g : Forest) → has_root i f ≡ false → adopted i n (join f g) ≡ join f (adopted i n g)
adopted-right i n empty g h = refl
adopted-right i n (tree l k r) g h = grind (arith, adopted-right i n r g)

-- the root, with the trees behind it
pub behind_there : (i : ℕ) (f r k : Forest) (l : Label) → has_root i f ≡ false → l.id ≡ i → behind_root i (join f (tree l k r)) ≡ r
behind_there i f r k l h e = behind-right i f (tree l k r) h ∙ ap (λ (t : Bool). cond t r (behind_root i r)) (eq-eqb l.id i e)

pub adopted_there : (i n : ℕ) (f r k : Forest) (l : Label) → has_root i f ≡ false → l.id ≡ i → adopted i n (join f (tree l k r)) ≡ join f (tree l (join k (first_trees n r)) (rest_trees n r))
adopted_there i n f r k l h e = grind (arith, adopted-right)

-- all of them
pub adopted_all : (i n : ℕ) (f r k : Forest) (l : Label) → has_root i f ≡ false → l.id ≡ i → n ≡ arity r → adopted i n (join f (tree l k r)) ≡ join f (tree l (join k r) empty)
adopted_all i n f r k l h e c =
    let first : first_trees n r ≡ r = ap (λ (m : ℕ). first_trees m r) c ∙ ap (first_trees (arity r)) (sym (join-empty r)) ∙ first_trees-join r empty in
    let rest : rest_trees n r ≡ empty = ap (λ (m : ℕ). rest_trees m r) c ∙ ap (rest_trees (arity r)) (sym (join-empty r)) ∙ rest_trees-join r empty in
    adopted_there i n f r k l h e ∙ ap (λ (x : Forest). join f (tree l (join k x) (rest_trees n r))) first ∙ ap (λ (x : Forest). join f (tree l (join k r) x)) rest

-- the tree just behind a root
pub record IsNextAdopted (i : ℕ) (t u f new : Forest) : Type 0 where
  pub within : 1 ≤ arity (behind_root i new)
  pub forest : adopted i 1 new ≡ put i (with_nth (arity (kids u)) t (kids u)) f

next_parts : (i : ℕ) (t u g f new : Forest) → arity u ≡ 1 → root_id u ≡ i → arity t ≡ 1 → has_root i g ≡ false → f ≡ join g u → new ≡ join f t → put i (with_nth (arity (kids u)) t (kids u)) f ≡ join g (with_root_kids (with_nth (arity (kids u)) t (kids u)) u) → IsNextAdopted i t u f new
next_parts i t (tree l k empty) g f new one is single clear e h p =
    let whole : new ≡ join g (tree l k t) = h ∙ ap (λ (x : Forest). join x t) e ∙ join_assoc g (tree l k empty) t in
    let last : with_nth (arity k) t k ≡ join k t =
    ap (λ (x : Forest). with_nth (arity k) t x) (sym (join-empty k)) ∙ rw (first_trees-join k empty, rest_trees-join k empty) (ap (join k) (join-empty t)) in
    record {
      within = omega (arith, ap arity (ap (behind_root i) whole ∙ behind_there i g t k l clear is), single);
      forest = ap (adopted i 1) whole ∙ adopted_all i 1 g t k l clear is (sym single) ∙ ap (λ (x : Forest). join g (tree l x empty)) (sym last) ∙ sym p;
    }
next_parts i t u g f new one is single clear e h p = absurd (omega arith)

pub next_adopted : {i j : ℕ} {t u g f new : Forest} → Ends i u g f → Ends j t f new → IsNextAdopted i t u f new
next_adopted {i = i} {t = t} {u = u} {g = g} {f = f} {new = new} a b = next_parts i t u g f new a.alone a.root b.alone a.clear a.whole b.whole (last_put (with_nth (arity (kids u)) t (kids u)) a)

-- ---- the call

pub record IsAdopted (i n own : ℕ) (s : State) : Type 0 where
  pub few : own + n < 65536
  pub nodes : with_children i (own + n) s.nodes ≡ flatten (adopted i n (forest s))

pub are_adopted : (i n own : ℕ) (s : State) → Stands s → has_root i (forest s) ≡ true → n ≤ arity (behind_root i (forest s)) → own ≡ arity (kids_of i (forest s)) → IsAdopted i n own s
are_adopted i n own s st root within many =
    let f = forest s in
    let p = top i f root in
    let l = p.label in
    let k = p.kids-are in
    let r = p.right in
    let new = join k (first_trees n r) in
    let whole : flatten f ≡ flatten p.left ++ (node_of l k ∷ (flatten k ++ flatten r)) = ap flatten p.whole ∙ flatten-join p.left (tree l k r) in
    let clear = (found i (node_of l k) (flatten p.left) (flatten k ++ flatten r) (flatten f) (distinct s st) p.id-is whole).clear in
    let own-is : own ≡ arity k = many ∙ ap arity (kids_of_root i st root) ∙ ap (λ (x : Forest). arity (kids x)) p.tree-is in
    let right : n ≤ arity r = subst (λ (x : Forest). n ≤ arity x) (ap (behind_root i) p.whole ∙ behind_there i p.left r k l p.clear p.id-is) within in
    let count : own + n ≡ arity new = omega (arith, own-is, arity-join k (first_trees n r), arity-first_trees n r right) in
    let below : flatten new ++ flatten (rest_trees n r) ≡ flatten k ++ flatten r =
    ap (λ (x : List Node). x ++ flatten (rest_trees n r)) (flatten-join k (first_trees n r)) ∙ append_assoc (flatten k) (flatten (first_trees n r)) (flatten (rest_trees n r))
    ∙ ap (λ (x : List Node). flatten k ++ x) (sym (flatten-join (first_trees n r) (rest_trees n r)) ∙ ap flatten (first-rest n r)) in
    let goal : flatten (adopted i n f) ≡ flatten p.left ++ (node_of l new ∷ (flatten k ++ flatten r)) =
    ap flatten (ap (adopted i n) p.whole ∙ adopted_there i n p.left r k l p.clear p.id-is) ∙ flatten-join p.left (tree l new (rest_trees n r)) ∙ ap (λ (x : List Node). flatten p.left ++ (node_of l new ∷ x)) below in
    record {
      few = omega (arith, own-is, right, arity_le k, arity_le r, length-append (flatten p.left) (node_of l k ∷ (flatten k ++ flatten r)), length-append (flatten k) (flatten r), ap length whole, ap length st.flat, few_nodes s st.pool);
      nodes = ap (with_children i (own + n)) (st.flat ∙ whole) ∙ with_children-append i (own + n) (flatten p.left) (node_of l k) (flatten k ++ flatten r) clear p.id-is
          ∙ ap (λ (c : ℕ). flatten p.left ++ (record (node_of l k) { children = c } ∷ (flatten k ++ flatten r))) count ∙ sym goal;
    }

pub counted_adopted : (i n : ℕ) (s : State) → Stands s → has_root i (forest s) ≡ true → AllNodes IsCounted (adopted i n (forest s))
counted_adopted i n s st root =
    let p = top i (forest s) root in
    let l = p.label in
    let k = p.kids-are in
    let r = p.right in
    let all = subst (AllNodes IsCounted) p.whole st.counted in
    let here = all-right IsCounted p.left (tree l k r) all in
    subst (AllNodes IsCounted) (sym (ap (adopted i n) p.whole ∙ adopted_there i n p.left r k l p.clear p.id-is))
    (all-join IsCounted p.left (tree l (join k (first_trees n r)) (rest_trees n r)) (all-left IsCounted p.left (tree l k r) all)
    (here.0, all-join IsCounted k (first_trees n r) here.1 (all-first_trees IsCounted n r here.2), all-rest_trees IsCounted n r here.2))
