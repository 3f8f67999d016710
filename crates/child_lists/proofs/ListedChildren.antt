-- Lists of children, and what changes of the node do to them.
use Rattle.child_lists.proofs.Shared.{◌≡◌, ℕ, zero, suc, ◌<◌, ◌≤◌, List, [], ◌∷◌, ◌++◌, Bool, true, false, if◌then◌else◌, ltb, leb, length, refl, sym, ap, ◌∙◌, subst, arith, insert, remove}
use Rattle.child_lists.proofs.Shared.{Option, Some, None, slice_set, Tree, count, State, Lists, told, listed, with_child, with_other, without_child, root_ids, Label, Forest, empty, tree, arity}
use Rattle.child_lists.proofs.Shared.{root_id, kids, with_nth, without_nth, set_nth, Gives, IsHanded, IsExpression, children_of, plain, kids_of, tree_at, has_root, root_tree, put, Stands, forest}
use Rattle.child_lists.proofs.Shared.{kids_of_root, by_test, children_of-plain, count-plains, root-put, kids-put, given_other, given_same}

pub end_none : (xs : List ℕ) → xs ++ [] ≡ xs
end_none [] = refl
end_none (x ∷ xs) = ap (λ ys. x ∷ ys) (end_none xs)

-- ---- what a list tells of a node

-- of another node, with the same children
pub lists_with : {l : Option (List ℕ)} {i j : ℕ} {f g : Forest} → root_ids (kids_of i f) ≡ root_ids (kids_of j g) → Lists l i f → Lists l j g
lists_with e h = record { ids-are = λ ids k. h.ids-are ids k ∙ e }

-- read by another name of the node
pub lists_at : {l : Option (List ℕ)} {i j : ℕ} {f : Forest} → j ≡ i → Lists l i f → Lists l j f
lists_at {f = f} e h = lists_with (ap (λ (k : ℕ). root_ids (kids_of k f)) (sym e)) h

told_some : (b : Bool) (ids is : List ℕ) → told b ids ≡ Some is → ids ≡ is
told_some true ids is e = cc
told_some false ids is e = absurd cc

pub lists_listed : {l : Option (List ℕ)} {i : ℕ} {f : Forest} (n : ℕ) → l ≡ listed n (root_ids (kids_of i f)) → Lists l i f
lists_listed {i = i} {f = f} n e = let all = root_ids (kids_of i f) in record { ids-are = λ ids k. sym (told_some (leb (length all) n) all ids (sym e ∙ k)) }

pub lists_none : {l : Option (List ℕ)} {i : ℕ} {f : Forest} → l ≡ Some [] → root_ids (kids_of i f) ≡ [] → Lists l i f
lists_none e none = record { ids-are = λ ids k. sym (told_some true [] ids (sym e ∙ k)) ∙ sym none }

pub lists_more : {l m : Option (List ℕ)} {i : ℕ} {f g : Forest} (n at id : ℕ) → m ≡ with_child n at id l → Lists l i f → root_ids (kids_of i g) ≡ insert (root_ids (kids_of i f)) at id → Lists m i g
lists_more {l = l} {i = i} {f = f} {g = g} n at id e h new = record { ids-are = λ is k. by l h.ids-are is (sym e ∙ k) }
  where
    by : (l : Option (List ℕ)) → ((ids : List ℕ) → l ≡ Some ids → ids ≡ root_ids (kids_of i f)) → (is : List ℕ) → with_child n at id l ≡ Some is → is ≡ root_ids (kids_of i g)
    by None h is k = absurd cc
    by (Some ids) h is k = by_test (λ b. (if b then listed n (insert ids at id) else None) ≡ Some is → is ≡ root_ids (kids_of i g)) (leb at (length ids))
        (λ q r. sym (told_some (leb (length (insert ids at id)) n) (insert ids at id) is r) ∙ ap (λ (xs : List ℕ). insert xs at id) (h ids refl) ∙ sym new) (λ q r. absurd cc) k

pub lists_other : {l m : Option (List ℕ)} {i : ℕ} {f g : Forest} (at id : ℕ) → m ≡ with_other at id l → Lists l i f → root_ids (kids_of i g) ≡ slice_set (root_ids (kids_of i f)) at id → Lists m i g
lists_other {l = l} {i = i} {f = f} {g = g} at id e h new = record { ids-are = λ is k. by l h.ids-are is (sym e ∙ k) }
  where
    by : (l : Option (List ℕ)) → ((ids : List ℕ) → l ≡ Some ids → ids ≡ root_ids (kids_of i f)) → (is : List ℕ) → with_other at id l ≡ Some is → is ≡ root_ids (kids_of i g)
    by None h is k = absurd cc
    by (Some ids) h is k = sym (told_some (ltb at (length ids)) (slice_set ids at id) is k) ∙ ap (λ (xs : List ℕ). slice_set xs at id) (h ids refl) ∙ sym new

pub lists_less : {l m : Option (List ℕ)} {i : ℕ} {f g : Forest} (at : ℕ) → m ≡ without_child at l → Lists l i f → root_ids (kids_of i g) ≡ remove (root_ids (kids_of i f)) at → Lists m i g
lists_less {l = l} {i = i} {f = f} {g = g} at e h new = record { ids-are = λ is k. by l h.ids-are is (sym e ∙ k) }
  where
    by : (l : Option (List ℕ)) → ((ids : List ℕ) → l ≡ Some ids → ids ≡ root_ids (kids_of i f)) → (is : List ℕ) → without_child at l ≡ Some is → is ≡ root_ids (kids_of i g)
    by None h is k = absurd cc
    by (Some ids) h is k = sym (told_some (ltb at (length ids)) (remove ids at) is k) ∙ ap (λ (xs : List ℕ). remove xs at) (h ids refl) ∙ sym new

-- ---- children and their identifiers

pub children_number : (i : ℕ) (f : Forest) → IsExpression i f → arity (kids_of i f) ≡ count (children_of (plain (tree_at i f)))
children_number i f h = sym (ap count (children_of-plain (tree_at i f) h.whole) ∙ count-plains (kids (tree_at i f)))

ids_one_more : (n : ℕ) (l : Label) (k f : Forest) → n ≤ arity f → root_ids (with_nth n (tree l k empty) f) ≡ insert (root_ids f) n l.id
ids_one_more zero l k f h = refl
ids_one_more (suc n) l k empty h = absurd (omega arith)
ids_one_more (suc n) l k (tree m j r) h = ap (λ xs. m.id ∷ xs) (ids_one_more n l k r (omega arith))

ids_more : (n : ℕ) (c f : Forest) → arity c ≡ 1 → n ≤ arity f → root_ids (with_nth n c f) ≡ insert (root_ids f) n (root_id c)
ids_more n empty f e h = absurd (omega arith)
ids_more n (tree l k empty) f e h = ids_one_more n l k f h
ids_more n (tree l k (tree m j r)) f e h = absurd (omega arith)

ids_less : (n : ℕ) (f : Forest) → n < arity f → root_ids (without_nth n f) ≡ remove (root_ids f) n
ids_less n empty h = absurd (omega arith)
ids_less zero (tree l k r) h = refl
ids_less (suc n) (tree l k r) h = ap (λ xs. l.id ∷ xs) (ids_less n r (omega arith))

ids_one_other : (n : ℕ) (l : Label) (k f : Forest) → n < arity f → root_ids (set_nth n (tree l k empty) f) ≡ slice_set (root_ids f) n l.id
ids_one_other n l k empty h = absurd (omega arith)
ids_one_other zero l k (tree m j r) h = refl
ids_one_other (suc n) l k (tree m j r) h = ap (λ xs. m.id ∷ xs) (ids_one_other n l k r (omega arith))

ids_other : (n : ℕ) (c f : Forest) → arity c ≡ 1 → n < arity f → root_ids (set_nth n c f) ≡ slice_set (root_ids f) n (root_id c)
ids_other n empty f e h = absurd (omega arith)
ids_other n (tree l k empty) f e h = ids_one_other n l k f h
ids_other n (tree l k (tree m j r)) f e h = absurd (omega arith)

-- the children of a root with another tree
new_kids : (i : ℕ) (t : State) (k u : Forest) → Stands t → has_root i u ≡ true → forest t ≡ put i k u → kids_of i (forest t) ≡ k
new_kids i t k u st q new =
    let placed : has_root i (forest t) ≡ true = ap (has_root i) new ∙ root-put i i k u ∙ q in
    kids_of_root i st placed ∙ ap (λ (f : Forest). kids (root_tree i f)) new ∙ kids-put i k u q

-- with one child more
pub ids_with : (i at : ℕ) (s t : State) (c u : Forest) → Stands s → Stands t → has_root i (forest s) ≡ true → has_root i u ≡ true → arity c ≡ 1 → at ≤ arity (kids_of i (forest s))
    → forest t ≡ put i (with_nth at c (kids (root_tree i (forest s)))) u → root_ids (kids_of i (forest t)) ≡ insert (root_ids (kids_of i (forest s))) at (root_id c)
ids_with i at s t c u st tt' r q one within new =
    let k = kids (root_tree i (forest s)) in
    let same : kids_of i (forest s) ≡ k = kids_of_root i st r in
    ap root_ids (new_kids i t (with_nth at c k) u tt' q new) ∙ ids_more at c k one (subst (λ (f : Forest). at ≤ arity f) same within) ∙ sym (ap (λ (f : Forest). insert (root_ids f) at (root_id c)) same)

-- with one child less
pub ids_without : (i at : ℕ) (s t : State) (u : Forest) → Stands s → Stands t → has_root i (forest s) ≡ true → has_root i u ≡ true → at < arity (kids_of i (forest s))
    → forest t ≡ put i (without_nth at (kids (root_tree i (forest s)))) u → root_ids (kids_of i (forest t)) ≡ remove (root_ids (kids_of i (forest s))) at
ids_without i at s t u st tt' r q within new =
    let k = kids (root_tree i (forest s)) in
    let same : kids_of i (forest s) ≡ k = kids_of_root i st r in
    ap root_ids (new_kids i t (without_nth at k) u tt' q new) ∙ ids_less at k (subst (λ (f : Forest). at < arity f) same within) ∙ sym (ap (λ (f : Forest). remove (root_ids f) at) same)

-- with another child in the place of one
pub ids_exchanged : (i at : ℕ) (s t : State) (c u : Forest) → Stands s → Stands t → has_root i (forest s) ≡ true → has_root i u ≡ true → arity c ≡ 1 → at < arity (kids_of i (forest s))
    → forest t ≡ put i (set_nth at c (kids (root_tree i (forest s)))) u → root_ids (kids_of i (forest t)) ≡ slice_set (root_ids (kids_of i (forest s))) at (root_id c)
ids_exchanged i at s t c u st tt' r q one within new =
    let k = kids (root_tree i (forest s)) in
    let same : kids_of i (forest s) ≡ k = kids_of_root i st r in
    ap root_ids (new_kids i t (set_nth at c k) u tt' q new) ∙ ids_other at c k one (subst (λ (f : Forest). at < arity f) same within) ∙ sym (ap (λ (f : Forest). slice_set (root_ids f) at (root_id c)) same)

-- the children of a root beside another one stay
pub lists_kept : {g : Forest} {i : ℕ} {P Q : Tree → Type 0} {l : Option (List ℕ)} (j : ℕ) (s t : State) → Stands s → Stands t → Gives g (forest s) i P → Gives g (forest t) i Q
    → IsHanded j g → Lists l j (forest s) → Lists l j (forest t)
lists_kept {g} {i} j s t st tt' p q h lists = lists_with (ap root_ids (kept s st p ∙ sym (kept t tt' q))) lists
  where
    kept : {R : Tree → Type 0} (u : State) → Stands u → Gives g (forest u) i R → kids_of j (forest u) ≡ kids (root_tree j g)
    kept u su r = kids_of_root j su (given_other r h).root ∙ ap kids (given_same j r h.root)
