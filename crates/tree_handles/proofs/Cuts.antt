-- Lists of trees that are cut, and one tree of them taken out.
use Rattle.tree_handles.proofs.Shared.{◌≡◌, ℕ, sym, ap, ◌∙◌, subst, Tree, Trees, none, more, append, count, Forest, empty, tree, arity, first_trees, rest_trees}
use Rattle.tree_handles.proofs.{Shared.{tree_nth, without_nth, Represents}, Given.{represents_none, represents_join}, Plains.count-plains}

-- ---- lists of children

pub cut_empty : {t : Tree} {ts : Trees} → none ≡ more t ts → ⊥
cut_empty e = cc

-- some trees in front, and the others
pub cut : (ts us : Trees) (k : Forest) → Represents k (append ts us) → Represents (first_trees (count ts) k) ts
cut none us k h = represents_none
cut (more t ts) us empty h = absurd (cut_empty h.plain_trees)
cut (more t ts) us (tree l b r) h =
    let rest = cut ts us r (record { once = h.once.2; whole = h.whole.2; plain_trees = tail h.plain_trees }) in
    record { once = (h.once.0, h.once.1, rest.once); whole = (h.whole.0, h.whole.1, rest.whole); plain_trees = λ i. more (head h.plain_trees i) (rest.plain_trees i) }
  where
    tail : {x y : Tree} {xs ys : Trees} → more x xs ≡ more y ys → xs ≡ ys
    tail e = cc

    head : {x y : Tree} {xs ys : Trees} → more x xs ≡ more y ys → x ≡ y
    head e = cc

pub cut_rest : (ts us : Trees) (k : Forest) → Represents k (append ts us) → Represents (rest_trees (count ts) k) us
cut_rest none us k h = h
cut_rest (more t ts) us empty h = absurd (cut_empty h.plain_trees)
cut_rest (more t ts) us (tree l b r) h = cut_rest ts us r (record { once = h.once.2; whole = h.whole.2; plain_trees = tail h.plain_trees })
  where
    tail : {x y : Tree} {xs ys : Trees} → more x xs ≡ more y ys → xs ≡ ys
    tail e = cc

-- one tree of them, and those round it
pub record IsCut (n : ℕ) (t : Tree) (others : Trees) (k : Forest) : Type 0 where
  pub one : Represents (tree_nth n k) (more t none)
  pub rest : Represents (without_nth n k) others

pub cut_at : (n : ℕ) (ts : Trees) (t : Tree) (us : Trees) (k : Forest) → n ≡ count ts → Represents k (append ts (more t us)) → IsCut n t (append ts us) k
cut_at n ts t us k e h = subst (λ (m : ℕ). IsCut m t (append ts us) k) (sym e) (record {
  one = cut (more t none) us (rest_trees (count ts) k) (cut_rest ts (more t us) k h);
  rest = represents_join (cut ts (more t us) k h) (cut_rest (more t none) us (rest_trees (count ts) k) (cut_rest ts (more t us) k h));
})

pub represents_count : {k : Forest} {ts : Trees} → Represents k ts → arity k ≡ count ts
represents_count {k = k} h = sym (count-plains k) ∙ ap count h.plain_trees
