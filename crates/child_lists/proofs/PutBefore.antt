-- A tree that stands last becomes a child of the one before it.
use Rattle.child_lists.proofs.Shared.{◌≡◌, ℕ, ◌<◌, ap, ◌∙◌, subst, sym, Tree, State, IsChildAt, Forest, arity, kids, root_id, tree_nth, with_nth, Ends, Gives, kids_of, root_tree, without_root}
use Rattle.child_lists.proofs.Shared.{put, adopted, Stands, forest, next_adopted, kids_of-join_left, last_root, last_tree, last_rest, other_root, other_tree, kids_of_root, root_held, given_root}
use Rattle.child_lists.proofs.Shared.{given_same, given_rest}

-- a tree stands behind one that stood last
pub kept_kids : {i j : ℕ} {u g t f h : Forest} → Ends i u g f → Ends j t f h → kids_of i h ≡ kids_of i f
kept_kids {i = i} {t = t} {f = f} a b = ap (kids_of i) b.whole ∙ kids_of-join_left i f t (root_held i f (last_root a))

pub kept_child : {i j : ℕ} {u g t f h : Forest} (n x : ℕ) → Ends i u g f → Ends j t f h → IsChildAt n i x f → IsChildAt n i x h
kept_child n x a b c =
    let same = kept_kids a b in
    record { within = subst (λ (k : Forest). n < arity k) (sym same) c.within; id-is = c.id-is ∙ ap (λ (k : Forest). root_id (tree_nth n k)) (sym same) }

pub put_next : {i j : ℕ} {u g t f h new : Forest} (n : ℕ) → Ends i u g f → Ends j t f h → new ≡ put i (with_nth n (root_tree j h) (kids (root_tree i h))) (without_root j h)
    → new ≡ put i (with_nth n t (kids (root_tree i f))) f
put_next {i = i} n a b e = e ∙ (λ k. put i (with_nth n (last_tree b k) (kids (other_tree i b (last_root a) k))) (last_rest b k))

-- behind all children
pub put_last : {i j : ℕ} {u g t f new : Forest} (n : ℕ) (s : State) → Stands s → Ends i u g f → Ends j t f (forest s) → n ≡ arity (kids_of i f) → new ≡ adopted i 1 (forest s)
    → new ≡ put i (with_nth n t (kids (root_tree i f))) f
put_last {i} {j} {u} {g} {t} {f} n s st a b c e =
    let same : kids_of i f ≡ kids u = sym (kept_kids a b) ∙ kids_of_root i st (other_root i b (last_root a)) ∙ ap kids (other_tree i b (last_root a) ∙ last_tree a) in
    let many : arity (kids u) ≡ n = sym (c ∙ ap arity same) in
    e ∙ (next_adopted a b).forest ∙ ap (λ (m : ℕ). put i (with_nth m t (kids u)) f) many ∙ ap (λ (x : Forest). put i (with_nth n t (kids x)) f) (sym (last_tree a))

-- in the words of the roots
pub put_as : {i h : ℕ} {g f new f2 : Forest} {P Q : Tree → Type 0} (at : ℕ) (e : Gives g f i P) (p : Gives f new h Q) → f2 ≡ put i (with_nth at p.tree (kids (root_tree i f))) f
    → f2 ≡ put i (with_nth at (root_tree h new) (kids (root_tree i new))) (without_root h new)
put_as {i} at e p q = q ∙ sym (λ k. put i (with_nth at (last_tree p.ends k) (kids (given_same i p (given_root e) k))) (given_rest p k))
