-- New trees behind others, and a node that adopts them.
use Rattle.expand_forms.proofs.Shared.{◌≡◌, ◌≤◌, ℕ, ◌+◌, true, refl, sym, ap, ◌∙◌, subst, arith, Option, drop, bare, Tree, Trees, none, more, append, count, is_mult, mult, sizes}
use Rattle.expand_forms.proofs.Shared.{Kind, represents_count, AddsTrees, AreFactors, BeginsWith, HasMonomial, factors_in, first_place, Monomial, State, free_of, last_with, lists_with, root_ids}
use Rattle.expand_forms.proofs.Shared.{IsExpression, children_of, compound, plain, takes_kind, Forest, Label, arity, empty, join, kids, one_tree, tree, with_nth, Ends, Gives, kids_of}
use Rattle.expand_forms.proofs.Shared.{tree_at, adopted, behind_root, has_root, put, root_tree, without_root, KeepsRefusals, Stands, forest, bytes_in-join, join-empty, join_assoc, given_handed}
use Rattle.expand_forms.proofs.Shared.{given_rest, given_told, gives, gives_as, represents_join, represents_node, represents_none, holds-left, kids_of-join_left, tree_at-join_left, ends_as, ends_at}
use Rattle.expand_forms.proofs.{Shared.{last_rest, last_root, last_tree, alone, sizes-plains, root-left}, TermReadings.{IsBeside}}
use Rattle.tree_handles.proofs.{Over.{over_product, added_as, moved}, Adopting.{adopted_all, behind_there}, Places.{used_forest}}
use Rattle.expand_forms.specs.{declared.factors.Factor.{Factor as Read}, declared.factors.Factors.{Factors}}

pub adds_none : (f : Forest) → AddsTrees none f f
adds_none f = record { trees = empty; whole = sym (join-empty f); represents = represents_none }

pub adds_more : {ts : Trees} {t : Tree} {f g h : Forest} {j : ℕ} → AddsTrees ts f g → Gives g h j (λ u. u ≡ t) → AddsTrees (append ts (more t none)) f h
adds_more {f = f} a p = record {
  trees = join a.trees p.tree;
  whole = p.ends.whole ∙ ap (λ (x : Forest). join x p.tree) a.whole ∙ join_assoc f a.trees p.tree;
  represents = represents_join a.represents (record { once = p.once; whole = p.whole; plain_trees = alone p.tree p.ends.alone ∙ ap (λ (u : Tree). more u none) p.told });
}

-- another node, beside them
pub adds_beside : {ts : Trees} {g f : Forest} {j : ℕ} → AddsTrees ts g f → IsExpression j g → IsBeside j g f
adds_beside a h = grind (arith, tree_at-join_left, holds-left)

pub factors_beside : {ts : Trees} {g f : Forest} {j : ℕ} {x : Factors} → AddsTrees ts g f → IsExpression j g → AreFactors x j g → AreFactors x j f
factors_beside {g = g} {j = j} a h x =
    let same = sym (adds_beside a h).same in
    record {
      product = x.product ∙ ap is_mult same;
      first = x.first ∙ ap (λ (t : Tree). first_place (children_of t)) same;
      count = x.count ∙ ap (λ (t : Tree). count (factors_in t)) same;
      lists = lists_with (ap root_ids (sym (ap (kids_of j) a.whole ∙ kids_of-join_left j g a.trees h.live))) x.lists;
    }

pub head_beside : {ts : Trees} {g f : Forest} {j : ℕ} {m : Monomial} (k : ℕ) (o : Option Read) → AddsTrees ts g f → IsExpression j g
    → ((n : Monomial) → HasMonomial n (plain (tree_at j f)) → BeginsWith o (drop k n))
    → HasMonomial m (plain (tree_at j g)) → BeginsWith o (drop k m)
head_beside {m = m} k o a h get x = get m (subst (HasMonomial m) (sym (adds_beside a h).same) x)

-- they take their bytes
pub adds_free : {ts : Trees} {s t : State} → Stands s → Stands t → KeepsRefusals s t → AddsTrees ts (forest s) (forest t) → free_of s ≡ free_of t + sizes ts
adds_free h k r a = grind (arith, used_forest, bytes_in-join, sizes-plains)

-- ---- a new node before them

abbrev label : ℕ → Kind → Label
label i k = record { id = i; count = 1; payload = bare k }

node_before : {i : ℕ} {k : Kind} {ts : Trees} {g f h : Forest} → Ends i (one_tree i (bare k) empty) g f → (a : AddsTrees ts f h) → h ≡ join g (tree (label i k) empty a.trees)
node_before {i} {k} {g = g} e a = a.whole ∙ ap (λ (x : Forest). join x a.trees) e.whole ∙ join_assoc g (one_tree i (bare k) empty) a.trees

pub record CanAdopt (i n : ℕ) (f : Forest) : Type 0 where
  pub root : has_root i f ≡ true
  pub within : n ≤ arity (behind_root i f)

pub can_adopt : {i n : ℕ} {k : Kind} {ts : Trees} {g f h : Forest} → Ends i (one_tree i (bare k) empty) g f → AddsTrees ts f h → n ≡ count ts → CanAdopt i n h
can_adopt {i} {n} {k} {g = g} {f = f} e a m = record {
  root = ap (has_root i) a.whole ∙ root-left i f a.trees (last_root e);
  within = omega (arith, m, represents_count a.represents, ap arity (ap (behind_root i) (node_before e a) ∙ behind_there i g a.trees empty (label i k) e.clear refl));
}

pub adopts : {i n : ℕ} {k : Kind} {ts : Trees} {g f h new : Forest} → Ends i (one_tree i (bare k) empty) g f → AddsTrees ts f h → n ≡ count ts → takes_kind k (count ts) ≡ true → new ≡ adopted i n h
    → Gives g new i (λ u. u ≡ compound k ts)
adopts {i} {n} {k} {ts} {g} {f} {h} {new} e a m w q =
    let many : n ≡ arity a.trees = m ∙ sym (represents_count a.represents) in
    let whole : new ≡ join g (one_tree i (bare k) a.trees) = q ∙ ap (adopted i n) (node_before e a) ∙ adopted_all i n g a.trees empty (label i k) e.clear refl many in
    let ends : Ends i (one_tree i (bare k) a.trees) g new = record { whole = whole; alone = refl; root = refl; clear = e.clear } in
    gives ends (represents_node i (bare k) a.represents w) refl

-- ---- a product that stands last

-- a tree comes before its factors
pub led_last : {i j : ℕ} {t : Tree} {g f h new : Forest} (e : Gives g f i (λ u. is_mult u ≡ true)) → Gives f h j (λ u. u ≡ t)
    → new ≡ put i (with_nth 0 (root_tree j h) (kids (root_tree i h))) (without_root j h)
    → Gives g new i (λ u. u ≡ mult (more t (children_of (plain (root_tree i f)))))
led_last e p move =
    let a = added_as 0 (over_product (given_handed e) (given_told e)) p move refl in
    let last = ends_at (last_with a.now e.ends) a.whole in
    gives_as (moved a refl (ends_as last (sym (last_tree last)) (sym (last_rest last))) refl) (given_rest e) (λ u x. x)
