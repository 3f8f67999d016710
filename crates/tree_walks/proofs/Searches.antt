-- Walks that look for the leaves of a name.
use Rattle.tree_walks.proofs.Shared.{◌≡◌, ℕ, ◌<◌, List, [], ◌∷◌, ◌++◌, get_or, cond, refl, sym, ap, ◌∙◌, subst, arith, Bool, true, false, Contains, count_by, bytes_eq, Contains-append_left}
use Rattle.tree_walks.proofs.Shared.{Contains-append_right, Contains-push, get_or-le-sum_by, sum_by-cons, bytes_eq-Decides, kind_of_payload, State, Visit, Forest, empty, tree, join, root_payload}
use Rattle.tree_walks.proofs.Shared.{holds, payload_in, tree_at, Stands, forest, by_test, seen, found, found-join, visit_here, visits_left, no_visit, has_name, leaves_of, visits_of, AreFound}
use Rattle.tree_walks.proofs.LeafLists.{leaves-join}

-- the trees that are still to be looked through, and the leaves of the name in them
pub record IsLooking (x : List ℕ) (left : List Visit) (leaves : List ℕ) (base : Forest) : Type 0 where
  pub trees : Forest
  pub left-are : left ≡ visits_of trees
  pub found : AreFound base trees
  pub leaves-are : leaves_of x trees ≡ leaves

pub looking : {xs : List Visit} {s : State} (i : ℕ) (x : List ℕ) → Stands s → xs ≡ visits_of (tree_at i (forest s)) → IsLooking x xs (leaves_of x (tree_at i (forest s))) (forest s)
looking {s = s} i x st e = record { trees = tree_at i (forest s); left-are = e; found = found i s st; leaves-are = refl }

-- the next node
pub record IsLooked (x : List ℕ) (v : Visit) (left : List Visit) (leaves : List ℕ) (base : Forest) : Type 0 where
  pub live : holds v.id base ≡ true
  pub kind : v.kind ≡ kind_of_payload (payload_in v.id base)
  pub here : has_name x (payload_in v.id base) ≡ true → (rest : List ℕ) × (leaves ≡ v.id ∷ rest) × IsLooking x left rest base
  pub other : has_name x (payload_in v.id base) ≡ false → IsLooking x left leaves base

pub looked : {x leaves : List ℕ} {v : Visit} {xs left : List Visit} {base : Forest} → IsLooking x xs leaves base → xs ≡ v ∷ left → IsLooked x v left leaves base
looked {x = x} {leaves = leaves} {v = v} {left = left} {base = base} w e = by w.trees (sym w.left-are ∙ e) w.found w.leaves-are
  where
    by : (f : Forest) → visits_of f ≡ v ∷ left → AreFound base f → leaves_of x f ≡ leaves → IsLooked x v left leaves base
    by empty q h s = absurd cc
    by (tree l k r) q h s =
        let y = seen l k r h (visit_here l k r q) in
        let same : (b : Bool) → has_name x (payload_in v.id base) ≡ b → has_name x l.payload ≡ b = λ b t. ap (λ (f : Forest). has_name x (root_payload f)) (sym y.tree-is) ∙ t in
        let left-of : (b : Bool) → has_name x (payload_in v.id base) ≡ b → leaves ≡ cond b (l.id ∷ []) [] ++ leaves_of x (join k r) = λ b t.
        sym s ∙ ap (λ (z : Bool). cond z (l.id ∷ []) [] ++ (leaves_of x k ++ leaves_of x r)) (same b t) ∙ ap (λ (ys : List ℕ). cond b (l.id ∷ []) [] ++ ys) (sym (leaves-join x k r)) in
        let id-is : v.id ≡ l.id = ap (λ (y : Visit). y.id) (visit_here l k r q) in
        record {
          live = y.live;
          kind = ap (λ (y : Visit). y.kind) y.visit-is;
          here = λ t. (leaves_of x (join k r), left-of true t ∙ ap (λ (i : ℕ). i ∷ leaves_of x (join k r)) (sym id-is), record { trees = join k r; left-are = visits_left l k r q; found = found-join base k r h.1 h.2; leaves-are = refl });
          other = λ t. record { trees = join k r; left-are = visits_left l k r q; found = found-join base k r h.1 h.2; leaves-are = sym (left-of false t) };
        }

-- where no node is left, no leaf is
pub looked_all : {x leaves : List ℕ} {xs : List Visit} {base : Forest} → IsLooking x xs leaves base → xs ≡ [] → leaves ≡ []
looked_all {x = x} w e = sym w.leaves-are ∙ ap (leaves_of x) (no_visit w.trees (sym w.left-are ∙ e))

-- ---- how often a name occurs, and whether it does

pub counted : (x : List ℕ) (ys : List (List ℕ)) → 0 < count_by (λ y. bytes_eq y x) ys → Contains ys x
counted x [] h = absurd (omega arith)
counted x (y ∷ ys) h =
    by_test (λ t. bytes_eq y x ≡ t → Contains (y ∷ ys) x) (bytes_eq y x)
    (λ e q. Contains-append_left (y ∷ []) ys x (subst (λ z. Contains (y ∷ []) z) ((bytes_eq-Decides y x).0 q) (Contains-push [] y)))
    (λ e q. Contains-append_right (y ∷ []) ys x (counted x ys (omega (arith, sum_by-cons (λ z. cond (bytes_eq z x) 1 0) y ys, ap {B = ℕ} (λ (b : Bool). cond b 1 0) q)))) refl

pub uncounted : (x : List ℕ) (ys : List (List ℕ)) → Contains ys x → 0 < count_by (λ y. bytes_eq y x) ys
uncounted x ys (k, h, e) =
    omega (arith, get_or-le-sum_by (λ z. cond (bytes_eq z x) 1 0) ys k x h, ap {B = ℕ} (λ (b : Bool). cond b 1 0) ((bytes_eq-Decides (get_or ys k x) x).1 e))
