-- Roots beside others.
use Rattle.product_reduce.proofs.Shared.{arith, ℕ, ◌<◌, ◌≡◌, List, eqb, true, false, refl, sym, ap, ◌∙◌, represents_nth, represents_without, removed, ne_eqb, Tree, Trees, count, State, nth, plain}
use Rattle.product_reduce.proofs.Shared.{Forest, arity, kids, tree_nth, without_nth, IsHanded, Represents, Ends, Gives, KeepsFront, has_root, root_tree, without_root, put, Stands, forest, IsBehind}
use Rattle.product_reduce.proofs.Shared.{not_first, gives, given_handed, given_rest, given_told, handed_beside, handed_at, eqb-sym, root-without, tree-without, without-swap, IsProduct, Becomes}
use Rattle.product_reduce.proofs.{Shared.{IsBeside, distinct, gone}, Products.{product_arity, product_kids, becomes_put}}

pub beside_handed : {s : State} (i : ℕ) → Stands s → IsHanded i (forest s) → IsBeside i (plain (root_tree i (forest s))) (without_root i (forest s)) (forest s)
beside_handed {s = s} i st h = record { handed = h; tree = refl; rest = refl; clear = gone i (forest s) (distinct s st) }

pub beside_given : {others f : Forest} {i : ℕ} {Told : Tree → Type 0} → Gives others f i Told → IsBeside i (plain (root_tree i f)) others f
beside_given g = record { handed = given_handed g; tree = refl; rest = given_rest g; clear = g.ends.clear }

pub beside_as : {h : ℕ} {u v : Tree} {r q f g : Forest} → IsBeside h u r f → u ≡ v → r ≡ q → g ≡ f → IsBeside h v q g
beside_as b e p w = grind arith

-- ---- the other trees

pub beside_apart : {h : ℕ} {u : Tree} {r f : Forest} (j : ℕ) → IsBeside h u r f → has_root j r ≡ true → eqb h j ≡ false
beside_apart {h = h} {r = r} j b e = ne_eqb h j (λ q. absurd (let p : has_root h r ≡ true = ap (λ (n : ℕ). has_root n r) q ∙ e in cc (p, b.clear)))

pub beside_tree : {h : ℕ} {u : Tree} {r f : Forest} (j : ℕ) → IsBeside h u r f → has_root j r ≡ true → root_tree j f ≡ root_tree j r
beside_tree {h = h} {f = f} j b e = sym (ap (root_tree j) (sym b.rest) ∙ tree-without h j f (beside_apart j b e))

pub beside_root : {h : ℕ} {u : Tree} {r f : Forest} (j : ℕ) → IsBeside h u r f → has_root j r ≡ true → has_root j f ≡ true
beside_root {h = h} {f = f} j b e = sym (root-without h j f (beside_apart j b e)) ∙ ap (has_root j) b.rest ∙ e

pub beside_other : {h : ℕ} {u : Tree} {r f : Forest} {j : ℕ} → IsBeside h u r f → IsHanded j r → IsHanded j f
beside_other b k = grind (arith, beside_tree, beside_root)

pub beside_product : {h : ℕ} {u : Tree} {r f : Forest} {i : ℕ} {ts : Trees} → IsBeside h u r f → IsProduct i r ts → IsProduct i f ts
beside_product {i = i} b k = record { handed = beside_other b k.handed; tree = ap plain (beside_tree i b k.handed.root) ∙ k.tree }

-- another root goes
pub beside_without : {h : ℕ} {u : Tree} {r f : Forest} (j : ℕ) → IsBeside h u r f → has_root j r ≡ true → IsBeside h u (without_root j r) (without_root j f)
beside_without j b e = grind (arith, tree-without, without-swap, root-without)

-- ---- fronts

pub behind_clear : {i : ℕ} {handed : List ℕ} {f g : Forest} → has_root i g ≡ false → KeepsFront handed f g → IsBehind i handed f
behind_clear {i = i} {g = g} c k = record { clear = λ p s n. not_first i p g (k.keeps p s n) c }

pub behind_beside : {h : ℕ} {u : Tree} {r f : Forest} {handed : List ℕ} {old : Forest} → IsBeside h u r f → KeepsFront handed old r → IsBehind h handed old
behind_beside b k = behind_clear b.clear k

-- ---- a child that is taken

pub beside_gives : {others f : Forest} {h : ℕ} {u : Tree} → Gives others f h (λ t. t ≡ u) → IsBeside h u others f
beside_gives g = let b = beside_given g in record { handed = b.handed; tree = given_told g; rest = b.rest; clear = b.clear }

pub taken_beside : (i at : ℕ) (f : Forest) {g : Forest} {h : ℕ} {ts : Trees} → Represents (kids (root_tree i f)) ts → at < arity (kids (root_tree i f))
    → Ends h (tree_nth at (kids (root_tree i f))) (put i (without_nth at (kids (root_tree i f))) f) g
    → IsBeside h (nth at ts) (put i (without_nth at (kids (root_tree i f))) f) g
taken_beside i at f k l e = beside_gives (gives {Told = λ t. t ≡ _} e (represents_nth at l k) refl)

-- a factor of a product
pub taken_factor : {i : ℕ} {f g : Forest} {h : ℕ} {ts : Trees} (at : ℕ) → IsProduct i f ts → at < count ts
    → Ends h (tree_nth at (kids (root_tree i f))) (put i (without_nth at (kids (root_tree i f))) f) g
    → IsBeside h (nth at ts) (put i (without_nth at (kids (root_tree i f))) f) g
taken_factor {i = i} {f = f} at p l e = taken_beside i at f (product_kids p) (rw (product_arity p) l) e

pub without_factor : {i : ℕ} {f : Forest} {ts : Trees} (at : ℕ) → IsProduct i f ts → Becomes i f (put i (without_nth at (kids (root_tree i f))) f) (removed at ts)
without_factor at p = becomes_put p (represents_without at (product_kids p)) refl

-- ---- one beside another

-- of two roots, one beside the other, none is among the rest
pub beside_below : {b e : ℕ} {u v : Tree} {q r f : Forest} → IsBeside b u r f → IsBeside e v q r → has_root b q ≡ false
beside_below {b = b} {e = e} {r = r} h k = ap (has_root b) (sym k.rest) ∙ root-without e b r (eqb-sym b e (beside_apart e h k.handed.root)) ∙ h.clear

-- the other one goes
pub beside_gone : {b e : ℕ} {u v : Tree} {q r f : Forest} → IsBeside b u r f → IsBeside e v q r → IsBeside b u q (without_root e f)
beside_gone {e = e} h k = beside_as (beside_without e h k.handed.root) refl k.rest refl

pub beside_tree_below : {b e : ℕ} {u v : Tree} {q r f : Forest} → IsBeside b u r f → IsBeside e v q r → plain (root_tree e f) ≡ v
beside_tree_below {e = e} h k = ap plain (beside_tree e h k.handed.root) ∙ k.tree

-- ---- a root beside which another has changed

-- a handed root beside a product stays as it is while the product becomes another one
pub beside_becomes : {s t : State} {i : ℕ} {ts us : Trees} (c : ℕ) → Stands s → Stands t → IsProduct i (forest s) ts → Becomes i (forest s) (forest t) us → IsHanded c (forest s)
    → eqb c i ≡ false → IsHanded c (forest t)
beside_becomes {s = s} {t = t} {i = i} c st sn p b h d =
    let x = handed_beside i (eqb-sym c i d) h in
    let y : IsHanded c (without_root i (forest t)) = handed_at x b.others in
    beside_other (beside_handed i sn b.product.handed) y

pub tree_becomes : {s t : State} {i : ℕ} {ts us : Trees} (c : ℕ) → Stands s → Stands t → IsProduct i (forest s) ts → Becomes i (forest s) (forest t) us → IsHanded c (forest s)
    → eqb c i ≡ false → root_tree c (forest t) ≡ root_tree c (forest s)
tree_becomes c h k p b l d = grind (arith, handed_beside, eqb-sym, handed_at, beside_tree, beside_handed, tree-without)
