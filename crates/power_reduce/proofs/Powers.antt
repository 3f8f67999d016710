-- A root of the pool that is a power: its sides, and what is left when they are taken.
use Rattle.power_reduce.proofs.Shared.{once_one, ◌≡◌, ℕ, ◌+◌, ◌≤◌, [], ◌∷◌, refl, ap, ◌∙◌, arith, true, gives_without, Payload, bare, Tree, num, power, Trees, none, more, size, Fraction, one_fraction}
use Rattle.power_reduce.proofs.Shared.{num_least, num_most, whole_size, least_size, GivesTwo, IsOver, IsTaken, taken, over_put, once_count, without_put, children_at, seen, expression, State, is_power}
use Rattle.power_reduce.proofs.Shared.{base_in, exponent_in, tree_of, IsOwned, IsHanded, Ends, Gives, KeepsFront, nth, grown, plain, IsExpression, children_of, Forest, arity}
use Rattle.power_reduce.proofs.Shared.{kids, root_payload, tree_nth, without_nth, tree_at, kids_of, root_tree, without_root, put, Stands, forest, all-kids, behind_first, front_same}
use Rattle.power_reduce.proofs.Shared.{front_at, front_end, front_put, front_without, gives_as, ends_without, ends_as, ends_at, children_of-plain, whole_kids, root_arity}
use Rattle.calc_terms.specs.declared.kind.Kind.TheVariants as kind

-- ---- powers

pub power_is : (t : Tree) → is_power t ≡ true → t ≡ power (base_in t) (exponent_in t)
power_is t h = grind arith

pub power_children : (t : Tree) → is_power t ≡ true → children_of t ≡ more (base_in t) (more (exponent_in t) none)
power_children t h = grind arith

-- the bytes of a power
pub power_bytes : (t : Tree) → is_power t ≡ true → size t ≡ 8 + (size (base_in t) + size (exponent_in t))
power_bytes t h = grind arith

-- those of a rational's power suffice for a rational
pub rational_room : (t : Tree) (p q r : Fraction) → is_power t ≡ true → base_in t ≡ num p → exponent_in t ≡ num q → size (num r) ≤ size t
rational_room t p q r h b e = omega (arith, power_bytes t h, ap size b, ap size e, num_least p, num_least q, num_most r)

pub one_bytes : size (num one_fraction) ≡ 16
unfolding one_fraction
one_bytes = whole_size 1 (omega arith)

-- and those of any power whose exponent is one, for 1
pub one_room : (t : Tree) (q r : Fraction) → is_power t ≡ true → exponent_in t ≡ num q → r ≡ one_fraction → size (num r) ≤ size t
one_room t q r h e o = omega (arith, power_bytes t h, ap size e, num_least q, least_size (base_in t), ap (λ (x : Fraction). size (num x)) o, one_bytes)

-- ---- a root that is a power

payload_power : (x : Payload) (ts : Trees) → is_power (grown x ts) ≡ true → x ≡ bare kind.Pow
payload_power x ts h = grind arith

holds_power : (t : Forest) → is_power (plain t) ≡ true → root_payload t ≡ bare kind.Pow
holds_power t h = grind (arith, payload_power)

pub over_power : {i : ℕ} {f : Forest} → IsHanded i f → is_power (plain (root_tree i f)) ≡ true → IsOver kind.Pow i (more (base_in (plain (root_tree i f))) (more (exponent_in (plain (root_tree i f))) none)) f
over_power h e = grind (arith, holds_power, once_count, root_arity, all-kids, whole_kids, children_of-plain, power_children)

-- it has two children
pub two_sides : {s : State} {i j : ℕ} → Stands s → IsHanded i (forest s) → is_power (tree_of i s) ≡ true → j ≡ i → arity (kids_of j (forest s)) ≡ 2
two_sides st h p e = children_at (over_power h p) st e

-- as they are read
pub side_is : {s : State} {i j : ℕ} (k n : ℕ) → Stands s → IsHanded i (forest s) → is_power (tree_of i s) ≡ true → j ≡ i
    → (IsExpression j (forest s) → plain (tree_at k (forest s)) ≡ nth n (children_of (plain (tree_at j (forest s)))))
    → plain (tree_at k (forest s)) ≡ nth n (more (base_in (tree_of i s)) (more (exponent_in (tree_of i s)) none))
side_is {s = s} {i = i} k n st h p e r = r (expression e st h) ∙ ap (λ (t : Tree). nth n (children_of t)) (seen e st h) ∙ ap (nth n) (power_children (tree_of i s) p)

-- ---- owned roots

-- a root over trees whose nodes are held once is owned
pub over_owned : {k : _} {i : ℕ} {ts : Trees} {f : Forest} → IsOver k i ts f → IsOwned i f
over_owned {i = i} {f = f} o = record { root = o.root; once = once_one (root_tree i f) (root_arity i f o.root) o.count o.kids.once }

-- ---- the sides are taken

-- a child was taken, and then its parent goes
pub taken_alone : {k : _} {i n h : ℕ} {t : Tree} {ts us : Trees} {f new end : Forest} → IsOver k i us f → IsTaken k i n t ts f new h → end ≡ without_root i new → Gives (without_root i f) end h (λ u. u ≡ t)
taken_alone {i = i} {f = f} o a e =
    let g = a.gives in record {
      tree = g.tree;
      ends = ends_as (ends_at (ends_without i g.ends (over_put a.now o a.kids).root) e) refl (without_put i a.now f);
      once = g.once;
      whole = g.whole;
      told = g.told;
    }

pub taken_front : {k : _} {i n h : ℕ} {t : Tree} {ts : Trees} {f new : Forest} → IsTaken k i n t ts f new h → KeepsFront (i ∷ []) f new
taken_front a = front_end a.gives.ends (front_put a.now behind_first front_same)

pub alone_front : {k : _} {i n h : ℕ} {t : Tree} {ts : Trees} {f new end : Forest} → IsTaken k i n t ts f new h → end ≡ without_root i new → KeepsFront (i ∷ []) f end
alone_front a e = front_at (front_without behind_first (taken_front a)) e

-- the base was taken, and then the exponent
pub base_taken : {i h : ℕ} {b e : Tree} {f new : Forest} → IsOver kind.Pow i (more b (more e none)) f
    → Ends h (tree_nth 0 (kids (root_tree i f))) (put i (without_nth 0 (kids (root_tree i f))) f) new → IsTaken kind.Pow i 0 b (more e none) f new h
base_taken {b = b} {e = e} o d = taken 0 none b (more e none) o refl d

pub exponent_taken : {i h : ℕ} {e : Tree} {f new : Forest} → IsOver kind.Pow i (more e none) f
    → Ends h (tree_nth 0 (kids (root_tree i f))) (put i (without_nth 0 (kids (root_tree i f))) f) new → IsTaken kind.Pow i 0 e none f new h
exponent_taken {e = e} o d = taken 0 none e none o refl d

pub sides_taken : {i h j : ℕ} {b e : Tree} {f g new end : Forest} → IsOver kind.Pow i (more b (more e none)) f → (a : IsTaken kind.Pow i 0 b (more e none) f g h) → (c : IsTaken kind.Pow i 0 e none g new j)
    → end ≡ without_root i new → GivesTwo (without_root i f) end h j (λ t. t ≡ b) (λ t. t ≡ e)
sides_taken {i = i} {f = f} {g = g} o a c e = record {
  between = without_root i g;
  first-given = gives_as (gives_without i a.gives (over_put a.now o a.kids).root refl) (without_put i a.now f) (λ t x. x);
  second-given = taken_alone a.over c e;
}

pub sides_front : {i h j : ℕ} {b e : Tree} {f g new end : Forest} → IsTaken kind.Pow i 0 b (more e none) f g h → IsTaken kind.Pow i 0 e none g new j → end ≡ without_root i new → KeepsFront (i ∷ []) f end
sides_front a c e = front_at (front_without behind_first (front_end c.gives.ends (front_put c.now behind_first (taken_front a)))) e
