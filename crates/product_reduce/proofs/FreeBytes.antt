-- Free bytes and those of a product, from one pool to the next.
use Rattle.product_reduce.proofs.Shared.{◌≡◌, ℕ, ◌+◌, ◌*◌, ◌<◌, ◌≤◌, ap, arith, IfErr, base_of, sizes_taken, all_bytes, handed_bytes, Tree, mult, Trees, none, more, count, size, sizes, factors_of}
use Rattle.product_reduce.proofs.Shared.{put_room, mul-le, opened, State, free_of, removed, nth, Forest, bytes_in, kids, tree_nth, without_nth, tree_of, IsHanded, Ends, root_tree, without_root, put}
use Rattle.product_reduce.proofs.Shared.{Stands, forest, KeepsRefusals, exponent_of, IsProduct, Becomes, IsBeside, IsTakenOut, IsSplit, product_need, sizes_append, product_step_room}
use Rattle.product_reduce.proofs.Beside.{taken_factor, without_factor}
use Rattle.std.proofs.Common.{Result}

pub product_bytes : {i : ℕ} {f : Forest} {ts : Trees} → IsProduct i f ts → bytes_in f ≡ bytes_in (without_root i f) + size (mult ts)
product_bytes {i = i} {f = f} p = omega (arith, handed_bytes i f p.handed, ap size p.tree)

pub beside_bytes : {h : ℕ} {u : Tree} {others f : Forest} → IsBeside h u others f → bytes_in f ≡ bytes_in others + size u
beside_bytes {h = h} {f = f} b = omega (arith, handed_bytes h f b.handed, ap size b.tree, ap bytes_in b.rest)

-- what the trees gain, free bytes lose
pub free_as : {s t : State} (a b : ℕ) → Stands s → Stands t → KeepsRefusals s t → bytes_in (forest t) + a ≡ bytes_in (forest s) + b → free_of t + b ≡ free_of s + a
free_as {s = s} {t = t} a b st su k e = omega (arith, all_bytes s st, all_bytes t su, k.size, e)

-- other factors in place of those of a product
pub becomes_free : {s t : State} {i : ℕ} {ts us : Trees} → Stands s → Stands t → KeepsRefusals s t → IsProduct i (forest s) ts → Becomes i (forest s) (forest t) us
    → free_of t + size (mult us) ≡ free_of s + size (mult ts)
becomes_free {ts = ts} {us = us} st su k p b =
    free_as (size (mult ts)) (size (mult us)) st su k (omega (arith, product_bytes p, product_bytes b.product, ap bytes_in b.others))

-- a tree beside them
pub taken_out_free : {s t : State} {i h : ℕ} {u : Tree} {ts us : Trees} → Stands s → Stands t → KeepsRefusals s t → IsProduct i (forest s) ts → IsTakenOut i us (forest s) (forest t) h u
    → free_of t + size (mult us) + size u ≡ free_of s + size (mult ts)
taken_out_free {s = s} {t = t} {u = u} {ts = ts} {us = us} st su k p x =
    omega (
      arith,
      free_as (size (mult ts)) (size (mult us) + size u) st su k (omega (arith, product_bytes p, product_bytes x.becomes.product, ap bytes_in x.becomes.others, beside_bytes x.beside)),
    )

-- a factor as its base and its exponent, which together have 40 bytes more at most
split_bytes : (t : Tree) → size (base_of t) + size (exponent_of t) ≤ size t + 40
split_bytes t = grind arith

pub split_free : {s t : State} {i b e : ℕ} → Stands s → Stands t → KeepsRefusals s t → IsHanded i (forest s) → IsSplit i (forest s) (forest t) b e → free_of s ≤ free_of t + 40
split_free {s = s} {t = t} {i = i} st su k h x =
    let u : Tree = tree_of i s in
    let e : free_of t + (size (base_of u) + size (exponent_of u)) ≡ free_of s + size u =
    free_as (size u) (size (base_of u) + size (exponent_of u)) st su k (omega (arith, handed_bytes i (forest s) h, beside_bytes x.exponent, beside_bytes x.base)) in
    omega (arith, e, split_bytes u)

-- ---- a factor less

pub child_free : {s t : State} {i h : ℕ} {ts : Trees} (at : ℕ) → Stands s → Stands t → KeepsRefusals s t → IsProduct i (forest s) ts → at < count ts
    → Ends h (tree_nth at (kids (root_tree i (forest s)))) (put i (without_nth at (kids (root_tree i (forest s)))) (forest s)) (forest t) → free_of t ≡ free_of s
child_free {ts = ts} at st su k p l e =
    omega (arith, taken_out_free st su k p (record { left = _; beside = taken_factor at p l e; becomes = without_factor at p }), sizes_taken at ts l)

-- only its exponent is left of it
pub exponent_free : {s t : State} {i h : ℕ} {ts : Trees} (at : ℕ) → Stands s → Stands t → KeepsRefusals s t → IsProduct i (forest s) ts → at < count ts
    → IsTakenOut i (removed at ts) (forest s) (forest t) h (exponent_of (nth at ts)) → free_of s ≤ free_of t + 40
exponent_free {ts = ts} at st su k p l x = omega (arith, taken_out_free st su k p x, sizes_taken at ts l, split_bytes (nth at ts))

-- ---- refusals

pub refusal_told : {A E P : Type 0} (r : Result A E) → P → IfErr r (λ e. P)
refusal_told r p = grind arith

-- ---- the need of a step

factors_size : (t : Tree) → sizes (factors_of t) ≤ size t
factors_size t = grind arith

pub opened_size : (ts : Trees) → size (mult (opened ts)) ≤ size (mult ts)
opened_size none = omega arith
opened_size (more t ts) = omega (arith, sizes_append (factors_of t) (opened ts), factors_size t, opened_size ts)

-- beside the factors there is room for a call on Numbers
pub step_lacks_numbers : (h m size bytes : ℕ) → size ≤ 204 * h * m → bytes < product_need * m + size → bytes < product_step_room h m
step_lacks_numbers h m size bytes s l = omega arith

pub step_lacks_pair : (c h m bytes : ℕ) → 1 ≤ m → c ≤ h → bytes < put_room c m + 56 → bytes < product_step_room h m
step_lacks_pair c h m bytes p s l = let g : c * m ≤ h * m = mul-le c m h m s (omega arith) in omega arith
