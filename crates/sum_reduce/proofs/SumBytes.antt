-- Free bytes and those of a sum, from call to call.
use Rattle.sum_reduce.proofs.Shared.{◌≡◌, ◌∙◌, ℕ, ◌+◌, ◌<◌, ◌≤◌, ap, arith, Tree, add, Trees, none, more, count, size, sizes, sum_whole, State, free_of, sizes_taken, terms_in, IsSum, Changes, Takes}
use Rattle.sum_reduce.proofs.Shared.{terms_of_loose, opened, without_put, plain, Forest, bytes_in, tree_of, root_tree, without_root, Stands, forest, KeepsRefusals, handed_beside, tree-without}
use Rattle.sum_reduce.proofs.{Shared.{sizes_append, all_bytes}, Sums.{IsOut, changes_rest, takes_rest, takes_handed, takes_apart}}
use Rattle.tree_handles.proofs.FreeBytes.{beside_bytes as handed_bytes}

-- ---- the bytes of a forest

sum_bytes : (i : ℕ) (f : Forest) → IsSum i f → bytes_in f ≡ bytes_in (without_root i f) + size (add (terms_in i f))
sum_bytes i f h = omega (arith, handed_bytes i f h.handed, ap size (sum_whole (plain (root_tree i f)) h.sum))

changes_bytes : {i : ℕ} {f g : Forest} → IsSum i f → Changes i f g → bytes_in g + size (add (terms_in i f)) ≡ bytes_in f + size (add (terms_in i g))
changes_bytes {i = i} {f = f} {g = g} h c = omega (arith, sum_bytes i f h, sum_bytes i g c.sum, ap bytes_in (changes_rest c))

takes_bytes : {i h : ℕ} {f g : Forest} → Takes i f g h → bytes_in g + size (add (terms_in i f)) ≡ bytes_in f + size (add (terms_in i g)) + size (plain (root_tree h g))
takes_bytes {i = i} {h = h} {f = f} {g = g} t =
    let apart = takes_apart t in
    let rest : without_root i (without_root h g) ≡ without_root i f = ap (without_root i) (takes_rest t) ∙ without_put i t.kids f in
    let seen : size (plain (root_tree i (without_root h g))) ≡ size (plain (root_tree i g)) = ap (λ (x : Forest). size (plain x)) (tree-without h i g apart) in
    omega (
      arith,
      sum_bytes i f t.was,
      handed_bytes h g (takes_handed t),
      handed_bytes i (without_root h g) (handed_beside h apart t.sum.handed),
      seen,
      ap size (sum_whole (plain (root_tree i g)) t.sum.sum),
      ap bytes_in rest,
    )

-- ---- free bytes

pub changes_free : {s t : State} {i : ℕ} → Stands s → Stands t → KeepsRefusals s t → IsSum i (forest s) → Changes i (forest s) (forest t)
    → free_of t + size (add (terms_in i (forest t))) ≡ free_of s + size (add (terms_in i (forest s)))
changes_free {s = s} {t = t} st su k h c = omega (arith, all_bytes s st, all_bytes t su, k.size, changes_bytes h c)

-- a tree stands beside the sum
pub takes_free : {s t : State} {i h : ℕ} → Stands s → Stands t → KeepsRefusals s t → Takes i (forest s) (forest t) h
    → free_of t + size (add (terms_in i (forest t))) + size (tree_of h t) ≡ free_of s + size (add (terms_in i (forest s)))
takes_free {s = s} {t = t} st su k c = omega (arith, all_bytes s st, all_bytes t su, k.size, takes_bytes c)

-- another stood there before
pub taken_free : {s t : State} {f : Forest} {i c h : ℕ} → Stands s → Stands t → KeepsRefusals s t → Takes i f (forest s) c → Takes i f (forest t) h
    → free_of t + size (add (terms_in i (forest t))) + size (tree_of h t) ≡ free_of s + size (add (terms_in i (forest s))) + size (tree_of c s)
taken_free {s = s} {t = t} st su k c d = omega (arith, all_bytes s st, all_bytes t su, k.size, takes_bytes c, takes_bytes d)

-- a term that was taken out moves no bytes
pub out_free : {s t : State} {i n h : ℕ} → Stands s → Stands t → KeepsRefusals s t → n < count (terms_in i (forest s)) → IsOut i n (forest s) (forest t) h → free_of t ≡ free_of s
out_free {s = s} {t = t} {i = i} {n = n} st su k l o =
    omega (arith, takes_free st su k o.takes, ap sizes o.terms, ap size o.tree, sizes_taken n (terms_in i (forest s)) l)

-- ---- sums that are opened

loose_sizes : (t : Tree) → sizes (terms_of_loose t) ≤ size t
loose_sizes t = grind arith

pub opened_sizes : (ts : Trees) → sizes (opened ts) ≤ sizes ts
opened_sizes none = omega arith
opened_sizes (more t ts) = omega (arith, sizes_append (terms_of_loose t) (opened ts), loose_sizes t, opened_sizes ts)
