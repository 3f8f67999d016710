-- The leaves of a name that are found at a time, and replaced one after another.
use Rattle.tree_walks.proofs.Shared.{◌≡◌, ℕ, ◌+◌, ◌-◌, ◌*◌, ◌<◌, ◌≤◌, List, [], ◌∷◌, ◌++◌, length, take, drop, get_or, sym, ap, ◌∙◌, subst, arith, drop_of_length-le, drop_more, get_or-take}
use Rattle.tree_walks.proofs.Shared.{length-append, length-take-le, Tree, State, free_of, plain, bytes_in, tree_at, Stands, forest, KeepsRefusals, without_root, few_in, one_at, occurrences, AreFirst}
use Rattle.tree_walks.proofs.{Shared.{IsLeafAt, PutsCopy, leaves_of, drop-append_seam}, Filling.{IsFilling, IsSource, leaves_now, next, source_in}, LeafLists.{few_leaves, leaves_plain}}

-- of the leaves that were found some have been replaced, and the others and all behind them are left
pub record IsReplacing (i : ℕ) (x : List ℕ) (u : Tree) (start s : State) (passed at found : ℕ) (leaves : List ℕ) : Type 0 where
  pub n : ℕ
  pub behind : List ℕ
  pub filling : IsFilling i x u start s n (drop at (take found leaves) ++ behind)
  pub count : n ≡ passed + at * occurrences x u
  pub many : length leaves ≡ 256
  pub within : found ≤ 256
  pub more : at < 256
  pub last : found < 256 → behind ≡ []

-- the leaves are found
pub found_all : {i r n passed found : ℕ} {x leaves todo : List ℕ} {u : Tree} {start s : State} → IsFilling i x u start s n todo → n ≡ passed → r ≡ i
    → AreFirst 256 found leaves (drop passed (leaves_of x (tree_at r (forest s)))) → IsReplacing i x u start s passed 0 found leaves
found_all {i = i} {n = n} {passed = passed} {found = found} {x = x} {leaves = leaves} {todo = todo} {u = u} {start = start} {s = s} w e q a =
    let todo-are : todo ≡ take found leaves ++ a.behind = sym (drop-append_seam w.passed todo) ∙ ap (drop (length w.passed)) (sym (leaves_now w))
    ∙ ap (λ (k : ℕ). drop k (leaves_of x (tree_at i (forest s)))) (w.many ∙ e) ∙ ap (λ (j : ℕ). drop passed (leaves_of x (tree_at j (forest s)))) (sym q) ∙ a.all-are in
    record { n = n; behind = a.behind; filling = subst (IsFilling i x u start s n) todo-are w; count = omega (arith, e); many = a.places; within = a.within; more = omega arith; last = a.last }

-- ---- one leaf more

pub headed : {i passed at found : ℕ} {x leaves : List ℕ} {u : Tree} {start s : State} (d : ℕ) → (w : IsReplacing i x u start s passed at found leaves) → at < found
    → IsFilling i x u start s w.n (get_or leaves at d ∷ (drop (at + 1) (take found leaves) ++ w.behind))
headed {i = i} {at = at} {found = found} {x = x} {leaves = leaves} {u = u} {start = start} {s = s} d w h =
    let some : at < length (take found leaves) = omega (arith, h, length-take-le found leaves (omega (arith, w.many, w.within))) in
    let left : drop at (take found leaves) ≡ get_or leaves at d ∷ drop (at + 1) (take found leaves) = drop_more (take found leaves) at d some
    ∙ ap (λ (j : ℕ). j ∷ drop (at + 1) (take found leaves)) (get_or-take found leaves at d h) in
    subst (IsFilling i x u start s w.n) (ap (λ (ys : List ℕ). ys ++ w.behind) left) w.filling

pub put : {i passed at found k : ℕ} {x leaves : List ℕ} {u : Tree} {start s v : State} (d : ℕ) → (w : IsReplacing i x u start s passed at found leaves) → at < found
    → IsSource k u (without_root i (forest start))
    → ((n p : ℕ) → IsLeafAt n p (get_or leaves at d) (forest s) → PutsCopy (plain (tree_at k (forest s))) n p (forest s) (forest v)) → bytes_in (tree_at k (forest s)) ≤ free_of s
    → KeepsRefusals s v → Stands v
    → IsFilling i x u start v (w.n + occurrences x u) (drop (at + 1) (take found leaves) ++ w.behind)
put {s = s} {v = v} d w h src c room kept st =
    let m = next (headed d w h) in
    let j = source_in w.filling.now src w.filling.ends.whole in
    m.goes v (subst (λ (t : Tree). PutsCopy t m.at m.parent (forest s) (forest v)) j.told (c m.at m.parent m.leaf)) (omega (arith, room, j.bytes)) kept st

pub more_passed : {n : ℕ} (passed at many : ℕ) → n ≡ passed + at * many → n + many ≡ passed + (at + 1) * many
more_passed passed at many e = omega (arith, e)

pub goes_on : {i passed at found : ℕ} {x leaves : List ℕ} {u : Tree} {start s v : State} → (w : IsReplacing i x u start s passed at found leaves) → at + 1 < 256
    → IsFilling i x u start v (w.n + occurrences x u) (drop (at + 1) (take found leaves) ++ w.behind) → IsReplacing i x u start v passed (at + 1) found leaves
goes_on {passed = passed} {at = at} {x = x} {u = u} w h f =
    record { n = w.n + occurrences x u; behind = w.behind; filling = f; count = more_passed passed at (occurrences x u) w.count; many = w.many; within = w.within; more = h; last = w.last }

-- all that were found are replaced: how many leaves of the name are passed over then
pub all_passed : {i passed at found count n k : ℕ} {x leaves todo : List ℕ} {u : Tree} {start s v : State} → (w : IsReplacing i x u start s passed at found leaves) → at + 1 ≡ 256
    → IsFilling i x u start v n todo → IsSource k u (without_root i (forest start))
    → count ≡ length (leaves_of x (tree_at k (forest v))) → w.n + occurrences x u ≡ passed + 256 * count
all_passed {at = at} {k = k} {x = x} {u = u} {v = v} w h f src e =
    let j = source_in f.now src f.ends.whole in
    let same = e ∙ leaves_plain x (tree_at k (forest v)) (one_at k (forest v) j.expression.live) j.expression.whole ∙ ap (occurrences x) j.told in
    let last : at ≡ 255 = omega (arith, h) in
    omega (arith, w.count, same, ap (λ (m : ℕ). m * occurrences x u) last)

-- no leaf is left
pub all_gone : {i passed at found : ℕ} {x leaves : List ℕ} {u : Tree} {start s : State} → (w : IsReplacing i x u start s passed at found leaves) → found ≤ at
    → drop at (take found leaves) ++ w.behind ≡ []
all_gone {at = at} {found = found} {leaves = leaves} w h =
    ap (λ (ys : List ℕ). ys ++ w.behind) (drop_of_length-le (take found leaves) (omega (arith, h, length-take-le found leaves (omega (arith, w.many, w.within))))) ∙ w.last (omega (arith, h, w.more))

-- ---- how many are left

left_over : {i n : ℕ} {x todo : List ℕ} {u : Tree} {start s : State} → IsFilling i x u start s n todo → length (leaves_of x (tree_at i (forest s))) ≡ n + length todo
left_over {todo = todo} w = omega (arith, ap length (leaves_now w), length-append w.passed todo, w.many)

pub few_passed : {i n : ℕ} {x todo : List ℕ} {u : Tree} {start s : State} → IsFilling i x u start s n todo → n ≤ 65535
few_passed {i = i} {x = x} {s = s} w = omega (arith, left_over w, few_leaves x (tree_at i (forest s)), few_in i s w.stands)

pub fewer : {i next j n : ℕ} {x rest : List ℕ} {u : Tree} {start s v : State} (passed at : ℕ) → IsFilling i x u start s n (j ∷ rest)
    → IsFilling i x u start v (n + occurrences x u) rest → n ≡ passed + at * occurrences x u → n + occurrences x u ≡ next
    → length (leaves_of x (tree_at i (forest v))) - next < length (leaves_of x (tree_at i (forest s))) - (passed + at * occurrences x u)
fewer passed at w f e q = omega (arith, left_over w, left_over f, e, q)
