-- Children of a node that are listed from a place on.
use Rattle.node_order.proofs.Shared.{rest_trees-add, ◌≡◌, List, [], ◌∷◌, ◌++◌, ℕ, suc, ◌+◌, ◌<◌, length, get_or, ap, ◌∙◌, arith, zero-add, Option, Some, None, set}
use Rattle.node_order.proofs.Shared.{cases_lt, get_or-set_other, get_or-set_same, enumerate_from, enumerate_source, enumerate_count, enumerate_steps, length-enumerate_from, get_or-enumerate_from}
use Rattle.node_order.proofs.Shared.{root_ids, IsChildAt, Forest, join, arity, root_id, first_trees, rest_trees, tree_nth, kids_of, arity-rest_trees, Yields, YieldsFirst, Enumerate}
use Rattle.node_order.proofs.Shared.{YieldsList, YieldsList-from_first, YieldsList-from_enumerate, YieldsList-turn, YieldsList-end, rest-rest, root_ids-nth, length-root_ids}
use Rattle.std.proofs.Common.{length-append}

-- ---- the trees behind others

pub suc-add : (n k : ℕ) → suc n + k ≡ suc (n + k)
suc-add n k = omega arith

pub nth-front : (n k : ℕ) (a g : Forest) → n ≡ arity a → tree_nth (n + k) (join a g) ≡ tree_nth k g
nth-front n k a g e = ap (λ m. tree_nth (m + k) (join a g)) e ∙ ap (first_trees 1) (rest_trees-add a g k)

-- a child by its place among those from a place on
pub later_child : (i n at x : ℕ) (f : Forest) → at < arity (rest_trees n (kids_of i f)) → x ≡ root_id (tree_nth at (rest_trees n (kids_of i f))) → IsChildAt (n + at) i x f
later_child i n at x f h e = grind (arith, arity-rest_trees, rest-rest)

-- ---- a walk over a list, whose items are counted

-- the iterator that counts what is left of a list
abbrev Counts : Enumerate (List ℕ) → Option (ℕ × ℕ) → Enumerate (List ℕ) → Type 0
Counts = enumerate_steps (YieldsFirst (λ left. left))

-- an item is the identifier of a tree at a place, with that place
pub record IsTurn (n at x : ℕ) (g : Forest) : Type 0 where
  pub inside : n < arity g
  pub at-is : at ≡ n
  pub id-is : x ≡ root_id (tree_nth n g)

walk : (ids : List ℕ) (s : Enumerate (List ℕ)) → enumerate_source s ≡ ids → enumerate_count s ≡ 0 → YieldsList Counts (λ p. (p.0, p.1)) s (enumerate_from 0 ids)
walk ids s whole none = YieldsList-from_enumerate (YieldsList-from_first (λ x. x) (λ left. left) ids whole) none

-- the item that comes after some
pub turn : (g : Forest) (s t u : Enumerate (List ℕ)) (xs : List (ℕ × ℕ)) (r : Option (ℕ × ℕ)) (at x : ℕ) → enumerate_source s ≡ root_ids g → enumerate_count s ≡ 0
    → Yields Counts s xs t → r ≡ Some (at, x) → Counts t r u → IsTurn (length xs) at x g
turn g s t u xs r at x whole none so_far is step =
    let n = length xs in
    let ids = root_ids g in
    let told = YieldsList-turn (walk ids s whole none) xs t so_far r u (at, x) is step in
    let inside : n < length ids = omega (arith, told.0, length-enumerate_from 0 ids) in
    let both : ◌≡◌ {A = ℕ × ℕ} (at, x) (0 + n, get_or ids n x) = told.1 ∙ get_or-enumerate_from 0 ids n (at, x) inside in
    let room : n < arity g = omega (arith, inside, length-root_ids g) in
    record { inside = room; at-is = ap (λ (p : ℕ × ℕ). p.0) both ∙ zero-add n; id-is = ap (λ (p : ℕ × ℕ). p.1) both ∙ root_ids-nth n x g room }

-- after the last item
pub all_came : (g : Forest) (s t u : Enumerate (List ℕ)) (xs : List (ℕ × ℕ)) (r : Option (ℕ × ℕ)) → enumerate_source s ≡ root_ids g → enumerate_count s ≡ 0 → Yields Counts s xs t
    → r ≡ None → Counts t r u → length xs ≡ arity g
all_came g s t u xs r whole none so_far is step = (YieldsList-end (walk (root_ids g) s whole none) xs t so_far r u is step).1 ∙ length-enumerate_from 0 (root_ids g) ∙ length-root_ids g

-- one more is listed
pub listed_more : {X Y : Type 0} (P : ℕ → X → Type 0) (xs : List X) (ys : List Y) (at : ℕ) (x : X) (y : Y) → at ≡ length ys → at < length xs
    → ((n : ℕ) (d : X) → n < length ys → P n (get_or xs n d)) → P (length ys) x → (n : ℕ) (d : X) → n < length (ys ++ (y ∷ [])) → P n (get_or (set xs at x) n d)
listed_more P xs ys at x y same room before here n d lt = grind (arith, get_or-set_other, length-append, set, get_or-set_same, cases_lt)
