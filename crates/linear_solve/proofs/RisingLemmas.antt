-- Lemmas on names in the order of their bytes.
use Rattle.linear_solve.proofs.Shared.{only_one, ◌≡◌, ◌∙◌, ◌⊎◌, inl, inr, ℕ, zero, suc, ◌+◌, ◌<◌, ◌≤◌, List, [], ◌∷◌, ◌++◌, length, take, get_or, Bool, true, false, cond, refl, sym, ap, subst, arith}
use Rattle.linear_solve.proofs.Shared.{append_assoc, Contains-append_cases, Contains-append_left, Contains-append_right, All-cons, All-contains, All-head, All-tail, bytes_eq-Decides}
use Rattle.linear_solve.proofs.Shared.{nat_list_cmp_total, tied_itself, append-nil, list_any_at, exact_bytes, Contains-from_any, ◌||◌, All, Contains, insert, list_any, prefix_len, bytes_eq, Less}
use Rattle.linear_solve.proofs.Shared.{tree_cmp, name_of, symbol, Tree, Trees, none, more, count, is_symbol, names, names_of, root_kind, AreDistinct, equations_in, names_listed, AreNamesOf}
use Rattle.linear_solve.proofs.Shared.{HoldOverSixNames, Includes, IsNameIn, Rises, is_before, names_at, Listed, children_of, nth, plain, Forest, tree_at}
use Rattle.calc_terms.specs.declared.kind.Kind.TheVariants as kind

pub before_is : (x y : List ℕ) → is_before x y ≡ true → tree_cmp (symbol x) (symbol y) ≡ Less
before_is x y e = grind arith

pub before_chain : (x y z : List ℕ) → is_before x y ≡ true → is_before y z ≡ true → is_before x z ≡ true
before_chain x y z h k = grind (arith, nat_list_cmp_total.trans x y z)

-- of two names that are not the same, one is before the other
behind : (x y : List ℕ) → is_before x y ≡ false → (x ≡ y → ⊥) → is_before y x ≡ true
behind x y h k = grind (arith, exact_bytes x y, nat_list_cmp_total.antisymm y x)

pub never_before_itself : (x : List ℕ) → is_before x x ≡ true → ⊥
never_before_itself x h = grind (arith, tied_itself nat_list_cmp_total x)

-- a name where it belongs
abbrev pub with_name : List ℕ → List (List ℕ) → List (List ℕ)
with_name y xs = insert xs (prefix_len (λ x. is_before x y) xs) y

all_with : (P : List ℕ → Type 0) (n : ℕ) (y : List ℕ) (xs : List (List ℕ)) → P y → All P xs → All P (insert xs n y)
all_with P zero y xs p h = All-cons P y xs p h
all_with P (suc n) y [] p h = All-cons P y [] p h
all_with P (suc n) y (x ∷ xs) p h = All-cons P x (insert xs n y) (All-head P x xs h) (all_with P n y xs p (All-tail P x xs h))

pub rises_with : (y : List ℕ) (xs : List (List ℕ)) → Rises xs → (Contains xs y → ⊥) → Rises (with_name y xs)
rises_with y [] h k = (λ j d l. absurd (omega (arith, l)), tt)
rises_with y (x ∷ xs) h k = by (is_before x y) refl (rises_with y xs h.1 (λ (j, l, q). k (suc j, omega arith, q)))
  where
    by : (b : Bool) → is_before x y ≡ b → Rises (with_name y xs) → Rises (insert (x ∷ xs) (cond b (1 + prefix_len (λ z. is_before z y) xs) 0) y)
    by true e rest = step (1 + prefix_len (λ z. is_before z y) xs) (omega arith) (all_with (λ z. is_before x z ≡ true) (prefix_len (λ z. is_before z y) xs) y xs e h.0, rest)
      where
        step : (m : ℕ) → m ≡ suc (prefix_len (λ z. is_before z y) xs) → All (λ z. is_before x z ≡ true) (with_name y xs) × Rises (with_name y xs) → Rises (insert (x ∷ xs) m y)
        step m e r = subst (λ n. Rises (insert (x ∷ xs) n y)) (sym e) r
    by false e rest =
        let p = behind x y e (λ q. k (0, omega arith, q)) in
        (All-cons (λ z. is_before y z ≡ true) x xs p (λ j d l. before_chain y x (get_or xs j d) p (h.0 j d l)), h)

pub rises_distinct : (xs : List (List ℕ)) → Rises xs → AreDistinct xs
rises_distinct [] h = tt
rises_distinct (x ∷ xs) h = (λ m. never_before_itself x (All-contains (λ y. is_before x y ≡ true) xs x h.0 m), rises_distinct xs h.1)

-- ---- what is in them then

in_insert : (n : ℕ) (y : List ℕ) (xs : List (List ℕ)) → Contains (insert xs n y) y
in_insert zero y xs = (0, omega arith, refl)
in_insert (suc n) y [] = (0, omega arith, refl)
in_insert (suc n) y (x ∷ xs) = let (k, l, e) = in_insert n y xs in (suc k, omega arith, e)

old_in : (n : ℕ) (y : List ℕ) (xs : List (List ℕ)) (x : List ℕ) → Contains xs x → Contains (insert xs n y) x
old_in zero y xs x (k, l, e) = (suc k, omega arith, e)
old_in (suc n) y [] x (k, l, e) = absurd (omega (arith, l))
old_in (suc n) y (z ∷ xs) x (zero, l, e) = (0, omega arith, e)
old_in (suc n) y (z ∷ xs) x (suc k, l, e) = let (j, b, q) = old_in n y xs x (k, omega arith, e) in (suc j, omega arith, q)

from_insert : (n : ℕ) (y : List ℕ) (xs : List (List ℕ)) (x : List ℕ) → Contains (insert xs n y) x → Contains xs x ⊎ Contains (y ∷ []) x
from_insert zero y xs x (zero, l, e) = inr (0, omega arith, e)
from_insert zero y xs x (suc k, l, e) = inl (k, omega arith, e)
from_insert (suc n) y [] x (zero, l, e) = inr (0, omega arith, e)
from_insert (suc n) y [] x (suc k, l, e) = absurd (omega (arith, l))
from_insert (suc n) y (z ∷ xs) x (zero, l, e) = inl (0, omega arith, e)
from_insert (suc n) y (z ∷ xs) x (suc k, l, e) = elim (from_insert n y xs x (k, omega arith, e)) [ inl (j, b, q) ↦ inl (suc j, omega arith, q) | inr m ↦ inr m ]

-- a name that is there already
pub includes_there : (y : List ℕ) (xs : List (List ℕ)) → Contains xs y → Includes (y ∷ []) xs xs true
includes_there y xs m = grind arith

-- one for which there is no room
pub includes_none : (y : List ℕ) (xs : List (List ℕ)) → length xs ≡ 6 → (Contains xs y → ⊥) → Includes (y ∷ []) xs xs false
includes_none y xs l h = record {
  kept = λ x c. c;
  only = λ x c. inl c;
  all = λ e. absurd cc;
  lacks = λ e. (l, y, (0, omega arith, refl), h);
}

pub includes_new : (y : List ℕ) (xs : List (List ℕ)) → Includes (y ∷ []) xs (with_name y xs) true
includes_new y xs = record {
  kept = λ x c. old_in (prefix_len (λ z. is_before z y) xs) y xs x c;
  only = λ x c. from_insert (prefix_len (λ z. is_before z y) xs) y xs x c;
  all = λ e x c. subst (λ z. Contains (with_name y xs) z) (only_one y x c) (in_insert (prefix_len (λ z. is_before z y) xs) y xs);
  lacks = λ e. absurd cc;
}

-- ---- the names as the code lists them

any_listed : (xs : List Listed) (y : List ℕ) → list_any (λ l. bytes_eq (name_of l.name) y) xs ≡ list_any (λ x. bytes_eq x y) (names_listed xs)
any_listed [] y = refl
any_listed (l ∷ ls) y = ap (λ b. bytes_eq (name_of l.name) y || b) (any_listed ls y)

pub listed_any : (xs : List Listed) (y : List ℕ) → list_any (λ l. bytes_eq (name_of l.name) y) xs ≡ true → Contains (names_listed xs) y
listed_any xs y e = Contains-from_any {eq = λ a b. bytes_eq b a} (λ a b h. sym ((bytes_eq-Decides b a).0 h)) y (names_listed xs) (sym (any_listed xs y) ∙ e)

pub listed_none : (xs : List Listed) (y : List ℕ) → list_any (λ l. bytes_eq (name_of l.name) y) xs ≡ false → Contains (names_listed xs) y → ⊥
listed_none xs y e (k, l, q) =
    let found : list_any (λ x. bytes_eq x y) (names_listed xs) ≡ true = list_any_at (λ x. bytes_eq x y) (names_listed xs) k y l ((bytes_eq-Decides _ y).1 q) in
    let none : list_any (λ x. bytes_eq x y) (names_listed xs) ≡ false = sym (any_listed xs y) ∙ e in
    cc

listed_prefix : (xs : List Listed) (y : List ℕ) → prefix_len (λ l. is_before (name_of l.name) y) xs ≡ prefix_len (λ x. is_before x y) (names_listed xs)
listed_prefix [] y = refl
listed_prefix (l ∷ ls) y = ap (λ n. cond (is_before (name_of l.name) y) (1 + n) 0) (listed_prefix ls y)

listed_insert : (xs : List Listed) (n : ℕ) (l : Listed) → names_listed (insert xs n l) ≡ insert (names_listed xs) n (name_of l.name)
listed_insert xs zero l = refl
listed_insert [] (suc n) l = refl
listed_insert (x ∷ xs) (suc n) l = ap (λ ys. name_of x.name ∷ ys) (listed_insert xs n l)

pub listed_with : (xs : List Listed) (n : ℕ) (l : Listed) → n ≡ prefix_len (λ o. is_before (name_of o.name) (name_of l.name)) xs → names_listed (insert xs n l) ≡ with_name (name_of l.name) (names_listed xs)
listed_with xs n l e = listed_insert xs n l ∙ ap (λ k. insert (names_listed xs) k (name_of l.name)) (e ∙ listed_prefix xs (name_of l.name))

-- ---- names of several trees

pub includes_both : {m n xs ys zs : List (List ℕ)} {told : Bool} → Includes m xs ys true → Includes n ys zs told → Includes (m ++ n) xs zs told
includes_both {m} {n} {xs} {ys} {zs} h k = record {
  kept = λ x c. k.kept x (h.kept x c);
  only = λ x c. elim (k.only x c) [ inl d ↦ elim (h.only x d) [ inl e ↦ inl e | inr e ↦ inr (Contains-append_left m n x e) ] | inr d ↦ inr (Contains-append_right m n x d) ];
  all = λ e x c. elim (Contains-append_cases m n x c) [ inl d ↦ k.kept x (h.all refl x d) | inr d ↦ k.all e x d ];
  lacks = λ e. let (l, x, c, d) = k.lacks e in (l, x, Contains-append_right m n x c, d);
}

pub includes_wider : {m n xs ys : List (List ℕ)} → ((x : List ℕ) → Contains m x → Contains n x) → Includes m xs ys false → Includes n xs ys false
includes_wider w h = record {
  kept = h.kept;
  only = λ x c. elim (h.only x c) [ inl d ↦ inl d | inr d ↦ inr (w x d) ];
  all = λ e. absurd cc;
  lacks = λ e. let (l, x, c, d) = h.lacks e in (l, x, w x c, d);
}

pub includes_as : {m n xs ys : List (List ℕ)} {told : Bool} → m ≡ n → Includes m xs ys told → Includes n xs ys told
includes_as {xs = xs} {ys = ys} {told = told} e h = subst (λ k. Includes k xs ys told) e h

-- the names of the first trees, so many
abbrev pub first_names : ℕ → Trees → List (List ℕ)
first_names zero ts = []
first_names (suc n) none = []
first_names (suc n) (more t ts) = names t ++ first_names n ts

pub first_names-next : (n : ℕ) (ts : Trees) → n < count ts → first_names (suc n) ts ≡ first_names n ts ++ names (nth n ts)
first_names-next n none l = absurd (omega (arith, l))
first_names-next zero (more t ts) l = append-nil (names t)
first_names-next (suc n) (more t ts) l = ap (λ xs. names t ++ xs) (first_names-next n ts (omega arith)) ∙ sym (append_assoc (names t) (first_names n ts) (names (nth n ts)))

pub first_names-all : (n : ℕ) (ts : Trees) → count ts ≤ n → first_names n ts ≡ names_of ts
first_names-all zero none l = refl
first_names-all (suc n) none l = refl
first_names-all zero (more t ts) l = absurd (omega (arith, l))
first_names-all (suc n) (more t ts) l = ap (λ xs. names t ++ xs) (first_names-all n ts (omega arith))

pub first_names-in : (n : ℕ) (ts : Trees) (x : List ℕ) → Contains (first_names n ts) x → Contains (names_of ts) x
first_names-in zero ts x (k, l, e) = absurd (omega (arith, l))
first_names-in (suc n) none x (k, l, e) = absurd (omega (arith, l))
first_names-in (suc n) (more t ts) x c = elim (Contains-append_cases (names t) (first_names n ts) x c) [
  | inl d ↦ Contains-append_left (names t) (names_of ts) x d
  | inr d ↦ Contains-append_right (names t) (names_of ts) x (first_names-in n ts x d)
]

pub no_symbol : (t : Tree) → (root_kind t ≡ kind.Sym → ⊥) → is_symbol t ≡ false
no_symbol t h = grind arith

-- a tree that is no symbol has its children's names
pub names_below : (t : Tree) → is_symbol t ≡ false → names_of (children_of t) ≡ names t
names_below t h = grind (arith, append-nil)

-- ---- names of sides

pub names_at-push : (f : Forest) (is : List ℕ) (i : ℕ) → names_at f (is ++ i ∷ []) ≡ names_at f is ++ names (plain (tree_at i f))
names_at-push f [] i = append-nil (names (plain (tree_at i f)))
names_at-push f (j ∷ js) i = ap (λ xs. names (plain (tree_at j f)) ++ xs) (names_at-push f js i) ∙ sym (append_assoc (names (plain (tree_at j f))) (names_at f js) (names (plain (tree_at i f))))

pub names_at-in : (f : Forest) (n : ℕ) (is : List ℕ) (x : List ℕ) → Contains (names_at f (take n is)) x → Contains (names_at f is) x
names_at-in f zero is x (k, l, e) = absurd (omega (arith, l))
names_at-in f (suc n) [] x (k, l, e) = absurd (omega (arith, l))
names_at-in f (suc n) (i ∷ is) x c = elim (Contains-append_cases (names (plain (tree_at i f))) (names_at f (take n is)) x c) [
  | inl d ↦ Contains-append_left (names (plain (tree_at i f))) (names_at f is) x d
  | inr d ↦ Contains-append_right (names (plain (tree_at i f))) (names_at f is) x (names_at-in f n is x d)
]

pub none_in : (x : List ℕ) → Contains {X = List ℕ} [] x → ⊥
none_in x (k, l, e) = omega (arith, l)

pub in_sides : (f : Forest) (ls rs : List ℕ) (x : List ℕ) → length rs ≡ length ls → Contains (names_at f ls ++ names_at f rs) x → IsNameIn (equations_in f ls rs) x
in_sides f ls rs x l c = by ls rs l (Contains-append_cases (names_at f ls) (names_at f rs) x c)
  where
    by : (ls rs : List ℕ) → length rs ≡ length ls → Contains (names_at f ls) x ⊎ Contains (names_at f rs) x → IsNameIn (equations_in f ls rs) x
    by [] [] l h = elim h [ inl c ↦ none_in x c | inr c ↦ none_in x c ]
    by [] (j ∷ rs) l h = absurd (omega arith)
    by (i ∷ ls) [] l h = absurd (omega arith)
    by (i ∷ ls) (j ∷ rs) l (inl c) = elim (Contains-append_cases (names (plain (tree_at i f))) (names_at f ls) x c) [ inl d ↦ inl (inl d) | inr d ↦ inr (by ls rs (omega arith) (inl d)) ]
    by (i ∷ ls) (j ∷ rs) l (inr c) = elim (Contains-append_cases (names (plain (tree_at j f))) (names_at f rs) x c) [ inl d ↦ inl (inr d) | inr d ↦ inr (by ls rs (omega arith) (inr d)) ]

pub from_sides : (f : Forest) (ls rs : List ℕ) (x : List ℕ) → IsNameIn (equations_in f ls rs) x → Contains (names_at f ls ++ names_at f rs) x
from_sides f ls rs x m = elim (by ls rs m) [ inl d ↦ Contains-append_left (names_at f ls) (names_at f rs) x d | inr d ↦ Contains-append_right (names_at f ls) (names_at f rs) x d ]
  where
    by : (ls rs : List ℕ) → IsNameIn (equations_in f ls rs) x → Contains (names_at f ls) x ⊎ Contains (names_at f rs) x
    by [] rs m = absurd m
    by (i ∷ ls) [] m = absurd m
    by (i ∷ ls) (j ∷ rs) m = grind (arith, Contains-append_left, Contains-append_right, by ls rs)

-- all names were included
pub names_are : (f : Forest) (ls rs : List ℕ) (xs : List (List ℕ)) → length rs ≡ length ls → Rises xs → Includes (names_at f ls ++ names_at f rs) [] xs true → AreNamesOf (equations_in f ls rs) xs
names_are f ls rs xs l r h = record {
  rising = r;
  all = λ x. (
    λ c. elim (h.only x c) [ inl d ↦ absurd (none_in x d) | inr d ↦ in_sides f ls rs x l d ],
    λ m. h.all refl x (from_sides f ls rs x m),
  );
}

-- one was not
pub names_over : (f : Forest) (ls rs : List ℕ) (xs : List (List ℕ)) → length rs ≡ length ls → Rises xs → Includes (names_at f ls ++ names_at f rs) [] xs false → HoldOverSixNames (equations_in f ls rs)
names_over f ls rs xs l r h =
    let (six, x, c, d) = h.lacks refl in
    record {
      some = x ∷ xs;
      distinct = (d, rises_distinct xs r);
      many = omega (arith, six);
      held = λ y m. by x c y m;
    }
  where
    by : (x : List ℕ) → Contains (names_at f ls ++ names_at f rs) x → (y : List ℕ) → Contains (x ∷ xs) y → IsNameIn (equations_in f ls rs) y
    by x c y (zero, b, e) = subst (IsNameIn (equations_in f ls rs)) e (in_sides f ls rs x l c)
    by x c y (suc k, b, e) = elim (h.only y (k, omega arith, e)) [ inl m ↦ absurd (none_in y m) | inr m ↦ in_sides f ls rs y l m ]
