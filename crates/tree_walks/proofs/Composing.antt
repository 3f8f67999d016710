-- What comes of a tree in which a name was replaced.
use Rattle.tree_walks.proofs.Shared.{◌≡◌, ℕ, ◌+◌, ◌*◌, List, [], ◌∷◌, ◌++◌, cond, refl, ap, ◌∙◌, subst, arith, inl, inr, Bool, true, false, Contains, ◌⊎◌, count_by, bytes_eq, Contains-append_cases}
use Rattle.tree_walks.proofs.Shared.{Contains-append_left, Contains-append_right, Contains-push, Contains-push_cases, sum_by-append, bytes_eq-Decides, Tree, symbol, add, mult, power, root, neg, sub}
use Rattle.tree_walks.proofs.Shared.{div, Trees, none, more, names, names_of, size, sizes, root_size, by_test, replaced, replaced_in, occurrences, ◌≢◌, StaysWhereAbsent, NamesOfReplaced}
use Rattle.tree_walks.proofs.{Shared.{OccursWhereNamed, BytesOfReplaced}, Names.{occurrences_in}, Searches.{counted, uncounted}}

-- ---- a tree without the name

symbol_stays : (x y : List ℕ) (u : Tree) → (Contains (y ∷ []) x → ⊥) → cond (bytes_eq y x) u (symbol y) ≡ symbol y
symbol_stays x y u h = by_test (λ t. bytes_eq y x ≡ t → cond t u (symbol y) ≡ symbol y) (bytes_eq y x)
    (λ e q. absurd (h (subst (λ z. Contains (y ∷ []) z) ((bytes_eq-Decides y x).0 q) (Contains-push [] y)))) (λ e q. refl) refl

mutual
  stays : (x : List ℕ) (u t : Tree) → (Contains (names t) x → ⊥) → replaced x u t ≡ t
  stays x u (symbol y) h = symbol_stays x y u h
  stays x u (add ts) h = ap add (stay x u ts h)
  stays x u (mult ts) h = ap mult (stay x u ts h)
  stays x u (power b e) h = cc (stays x u b (λ c. h (Contains-append_left (names b) (names e) x c)), stays x u e (λ c. h (Contains-append_right (names b) (names e) x c)))
  stays x u (root a) h = ap root (stays x u a h)
  stays x u (neg a) h = ap neg (stays x u a h)
  stays x u (sub a b) h = cc (stays x u a (λ c. h (Contains-append_left (names a) (names b) x c)), stays x u b (λ c. h (Contains-append_right (names a) (names b) x c)))
  stays x u (div a b) h = cc (stays x u a (λ c. h (Contains-append_left (names a) (names b) x c)), stays x u b (λ c. h (Contains-append_right (names a) (names b) x c)))
  stays x u t h = refl

  stay : (x : List ℕ) (u : Tree) (ts : Trees) → (Contains (names_of ts) x → ⊥) → replaced_in x u ts ≡ ts
  stay x u none h = refl
  stay x u (more t ts) h = cc (stays x u t (λ c. h (Contains-append_left (names t) (names_of ts) x c)), stay x u ts (λ c. h (Contains-append_right (names t) (names_of ts) x c)))

pub stays_where_absent : StaysWhereAbsent
stays_where_absent x u t h = stays x u t h

-- ---- the names

nobody : {A : Type 0} (y : List ℕ) → Contains {X = List ℕ} [] y → A
nobody y (k, h, e) = absurd (omega arith)

-- an element of one of two lists
abbrev FromBoth : List ℕ → List (List ℕ) → List (List ℕ) → List ℕ → Type 0
FromBoth x ts us y = (Contains ts y × (y ≢ x)) ⊎ Contains us y

left_of : (x y : List ℕ) (us ks ls : List (List ℕ)) → FromBoth x ks us y → FromBoth x (ks ++ ls) us y
left_of x y us ks ls (inl p) = inl (Contains-append_left ks ls y p.0, p.1)
left_of x y us ks ls (inr p) = inr p

right_of : (x y : List ℕ) (us ks ls : List (List ℕ)) → FromBoth x ls us y → FromBoth x (ks ++ ls) us y
right_of x y us ks ls (inl p) = inl (Contains-append_right ks ls y p.0, p.1)
right_of x y us ks ls (inr p) = inr p

joined : (x y : List ℕ) (us ks ls ms ns : List (List ℕ)) → (Contains ms y → FromBoth x ks us y) → (Contains ns y → FromBoth x ls us y) → Contains (ms ++ ns) y → FromBoth x (ks ++ ls) us y
joined x y us ks ls ms ns f g h = elim (Contains-append_cases ms ns y h) [ inl c ↦ left_of x y us ks ls (f c) | inr c ↦ right_of x y us ks ls (g c) ]

symbol_names : (x z y : List ℕ) (u : Tree) → Contains (names (cond (bytes_eq z x) u (symbol z))) y → FromBoth x (z ∷ []) (names u) y
symbol_names x z y u h =
    by_test (λ t. bytes_eq z x ≡ t → Contains (names (cond t u (symbol z))) y → FromBoth x (z ∷ []) (names u) y) (bytes_eq z x) (λ e q c. inr c)
    (λ e q c. inl (c, λ same. other (bytes_eq z x) q ((bytes_eq-Decides z x).1 (alone z y c ∙ same)))) refl h
  where
    other : (b : Bool) → b ≡ false → b ≡ true → ⊥
    other b p q = cc

    alone : (z y : List ℕ) → Contains (z ∷ []) y → z ≡ y
    alone z y c = elim (Contains-push_cases [] z y c) [ inl n ↦ nobody y n | inr e ↦ e ]

mutual
  from_both : (x : List ℕ) (u t : Tree) (y : List ℕ) → Contains (names (replaced x u t)) y → FromBoth x (names t) (names u) y
  from_both x u (symbol z) y h = symbol_names x z y u h
  from_both x u (add ts) y h = all_from x u ts y h
  from_both x u (mult ts) y h = all_from x u ts y h
  from_both x u (power b e) y h = joined x y (names u) (names b) (names e) (names (replaced x u b)) (names (replaced x u e)) (from_both x u b y) (from_both x u e y) h
  from_both x u (root a) y h = from_both x u a y h
  from_both x u (neg a) y h = from_both x u a y h
  from_both x u (sub a b) y h = joined x y (names u) (names a) (names b) (names (replaced x u a)) (names (replaced x u b)) (from_both x u a y) (from_both x u b y) h
  from_both x u (div a b) y h = joined x y (names u) (names a) (names b) (names (replaced x u a)) (names (replaced x u b)) (from_both x u a y) (from_both x u b y) h
  from_both x u t y h = nobody y h

  all_from : (x : List ℕ) (u : Tree) (ts : Trees) (y : List ℕ) → Contains (names_of (replaced_in x u ts)) y → FromBoth x (names_of ts) (names u) y
  all_from x u none y h = nobody y h
  all_from x u (more t ts) y h = joined x y (names u) (names t) (names_of ts) (names (replaced x u t)) (names_of (replaced_in x u ts)) (from_both x u t y) (all_from x u ts y) h

pub names_of_replaced : NamesOfReplaced
names_of_replaced x u t y h = from_both x u t y h

-- ---- how often a name occurs

pub occurs_where_named : OccursWhereNamed
occurs_where_named x t = (counted x (names t), uncounted x (names t))

-- ---- the bytes

-- those of the leaves that went, and of the trees that came
split : (x : List ℕ) (u : Tree) (ks ls : List (List ℕ))
    → (count_by (λ y. bytes_eq y x) (ks ++ ls) ≡ count_by (λ y. bytes_eq y x) ks + count_by (λ y. bytes_eq y x) ls) ×
    (count_by (λ y. bytes_eq y x) (ks ++ ls) * size u ≡ count_by (λ y. bytes_eq y x) ks * size u + count_by (λ y. bytes_eq y x) ls * size u)
split x u ks ls =
    let sum : count_by (λ y. bytes_eq y x) (ks ++ ls) ≡ count_by (λ y. bytes_eq y x) ks + count_by (λ y. bytes_eq y x) ls = sum_by-append (λ y. cond (bytes_eq y x) 1 0) ks ls in
    (sum, ap (λ (n : ℕ). n * size u) sum ∙ omega arith)

symbol_bytes : (x y : List ℕ) (u : Tree) → size (cond (bytes_eq y x) u (symbol y)) + occurrences x (symbol y) * root_size (symbol x) ≡ root_size (symbol y) + occurrences x (symbol y) * size u
symbol_bytes x y u = grind arith

mutual
  bytes : (x : List ℕ) (u t : Tree) → size (replaced x u t) + occurrences x t * root_size (symbol x) ≡ size t + occurrences x t * size u
  bytes x u (symbol y) = symbol_bytes x y u
  bytes x u (add ts) = omega (arith, all_bytes x u ts)
  bytes x u (mult ts) = omega (arith, all_bytes x u ts)
  bytes x u (power b e) = let s = split x u (names b) (names e) in omega (arith, bytes x u b, bytes x u e, s.0, s.1)
  bytes x u (root a) = omega (arith, bytes x u a)
  bytes x u (neg a) = omega (arith, bytes x u a)
  bytes x u (sub a b) = let s = split x u (names a) (names b) in omega (arith, bytes x u a, bytes x u b, s.0, s.1)
  bytes x u (div a b) = let s = split x u (names a) (names b) in omega (arith, bytes x u a, bytes x u b, s.0, s.1)
  bytes x u t = omega arith

  all_bytes : (x : List ℕ) (u : Tree) (ts : Trees) → sizes (replaced_in x u ts) + occurrences_in x ts * root_size (symbol x) ≡ sizes ts + occurrences_in x ts * size u
  all_bytes x u none = omega arith
  all_bytes x u (more t ts) = let s = split x u (names t) (names_of ts) in omega (arith, bytes x u t, all_bytes x u ts, s.0, s.1)

pub bytes_of_replaced : BytesOfReplaced
bytes_of_replaced x u t = bytes x u t
