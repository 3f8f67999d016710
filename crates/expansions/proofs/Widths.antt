-- A monomial has at most as many factors as there are distinct names.
use Rattle.expansions.proofs.Shared.{◌≡◌, ℕ, zero, suc, ◌+◌, ◌≤◌, List, [], ◌∷◌, length, Bool, true, false, refl, sym, ap, ◌∙◌, subst, arith, Contains, ◌||◌, if◌then◌else◌, bytes_eq, bytes_eq-Decides}
use Rattle.expansions.proofs.Shared.{is_eq, Within, IsNamed, count_distinct, is_among, IsBelowAll, IsMonomial, Monomial, is_eq-slice_cmp}

-- ---- names

pub is_same : (x y : List ℕ) → bytes_eq x y ≡ true → x ≡ y
is_same x y = (bytes_eq-Decides x y).0

same_is : (x y : List ℕ) → x ≡ y → bytes_eq x y ≡ true
same_is x y = (bytes_eq-Decides x y).1

false_for : (b : Bool) → (b ≡ true → ⊥) → b ≡ false
false_for b h = grind arith

pub clash : {A : Type 0} (b : Bool) → b ≡ true → b ≡ false → A
clash b p q = absurd cc

pub contained_among : (ns : List (List ℕ)) (x : List ℕ) → Contains ns x → is_among x ns ≡ true
contained_among [] x (k, l, e) = absurd (omega arith)
contained_among (y ∷ ys) x (zero, l, e) = ap (λ (b : Bool). b || is_among x ys) (same_is y x e)
contained_among (y ∷ ys) x (suc k, l, e) = let go = contained_among ys x (k, omega arith, e) in grind arith

-- ---- names other than x

abbrev without : List ℕ → List (List ℕ) → List (List ℕ)
without x [] = []
without x (y ∷ ys) = if bytes_eq y x then without x ys else y ∷ without x ys

among_without : (x y : List ℕ) (ys : List (List ℕ)) → bytes_eq x y ≡ false → is_among y (without x ys) ≡ is_among y ys
among_without x y [] a = refl
among_without x y (z ∷ ys) a = by (bytes_eq z x) refl (among_without x y ys a)
  where
    by : (b : Bool) → bytes_eq z x ≡ b → is_among y (without x ys) ≡ is_among y ys → is_among y (if b then without x ys else z ∷ without x ys) ≡ is_among y (z ∷ ys)
    by true e go = go ∙ sym (ap (λ (b : Bool). b || is_among y ys) (ap (λ (w : List ℕ). bytes_eq w y) (is_same z x e) ∙ a))
    by false e go = ap (λ (b : Bool). bytes_eq z y || b) go

count_more : (y : List ℕ) (ys : List (List ℕ)) → count_distinct ys ≤ count_distinct (y ∷ ys)
count_more y ys = grind arith

-- a name that stays, before names of which there are as many as before, or fewer by one
kept_name : (n : ℕ) (b c : Bool) (k l : ℕ) → b ≡ c → k + n ≤ l → (if b then k else suc k) + n ≤ (if c then l else suc l)
kept_name n b c k l e h = grind arith

other : (x y : List ℕ) → bytes_eq y x ≡ false → bytes_eq x y ≡ false
other x y e = false_for (bytes_eq x y) (λ h. clash (bytes_eq y x) (same_is y x (sym (is_same x y h))) e)

fewer_without : (x : List ℕ) (ys : List (List ℕ)) → count_distinct (without x ys) + 0 ≤ count_distinct ys
fewer_without x [] = omega arith
fewer_without x (y ∷ ys) = let go = fewer_without x ys in grind (arith, count_more, kept_name, among_without, other)

count_without : (x : List ℕ) (ys : List (List ℕ)) → is_among x ys ≡ true → count_distinct (without x ys) + 1 ≤ count_distinct ys
count_without x [] h = clash true refl (sym h)
count_without x (y ∷ ys) h = let go = count_without x ys in grind (arith, fewer_without, is_same, among_without, other)

-- ---- monomials

abbrev AreAmong : List (List ℕ) → Monomial → Type 0
AreAmong ns [] = Unit {0}
AreAmong ns (f ∷ m) = (is_among f.name ns ≡ true) × AreAmong ns m

are_among : (ns : List (List ℕ)) (m : Monomial) → IsNamed ns m → AreAmong ns m
are_among ns [] h = tt
are_among ns (f ∷ m) h = (contained_among ns f.name h.0, are_among ns m h.1)

among_others : (x : List ℕ) (ns : List (List ℕ)) (m : Monomial) → IsBelowAll x m → AreAmong ns m → AreAmong (without x ns) m
among_others x ns [] b h = tt
among_others x ns (f ∷ m) b h = (among_without x f.name ns (sym (is_eq-slice_cmp x f.name) ∙ ap is_eq b.0) ∙ h.0, among_others x ns m b.1 h.1)

few_among : (ns : List (List ℕ)) (m : Monomial) → IsMonomial m → AreAmong ns m → length m ≤ count_distinct ns
few_among ns [] w h = omega arith
few_among ns (f ∷ m) w h = omega (arith, few_among (without f.name ns) m w.2 (among_others f.name ns m w.1 h.1), count_without f.name ns h.0)

pub few_factors : (ns : List (List ℕ)) (m : Monomial) → IsMonomial m → IsNamed ns m → length m ≤ count_distinct ns
few_factors ns m w h = few_among ns m w (are_among ns m h)

-- ---- more names

pub among_contained : (ns : List (List ℕ)) (x : List ℕ) → is_among x ns ≡ true → Contains ns x
among_contained [] x h = clash true refl (sym h)
among_contained (y ∷ ys) x h = by (bytes_eq y x) refl h (among_contained ys x)
  where
    by : (b : Bool) → bytes_eq y x ≡ b → (b || is_among x ys) ≡ true → (is_among x ys ≡ true → Contains ys x) → Contains (y ∷ ys) x
    by true e k go = (zero, omega arith, is_same y x e)
    by false e k go = let (j, l, g) = go k in (suc j, omega arith, g)

AllAmong : List (List ℕ) → List (List ℕ) → Type 0
AllAmong ns xs = (y : List ℕ) → is_among y xs ≡ true → is_among y ns ≡ true

rest_among : (ns : List (List ℕ)) (x : List ℕ) (xs : List (List ℕ)) → AllAmong ns (x ∷ xs) → AllAmong ns xs
unfolding AllAmong
rest_among ns x xs h y k = grind arith

first_among : (ns : List (List ℕ)) (x : List ℕ) (xs : List (List ℕ)) → AllAmong ns (x ∷ xs) → is_among x ns ≡ true
unfolding AllAmong
first_among ns x xs h = h x (ap (λ (b : Bool). b || is_among x xs) (same_is x x refl))

others_among : (ns : List (List ℕ)) (x : List ℕ) (xs : List (List ℕ)) → is_among x xs ≡ false → AllAmong ns xs → AllAmong (without x ns) xs
unfolding AllAmong
others_among ns x xs e h y k =
    let apart : bytes_eq x y ≡ false = false_for (bytes_eq x y) (λ same. clash (is_among x xs) (subst (λ (w : List ℕ). is_among w xs ≡ true) (sym (is_same x y same)) k) e) in
    among_without x y ns apart ∙ h y k

count_rises : (ns xs : List (List ℕ)) → AllAmong ns xs → count_distinct xs ≤ count_distinct ns
count_rises ns [] h = omega arith
count_rises ns (x ∷ xs) h = by (is_among x xs) refl (λ ms k. count_rises ms xs k)
  where
    by : (b : Bool) → is_among x xs ≡ b → ((ms : List (List ℕ)) → AllAmong ms xs → count_distinct xs ≤ count_distinct ms)
        → (if b then count_distinct xs else suc (count_distinct xs)) ≤ count_distinct ns
    by true e go = go ns (rest_among ns x xs h)
    by false e go = omega (arith, go (without x ns) (others_among ns x xs e (rest_among ns x xs h)), count_without x ns (first_among ns x xs h))

pub names_rise : (ns xs : List (List ℕ)) → Within ns xs → count_distinct xs ≤ count_distinct ns
unfolding AllAmong
names_rise ns xs h = count_rises ns xs (λ y k. contained_among ns y (h.name y (among_contained xs y k)))
