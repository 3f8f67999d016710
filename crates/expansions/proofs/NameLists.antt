-- Lists of rising names.
use Rattle.expansions.proofs.Shared.{◌≡◌, ◌≤◌, ◌<◌, ℕ, zero, suc, List, [], ◌∷◌, ◌++◌, length, get_or, take, drop, inl, inr, Bool, true, false, refl, sym, ap, ◌∙◌, subst, arith, Contains, ◌==◌}
use Rattle.expansions.proofs.Shared.{length-map, drop-cons, insert, not, name_of, before_zero, Name, bytes_eq, bytes_eq-Decides, Ordering, Less, Equal, ordering_index, nat_cmp, nat_list_cmp_total}
use Rattle.expansions.proofs.Shared.{slice_cmp, symbol, tree_cmp_same, IsBelowAll, IsNamed, Monomial, AreNames, AreNamesBelow, IsBelowNames, StartNamesFrom, HasName, take-suc, drop_all, take_all}
use Rattle.expansions.proofs.{Shared.{take-append-drop, map-append}, FactorOrders.{one_name}, TreeMonomials.{names_turned}, ValueLaws.{names_equal}}
use Rattle.expansions.specs.Named.{names_of}

-- ---- lists

pub dropped : {A : Type 0} (xs : List A) (i : ℕ) (y : A) → i < length xs → y ≡ get_or xs i y → drop i xs ≡ y ∷ drop (suc i) xs
dropped xs i y l e = drop-cons xs i y l ∙ ap (λ z. z ∷ drop (suc i) xs) (sym e)

pub taken : {A : Type 0} (xs : List A) (i : ℕ) (y : A) → i < length xs → y ≡ get_or xs i y → take (suc i) xs ≡ take i xs ++ y ∷ []
taken xs i y l e = take-suc xs i y l ∙ ap (λ z. take i xs ++ z ∷ []) (sym e)

pub dropped_all : {A : Type 0} (xs : List A) (i : ℕ) → length xs ≤ i → drop i xs ≡ []
dropped_all xs i l = drop_all i xs l

pub taken_all : {A : Type 0} (xs : List A) (i : ℕ) → length xs ≤ i → take i xs ≡ xs
taken_all xs i l = take_all i xs l

inserted_is : {A : Type 0} (xs : List A) (n : ℕ) (t : A) → n ≤ length xs → insert xs n t ≡ take n xs ++ t ∷ drop n xs
inserted_is [] zero t l = refl
inserted_is [] (suc n) t l = absurd (omega arith)
inserted_is (x ∷ xs) zero t l = refl
inserted_is (x ∷ xs) (suc n) t l = ap (λ zs. x ∷ zs) (inserted_is xs n t (omega arith))

-- ---- names

names_append : (xs ys : List Name) → names_of (xs ++ ys) ≡ names_of xs ++ names_of ys
names_append xs ys = map-append name_of xs ys

pub names_length : (xs : List Name) → length (names_of xs) ≡ length xs
names_length xs = length-map xs name_of

has_more : (x y : List ℕ) (xs ys : List (List ℕ)) → HasName x (xs ++ ys) → HasName x (xs ++ y ∷ ys)
has_more x y [] ys h = inr h
has_more x y (z ∷ xs) ys (inl e) = inl e
has_more x y (z ∷ xs) ys (inr h) = inr (has_more x y xs ys h)

has_this : (y : List ℕ) (xs ys : List (List ℕ)) → HasName y (xs ++ y ∷ ys)
has_this y [] ys = inl refl
has_this y (z ∷ xs) ys = inr (has_this y xs ys)

below_all_names : (x y : List ℕ) (ns : List (List ℕ)) → slice_cmp nat_cmp x y ≡ Less → IsBelowNames y ns → IsBelowNames x ns
below_all_names x y [] l h = tt
below_all_names x y (z ∷ ns) l h = (nat_list_cmp_total.trans x y z l h.0, below_all_names x y ns l h.1)

below_put : (y x : List ℕ) (xs ys : List (List ℕ)) → IsBelowNames y (xs ++ ys) → slice_cmp nat_cmp y x ≡ Less → IsBelowNames y (xs ++ x ∷ ys)
below_put y x [] ys h l = (l, h)
below_put y x (z ∷ xs) ys h l = (h.0, below_put y x xs ys h.1 l)

names_put : (x : List ℕ) (xs ys : List (List ℕ)) → AreNames (xs ++ ys) → AreNamesBelow x xs → IsBelowNames x ys → AreNames (xs ++ x ∷ ys)
names_put x [] ys h b a = (a, h)
names_put x (y ∷ xs) ys h b a = (below_put y x xs ys h.0 b.0, names_put x xs ys h.1 b.1 a)

names_end : (xs ys : List (List ℕ)) → AreNames (xs ++ ys) → AreNames ys
names_end [] ys h = h
names_end (x ∷ xs) ys h = names_end xs ys h.1

start_below : (x : List ℕ) (ys : List (List ℕ)) → AreNames ys → StartNamesFrom x ys → (HasName x ys → ⊥) → IsBelowNames x ys
start_below x [] h s n = tt
start_below x (y ∷ ys) h s n = grind (arith, names_equal, names_turned, below_all_names)

-- one more name at its place
module _ (xs : List Name) (n : ℕ) (t : Name) (zs : List Name) (l : n ≤ length xs) (e : zs ≡ insert xs n t) where
  split : names_of zs ≡ names_of (take n xs) ++ name_of t ∷ names_of (drop n xs)
  split = ap names_of (e ∙ inserted_is xs n t l) ∙ names_append (take n xs) (t ∷ drop n xs)

  whole : names_of (take n xs) ++ names_of (drop n xs) ≡ names_of xs
  whole = sym (names_append (take n xs) (drop n xs)) ∙ ap names_of (take-append-drop n xs)

  pub insert_names : AreNames (names_of xs) → AreNamesBelow (name_of t) (names_of (take n xs)) → StartNamesFrom (name_of t) (names_of (drop n xs)) → (HasName (name_of t) (names_of xs) → ⊥)
      → AreNames (names_of zs)
  insert_names h b s o =
      let k : AreNames (names_of (take n xs) ++ names_of (drop n xs)) = subst AreNames (sym whole) h in
      subst AreNames (sym split)
      (names_put (name_of t) (names_of (take n xs)) (names_of (drop n xs)) k b
      (start_below (name_of t) (names_of (drop n xs)) (names_end (names_of (take n xs)) (names_of (drop n xs)) k) s (λ g. o (subst (HasName (name_of t)) whole (behind (names_of (take n xs)) g)))))
    where
      behind : (ys : List (List ℕ)) → HasName (name_of t) (names_of (drop n xs)) → HasName (name_of t) (ys ++ names_of (drop n xs))
      behind [] g = g
      behind (y ∷ ys) g = inr (behind ys g)

  pub insert_there : HasName (name_of t) (names_of zs)
  insert_there = subst (HasName (name_of t)) (sym split) (has_this (name_of t) (names_of (take n xs)) (names_of (drop n xs)))

  pub insert_kept : (x : List ℕ) → HasName x (names_of xs) → HasName x (names_of zs)
  insert_kept x h = subst (HasName x) (sym split) (has_more x (name_of t) (names_of (take n xs)) (names_of (drop n xs)) (subst (HasName x) (sym whole) h))

pub below_push : (x : List ℕ) (xs : List Name) (y : Name) → AreNamesBelow x (names_of xs) → slice_cmp nat_cmp (name_of y) x ≡ Less → AreNamesBelow x (names_of (xs ++ y ∷ []))
below_push x [] y h l = (l, tt)
below_push x (z ∷ xs) y h l = (h.0, below_push x xs y h.1 l)

pub has_at : (xs : List Name) (i : ℕ) (y : Name) (x : List ℕ) → i < length xs → y ≡ get_or xs i y → name_of y ≡ x → HasName x (names_of xs)
has_at [] i y x l e n = absurd (omega arith)
has_at (z ∷ xs) zero y x l e n = inl (ap name_of (sym e) ∙ n)
has_at (z ∷ xs) (suc i) y x l e n = inr (has_at xs i y x (omega arith) e n)

-- ---- against std's word

pub has_contained : (ns : List (List ℕ)) (x : List ℕ) → Contains ns x → HasName x ns
has_contained [] x (k, l, e) = absurd (omega arith)
has_contained (y ∷ ys) x (zero, l, e) = inl e
has_contained (y ∷ ys) x (suc k, l, e) = inr (has_contained ys x (k, omega arith, e))

pub contained_has : (ns : List (List ℕ)) (x : List ℕ) → HasName x ns → Contains ns x
contained_has [] x h = absurd h
contained_has (y ∷ ys) x (inl e) = (zero, omega arith, e)
contained_has (y ∷ ys) x (inr h) = let (j, l, g) = contained_has ys x h in (suc j, omega arith, g)

-- ---- the names of a monomial's factors

abbrev pub AllHaveNames : List (List ℕ) → Monomial → Type 0
AllHaveNames ns [] = Unit {0}
AllHaveNames ns (f ∷ m) = HasName f.name ns × AllHaveNames ns m

pub all_have : (ns : List (List ℕ)) (m : Monomial) → IsNamed ns m → AllHaveNames ns m
all_have ns [] h = tt
all_have ns (f ∷ m) h = (has_contained ns f.name h.0, all_have ns m h.1)

pub below_has : (x y : List ℕ) (ns : List (List ℕ)) → IsBelowNames x ns → HasName y ns → slice_cmp nat_cmp x y ≡ Less
below_has x y [] b h = absurd h
below_has x y (z ∷ ns) b (inl e) = subst (λ (w : List ℕ). slice_cmp nat_cmp x w ≡ Less) e b.0
below_has x y (z ∷ ns) b (inr h) = below_has x y ns b.1 h

-- those above the first name have one of the others
pub later_names : (x : List ℕ) (ns : List (List ℕ)) (m : Monomial) → AllHaveNames (x ∷ ns) m → IsBelowAll x m → AllHaveNames ns m
later_names x ns [] h b = tt
later_names x ns (f ∷ m) (inl e, h) b = absurd (by (sym (tree_cmp_same (symbol x) (symbol x) refl) ∙ subst (λ (w : List ℕ). slice_cmp nat_cmp x w ≡ Less) (sym e) b.0))
  where
    by : Equal ≡ Less → ⊥
    by q = cc
later_names x ns (f ∷ m) (inr g, h) b = (g, later_names x ns m h b.1)

-- ---- names that are compared

pub name_same : (x y : Name) (b : Bool) → b ≡ bytes_eq x.text y.text → b ≡ true → name_of x ≡ name_of y
name_same x y b e h = ap before_zero ((bytes_eq-Decides x.text y.text).0 (sym e ∙ h))

pub not_first : (x y : Name) (b : Bool) (xs : List (List ℕ)) → b ≡ bytes_eq x.text y.text → b ≡ false → HasName (name_of y) (name_of x ∷ xs) → HasName (name_of y) xs
not_first x y b xs e h (inl q) = absurd (clash (bytes_eq x.text y.text) (sym e ∙ h) ((bytes_eq-Decides x.text y.text).1 (one_name x y q)))
  where
    clash : (a : Bool) → a ≡ false → a ≡ true → ⊥
    clash a k l = grind arith
not_first x y b xs e h (inr g) = g

pub is_less : (o : Ordering) (b : Bool) → b ≡ not (ordering_index o == 0) → b ≡ false → o ≡ Less
is_less o b e h = grind arith
