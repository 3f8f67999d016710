-- Lemmas on equations whose sides are built one after another.
use Rattle.std.proofs.{Common.{◌≡◌, ◌∙◌, ℕ, zero, suc, ◌+◌, List, [], ◌∷◌, ◌++◌, length, length-append, map, take, drop, refl, sym, ap, subst, arith}, lemmas.List.{map-append, take-map}}
use Rattle.std.specs.Prelude.{All}
use Rattle.calc_session.proofs.Shared.{take-append-drop, AllZip, All-cons, All-head, All-tail, Tree, Trees, none, more, append, fills, values, HasEntries, Table, entries-left, Equation, equation_at}
use Rattle.calc_session.proofs.Shared.{equations_in, free_of, Adds, AddsAll, adds_more, adds_none, adds_one, still_expression, still_plain, IsExpression, plain, Forest, tree_at, Stands, forest}
use Rattle.calc_session.proofs.Shared.{given_handed, given_root, given_told, expression_root, plain_root, EquationRange, Unmade, made, pieces_at, Reason, AreUnmade, Become, ReadsEquation, nothing}
use Rattle.calc_session.proofs.SideLemmas.{become_more, unmade_behind}
use Rattle.node_pool.specs.State.{State}
use Rattle.calc_session.specs.Solving.{at_left as unmade_left, at_right as unmade_right}

-- ---- lists side by side

zip_parts : {A B : Type 0} (R : A → B → Type 0) (n : ℕ) (xs : List A) (ys : List B) → AllZip R xs ys → AllZip R (take n xs) (take n ys) × AllZip R (drop n xs) (drop n ys)
zip_parts R zero xs ys h = (tt, h)
zip_parts R (suc n) [] [] h = (tt, tt)
zip_parts R (suc n) [] (y ∷ ys) h = absurd h
zip_parts R (suc n) (x ∷ xs) [] h = absurd h
zip_parts R (suc n) (x ∷ xs) (y ∷ ys) h = let (a, b) = zip_parts R n xs ys h.1 in ((h.0, a), b)

-- the last of the second list
pub record EndsWith {A B : Type 0} (R : A → B → Type 0) (xs : List A) (x : A) (ys : List B) : Type 0 where
  pub before : List B
  pub last : B
  pub whole : ys ≡ before ++ last ∷ []
  pub all : AllZip R xs before
  pub here : R x last

pub ends_with : {A B : Type 0} (R : A → B → Type 0) (xs : List A) (x : A) (ys : List B) → AllZip R (xs ++ x ∷ []) ys → EndsWith R xs x ys
ends_with R [] x [] h = absurd h
ends_with R [] x (y ∷ []) h = record { before = []; last = y; whole = refl; all = tt; here = h.0 }
ends_with R [] x (y ∷ z ∷ ys) h = absurd (h.1)
ends_with R (w ∷ xs) x [] h = absurd h
ends_with R (w ∷ xs) x (y ∷ ys) h = let e = ends_with R xs x ys h.1 in record { before = y ∷ e.before; last = e.last; whole = ap (λ zs. y ∷ zs) e.whole; all = (h.0, e.all); here = e.here }

-- ---- equations of roots

pub equations_push : (f : Forest) (ls rs : List ℕ) (i j : ℕ) → length rs ≡ length ls → equations_in f (ls ++ i ∷ []) (rs ++ j ∷ []) ≡ equations_in f ls rs ++ equation_at f i j ∷ []
equations_push f [] [] i j e = refl
equations_push f [] (r ∷ rs) i j e = absurd (omega (arith, e))
equations_push f (l ∷ ls) [] i j e = absurd (omega (arith, e))
equations_push f (l ∷ ls) (r ∷ rs) i j e = ap (λ es. equation_at f l r ∷ es) (equations_push f ls rs i j (omega (arith, e)))

pub equations_still : {s t : State} {ts : Trees} → AddsAll s t ts → (ls rs : List ℕ) → All (λ i. IsExpression i (forest s)) ls → All (λ i. IsExpression i (forest s)) rs → equations_in (forest t) ls rs ≡ equations_in (forest s) ls rs
equations_still b [] rs h k = refl
equations_still b (l ∷ ls) [] h k = refl
equations_still {s} {t} b (l ∷ ls) (r ∷ rs) h k =
    (λ i. record { left = still_plain b (All-head (λ i. IsExpression i (forest s)) l ls h) i; right = still_plain b (All-head (λ i. IsExpression i (forest s)) r rs k) i } ∷ equations_in (forest t) ls rs)
    ∙ ap (λ es. equation_at (forest s) l r ∷ es) (equations_still b ls rs (All-tail (λ i. IsExpression i (forest s)) l ls h) (All-tail (λ i. IsExpression i (forest s)) r rs k))

expressions_still : {s t : State} {ts : Trees} → AddsAll s t ts → (is : List ℕ) → All (λ i. IsExpression i (forest s)) is → All (λ i. IsExpression i (forest t)) is
expressions_still b is h k d l = still_expression b (h k d l)

all_push : (P : ℕ → Type 0) (is : List ℕ) (i : ℕ) → All P is → P i → All P (is ++ i ∷ [])
all_push P [] i h p = All-cons P i [] p h
all_push P (j ∷ is) i h p = All-cons P j (is ++ i ∷ []) (All-head P j is h) (all_push P is i (All-tail P j is h) p)

module _ {s t : State} {a : Tree} {i : ℕ} (g : Adds s t a i) where
  pub added_expression : IsExpression i (forest t)
  added_expression = expression_root g.stands (given_handed g.gives)

  pub added_tree : plain (tree_at i (forest t)) ≡ a
  added_tree = plain_root i g.stands (given_root g.gives) ∙ given_told g.gives

-- ---- the sides that were built so far

pub record AreBuilt (table : Table) (before : ℕ) (text : List ℕ) (rs : List EquationRange) (old : State) (n : ℕ) (now : State) (left right : List ℕ) : Type 0 where
  pub left_many : length left ≡ n
  pub right_many : length right ≡ n
  pub left_expressions : All (λ i. IsExpression i (forest now)) left
  pub right_expressions : All (λ i. IsExpression i (forest now)) right
  pub trees : Trees
  pub adds : AddsAll old now trees
  pub become : (es : List Equation) → AllZip ReadsEquation (map (pieces_at before text) (take n rs)) es → Become (values table (forest old)) (free_of old) es (free_of now) (equations_in (forest now) left right)

module _ {table : Table} {old : State} (st : Stands old) (entries : HasEntries table (forest old)) where
  -- the stored trees stand where they stood
  pub entries_there : {now : State} {ts : Trees} → AddsAll old now ts → HasEntries table (forest now)
  entries_there b = subst (HasEntries table) (sym b.whole) (entries-left table (forest old) b.made entries b.represents.whole).0

  pub values_there : {now : State} {ts : Trees} → AddsAll old now ts → values table (forest now) ≡ values table (forest old)
  values_there b = ap (values table) b.whole ∙ (entries-left table (forest old) b.made entries b.represents.whole).1

  module _ {before : ℕ} {text : List ℕ} {rs : List EquationRange} where
    pub built_none : AreBuilt table before text rs old 0 old [] []
    built_none = record {
      left_many = refl;
      right_many = refl;
      left_expressions = λ k d l. absurd (omega (arith, l));
      right_expressions = λ k d l. absurd (omega (arith, l));
      trees = none;
      adds = adds_none old st;
      become = none_become;
    }
      where
        none_become : (es : List Equation) → AllZip ReadsEquation [] es → Become (values table (forest old)) (free_of old) es (free_of old) []
        none_become [] h = nothing
        none_become (e ∷ es) h = absurd h

    module _ {n : ℕ} {now : State} {left right : List ℕ} (a : AreBuilt table before text rs old n now left right) (r : EquationRange) where
      -- one more equation
      pub built_more : {mid new : State} (i j : ℕ) (tl tr : Tree) → take (n + 1) rs ≡ take n rs ++ r ∷ [] → Adds now mid tl i → Adds mid new tr j
          → ((e : Equation) → ReadsEquation (pieces_at before text r) e → (made (free_of now) (values table (forest now)) e.left ≡ fills (free_of mid) tl) × (made (free_of mid) (values table (forest mid)) e.right ≡ fills (free_of new) tr))
          → AreBuilt table before text rs old (n + 1) new (left ++ i ∷ []) (right ++ j ∷ [])
      built_more {mid} {new} i j tl tr next p q both =
          let one : AddsAll mid new (more tr none) = adds_one p.stands q in
          let two : AddsAll now new (append (more tl none) (more tr none)) = adds_more (adds_one a.adds.stands p) q in
          let same : equations_in (forest new) (left ++ i ∷ []) (right ++ j ∷ []) ≡ equations_in (forest now) left right ++ record { left = tl; right = tr } ∷ []
          = equations_push (forest new) left right i j (a.right_many ∙ sym a.left_many)
          ∙ (λ k. equations_still two left right a.left_expressions a.right_expressions k ++ record { left = (still_plain one (added_expression p) ∙ added_tree p) k; right = added_tree q k } ∷ []) in
          record {
            left_many = omega (arith, length-append left (i ∷ []), a.left_many);
            right_many = omega (arith, length-append right (j ∷ []), a.right_many);
            left_expressions = all_push (λ k. IsExpression k (forest new)) left i (expressions_still two left a.left_expressions) (still_expression one (added_expression p));
            right_expressions = all_push (λ k. IsExpression k (forest new)) right j (expressions_still two right a.right_expressions) (added_expression q);
            trees = append (append a.trees (more tl none)) (more tr none);
            adds = adds_more (adds_more a.adds p) q;
            become = λ es h.
                let e = ends_with ReadsEquation (map (pieces_at before text) (take n rs)) (pieces_at before text r) es (subst (λ ps. AllZip ReadsEquation ps es) (ap (map (pieces_at before text)) next ∙ map-append (pieces_at before text) (take n rs) (r ∷ [])) h) in
                let (l, m) = both e.last e.here in
                subst (λ bs. Become (values table (forest old)) (free_of old) es (free_of new) bs) (sym same)
                (subst (λ xs. Become (values table (forest old)) (free_of old) xs (free_of new) (equations_in (forest now) left right ++ record { left = tl; right = tr } ∷ [])) (sym e.whole)
                (become_more (a.become e.before e.all) e.last (free_of mid) (free_of new) tl tr (subst (λ vs. made (free_of now) vs e.last.left ≡ fills (free_of mid) tl) (values_there a.adds) l)
                (subst (λ vs. made (free_of mid) vs e.last.right ≡ fills (free_of new) tr) (values_there (adds_more a.adds p)) m)));
          }

      -- a side that is not made
      parts : (es : List Equation) → AllZip ReadsEquation (map (pieces_at before text) rs) es → drop n (map (pieces_at before text) rs) ≡ pieces_at before text r ∷ drop (suc n) (map (pieces_at before text) rs)
          → (es0 : List Equation) × (e : Equation) × (rest : List Equation) × (es ≡ es0 ++ e ∷ rest) × AllZip ReadsEquation (take n (map (pieces_at before text) rs)) es0 × ReadsEquation (pieces_at before text r) e
      parts es h next =
          let (x, y) = zip_parts ReadsEquation n (map (pieces_at before text) rs) es h in
          by (drop n es) refl (subst (λ ps. AllZip ReadsEquation ps (drop n es)) next y) x
        where
          by : (fs : List Equation) → drop n es ≡ fs → AllZip ReadsEquation (pieces_at before text r ∷ drop (suc n) (map (pieces_at before text) rs)) fs → AllZip ReadsEquation (take n (map (pieces_at before text) rs)) (take n es)
              → (es0 : List Equation) × (e : Equation) × (rest : List Equation) × (es ≡ es0 ++ e ∷ rest) × AllZip ReadsEquation (take n (map (pieces_at before text) rs)) es0 × ReadsEquation (pieces_at before text r) e
          by [] d z x = absurd z
          by (e ∷ fs) d z x = (take n es, e, fs, sym (take-append-drop n es) ∙ ap (λ gs. take n es ++ gs) d, x, z.0)

      take_map : take n (map (pieces_at before text) rs) ≡ map (pieces_at before text) (take n rs)
      take_map = take-map (pieces_at before text) n rs

      pub unmade_at_left : (reason : Reason) (es : List Equation) → drop n (map (pieces_at before text) rs) ≡ pieces_at before text r ∷ drop (suc n) (map (pieces_at before text) rs) → AllZip ReadsEquation (map (pieces_at before text) rs) es
          → ((e : Equation) → ReadsEquation (pieces_at before text r) e → Unmade (made (free_of now) (values table (forest now)) e.left) reason) → AreUnmade (values table (forest old)) (free_of old) es reason
      unmade_at_left reason es next h u =
          let (es0, e, rest, whole, x, y) = parts es h next in
          subst (λ fs. AreUnmade (values table (forest old)) (free_of old) fs reason) (sym whole)
          (unmade_behind (a.become es0 (subst (λ ps. AllZip ReadsEquation ps es0) take_map x)) (unmade_left (subst (λ vs. Unmade (made (free_of now) vs e.left) reason) (values_there a.adds) (u e y))))

      pub unmade_at_right : {mid : State} (i : ℕ) (tl : Tree) (reason : Reason) (es : List Equation) → drop n (map (pieces_at before text) rs) ≡ pieces_at before text r ∷ drop (suc n) (map (pieces_at before text) rs) → AllZip ReadsEquation (map (pieces_at before text) rs) es
          → Adds now mid tl i → ((e : Equation) → ReadsEquation (pieces_at before text r) e → (made (free_of now) (values table (forest now)) e.left ≡ fills (free_of mid) tl) × Unmade (made (free_of mid) (values table (forest mid)) e.right) reason)
          → AreUnmade (values table (forest old)) (free_of old) es reason
      unmade_at_right {mid} i tl reason es next h p u =
          let (es0, e, rest, whole, x, y) = parts es h next in
          let (l, m) = u e y in
          subst (λ fs. AreUnmade (values table (forest old)) (free_of old) fs reason) (sym whole)
          (unmade_behind (a.become es0 (subst (λ ps. AllZip ReadsEquation ps es0) take_map x)) (unmade_right (subst (λ vs. made (free_of now) vs e.left ≡ fills (free_of mid) tl) (values_there a.adds) l) (subst (λ vs. Unmade (made (free_of mid) vs e.right) reason) (values_there (adds_more a.adds p)) m)))

-- one tree stands there
pub same_built : {s t : State} {a b : Tree} {i : ℕ} → Adds s t a i → Adds s t b i → a ≡ b
same_built p q = sym (added_tree p) ∙ added_tree q
