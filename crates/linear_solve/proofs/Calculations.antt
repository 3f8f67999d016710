-- Calculations of which an operation may not fit.
use Rattle.linear_solve.proofs.Shared.{◌≡◌, ◌<◌, ◌≤◌, ℕ, zero, suc, ◌+◌, List, [], ◌∷◌, ◌++◌, length, take, drop, get_or, map, Result, Ok, Err, refl, sym, ap, ◌∙◌, arith, All, take_more, take_all}
use Rattle.linear_solve.proofs.Shared.{drop_more, take-append-drop, All-nil, All-cons, All-head, All-tail, All-same, Operation, result_of, Fraction, Misfit, and_then, fitted, each}

-- ---- one after another

pub both : {A B : Type 0} (r : Result A Misfit) (f : A → Result B Misfit) (y : B) → and_then r f ≡ Ok y → (x : A) × (r ≡ Ok x) × (f x ≡ Ok y)
both r f y e = grind arith

pub then_ok : {A B : Type 0} (r : Result A Misfit) (f : A → Result B Misfit) (x : A) → r ≡ Ok x → and_then r f ≡ f x
then_ok r f x e = ap (λ s. and_then s f) e

pub then_err : {A B : Type 0} (r : Result A Misfit) (f : A → Result B Misfit) (m : Misfit) → r ≡ Err m → and_then r f ≡ Err m
then_err r f m e = ap (λ s. and_then s f) e

pub ok_is : {A : Type 0} {E : Type 0} (x y : A) → ◌≡◌ {A = Result A E} (Ok x) (Ok y) → x ≡ y
ok_is x y e = cc

-- ---- one operation

pub fitted_is : (op : Operation) (a b r : Fraction) → fitted op a b ≡ Ok r → r ≡ result_of op a b
fitted_is op a b r e = grind arith

-- ---- each of a list

module _ {A B : Type 0} (f : A → Result B Misfit) where
  pub each_cons : (x : A) (xs : List A) (zs : List B) → each f (x ∷ xs) ≡ Ok zs → (y : B) × (ys : List B) × (f x ≡ Ok y) × (each f xs ≡ Ok ys) × (zs ≡ y ∷ ys)
  each_cons x xs zs e = grind arith

  pub each_push : (xs : List A) (ys : List B) (x : A) (y : B) → each f xs ≡ Ok ys → f x ≡ Ok y → each f (xs ++ x ∷ []) ≡ Ok (ys ++ y ∷ [])
  each_push [] ys x y e h =
      let n : [] ≡ ys = ok_is _ _ e in
      then_ok (f x) (λ y. Ok (y ∷ [])) y h ∙ ap (λ zs. Ok (zs ++ y ∷ [])) n
  each_push (z ∷ xs) ys x y e h =
      let (w, ws, p, q, n) = each_cons z xs ys e in
      then_ok (f z) (λ w. and_then (each f (xs ++ x ∷ [])) (λ ws. Ok (w ∷ ws))) w p
      ∙ then_ok (each f (xs ++ x ∷ [])) (λ ws. Ok (w ∷ ws)) (ws ++ y ∷ []) (each_push xs ws x y q h)
      ∙ ap (λ zs. Ok (zs ++ y ∷ [])) (sym n)

  pub each_broken : (xs : List A) (ys : List B) (x : A) (zs : List A) (m : Misfit) → each f xs ≡ Ok ys → f x ≡ Err m → each f (xs ++ x ∷ zs) ≡ Err m
  each_broken [] ys x zs m e h = then_err (f x) (λ y. and_then (each f zs) (λ ys. Ok (y ∷ ys))) m h
  each_broken (z ∷ xs) ys x zs m e h =
      let (w, ws, p, q, n) = each_cons z xs ys e in
      then_ok (f z) (λ w. and_then (each f (xs ++ x ∷ zs)) (λ ws. Ok (w ∷ ws))) w p
      ∙ then_err (each f (xs ++ x ∷ zs)) (λ ws. Ok (w ∷ ws)) m (each_broken xs ws x zs m q h)

  -- a loop: one more, the first that does not fit, and the end
  pub each_more : (xs : List A) (i : ℕ) (d : A) (ys : List B) (y : B) → i < length xs → each f (take i xs) ≡ Ok ys → f (get_or xs i d) ≡ Ok y → each f (take (i + 1) xs) ≡ Ok (ys ++ y ∷ [])
  each_more xs i d ys y l e h = ap (each f) (take_more xs i d l) ∙ each_push (take i xs) ys (get_or xs i d) y e h

  pub each_stops : (xs : List A) (i : ℕ) (d : A) (ys : List B) (m : Misfit) → i < length xs → each f (take i xs) ≡ Ok ys → f (get_or xs i d) ≡ Err m → each f xs ≡ Err m
  each_stops xs i d ys m l e h =
      ap (each f) (sym (take-append-drop i xs) ∙ ap (λ zs. take i xs ++ zs) (drop_more xs i d l))
      ∙ each_broken (take i xs) ys (get_or xs i d) (drop (i + 1) xs) m e h

  pub each_all : (xs : List A) (i : ℕ) (r : Result (List B) Misfit) → length xs ≤ i → each f (take i xs) ≡ r → each f xs ≡ r
  each_all xs i r l e = ap (each f) (sym (take_all i xs l)) ∙ e

  -- what was made of each
  pub each_long : (xs : List A) (ys : List B) → each f xs ≡ Ok ys → length ys ≡ length xs
  each_long [] ys e = ap length (sym (ok_is _ _ e))
  each_long (x ∷ xs) ys e =
      let (w, ws, p, q, n) = each_cons x xs ys e in
      ap length n ∙ ap suc (each_long xs ws q)

  pub each_at : (xs : List A) (ys : List B) (i : ℕ) (d : A) (g : B) → each f xs ≡ Ok ys → i < length xs → f (get_or xs i d) ≡ Ok (get_or ys i g)
  each_at [] ys i d g e l = absurd (omega arith)
  each_at (x ∷ xs) ys zero d g e l = let (w, ws, p, q, n) = each_cons x xs ys e in p ∙ ap (λ zs. Ok (get_or zs 0 g)) (sym n)
  each_at (x ∷ xs) ys (suc i) d g e l = let (w, ws, p, q, n) = each_cons x xs ys e in each_at xs ws i d g q (omega arith) ∙ ap (λ zs. Ok (get_or zs (suc i) g)) (sym n)

pub each_pure : {A B : Type 0} (g : A → B) (xs : List A) → each (λ x. Ok (g x)) xs ≡ Ok (map g xs)
each_pure g [] = refl
each_pure g (x ∷ xs) = then_ok (each (λ x. Ok (g x)) xs) (λ ys. Ok (g x ∷ ys)) (map g xs) (each_pure g xs)

-- what holds of each before, and of each after
pub each_forward : {A B : Type 0} (f : A → Result B Misfit) (Q : A → Type 0) (R : B → Type 0) → ((x : A) (y : B) → Q x → f x ≡ Ok y → R y) → (xs : List A) (ys : List B)
    → each f xs ≡ Ok ys → All Q xs → All R ys
each_forward f Q R h [] ys e q = All-same R ys [] (sym (ok_is _ _ e)) (All-nil R)
each_forward f Q R h (x ∷ xs) ys e q =
    let (w, ws, p, p', n) = each_cons f x xs ys e in
    All-same R ys (w ∷ ws) n (All-cons R w ws (h x w (All-head Q x xs q) p) (each_forward f Q R h xs ws p' (All-tail Q x xs q)))

pub each_back : {A B : Type 0} (f : A → Result B Misfit) (Q : A → Type 0) (R : B → Type 0) (S : A → Type 0) → ((x : A) (y : B) → S x → f x ≡ Ok y → R y → Q x)
    → (xs : List A) (ys : List B) → each f xs ≡ Ok ys → All S xs → All R ys → All Q xs
each_back f Q R S h [] ys e s r = All-nil Q
each_back f Q R S h (x ∷ xs) ys e s r =
    let (w, ws, p, p', n) = each_cons f x xs ys e in
    let r' : All R (w ∷ ws) = All-same R (w ∷ ws) ys (sym n) r in
    All-cons Q x xs (h x w (All-head S x xs s) p (All-head R w ws r')) (each_back f Q R S h xs ws p' (All-tail S x xs s) (All-tail R w ws r'))
