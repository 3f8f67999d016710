-- Rising names are told by what they contain.
use Rattle.linear_solve.proofs.Shared.{in_front, ◌≡◌, ◌∙◌, ℕ, suc, ◌≤◌, List, [], ◌∷◌, length, true, refl, sym, ap, subst, arith, Contains, AreDistinct, Equation, AreNamesOf, HoldOverSixNames, Rises}
use Rattle.linear_solve.proofs.{Shared.{is_before}, RisingLemmas.{none_in, before_chain, never_before_itself, rises_distinct}}
use Rattle.calc_terms.proofs.SmallLaws.{behind as later_on}

-- the first, or one of the others
data Among (y : List ℕ) (ys : List (List ℕ)) (x : List ℕ) : Type 0 where
  is_first : y ≡ x → Among y ys x
  is_later : Contains ys x → Among y ys x

among : (y : List ℕ) (ys : List (List ℕ)) (x : List ℕ) → Contains (y ∷ ys) x → Among y ys x
among y ys x h = grind arith

rises_over : (x y : List ℕ) (xs : List (List ℕ)) → Rises (x ∷ xs) → Contains xs y → is_before x y ≡ true
rises_over x y xs r (k, l, e) = subst (λ z. is_before x z ≡ true) e (r.0 k y l)

same_first : (x y : List ℕ) (xs ys : List (List ℕ)) → Rises (x ∷ xs) → Rises (y ∷ ys) → Among y ys x → Among x xs y → x ≡ y
same_first x y xs ys r s h b = grind (arith, never_before_itself, before_chain, rises_over)

-- what is among the others of one is among those of the other
same_others : (x y z : List ℕ) (xs ys : List (List ℕ)) → Rises (x ∷ xs) → x ≡ y → Contains xs z → Among y ys z → Contains ys z
same_others x y z xs ys r same c (is_first e) = absurd ((rises_distinct (x ∷ xs) r).0 (subst (Contains xs) (sym (same ∙ e)) c))
same_others x y z xs ys r same c (is_later d) = d

same_rising : (xs ys : List (List ℕ)) → Rises xs → Rises ys → ((z : List ℕ) → Contains xs z → Contains ys z) → ((z : List ℕ) → Contains ys z → Contains xs z) → xs ≡ ys
same_rising [] [] r s f g = refl
same_rising [] (y ∷ ys) r s f g = absurd (none_in y (g y (in_front y ys)))
same_rising (x ∷ xs) [] r s f g = absurd (none_in x (f x (in_front x xs)))
same_rising (x ∷ xs) (y ∷ ys) r s f g =
    let first : x ≡ y = same_first x y xs ys r s (among y ys x (f x (in_front x xs))) (among x xs y (g y (in_front y ys))) in
    let rest : xs ≡ ys
    = same_rising xs ys r.1 s.1 (λ z c. same_others x y z xs ys r first c (among y ys z (f z (later_on x z xs c)))) (λ z c. same_others y x z ys xs s (sym first) c (among x xs z (g z (later_on y z ys c)))) in
    (λ i. first i ∷ rest i)

pub names_once : {es : List Equation} {xs ys : List (List ℕ)} → AreNamesOf es xs → AreNamesOf es ys → xs ≡ ys
names_once {xs = xs} {ys = ys} a b = same_rising xs ys a.rising b.rising (λ z c. (b.all z).1 ((a.all z).0 c)) (λ z c. (a.all z).1 ((b.all z).0 c))

-- the others, without a name that is there
record Without (xs : List (List ℕ)) (x : List ℕ) : Type 0 where
  others : List (List ℕ)
  many : length xs ≡ suc (length others)
  kept : (y : List ℕ) → Contains xs y → (x ≡ y → ⊥) → Contains others y

kept_first : (z x : List ℕ) (xs : List (List ℕ)) → z ≡ x → (y : List ℕ) → Among z xs y → (x ≡ y → ⊥) → Contains xs y
kept_first z x xs e y h k = grind arith

kept_later : (z x : List ℕ) (xs : List (List ℕ)) (w : Without xs x) (y : List ℕ) → Among z xs y → (x ≡ y → ⊥) → Contains (z ∷ w.others) y
kept_later z x xs w y h k = grind (arith, in_front, later_on)

without_among : (z x : List ℕ) (xs : List (List ℕ)) → (Contains xs x → Without xs x) → Among z xs x → Without (z ∷ xs) x
without_among z x xs more (is_first e) = record { others = xs; many = refl; kept = λ y m k. kept_first z x xs e y (among z xs y m) k }
without_among z x xs more (is_later m) = let w = more m in record { others = z ∷ w.others; many = ap suc w.many; kept = λ y d k. kept_later z x xs w y (among z xs y d) k }

without : (xs : List (List ℕ)) (x : List ℕ) → Contains xs x → Without xs x
without [] x c = absurd (none_in x c)
without (z ∷ xs) x c = without_among z x xs (λ m. without xs x m) (among z xs x c)

no_more : (ys xs : List (List ℕ)) → AreDistinct ys → ((y : List ℕ) → Contains ys y → Contains xs y) → length ys ≤ length xs
no_more [] xs d h = omega arith
no_more (y ∷ ys) xs d h =
    let w = without xs y (h y (in_front y ys)) in
    let fewer = no_more ys w.others d.1 (λ z c. w.kept z (h z (later_on y z ys c)) (λ e. d.0 (subst (Contains ys) (sym e) c))) in
    omega (arith, fewer, w.many)

pub over_six : {es : List Equation} {xs : List (List ℕ)} → AreNamesOf es xs → length xs ≤ 6 → HoldOverSixNames es → ⊥
over_six {xs = xs} a few h =
    let l = no_more h.some xs h.distinct (λ y c. (a.all y).1 (h.held y c)) in
    omega (arith, few, h.many, l)
