-- A fraction put among fractions that rise.
use Rattle.std.proofs.Common.{◌≡◌, ◌≢◌, ℕ, zero, suc, ◌<◌, ◌≤◌, List, [], ◌∷◌, ◌++◌, map, length, get_or, take, drop, insert, ℤ, pos, ◌*ℤ◌, refl, sym, ap, ◌∙◌, arith}
use Rattle.std.proofs.lemmas.{Cmp.{int_cmp_total}, List.{map-append}}
use Rattle.std.specs.Ordering.{int_cmp, ordering_reverse}
use Rattle.std.specs.declared.cmp.Ordering.TheVariants.{Less, Greater}
use Rattle.calc_terms.specs.Fractions.{Fraction, fraction_cmp, zero_fraction}
use Rattle.equation_roots.specs.Factorings.{AreRising}

pub rising_inserted : (q : Fraction) (xs : List Fraction) (at : ℕ) → AreRising xs → at ≤ length xs
    → ((k : ℕ) → at ≡ suc k → fraction_cmp q (get_or xs k zero_fraction) ≢ Less) → (at < length xs → fraction_cmp (get_or xs at zero_fraction) q ≢ Less) → AreRising (take at xs ++ q ∷ drop at xs)
rising_inserted q [] zero r h b a = tt
rising_inserted q [] (suc k) r h b a = absurd (omega (arith, h))
rising_inserted q (x ∷ xs) zero r h b a = (a (omega arith), r)
rising_inserted q (x ∷ []) (suc zero) r h b a = (b 0 refl, tt)
rising_inserted q (x ∷ []) (suc (suc k)) r h b a = absurd (omega (arith, h))
rising_inserted q (x ∷ y ∷ ys) (suc zero) r h b a = (b 0 refl, (a (omega arith), r.1))
rising_inserted q (x ∷ y ∷ ys) (suc (suc k)) r h b a =
    (r.0, rising_inserted q (y ∷ ys) (suc k) r.1 (omega (arith, h)) (λ j e. b (suc j) (ap suc e)) (λ l. a (omega arith)))

not_less : (a b : ℤ) → int_cmp a b ≡ Less → int_cmp b a ≢ Less
not_less a b h e = let x : Less ≡ Greater = sym h ∙ int_cmp_total.antisymm a b ∙ ap ordering_reverse e in cc

pub above_is_not_less : (p q : Fraction) → fraction_cmp p q ≡ Less → fraction_cmp q p ≢ Less
above_is_not_less p q h = not_less (p.num *ℤ pos q.den) (q.num *ℤ pos p.den) h

map_take : {A B : Type 0} (f : A → B) (n : ℕ) (xs : List A) → map f (take n xs) ≡ take n (map f xs)
map_take f zero xs = refl
map_take f (suc n) [] = refl
map_take f (suc n) (x ∷ xs) = ap (λ ys. f x ∷ ys) (map_take f n xs)

map_drop : {A B : Type 0} (f : A → B) (n : ℕ) (xs : List A) → map f (drop n xs) ≡ drop n (map f xs)
map_drop f zero xs = refl
map_drop f (suc n) [] = refl
map_drop f (suc n) (x ∷ xs) = map_drop f n xs

pub map_insert : {A B : Type 0} (f : A → B) (xs : List A) (at : ℕ) (x : A) → map f (insert xs at x) ≡ take at (map f xs) ++ f x ∷ drop at (map f xs)
map_insert f xs at x = map-append f (take at xs) (x ∷ drop at xs) ∙ (λ i. map_take f at xs i ++ f x ∷ map_drop f at xs i)
