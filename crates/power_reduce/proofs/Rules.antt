-- The rewritings of a power keep meanings and have no new names.
use Rattle.std.proofs.Common.{◌≡◌, ℕ, ℤ, ◌+ℤ◌, List, ◌++◌, [], Bool, true, false, if◌then◌else◌, ◌⊎◌, inl, inr, Some, None, refl, sym, ap, ◌∙◌, subst, arith, append_assoc, append-nil}
use Rattle.power_reduce.proofs.Shared.{and_parts, eqb-true, Contains-append_left, Contains-append_right, Contains-append_cases, Fraction, whole_fraction, int_is_even, is_half_num, is_num_one}
use Rattle.power_reduce.proofs.Shared.{is_whole_num, split_product, num_one, Tree, num, mult, power, root, Trees, none, more, names, names_of, is_undef, one_is, KeepsMeanings-trans}
use Rattle.power_reduce.proofs.Shared.{KeepsMeanings-refl, KeepsMeanings-eq, KeepsMeanings-power, one_factor_of_product, fraction_whole, split_keeps, powers, power_of_power, power_of_product}
use Rattle.power_reduce.proofs.{Shared.{half_power, Rewrites, HasNoNewName, keeps, is_even_whole, half, raised, parts_of, rewritten, rewritten_whole}, Exponents.{inside_whole, whole_exponent}}
use Rattle.std.specs.List.{Contains}
use Rattle.calc_algebra.proofs.PowerRewrites.{power_of_root}
use Rattle.power_reduce.specs.PowerSteps.{power_of_root as root_power}
use Rattle.calc_algebra.proofs.MeaningRewrites as rewrites

-- ---- even powers of roots

halves : (z : ℤ) → int_is_even z ≡ true → z ≡ half z +ℤ half z
halves z h = grind arith

even_root : (a : Tree) (q : Fraction) → is_even_whole q ≡ true → Rewrites (power (root a) (num q)) (power a (num (whole_fraction (half q.num))))
even_root a q h =
    let (whole_even, nonzero) = and_parts _ _ h in
    let (whole, even) = and_parts _ _ whole_even in record {
      no_new_name = record { name = λ x c. c };
      meanings = keeps (KeepsMeanings-trans (KeepsMeanings-eq (ap (λ p. power (root a) (num p)) (fraction_whole q (eqb-true q.den 1 whole)))) (power_of_root a q.num (half q.num) (halves q.num even)));
    }

-- ---- powers of powers

nested_means : (c f e : Tree) → is_whole_num e ≡ true → rewrites.KeepsMeanings (power (power c f) e) (power c (mult (more f (more e none))))
nested_means c f e w = let n = whole_exponent e w in subst (λ (x : Tree). rewrites.KeepsMeanings (power (power c f) x) (power c (mult (more f (more x none))))) (sym n.is) (power_of_power c f n.exponent)

nested : (c f e : Tree) → is_whole_num e ≡ true → Rewrites (power (power c f) e) (power c (mult (more f (more e none))))
nested c f e w = record {
  no_new_name = record { name = λ x k. subst (λ l. Contains l x) (moved (names c) (names f) (names e)) k };
  meanings = keeps (nested_means c f e w);
}
  where
    moved : (a b d : List (List ℕ)) → a ++ (b ++ (d ++ [])) ≡ (a ++ b) ++ d
    moved a b d = ap (λ l. a ++ (b ++ l)) (append-nil d) ∙ sym (append_assoc a b d)

-- ---- powers of products

raised_powers : (ts : Trees) (e : Tree) → powers ts e ≡ raised ts e
raised_powers none e = refl
raised_powers (more t ts) e = ap (more (power t e)) (raised_powers ts e)

one_is_written : (c : Tree) → is_num_one c ≡ true → c ≡ num_one
one_is_written c h = grind (arith, one_is)

-- a coefficient 1 goes
without_one : (c : Tree) (ts : Trees) → rewrites.KeepsMeanings (mult (more c ts)) (mult (if is_num_one c then ts else more c ts))
without_one c ts = grind (arith, KeepsMeanings-eq, one_is_written, one_factor_of_product, KeepsMeanings-refl)

whole_powers : (ts : Trees) (e : Tree) → is_whole_num e ≡ true → rewrites.KeepsMeanings (power (mult ts) e) (mult (powers ts e))
whole_powers ts e w = let n = whole_exponent e w in subst (λ (x : Tree). rewrites.KeepsMeanings (power (mult ts) x) (mult (powers ts x))) (sym n.is) (power_of_product ts n.exponent)

product_power : (ts : Trees) (e : Tree) → is_whole_num e ≡ true → rewrites.KeepsMeanings (power (mult ts) e) (mult (raised (parts_of ts) e))
product_power ts e w =
    KeepsMeanings-trans (KeepsMeanings-power (KeepsMeanings-trans (split_keeps ts) (without_one (split_product ts).coefficient (split_product ts).factors)) (KeepsMeanings-refl e))
    (KeepsMeanings-trans (whole_powers (parts_of ts) e w) (KeepsMeanings-eq (ap mult (raised_powers (parts_of ts) e))))

-- a coefficient and the factors behind it have the names of the product
split_names : (ts : Trees) → names (split_product ts).coefficient ++ names_of (split_product ts).factors ≡ names_of ts
split_names ts = grind arith

factor_names : (ts : Trees) (x : List ℕ) → Contains (names_of (parts_of ts)) x → Contains (names_of ts) x
factor_names ts x = grind (arith, split_names)

names_joined : (t : Tree) (ts : Trees) (e : Tree) (x : List ℕ) → Contains (names t) x ⊎ Contains (names e) x → Contains (names t ++ names_of ts) x ⊎ Contains (names e) x
names_joined t ts e x h = grind (arith, Contains-append_left)

names_behind : (t : Tree) (ts : Trees) (e : Tree) (x : List ℕ) → Contains (names_of ts) x ⊎ Contains (names e) x → Contains (names t ++ names_of ts) x ⊎ Contains (names e) x
names_behind t ts e x h = grind (arith, Contains-append_right)

raised_names : (ts : Trees) (e : Tree) (x : List ℕ) → Contains (names_of (raised ts e)) x → Contains (names_of ts) x ⊎ Contains (names e) x
raised_names none e x k = inl k
raised_names (more t ts) e x k =
    elim (Contains-append_cases (names t ++ names e) (names_of (raised ts e)) x k) [
      | inl h ↦ names_joined t ts e x (Contains-append_cases (names t) (names e) x h)
      | inr h ↦ names_behind t ts e x (raised_names ts e x h)
    ]

product_names : (ts : Trees) (e : Tree) → HasNoNewName (power (mult ts) e) (mult (raised (parts_of ts) e))
product_names ts e = record { name = λ x k. by x (raised_names (parts_of ts) e x k) }
  where
    by : (x : List ℕ) → Contains (names_of (parts_of ts)) x ⊎ Contains (names e) x → Contains (names_of ts ++ names e) x
    by x (inl h) = Contains-append_left (names_of ts) (names e) x (factor_names ts x h)
    by x (inr h) = Contains-append_right (names_of ts) (names e) x h

powered : (ts : Trees) (e : Tree) → is_whole_num e ≡ true → Rewrites (power (mult ts) e) (mult (raised (parts_of ts) e))
powered ts e w = record { no_new_name = product_names ts e; meanings = keeps (product_power ts e w) }

-- ---- powers of roots

rooted : (b e : Tree) → is_half_num e ≡ true → Rewrites (power b e) (root_power b e)
rooted b (num q) h = record { no_new_name = record { name = λ x k. k }; meanings = keeps (half_power b q (eqb-true q.den 2 h)) }
rooted b e h = absurd cc

-- ---- all rewritings

-- what an outcome holds where the test is passed
pub chosen : (b : Bool) (u t : Tree) (P : Tree → Type 0) → (if b then Some u else None) ≡ Some t → (b ≡ true → P u) → P t
chosen b u t P e h = grind arith

pub nothing : (t : Tree) (P : Tree → Type 0) → None ≡ Some t → P t
nothing t P e = grind arith

whole_rewriting : (b e t : Tree) → rewritten_whole b e ≡ Some t → Rewrites (power b e) t
whole_rewriting (root a) (num q) t h = chosen _ _ t (Rewrites (power (root a) (num q))) h (λ k. even_root a q (and_parts _ _ k).0)
whole_rewriting (power c f) e t h = chosen _ _ t (Rewrites (power (power c f) e)) h (λ k. nested c f e (inside_whole e (and_parts _ _ k).0))
whole_rewriting (mult ts) e t h = chosen _ _ t (Rewrites (power (mult ts) e)) h (λ k. powered ts e (inside_whole e (and_parts _ _ k).0))
whole_rewriting b e t h = nothing t (Rewrites (power b e)) h

half_rewriting : (u : Bool) (b e t : Tree) → is_half_num e ≡ true → (if u then None else Some (root_power b e)) ≡ Some t → Rewrites (power b e) t
half_rewriting true b e t h k = nothing t (Rewrites (power b e)) k
half_rewriting false b e t h k = chosen true _ t (Rewrites (power b e)) k (λ x. rooted b e h)

pub rewriting : (b e t : Tree) → rewritten b e ≡ Some t → Rewrites (power b e) t
rewriting b e t = by (is_half_num e) refl
  where
    by : (k : Bool) → is_half_num e ≡ k → (if k then (if is_undef b then None else Some (root_power b e)) else rewritten_whole b e) ≡ Some t → Rewrites (power b e) t
    by true h r = half_rewriting (is_undef b) b e t h r
    by false h r = whole_rewriting b e t r
