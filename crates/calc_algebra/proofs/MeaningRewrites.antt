-- Rewritings of sums and products that keep meanings: each meaning of the old tree is one of the new, under every assignment.
pub use Rattle.calc_algebra.specs.Rewritings.{KeepsMeanings}
use Rattle.calc_algebra.proofs.Shared.{◌≡◌, ℕ, zero, suc, ◌<◌, List, ◌∷◌, ◌++◌, length, refl, sym, arith, subst, append_assoc, append-nil, set, get_or, zero_fraction, one_fraction, []}
use Rattle.calc_algebra.proofs.Shared.{minus_one_fraction, Assignment, Means, Same, Surd, surd_of, surd_one, surd_scale, surd_times, Tree, num, undef, add, mult, power, root, neg, sub, div, Trees}
use Rattle.calc_algebra.proofs.{Shared.{none, more, append, IsPermutation, swap_is, IsPermutation-keeps}, InverseLaws.{Same-times_zero}, MeaningLaws.{one_meaning, Means-Same, Same-sym}}
use Rattle.calc_algebra.proofs.{SquareClassLaws.{Same-trans, Same-Agree}, SurdLaws.{Agree, Agree-sym, Agree-trans, Agree-eq, Agree-Same, surd_times-append, surd_times-surd_of, surd_times-surd_one}}
use Rattle.calc_algebra.proofs.{SurdLaws.{surd_times-one, surd_times_comm, surd_times_assoc}, TermLaws.{Same-refl, Same-eq, Same-append, Same-append_comm, Same-surd_times, zero_term}}

pub KeepsMeanings-refl : (t : Tree) → KeepsMeanings t t
KeepsMeanings-refl t = record { means = λ f once v m. m }

pub KeepsMeanings-eq : {t u : Tree} → t ≡ u → KeepsMeanings t u
KeepsMeanings-eq {t} {u} e = record { means = λ f once v m. subst (λ x. Means x f v) e m }

pub KeepsMeanings-trans : {t u x : Tree} → KeepsMeanings t u → KeepsMeanings u x → KeepsMeanings t x
KeepsMeanings-trans h k = record { means = λ f once v m. k.means f once v (h.means f once v m) }

abbrev pub two : Tree → Tree → Trees
two a b = more a (more b none)

-- ---- sums and products by their first child

pub sum_more : (f : Assignment) (t : Tree) (ts : Trees) (v a b : Surd) → Means t f a → Means (add ts) f b → Same v (a ++ b) → Means (add (more t ts)) f v
sum_more f t ts v a b m (w, n, k) e = (a ++ w, (a, w, m, n, refl), Same-trans e (Same-append (Same-refl a) k))

pub record Parts (node : Trees → Tree) (join : Surd → Surd → Surd) (t : Tree) (ts : Trees) (f : Assignment) (v : Surd) : Type 0 where
  pub first : Surd
  pub rest : Surd
  pub first_means : Means t f first
  pub rest_means : Means (node ts) f rest
  pub same : Same v (join first rest)

pub sum_parts : (f : Assignment) (t : Tree) (ts : Trees) (v : Surd) → Means (add (more t ts)) f v → Parts add (λ a b. a ++ b) t ts f v
sum_parts f t ts v (w, (a, b, m, n, e), k) = record { first = a; rest = b; first_means = m; rest_means = (b, n, Same-refl b); same = Same-trans k (Same-eq e) }

pub product_more : (f : Assignment) (t : Tree) (ts : Trees) (v a b : Surd) → Means t f a → Means (mult ts) f b → Same v (surd_times a b) → Means (mult (more t ts)) f v
product_more f t ts v a b m (w, n, k) e = (surd_times a w, (a, w, m, n, refl), Same-trans e (Same-surd_times (Same-refl a) k))

pub product_parts : (f : Assignment) (t : Tree) (ts : Trees) (v : Surd) → Means (mult (more t ts)) f v → Parts mult surd_times t ts f v
product_parts f t ts v (w, (a, b, m, n, e), k) = record { first = a; rest = b; first_means = m; rest_means = (b, n, Same-refl b); same = Same-trans k (Same-eq e) }

pub sum_none : (f : Assignment) (v : Surd) → Same v [] → Means (add none) f v
sum_none f v e = ([], refl, e)

pub none_sum : (f : Assignment) (v : Surd) → Means (add none) f v → Same v []
none_sum f v (w, n, e) = Same-trans e (Same-eq n)

pub product_none : (f : Assignment) (v : Surd) → Same v surd_one → Means (mult none) f v
product_none f v e = (surd_one, refl, e)

pub none_product : (f : Assignment) (v : Surd) → Means (mult none) f v → Same v surd_one
none_product f v (w, n, e) = Same-trans e (Same-eq n)

-- one child
pub sum_one : (f : Assignment) (t : Tree) (v : Surd) → Means t f v → Means (add (more t none)) f v
sum_one f t v m = sum_more f t none v v [] m (sum_none f [] (Same-refl [])) (Same-eq (sym (append-nil v)))

pub one_sum : (f : Assignment) (t : Tree) (v : Surd) → Means (add (more t none)) f v → Means t f v
one_sum f t v m = grind (arith, sum_parts, Means-Same, Same-sym, Same-trans, Same-append, Same-refl, none_sum, Same-eq, append-nil)

pub product_one : (f : Assignment) (t : Tree) (v : Surd) → Means t f v → Means (mult (more t none)) f v
product_one f t v m = product_more f t none v v surd_one m (product_none f surd_one (Same-refl surd_one)) (Agree-Same (Agree-sym (surd_times-one v)))

pub one_product : (f : Assignment) (t : Tree) (v : Surd) → Means (mult (more t none)) f v → Means t f v
one_product f t v m = grind (arith, product_parts, Means-Same, Same-sym, Same-trans, Same-surd_times, Same-refl, none_product, Agree-Same, surd_times-one)

-- two children
pub sum_two : (f : Assignment) (t u : Tree) (v a b : Surd) → Means t f a → Means u f b → Same v (a ++ b) → Means (add (two t u)) f v
sum_two f t u v a b m n e = sum_more f t (more u none) v a b m (sum_one f u b n) e

pub two_sum : (f : Assignment) (t u : Tree) (v : Surd) → Means (add (two t u)) f v → (a b : Surd) × Means t f a × Means u f b × Same v (a ++ b)
two_sum f t u v m = let p = sum_parts f t (more u none) v m in (p.first, p.rest, p.first_means, one_sum f u p.rest p.rest_means, p.same)

pub product_two : (f : Assignment) (t u : Tree) (v a b : Surd) → Means t f a → Means u f b → Same v (surd_times a b) → Means (mult (two t u)) f v
product_two f t u v a b m n e = product_more f t (more u none) v a b m (product_one f u b n) e

pub two_product : (f : Assignment) (t u : Tree) (v : Surd) → Means (mult (two t u)) f v → (a b : Surd) × Means t f a × Means u f b × Same v (surd_times a b)
two_product f t u v m = let p = product_parts f t (more u none) v m in (p.first, p.rest, p.first_means, one_product f u p.rest p.rest_means, p.same)

-- two lists of children
pub sum_append : (f : Assignment) (ts us : Trees) (v a b : Surd) → Means (add ts) f a → Means (add us) f b → Same v (a ++ b) → Means (add (append ts us)) f v
sum_append f none us v a b m n e = Means-Same (add us) f b v n (Same-sym (Same-trans e (Same-append {v' = []} (none_sum f a m) (Same-refl b))))
sum_append f (more t ts) us v a b m n e =
    let p = sum_parts f t ts a m in
    sum_more f t (append ts us) v p.first (p.rest ++ b) p.first_means (sum_append f ts us (p.rest ++ b) p.rest b p.rest_means n (Same-refl (p.rest ++ b)))
    (Same-trans e (Same-trans (Same-append p.same (Same-refl b)) (Same-eq (append_assoc p.first p.rest b))))

pub append_sum : (f : Assignment) (ts us : Trees) (v : Surd) → Means (add (append ts us)) f v → (a b : Surd) × Means (add ts) f a × Means (add us) f b × Same v (a ++ b)
append_sum f none us v m = ([], v, sum_none f [] (Same-refl []), m, Same-refl v)
append_sum f (more t ts) us v m =
    let p = sum_parts f t (append ts us) v m in
    let (a, b, x, y, e) = append_sum f ts us p.rest p.rest_means in
    (p.first ++ a, b, sum_more f t ts (p.first ++ a) p.first a p.first_means x (Same-refl (p.first ++ a)), y, Same-trans p.same (Same-trans (Same-append (Same-refl p.first) e) (Same-eq (sym (append_assoc p.first a b)))))

pub product_append : (f : Assignment) (ts us : Trees) (v a b : Surd) → Means (mult ts) f a → Means (mult us) f b → Same v (surd_times a b) → Means (mult (append ts us)) f v
product_append f none us v a b m n e = Means-Same (mult us) f b v n (Same-sym (Same-trans e (Same-trans (Same-surd_times (none_product f a m) (Same-refl b)) (Same-eq (surd_times-surd_one b)))))
product_append f (more t ts) us v a b m n e =
    let p = product_parts f t ts a m in
    product_more f t (append ts us) v p.first (surd_times p.rest b) p.first_means (product_append f ts us (surd_times p.rest b) p.rest b p.rest_means n (Same-refl (surd_times p.rest b)))
    (Same-trans e (Same-trans (Same-surd_times p.same (Same-refl b)) (Same-eq (surd_times_assoc p.first p.rest b))))

pub append_product : (f : Assignment) (ts us : Trees) (v : Surd) → Means (mult (append ts us)) f v → (a b : Surd) × Means (mult ts) f a × Means (mult us) f b × Same v (surd_times a b)
append_product f none us v m = (surd_one, v, product_none f surd_one (Same-refl surd_one), m, Same-eq (sym (surd_times-surd_one v)))
append_product f (more t ts) us v m =
    let p = product_parts f t (append ts us) v m in
    let (a, b, x, y, e) = append_product f ts us p.rest p.rest_means in
    (surd_times p.first a, b, product_more f t ts (surd_times p.first a) p.first a p.first_means x (Same-refl (surd_times p.first a)), y, Same-trans p.same (Same-trans (Same-surd_times (Same-refl p.first) e) (Same-eq (sym (surd_times_assoc p.first a b)))))

-- ---- a child in place of another

pub KeepsMeanings-sum_more : {t u : Tree} {ts us : Trees} → KeepsMeanings t u → KeepsMeanings (add ts) (add us) → KeepsMeanings (add (more t ts)) (add (more u us))
KeepsMeanings-sum_more {t} {u} {ts} {us} h k = record {
  means = λ f once v m.
      let p = sum_parts f t ts v m in
      sum_more f u us v p.first p.rest (h.means f once p.first p.first_means) (k.means f once p.rest p.rest_means) p.same;
}

pub KeepsMeanings-sum_append : {ts ts' us us' : Trees} → KeepsMeanings (add ts) (add ts') → KeepsMeanings (add us) (add us') → KeepsMeanings (add (append ts us)) (add (append ts' us'))
KeepsMeanings-sum_append {ts} {ts'} {us} {us'} h k = record {
  means = λ f once v m.
      let (a, b, x, y, e) = append_sum f ts us v m in
      sum_append f ts' us' v a b (h.means f once a x) (k.means f once b y) e;
}

pub KeepsMeanings-product_more : {t u : Tree} {ts us : Trees} → KeepsMeanings t u → KeepsMeanings (mult ts) (mult us) → KeepsMeanings (mult (more t ts)) (mult (more u us))
KeepsMeanings-product_more {t} {u} {ts} {us} h k = record {
  means = λ f once v m.
      let p = product_parts f t ts v m in
      product_more f u us v p.first p.rest (h.means f once p.first p.first_means) (k.means f once p.rest p.rest_means) p.same;
}

pub KeepsMeanings-product_append : {ts ts' us us' : Trees} → KeepsMeanings (mult ts) (mult ts') → KeepsMeanings (mult us) (mult us') → KeepsMeanings (mult (append ts us)) (mult (append ts' us'))
KeepsMeanings-product_append {ts} {ts'} {us} {us'} h k = record {
  means = λ f once v m.
      let (a, b, x, y, e) = append_product f ts us v m in
      product_append f ts' us' v a b (h.means f once a x) (k.means f once b y) e;
}

pub KeepsMeanings-neg : {a b : Tree} → KeepsMeanings a b → KeepsMeanings (neg a) (neg b)
KeepsMeanings-neg {a} {b} h = record { means = λ f once v m. (m.0, h.means f once m.0 m.1, m.2) }

pub KeepsMeanings-sub : {a a' b b' : Tree} → KeepsMeanings a a' → KeepsMeanings b b' → KeepsMeanings (sub a b) (sub a' b')
KeepsMeanings-sub {a} {a'} {b} {b'} h k = record { means = λ f once v m. (m.0, m.1, h.means f once m.0 m.2, k.means f once m.1 m.3, m.4) }

pub KeepsMeanings-div : {a a' b b' : Tree} → KeepsMeanings a a' → KeepsMeanings b b' → KeepsMeanings (div a b) (div a' b')
KeepsMeanings-div {a} {a'} {b} {b'} h k = record { means = λ f once v m. (m.0, m.1, m.2, h.means f once m.0 m.3, k.means f once m.1 m.4, m.5, m.6) }

pub KeepsMeanings-power : {b b' e e' : Tree} → KeepsMeanings b b' → KeepsMeanings e e' → KeepsMeanings (power b e) (power b' e')
KeepsMeanings-power {b} {b'} {e} {e'} h k = record { means = λ f once v m. (m.0, m.1, h.means f once m.0 m.2, k.means f once m.1 m.3, m.4) }

pub KeepsMeanings-root : {a b : Tree} → KeepsMeanings a b → KeepsMeanings (root a) (root b)
KeepsMeanings-root {a} {b} h = record { means = λ f once v m. (m.0, h.means f once m.0 m.1, m.2) }

-- ---- sums and products in sums and products

-- the children of a sum in a sum take its place
pub flat_sum : (ts us : Trees) → KeepsMeanings (add (more (add ts) us)) (add (append ts us))
flat_sum ts us = record {
  means = λ f once v m.
      let p = sum_parts f (add ts) us v m in
      sum_append f ts us v p.first p.rest p.first_means p.rest_means p.same;
}

-- and back
pub nested_sum : (ts us : Trees) → KeepsMeanings (add (append ts us)) (add (more (add ts) us))
nested_sum ts us = record {
  means = λ f once v m.
      let (a, b, x, y, e) = append_sum f ts us v m in
      sum_more f (add ts) us v a b x y e;
}

pub flat_product : (ts us : Trees) → KeepsMeanings (mult (more (mult ts) us)) (mult (append ts us))
flat_product ts us = record {
  means = λ f once v m.
      let p = product_parts f (mult ts) us v m in
      product_append f ts us v p.first p.rest p.first_means p.rest_means p.same;
}

pub nested_product : (ts us : Trees) → KeepsMeanings (mult (append ts us)) (mult (more (mult ts) us))
nested_product ts us = record {
  means = λ f once v m.
      let (a, b, x, y, e) = append_product f ts us v m in
      product_more f (mult ts) us v a b x y e;
}

-- ---- the order of children

pub swapped_sum : (t u : Tree) (ts : Trees) → KeepsMeanings (add (more t (more u ts))) (add (more u (more t ts)))
swapped_sum t u ts = KeepsMeanings-trans (nested_sum (two t u) ts) (KeepsMeanings-trans (KeepsMeanings-sum_more turned (KeepsMeanings-refl (add ts))) (flat_sum (two u t) ts))
  where
    turned : KeepsMeanings (add (two t u)) (add (two u t))
    turned = record { means = λ f once v m. let (a, b, x, y, e) = two_sum f t u v m in sum_two f u t v b a y x (Same-trans e (Same-append_comm a b)) }

pub swapped_product : (t u : Tree) (ts : Trees) → KeepsMeanings (mult (more t (more u ts))) (mult (more u (more t ts)))
swapped_product t u ts = KeepsMeanings-trans (nested_product (two t u) ts) (KeepsMeanings-trans (KeepsMeanings-product_more turned (KeepsMeanings-refl (mult ts))) (flat_product (two u t) ts))
  where
    turned : KeepsMeanings (mult (two t u)) (mult (two u t))
    turned = record { means = λ f once v m. let (a, b, x, y, e) = two_product f t u v m in product_two f u t v b a y x (Same-trans e (Agree-Same (surd_times_comm a b))) }

-- the same trees in another order, by exchanges of neighbours
pub data Permuted : Trees → Trees → Type 0 where
  permuted_none : Permuted none none
  permuted_more : {t : Tree} {ts us : Trees} → Permuted ts us → Permuted (more t ts) (more t us)
  permuted_swap : {t u : Tree} {ts : Trees} → Permuted (more t (more u ts)) (more u (more t ts))
  permuted_trans : {ts us vs : Trees} → Permuted ts us → Permuted us vs → Permuted ts vs

pub Permuted-refl : (ts : Trees) → Permuted ts ts
Permuted-refl none = permuted_none
Permuted-refl (more t ts) = permuted_more (Permuted-refl ts)

pub permuted_sum : {ts us : Trees} → Permuted ts us → KeepsMeanings (add ts) (add us)
permuted_sum permuted_none = KeepsMeanings-refl (add none)
permuted_sum (permuted_more {t} h) = KeepsMeanings-sum_more (KeepsMeanings-refl t) (permuted_sum h)
permuted_sum (permuted_swap {t} {u} {ts}) = swapped_sum t u ts
permuted_sum (permuted_trans h k) = KeepsMeanings-trans (permuted_sum h) (permuted_sum k)

pub permuted_product : {ts us : Trees} → Permuted ts us → KeepsMeanings (mult ts) (mult us)
permuted_product permuted_none = KeepsMeanings-refl (mult none)
permuted_product (permuted_more {t} h) = KeepsMeanings-product_more (KeepsMeanings-refl t) (permuted_product h)
permuted_product (permuted_swap {t} {u} {ts}) = swapped_product t u ts
permuted_product (permuted_trans h k) = KeepsMeanings-trans (permuted_product h) (permuted_product k)

pub Permuted-sym : {ts us : Trees} → Permuted ts us → Permuted us ts
Permuted-sym permuted_none = permuted_none
Permuted-sym (permuted_more h) = permuted_more (Permuted-sym h)
Permuted-sym permuted_swap = permuted_swap
Permuted-sym (permuted_trans h k) = permuted_trans (Permuted-sym k) (Permuted-sym h)

pub Permuted-append_right : (vs : Trees) {ts us : Trees} → Permuted ts us → Permuted (append vs ts) (append vs us)
Permuted-append_right none h = h
Permuted-append_right (more v vs) h = permuted_more (Permuted-append_right vs h)

-- a child goes to the front
pub Permuted-to_front : (ts : Trees) (t : Tree) (us : Trees) → Permuted (append ts (more t us)) (more t (append ts us))
Permuted-to_front none t us = Permuted-refl (more t us)
Permuted-to_front (more u ts) t us = permuted_trans (permuted_more (Permuted-to_front ts t us)) permuted_swap

-- ---- lists of std as lists of children

abbrev pub trees_of : List Tree → Trees
trees_of [] = none
trees_of (t ∷ ts) = more t (trees_of ts)

exchanged_first : (t : Tree) (ts : List Tree) (j : ℕ) (d : Tree) → j < length ts → Permuted (trees_of (t ∷ ts)) (trees_of (get_or ts j d ∷ set ts j t))
exchanged_first t [] j d h = absurd (omega arith)
exchanged_first t (u ∷ ts) zero d h = permuted_swap
exchanged_first t (u ∷ ts) (suc j) d h = permuted_trans permuted_swap (permuted_trans (permuted_more (exchanged_first t ts j d (omega arith))) permuted_swap)

exchanged : (ts : List Tree) (i j : ℕ) (d : Tree) → i < length ts → j < length ts → Permuted (trees_of ts) (trees_of (set (set ts i (get_or ts j d)) j (get_or ts i d)))
exchanged [] i j d h k = absurd (omega arith)
exchanged (t ∷ ts) zero zero d h k = Permuted-refl (more t (trees_of ts))
exchanged (t ∷ ts) zero (suc j) d h k = exchanged_first t ts j d (omega arith)
exchanged (t ∷ ts) (suc i) zero d h k = exchanged_first t ts i d (omega arith)
exchanged (t ∷ ts) (suc i) (suc j) d h k = permuted_more (exchanged ts i j d (omega arith) (omega arith))

-- what a sort gives
pub permuted_trees : (ts us : List Tree) → IsPermutation ts us → Permuted (trees_of ts) (trees_of us)
permuted_trees ts us h =
    IsPermutation-keeps ts (λ l. Permuted (trees_of ts) (trees_of l)) (Permuted-refl (trees_of ts))
    (λ l i j p q k. permuted_trans k (subst (λ x. Permuted (trees_of l) (trees_of x)) (swap_is l i j undef p q) (exchanged l i j undef p q))) us h

-- ---- no child, one child, and two that become one

pub empty_sum : KeepsMeanings (add none) (num zero_fraction)
empty_sum = record { means = λ f once v m. Same-trans (none_sum f v m) (Same-sym (zero_term 1)) }

pub single_sum : (t : Tree) → KeepsMeanings (add (more t none)) t
single_sum t = record { means = λ f once v m. one_sum f t v m }

pub empty_product : KeepsMeanings (mult none) (num one_fraction)
empty_product = record { means = λ f once v m. none_product f v m }

pub single_product : (t : Tree) → KeepsMeanings (mult (more t none)) t
single_product t = record { means = λ f once v m. one_product f t v m }

pub to_single_product : (t : Tree) → KeepsMeanings t (mult (more t none))
to_single_product t = record { means = λ f once v m. product_one f t v m }

-- the first two terms become one
pub joined_in_sum : (t u x : Tree) (ts : Trees) → KeepsMeanings (add (two t u)) x → KeepsMeanings (add (more t (more u ts))) (add (more x ts))
joined_in_sum t u x ts h = KeepsMeanings-trans (nested_sum (two t u) ts) (KeepsMeanings-sum_more h (KeepsMeanings-refl (add ts)))

-- the first two factors become one
pub joined_in_product : (t u x : Tree) (ts : Trees) → KeepsMeanings (mult (two t u)) x → KeepsMeanings (mult (more t (more u ts))) (mult (more x ts))
joined_in_product t u x ts h = KeepsMeanings-trans (nested_product (two t u) ts) (KeepsMeanings-product_more h (KeepsMeanings-refl (mult ts)))

-- ---- zero and one

-- a term that is zero goes
pub zero_term_of_sum : (ts : Trees) → KeepsMeanings (add (more (num zero_fraction) ts)) (add ts)
zero_term_of_sum ts = record {
  means = λ f once v m.
      let p = sum_parts f (num zero_fraction) ts v m in
      Means-Same (add ts) f p.rest v p.rest_means (Same-sym (Same-trans p.same (Same-append {v' = []} (Same-trans p.first_means (zero_term 1)) (Same-refl p.rest))));
}

pub zero_goes : (t : Tree) (ts : Trees) → KeepsMeanings t (num zero_fraction) → KeepsMeanings (add (more t ts)) (add ts)
zero_goes t ts h = KeepsMeanings-trans (KeepsMeanings-sum_more h (KeepsMeanings-refl (add ts))) (zero_term_of_sum ts)

-- a product with the factor zero is zero
pub zero_product : (ts : Trees) → KeepsMeanings (mult (more (num zero_fraction) ts)) (num zero_fraction)
zero_product ts = record {
  means = λ f once v m.
      let p = product_parts f (num zero_fraction) ts v m in
      Same-trans p.same (Same-trans (Same-surd_times {w' = p.rest} (Same-trans p.first_means (zero_term 1)) (Same-refl p.rest)) (Same-sym (zero_term 1)));
}

-- a factor 1 goes
pub one_factor_of_product : (ts : Trees) → KeepsMeanings (mult (more (num one_fraction) ts)) (mult ts)
one_factor_of_product ts = record {
  means = λ f once v m.
      let p = product_parts f (num one_fraction) ts v m in
      Means-Same (mult ts) f p.rest v p.rest_means (Same-sym (Same-trans p.same (Same-trans (Same-surd_times p.first_means (Same-refl p.rest)) (Same-eq (surd_times-surd_one p.rest)))));
}

-- a factor 1 comes
pub to_one_factor : (ts : Trees) → KeepsMeanings (mult ts) (mult (more (num one_fraction) ts))
to_one_factor ts = record { means = λ f once v m. product_more f (num one_fraction) ts v surd_one v (Same-refl surd_one) m (Same-eq (sym (surd_times-surd_one v))) }

-- t is 1 * t
pub one_times_tree : (t : Tree) → KeepsMeanings t (mult (two (num one_fraction) t))
one_times_tree t = KeepsMeanings-trans (to_single_product t) (to_one_factor (more t none))

-- ---- distribution

-- equal factors stand once: c * p + d * p is (c + d) * p
pub same_factors : (c d : Tree) (ps : Trees) → KeepsMeanings (add (two (mult (more c ps)) (mult (more d ps)))) (mult (more (add (two c d)) ps))
same_factors c d ps = record {
  means = λ f once v m.
      let (a, b, x, y, e) = two_sum f (mult (more c ps)) (mult (more d ps)) v m in
      let p = product_parts f c ps a x in
      let q = product_parts f d ps b y in
      let r : Surd = p.first ++ q.first in
      product_more f (add (two c d)) ps v r p.rest (sum_two f c d r p.first q.first p.first_means q.first_means (Same-refl r)) p.rest_means
      (Same-trans e (Same-trans (Same-append p.same (Same-trans q.same (Same-surd_times (Same-refl q.first) (Agree-Same (one_meaning f once (mult ps) q.rest p.rest q.rest_means p.rest_means))))) (Same-eq (sym (surd_times-append p.first q.first p.rest)))));
}

-- c * p + d * p is (c + d) * p, for one factor p
pub same_factor : (c d p : Tree) → KeepsMeanings (add (two (mult (two c p)) (mult (two d p)))) (mult (two (add (two c d)) p))
same_factor c d p = same_factors c d (more p none)

-- each term times c
abbrev pub multiples : Tree → Trees → Trees
multiples c none = none
multiples c (more t ts) = more (mult (two c t)) (multiples c ts)

distributed_in : (f : Assignment) (c : Tree) (ts : Trees) (v a b : Surd) → Means c f a → Means (add ts) f b → Same v (surd_times a b) → Means (add (multiples c ts)) f v
distributed_in f c none v a b m n e = sum_none f v (Same-trans e (Same-times_zero a b (none_sum f b n)))
distributed_in f c (more t ts) v a b m n e =
    let p = sum_parts f t ts b n in
    sum_more f (mult (two c t)) (multiples c ts) v (surd_times a p.first) (surd_times a p.rest) (product_two f c t (surd_times a p.first) a p.first m p.first_means (Same-refl (surd_times a p.first)))
    (distributed_in f c ts (surd_times a p.rest) a p.rest m p.rest_means (Same-refl (surd_times a p.rest)))
    (Same-trans e (Same-trans (Same-surd_times (Same-refl a) p.same) (Agree-Same (times_append a p.first p.rest))))
  where
    times_append : (a x y : Surd) → Agree (surd_times a (x ++ y)) (surd_times a x ++ surd_times a y)
    times_append a x y = Agree-trans (surd_times_comm a (x ++ y)) (Agree-trans (Agree-eq (surd_times-append x y a)) (Same-Agree (Same-append (Agree-Same (surd_times_comm x a)) (Agree-Same (surd_times_comm y a)))))

-- c * (t + .. ) is c * t + ..
pub distributed : (c : Tree) (ts : Trees) → KeepsMeanings (mult (two c (add ts))) (add (multiples c ts))
distributed c ts = record {
  means = λ f once v m.
      let (a, b, x, y, e) = two_product f c (add ts) v m in
      distributed_in f c ts v a b x y e;
}

-- ---- Neg and Sub as sums and products

-- -a is -1 * a
pub neg_as_product : (a : Tree) → KeepsMeanings (neg a) (mult (two (num minus_one_fraction) a))
neg_as_product a = record {
  means = λ f once v m.
      product_two f (num minus_one_fraction) a v (surd_of minus_one_fraction) m.0 (Same-refl (surd_of minus_one_fraction)) m.1
      (Same-trans m.2 (Agree-Same (Agree-sym (surd_times-surd_of minus_one_fraction m.0))));
}

-- a - b is a + -b
pub sub_as_neg : (a b : Tree) → KeepsMeanings (sub a b) (add (two a (neg b)))
sub_as_neg a b = record {
  means = λ f once v m.
      let n : Surd = surd_scale minus_one_fraction m.1 in
      sum_two f a (neg b) v m.0 n m.2 (m.1, m.3, Same-refl n) m.4;
}
