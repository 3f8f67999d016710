-- Whole powers that are rewritten: by which rule, and what the trees for them count.
use Rattle.node_bounds.proofs.Shared.{rules, ◌≡◌, ℕ, ℤ, suc, ◌+◌, ◌≤◌, List, inl, inr, Bool, true, false, not, ◌&&◌, if◌then◌else◌, Some, refl, sym, ap, ◌∙◌, subst, arith, and_parts, true≢false}
use Rattle.node_bounds.proofs.Shared.{Assignment, is_number, is_reduced, is_whole_num, is_num_one, split_product, NoneIs, number_test, counted, SpansTree, SpansTrees, whole_fraction, Tree, num, mult}
use Rattle.node_bounds.proofs.Shared.{power, root, Trees, none, more, count, is_mult, is_num, reduced_parts, IsReducedProduct, IsReducedPower, IsCalmAtZero, KeepsRoom, IsRewritten, whole_power_count}
use Rattle.node_bounds.proofs.Shared.{power_count, AreReducedPowers, IsLifted, IsMultiplied, IsProductOfPowers, base_in, exponent_in, half, parts_of, raised, rewritten_whole, parts_counted}
use Rattle.node_bounds.proofs.Shared.{whole_power_counts, as_whole, whole_no_half, HasFactors, product_factors, chosen, parts_span, whole_is, children_of, IsCalm, AreCalm, zeros, counted_in_all}
use Rattle.node_bounds.proofs.Shared.{product_whole, whole_number, counts_one, numbers_and_others, power_counts, of_a_power, of_a_root, not-true, and_right, not_from_true, is_half_num, rewritten}
use Rattle.node_bounds.proofs.{Shared.{nothing}, Calm.{calm_base, calm_exponent, calm_product, calm_power, calm_whole, whole_kept, whole_of_number}, JointBytes.{product_base}}
use Rattle.node_bounds.proofs.JointRooms.{whole_numbers, whole_count_most}

-- ---- rules

-- an even power of a root, a power of a power that is not opaque, or a power of a product that is no Number
data IsByWay (b e t : Tree) : Type 0 where
  of_root : (a : Tree) (z : ℤ) → b ≡ root a → t ≡ power a (num (whole_fraction z)) → is_number (root a) ≡ false → IsByWay b e t
  of_power : (c f : Tree) → b ≡ power c f → t ≡ power c (mult (more f (more e none))) → IsByWay b e t
  of_product : (fs : Trees) → b ≡ mult fs → t ≡ mult (raised (parts_of fs) e) → is_number (mult fs) ≡ false → IsByWay b e t

by_whole : (b e t : Tree) → rewritten_whole b e ≡ Some t → IsByWay b e t
by_whole (root a) (num q) t h = chosen _ _ t (IsByWay (root a) (num q)) h (λ k. of_root a (half q.num) refl refl (not-true _ (and_parts _ _ k).1))
by_whole (power c f) e t h = chosen _ _ t (IsByWay (power c f) e) h (λ k. of_power c f refl refl)
by_whole (mult ts) e t h = chosen _ _ t (IsByWay (mult ts) e) h (λ k. of_product ts refl refl (not-true _ (and_parts _ _ k).1))
by_whole b e t h = nothing t (IsByWay b e) h

by_way : (b e t : Tree) → IsRewritten b e t → IsByWay b e t
by_way b e t w = by_whole b e t (sym (as_whole b e (whole_no_half e w.whole)) ∙ w.is)

pub whole_rewriting : (b e t : Tree) → rewritten_whole b e ≡ Some t → is_whole_num e ≡ true
whole_rewriting b e t h = grind (arith, chosen, and_parts, nothing)

pub is_rewritten : (b e t : Tree) → is_half_num e ≡ false → is_reduced b ≡ true → is_reduced e ≡ true → rewritten b e ≡ Some t → IsRewritten b e t
is_rewritten b e t n h k r = record { base = h; exponent = k; whole = whole_rewriting b e t (sym (as_whole b e n) ∙ r); is = r }

-- what holds by the rule for products holds where the tree is a product
pub by_product : (P : Tree → Tree → Type 0) (b e t : Tree) → is_mult t ≡ true → IsRewritten b e t
    → ((fs : Trees) → is_reduced (mult fs) ≡ true → is_number (mult fs) ≡ false → P (mult fs) (mult (raised (parts_of fs) e))) → P b t
by_product P b e t m w of = grind (arith, by_way)

-- and what holds by the other two where it is none
pub by_power : (P : Tree → Tree → Type 0) (b e t : Tree) → is_mult t ≡ false → IsRewritten b e t
    → ((a : Tree) (z : ℤ) → is_reduced (root a) ≡ true → is_number (root a) ≡ false → P (root a) (power a (num (whole_fraction z))))
    → ((c f : Tree) → is_reduced (power c f) ≡ true → P (power c f) (power c (mult (more f (more e none))))) → P b t
by_power P b e t m w root_case power_case = search (rules, by_way)

-- a whole power counts as its base does, and 1 more where that is a product
pub whole_count_is : (b e : Tree) → is_whole_num e ≡ true → power_count b e ≡ whole_power_count b
whole_count_is b e h = rw h refl

-- ---- even powers of roots

no_num : (a : Tree) → is_reduced (root a) ≡ true → is_number (root a) ≡ false → is_num a ≡ false
no_num a r n = elim (reduced_parts (root a) r refl).0 [ inl h ↦ absurd (true≢false (sym (number_test (root a) h) ∙ n)) | inr f ↦ f ]

pub root_counts : (a : Tree) → is_reduced (root a) ≡ true → is_number (root a) ≡ false → counted (root a) ≡ suc (counted a)
root_counts a r n = of_a_root a (no_num a r n)

even_root_room : (a e r : Tree) (z : ℤ) → is_reduced (root a) ≡ true → is_number (root a) ≡ false → is_whole_num e ≡ true
    → KeepsRoom (power_count a (num (whole_fraction z))) (power a (num (whole_fraction z))) r → KeepsRoom (power_count (root a) e) (power (root a) e) r
even_root_room a e r z h n w k = record {
  counts = λ ns c. omega (arith, k.counts ns (under ns c), whole_count_is a (num (whole_fraction z)) (whole_is z), whole_count_most a, whole_count_is (root a) e w, root_counts a h n);
  calm = λ ns c. k.calm ns (under ns c);
  spanned = λ gs ns c s. k.spanned gs ns (under ns c) (tt, s.1.1, tt);
}
  where
    under : (ns : List (List ℕ)) → IsCalmAtZero ns (power (root a) e) → IsCalmAtZero ns (power a (num (whole_fraction z)))
    under ns c = calm_power (record { once = c.once; calm = c.calm.1.1 }) (record { once = c.once; calm = tt }) (whole_number (zeros ns) (num (whole_fraction z)) (whole_is z))

-- ---- powers of powers

-- the product of the exponents is calm and spanned
pub exponents_calm : {ns : List (List ℕ)} (c f e : Tree) → is_whole_num e ≡ true → IsCalmAtZero ns (power (power c f) e) → IsCalmAtZero ns (mult (more f (more e none)))
exponents_calm c f e w k = record { once = k.once; calm = (tt, (k.calm.1.2, (k.calm.2, tt))) }

pub exponents_span : (gs : List ℕ) (c f e : Tree) → SpansTree gs (power (power c f) e) → SpansTree gs (mult (more f (more e none)))
exponents_span gs c f e s = (tt, (s.1.2, (s.2, tt)))

pub raised_calm : {ns : List (List ℕ)} (c f e g : Tree) → is_whole_num e ≡ true → IsCalmAtZero ns (power (power c f) e) → IsReducedProduct (more f (more e none)) g → IsCalmAtZero ns (power c g)
raised_calm c f e g w k a = grind (arith, product_whole, calm_base, calm_power, calm_whole, whole_kept, exponents_calm)

pub raised_whole : {ns : List (List ℕ)} (c f e g : Tree) → is_whole_num e ≡ true → IsCalmAtZero ns (power (power c f) e) → IsReducedProduct (more f (more e none)) g → is_whole_num f ≡ true
    → is_whole_num g ≡ true
raised_whole {ns} c f e g w k a h = whole_of_number (zeros ns) g k.once (a.number (rw (whole_numbers f h, whole_numbers e w) refl)) (calm_whole (raised_calm c f e g w k a))

-- under a whole exponent stands no product but a Number, and one under another counts for the exponent too
pub over_product : (c f : Tree) → is_reduced (power c f) ≡ true → whole_power_count c ≤ counted (power c f)
over_product c f r = grind (arith, and_parts, power_counts, product_base)

power_room : (c f e g r : Tree) → is_reduced (power c f) ≡ true → is_whole_num e ≡ true → IsReducedProduct (more f (more e none)) g → KeepsRoom (power_count c g) (power c g) r
    → KeepsRoom (power_count (power c f) e) (power (power c f) e) r
power_room c f e g r h w a k = record {
  counts = λ ns q. omega (arith, k.counts ns (raised_calm c f e g w q a), few ns q, whole_count_is (power c f) e w);
  calm = λ ns q. k.calm ns (raised_calm c f e g w q a);
  spanned = λ gs ns q s. k.spanned gs ns (raised_calm c f e g w q a) (tt, s.1.1, a.room.spanned gs ns (exponents_calm c f e w q) (exponents_span gs c f e s));
}
  where
    few : (ns : List (List ℕ)) → IsCalmAtZero ns (power (power c f) e) → power_count c g ≤ counted (power c f)
    few ns q = by (is_whole_num g)
      where
        by : (z : Bool) → (if z then whole_power_count c else counted (power c g)) ≤ counted (power c f)
        by true = over_product c f h
        by false = omega (arith, of_a_power c e f g w (raised_whole c f e g w q a) (a.room.counts ns (exponents_calm c f e w q)), whole_power_counts (power c f) e w)

-- ---- powers of products

-- no product that is no Number is a part
abbrev pub AreSingle : Trees → Type 0
AreSingle none = Unit {0}
AreSingle (more t ts) = ((is_mult t && not (is_number t)) ≡ false) × AreSingle ts

single_count : (g : Tree) → (is_mult g && not (is_number g)) ≡ false → whole_power_count g ≡ counted g
single_count g h = ap (λ (z : Bool). if z then 1 + counted g else counted g) h

no_products : (ts : Trees) → NoneIs is_mult ts → AreSingle ts
no_products none h = tt
no_products (more t ts) h = (ap (λ (z : Bool). z && not (is_number t)) h.0, no_products ts h.1)

number_single : (c : Tree) → is_number c ≡ true → (is_mult c && not (is_number c)) ≡ false
number_single c h = and_right (is_mult c) (not (is_number c)) (not_from_true (is_number c) h)

pub parts_single : (ts : Trees) → is_reduced (mult ts) ≡ true → is_number (mult ts) ≡ false → AreSingle (parts_of ts)
parts_single ts r n = by (is_num_one (split_product ts).coefficient)
  where
    f : HasFactors ts
    f = product_factors ts r n

    by : (z : Bool) → AreSingle (if z then (split_product ts).factors else more (split_product ts).coefficient (split_product ts).factors)
    by true = no_products (split_product ts).factors f.no_product
    by false = (number_single (split_product ts).coefficient f.number, no_products (split_product ts).factors f.no_product)

module _ (f : Assignment) where
  split_calm : (ts : Trees) → AreCalm f ts → IsCalm f (split_product ts).coefficient × AreCalm f (split_product ts).factors
  split_calm ts h = grind arith

  pub parts_calm : (ts : Trees) → AreCalm f ts → AreCalm f (parts_of ts)
  parts_calm ts h = grind (arith, split_calm)

-- what is known of the powers of these, once they are reduced
pub record AreRaised (gs us : Trees) (ns : List (List ℕ)) : Type 0 where
  pub counts : counted_in_all us ≤ counted_in_all gs
  pub calm : AreCalm (zeros ns) us
  pub spanned : (rs : List ℕ) → SpansTrees rs gs → SpansTrees rs us

pub powers_raised : (ns : List (List ℕ)) (gs : Trees) (e : Tree) (us : Trees) → is_whole_num e ≡ true → IsCalmAtZero ns e → AreCalm (zeros ns) gs → AreSingle gs
    → AreReducedPowers (raised gs e) us → AreRaised gs us ns
powers_raised ns none e none w k c s a = record { counts = omega arith; calm = tt; spanned = λ rs h. tt }
powers_raised ns none e (more u us) w k c s a = absurd a
powers_raised ns (more g gs) e none w k c s a = absurd a
powers_raised ns (more g gs) e (more u us) w k c s a =
    let rest = powers_raised ns gs e us w k c.1 s.1 a.1 in
    let here : IsCalmAtZero ns (power g e) = calm_power (record { once = k.once; calm = c.0 }) k (whole_number (zeros ns) e w) in
    record {
      counts = omega (arith, a.0.room.counts ns here, whole_count_is g e w, single_count g s.0, rest.counts);
      calm = ((a.0.room.calm ns here).calm, rest.calm);
      spanned = λ rs h. (a.0.room.spanned rs ns here (tt, h.0, exponent_spans rs e w), rest.spanned rs h.1);
    }
  where
    exponent_spans : (rs : List ℕ) (e : Tree) → is_whole_num e ≡ true → SpansTree rs e
    exponent_spans rs (num q) w = tt
    exponent_spans rs e w = cc

pub some_counted : (us : Trees) → 1 ≤ count us → 1 ≤ counted_in_all us
some_counted none l = absurd (omega arith)
some_counted (more u us) l = omega (arith, counts_one u)

product_room : (fs : Trees) (e : Tree) (us : Trees) (r : Tree) → is_reduced (mult fs) ≡ true → is_number (mult fs) ≡ false → is_whole_num e ≡ true
    → AreReducedPowers (raised (parts_of fs) e) us → 1 ≤ count us → IsReducedProduct us r
    → KeepsRoom (power_count (mult fs) e) (power (mult fs) e) r
product_room fs e us r h n w a m p = record {
  counts = λ ns c. omega (arith, p.room.counts ns (calm_product c.once (are ns c).calm), numbers_and_others us, some_counted us m, (are ns c).counts, parts_counted fs h n, whole_count_is (mult fs) e w, ap (λ (z : Bool). if not z then 1 + counted (mult fs) else counted (mult fs)) n);
  calm = λ ns c. p.room.calm ns (calm_product c.once (are ns c).calm);
  spanned = λ gs ns c s. p.room.spanned gs ns (calm_product c.once (are ns c).calm) (tt, (are ns c).spanned gs (parts_span gs fs s.1.1));
}
  where
    are : (ns : List (List ℕ)) → IsCalmAtZero ns (power (mult fs) e) → AreRaised (parts_of fs) us ns
    are ns c = powers_raised ns (parts_of fs) e us w (calm_exponent c) (parts_calm (zeros ns) fs c.calm.1.1) (parts_single fs h n) a

-- ---- what is answered for the tree

-- a product of powers
pub product_keeps : (t v r b e : Tree) → is_mult t ≡ true → 1 ≤ count (children_of v) → IsProductOfPowers (children_of t) v → IsReducedProduct (children_of v) r → IsRewritten b e t
    → KeepsRoom (power_count b e) (power b e) r
product_keeps t v r b e m l p a w =
    by_product (λ (x y : Tree). AreReducedPowers (children_of y) p.factors → KeepsRoom (power_count x e) (power x e) r) b e t m w
    (λ fs h n are. product_room fs e p.factors r h n w.whole are (omega (arith, ap (λ (x : Tree). count (children_of x)) p.is, l)) (subst (λ (x : Tree). IsReducedProduct (children_of x) r) p.is a)) p.are

-- a power whose exponent is lifted
lifted_power : (c f e v r : Tree) → is_reduced (power c f) ≡ true → is_whole_num e ≡ true → IsMultiplied c (more f (more e none)) v → IsReducedPower (base_in v) (exponent_in v) r
    → KeepsRoom (power_count (power c f) e) (power (power c f) e) r
lifted_power c f e v r h w l a =
    power_room c f e l.exponent r h w l.product (subst (λ (x : Tree). KeepsRoom (power_count (base_in x) (exponent_in x)) (power (base_in x) (exponent_in x)) r) l.is a.room)

pub power_keeps : (t v r b e : Tree) → is_mult t ≡ false → IsLifted t v → IsReducedPower (base_in v) (exponent_in v) r → IsRewritten b e t → KeepsRoom (power_count b e) (power b e) r
power_keeps t v r b e m l a w =
    by_power (λ (x y : Tree). IsLifted y v → KeepsRoom (power_count x e) (power x e) r) b e t m w
    (λ x z h n k. even_root_room x e r z h n w.whole (subst (λ (y : Tree). KeepsRoom (power_count (base_in y) (exponent_in y)) (power (base_in y) (exponent_in y)) r) k a.room))
    (λ c f h k. lifted_power c f e v r h w.whole k a) l
