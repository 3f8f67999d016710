-- The weights and nests of the parts of a product.
use Rattle.power_reduce.proofs.Shared.{◌≡◌, ℕ, ◌+◌, ◌≤◌, ◌<◌, ◌⊎◌, inl, inr, true, false, refl, sym, subst, arith, nest, nest_of, load, weight, weight_of_factors, load_of_factor, load_of_factors}
use Rattle.power_reduce.proofs.Shared.{has_coefficient, is_number, IsNumber, is_reduced, is_num_one, NoneIs, HasForm, IsProductForm, Tree, mult, power, root, Trees, none, more, append, AllParts}
use Rattle.power_reduce.proofs.Shared.{AllPartsOf, is_mult, one_test, number_test, number_words, factors_of, leading_factors, product_form_of, no_split, AreFactors, one_is_one, reduced_parts}
use Rattle.power_reduce.proofs.{Shared.{parts_reduced, number_parts, Leads, in_front, IsCoefficient, EachTree, IsLighterPart, AreBoundedPowers, parts_of}, Bounds.{number_load}}

-- ---- weights

-- a factor weighs 2 at least
factor_weight : (t : Tree) → is_mult t ≡ false → 2 ≤ weight t
factor_weight t h = grind arith

pub number_weight : (t : Tree) → is_number t ≡ true → weight t ≡ 2
number_weight (root a) h = rw h refl
number_weight (mult ts) h = rw h refl
number_weight (power b e) h = absurd (number_words (power b e) h)
number_weight _ h = refl

-- the weights of trees together
pub weights : Trees → ℕ
weights none = 0
weights (more t ts) = weight t + weights ts

pub weights_none : weights none ≡ 0
unfolding weights
weights_none = refl

pub weights_more : (t : Tree) (ts : Trees) → weights (more t ts) ≡ weight t + weights ts
unfolding weights
weights_more t ts = refl

factor_weights : (ts : Trees) → NoneIs is_number ts → weight_of_factors ts ≡ weights ts
factor_weights none h = sym weights_none
factor_weights (more t ts) h = grind (arith, factor_weights ts h.1, weights_more)

-- ---- the parts of a product

-- trees that are parts of a product: how heavy and how nested they are
pub record ArePartsOf (ts gs : Trees) : Type 0 where
  pub are : parts_of ts ≡ gs
  pub formed : AllPartsOf HasForm gs
  pub heavy : EachTree (λ g. 2 ≤ weight g) gs
  pub weights-are : weights gs < weight (mult ts)
  pub nests : nest_of gs ≤ nest_of ts

each_heavy : (ts : Trees) → NoneIs is_mult ts → EachTree (λ g. 2 ≤ weight g) ts
each_heavy none h = tt
each_heavy (more t ts) h = (factor_weight t h.0, each_heavy ts h.1)

-- a product with no coefficient is its own parts
unled_parts : (ts : Trees) → AllPartsOf HasForm ts → IsProductForm ts → is_number (mult ts) ≡ false → has_coefficient ts ≡ false → ArePartsOf ts ts
unled_parts ts p f n h = grind (arith, no_split, one_is_one, each_heavy, factor_weights)

-- ---- products with a coefficient

no_one : (c : Tree) → IsCoefficient c → is_num_one c ≡ false
no_one c h = grind (arith, one_test)

-- the factors of a Number are Numbers
number_factors : (c : Tree) → IsNumber c → EachTree (λ t. is_number t ≡ true) (factors_of c)
number_factors c h = grind (arith, number_test)

weight_behind : (ts us : Trees) → EachTree (λ t. is_number t ≡ true) ts → weight_of_factors (append ts us) ≡ weight_of_factors us
weight_behind none us h = refl
weight_behind (more t ts) us h = grind (arith, weight_behind ts us h.1)

led_parts : (ts : Trees) (l : Leads ts) → AreFactors l.factors → is_number (mult ts) ≡ false → ArePartsOf ts (more l.c l.factors)
led_parts ts l a n = grind (arith, weight_behind, number_factors, factor_weights, number_test, no_one, number_parts, each_heavy, weights_more)

-- ---- any reduced product that is no Number

pub record HasParts (ts : Trees) : Type 0 where
  pub parts : Trees
  pub are : ArePartsOf ts parts

formed_parts : (ts : Trees) → AllParts HasForm (mult ts) → is_number (mult ts) ≡ false → IsProductForm ts → (has_coefficient ts ≡ false) ⊎ Leads ts → HasParts ts
formed_parts ts p n f (inl h) = record { parts = ts; are = unled_parts ts p.1 f n h }
formed_parts ts p n f (inr l) = record { parts = more l.c l.factors; are = led_parts ts l (leading_factors ts l p n f) n }

pub product_parts : (ts : Trees) → is_reduced (mult ts) ≡ true → is_number (mult ts) ≡ false → HasParts ts
product_parts ts h n =
    let p = reduced_parts (mult ts) h refl in
    let f = product_form_of ts p n in
    formed_parts ts p n f (in_front ts f.no_product f.front)

-- ---- their powers

-- a power nests no more than that of a tree that nests as much as its base
pub power_nest : (g b e : Tree) → nest g ≤ nest b → nest (power g e) ≤ nest (power b e)
power_nest g b e h = grind arith

pub each_lighter : (b e : Tree) (gs : Trees) → AllPartsOf HasForm gs → weights gs < weight b → nest_of gs ≤ nest b → EachTree (IsLighterPart b e) gs
each_lighter b e none p w n = tt
each_lighter b e (more g gs) p w n = grind (arith, each_lighter b e gs p.1 (omega (arith, weights_more g gs)) (omega arith), parts_reduced, weights_more, power_nest)

-- the load of a tree as a factor of a product
pub factor_load : (u : Tree) (n : ℕ) → 2 ≤ n → load u ≤ n → load_of_factor u ≤ n
factor_load u n h k = grind (arith, number_load)

bounded_load : (e : Tree) (gs us : Trees) → EachTree (λ g. 2 ≤ weight g) gs → AreBoundedPowers gs e us → load_of_factors us ≤ weights gs
bounded_load e none none w h = omega arith
bounded_load e (more g gs) (more u us) w h = omega (arith, factor_load u (weight g) w.0 h.1, bounded_load e gs us w.1 h.2, weights_more g gs)
bounded_load e none (more u us) w h = absurd h
bounded_load e (more g gs) none w h = absurd h

bounded_nest : (b e : Tree) (gs us : Trees) → nest_of gs ≤ nest b → AreBoundedPowers gs e us → nest_of us ≤ nest (power b e)
bounded_nest b e none none n h = omega arith
bounded_nest b e (more g gs) (more u us) n h = omega (arith, h.0, power_nest g b e (omega arith), bounded_nest b e gs us (omega arith) h.2)
bounded_nest b e none (more u us) n h = absurd h
bounded_nest b e (more g gs) none n h = absurd h

pub powers_nest : (ts : Trees) (e : Tree) (p : HasParts ts) (us : Trees) → AreBoundedPowers (parts_of ts) e us → nest (mult us) ≤ nest (power (mult ts) e)
powers_nest ts e p us h = bounded_nest (mult ts) e p.parts us p.are.nests (subst (λ (gs : Trees). AreBoundedPowers gs e us) p.are.are h)

pub powers_load : (ts : Trees) (e : Tree) (p : HasParts ts) (us : Trees) → AreBoundedPowers (parts_of ts) e us → load (mult us) < weight (mult ts)
powers_load ts e p us h = grind (arith, bounded_load)
