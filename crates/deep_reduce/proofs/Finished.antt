-- A tree after a rewriting, whose powers or whose exponent were reduced.
use Rattle.deep_reduce.proofs.Shared.{◌≡◌, suc, ◌≤◌, true, false, refl, sym, ap, subst, arith, nest, nest_of, weight, load_of_factors, is_reduced, are_reduced, Tree, mult, power, Trees, none, more}
use Rattle.deep_reduce.proofs.Shared.{count, is_mult, IsReducedProduct, IsReducedPower, nest_of_rewritten, weight_of_bases, weight_below, IsTransparent, AreTransparent, IsUnfinished, Finishes}
use Rattle.deep_reduce.proofs.Shared.{IsMultiplied, IsLifted, AreReducedPowers, IsProductOfPowers, base_in, exponent_in, Rewrites, Rewrites-refl, rewrites_of, reduces_after, children_of, load_product}
use Rattle.deep_reduce.proofs.{Shared.{product_holds, power_holds, product_keeps, power_keeps, heavy}, Heavy.{factor_load, over_power}, Joined.{factors_rewritten}, Settled.{exponent_rewritten}}

-- ---- products of powers

-- what the reduced powers of a product are
pub record AreLess (ts us : Trees) : Type 0 where
  pub count-is : count us ≡ count ts
  pub reduced : are_reduced us ≡ true
  pub rewrites : Rewrites (mult ts) (mult us)
  pub nests : nest_of us ≤ nest_of ts
  pub loads : load_of_factors us ≤ weight_of_bases ts

pub powers_less : (ts us : Trees) → AreTransparent ts → AreReducedPowers ts us → AreLess ts us
powers_less none none t r = record { count-is = refl; reduced = refl; rewrites = Rewrites-refl (mult none); nests = omega arith; loads = omega arith }
powers_less (more t ts) (more u us) h r =
    let rest = powers_less ts us h.1 r.1 in
    let nest-is : nest t ≡ nest (power (base_in t) (exponent_in t)) = ap nest h.0.is in
    record {
      count-is = ap suc rest.count-is;
      reduced = rw (r.0.reduces.reduced, rest.reduced) refl;
      rewrites = factors_rewritten (subst (λ (x : Tree). Rewrites x u) (sym h.0.is) (rewrites_of r.0.reduces)) rest.rewrites;
      nests = omega (arith, r.0.nest, nest-is, rest.nests);
      loads = omega (arith, factor_load u (weight (base_in t)) (heavy (base_in t) h.0.base_reduced) (r.0.load h.0.transparent), rest.loads);
    }
powers_less ts us t r = absurd r

pub product_of_powers : (t v r : Tree) → is_mult t ≡ true → IsUnfinished t → IsProductOfPowers (children_of t) v → IsReducedProduct (children_of v) r → Finishes t r
product_of_powers (mult ts) v r m w p a =
    let l = powers_less ts p.factors w.0 p.are in
    let b : IsReducedProduct p.factors r = subst (λ (x : Tree). IsReducedProduct (children_of x) r) p.is a in
    record {
      reduces = reduces_after l.rewrites b.reduces;
      nest = omega (arith, b.nest, l.nests);
      load = omega (arith, b.load, load_product p.factors, l.loads);
      room = λ c e k. product_keeps (mult ts) v r c e m (omega (arith, ap (λ (x : Tree). count (children_of x)) p.is, l.count-is, w.1)) p a k;
      held = λ c e n k q. product_holds (mult ts) v r c e n m p a k q;
    }
product_of_powers t v r m w p a = cc

-- what is handed on for such a product
pub record IsReadyProduct (t v : Tree) : Type 0 where
  pub is : is_mult v ≡ true
  pub some : 1 ≤ count (children_of v)
  pub reduced : are_reduced (children_of v) ≡ true
  pub nests : nest_of (children_of v) ≤ nest_of_rewritten t
  pub loads : load_of_factors (children_of v) ≤ weight_below t

pub ready_product : (t v : Tree) → is_mult t ≡ true → IsUnfinished t → IsProductOfPowers (children_of t) v → IsReadyProduct t v
ready_product (mult ts) v m w p =
    let l = powers_less ts p.factors w.0 p.are in
    subst (IsReadyProduct (mult ts)) (sym p.is) (record { is = refl; some = omega (arith, l.count-is, w.1); reduced = l.reduced; nests = l.nests; loads = l.loads })
ready_product t v m w p = cc

pub transparent_children : (t : Tree) → is_mult t ≡ true → IsUnfinished t → AreTransparent (children_of t)
transparent_children t h k = grind arith

-- ---- powers

-- a power whose exponent is reduced
pub record IsReadyPower (t v : Tree) : Type 0 where
  pub is : v ≡ power (base_in v) (exponent_in v)
  pub base_reduced : is_reduced (base_in v) ≡ true
  pub exponent_reduced : is_reduced (exponent_in v) ≡ true
  pub rewrites : Rewrites t v
  pub nests : nest v ≤ nest_of_rewritten t
  pub weighs : weight (base_in v) ≤ weight_below t

multiplied_ready : (b : Tree) (ts : Trees) (v : Tree) → IsUnfinished (power b (mult ts)) → IsMultiplied b ts v → IsReadyPower (power b (mult ts)) v
multiplied_ready b ts v w m = grind (arith, rewrites_of, over_power, exponent_rewritten)

same_ready : (b e v : Tree) → nest (power b e) ≤ nest_of_rewritten (power b e) → IsTransparent (power b e) → v ≡ power b e → IsReadyPower (power b e) v
same_ready b e v h k a = grind arith

ready_of : (b e v : Tree) → IsUnfinished (power b e) → IsLifted (power b e) v → IsReadyPower (power b e) v
ready_of b (mult ts) v w l = multiplied_ready b ts v w l
ready_of b t v w l = same_ready b t v (omega arith) w l

pub ready_power : (t v : Tree) → t ≡ power (base_in t) (exponent_in t) → IsUnfinished t → IsLifted t v → IsReadyPower t v
ready_power (power b e) v m w l = ready_of b e v w l
ready_power t v m w l = cc

pub power_lifted : (t v r : Tree) → is_mult t ≡ false → IsLifted t v → IsReadyPower t v → IsReducedPower (base_in v) (exponent_in v) r → Finishes t r
power_lifted t v r h k a b = grind (arith, reduces_after, power_keeps, power_holds)

-- a tree that is no product is a power
pub power_of_kind : (t : Tree) → is_mult t ≡ false → IsUnfinished t → t ≡ power (base_in t) (exponent_in t)
power_of_kind t h k = grind arith
