-- Where a call inside of another one finds no bytes, the outer one has fewer than it needs.
use Rattle.deep_reduce.proofs.Shared.{rules, ◌≡◌, ℕ, suc, ◌+◌, ◌^◌, ◌≤◌, ◌<◌, List, length, true, false, Result, refl, sym, ap, ◌∙◌, subst, arith, inl, inr, IfErr, IsOk, is_whole_num, is_half_num}
use Rattle.deep_reduce.proofs.Shared.{base_of, SpansRoot, SpansTree, SpansTrees, whole_fraction, Tree, num, add, mult, power, root, Trees, none, more, append, is_mult, size, sizes, IsCalmAtZero}
use Rattle.deep_reduce.proofs.Shared.{IsJoinedFrom, IsRewritten, whole_power_room, HandsOn, IsSummed, AreReducedPowers, IsLifted, IsProductOfPowers, LacksBelow, full_as, refusal_as, base_in}
use Rattle.deep_reduce.proofs.Shared.{exponent_in, parts_of, LacksStep, parts_span, whole_is, exponent_of, joint, nth, children_of, Forest, NumberFault, HasCalmExponent, IsCalm, AreCalm, zeros}
use Rattle.deep_reduce.proofs.Shared.{product_count, sum_count, sum_room, product_room, whole_number, scaled, sizes_append, cases_Bool, clash, joined_calm, joined_spans, summed_calm, summed_spans}
use Rattle.deep_reduce.proofs.Shared.{all_nth, calm_exponent, calm_no_half, calm_product, calm_power, IsJoining, joining, split_bytes, argument_needs, inner_needs, exponents_lack, part_lacks}
use Rattle.deep_reduce.proofs.{Shared.{product_lacks, split_at, last_parts, parts_calm, parts_single, powers_raised, exponents_calm, exponents_span, raised_calm, by_product, by_power}, Rows.{IsNext}}
use Rattle.deep_reduce.proofs.Shared.{State, KeepsRefusals, on_ok_after, fault_after}
use Rattle.product_reduce.specs.Pools.{LeavesPool}
use Rattle.tree_room.specs.Needs.{product_step_room}
use Rattle.node_bounds.proofs.JointBytes.{exponents_lack as sum_lacks, power_lacks as joint_power_lacks}
use Rattle.tree_handles.proofs.SmallLaws.{mult_is as product_words}

-- ---- what is left of the pool

pub leaves_after : (r : Result ℕ NumberFault) (s t u : State) → KeepsRefusals s t → LeavesPool r t u → LeavesPool r s u
leaves_after r s t u k l = record { kept = on_ok_after r s t u k l.kept; faults = fault_after r s t u k l.faults; caused = l.caused; stands = l.stands }

-- ---- refusals

pub lacks_as : {n m a b : ℕ} (f : NumberFault) → LacksBelow n a f → (a < n → b < m) → LacksBelow m b f
lacks_as f k h = full_as f k (λ full l. h l)

pub result_lacks : {A : Type 0} {n m a b : ℕ} (r : Result A NumberFault) → IfErr r (LacksBelow n a) → (a < n → b < m) → IfErr r (LacksBelow m b)
result_lacks r k h = refusal_as r k (λ f l. lacks_as f l h)

-- as many bytes are at hand, and what needs them needs no less
pub short_at : {a b n : ℕ} → a ≡ b → a < n → b < n
short_at e l = omega (arith, e, l)

pub short_within : {a n m : ℕ} → n ≤ m → a < n → a < m
short_within h l = omega (arith, h, l)

pub short_as : {a b n m : ℕ} → a ≡ b → n ≤ m → a < n → b < m
short_as e h l = omega (arith, e, h, l)

pub short_beside : (free : ℕ) {n : ℕ} {t u : Tree} → t ≡ u → free + size u < n → free + size t < n
short_beside free e l = omega (arith, ap size e, l)

-- a tree p was made beside a, which is as large as before as b, and then w over both
pub short_over : (old now p b made w : ℕ) {a n m : ℕ} → old ≡ now + p → made + w ≡ now + p + b → b ≡ a → n ≤ m → made + w < n → old + a < m
short_over old now p b made w e f g h l = omega (arith, e, f, g, h, l)

pub short_below : (old now p b made w : ℕ) {a n m : ℕ} → old ≡ now + p → made + w ≡ now + b + p → b ≡ a → n ≤ m → made + w < n → old + a < m
short_below old now p b made w e f g h l = omega (arith, e, f, g, h, l)

-- the two sides of a node, and what the right one is turned into
pub short_beside_left : (f a b : ℕ) {old n : ℕ} → f + a + b ≡ old → f + b + a < n → old < n
short_beside_left f a b e l = omega (arith, e, l)

pub short_turned : (f g a b c made : ℕ) {old n m : ℕ} → f + a + b ≡ old → g + made ≡ f + c → c ≡ b → n ≤ m → g + (a + (made + 0)) < n → old < m
short_turned f g a b c made e h k p l = omega (arith, e, h, k, p, l)

pub short_two : (old a b : ℕ) {f n : ℕ} → f ≡ old + a + b → f < n → old + (a + (b + 0)) < n
short_two old a b e l = omega (arith, e, l)

-- a step needs less than the product
pub step_short : (h m bytes : ℕ) → bytes < product_step_room h m → bytes < product_room h m
step_short h m bytes l = omega (arith, l)

-- a product that counts less needs less
pub fewer_needs : (h k m : ℕ) → h ≤ k → product_room h m ≤ product_room k m
fewer_needs h k m l = omega (arith, scaled h k m l)

-- what is handed on in a product's place
pub record IsHandedOn (gs : List ℕ) (ns : List (List ℕ)) (t u : Tree) : Type 0 where
  pub calm : IsCalmAtZero ns u
  pub spanned : SpansTree gs u
  pub needs : product_room (product_count (children_of u)) (2 ^ length gs) ≤ product_room (product_count (children_of t)) (2 ^ length gs)

pub handed_on : (t u : Tree) → is_mult t ≡ true → u ≡ mult (children_of u) → HandsOn (children_of t) (children_of u) → (gs : List ℕ) (ns : List (List ℕ)) → IsCalmAtZero ns t → SpansTree gs t
    → IsHandedOn gs ns t u
handed_on t u m e h gs ns c s =
    let w = product_words t m in
    let k = subst (IsCalmAtZero ns) w c in
    record {
      calm = subst (IsCalmAtZero ns) (sym e) (h.room.calm ns k);
      spanned = subst (SpansTree gs) (sym e) (h.room.spanned gs ns k (subst (SpansTree gs) w s));
      needs = fewer_needs (product_count (children_of u)) (product_count (children_of t)) (2 ^ length gs) (h.counts ns k);
    }

-- ---- sums of exponents

pub exponent_spans : (gs : List ℕ) (t : Tree) → t ≡ power (base_in t) (add (children_of (exponent_in t))) → SpansTree gs t → SpansTree gs (exponent_in t)
exponent_spans gs t h k = grind arith

-- the exponent alone was handed on
pub exponent_lacks : (gs : List ℕ) (t x : Tree) (free old : ℕ) (f : NumberFault) → t ≡ power (base_in t) (add (children_of (exponent_in t))) → x ≡ exponent_in t → free ≡ old
    → LacksBelow (sum_room (sum_count (children_of x)) (2 ^ length gs)) (free + size x) f
    → LacksBelow (8 + size (base_in t) + sum_room (sum_count (children_of (exponent_in t))) (2 ^ length gs)) (old + size t) f
exponent_lacks gs t x free old f h k a b = grind (arith, lacks_as)

-- ---- joints

module _ (gs : List ℕ) (at : ℕ) (ts us : Trees) (k : IsJoinedFrom at ts us) (s : SpansTrees gs ts) where
  -- the joint x was handed on
  pub joint_sum_lacks : (x : Tree) (free old : ℕ) → x ≡ nth at us → free ≡ old → free + size x < 8 + size (base_in x) + sum_room (sum_count (children_of (exponent_in x))) (2 ^ length gs)
      → old + size (mult us) < product_room (product_count ts) (2 ^ length gs)
  joint_sum_lacks x free old e same l =
      let j : IsJoining at ts us = joining at ts us k in
      let is : x ≡ joint (nth at ts) (nth (suc at) ts) = e ∙ j.is in
      omega (
        arith,
        sum_lacks gs at ts us k s (free + size x) (subst (λ (y : Tree). free + size x < 8 + size (base_in y) + sum_room (sum_count (children_of (exponent_in y))) (2 ^ length gs)) is l),
        split_bytes gs at ts us k s,
        ap size e,
        same,
      )

  -- and then the power v of its base
  pub joint_power_short : (x v : Tree) (free old : ℕ) → x ≡ nth at us → base_in v ≡ base_in x → free ≡ old + size x → free < whole_power_room (base_in v) (2 ^ length gs)
      → old + size (mult us) < product_room (product_count ts) (2 ^ length gs)
  joint_power_short x v free old e b same l =
      let base : base_in v ≡ base_of (nth at ts) = b ∙ ap base_in (e ∙ (joining at ts us k).is) in
      omega (arith, joint_power_lacks gs at ts us k s free (subst (λ (y : Tree). free < whole_power_room y (2 ^ length gs)) base l), split_bytes gs at ts us k s, ap size e, same)

pub joint_at_spans : (gs : List ℕ) (at : ℕ) (ts us : Trees) → IsJoinedFrom at ts us → SpansTrees gs ts → SpansTree gs (nth at us)
joint_at_spans gs at ts us k s = all_nth (SpansRoot gs) at us (joining at ts us k).within (subst (SpansTrees gs) (sym k.is) (joined_spans gs at ts k.pair s))

-- the power whose exponent is the sum
pub record IsReadyJoint (gs : List ℕ) (ns : List (List ℕ)) (v : Tree) : Type 0 where
  pub is : v ≡ power (base_in v) (exponent_in v)
  pub calm : IsCalmAtZero ns v
  pub spanned : SpansTree gs v

pub joint_ready : (gs : List ℕ) (ns : List (List ℕ)) (at : ℕ) (ts us : Trees) (v : Tree) → IsJoinedFrom at ts us → IsCalmAtZero ns (mult ts) → SpansTree gs (mult ts)
    → IsSummed (base_in (nth at us)) (children_of (exponent_in (nth at us))) v → IsReadyJoint gs ns v
joint_ready gs ns at ts us v k c s m =
    let j : IsJoining at ts us = joining at ts us k in
    let n : IsSummed (base_of (nth at ts)) (more (exponent_of (nth at ts)) (more (exponent_of (nth (suc at) ts)) none)) v = subst (λ (y : Tree). IsSummed (base_in y) (children_of (exponent_in y)) v) j.is m in
    let calm = all_nth (HasCalmExponent (zeros ns)) at us j.within (subst (AreCalm (zeros ns)) (sym k.is) (joined_calm at ts k.pair c).calm.1) in
    subst (IsReadyJoint gs ns) (sym n.is) (record {
      is = refl;
      calm = summed_calm _ _ _ n.exponent (record { once = c.once; calm = subst (IsCalm (zeros ns)) j.is calm }) n.sum n.bounds.room;
      spanned = summed_spans gs _ _ _ n.exponent (subst (SpansTree gs) j.is (joint_at_spans gs at ts us k s.1)) n.bounds.room;
    })

-- ---- bytes of children

pub next_bytes : {i at : ℕ} {ts : Trees} {old new : Forest} (n : IsNext i at ts old new) → sizes (append n.reduced (more n.t n.rest)) ≡ size n.t + sizes (append n.reduced n.rest)
next_bytes n = omega (arith, sizes_append n.reduced (more n.t n.rest), sizes_append n.reduced n.rest)

-- ---- whole powers

-- a step needs less than the power
pub step_lacks : (gs : List ℕ) (t : Tree) (free : ℕ) (f : NumberFault) → LacksStep gs t free f → LacksBelow (whole_power_room (base_in t) (2 ^ length gs)) (free + size t) f
step_lacks gs t free f k = search (rules, full_as)

-- a calm power that is refused is whole
pub power_refused : {ns : List (List ℕ)} (n m : ℕ) (t : Tree) (f : NumberFault) → t ≡ power (base_in t) (exponent_in t) → IsCalmAtZero ns t → (is_whole_num (exponent_in t) ≡ true → LacksBelow n m f)
    → (is_whole_num (exponent_in t) ≡ false → is_half_num (exponent_in t) ≡ false → false ≡ true) → LacksBelow n m f
power_refused {ns} n m t f p c room others = elim (cases_Bool (is_whole_num (exponent_in t))) [ inl w ↦ room w | inr w ↦ let no : false ≡ true = others w (calm_no_half (subst (IsCalmAtZero ns) p c)) in cc ]

pub power_result : {ns : List (List ℕ)} {A : Type 0} (n m : ℕ) (t : Tree) (r : Result A NumberFault) → t ≡ power (base_in t) (exponent_in t) → IsCalmAtZero ns t
    → (is_whole_num (exponent_in t) ≡ true → IfErr r (LacksBelow n m))
    → (is_whole_num (exponent_in t) ≡ false → is_half_num (exponent_in t) ≡ false → IsOk r) → IfErr r (LacksBelow n m)
power_result n m t r h k a b = grind (arith, power_refused)

-- ---- rewritten powers

-- what is handed on, and where bytes are lacking for it
pub record IsReadyFor (gs : List ℕ) (ns : List (List ℕ)) (need own : ℕ) (v : Tree) : Type 0 where
  pub calm : IsCalmAtZero ns v
  pub spanned : SpansTree gs v
  pub lacks : (bytes : ℕ) → bytes < need → bytes < own

-- a product of powers
pub ready_product : (gs : List ℕ) (ns : List (List ℕ)) (b e t v : Tree) → is_mult t ≡ true → IsRewritten b e t → IsCalmAtZero ns (power b e) → SpansTree gs (power b e)
    → IsProductOfPowers (children_of t) v
    → IsReadyFor gs ns (product_room (product_count (children_of v)) (2 ^ length gs)) (whole_power_room b (2 ^ length gs)) v
ready_product gs ns b e t v m w c s p =
    by_product (λ (x y : Tree). IsCalmAtZero ns (power x e) → SpansTree gs (power x e) → AreReducedPowers (children_of y) p.factors
    → IsReadyFor gs ns (product_room (product_count (children_of v)) (2 ^ length gs)) (whole_power_room x (2 ^ length gs)) v) b e t m w
    (λ fs r n c s a.
    let x = powers_raised ns (parts_of fs) e p.factors w.whole (calm_exponent c) (parts_calm (zeros ns) fs c.calm.1.1) (parts_single fs r n) a in
    subst (λ (y : Tree). IsReadyFor gs ns (product_room (product_count (children_of y)) (2 ^ length gs)) (whole_power_room (mult fs) (2 ^ length gs)) y) (sym p.is) (record {
      calm = calm_product c.once x.calm;
      spanned = (tt, x.spanned gs (parts_span gs fs s.1.1));
      lacks = λ bytes l. product_lacks gs ns fs e r n w.whole c s.1.1 p.factors bytes a l;
    })) c s p.are

-- a power whose exponent is lifted
pub ready_power : (gs : List ℕ) (ns : List (List ℕ)) (b e t v : Tree) → is_mult t ≡ false → IsRewritten b e t → IsCalmAtZero ns (power b e) → SpansTree gs (power b e) → IsLifted t v
    → IsReadyFor gs ns (whole_power_room (base_in v) (2 ^ length gs)) (whole_power_room b (2 ^ length gs)) v
ready_power gs ns b e t v m w c s l =
    by_power (λ (x y : Tree). IsCalmAtZero ns (power x e) → SpansTree gs (power x e) → IsLifted y v → IsReadyFor gs ns (whole_power_room (base_in v) (2 ^ length gs))
    (whole_power_room x (2 ^ length gs)) v) b e t m w
    (λ a z r n c s k. as_tree (power a (num (whole_fraction z))) (root a) k (record {
      calm = calm_power (record { once = c.once; calm = c.calm.1.1 }) (record { once = c.once; calm = tt }) (whole_number (zeros ns) (num (whole_fraction z)) (whole_is z));
      spanned = (tt, s.1.1, tt);
      lacks = λ bytes l. omega (arith, l, argument_needs a (2 ^ length gs) r n);
    }))
    (λ d f r c s x. as_tree (power d x.exponent) (power d f) x.is (record {
      calm = raised_calm d f e x.exponent w.whole c x.product;
      spanned = (tt, s.1.1, x.product.room.spanned gs ns (exponents_calm d f e w.whole c) (exponents_span gs d f e s));
      lacks = λ bytes l. omega (arith, l, inner_needs d f (2 ^ length gs) r);
    })) c s l
  where
    as_tree : (x own : Tree) → v ≡ x → IsReadyFor gs ns (whole_power_room (base_in x) (2 ^ length gs)) (whole_power_room own (2 ^ length gs)) x
        → IsReadyFor gs ns (whole_power_room (base_in v) (2 ^ length gs)) (whole_power_room own (2 ^ length gs)) v
    as_tree x own i h = subst (λ (y : Tree). IsReadyFor gs ns (whole_power_room (base_in y) (2 ^ length gs)) (whole_power_room own (2 ^ length gs)) y) (sym i) h

-- the exponent x of a power, a product of exponents
pub ready_exponent : (gs : List ℕ) (ns : List (List ℕ)) (b e t x : Tree) → is_mult t ≡ false → is_mult x ≡ true → x ≡ exponent_in t → IsRewritten b e t → IsCalmAtZero ns (power b e)
    → SpansTree gs (power b e)
    → IsCalmAtZero ns x × SpansTree gs x × ((bytes : ℕ) → bytes < product_room (product_count (children_of x)) (2 ^ length gs) → bytes + 8 + size (base_in t) < whole_power_room b (2 ^ length gs))
ready_exponent gs ns b e t x m k h w c s =
    by_power (λ (d u : Tree). x ≡ exponent_in u → IsCalmAtZero ns (power d e) → SpansTree gs (power d e) → Ready x u d) b e t m w (λ a z r n h c s. clash (sym k ∙ ap is_mult h))
    (λ d f r h c s. subst (λ (y : Tree). Ready y (power d (mult (more f (more e none)))) (power d f)) (sym h)
    (exponents_calm d f e w.whole c, exponents_span gs d f e s, λ bytes l. exponents_lack gs d f e bytes r w.whole s.1.1 l)) h c s
  where
    Ready : Tree → Tree → Tree → Type 0
    Ready y u d =
        IsCalmAtZero ns y × SpansTree gs y × ((bytes : ℕ) → bytes < product_room (product_count (children_of y)) (2 ^ length gs) → bytes + 8 + size (base_in u) < whole_power_room d (2 ^ length gs))

-- the next power x of a product, the first of which are reduced
pub record IsReadyPart (gs : List ℕ) (ns : List (List ℕ)) (b x : Tree) (others : Trees) : Type 0 where
  pub calm : IsCalmAtZero ns x
  pub spanned : SpansTree gs x
  pub whole : is_whole_num (exponent_in x) ≡ true
  pub lacks : (bytes : ℕ) → bytes < whole_power_room (base_in x) (2 ^ length gs) → bytes + size (mult others) < whole_power_room b (2 ^ length gs)

pub ready_part : (gs : List ℕ) (ns : List (List ℕ)) (b e t x : Tree) (done rest reduced : Trees) → is_mult t ≡ true → IsRewritten b e t → IsCalmAtZero ns (power b e) → SpansTree gs (power b e)
    → children_of t ≡ append done (more x rest) → AreReducedPowers done reduced → IsReadyPart gs ns b x (append reduced rest)
ready_part gs ns b e t x done rest reduced m w c s p a =
    by_product (λ (y u : Tree). IsCalmAtZero ns (power y e) → SpansTree gs (power y e) → children_of u ≡ append done (more x rest) → IsReadyPart gs ns y x (append reduced rest)) b e t m w
    (λ fs r n c s p.
    let q = split_at (parts_of fs) e done x rest p in
    let calm = last_parts (HasCalmExponent (zeros ns)) q.first (more q.part q.last) (subst (AreCalm (zeros ns)) q.split (parts_calm (zeros ns) fs c.calm.1.1)) in
    let spanned = last_parts (SpansRoot gs) q.first (more q.part q.last) (subst (SpansTrees gs) q.split (parts_span gs fs s.1.1)) in
    subst (λ (y : Tree). IsReadyPart gs ns (mult fs) y (append reduced rest)) (sym q.is) (subst (λ (y : Trees). IsReadyPart gs ns (mult fs) (power q.part e) (append reduced y)) (sym q.rest-is) (record {
      calm = calm_power (record { once = c.once; calm = calm.0 }) (calm_exponent c) (whole_number (zeros ns) e w.whole);
      spanned = (tt, spanned.0, s.2);
      whole = w.whole;
      lacks = λ bytes l. part_lacks gs ns fs e r n w.whole c s.1.1 q.first q.part q.last reduced bytes q.split (subst (λ (y : Trees). AreReducedPowers y reduced) q.before-is a) l;
    }))) c s p
