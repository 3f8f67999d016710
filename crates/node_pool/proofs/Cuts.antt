-- Cutting a list of nodes at places.
use Rattle.node_pool.proofs.Shared.{Bool, List, [], ap, append_assoc, arith, cond, eqb, false, length, refl, subst, sym, ℕ, ◌++◌, ◌+◌, ◌-◌, ◌<◌, ◌∙◌, ◌∷◌, ◌≡◌, ◌≤◌, ne_eqb, append_cancel_left}
use Rattle.node_pool.proofs.{Shared.{length-append, Node, size_of, AreDistinct, AreNodes, first_of, used, IsBoundary, between, since, swapped}, Shared.until, Ids.{AreApart-append, AreApart-parts}}
use Rattle.node_pool.proofs.{Ids.{AreApart-sym, AreDistinct-append, AreDistinct-parts}, Sizes.{AreNodes-append, AreNodes-left, AreNodes-right, size_from, used-append}}

-- a split at a place
pub until-append : (a b : List Node) → until (used a) (a ++ b) ≡ a
until-append [] [] = refl
until-append [] (n ∷ b) = refl
until-append (n ∷ a) b = grind (arith, ne_eqb, size_from, until-append a b)

pub since-append : (a b : List Node) → since (used a) (a ++ b) ≡ b
since-append [] [] = refl
since-append [] (n ∷ b) = refl
since-append (n ∷ a) b = grind (arith, ne_eqb, size_from, since-append a b)

pub until-since : (at : ℕ) (ns : List Node) → until at ns ++ since at ns ≡ ns
until-since at [] = refl
until-since at (n ∷ ns) = grind (arith, until-since (at - size_of n) ns)

pub since-append_right : (a b : List Node) (at : ℕ) → used a ≤ at → since at (a ++ b) ≡ since (at - used a) b
since-append_right [] b at h = let e : at - 0 ≡ at = omega arith in rw e refl
since-append_right (n ∷ a) b at h = grind (arith, ne_eqb, size_from, since-append_right a b (at - size_of n))

pub until-append_right : (a b : List Node) (at : ℕ) → used a ≤ at → until at (a ++ b) ≡ a ++ until (at - used a) b
until-append_right [] b at h = let e : at - 0 ≡ at = omega arith in rw e refl
until-append_right (n ∷ a) b at h = grind (arith, ne_eqb, size_from, until-append_right a b (at - size_of n))

-- two cuts
pub record IsCut (at to : ℕ) (ns : List Node) : Type 0 where
  pub whole : ns ≡ until at ns ++ (between at to ns ++ since to ns)
  pub size : used (between at to ns) ≡ to - at
  pub first : used (until at ns) ≡ at

pub cut : (at to : ℕ) (ns : List Node) → IsBoundary at ns → IsBoundary to ns → at ≤ to → IsCut at to ns
cut at to ns b c le =
    let a = until at ns in
    let r = since at ns in
    let split : a ++ r ≡ ns = until-since at ns in
    let behind : since to ns ≡ since (to - at) r = ap (since to) (sym split) ∙ since-append_right a r to (rw b le) ∙ ap (λ (k : ℕ). since (to - k) r) b in
    let before : until to ns ≡ a ++ between at to ns = ap (until to) (sym split) ∙ until-append_right a r to (rw b le) ∙ ap (λ (k : ℕ). a ++ until (to - k) r) b in
    record {
      whole = sym split ∙ ap (λ (x : List Node). a ++ x) (sym (until-since (to - at) r) ∙ ap (λ (x : List Node). between at to ns ++ x) (sym behind));
      size = omega (arith, ap used before, used-append a (between at to ns), b, c);
      first = b;
    }

-- three cuts
pub record IsCut3 (x y z : ℕ) (ns : List Node) : Type 0 where
  pub whole : ns ≡ until x ns ++ (between x y ns ++ (between y z ns ++ since z ns))
  pub first : used (until x ns) ≡ x
  pub second : used (between x y ns) ≡ y - x
  pub third : used (between y z ns) ≡ z - y

pub cut3 : (x y z : ℕ) (ns : List Node) → IsBoundary x ns → IsBoundary y ns → IsBoundary z ns → x ≤ y → y ≤ z → IsCut3 x y z ns
cut3 x y z ns a b c h k =
    let one = cut x y ns a b h in
    let two = cut y z ns b c k in
    let behind : since y ns ≡ between y z ns ++ since z ns = append_cancel_left (until y ns) (since y ns) (between y z ns ++ since z ns) (until-since y ns ∙ two.whole) in
    record {
      whole = one.whole ∙ ap (λ (t : List Node). until x ns ++ (between x y ns ++ t)) behind;
      first = one.first;
      second = one.size;
      third = two.size;
    }

-- the same nodes in another order
pub AreNodes-swap : (a x y d : List Node) → AreNodes (a ++ (x ++ (y ++ d))) → AreNodes (a ++ (y ++ (x ++ d)))
AreNodes-swap a x y d h = grind (arith, AreNodes-right, AreNodes-append, AreNodes-left)

pub AreDistinct-swap : (a x y d : List Node) → AreDistinct (a ++ (x ++ (y ++ d))) → AreDistinct (a ++ (y ++ (x ++ d)))
AreDistinct-swap a x y d h = grind (arith, AreDistinct-parts, AreApart-parts, AreDistinct-append, AreApart-append, AreApart-sym)

-- without a part in the middle
pub AreNodes-without : (a b c : List Node) → AreNodes (a ++ (b ++ c)) → AreNodes (a ++ c)
AreNodes-without a b c h = AreNodes-append a c (AreNodes-left a (b ++ c) h) (AreNodes-right b c (AreNodes-right a (b ++ c) h))

pub AreDistinct-without : (a b c : List Node) → AreDistinct (a ++ (b ++ c)) → AreDistinct (a ++ c)
AreDistinct-without a b c h = grind (arith, AreDistinct-parts, AreDistinct-append, AreApart-parts)

pub boundary_le : (at : ℕ) (ns : List Node) → IsBoundary at ns → at ≤ used ns
boundary_le at ns b = omega (arith, used-append (until at ns) (since at ns), ap used (until-since at ns), b)

-- one node more of a count
pub between_next : (at k to : ℕ) (ns : List Node) → IsBoundary at ns → IsBoundary to ns → at < to → since at ns ≡ first_of (since at ns) ∷ since (at + k) ns → k ≡ size_of (first_of (since at ns)) → (between at to ns ≡ first_of (since at ns) ∷ between (at + k) to ns) × (at + k ≤ to)
between_next at k to ns a b lt e size =
    let n = first_of (since at ns) in
    let no : eqb (to - at) 0 ≡ false = ne_eqb (to - at) 0 (λ q. absurd (omega arith)) in
    let less : to - at - size_of n ≡ to - (at + k) = omega arith in
    let one : between at to ns ≡ n ∷ between (at + k) to ns =
    ap (until (to - at)) e ∙ ap (λ (t : Bool). cond t [] (n ∷ until (to - at - size_of n) (since (at + k) ns))) no ∙ ap (λ (j : ℕ). n ∷ until j (since (at + k) ns)) less in
    (one, omega (arith, ap used one, (cut at to ns a b (omega arith)).size))

until-zero : (ns : List Node) → until 0 ns ≡ []
until-zero [] = refl
until-zero (n ∷ ns) = refl

pub between_none : (at to : ℕ) (ns : List Node) → to ≤ at → between at to ns ≡ []
between_none at to ns h = let e : to - at ≡ 0 = omega arith in rw e (until-zero (since at ns))

-- nothing changes places with what stands beside it
pub swapped_front : (i k : ℕ) (ns : List Node) → IsBoundary i ns → IsBoundary k ns → i ≤ k → swapped i i k ns ≡ ns
swapped_front i k ns a b h = ap (λ (x : List Node). until i ns ++ (between i k ns ++ (x ++ since k ns))) (between_none i i ns (omega arith)) ∙ sym (cut i k ns a b h).whole

pub swapped_back : (i k : ℕ) (ns : List Node) → IsBoundary i ns → IsBoundary k ns → i ≤ k → swapped i k k ns ≡ ns
swapped_back i k ns a b h = ap (λ (x : List Node). until i ns ++ (x ++ (between i k ns ++ since k ns))) (between_none k k ns (omega arith)) ∙ sym (cut i k ns a b h).whole

pub between_few : (at to : ℕ) (ns : List Node) → IsBoundary at ns → IsBoundary to ns → at ≤ to → length (between at to ns) ≤ length ns
between_few at to ns a b h =
    let x = cut at to ns a b h in
    omega (arith, ap length x.whole, length-append (until at ns) (between at to ns ++ since to ns), length-append (between at to ns) (since to ns))

-- the node at a place, and what is behind it
pub record IsStep (at next : ℕ) (ns : List Node) : Type 0 where
  pub rest : since at ns ≡ first_of (since at ns) ∷ since next ns
  pub boundary : IsBoundary next ns
  pub within : next ≤ used ns

step_split : (a : List Node) (n : Node) (b : List Node) → IsStep (used a) (used a + size_of n) (a ++ n ∷ b)
step_split a n b =
    let ns = a ++ n ∷ b in
    let grouped : (a ++ n ∷ []) ++ b ≡ ns = append_assoc a (n ∷ []) b in
    let size : used (a ++ n ∷ []) ≡ used a + size_of n = omega (arith, used-append a (n ∷ [])) in
    let behind : since (used a + size_of n) ns ≡ b = subst (λ (k : ℕ). since k ns ≡ b) size (subst (λ (x : List Node). since (used (a ++ n ∷ [])) x ≡ b) grouped (since-append (a ++ n ∷ []) b)) in
    let before : until (used a + size_of n) ns ≡ a ++ n ∷ [] = subst (λ (k : ℕ). until k ns ≡ a ++ n ∷ []) size (subst (λ (x : List Node). until (used (a ++ n ∷ [])) x ≡ a ++ n ∷ []) grouped (until-append (a ++ n ∷ []) b)) in
    let front : since (used a) ns ≡ n ∷ b = since-append a (n ∷ b) in
    record {
      rest = front ∙ ap (λ (x : List Node). n ∷ x) (sym behind) ∙ ap (λ (x : List Node). first_of x ∷ since (used a + size_of n) ns) (sym front);
      boundary = ap used before ∙ size;
      within = omega (arith, used-append a (n ∷ b));
    }

step_cut : (a b : List Node) → used a < used (a ++ b) → IsStep (used a) (used a + size_of (first_of b)) (a ++ b)
step_cut a [] lt = absurd (omega (arith, used-append a []))
step_cut a (n ∷ b) lt = step_split a n b

pub step : (at : ℕ) (ns : List Node) → IsBoundary at ns → at < used ns → IsStep at (at + size_of (first_of (since at ns))) ns
step at ns b lt =
    let whole = until-since at ns in
    let k = size_of (first_of (since at ns)) in
    let cut = step_cut (until at ns) (since at ns) (rw (whole, b) lt) in
    subst (λ (i : ℕ). IsStep i (i + k) ns) b (subst (λ (x : List Node). IsStep (used (until at ns)) (used (until at ns) + k) x) whole cut)

pub AreNodes-since : (at : ℕ) (ns : List Node) → AreNodes ns → AreNodes (since at ns)
AreNodes-since at ns h = AreNodes-right (until at ns) (since at ns) (subst AreNodes (sym (until-since at ns)) h)
