-- Places that are noted, and the places of nodes.
use Rattle.node_pool.proofs.Shared.{get_or-set_other, get_or-set_same, Bool, List, [], ap, append-nil, append_assoc, arith, cond, eqb, false, length, refl, set, subst, sym, true, ℕ, ◌++◌}
use Rattle.node_pool.proofs.Shared.{◌+◌, ◌-◌, ◌<◌, ◌∙◌, ◌∷◌, ◌≡◌, ◌≤◌, eq-eqb, eqb-true, length-set, Node, size_of, AreBelow, place_in, noted, ArePlacesOf}
use Rattle.node_pool.proofs.{Shared.{AreDistinct, has, place_of, used, IsBoundary, between, since, swapped, until, without}, Cuts.{cut3, since-append, until-append, until-since}}
use Rattle.node_pool.proofs.{Ids.{AreApart-parts, AreApart-sym, AreDistinct-parts, has-append, not_both}, Sizes.used-append, Splits.boundary-append}

pub length-noted : (at : ℕ) (ns : List Node) (ps : List ℕ) → length (noted at ns ps) ≡ length ps
length-noted at [] ps = refl
length-noted at (n ∷ ns) ps = length-noted (at + size_of n) ns (set ps n.id at) ∙ length-set ps n.id at

-- a node more of what is noted
pub noted_more : (places new : List ℕ) (ms rest : List Node) (n : Node) (at id next : ℕ) → ms ≡ n ∷ rest → id ≡ n.id → next ≡ at + size_of n → new ≡ set places id at → AreBelow (length places) ms
    → AreBelow (length new) rest × (noted next rest new ≡ noted at ms places)
noted_more places new ms rest n at id next e i s q h =
    let known : AreBelow (length places) (n ∷ rest) = subst (AreBelow (length places)) e h in
    let len : length new ≡ length places = ap length q ∙ length-set places id at in (
      subst (λ (k : ℕ). AreBelow k rest) (sym len) known.1,
      ap (λ (k : ℕ). noted k rest new) s ∙ ap (noted (at + size_of n) rest) (q ∙ ap (λ (k : ℕ). set places k at) i) ∙ ap (λ (x : List Node). noted at x places) (sym e),
    )

-- ---- what is noted of a node

pub noted_other : (i at : ℕ) (ns : List Node) (ps : List ℕ) → has i ns ≡ false → place_in i (noted at ns ps) ≡ place_in i ps
noted_other i at [] ps h = refl
noted_other i at (n ∷ ns) ps h = grind (arith, eq-eqb, get_or-set_other, noted_other i (at + size_of n) ns (set ps n.id at))

pub noted_in : (i at : ℕ) (ns : List Node) (ps : List ℕ) → AreDistinct ns → AreBelow (length ps) ns → has i ns ≡ true → place_in i (noted at ns ps) ≡ at + place_of i ns
noted_in i at [] ps d b h = absurd cc
noted_in i at (n ∷ ns) ps d b h = grind (arith, eqb-true, length-set, noted_other, get_or-set_same, noted_in i (at + size_of n) ns (set ps n.id at) d.1)

-- ---- the place of a node in two lists

pub place-append : (i : ℕ) (a b : List Node) → place_of i (a ++ b) ≡ cond (has i a) (place_of i a) (used a + place_of i b)
place-append i [] b = omega arith
place-append i (n ∷ a) b = grind (arith, place-append i a b)

-- a node in place of one with the same identifier and the same size
pub place-same : (a : List Node) (n m : Node) (b : List Node) (i : ℕ) → n.id ≡ m.id → size_of n ≡ size_of m → place_of i (a ++ m ∷ b) ≡ place_of i (a ++ n ∷ b)
place-same [] n m b i e s = ap (λ (x : ℕ). cond (eqb x i) 0 (size_of m + place_of i b)) (sym e) ∙ ap (λ (x : ℕ). cond (eqb n.id i) 0 (x + place_of i b)) (sym s)
place-same (k ∷ a) n m b i e s = ap (λ (x : ℕ). cond (eqb k.id i) 0 (size_of k + x)) (place-same a n m b i e s)

-- ---- where only the nodes in the middle have new places

-- what is noted holds for the nodes before and behind them
pub record AreOutside (a m d : List Node) (ps : List ℕ) : Type 0 where
  pub before : (i : ℕ) → has i a ≡ true → place_in i ps ≡ place_of i a
  pub behind : (i : ℕ) → has i d ≡ true → place_in i ps ≡ used a + (used m + place_of i d)

pub renoted : (a m d : List Node) (ps : List ℕ) → AreDistinct (a ++ (m ++ d)) → AreBelow (length ps) m → AreOutside a m d ps → ArePlacesOf (a ++ (m ++ d)) (noted (used a) m ps)
renoted a m d ps distinct below o i h =
    let p = AreDistinct-parts a (m ++ d) distinct in
    let q = AreDistinct-parts m d p.1 in
    grind (arith, has-append, place-append, noted_other, noted_in i (used a) m ps q.0 below, not_both i a m (AreApart-parts a m d p.2).0, o.before i, o.behind i)

-- the same, from what was noted of the nodes when others stood in the middle
pub or_true : (x : Bool) → cond x true true ≡ true
or_true x = grind arith

pub before_places : (a r : List Node) (ps : List ℕ) → ArePlacesOf (a ++ r) ps → (i : ℕ) → has i a ≡ true → place_in i ps ≡ place_of i a
before_places a r ps h i e = grind (arith, has-append, place-append)

pub behind_places : (a d : List Node) (ps : List ℕ) → AreDistinct (a ++ d) → ArePlacesOf (a ++ d) ps → (i : ℕ) → has i d ≡ true → place_in i ps ≡ used a + place_of i d
behind_places a d ps h k i e = grind (arith, AreApart-sym, AreDistinct-parts, has-append, or_true, place-append, not_both)

pub outside : (a m x d : List Node) (ps : List ℕ) → AreDistinct (a ++ (x ++ d)) → ArePlacesOf (a ++ (x ++ d)) ps → used m ≡ used x → AreOutside a m d ps
outside a m x d ps distinct h e =
    let grouped : (a ++ x) ++ d ≡ a ++ (x ++ d) = append_assoc a x d in
    record {
      before = before_places a (x ++ d) ps h;
      behind = λ i k. behind_places (a ++ x) d ps (subst AreDistinct (sym grouped) distinct) (subst (λ (ns : List Node). ArePlacesOf ns ps) (sym grouped) h) i k ∙ omega (arith, used-append a x, e);
    }

-- ---- blocks of nodes

pub between_middle : (a m d : List Node) (i k : ℕ) → used a ≡ i → used a + used m ≡ k → between i k (a ++ (m ++ d)) ≡ m
between_middle a m d i k start end =
    let few : k - i ≡ used m = omega arith in
    ap (λ (j : ℕ). until (k - i) (since j (a ++ (m ++ d)))) (sym start) ∙ ap (until (k - i)) (since-append a (m ++ d)) ∙ ap (λ (j : ℕ). until j (m ++ d)) few ∙ until-append m d

-- nodes of which only those from one place to before another stand in another order
pub record IsTurned (i k : ℕ) (ns ms : List Node) : Type 0 where
  pub before : List Node
  pub old : List Node
  pub middle : List Node
  pub behind : List Node
  pub was : ns ≡ before ++ (old ++ behind)
  pub is : ms ≡ before ++ (middle ++ behind)
  pub start : used before ≡ i
  pub size : used middle ≡ used old
  pub end : used before + used middle ≡ k

pub turned : (i j k : ℕ) (ns : List Node) → IsBoundary i ns → IsBoundary j ns → IsBoundary k ns → i ≤ j → j ≤ k → IsTurned i k ns (swapped i j k ns)
turned i j k ns a b c h1 h2 =
    let x = cut3 i j k ns a b c h1 h2 in
    let p = between i j ns in
    let q = between j k ns in
    record {
      before = until i ns;
      old = p ++ q;
      middle = q ++ p;
      behind = since k ns;
      was = x.whole ∙ ap (λ (t : List Node). until i ns ++ t) (sym (append_assoc p q (since k ns)));
      is = ap (λ (t : List Node). until i ns ++ t) (sym (append_assoc q p (since k ns)));
      start = x.first;
      size = omega (arith, used-append q p, used-append p q);
      end = omega (arith, used-append q p, x.first, x.second, x.third);
    }

pub turned_start : {i k : ℕ} {ns ms : List Node} → IsTurned i k ns ms → IsBoundary i ms
turned_start {i = i} t = subst (IsBoundary i) (sym t.is) (boundary-append t.before (t.middle ++ t.behind) i (sym t.start))

pub turned_end : {i k : ℕ} {ns ms : List Node} → IsTurned i k ns ms → IsBoundary k ms
turned_end {k = k} t =
    let grouped : (t.before ++ t.middle) ++ t.behind ≡ t.before ++ (t.middle ++ t.behind) = append_assoc t.before t.middle t.behind in
    subst (IsBoundary k) (grouped ∙ sym t.is) (boundary-append (t.before ++ t.middle) t.behind k (omega (arith, used-append t.before t.middle, t.end)))

pub turned_places : {i k : ℕ} {ns ms : List Node} (ps : List ℕ) → IsTurned i k ns ms → AreDistinct ns → AreDistinct ms → AreBelow (length ps) (between i k ms) → ArePlacesOf ns ps → ArePlacesOf ms (noted i (between i k ms) ps)
turned_places ps t h k l m = grind (arith, between_middle, outside, renoted)

-- ---- the last nodes

pub last_part : (a m : List Node) (at : ℕ) → used a ≡ at → between at (used (a ++ m)) (a ++ m) ≡ m
last_part a m at e =
    let alone : a ++ (m ++ []) ≡ a ++ m = ap (λ (x : List Node). a ++ x) (append-nil m) in
    ap (between at (used (a ++ m))) (sym alone) ∙ between_middle a m [] at (used (a ++ m)) e (omega (arith, used-append a m, e))

pub last_places : (a m : List Node) (at : ℕ) (ps : List ℕ) → used a ≡ at → AreDistinct (a ++ m) → AreBelow (length ps) m → ((i : ℕ) → has i a ≡ true → place_in i ps ≡ place_of i a) → ArePlacesOf (a ++ m) (noted at m ps)
last_places a m at ps e d below h =
    let alone : a ++ (m ++ []) ≡ a ++ m = ap (λ (x : List Node). a ++ x) (append-nil m) in
    let r = renoted a m [] ps (subst AreDistinct (sym alone) d) below (record { before = h; behind = λ i e. absurd cc }) in
    subst (λ (x : List Node). ArePlacesOf x (noted at m ps)) alone (subst (λ (j : ℕ). ArePlacesOf (a ++ (m ++ [])) (noted j m ps)) e r)

-- ---- a block goes

pub closed_part : (at to : ℕ) (ns : List Node) → IsBoundary at ns → between at (used (without at to ns)) (without at to ns) ≡ since to ns
closed_part at to ns b = last_part (until at ns) (since to ns) at b

pub closed_places : (at to : ℕ) (ns : List Node) (ps : List ℕ) → IsBoundary at ns → AreDistinct (without at to ns) → AreBelow (length ps) (between at (used (without at to ns)) (without at to ns)) → ArePlacesOf ns ps
    → ArePlacesOf (without at to ns) (noted at (between at (used (without at to ns)) (without at to ns)) ps)
closed_places at to ns ps b d below h =
    let a = until at ns in
    let part = closed_part at to ns b in
    let first = before_places a (since at ns) ps (subst (λ (x : List Node). ArePlacesOf x ps) (sym (until-since at ns)) h) in
    subst (λ (m : List Node). ArePlacesOf (without at to ns) (noted at m ps)) (sym part) (last_places a (since to ns) at ps b d (subst (AreBelow (length ps)) part below) first)

-- ---- one node more

pub pushed_places : (ns : List Node) (n : Node) (ps : List ℕ) → AreDistinct (ns ++ n ∷ []) → n.id < length ps → ArePlacesOf ns ps → ArePlacesOf (ns ++ n ∷ []) (set ps n.id (used ns))
pushed_places ns n ps d lt h =
    renoted ns (n ∷ []) [] ps d (lt, tt) (record { before = before_places ns [] ps (subst (λ (x : List Node). ArePlacesOf x ps) (sym (append-nil ns)) h); behind = λ i e. absurd cc })
