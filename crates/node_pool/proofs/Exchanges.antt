-- Two blocks of nodes that change places.
use Rattle.node_pool.proofs.Shared.{List, ap, append_assoc, arith, length, refl, subst, sym, ℕ, ◌++◌, ◌+◌, ◌-◌, ◌∙◌, ◌≡◌, ◌≤◌, append_cancel_left, Node, AreBelow}
use Rattle.node_pool.proofs.{Shared.{ArePlacesOf, noted, AreDistinct, used, IsBoundary, between, exchanged, since, swapped, until}, Cuts.{cut, cut3, until-append, until-since}}
use Rattle.node_pool.proofs.{Ids.{AreApart, AreApart-sym, AreDistinct-parts, not_both}, Noting.{AreOutside, before_places, behind_places, length-noted, noted_other, outside, renoted}}
use Rattle.node_pool.proofs.{Sizes.used-append, Splits.{between-append, boundary-append, since-append_two, swapped-append}}

-- the nodes of two blocks, the first before the second
pub record AreBlocks (i j k l : ℕ) (ns : List Node) : Type 0 where
  pub first : IsBoundary i ns
  pub mid : IsBoundary j ns
  pub second : IsBoundary k ns
  pub end : IsBoundary l ns
  pub low : i ≤ j
  pub apart : j ≤ k
  pub high : k ≤ l

-- four cuts
pub record IsCut4 (i j k l : ℕ) (ns : List Node) : Type 0 where
  pub whole : ns ≡ until i ns ++ (between i j ns ++ (between j k ns ++ (between k l ns ++ since l ns)))
  pub first : used (until i ns) ≡ i
  pub second : used (between i j ns) ≡ j - i
  pub third : used (between j k ns) ≡ k - j
  pub fourth : used (between k l ns) ≡ l - k

pub cut4 : (i j k l : ℕ) (ns : List Node) → AreBlocks i j k l ns → IsCut4 i j k l ns
cut4 i j k l ns r =
    let one = cut3 i j k ns r.first r.mid r.second r.low r.apart in
    let two = cut k l ns r.second r.end r.high in
    let behind : since k ns ≡ between k l ns ++ since l ns = append_cancel_left (until k ns) (since k ns) (between k l ns ++ since l ns) (until-since k ns ∙ two.whole) in
    record {
      whole = one.whole ∙ ap (λ (t : List Node). until i ns ++ (between i j ns ++ (between j k ns ++ t))) behind;
      first = one.first;
      second = one.second;
      third = one.third;
      fourth = two.size;
    }

-- blocks that are known change places
pub exchanged-append : (a x y z b : List Node) (i j k l : ℕ) → i ≡ used a → j ≡ used a + used x → k ≡ used a + used x + used y → l ≡ used a + used x + used y + used z
    → exchanged i j k l (a ++ (x ++ (y ++ (z ++ b)))) ≡ a ++ (z ++ (y ++ (x ++ b)))
exchanged-append a x y z b i j k l hi hj hk hl =
    let ns = a ++ (x ++ (y ++ (z ++ b))) in
    let grouped : (a ++ x) ++ (y ++ (z ++ b)) ≡ ns = append_assoc a x (y ++ (z ++ b)) in
    let behind : ((a ++ x) ++ y) ++ (z ++ b) ≡ ns = append_assoc (a ++ x) y (z ++ b) ∙ grouped in
    let two : used (a ++ x) ≡ used a + used x = used-append a x in
    let three : used ((a ++ x) ++ y) ≡ used a + used x + used y = omega (arith, used-append (a ++ x) y, two) in
    let start : until i ns ≡ a = ap (λ (n : ℕ). until n ns) hi ∙ until-append a (x ++ (y ++ (z ++ b))) in
    let first : between i j ns ≡ x = between-append a x (y ++ (z ++ b)) i j hi hj in
    let middle : between j k ns ≡ y = subst (λ (t : List Node). between j k t ≡ y) grouped (between-append (a ++ x) y (z ++ b) j k (hj ∙ sym two) (omega arith)) in
    let second : between k l ns ≡ z = subst (λ (t : List Node). between k l t ≡ z) behind (between-append ((a ++ x) ++ y) z b k l (hk ∙ sym three) (omega arith)) in
    let last : since l ns ≡ b = subst (λ (t : List Node). since l t ≡ b) behind (since-append_two ((a ++ x) ++ y) z b l (omega arith)) in
    rw (start, first, middle, second, last) refl

-- after the second block went before the first, what stood between them goes before the first
pub record IsHalf (i j k l : ℕ) (ns ms : List Node) : Type 0 where
  pub start : IsBoundary (i + (l - k)) ms
  pub mid : IsBoundary (j + (l - k)) ms
  pub end : IsBoundary l ms
  pub done : swapped (i + (l - k)) (j + (l - k)) l ms ≡ exchanged i j k l ns

half_split : (a x y z b : List Node) (i j k l : ℕ) → used a ≡ i → used x ≡ j - i → used y ≡ k - j → used z ≡ l - k → i ≤ j → j ≤ k → k ≤ l
    → IsHalf i j k l (a ++ (x ++ (y ++ (z ++ b)))) (swapped i k l (a ++ (x ++ (y ++ (z ++ b)))))
half_split a x y z b i j k l ha hx hy hz h1 h2 h3 =
    let ns = a ++ (x ++ (y ++ (z ++ b))) in
    let ms = (a ++ z) ++ (x ++ (y ++ b)) in
    let two : used (a ++ z) ≡ i + (l - k) = omega (arith, used-append a z) in
    let three : used ((a ++ z) ++ x) ≡ j + (l - k) = omega (arith, used-append (a ++ z) x, two) in
    let four : used (((a ++ z) ++ x) ++ y) ≡ l = omega (arith, used-append ((a ++ z) ++ x) y, three) in
    let both : used (x ++ y) ≡ k - i = omega (arith, used-append x y) in
    let was : ns ≡ a ++ ((x ++ y) ++ (z ++ b)) = simp append_assoc in
    let is : swapped i k l ns ≡ ms = ap (swapped i k l) was ∙ swapped-append a (x ++ y) z b i k l (sym ha) (omega arith) (omega arith) ∙ simp append_assoc in
    let turned = swapped-append (a ++ z) x y b (i + (l - k)) (j + (l - k)) l (sym two) (omega arith) (omega arith) in
    subst (IsHalf i j k l ns) (sym is) (record {
      start = boundary-append (a ++ z) (x ++ (y ++ b)) (i + (l - k)) (sym two);
      mid = subst (IsBoundary (j + (l - k))) (append_assoc (a ++ z) x (y ++ b)) (boundary-append ((a ++ z) ++ x) (y ++ b) (j + (l - k)) (sym three));
      end = subst (IsBoundary l) (append_assoc ((a ++ z) ++ x) y b ∙ append_assoc (a ++ z) x (y ++ b)) (boundary-append (((a ++ z) ++ x) ++ y) b l (sym four));
      done = turned ∙ append_assoc a z (y ++ (x ++ b)) ∙ sym (exchanged-append a x y z b i j k l (sym ha) (omega arith) (omega arith) (omega arith));
    })

pub half : (i j k l : ℕ) (ns : List Node) → AreBlocks i j k l ns → IsHalf i j k l ns (swapped i k l ns)
half i j k l ns r =
    let w = cut4 i j k l ns r in
    subst (λ (t : List Node). IsHalf i j k l t (swapped i k l t)) (sym w.whole)
    (half_split (until i ns) (between i j ns) (between j k ns) (between k l ns) (since l ns) i j k l w.first w.second w.third w.fourth r.low r.apart r.high)

-- ---- two blocks of one size

-- nodes of which two blocks of one size changed places
pub record AreExchanged (i j k l : ℕ) (ns ms : List Node) : Type 0 where
  pub before : List Node
  pub one : List Node
  pub middle : List Node
  pub two : List Node
  pub behind : List Node
  pub was : ns ≡ before ++ (one ++ (middle ++ (two ++ behind)))
  pub is : ms ≡ before ++ (two ++ (middle ++ (one ++ behind)))
  pub size : used two ≡ used one
  pub first : used before ≡ i
  pub mid : used (before ++ two) ≡ j
  pub second : used ((before ++ two) ++ middle) ≡ k
  pub end : used (((before ++ two) ++ middle) ++ one) ≡ l

pub are_exchanged : (i j k l : ℕ) (ns : List Node) → AreBlocks i j k l ns → l - k ≡ j - i → AreExchanged i j k l ns (exchanged i j k l ns)
are_exchanged i j k l ns r same =
    let w = cut4 i j k l ns r in
    let a = until i ns in
    let x = between i j ns in
    let y = between j k ns in
    let z = between k l ns in
    let mid : used (a ++ z) ≡ j = omega (arith, used-append a z, w.first, w.fourth, r.low) in
    let second : used ((a ++ z) ++ y) ≡ k = omega (arith, used-append (a ++ z) y, mid, w.third, r.apart) in
    let end : used (((a ++ z) ++ y) ++ x) ≡ l = omega (arith, used-append ((a ++ z) ++ y) x, second, w.second, same, r.high) in
    record {
      before = a;
      one = x;
      middle = y;
      two = z;
      behind = since l ns;
      was = w.whole;
      is = refl;
      size = w.fourth ∙ same ∙ sym w.second;
      first = w.first;
      mid = mid;
      second = second;
      end = end;
    }

-- the four places are boundaries still, and each block is the other one
pub record HasBlocks (i j k l : ℕ) (ms one two : List Node) : Type 0 where
  pub first : IsBoundary i ms
  pub mid : IsBoundary j ms
  pub second : IsBoundary k ms
  pub end : IsBoundary l ms
  pub low : between i j ms ≡ two
  pub high : between k l ms ≡ one

has_blocks : (i j k l : ℕ) (a x y z b : List Node) → used a ≡ i → used (a ++ z) ≡ j → used ((a ++ z) ++ y) ≡ k → used (((a ++ z) ++ y) ++ x) ≡ l → HasBlocks i j k l (a ++ (z ++ (y ++ (x ++ b)))) x z
has_blocks i j k l a x y z b h m n p = grind (arith, append_assoc, boundary-append, between-append, used-append)

pub blocks_of : {i j k l : ℕ} {ns ms : List Node} (e : AreExchanged i j k l ns ms) → HasBlocks i j k l ms e.one e.two
blocks_of {i = i} {j = j} {k = k} {l = l} e = subst (λ (t : List Node). HasBlocks i j k l t e.one e.two) (sym e.is) (has_blocks i j k l e.before e.one e.middle e.two e.behind e.first e.mid e.second e.end)

-- only the places of the two blocks are noted again
exchanged_parts : (a x y z b : List Node) (ps : List ℕ) → used z ≡ used x → AreDistinct (a ++ (x ++ (y ++ (z ++ b)))) → AreDistinct (a ++ (z ++ (y ++ (x ++ b)))) → AreBelow (length ps) z → AreBelow (length ps) x → ArePlacesOf (a ++ (x ++ (y ++ (z ++ b)))) ps
    → ArePlacesOf (a ++ (z ++ (y ++ (x ++ b)))) (noted (used ((a ++ z) ++ y)) x (noted (used a) z ps))
exchanged_parts a x y z b ps e dn dm bz bx h =
    let ps1 = noted (used a) z ps in
    let was : (a ++ (x ++ y)) ++ (z ++ b) ≡ a ++ (x ++ (y ++ (z ++ b))) = simp append_assoc in
    let is : (a ++ (z ++ y)) ++ (x ++ b) ≡ a ++ (z ++ (y ++ (x ++ b))) = simp append_assoc in
    let old = AreDistinct-parts (a ++ (x ++ y)) (z ++ b) (subst AreDistinct (sym was) dn) in
    let new = AreDistinct-parts (a ++ (z ++ y)) (x ++ b) (subst AreDistinct (sym is) dm) in
    let second : AreApart z b = (AreDistinct-parts z b old.1).2 in
    let there : ArePlacesOf ((a ++ (x ++ y)) ++ (z ++ b)) ps = subst (λ (t : List Node). ArePlacesOf t ps) (sym was) h in
    let grouped : ((a ++ (x ++ y)) ++ z) ++ b ≡ (a ++ (x ++ y)) ++ (z ++ b) = append_assoc (a ++ (x ++ y)) z b in
    let to : used ((a ++ z) ++ y) ≡ used (a ++ (z ++ y)) = ap used (append_assoc a z y) in
    let one : ArePlacesOf (a ++ (z ++ y)) ps1 = renoted a z y ps new.0 bz (outside a z x y ps old.0 (before_places (a ++ (x ++ y)) (z ++ b) ps there) e) in
    let sizes : used ((a ++ (x ++ y)) ++ z) ≡ used (a ++ (z ++ y)) + used x = omega (arith, used-append (a ++ (x ++ y)) z, used-append a (x ++ y), used-append x y, used-append a (z ++ y), used-append z y, e) in
    let o : AreOutside (a ++ (z ++ y)) x b ps1 = record {
      before = one;
      behind = λ n k. noted_other n (used a) z ps (not_both n b z (AreApart-sym z b second) k)
          ∙ behind_places ((a ++ (x ++ y)) ++ z) b ps (subst AreDistinct (sym grouped) (subst AreDistinct (sym was) dn)) (subst (λ (t : List Node). ArePlacesOf t ps) (sym grouped) there) n k ∙ omega (arith, sizes);
    } in
    let two = renoted (a ++ (z ++ y)) x b ps1 (subst AreDistinct (sym is) dm) (subst (λ (n : ℕ). AreBelow n x) (sym (length-noted (used a) z ps)) bx) o in
    subst (λ (t : List Node). ArePlacesOf t (noted (used ((a ++ z) ++ y)) x ps1)) is (subst (λ (n : ℕ). ArePlacesOf ((a ++ (z ++ y)) ++ (x ++ b)) (noted n x ps1)) (sym to) two)

pub exchanged_places : {i j k l : ℕ} {ns ms : List Node} (ps : List ℕ) → AreExchanged i j k l ns ms → AreDistinct ns → AreDistinct ms → AreBelow (length ps) (between i j ms) → AreBelow (length ps) (between k l ms) → ArePlacesOf ns ps
    → ArePlacesOf ms (noted k (between k l ms) (noted i (between i j ms) ps))
exchanged_places {i = i} {j = j} {k = k} {l = l} {ns = ns} {ms = ms} ps e dn dm bi bk h =
    let b = blocks_of e in
    let r = exchanged_parts e.before e.one e.middle e.two e.behind ps e.size (subst AreDistinct e.was dn) (subst AreDistinct e.is dm) (subst (AreBelow (length ps)) b.low bi) (subst (AreBelow (length ps)) b.high bk) (subst (λ (t : List Node). ArePlacesOf t ps) e.was h) in
    let noted_is : noted k (between k l ms) (noted i (between i j ms) ps) ≡ noted (used ((e.before ++ e.two) ++ e.middle)) e.one (noted (used e.before) e.two ps) = rw (e.first, e.second, b.low, b.high) refl in
    subst (λ (t : List ℕ). ArePlacesOf ms t) (sym noted_is) (subst (λ (t : List Node). ArePlacesOf t (noted (used ((e.before ++ e.two) ++ e.middle)) e.one (noted (used e.before) e.two ps))) (sym e.is) r)
