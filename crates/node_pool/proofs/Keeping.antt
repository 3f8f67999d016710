-- What a change of the nodes leaves of the pool's fields.
use Rattle.node_pool.proofs.Shared.{Bool, List, [], ap, arith, cond, eqb, false, length, refl, set, subst, sym, true, ℕ, ◌++◌, ◌+◌, ◌-◌, ◌<◌, ◌^◌, ◌∙◌, ◌∷◌, ◌≡◌, ◌≤◌, eq-eqb, eqb-true, length-set}
use Rattle.node_pool.proofs.Shared.{Node, fresh, Payload, Contents, IsContents, AreBelow, AreFlagsOf, HasUnused, IsLeastUnused, flag, without_ids, IsKept, state_of, ArePlacesOf, place_in, size_of}
use Rattle.node_pool.proofs.Shared.{noted, AreDistinct, has, place_of, used, IsBoundary, between, exchanged, put_before, since, swapped, until, without, State, Inside}
use Rattle.node_pool.proofs.{Cuts.{AreDistinct-swap, AreDistinct-without, boundary_le, cut, cut3, until-since}, Exchanges.{AreBlocks, are_exchanged, blocks_of, exchanged_places, half}}
use Rattle.node_pool.proofs.{Found.{AreDistinct-same, has-same}, Ids.{AreApart-parts, AreApart-sym, AreDistinct-append, AreDistinct-parts, has-append, not_both}}
use Rattle.node_pool.proofs.{Marks.{below, flag-set, flag-without_ids, flag_inside, length-without_ids, unused}, Noting.{before_places, closed_part, closed_places, last_places, length-noted}}
use Rattle.node_pool.proofs.{Noting.{or_true, place-same, pushed_places, turned, turned_end, turned_places, turned_start}, Sizes.{length_le_used}}

-- what is known of a pool's nodes is known of its buffer's
pub boundary_in : (p : Inside) (s : State) (at : ℕ) → state_of p ≡ s → IsBoundary at s.nodes → IsBoundary at p.buffer.nodes
boundary_in p s at e b = subst (λ (x : State). IsBoundary at x.nodes) (sym e) b

pub live_in : (p : Inside) (s : State) (id : ℕ) → state_of p ≡ s → has id s.nodes ≡ true → has id p.buffer.nodes ≡ true
live_in p s id e h = ap (λ (x : State). has id x.nodes) e ∙ h

pub end_small : (p : Inside) (s : State) (at : ℕ) → IsKept p → state_of p ≡ s → IsBoundary at s.nodes → at < 2 ^ 32
end_small p s at k e b = omega (arith, boundary_le at p.buffer.nodes (boundary_in p s at e b), k.pool.fits, k.pool.size.most)

-- other nodes of the same identifiers
pub record SameIds (ns ms : List Node) : Type 0 where
  pub distinct : AreDistinct ms
  pub same : (i : ℕ) → has i ms ≡ has i ns

pub kept : (p q : Inside) (ms : List Node) → IsKept p → q.buffer ≡ record p.buffer { nodes = ms } → IsContents q.buffer → length q.taken ≡ length p.taken → length q.places ≡ length p.places
    → AreDistinct ms → AreFlagsOf ms q.taken → ArePlacesOf ms q.places → IsKept q
kept p q ms k e h l m d f s = grind arith

-- the identifiers stay
pub kept_same : (p q : Inside) (ms : List Node) → IsKept p → q.buffer ≡ record p.buffer { nodes = ms } → IsContents q.buffer → q.taken ≡ p.taken → length q.places ≡ length p.places → SameIds p.buffer.nodes ms → ArePlacesOf ms q.places → IsKept q
kept_same p q ms k e h t l s o = kept p q ms k e h (ap length t) l s.distinct (λ i. ap (flag i) t ∙ k.flags i ∙ sym (s.same i)) o

-- one node in place of another of its identifier and its size
pub changed : (p q : Inside) (ms a b : List Node) (n m : Node) → IsKept p → q.buffer ≡ record p.buffer { nodes = ms } → IsContents q.buffer → q.taken ≡ p.taken → q.places ≡ p.places
    → p.buffer.nodes ≡ a ++ n ∷ b → ms ≡ a ++ m ∷ b → n.id ≡ m.id → size_of n ≡ size_of m → IsKept q
changed p q ms a b n m k e h t s was is id size =
    let ids : SameIds p.buffer.nodes ms = record {
      distinct = subst AreDistinct (sym is) (AreDistinct-same a n m b id (subst AreDistinct was k.pool.distinct));
      same = λ i. ap (has i) is
          ∙ has-same a n m b i id ∙ ap (has i) (sym was);
    } in
    kept_same p q ms k e h t (ap length s) ids
    (λ i live. ap (place_in i) s ∙ k.places i (sym (ids.same i) ∙ live) ∙ ap (place_of i) was ∙ sym (place-same a n m b i id size) ∙ ap (place_of i) (sym is))

-- a node's identifier has a place
pub inside : (p : Inside) → IsKept p → (i : ℕ) → has i p.buffer.nodes ≡ true → i < length p.places
inside p k i h = omega (arith, flag_inside i p.taken (k.flags i ∙ h), k.flags_length, k.places_length)

-- ---- blocks change places

turn : (a x y d : Bool) → cond a true (cond y true (cond x true d)) ≡ cond a true (cond x true (cond y true d))
turn a x y d = grind arith

has-four : (i : ℕ) (a x y d : List Node) → has i (a ++ (x ++ (y ++ d))) ≡ cond (has i a) true (cond (has i x) true (cond (has i y) true (has i d)))
has-four i a x y d = grind (arith, has-append)

swapped_ids : (i j k : ℕ) (ns : List Node) → IsBoundary i ns → IsBoundary j ns → IsBoundary k ns → i ≤ j → j ≤ k → AreDistinct ns → SameIds ns (swapped i j k ns)
swapped_ids i j k ns a b c h l d = grind (arith, cut3, AreDistinct-swap, has-four, turn)

has_first : (i : ℕ) (a b : List Node) → has i a ≡ true → has i (a ++ b) ≡ true
has_first i a b h = grind (arith, has-append)

has_later : (i : ℕ) (a b : List Node) → has i b ≡ true → has i (a ++ b) ≡ true
has_later i a b h = grind (arith, has-append, or_true)

between_has : (i at to : ℕ) (ns : List Node) → IsBoundary at ns → IsBoundary to ns → at ≤ to → has i (between at to ns) ≡ true → has i ns ≡ true
between_has i at to ns a b le h = ap (has i) (cut at to ns a b le).whole ∙ has_later i (until at ns) _ (has_first i _ (since to ns) h)

since_has : (i at : ℕ) (ns : List Node) → has i (since at ns) ≡ true → has i ns ≡ true
since_has i at ns h = ap (has i) (sym (until-since at ns)) ∙ has_later i (until at ns) _ h

pub swapped_known : (p : Inside) (i j k : ℕ) → IsKept p → IsBoundary i p.buffer.nodes → IsBoundary j p.buffer.nodes → IsBoundary k p.buffer.nodes → i ≤ j → j ≤ k → AreBelow (length p.places) (between i k (swapped i j k p.buffer.nodes))
swapped_known p i j k kept a b c h1 h2 =
    let ns = p.buffer.nodes in
    let t = turned i j k ns a b c h1 h2 in
    below (length p.places) _ (λ n h. inside p kept n (sym ((swapped_ids i j k ns a b c h1 h2 kept.pool.distinct).same n) ∙ between_has n i k (swapped i j k ns) (turned_start t) (turned_end t) (omega arith) h))

pub rotated_block : (p q : Inside) (i j k : ℕ) → IsKept p → IsBoundary i p.buffer.nodes → IsBoundary j p.buffer.nodes → IsBoundary k p.buffer.nodes → i ≤ j → j ≤ k → q.taken ≡ p.taken
    → q.buffer ≡ record p.buffer { nodes = swapped i j k p.buffer.nodes } → IsContents q.buffer → q.places ≡ noted i (between i k (swapped i j k p.buffer.nodes)) p.places → IsKept q
rotated_block p q i j k kept a b c h1 h2 t e h s =
    let ns = p.buffer.nodes in
    let ms = swapped i j k ns in
    let ids = swapped_ids i j k ns a b c h1 h2 kept.pool.distinct in
    let known = swapped_known p i j k kept a b c h1 h2 in
    kept_same p q ms kept e h t (ap length s ∙ length-noted i (between i k ms) p.places) ids
    (subst (ArePlacesOf ms) (sym s) (turned_places p.places (turned i j k ns a b c h1 h2) kept.pool.distinct ids.distinct known kept.places))

-- ----two blocks of one size change places

exchanged_ids : (i j k l : ℕ) (ns : List Node) → AreBlocks i j k l ns → AreDistinct ns → SameIds ns (exchanged i j k l ns)
exchanged_ids i j k l ns r d =
    let n = half i j k l ns r in
    let one = swapped_ids i k l ns r.first r.second r.end (omega (arith, r.low, r.apart)) r.high d in
    let two = swapped_ids (i + (l - k)) (j + (l - k)) l (swapped i k l ns) n.start n.mid n.end (omega (arith, r.low)) (omega (arith, r.apart, r.high)) one.distinct in
    subst (SameIds ns) n.done (record { distinct = two.distinct; same = λ m. two.same m ∙ one.same m })

pub exchanged_known : (p : Inside) (i j k l s t : ℕ) → IsKept p → AreBlocks i j k l p.buffer.nodes → IsBoundary s (exchanged i j k l p.buffer.nodes) → IsBoundary t (exchanged i j k l p.buffer.nodes) → s ≤ t
    → AreBelow (length p.places) (between s t (exchanged i j k l p.buffer.nodes))
exchanged_known p i j k l s t kept r a b h =
    let ns = p.buffer.nodes in
    below (length p.places) _ (λ n e. inside p kept n (sym ((exchanged_ids i j k l ns r kept.pool.distinct).same n) ∙ between_has n s t (exchanged i j k l ns) a b h e))

-- what noting the two blocks asks
pub record AreNotable (i j k l : ℕ) (ms : List Node) (places : List ℕ) : Type 0 where
  pub first : IsBoundary i ms
  pub mid : IsBoundary j ms
  pub second : IsBoundary k ms
  pub end : IsBoundary l ms
  pub low : AreBelow (length places) (between i j ms)
  pub high : AreBelow (length places) (between k l ms)

pub notable : (p : Inside) (b : Contents) (i j k l : ℕ) → IsKept p → AreBlocks i j k l p.buffer.nodes → l - k ≡ j - i → b ≡ record p.buffer { nodes = exchanged i j k l p.buffer.nodes } → AreNotable i j k l b.nodes p.places
notable p b i j k l kept r same e =
    let x = blocks_of (are_exchanged i j k l p.buffer.nodes r same) in
    subst (λ (t : List Node). AreNotable i j k l t p.places) (sym (ap (λ (c : Contents). c.nodes) e)) (record {
      first = x.first;
      mid = x.mid;
      second = x.second;
      end = x.end;
      low = exchanged_known p i j k l i j kept r x.first x.mid r.low;
      high = exchanged_known p i j k l k l kept r x.second x.end r.high;
    })

pub exchanged_blocks : (p q : Inside) (i j k l : ℕ) → IsKept p → AreBlocks i j k l p.buffer.nodes → l - k ≡ j - i → q.taken ≡ p.taken
    → q.buffer ≡ record p.buffer { nodes = exchanged i j k l p.buffer.nodes } → IsContents q.buffer
    → q.places ≡ noted k (between k l (exchanged i j k l p.buffer.nodes)) (noted i (between i j (exchanged i j k l p.buffer.nodes)) p.places) → IsKept q
exchanged_blocks p q i j k l kept r same t e h s =
    let ns = p.buffer.nodes in
    let ms = exchanged i j k l ns in
    let ids = exchanged_ids i j k l ns r kept.pool.distinct in
    let x = are_exchanged i j k l ns r same in
    let b = blocks_of x in
    let low = exchanged_known p i j k l i j kept r b.first b.mid r.low in
    let high = exchanged_known p i j k l k l kept r b.second b.end r.high in
    kept_same p q ms kept e h t (ap length s ∙ length-noted k (between k l ms) (noted i (between i j ms) p.places) ∙ length-noted i (between i j ms) p.places) ids
    (subst (ArePlacesOf ms) (sym s) (exchanged_places p.places x kept.pool.distinct ids.distinct low high kept.places))

-- ---- one node more

both_ways : (i id : ℕ) (h : Bool) → cond (eqb i id) true h ≡ cond h true (cond (eqb id i) true false)
both_ways i id h = grind (arith, eqb-true, eq-eqb)

among : (i id : ℕ) (x y : Bool) → cond (eqb i id) true (cond x true y) ≡ cond x true (cond (eqb id i) true y)
among i id x y = grind (arith, eqb-true, eq-eqb)

pub placed : (p q : Inside) (id : ℕ) (x : Payload) → IsKept p → IsLeastUnused id p.taken → q.taken ≡ set p.taken id true → q.places ≡ set p.places id (used p.buffer.nodes)
    → q.buffer ≡ record p.buffer { nodes = p.buffer.nodes ++ fresh id x ∷ [] } → IsContents q.buffer → IsKept q
placed p q id x k u t s e h =
    let ns = p.buffer.nodes in
    let n = fresh id x in
    let free : has id ns ≡ false = sym (k.flags id) ∙ u.unused in
    let distinct = AreDistinct-append ns (n ∷ []) k.pool.distinct (refl, tt) (AreApart-sym (n ∷ []) ns (free, tt)) in
    let new : id < length p.places = omega (arith, u.inside, k.flags_length, k.places_length) in
    kept p q (ns ++ n ∷ []) k e h (ap length t ∙ length-set p.taken id true) (ap length s ∙ length-set p.places id (used ns)) distinct
    (λ i. ap (flag i) t ∙ flag-set i id p.taken true u.inside ∙ ap (λ (b : Bool). cond (eqb i id) true b) (k.flags i) ∙ both_ways i id (has i ns) ∙ sym (has-append i ns (n ∷ [])))
    (subst (ArePlacesOf (ns ++ n ∷ [])) (sym s) (pushed_places ns n p.places distinct new k.places))

-- the nodes behind a place
pub behind_known : (p : Inside) (to : ℕ) → IsKept p → AreBelow (length p.places) (since to p.buffer.nodes)
behind_known p to k = below (length p.places) _ (λ i h. inside p k i (since_has i to p.buffer.nodes h))

pub new_known : (p : Inside) (n : Node) (at : ℕ) → IsKept p → IsLeastUnused n.id p.taken → AreBelow (length p.places) (n ∷ since at p.buffer.nodes)
new_known p n at k u = (omega (arith, u.inside, k.flags_length, k.places_length), behind_known p at k)

fresh_distinct : (a : List Node) (n : Node) (c : List Node) → AreDistinct (a ++ c) → has n.id (a ++ c) ≡ false → AreDistinct (a ++ n ∷ c)
fresh_distinct a n c d h = grind (arith, has-append, AreDistinct-parts, AreDistinct-append, AreApart-sym)

pub placed_before : (p q : Inside) (n : Node) (at : ℕ) → IsKept p → IsBoundary at p.buffer.nodes → IsLeastUnused n.id p.taken → q.taken ≡ set p.taken n.id true → q.places ≡ noted at (n ∷ since at p.buffer.nodes) p.places
    → q.buffer ≡ record p.buffer { nodes = put_before at n p.buffer.nodes } → IsContents q.buffer → IsKept q
placed_before p q n at k b u t s e h =
    let ns = p.buffer.nodes in
    let a = until at ns in
    let c = since at ns in
    let whole : ns ≡ a ++ c = sym (until-since at ns) in
    let free : has n.id (a ++ c) ≡ false = ap (has n.id) (sym whole) ∙ sym (k.flags n.id) ∙ u.unused in
    let distinct : AreDistinct (a ++ n ∷ c) = fresh_distinct a n c (subst AreDistinct whole k.pool.distinct) free in
    kept p q (a ++ n ∷ c) k e h (ap length t ∙ length-set p.taken n.id true) (ap length s ∙ length-noted at (n ∷ c) p.places) distinct
    (λ i. ap (flag i) t ∙ flag-set i n.id p.taken true u.inside ∙ ap (λ (x : Bool). cond (eqb i n.id) true x) (k.flags i ∙ ap (has i) whole ∙ has-append i a c) ∙ among i n.id (has i a) (has i c) ∙ sym (has-append i a (n ∷ c)))
    (subst (ArePlacesOf (a ++ n ∷ c)) (sym s)
    (last_places a (n ∷ c) at p.places b distinct (new_known p n at k u) (before_places a c p.places (subst (λ (x : List Node). ArePlacesOf x p.places) whole k.places))))

-- a pool with room for a node has an identifier for it
pub room_unused : (p : Inside) (needed : ℕ) → IsKept p → 8 ≤ needed → needed ≤ p.buffer.size - used p.buffer.nodes → HasUnused p.taken
room_unused p needed k h room = unused p.buffer.nodes p.taken k.flags (omega (arith, k.flags_length, length_le_used p.buffer.nodes, k.pool.fits))

-- ---- a block goes

without_has : (i : ℕ) (a b c : List Node) → AreDistinct (a ++ (b ++ c)) → cond (has i b) false (has i (a ++ (b ++ c))) ≡ has i (a ++ c)
without_has i a b c d =
    let p = AreDistinct-parts a (b ++ c) d in
    grind (arith, has-append, not_both i b a (AreApart-sym a b (AreApart-parts a b c p.2).0), not_both i b c (AreDistinct-parts b c p.1).2)

pub between_below : (p : Inside) (at to : ℕ) → IsKept p → IsBoundary at p.buffer.nodes → IsBoundary to p.buffer.nodes → at ≤ to → AreBelow (length p.taken) (between at to p.buffer.nodes)
between_below p at to k a b le = below (length p.taken) _ (λ i h. flag_inside i p.taken (k.flags i ∙ between_has i at to p.buffer.nodes a b le h))

pub removed_block : (p q : Inside) (at to : ℕ) → IsKept p → IsBoundary at p.buffer.nodes → IsBoundary to p.buffer.nodes → at ≤ to → q.taken ≡ without_ids (between at to p.buffer.nodes) p.taken
    → q.places ≡ noted at (since to p.buffer.nodes) p.places → q.buffer ≡ record p.buffer { nodes = without at to p.buffer.nodes } → IsContents q.buffer → IsKept q
removed_block p q at to k a b le t s e h =
    let ns = p.buffer.nodes in
    let ms = without at to ns in
    let w = (cut at to ns a b le).whole in
    let d : AreDistinct (until at ns ++ (between at to ns ++ since to ns)) = subst AreDistinct w k.pool.distinct in
    let distinct = AreDistinct-without (until at ns) (between at to ns) (since to ns) d in
    let part : since to ns ≡ between at (used ms) ms = sym (closed_part at to ns a) in
    let places : q.places ≡ noted at (between at (used ms) ms) p.places = s ∙ ap (λ (l : List Node). noted at l p.places) part in
    kept p q ms k e h (ap length t ∙ length-without_ids (between at to ns) p.taken) (ap length s ∙ length-noted at (since to ns) p.places) distinct
    (λ i. ap (flag i) t ∙ flag-without_ids i (between at to ns) p.taken (between_below p at to k a b le) ∙ ap (λ (x : Bool). cond (has i (between at to ns)) false x) (k.flags i ∙ ap (has i) w) ∙ without_has i (until at ns) (between at to ns) (since to ns) d)
    (subst (ArePlacesOf ms) (sym places) (closed_places at to ns p.places a distinct (subst (AreBelow (length p.places)) part (behind_known p to k)) k.places))

-- the flags of the nodes behind a place
pub since_below : (p : Inside) (at : ℕ) → IsKept p → AreBelow (length p.taken) (since at p.buffer.nodes)
since_below p at k = below (length p.taken) _ (λ i h. flag_inside i p.taken (k.flags i ∙ since_has i at p.buffer.nodes h))
