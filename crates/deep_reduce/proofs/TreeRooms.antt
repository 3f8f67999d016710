-- A tree whose powers are simple, and the answers of its children: what they count, that they are calm, and what spans them.
use Rattle.deep_reduce.proofs.Shared.{◌≡◌, ℕ, suc, ◌+◌, ◌*◌, ◌≤◌, ◌<◌, ◌⊎◌, inl, inr, ◌<ℤ◌, pos, negsuc, ℤ, List, [], ◌∷◌, ◌++◌, length, Bool, true, false, ◌&&◌, ◌||◌, if◌then◌else◌, refl, ap, ◌∙◌}
use Rattle.deep_reduce.proofs.Shared.{arith, Contains, length-append, and_parts, ints, Contains-append_left, Contains-append_right, IsAssignment, natural_of, is_half_num, is_whole_literal}
use Rattle.deep_reduce.proofs.Shared.{is_half_literal, all_simple, are_all_simple, is_simple_power, roots, roots_of, counted, SpansTree, SpansTrees, Tree, num, symbol, add, mult, power, root, neg}
use Rattle.deep_reduce.proofs.Shared.{sub, Trees, none, more, nodes, names, names_of, is_num, is_symbol, HasNodesFor, SpansNode, node_count, IsNodeAnswer, IsReducedFrom, IsWithinTree, IsCalmAtZero}
use Rattle.deep_reduce.proofs.Shared.{SpansRootOf, power_count, base_in, exponent_in, CountWithin, IsCalm, AreCalm, MeansWhole, zeros, literal_whole, counts_one, numbers_and_others, symbol_zero}
use Rattle.deep_reduce.proofs.Shared.{each_once, some_counted, whole_kept, whole_count_most, kept_counts, half_answer, spans_root_of, tree_first, tree_second, trees_second, all_within}
use Rattle.deep_reduce.proofs.NodeRewrites.{AreReducedFrom, IsOver, over_number, over_symbol, over_undef, over_sum, over_product, over_power, over_root, over_neg, over_sub, over_div}

-- ---- the answers of children

pub record AreWithin (ts us : Trees) : Type 0 where
  pub counts : CountWithin us ts
  pub radicands : List ℕ
  pub few : length radicands ≤ roots_of ts
  pub spanned : SpansTrees radicands us
  pub calm : (ns : List (List ℕ)) → IsAssignment (zeros ns) → ((x : List ℕ) → Contains (names_of ts) x → Contains ns x) → AreCalm (zeros ns) us

pub are_within : (ts us : Trees) → are_all_simple ts ≡ true → AreReducedFrom ts us → AreWithin ts us
are_within none none s h = record { counts = tt; radicands = []; few = omega arith; spanned = tt; calm = λ ns o a. tt }
are_within (more t ts) (more u us) s h =
    let (p, q) = and_parts (all_simple t) (are_all_simple ts) s in
    let x = h.0.room p in
    let xs = are_within ts us q h.1 in
    record {
      counts = (x.counts, xs.counts);
      radicands = x.radicands ++ xs.radicands;
      few = omega (arith, x.few, xs.few, length-append x.radicands xs.radicands);
      spanned = (tree_first x.radicands xs.radicands u x.spanned, trees_second x.radicands xs.radicands us xs.spanned);
      calm = λ ns o a. (x.calm ns o (λ y c. a y (Contains-append_left (names t) (names_of ts) y c)), xs.calm ns o (λ y c. a y (Contains-append_right (names t) (names_of ts) y c)));
    }
are_within ts us s h = absurd h

-- two of them
record AreBothWithin (a b c d : Tree) : Type 0 where
  left : counted c ≤ nodes a
  right : counted d ≤ nodes b
  radicands : List ℕ
  few : length radicands ≤ roots a + roots b
  left_spanned : SpansTree radicands c
  right_spanned : SpansTree radicands d
  calm : (ns : List (List ℕ)) → IsAssignment (zeros ns) → ((x : List ℕ) → Contains (names a ++ names b) x → Contains ns x) → IsCalm (zeros ns) c × IsCalm (zeros ns) d

both_within : (a b c d : Tree) → all_simple a ≡ true → all_simple b ≡ true → IsReducedFrom a c → IsReducedFrom b d → AreBothWithin a b c d
both_within a b c d p q h k =
    let x = h.room p in
    let y = k.room q in
    record {
      left = x.counts;
      right = y.counts;
      radicands = x.radicands ++ y.radicands;
      few = omega (arith, x.few, y.few, length-append x.radicands y.radicands);
      left_spanned = tree_first x.radicands y.radicands c x.spanned;
      right_spanned = tree_second x.radicands y.radicands d y.spanned;
      calm = λ ns o all. (x.calm ns o (λ z c. all z (Contains-append_left (names a) (names b) z c)), y.calm ns o (λ z c. all z (Contains-append_right (names a) (names b) z c)));
    }

-- what spans the root of a tree as well
record SpansRootToo (gs : List ℕ) (c : Tree) : Type 0 where
  radicands : List ℕ
  few : length radicands ≤ suc (length gs)
  spanned : SpansRootOf radicands c

root_too : (gs : List ℕ) (c : Tree) → SpansTree gs c → SpansRootToo gs c
root_too gs (num q) s = record { radicands = natural_of q.num * q.den ∷ []; few = omega arith; spanned = λ l. spans_root_of q (num q) refl (above q.num l) }
  where
    above : (z : ℤ) → 0 < natural_of z → pos 0 <ℤ z
    above (pos n) l = omega (arith, ints)
    above (negsuc n) l = absurd (omega arith)
root_too gs c s = record { radicands = gs; few = omega arith; spanned = s }

-- ---- the node over them

-- what is needed of the node u
pub record IsReadyNode (t u : Tree) : Type 0 where
  pub fits : HasNodesFor (nodes t) u
  pub counts : node_count u ≤ nodes t
  pub radicands : List ℕ
  pub few : length radicands ≤ roots t
  pub spanned : SpansNode radicands u
  pub calm : (ns : List (List ℕ)) → IsAssignment (zeros ns) → ((x : List ℕ) → Contains (names t) x → Contains ns x) → IsCalm (zeros ns) u

-- and where it is half of an odd number as a power
pub record IsReadyHalf (t u : Tree) : Type 0 where
  pub fits : HasNodesFor (nodes t) u
  pub half : is_half_num (exponent_in u) ≡ true
  pub counts : 1 + counted (base_in u) ≤ nodes t
  pub radicands : List ℕ
  pub few : length radicands ≤ roots t
  pub spanned : SpansRootOf radicands (base_in u)
  pub calm : (ns : List (List ℕ)) → IsAssignment (zeros ns) → ((x : List ℕ) → Contains (names t) x → Contains ns x) → IsCalm (zeros ns) (base_in u)

ready_sum : (ts us : Trees) → are_all_simple ts ≡ true → AreReducedFrom ts us → IsReadyNode (add ts) (add us)
ready_sum ts us s h =
    let x = are_within ts us s h in
    let n = all_within us ts x.counts in
    record {
      fits = omega (arith, n);
      counts = omega (arith, n, numbers_and_others us);
      radicands = x.radicands;
      few = x.few;
      spanned = (tt, x.spanned);
      calm = λ ns o a. (tt, x.calm ns o a);
    }

ready_product : (ts us : Trees) → are_all_simple ts ≡ true → AreReducedFrom ts us → IsReadyNode (mult ts) (mult us)
ready_product ts us s h =
    let x = are_within ts us s h in
    let n = all_within us ts x.counts in
    record {
      fits = (omega (arith, n, numbers_and_others us), omega arith, λ l. omega (arith, n, some_counted us l));
      counts = omega (arith, n, numbers_and_others us);
      radicands = x.radicands;
      few = x.few;
      spanned = (tt, x.spanned);
      calm = λ ns o a. (tt, x.calm ns o a);
    }

power_counted : (c f : Tree) (n : ℕ) → 1 + counted c + counted f ≤ n → power_count c f ≤ n
power_counted c f n h = grind (arith, whole_count_most, counts_one)

-- an exponent that means a whole number where the names are 0
ready_power : (b c e f : Tree) → all_simple b ≡ true → all_simple e ≡ true → IsReducedFrom b c → IsReducedFrom e f
    → ((ns : List (List ℕ)) → IsAssignment (zeros ns) → ((x : List ℕ) → Contains (names (power b e)) x → Contains ns x) → MeansWhole (zeros ns) e) → IsReadyNode (power b e) (power c f)
ready_power b c e f p q h k w =
    let x = both_within b e c f p q h k in
    record {
      fits = omega (arith, x.left, x.right, counts_one f);
      counts = power_counted c f (nodes (power b e)) (omega (arith, x.left, x.right));
      radicands = x.radicands;
      few = omega (arith, x.few);
      spanned = (tt, x.left_spanned, x.right_spanned);
      calm = λ ns o a. (whole_kept (zeros ns) e f o k.reduces.meanings (w ns o a), (x.calm ns o a).0, (x.calm ns o a).1);
    }

half_roots : (b e : Tree) → is_half_literal e ≡ true → roots (power b e) ≡ suc (roots b + roots e)
half_roots b e h = ap (λ (z : Bool). (if z then 1 else 0) + roots b + roots e) h ∙ omega arith

ready_half : (b c e f : Tree) → all_simple b ≡ true → all_simple e ≡ true → is_half_literal e ≡ true → IsReducedFrom b c → IsReducedFrom e f → IsReadyHalf (power b e) (power c f)
ready_half b c e f p q l h k =
    let x = both_within b e c f p q h k in
    let r = root_too x.radicands c x.left_spanned in
    record {
      fits = omega (arith, x.left, x.right, counts_one f);
      half = half_answer e f l k.plain;
      counts = omega (arith, x.left, x.right, counts_one f);
      radicands = r.radicands;
      few = omega (arith, r.few, x.few, half_roots b e l);
      spanned = r.spanned;
      calm = λ ns o a. (x.calm ns o a).0;
    }

symbol_whole : (e : Tree) (ns : List (List ℕ)) → is_symbol e ≡ true → ((x : List ℕ) → Contains (names e) x → Contains ns x) → MeansWhole (zeros ns) e
symbol_whole (symbol x) ns h a = symbol_zero ns x (a x (0, omega arith, refl))
symbol_whole e ns h a = cc

simple_power : (b c e f : Tree) → is_simple_power b e ≡ true → all_simple b ≡ true → all_simple e ≡ true → IsReducedFrom b c → IsReducedFrom e f
    → IsReadyNode (power b e) (power c f) ⊎ IsReadyHalf (power b e) (power c f)
simple_power b c e f s p q h k = by (is_whole_literal e) (is_half_literal e) refl refl s
  where
    by : (x y : Bool) → is_whole_literal e ≡ x → is_half_literal e ≡ y → (x || y || ((is_num b || is_symbol b) && is_symbol e)) ≡ true
        → IsReadyNode (power b e) (power c f) ⊎ IsReadyHalf (power b e) (power c f)
    by true y w l t = inl (ready_power b c e f p q h k (λ ns o a. literal_whole (zeros ns) e w))
    by false true w l t = inr (ready_half b c e f p q l h k)
    by false false w l t = inl (ready_power b c e f p q h k (λ ns o a. symbol_whole e ns (and_parts _ _ t).1 (λ x i. a x (Contains-append_right (names b) (names e) x i))))

ready_root : (a c : Tree) → all_simple a ≡ true → IsReducedFrom a c → IsReadyNode (root a) (root c)
ready_root a c s h =
    let x = h.room s in
    let r = root_too x.radicands c x.spanned in
    record {
      fits = omega (arith, x.counts);
      counts = omega (arith, x.counts, kept_counts c);
      radicands = r.radicands;
      few = omega (arith, r.few, x.few);
      spanned = r.spanned;
      calm = λ ns o k. (tt, x.calm ns o k);
    }

ready_neg : (a c : Tree) → all_simple a ≡ true → IsReducedFrom a c → IsReadyNode (neg a) (neg c)
ready_neg a c h k =
    let x = k.room h in
    record {
      fits = omega (arith, x.counts);
      counts = omega (arith, x.counts);
      radicands = x.radicands;
      few = x.few;
      spanned = (tt, x.spanned);
      calm = λ ns o l. (tt, x.calm ns o l);
    }

ready_sub : (a c b d : Tree) → all_simple a && all_simple b ≡ true → IsReducedFrom a c → IsReducedFrom b d → IsReadyNode (sub a b) (sub c d)
ready_sub a c b d s h k =
    let (p, q) = and_parts (all_simple a) (all_simple b) s in
    let x = both_within a b c d p q h k in
    record {
      fits = omega (arith, x.left, x.right);
      counts = omega (arith, x.left, x.right);
      radicands = x.radicands;
      few = x.few;
      spanned = (tt, x.left_spanned, x.right_spanned);
      calm = λ ns o l. (tt, (x.calm ns o l).0, (x.calm ns o l).1);
    }

pub ready : (t u : Tree) → all_simple t ≡ true → IsOver t u → IsReadyNode t u ⊎ IsReadyHalf t u
ready t u s (over_number q) = inl (record { fits = omega arith; counts = omega arith; radicands = []; few = omega arith; spanned = tt; calm = λ ns o a. tt })
ready t u s (over_symbol x) = inl (record { fits = omega arith; counts = omega arith; radicands = []; few = omega arith; spanned = tt; calm = λ ns o a. tt })
ready t u s over_undef = inl (record { fits = omega arith; counts = omega arith; radicands = []; few = omega arith; spanned = tt; calm = λ ns o a. tt })
ready t u s (over_sum ts us h) = inl (ready_sum ts us s h)
ready t u s (over_product ts us h) = inl (ready_product ts us s h)
ready t u s (over_power b c e f h k) =
    let (both, q) = and_parts (is_simple_power b e && all_simple b) (all_simple e) s in
    let (simple, p) = and_parts (is_simple_power b e) (all_simple b) both in
    simple_power b c e f simple p q h k
ready t u s (over_root a c h) = inl (ready_root a c s h)
ready t u s (over_neg a c h) = inl (ready_neg a c s h)
ready t u s (over_sub a c b d h k) = inl (ready_sub a c b d s h k)
ready t u s (over_div a c b d h k) =
    let x = ready_sub a c b d s h k in
    inl (record { fits = x.fits; counts = x.counts; radicands = x.radicands; few = x.few; spanned = x.spanned; calm = x.calm })

-- ---- its answer

node_answer_within : (t u r : Tree) → IsReadyNode t u → IsNodeAnswer u r → IsWithinTree t r
node_answer_within t u r p a =
    let o = each_once (names t) in
    let here : IsCalmAtZero o.names u = record { once = o.once; calm = p.calm o.names o.once o.all } in
    record {
      counts = omega (arith, a.room.counts o.names here, p.counts);
      radicands = p.radicands;
      few = p.few;
      spanned = a.room.spanned p.radicands o.names here p.spanned;
      calm = λ ns once all. (a.room.calm ns (record { once = once; calm = p.calm ns once all })).calm;
    }

half_answer_within : (t u r : Tree) → IsReadyHalf t u → IsNodeAnswer u r → IsWithinTree t r
half_answer_within t u r p a =
    let k = a.root_room p.half in
    record {
      counts = omega (arith, k.counts, p.counts);
      radicands = p.radicands;
      few = p.few;
      spanned = k.spanned p.radicands p.spanned;
      calm = λ ns once all. (k.calm ns (record { once = once; calm = p.calm ns once all })).calm;
    }

pub node_within : (t u r : Tree) → IsOver t u → IsNodeAnswer u r → all_simple t ≡ true → IsWithinTree t r
node_within t u r h a s = elim (ready t u s h) [ inl p ↦ node_answer_within t u r p a | inr p ↦ half_answer_within t u r p a ]
