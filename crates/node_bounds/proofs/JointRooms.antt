-- Two factors joined, and their joint reduced: what counts, what is calm and spanned, and how many bytes suffice.
use Rattle.node_bounds.proofs.Shared.{◌≡◌, ℕ, suc, ◌+◌, ◌*◌, ◌≤◌, ◌<◌, List, Bool, true, false, if◌then◌else◌, refl, sym, ap, subst, arith, is_whole_num, counted, counted_among, HasPowersOf}
use Rattle.node_bounds.proofs.Shared.{SpansRoot, SpansTree, SpansTrees, Tree, add, mult, power, Trees, none, more, count, IsCalmAtZero, KeepsRoom, KeepsSumRoom, whole_power_count, power_count}
use Rattle.node_bounds.proofs.Shared.{set_tree, HandsOn, removed, AreFactorsHeld, joint, IsPairAt, joined_pair, IsSumAnswer, nth, children_of, HasCalmExponent, IsCalm, zeros, exponent_count}
use Rattle.node_bounds.proofs.{Shared.{product_count, parts_calm, counts_one, KeepsFactorBounds, KeepsProductBounds, has_undef, joined}, Calm.{all_nth, all_replaced, all_base, all_exponent}}
use Rattle.node_bounds.proofs.{Calm.{all_joined, calm_children, calm_product, joint_calm, whole_kept, whole_of_number}, JointCounts.{joint_count, pair_counts, pair_joined_count, replaced_count_is}}
pub use Rattle.product_reduce.proofs.GatheredCounts.{whole_number as whole_numbers}

-- ---- from tree to tree

pub keeps_next : {c : ℕ} (t u : Tree) {v : Tree} → KeepsRoom c t u → KeepsRoom (counted u) u v → KeepsRoom c t v
keeps_next t u k l = record {
  counts = λ ns c. omega (arith, k.counts ns c, l.counts ns (k.calm ns c));
  calm = λ ns c. l.calm ns (k.calm ns c);
  spanned = λ gs ns c s. l.spanned gs ns (k.calm ns c) (k.spanned gs ns c s);
}

pub hands_on_next : (ts us vs : Trees) → HandsOn ts us → HandsOn us vs → HandsOn ts vs
hands_on_next ts us vs h k = grind (arith, keeps_next)

calm_by_powers : {ns : List (List ℕ)} (ts : Trees) (t : Tree) → HasPowersOf ts t → IsCalmAtZero ns (mult ts) → IsCalmAtZero ns t
calm_by_powers {ns} ts t h c = record { once = c.once; calm = parts_calm (zeros ns) ts t h (calm_children c) }

pub sum_calm : {ns : List (List ℕ)} (ts : Trees) (t : Tree) → KeepsSumRoom ts t → IsCalmAtZero ns (add ts) → IsCalmAtZero ns t
sum_calm {ns} ts t k c = record { once = c.once; calm = parts_calm (zeros ns) ts t k.powers c.calm.1 }

-- what is answered at once for the factors, and what is gathered of them
pub finished_keeps : (ts : Trees) (t : Tree) → KeepsProductBounds ts t → KeepsRoom (counted (mult ts)) (mult ts) t
finished_keeps ts t b = record { counts = λ ns c. b.counts; calm = λ ns c. calm_by_powers ts t b.powers c; spanned = λ gs ns c h. b.spanned gs h.1 }

pub gathered_hands_on : (ts : Trees) (u : Tree) → u ≡ mult (children_of u) → has_undef ts ≡ false → KeepsFactorBounds ts u → HandsOn ts (children_of u)
gathered_hands_on ts u e d b = record {
  counts = λ ns c. omega (arith, b.counts, b.few_numbers);
  room = record {
    counts = λ ns c. omega (arith, b.counts);
    calm = λ ns c. calm_by_powers ts (mult (children_of u)) (subst (HasPowersOf ts) e b.powers) c;
    spanned = λ gs ns c h. subst (SpansTree gs) e (b.spanned gs h.1);
  };
  held = λ h l a. b.held h l d a;
}

-- ---- the factors joined

pub joined_calm : {ns : List (List ℕ)} (n : ℕ) (ts : Trees) → IsPairAt n ts → IsCalmAtZero ns (mult ts) → IsCalmAtZero ns (mult (joined_pair n (suc n) ts))
joined_calm {ns} n ts p c = calm_product c.once (all_joined (HasCalmExponent (zeros ns)) n ts p (λ t u h k. joint_calm (zeros ns) t u h k) (calm_children c))

joint_spans : (gs : List ℕ) (t u : Tree) → SpansTree gs t → SpansTree gs u → SpansTree gs (joint t u)
joint_spans gs t u h k = grind (arith, all_base, all_exponent)

pub joined_spans : (gs : List ℕ) (n : ℕ) (ts : Trees) → IsPairAt n ts → SpansTrees gs ts → SpansTrees gs (joined_pair n (suc n) ts)
joined_spans gs n ts p s = all_joined (SpansRoot gs) n ts p (joint_spans gs) s

-- ---- the joint, with its exponents added

-- the sum of exponents that mean whole numbers does, and it is calm
pub summed_calm : {ns : List (List ℕ)} (b e f g : Tree) → IsCalmAtZero ns (power b (add (more e (more f none)))) → IsSumAnswer (more e (more f none)) g
    → KeepsSumRoom (more e (more f none)) g → IsCalmAtZero ns (power b g)
summed_calm {ns} b e f g c a k =
    let (w, h, s) = c.calm in
    record {
      once = c.once;
      calm = (whole_kept (zeros ns) (add (more e (more f none))) g c.once a.reduces.meanings w, h, parts_calm (zeros ns) (more e (more f none)) g k.powers s.1);
    }

pub summed_spans : (gs : List ℕ) (b e f g : Tree) → SpansTree gs (power b (add (more e (more f none)))) → KeepsSumRoom (more e (more f none)) g → SpansTree gs (power b g)
summed_spans gs b e f g (q, h, s) k = (tt, h, k.spanned gs s.1)

-- whole exponents have a whole sum
pub summed_whole : {ns : List (List ℕ)} (b e f g : Tree) → IsCalmAtZero ns (power b g) → IsSumAnswer (more e (more f none)) g → is_whole_num e ≡ true → is_whole_num f ≡ true → is_whole_num g ≡ true
summed_whole {ns} b e f g c a h k = whole_of_number (zeros ns) g c.once (a.number (rw (whole_numbers e h, whole_numbers f k) refl)) c.calm.0

pub whole_count_most : (b : Tree) → whole_power_count b ≤ 1 + counted b
whole_count_most b = grind arith

-- the power of the sum counts no more than both powers
pub summed_counts : {ns : List (List ℕ)} (b e f g : Tree) → IsCalmAtZero ns (power b g) → IsSumAnswer (more e (more f none)) g → KeepsSumRoom (more e (more f none)) g
    → power_count b g ≤ 2 * counted b + exponent_count e + exponent_count f
summed_counts b e f g c a k = by (is_whole_num g)
  where
    by : (z : Bool) → (if z then whole_power_count b else counted (power b g)) ≤ 2 * counted b + exponent_count e + exponent_count f
    by true = omega (arith, whole_count_most b, counts_one b)
    by false = omega (arith, joined b e f g (summed_whole b e f g c a) k.counts)

-- ---- the joint reduced in its place

pub settled_hands_on : (at : ℕ) (ts us : Trees) (b e f g r : Tree) → IsPairAt at ts → us ≡ joined_pair at (suc at) ts → at < count us → nth at us ≡ power b (add (more e (more f none)))
    → IsSumAnswer (more e (more f none)) g → KeepsSumRoom (more e (more f none)) g → KeepsRoom (power_count b g) (power b g) r
    → ((h l : ℕ) → AreFactorsHeld ts h l → AreFactorsHeld (set_tree at r us) h l) → HandsOn ts (set_tree at r us)
settled_hands_on at ts us b e f g r p w l is a k keeps holds = record {
  counts = λ ns c. omega (arith, (replaced_count_is at r us l).product, ap (λ (xs : Trees). joint_count (nth at xs) + product_count (removed at xs)) w, pair_joined_count at ts p, fewer ns c);
  room = record {
    counts = λ ns c. omega (arith, (replaced_count_is at r us l).others, ap (λ (xs : Trees). counted_among (removed at xs) + joint_count (nth at xs)) w, (pair_counts at ts p).others, fewer ns c);
    calm = λ ns c. calm_product c.once (all_replaced (HasCalmExponent (zeros ns)) at r us (keeps.calm ns (under ns c)).calm (calm_children (whole ns c)));
    spanned = λ gs ns c s. (
      tt,
      all_replaced (SpansRoot gs) at r us
          (keeps.spanned gs ns (under ns c) (summed_spans gs b e f g (subst (SpansTree gs) is (all_nth (SpansRoot gs) at us l (spans gs s.1))) k)) (spans gs s.1),
    );
  };
  held = holds;
}
  where
    whole : (ns : List (List ℕ)) → IsCalmAtZero ns (mult ts) → IsCalmAtZero ns (mult us)
    whole ns c = subst (λ (xs : Trees). IsCalmAtZero ns (mult xs)) (sym w) (joined_calm at ts p c)

    spans : (gs : List ℕ) → SpansTrees gs ts → SpansTrees gs us
    spans gs s = subst (SpansTrees gs) (sym w) (joined_spans gs at ts p s)

    there : (ns : List (List ℕ)) → IsCalmAtZero ns (mult ts) → IsCalmAtZero ns (power b (add (more e (more f none))))
    there ns c = record { once = c.once; calm = subst (IsCalm (zeros ns)) is (all_nth (HasCalmExponent (zeros ns)) at us l (calm_children (whole ns c))) }

    under : (ns : List (List ℕ)) → IsCalmAtZero ns (mult ts) → IsCalmAtZero ns (power b g)
    under ns c = summed_calm b e f g (there ns c) a k

    fewer : (ns : List (List ℕ)) → IsCalmAtZero ns (mult ts) → counted r ≤ joint_count (nth at us)
    fewer ns c = omega (arith, keeps.counts ns (under ns c), summed_counts b e f g (under ns c) a k, ap joint_count is)
