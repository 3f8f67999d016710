-- Lemmas on the trees of a form that are placed one after another.
use Rattle.calc_session.proofs.Shared.{◌≡◌, ◌≢◌, ◌∙◌, zero, suc, [], ◌∷◌, take, map, get_or, Bool, true, false, of_z, to_z, refl, sym, ap, subst, arith, take_all, ℤ, pos, IfErr, ◌==◌, ◌&&◌, w128}
use Rattle.calc_session.proofs.Shared.{get_or-map, Kind, Rat, Fraction, is_one_fraction, is_zero_fraction, one_fraction, zero_fraction, rational, size_of_payload, ratio_of, value_of, Ratio, whole}
use Rattle.calc_session.proofs.Shared.{Tree, Trees, num, symbol, add, mult, none, more, append, count, size, sizes, Name, name_of, one_test, whole_denominator, whole_numerator, zero_test, ratio_parts}
use Rattle.calc_session.proofs.Shared.{Adds, AddsAll, adds_as, adds_first, adds_free, adds_join, adds_more, adds_none, adds_one, adds_over, adds_tree, Full, free_of, compound, nth, takes_kind, Forest, join}
use Rattle.calc_session.proofs.Shared.{before_last, last_trees, one_tree, Ends, Gives, KeepsFront, IsRefused, KeepsRefusals, Stands, forest, join_assoc, front_at, front_end, front_same, append-none}
use Rattle.calc_session.proofs.Shared.{IsLast, IsPlaced, multiple_of, multiples, sum_of_trees, summands, int_is_one, int_is_zero, whole_short, told}
use Rattle.calc_terms.proofs.{SmallFractions.{zero_value as whole_zero}, SmallLaws.{sizes_append as sizes-append, count_append as count-append, append_assoc}}
use Rattle.std.proofs.Common.{ℕ, ◌+◌, ◌<◌, ◌≤◌, List, length, if◌then◌else◌}
use Rattle.std.specs.Prelude.{IfOk, OnOk, Result, Ok, Err, Some, None}
use Rattle.calc_terms.specs.Payload.{bare}
use Rattle.node_pool.specs.State.{State}
use Rattle.calc_session.specs.declared.forms.Placed.{Placed}
use Rattle.calc_terms.specs.declared.kind.Kind.TheVariants as kind

-- ---- rationals of the code

pub nonzero_value : (r : Rat) → (ratio_of r).num ≢ pos 0 → is_zero_fraction (value_of r) ≡ false
unfolding zero_fraction
nonzero_value r h = zero_test (value_of r) (λ e. h (sym (ratio_parts r).num ∙ ap (λ (q : Fraction). q.num) e ∙ whole_numerator (pos 0)))

pub one_value : (r : Rat) → (ratio_of r).num ≡ pos 1 → (ratio_of r).den ≡ 1 → is_one_fraction (value_of r) ≡ true
one_value r n d = λ i. int_is_one (((ratio_parts r).num ∙ n) i) && ((((ratio_parts r).den ∙ d) i) == 1)

pub not_one_num : (r : Rat) → (ratio_of r).num ≢ pos 1 → is_one_fraction (value_of r) ≡ false
unfolding one_fraction
not_one_num r h = one_test (value_of r) (λ e. h (sym (ratio_parts r).num ∙ ap (λ (q : Fraction). q.num) e ∙ whole_numerator (pos 1)))

pub not_one_den : (r : Rat) → (ratio_of r).den ≢ 1 → is_one_fraction (value_of r) ≡ false
unfolding one_fraction
not_one_den r h = one_test (value_of r) (λ e. h (sym (ratio_parts r).den ∙ ap (λ (q : Fraction). q.den) e ∙ whole_denominator (pos 1)))

-- ---- as the code tests them

pub tests_nonzero : (r : Rat) (n : ℤ) → n ≡ (ratio_of r).num → of_z w128 n ≢ 0 → is_zero_fraction (value_of r) ≡ false
tests_nonzero r n e h = nonzero_value r (λ z. h (ap (of_z w128) (e ∙ z)))

pub tests_one : (r : Rat) (n : ℤ) → n ≡ (ratio_of r).num → of_z w128 n ≡ 1 → (ratio_of r).den ≡ 1 → is_one_fraction (value_of r) ≡ true
tests_one r n e b d = one_value r (sym (told r.num r.fits) ∙ ap (to_z w128) (ap (of_z w128) (sym e) ∙ b)) d

pub tests_other : (r : Rat) (n : ℤ) → n ≡ (ratio_of r).num → of_z w128 n ≢ 1 → is_one_fraction (value_of r) ≡ false
tests_other r n e h = not_one_num r (λ z. h (ap (of_z w128) (e ∙ z)))

-- ---- a multiple of a name

pub once : (q : Fraction) (x : List ℕ) → is_one_fraction q ≡ true → multiple_of q x ≡ symbol x
once q x e = ap (λ (b : Bool). if b then symbol x else mult (more (num q) (more (symbol x) none))) e

pub not_once : (q : Fraction) (x : List ℕ) → is_one_fraction q ≡ false → multiple_of q x ≡ mult (more (num q) (more (symbol x) none))
not_once q x e = ap (λ (b : Bool). if b then symbol x else mult (more (num q) (more (symbol x) none))) e

-- ---- what calls place

pub adds_by : (r : Result ℕ Full) (s t : State) (u v : Tree) → u ≡ v → IfOk r (λ h. Gives (forest s) (forest t) h (λ w. w ≡ u)) → OnOk r (KeepsRefusals s t) → Stands t → IfOk r (λ h. Adds s t v h)
adds_by r s t u v e g k h = grind arith

pub adds_node : (r : Result ℕ Full) (k : Kind) (n : ℕ) (s t u : State) (ts : Trees) (v : Tree) → compound k ts ≡ v → AddsAll s t ts → count ts ≡ n → takes_kind k n ≡ true
    → IfOk r (λ h. Ends h (one_tree h (bare k) (last_trees n (forest t))) (before_last n (forest t)) (forest u)) → OnOk r (KeepsRefusals t u) → Stands u → IfOk r (λ h. Adds s u v h)
adds_node (Ok h) k n s t u ts v e b c takes ends kept stands = subst (λ (x : Tree). Adds s u x h) e (adds_over k n b c takes ends kept stands)
adds_node (Err f) k n s t u ts v e b c takes ends kept stands = tt

-- the trees before it stay
pub front_node : (r : Result ℕ Full) (n : ℕ) (s t u : State) (v : Tree) → IfOk r (λ h. Adds s u v h) → IfErr r (IsRefused n t u) → KeepsFront [] (forest s) (forest t) → KeepsFront [] (forest s) (forest u)
front_node r n s t u v g i k = grind (arith, front_end, front_same, front_at)

pub adds_placed : {s t : State} {a : Tree} {h : ℕ} → Stands s → Gives (forest s) (forest t) h (λ w. w ≡ a) → KeepsRefusals s t → Stands t → AddsAll s t (more a none)
adds_placed st g k st' = adds_one st (record { gives = g; kept = k; stands = st' })

pub adds_two : {s t u : State} {a b : Tree} {h i : ℕ} → Stands s → Gives (forest s) (forest t) h (λ w. w ≡ a) → KeepsRefusals s t → Stands t → Gives (forest t) (forest u) i (λ w. w ≡ b) → KeepsRefusals t u → Stands u → AddsAll s u (more a (more b none))
adds_two st g k st' g' k' st'' = adds_join (adds_placed st g k st') (adds_placed st' g' k' st'')

pub front_of_all : {s t : State} {ts : Trees} → AddsAll s t ts → KeepsFront [] (forest s) (forest t)
front_of_all {s} {t} b = record { keeps = λ p starts n. record { behind = join starts.behind b.made; whole = b.whole ∙ ap (λ (x : Forest). join x b.made) starts.whole ∙ join_assoc p starts.behind b.made } }

-- ---- one more multiple

zero_stays : is_zero_fraction zero_fraction ≡ false → ⊥
unfolding zero_fraction
zero_stays e = let f : is_zero_fraction zero_fraction ≡ true = ap int_is_zero (whole_numerator (pos 0)) in cc

pub multiples_more : (n : ℕ) (xs : List (List ℕ)) (qs : List Fraction) → n < length xs → is_zero_fraction (get_or qs n zero_fraction) ≡ false
    → multiples (take (suc n) xs) qs ≡ append (multiples (take n xs) qs) (more (multiple_of (get_or qs n zero_fraction) (get_or xs n [])) none)
unfolding zero_fraction
multiples_more n [] qs l z = absurd (omega (arith, l))
multiples_more zero (x ∷ xs) [] l z = absurd (zero_stays z)
multiples_more (suc n) (x ∷ xs) [] l z = absurd (zero_stays z)
multiples_more zero (x ∷ xs) (q ∷ qs) l z = ap (λ (b : Bool). if b then multiples [] qs else more (multiple_of q x) (multiples [] qs)) z
multiples_more (suc n) (x ∷ xs) (q ∷ qs) l z = grind (arith, multiples_more n xs qs (omega (arith, l)) z)

pub multiples_same : (n : ℕ) (xs : List (List ℕ)) (qs : List Fraction) → is_zero_fraction (get_or qs n zero_fraction) ≡ true → multiples (take (suc n) xs) qs ≡ multiples (take n xs) qs
multiples_same zero [] qs z = refl
multiples_same (suc n) [] qs z = refl
multiples_same zero (x ∷ xs) [] z = refl
multiples_same (suc n) (x ∷ xs) [] z = refl
multiples_same zero (x ∷ xs) (q ∷ qs) z = ap (λ (b : Bool). if b then multiples [] qs else more (multiple_of q x) (multiples [] qs)) z
multiples_same (suc n) (x ∷ xs) (q ∷ qs) z = ap (λ (ts : Trees). if is_zero_fraction q then ts else more (multiple_of q x) ts) (multiples_same n xs qs z)

pub multiples_few : (xs : List (List ℕ)) (qs : List Fraction) → count (multiples xs qs) ≤ length xs
multiples_few [] qs = omega arith
multiples_few (x ∷ xs) [] = omega arith
multiples_few (x ∷ xs) (q ∷ qs) = grind (arith, multiples_few xs qs)

-- those of the first names need no more room than all
pub sizes_first : (n : ℕ) (xs : List (List ℕ)) (qs : List Fraction) → sizes (multiples (take n xs) qs) ≤ sizes (multiples xs qs)
sizes_first zero xs qs = omega arith
sizes_first (suc n) [] qs = omega arith
sizes_first (suc n) (x ∷ xs) [] = omega arith
sizes_first (suc n) (x ∷ xs) (q ∷ qs) = grind (arith, sizes_first n xs qs)

-- ---- the summands

pub no_constant : (xs : List (List ℕ)) (q : Fraction) (qs : List Fraction) → is_zero_fraction q ≡ true → summands xs q qs ≡ multiples xs qs
no_constant xs q qs e = ap (λ (b : Bool). if b then multiples xs qs else more (num q) (multiples xs qs)) e

pub with_constant : (xs : List (List ℕ)) (q : Fraction) (qs : List Fraction) → is_zero_fraction q ≡ false → summands xs q qs ≡ more (num q) (multiples xs qs)
with_constant xs q qs e = ap (λ (b : Bool). if b then multiples xs qs else more (num q) (multiples xs qs)) e

-- the constant, and the multiples behind it
pub constant_first : (xs : List (List ℕ)) (q : Fraction) (qs : List Fraction) → append (summands [] q []) (multiples xs qs) ≡ summands xs q qs
constant_first xs q qs = grind arith

pub sum_is : (ts : Trees) → 1 < count ts → add ts ≡ sum_of_trees ts
sum_is ts h = grind arith

-- ---- trees that were placed

one_tree_is : {t u : Tree} → more t none ≡ more u none → t ≡ u
one_tree_is e = ap (nth 0) e

pub placed_none : (s : State) (q : Fraction) → Stands s → is_zero_fraction q ≡ true → IsPlaced s s (summands [] q []) (record { trees = 0; last = None })
placed_none s q h e = subst (λ (ts : Trees). IsPlaced s s ts (record { trees = 0; last = None })) (sym (no_constant [] q [] e)) (record { adds = adds_none s h; trees = refl; last = refl })

pub placed_one : (s t : State) (q : Fraction) (h : ℕ) → Stands s → is_zero_fraction q ≡ false → Adds s t (num q) h → IsPlaced s t (summands [] q []) (record { trees = 1; last = Some h })
placed_one s t q h st e g = subst (λ (ts : Trees). IsPlaced s t ts (record { trees = 1; last = Some h })) (sym (with_constant [] q [] e)) (record {
  adds = adds_one st g;
  trees = refl;
  last = (omega arith, λ u same. adds_tree g (one_tree_is same));
})

last_of : {s t u : State} {a : Tree} {h : ℕ} (ts : Trees) → AddsAll s t ts → Adds t u a h → (v : Tree) → append ts (more a none) ≡ more v none → Adds s u v h
last_of none b g v e = adds_tree (adds_first b g) (one_tree_is e)
last_of {a = a} (more x xs) b g v e = absurd (omega (arith, ap count e, count-append xs (more a none)))

pub placed_more : {s t u : State} {ts : Trees} {a : Tree} {h : ℕ} {p : Placed} → IsPlaced s t ts p → Adds t u a h → IsPlaced s u (append ts (more a none)) (record { trees = p.trees + 1; last = Some h })
placed_more {ts = ts} {a = a} p g = record {
  adds = adds_more p.adds g;
  trees = omega (arith, p.trees, count-append ts (more a none));
  last = (omega (arith, count-append ts (more a none)), last_of ts p.adds g);
}

pub placed_as : {s t : State} {ts us : Trees} {p : Placed} → IsPlaced s t ts p → ts ≡ us → IsPlaced s t us p
placed_as {s} {t} {p = p} h e = subst (λ (x : Trees). IsPlaced s t x p) e h

-- ---- the tree of a form

pub nothing_is : (ts : Trees) (p : Placed) (s t : State) → IsPlaced s t ts p → p.last ≡ None → ts ≡ none
nothing_is ts p s t h e = subst (IsLast s t ts) e h.last

-- nothing was placed: the tree is 0
pub form_none : (r : Result ℕ Full) (zero_rat : Rat) (s t u : State) (ts : Trees) (p : Placed) → ratio_of zero_rat ≡ whole (pos 0) → IsPlaced s t ts p → p.last ≡ None
    → IfOk r (λ h. Gives (forest t) (forest u) h (λ w. w ≡ num (value_of zero_rat))) → OnOk r (KeepsRefusals t u) → Stands u → IfOk r (λ h. Adds s u (sum_of_trees ts) h)
form_none (Err f) zero_rat s t u ts p z h e g k st = tt
form_none (Ok h) zero_rat s t u ts p z b e g k st =
    let empty : ts ≡ none = nothing_is ts p s t b e in
    let one : Adds t u (num (value_of zero_rat)) h = record { gives = g; kept = k; stands = st } in
    adds_tree (adds_first (adds_as b.adds empty) one) (ap num (whole_zero zero_rat z) ∙ sym (ap sum_of_trees empty))

pub several_are : (h : ℕ) (s t : State) (ts : Trees) (p : Placed) → IsPlaced s t ts p → p.last ≡ Some h → p.trees ≢ 1 → 1 < count ts
several_are h s t ts p b e many = let some = (subst (IsLast s t ts) e b.last).0 in omega (arith, some, b.trees, many)

-- a node over several
pub form_many : (r : Result ℕ Full) (h : ℕ) (s t u : State) (ts : Trees) (p : Placed) → IsPlaced s t ts p → p.last ≡ Some h → p.trees ≢ 1
    → IfOk r (λ i. Ends i (one_tree i (bare kind.Add) (last_trees p.trees (forest t))) (before_last p.trees (forest t)) (forest u)) → OnOk r (KeepsRefusals t u) → Stands u → IfOk r (λ i. Adds s u (sum_of_trees ts) i)
form_many r h s t u ts p b e many ends kept stands = adds_node r kind.Add p.trees s t u ts (sum_of_trees ts) (sum_is ts (several_are h s t ts p b e many)) b.adds (sym b.trees) refl ends kept stands

-- 0 is of the short form
pub zero_size : (r : Rat) → ratio_of r ≡ whole (pos 0) → size_of_payload (rational (ratio_of r)) ≡ 16
zero_size r e = ap (λ (x : Ratio). size_of_payload (rational x)) e ∙ ap (λ (b : Bool). if b then 16 else 40) (whole_short 0 (omega arith))

pub summands_sizes : (xs : List (List ℕ)) (q : Fraction) (qs : List Fraction) → sizes (summands [] q []) + sizes (multiples xs qs) ≡ sizes (summands xs q qs)
summands_sizes xs q qs = sym (sizes-append (summands [] q []) (multiples xs qs)) ∙ ap sizes (constant_first xs q qs)

-- ---- the multiples that were placed so far

pub name_there : (ns : List Name) (at : ℕ) (n : Name) → at < length ns → n ≡ get_or ns at n → name_of n ≡ get_or (map name_of ns) at []
name_there ns at n l e = ap name_of e ∙ sym (get_or-map name_of ns at n [] l)

module _ (xs : List (List ℕ)) (qs : List Fraction) where
  next_more : (n : ℕ) (q : Fraction) (x : List ℕ) → n < length xs → q ≡ get_or qs n zero_fraction → x ≡ get_or xs n [] → is_zero_fraction q ≡ false
      → multiples (take (n + 1) xs) qs ≡ append (multiples (take n xs) qs) (more (multiple_of q x) none)
  next_more n q x l d e z = grind (arith, multiples_more)

  next_same : (n : ℕ) (q : Fraction) → q ≡ get_or qs n zero_fraction → is_zero_fraction q ≡ true → multiples (take (n + 1) xs) qs ≡ multiples (take n xs) qs
  next_same n q d z = grind (arith, multiples_same)

  -- of the first n names, behind those that were placed before
  pub record AreFirst (old : State) (before : Placed) (n : ℕ) (now : State) (p : Placed) : Type 0 where
    pub few : p.trees ≤ before.trees + n
    pub adds : AddsAll old now (multiples (take n xs) qs)
    pub placed : (s : State) (ts : Trees) → Stands s → IsPlaced s old ts before → IsPlaced s now (append ts (multiples (take n xs) qs)) p

  pub first_none : (old : State) (before : Placed) → Stands old → AreFirst old before 0 old before
  first_none old before st = record { few = omega arith; adds = adds_none old st; placed = λ s ts h p. placed_as p (sym (append-none ts)) }

  pub first_more : {old now new : State} {before p : Placed} {h : ℕ} (n : ℕ) (q : Fraction) (x : List ℕ) → n < length xs → q ≡ get_or qs n zero_fraction → x ≡ get_or xs n [] → is_zero_fraction q ≡ false
      → AreFirst old before n now p → Adds now new (multiple_of q x) h → AreFirst old before (n + 1) new (record { trees = p.trees + 1; last = Some h })
  first_more n q x l d e z a g = record {
    few = omega (arith, a.few);
    adds = adds_as (adds_more a.adds g) (sym (next_more n q x l d e z));
    placed = λ s ts st b. placed_as (placed_more (a.placed s ts st b) g) (append_assoc ts (multiples (take n xs) qs) (more (multiple_of q x) none) ∙ ap (append ts) (sym (next_more n q x l d e z)));
  }

  pub first_same : {old now : State} {before p : Placed} (n : ℕ) (q : Fraction) → q ≡ get_or qs n zero_fraction → is_zero_fraction q ≡ true → AreFirst old before n now p → AreFirst old before (n + 1) now p
  first_same n q d z a = record {
    few = omega (arith, a.few);
    adds = adds_as a.adds (sym (next_same n q d z));
    placed = λ s ts st b. placed_as (a.placed s ts st b) (ap (append ts) (sym (next_same n q d z)));
  }

  -- there is room for the next
  pub next_fits : {old now : State} {before p : Placed} (n : ℕ) (q : Fraction) (x : List ℕ) → Stands old → n < length xs → q ≡ get_or qs n zero_fraction → x ≡ get_or xs n [] → is_zero_fraction q ≡ false
      → AreFirst old before n now p → sizes (multiples xs qs) ≤ free_of old → size (multiple_of q x) ≤ free_of now
  next_fits n q x st l d e z a room =
      omega (arith, room, adds_free st a.adds, sizes_first (n + 1) xs qs, ap sizes (next_more n q x l d e z), sizes-append (multiples (take n xs) qs) (more (multiple_of q x) none))

  pub first_all : {old now : State} {before p : Placed} (n : ℕ) → length xs ≤ n → AreFirst old before n now p → (s : State) (ts : Trees) → Stands s → IsPlaced s old ts before → IsPlaced s now (append ts (multiples xs qs)) p
  first_all n l a s ts st b = placed_as (a.placed s ts st b) (ap (λ (ys : List (List ℕ)). append ts (multiples ys qs)) (take_all n xs l))
