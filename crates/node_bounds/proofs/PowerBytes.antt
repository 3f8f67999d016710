-- How many bytes suffice for the calls on a whole power that is rewritten.
use Rattle.node_bounds.proofs.Shared.{formed_reduced, ◌≡◌, ℕ, ◌+◌, ◌*◌, ◌^◌, ◌≤◌, ◌<◌, List, length, Bool, true, false, not, ◌&&◌, if◌then◌else◌, refl, sym, ap, subst, arith, inl, inr, and_parts}
use Rattle.node_bounds.proofs.Shared.{pow_pos, is_number, is_reduced, are_reduced, is_num_one, is_whole_num, split_product, HasForm, reduced_words, counted, counted_among, SpansRoot, SpansTree}
use Rattle.node_bounds.proofs.Shared.{SpansTrees, tree_bytes, counted_number, counted_other, Tree, mult, power, root, Trees, none, more, append, is_mult, size, sizes, AllPartsOf, reduced_parts}
use Rattle.node_bounds.proofs.Shared.{parts_reduced, IsCalmAtZero, whole_power_room, AreReducedPowers, removed, parts_of, raised, parts_counted, HasFactors, product_factors, parts_span, product_parts}
use Rattle.node_bounds.proofs.Shared.{nth, HasCalmExponent, AreCalm, zeros, counted_in_all, numbers_among, product_count, exponent_count, product_room, power_room, product_power_room, counts_one}
use Rattle.node_bounds.proofs.Shared.{number_counts_one, product_at_most, raised_factor, raised_number, scaled, power_counts, exponents_multiplied, cases_Bool, appended, sizes_append, and_cases}
use Rattle.node_bounds.proofs.{Shared.{not-false, split_counts, no_numbers}, Clashes.{contrary}, Calm.{calm_exponent}, JointBytes.{product_base}, JointCounts.{numbers_one}, Rewritten.{AreSingle}}
use Rattle.node_bounds.proofs.Rewritten.{parts_calm, parts_single, powers_raised, root_counts}
use Rattle.tree_room.proofs.Counts.{numbers_appended as numbers_append, no_number as numbers_other}
pub use Rattle.like_children.proofs.Parts.{first_parts}
pub use Rattle.coefficients.proofs.TermMultiples.{behind_parts as last_parts}

-- ---- what a whole power of each base needs

pub product_needs : (b : Tree) (m : ℕ) → (is_mult b && not (is_number b)) ≡ true → whole_power_room b m ≡ product_power_room (counted b) m
product_needs b m h = ap (λ (z : Bool). if z then product_power_room (counted b) m else power_room (counted b) m) h

pub other_needs : (b : Tree) (m : ℕ) → (is_mult b && not (is_number b)) ≡ false → whole_power_room b m ≡ power_room (counted b) m
other_needs b m h = ap (λ (z : Bool). if z then product_power_room (counted b) m else power_room (counted b) m) h

-- at most as a product
pub needs_most : (b : Tree) (m : ℕ) → whole_power_room b m ≤ product_power_room (counted b) m
needs_most b m = grind arith

-- an even power of a root is one of its argument
pub argument_needs : (a : Tree) (m : ℕ) → is_reduced (root a) ≡ true → is_number (root a) ≡ false → whole_power_room a m ≤ whole_power_room (root a) m
argument_needs a m r n = rw (other_needs (root a) m refl, root_counts a r n) (omega (arith, needs_most a m))

-- a power of a power is one of the inner base
pub inner_needs : (c f : Tree) (m : ℕ) → is_reduced (power c f) ≡ true → whole_power_room c m ≤ whole_power_room (power c f) m
inner_needs c f m r = rw (other_needs (power c f) m refl, power_counts c f) (by (is_mult c && not (is_number c)) refl)
  where
    by : (z : Bool) → (is_mult c && not (is_number c)) ≡ z → (if z then product_power_room (counted c) m else power_room (counted c) m) ≤ power_room (counted c + exponent_count f) m
    by true e = omega (arith, scaled 1 (exponent_count f) m (product_base c f r (and_parts _ _ e).0))
    by false e = omega arith

-- beside its base the product of the exponents
exponents_fit : (c x h m s : ℕ) → 1 ≤ m → 1 ≤ c → h ≤ 2 + x → s ≤ 204 * c * m → 8 + s + product_room h m ≤ power_room (c + x) m
exponents_fit c x h m s hm hc l u = let p : h * m ≤ (2 + x) * m = scaled h (2 + x) m l in let q : 1 * m ≤ c * m = scaled 1 c m hc in omega (arith, p, q, u)

pub exponents_lack : (gs : List ℕ) (c f e : Tree) (bytes : ℕ) → is_reduced (power c f) ≡ true → is_whole_num e ≡ true → SpansTree gs c
    → bytes < product_room (product_count (more f (more e none))) (2 ^ length gs)
    → bytes + 8 + size c < whole_power_room (power c f) (2 ^ length gs)
exponents_lack gs c f e bytes r w s l =
    rw (other_needs (power c f) (2 ^ length gs) refl, power_counts c f)
    (omega (arith, l, exponents_fit (counted c) (exponent_count f) (product_count (more f (more e none))) (2 ^ length gs) (size c) (pow_pos (length gs)) (counts_one c) (exponents_multiplied e f w) (tree_bytes gs c (reduced_words c (base r)) s)))
  where
    base : is_reduced (power c f) ≡ true → is_reduced c ≡ true
    base r = parts_reduced c (reduced_parts (power c f) r refl).1

-- ---- the powers of a product's parts

all_counted : (ts : Trees) → counted_in_all ts ≡ numbers_among ts + counted_among ts
all_counted none = refl
all_counted (more t ts) = grind (arith, all_counted ts, counted_number, counted_other, number_counts_one, numbers_one, numbers_other)

-- one of the parts at most is a Number, and the others count what the product does
record CountsParts (fs : Trees) : Type 0 where
  numbers : numbers_among (parts_of fs) ≤ 1
  others : counted_among (parts_of fs) ≤ counted (mult fs)

counts_parts : (fs : Trees) → is_reduced (mult fs) ≡ true → is_number (mult fs) ≡ false → CountsParts fs
counts_parts fs r n = by (is_num_one (split_product fs).coefficient) refl
  where
    f : HasFactors fs
    f = product_factors fs r n

    us : Trees
    us = (split_product fs).factors

    c : Tree
    c = (split_product fs).coefficient

    by : (z : Bool) → is_num_one c ≡ z → CountsParts fs
    by true e =
        let is : parts_of fs ≡ us = ap (λ (z : Bool). if z then us else more c us) e in
        record { numbers = omega (arith, ap numbers_among is, no_numbers us f.no_number); others = omega (arith, ap counted_among is, split_counts fs) }
    by false e =
        let is : parts_of fs ≡ more c us = ap (λ (z : Bool). if z then us else more c us) e in
        record {
          numbers = omega (arith, ap numbers_among is, numbers_one c us f.number, no_numbers us f.no_number);
          others = omega (arith, ap counted_among is, counted_number c us f.number, split_counts fs);
        }

-- the parts before one and behind it
pub record IsSplitAt (gs : Trees) (e : Tree) (before : Trees) (t : Tree) (rest : Trees) : Type 0 where
  pub first : Trees
  pub part : Tree
  pub last : Trees
  pub split : gs ≡ append first (more part last)
  pub before-is : before ≡ raised first e
  pub is : t ≡ power part e
  pub rest-is : rest ≡ raised last e

pub split_at : (gs : Trees) (e : Tree) (before : Trees) (t : Tree) (rest : Trees) → raised gs e ≡ append before (more t rest) → IsSplitAt gs e before t rest
split_at none e none t rest h = cc
split_at none e (more u before) t rest h = cc
split_at (more g gs) e none t rest h = record { first = none; part = g; last = gs; split = refl; before-is = refl; is = sym (ap (nth 0) h); rest-is = sym (ap (removed 0) h) }
split_at (more g gs) e (more u before) t rest h =
    let s = split_at gs e before t rest (ap (removed 0) h) in
    record {
      first = more g s.first;
      part = s.part;
      last = s.last;
      split = ap (more g) s.split;
      before-is = (λ z. more (sym (ap (nth 0) h) z) (s.before-is z));
      is = s.is;
      rest-is = s.rest-is;
    }

single_first : (ts us : Trees) → AreSingle (append ts us) → AreSingle ts × AreSingle us
single_first none us h = (tt, h)
single_first (more t ts) us h = let r = single_first ts us h.1 in ((h.0, r.0), r.1)

single_product : (t : Tree) → (is_mult t && not (is_number t)) ≡ false → is_number t ≡ false → is_mult t ≡ false
single_product t h n = elim (and_cases (is_mult t) (not (is_number t)) h) [ inl m ↦ m | inr k ↦ contrary (not-false (is_number t) k) n ]

module _ (gs : List ℕ) where
  -- powers that are not yet reduced
  one_raised : (t e : Tree) → is_reduced t ≡ true → SpansTree gs t → (is_mult t && not (is_number t)) ≡ false → is_whole_num e ≡ true → size (power t e) ≤ 204 * counted t * 2 ^ length gs
  one_raised t e r s p w = elim (cases_Bool (is_number t)) [ inl n ↦ rw (number_counts_one t n) (omega (arith, raised_number gs t e n s w)) | inr n ↦ raised_factor gs t e r s (single_product t p n) w ]

  raised_bytes : (ts : Trees) (e : Tree) → are_reduced ts ≡ true → SpansTrees gs ts → AreSingle ts → is_whole_num e ≡ true → sizes (raised ts e) ≤ 204 * counted_in_all ts * 2 ^ length gs
  raised_bytes none e r s p w = omega arith
  raised_bytes (more t ts) e r s p w = let (a, b) = and_parts (is_reduced t) (are_reduced ts) r in omega (arith, one_raised t e a s.0 p.0 w, raised_bytes ts e b s.1 p.1 w)

  -- and those that are
  answers_bytes : (us : Trees) → are_reduced us ≡ true → SpansTrees gs us → sizes us ≤ 204 * counted_in_all us * 2 ^ length gs
  answers_bytes none r s = omega arith
  answers_bytes (more u us) r s = let (a, b) = and_parts (is_reduced u) (are_reduced us) r in omega (arith, tree_bytes gs u (reduced_words u a) s.0, answers_bytes us b s.1)

answers_reduced : (ts us : Trees) → AreReducedPowers ts us → are_reduced us ≡ true
answers_reduced none none a = refl
answers_reduced (more t ts) (more u us) a = rw (a.0.reduces.reduced, answers_reduced ts us a.1) refl
answers_reduced ts us a = absurd a

-- g counts in the part that is raised, o in the other parts that are no Numbers, and k of the others are Numbers
part_fits : (c g o k m s : ℕ) → 1 ≤ m → k ≤ 1 → g + o ≤ c → s ≤ 204 * (k + o) * m → 8 + s + power_room g m ≤ product_power_room c m
part_fits c g o k m s hm hk l u = let p : (g + o) * m ≤ c * m = scaled (g + o) c m l in let q : k * m ≤ 1 * m = scaled k 1 m hk in omega (arith, p, q, u)

number_fits : (c o m s : ℕ) → 1 ≤ m → 1 ≤ c → o ≤ c → s ≤ 204 * o * m → 8 + s + power_room 1 m ≤ product_power_room c m
number_fits c o m s hm hc l u = let p : o * m ≤ c * m = scaled o c m l in let q : 1 * m ≤ c * m = scaled 1 c m hc in omega (arith, p, q, u)

module _ (gs : List ℕ) (ns : List (List ℕ)) (fs : Trees) (e : Tree) (h : is_reduced (mult fs) ≡ true) (n : is_number (mult fs) ≡ false) (w : is_whole_num e ≡ true) (c : IsCalmAtZero ns (power (mult fs) e)) (spans : SpansTrees gs fs) where
  parts_formed : AllPartsOf HasForm (parts_of fs)
  parts_formed = let p = (product_parts fs h n).are in subst (AllPartsOf HasForm) (sym p.are) p.formed

  others_bytes : (first : Trees) (part : Tree) (last reduced : Trees) → parts_of fs ≡ append first (more part last) → AreReducedPowers (raised first e) reduced
      → sizes (append reduced (raised last e)) ≤ 204 * (counted_in_all first + counted_in_all last) * 2 ^ length gs
  others_bytes first part last reduced p a =
      let calm = first_parts (HasCalmExponent (zeros ns)) first (more part last) (subst (AreCalm (zeros ns)) p (parts_calm (zeros ns) fs c.calm.1.1)) in
      let single = single_first first (more part last) (subst AreSingle p (parts_single fs h n)) in
      let spanned = subst (SpansTrees gs) p (parts_span gs fs spans) in
      let formed = last_parts HasForm first (more part last) (subst (AllPartsOf HasForm) p parts_formed) in
      let r = powers_raised ns first e reduced w (calm_exponent c) calm single.0 a in
      let some = scaled (counted_in_all reduced) (counted_in_all first) (2 ^ length gs) r.counts in
      omega (
        arith,
        sizes_append reduced (raised last e),
        answers_bytes gs reduced (answers_reduced (raised first e) reduced a) (r.spanned gs (first_parts (SpansRoot gs) first (more part last) spanned)),
        raised_bytes gs last e (formed_reduced last formed.1) (last_parts (SpansRoot gs) first (more part last) spanned).1 single.1.1 w,
        some,
      )

  -- where the power of one part finds no bytes
  pub part_lacks : (first : Trees) (part : Tree) (last reduced : Trees) (bytes : ℕ) → parts_of fs ≡ append first (more part last) → AreReducedPowers (raised first e) reduced
      → bytes < whole_power_room part (2 ^ length gs)
      → bytes + size (mult (append reduced (raised last e))) < whole_power_room (mult fs) (2 ^ length gs)
  part_lacks first part last reduced bytes p a l =
      rw (product_needs (mult fs) (2 ^ length gs) (ap not n))
      (omega (arith, l, other_needs part (2 ^ length gs) (single_first first (more part last) (subst AreSingle p (parts_single fs h n))).1.0, by (is_number part) refl))
    where
      few : CountsParts fs
      few = counts_parts fs h n

      by : (z : Bool) → is_number part ≡ z → size (mult (append reduced (raised last e))) + power_room (counted part) (2 ^ length gs) ≤ product_power_room (counted (mult fs)) (2 ^ length gs)
      by true k =
          rw (number_counts_one part k)
          (omega (
            arith,
            number_fits (counted (mult fs)) (counted_in_all first + counted_in_all last) (2 ^ length gs) (sizes (append reduced (raised last e))) (pow_pos (length gs)) (counts_one (mult fs))
                (omega (
                  arith,
                  all_counted first,
                  all_counted last,
                  few.numbers,
                  few.others,
                  ap numbers_among p,
                  ap counted_among p,
                  numbers_append first (more part last),
                  appended first (more part last),
                  numbers_one part last k,
                  counted_number part last k,
                ))
                (others_bytes first part last reduced p a),
          ))
      by false k =
          omega (
            arith,
            part_fits (counted (mult fs)) (counted part) (counted_among first + counted_among last) (numbers_among first + numbers_among last) (2 ^ length gs)
                (sizes (append reduced (raised last e))) (pow_pos (length gs))
                (omega (arith, few.numbers, ap numbers_among p, numbers_append first (more part last), numbers_other part last k))
                (omega (arith, few.others, ap counted_among p, appended first (more part last), counted_other part last k))
                (omega (
                  arith,
                  others_bytes first part last reduced p a,
                  ap (λ (x : ℕ). 204 * x * 2 ^ length gs) (all_counted first),
                  ap (λ (x : ℕ). 204 * x * 2 ^ length gs) (all_counted last),
                )),
          )

  -- where their product finds none
  pub product_lacks : (us : Trees) (bytes : ℕ) → AreReducedPowers (raised (parts_of fs) e) us → bytes < product_room (product_count us) (2 ^ length gs)
      → bytes < whole_power_room (mult fs) (2 ^ length gs)
  product_lacks us bytes a l =
      let r = powers_raised ns (parts_of fs) e us w (calm_exponent c) (parts_calm (zeros ns) fs c.calm.1.1) (parts_single fs h n) a in
      let most : product_count us ≤ 3 + counted (mult fs) = omega (arith, product_at_most us, r.counts, parts_counted fs h n) in
      rw (product_needs (mult fs) (2 ^ length gs) (ap not n)) (omega (arith, l, scaled (product_count us) (3 + counted (mult fs)) (2 ^ length gs) most))
