-- Bytes while a rational is multiplied into the terms of a sum: at any time the terms have no more than the reduced terms with their parts may have.
use Rattle.coefficients.proofs.Shared.{sizes_append, ◌≡◌, ℕ, ◌+◌, ◌*◌, ◌^◌, ◌≤◌, ◌<◌, ◌⊎◌, inl, inr, List, length, Bool, true, false, if◌then◌else◌, max, refl, sym, ap, ◌∙◌, subst, arith, is_number}
use Rattle.coefficients.proofs.Shared.{is_term, IsNumber, IsTerm, AreTerms, Rises, terms_of, HasForm, IsProductForm, NoneIs, number_terms, other_terms, product_tree, split_product, split, num_one}
use Rattle.coefficients.proofs.Shared.{is_reduced, number_test, number_words, term_words, reduced_words, counted, counted_among, SpansTree, SpansTrees, Fraction, Tree, num, add, mult, Trees, none}
use Rattle.coefficients.proofs.Shared.{more, append, count, size, sizes, is_add, AllParts, AllPartsOf, mapped, rational_times, rational_times_factors, rational_times_number, rational_times_term}
use Rattle.coefficients.proofs.Shared.{leads_sum, put_room, LacksRoom, OfFull, number_size, NumberFault, pow_pos, mul-le, term_bytes, roots_bytes, count_terms, few_terms, terms_spanned}
use Rattle.coefficients.proofs.{Shared.{counted_number, counted_other, tree_bytes, factor_bytes, numbers_among, part_counts}, Factors.{AreFactors}, Forms.{reduced_parts}}
use Rattle.coefficients.proofs.{NumberMultiples.{IsFactor, scaled}, SumMultiples.{EachTerm, each_term, number_term, terms_no_sum}, TermMultiples.{factors_behind, multiple}}
use Rattle.number_forms.proofs.Shaped.{term_number as number_of_term}
use Rattle.tree_handles.specs.declared.fault.NumberFault.TheVariants as fault
use Rattle.tree_room.specs.Needs as need

-- ---- lists

count_mapped : (f : Tree → Tree) (ts us : Trees) → count (append (mapped f ts) us) ≡ count (append ts us)
count_mapped f none us = refl
count_mapped f (more t ts) us = omega (arith, count_mapped f ts us)

-- ---- the terms of a Number

some_scaled : (q : Fraction) → IsFactor q → (done rest : Trees) → AreTerms (append done rest) → AreTerms (append (mapped (rational_times q) done) rest)
some_scaled q f none rest h = h
some_scaled q f (more t done) rest h = ((scaled q t f h.0).one, some_scaled q f done rest h.1)

number_count : (gs : List ℕ) (ts : Trees) → AreTerms ts → Rises (terms_of ts) → SpansTrees gs ts → count ts ≤ 2 ^ length gs
number_count gs ts h r s = omega (arith, count_terms ts, few_terms gs (terms_of ts) r (terms_spanned gs ts h s))

-- while some of them are multiplied
pub number_bytes : (gs : List ℕ) (q : Fraction) (done rest : Trees) → IsFactor q → IsNumber (add (append done rest)) → SpansTrees gs (append done rest)
    → sizes (append (mapped (rational_times q) done) rest) ≤ 96 * 2 ^ length gs
number_bytes gs q done rest f h s =
    omega (
      arith,
      roots_bytes (append (mapped (rational_times q) done) rest) (some_scaled q f done rest h.1),
      count_mapped (rational_times q) done rest,
      number_count gs (append done rest) h.1 h.2 s,
    )

-- ---- what spans a term spans its multiple

pub spans_product : (gs : List ℕ) (ts : Trees) → SpansTrees gs ts → SpansTree gs (product_tree ts)
spans_product gs ts s = grind arith

spans_factors : (gs : List ℕ) (q : Fraction) (ts : Trees) → SpansTrees gs ts → SpansTree gs (rational_times_factors q ts)
spans_factors gs q ts s = grind (arith, spans_product)

spans_times : (gs : List ℕ) (q : Fraction) (t : Tree) → SpansTree gs t → SpansTree gs (rational_times q t)
spans_times gs q t s = grind (arith, spans_factors)

spans_each : (gs : List ℕ) (q : Fraction) (ts : Trees) → SpansTrees gs ts → SpansTrees gs (mapped (rational_times q) ts)
spans_each gs q none s = tt
spans_each gs q (more t ts) s = (spans_times gs q t s.0, spans_each gs q ts s.1)

pub spans_term : (gs : List ℕ) (q : Fraction) (t : Tree) → SpansTree gs t → SpansTree gs (rational_times_term q t)
spans_term gs q (mult (more (add us) ts)) s = by (is_number (add us))
  where
    by : (b : Bool) → SpansTree gs (if b then mult (more (rational_times_number q us) ts) else mult (more (num q) (more (add us) ts)))
    by true = (tt, ((tt, spans_each gs q us s.1.0.1), s.1.1))
    by false = (tt, (tt, s.1))
spans_term gs q t s = spans_times gs q t s

-- ---- a term whose coefficient has two classes or more

factors_bytes : (gs : List ℕ) (ts : Trees) → NoneIs is_number ts → AllPartsOf HasForm ts → SpansTrees gs ts → sizes ts ≤ 204 * counted_among ts * 2 ^ length gs
factors_bytes gs none n h s = omega arith
factors_bytes gs (more t ts) (n, ns) (h, hs) (s, ss) =
    let x : size t ≤ 204 * counted t * 2 ^ length gs = tree_bytes gs t (inr h) s in
    let y : sizes ts ≤ 204 * counted_among ts * 2 ^ length gs = factors_bytes gs ts ns hs ss in
    rw (counted_other t ts n) (omega arith)

some_bytes : (gs : List ℕ) (ts : Trees) → AreFactors ts → SpansTrees gs ts → sizes ts + 96 * 2 ^ length gs ≤ 204 * counted_among ts * 2 ^ length gs + 40
some_bytes gs none a s = absurd (omega (arith, a.some))
some_bytes gs (more t ts) a (s, ss) =
    let x : size t + 96 * 2 ^ length gs ≤ 204 * counted t * 2 ^ length gs + 40 = factor_bytes gs t (inr a.formed.0) s a.no_product.0 in
    let y : sizes ts ≤ 204 * counted_among ts * 2 ^ length gs = factors_bytes gs ts a.no_number.1 a.formed.1 ss in
    rw (counted_other t ts a.no_number.0) (omega arith)

-- the other factors leave bytes for the coefficient
no_number : (us ts : Trees) → is_number (mult (more (add us) ts)) ≡ false
unfolding is_number
no_number us ts = refl

product_form : (us ts : Trees) → HasForm (mult (more (add us) ts)) → IsProductForm (more (add us) ts)
product_form us ts h = grind arith

pub led_rest : (gs : List ℕ) (us ts : Trees) → is_reduced (mult (more (add us) ts)) ≡ true → is_number (add us) ≡ true → SpansTrees gs ts
    → sizes ts + 96 * 2 ^ length gs ≤ 204 * counted (mult (more (add us) ts)) * 2 ^ length gs + 40
led_rest gs us ts h n s =
    let parts : AllParts HasForm (mult (more (add us) ts)) = reduced_parts (mult (more (add us) ts)) h refl in
    let is : split_product (more (add us) ts) ≡ split (add us) ts = ap (λ (b : Bool). if b then split (add us) ts else split num_one (more (add us) ts)) n in
    let a : AreFactors ts = factors_behind (add us) ts is (number_words (add us) n) (no_number us ts) (product_form us ts parts.0) parts.1 in
    let b : sizes ts + 96 * 2 ^ length gs ≤ 204 * counted_among ts * 2 ^ length gs + 40 = some_bytes gs ts a s in
    let c : counted (mult (more (add us) ts)) ≡ max 1 (counted_among ts) = ap (max 1) (counted_number (add us) ts n) in
    let grown : 204 * counted_among ts * 2 ^ length gs ≤ 204 * max 1 (counted_among ts) * 2 ^ length gs =
    mul-le (204 * counted_among ts) (2 ^ length gs) (204 * max 1 (counted_among ts)) (2 ^ length gs) (omega arith) (omega arith) in
    rw c (omega arith)

-- ---- the terms of a sum

-- what a term may have, and so its multiples
abbrev cost : ℕ → Tree → ℕ
cost m t = if is_number t then 96 else 204 * counted t * m

abbrev costs : ℕ → Trees → ℕ
costs m none = 0
costs m (more t ts) = cost m t + costs m ts

costs_append : (m : ℕ) (ts us : Trees) → costs m (append ts us) ≡ costs m ts + costs m us
costs_append m none us = omega arith
costs_append m (more t ts) us = omega (arith, costs_append m ts us)

costs_are : (m : ℕ) (ts : Trees) → costs m ts ≡ 96 * numbers_among ts + 204 * counted_among ts * m
costs_are m none = omega arith
costs_are m (more t ts) = by (is_number t) (costs_are m ts)
  where
    by : (b : Bool) → costs m ts ≡ 96 * numbers_among ts + 204 * counted_among ts * m
        → (if b then 96 else 204 * counted t * m) + costs m ts ≡ 96 * ((if b then 1 else 0) + numbers_among ts) + 204 * ((if b then 0 else counted t) + counted_among ts) * m
    by true go = omega arith
    by false go = omega arith

term_cost : (m : ℕ) (t : Tree) → IsTerm t → cost m t ≡ 96
term_cost m t k = ap (λ (b : Bool). if b then 96 else 204 * counted t * m) (number_test t (number_of_term t k))

other_cost : (m : ℕ) (t : Tree) → is_number t ≡ false → cost m t ≡ 204 * counted t * m
other_cost m t n = ap (λ (b : Bool). if b then 96 else 204 * counted t * m) n

own_bytes : (gs : List ℕ) (t : Tree) → AllParts HasForm t → IsTerm t ⊎ (is_number t ≡ false) → SpansTree gs t → size t ≤ cost (2 ^ length gs) t
own_bytes gs t h e s = grind (arith, term_bytes, term_cost, tree_bytes, other_cost)

multiple_bytes : (gs : List ℕ) (q : Fraction) (t : Tree) → IsFactor q → AllParts HasForm t → is_add t ≡ false → IsTerm t ⊎ (is_number t ≡ false) → SpansTree gs t
    → size (rational_times_term q t) ≤ cost (2 ^ length gs) t
multiple_bytes gs q t f h a (inl k) s = omega (arith, term_bytes (rational_times_term q t) (number_term q t f k).one, term_cost (2 ^ length gs) t k)
multiple_bytes gs q t f h a (inr n) s =
    let x = multiple q f t h n a in
    let c : counted (rational_times_term q t) ≡ counted t = sym (part_counts (rational_times_term q t)) ∙ ap counted x.part ∙ part_counts t in
    let b : size (rational_times_term q t) ≤ 204 * counted (rational_times_term q t) * 2 ^ length gs = tree_bytes gs (rational_times_term q t) (inr x.formed) (spans_term gs q t s) in
    let d : size (rational_times_term q t) ≤ 204 * counted t * 2 ^ length gs = subst (λ (n : ℕ). size (rational_times_term q t) ≤ 204 * n * 2 ^ length gs) c b in
    omega (arith, d, other_cost (2 ^ length gs) t n)

rest_bytes : (gs : List ℕ) (ts : Trees) → AllPartsOf HasForm ts → EachTerm ts → SpansTrees gs ts → sizes ts ≤ costs (2 ^ length gs) ts
rest_bytes gs none h k s = omega arith
rest_bytes gs (more t ts) h k s = omega (arith, own_bytes gs t h.0 k.0 s.0, rest_bytes gs ts h.1 k.1 s.1)

-- the first terms, multiplied, and those behind them
done_bytes : (gs : List ℕ) (q : Fraction) (done rest : Trees) → IsFactor q → AllPartsOf HasForm (append done rest) → NoneIs is_add (append done rest)
    → EachTerm (append done rest) → SpansTrees gs (append done rest) → sizes (mapped (rational_times_term q) done) ≤ costs (2 ^ length gs) done
done_bytes gs q none rest f h a k s = omega arith
done_bytes gs q (more t done) rest f h a k s = omega (arith, multiple_bytes gs q t f h.0 a.0 k.0 s.0, done_bytes gs q done rest f h.1 a.1 k.1 s.1)

left_bytes : (gs : List ℕ) (done rest : Trees) → AllPartsOf HasForm (append done rest) → EachTerm (append done rest) → SpansTrees gs (append done rest)
    → sizes rest ≤ costs (2 ^ length gs) rest
left_bytes gs none rest h k s = rest_bytes gs rest h k s
left_bytes gs (more t done) rest h k s = left_bytes gs done rest h.1 k.1 s.1

-- ---- the Number in front

pub no_numbers : (ts : Trees) → NoneIs is_number ts → numbers_among ts ≡ 0
no_numbers none n = refl
no_numbers (more t ts) n = let z : (if is_number t then 1 else 0) ≡ 0 = ap {B = ℕ} (λ (b : Bool). if b then 1 else 0) n.0 in omega (arith, z, no_numbers ts n.1)

at_most_all : (ts : Trees) → numbers_among ts ≤ count ts
at_most_all none = omega arith
at_most_all (more t ts) = by (is_number t) (at_most_all ts)
  where
    by : (b : Bool) → numbers_among ts ≤ count ts → (if b then 1 else 0) + numbers_among ts ≤ count (more t ts)
    by true go = omega arith
    by false go = omega arith

-- its terms are the only Numbers
record IsLead (gs : List ℕ) (ts ns : Trees) : Type 0 where
  are : AreTerms ns
  spans : SpansTrees gs ns
  numbers : numbers_among ts ≤ count ns

lead : (gs : List ℕ) (ts : Trees) → NoneIs is_number (other_terms ts) → SpansTrees gs ts → IsLead gs ts (number_terms ts)
lead gs none n s = record { are = tt; spans = tt; numbers = omega arith }
lead gs (more t ts) n s = by (is_term t) refl n (λ k. lead gs ts k s.1)
  where
    by : (b : Bool) → is_term t ≡ b → NoneIs is_number (if b then other_terms ts else more t ts) → (NoneIs is_number (other_terms ts) → IsLead gs ts (number_terms ts))
        → IsLead gs (more t ts) (if b then more t (number_terms ts) else none)
    by true e k go =
        let l : IsLead gs ts (number_terms ts) = go k in
        let one : numbers_among (more t ts) ≤ 1 + numbers_among ts = at_most (is_number t) in
        record { are = (term_words t e, l.are); spans = (s.0, l.spans); numbers = omega (arith, one, l.numbers) }
      where
        at_most : (b : Bool) → (if b then 1 else 0) + numbers_among ts ≤ 1 + numbers_among ts
        at_most true = omega arith
        at_most false = omega arith
    by false e k go = record { are = tt; spans = tt; numbers = omega (arith, no_numbers (more t ts) k) }

-- ---- a reduced sum

each_of_number : (ts : Trees) → AreTerms ts → EachTerm ts
each_of_number none h = tt
each_of_number (more t ts) h = (inl h.0, each_of_number ts h.1)

-- its terms one by one, and few of them are Numbers
pub record IsSpannedSum (gs : List ℕ) (ts : Trees) : Type 0 where
  pub formed : AllPartsOf HasForm ts
  pub no_sum : NoneIs is_add ts
  pub each : EachTerm ts
  pub spans : SpansTrees gs ts
  pub numbers : numbers_among ts ≤ 2 ^ length gs

pub spanned_sum : (gs : List ℕ) (ts : Trees) → is_reduced (add ts) ≡ true → SpansTree gs (add ts) → IsSpannedSum gs ts
spanned_sum gs ts h s = by parts.0
  where
    parts : AllParts HasForm (add ts)
    parts = reduced_parts (add ts) h refl

    by : HasForm (add ts) → IsSpannedSum gs ts
    by (inl n) = record {
      formed = parts.1;
      no_sum = terms_no_sum ts n.1;
      each = each_of_number ts n.1;
      spans = s.1;
      numbers = omega (arith, at_most_all ts, number_count gs ts n.1 n.2 s.1);
    }
    by (inr f) =
        let l : IsLead gs ts (number_terms ts) = lead gs ts f.no_number s.1 in
        record {
          formed = parts.1;
          no_sum = f.no_sum;
          each = each_term ts f.no_number;
          spans = s.1;
          numbers = omega (arith, l.numbers, number_count gs (number_terms ts) l.are f.number l.spans);
        }

-- while the first terms are multiplied: one more is at hand, whose own bytes are among those of the terms
pub next_lacks : (gs : List ℕ) (q : Fraction) (done : Trees) (t : Tree) (rest : Trees) (free left : ℕ) → IsFactor q → IsSpannedSum gs (append done (more t rest))
    → left + sizes (append (mapped (rational_times_term q) done) (more t rest)) ≡ free + sizes (append done (more t rest)) → left < 48
    → free + size (add (append done (more t rest))) < put_room (counted (add (append done (more t rest)))) (2 ^ length gs)
next_lacks gs q done t rest free left f x e l =
    let m : ℕ = 2 ^ length gs in
    let us : Trees = more t rest in
    let ts : Trees = append done us in
    let p : 0 < m = pow_pos (length gs) in
    let b : costs m ts ≡ 96 * numbers_among ts + 204 * counted_among ts * m = costs_are m ts in
    let c : costs m ts ≡ costs m done + costs m us = costs_append m done us in
    let d : sizes (mapped (rational_times_term q) done) ≤ costs m done = done_bytes gs q done us f x.formed x.no_sum x.each x.spans in
    let g : sizes us ≤ costs m us = left_bytes gs done us x.formed x.each x.spans in
    let n : numbers_among ts ≤ m = x.numbers in
    let a : sizes (append (mapped (rational_times_term q) done) us) ≡ sizes (mapped (rational_times_term q) done) + sizes us = sizes_append (mapped (rational_times_term q) done) us in
    omega (arith, e, l, a, b, c, d, g, n, p)

-- the same, where it is a term whose coefficient has two classes or more
pub led_lacks : (gs : List ℕ) (q : Fraction) (done : Trees) (t : Tree) (rest : Trees) (free left : ℕ) → IsFactor q → IsSpannedSum gs (append done (more t rest))
    → is_number t ≡ false → left + sizes (append (mapped (rational_times_term q) done) (more t rest)) ≡ free + sizes (append done (more t rest))
    → left + size t < need.tree_bytes (counted t) (2 ^ length gs) + 104
    → free + size (add (append done (more t rest))) < put_room (counted (add (append done (more t rest)))) (2 ^ length gs)
led_lacks gs q done t rest free left f x o e l =
    let m : ℕ = 2 ^ length gs in
    let us : Trees = more t rest in
    let ts : Trees = append done us in
    let p : 0 < m = pow_pos (length gs) in
    let b : costs m ts ≡ 96 * numbers_among ts + 204 * counted_among ts * m = costs_are m ts in
    let c : costs m ts ≡ costs m done + (cost m t + costs m rest) = costs_append m done us in
    let k : cost m t ≡ 204 * counted t * m = other_cost m t o in
    let d : sizes (mapped (rational_times_term q) done) ≤ costs m done = done_bytes gs q done us f x.formed x.no_sum x.each x.spans in
    let g : sizes rest ≤ costs m rest = behind_bytes gs done t rest x.formed x.each x.spans in
    let n : numbers_among ts ≤ m = x.numbers in
    let a : sizes (append (mapped (rational_times_term q) done) us) ≡ sizes (mapped (rational_times_term q) done) + (size t + sizes rest) = sizes_append (mapped (rational_times_term q) done) us in
    omega (arith, e, l, a, b, c, d, g, k, n, p)
  where
    behind_bytes : (gs : List ℕ) (done : Trees) (t : Tree) (rest : Trees) → AllPartsOf HasForm (append done (more t rest)) → EachTerm (append done (more t rest))
        → SpansTrees gs (append done (more t rest)) → sizes rest ≤ costs (2 ^ length gs) rest
    behind_bytes gs none t rest h k s = rest_bytes gs rest h.1 k.1 s.1
    behind_bytes gs (more u done) t rest h k s = behind_bytes gs done t rest h.1 k.1 s.1

pub spans_at : (gs : List ℕ) (done : Trees) (t : Tree) (rest : Trees) → SpansTrees gs (append done (more t rest)) → SpansTree gs t
spans_at gs none t rest s = s.0
spans_at gs (more u done) t rest s = spans_at gs done t rest s.1

led_no_number : (t : Tree) → leads_sum t ≡ true → is_number t ≡ false
unfolding is_number
led_no_number t h = grind arith

-- a next term is refused, for few bytes or beside its coefficient
pub term_lacks : (gs : List ℕ) (q : Fraction) (done : Trees) (t : Tree) (rest : Trees) (free left : ℕ) (e : NumberFault) → IsFactor q → IsSpannedSum gs (append done (more t rest))
    → left + sizes (append (mapped (rational_times_term q) done) (more t rest)) ≡ free + sizes (append done (more t rest))
    → (leads_sum t ≡ false → OfFull (λ g. left < 48) e) → (leads_sum t ≡ true → OfFull (λ g. left + size t < need.tree_bytes (counted t) (2 ^ length gs) + 104) e)
    → LacksRoom (counted (add (append done (more t rest)))) (free + size (add (append done (more t rest)))) gs e
term_lacks gs q done t rest free left (fault.Overflow o) f x s few led = tt
term_lacks gs q done t rest free left (fault.Full g) f x s few led = by (leads_sum t) refl
  where
    by : (b : Bool) → leads_sum t ≡ b → free + size (add (append done (more t rest))) < put_room (counted (add (append done (more t rest)))) (2 ^ length gs)
    by false k = next_lacks gs q done t rest free left f x s (few k)
    by true k = led_lacks gs q done t rest free left f x (led_no_number t k) s (led k)

-- a term of a coefficient is refused beside the other factors
pub coefficient_lacks : (gs : List ℕ) (us ts : Trees) (free : ℕ) → is_reduced (mult (more (add us) ts)) ≡ true → is_number (add us) ≡ true → SpansTrees gs ts
    → free + size (add us) < 96 * 2 ^ length gs + 56 → free + size (mult (more (add us) ts)) < need.tree_bytes (counted (mult (more (add us) ts))) (2 ^ length gs) + 104
coefficient_lacks gs us ts free h n s l = grind (arith, led_rest)

-- a term of a Number is refused for few bytes
pub number_lacks : (gs : List ℕ) (q : Fraction) (done : Trees) (t : Tree) (rest : Trees) (free left : ℕ) → IsFactor q → is_number (add (append done (more t rest))) ≡ true
    → SpansTree gs (add (append done (more t rest))) → left + sizes (append (mapped (rational_times q) done) (more t rest)) ≡ free + sizes (append done (more t rest)) → left < 48
    → free + size (add (append done (more t rest))) < 96 * 2 ^ length gs + 56
number_lacks gs q done t rest free left f n s e l =
    let b : sizes (append (mapped (rational_times q) done) (more t rest)) ≤ 96 * 2 ^ length gs = number_bytes gs q done (more t rest) f (number_words (add (append done (more t rest))) n) s.1 in
    omega (arith, e, l, b)

-- a part is refused for few bytes, alone or beside a coefficient
pub part_lacks : (gs : List ℕ) (t : Tree) (free : ℕ) → is_reduced t ≡ true → SpansTree gs t → free < 48 → free + size t < put_room (counted t) (2 ^ length gs)
part_lacks gs t free h s l = grind (arith, tree_bytes, reduced_words, pow_pos)

pub both_lack : (gs : List ℕ) (c t : Tree) (free : ℕ) → is_number c ≡ true → is_reduced t ≡ true → SpansTree gs c → SpansTree gs t → free < 8
    → free + size c + size t < put_room (counted t) (2 ^ length gs)
both_lack gs c t free n h s u l = grind (arith, tree_bytes, reduced_words, number_size)

-- so few are fewer than any part and a Number may have
pub few_for_put : (gs : List ℕ) (c n : ℕ) → n < 40 → n < put_room c (2 ^ length gs)
few_for_put gs c n l = let p : 0 < 2 ^ length gs = pow_pos (length gs) in omega (arith, l, p)
