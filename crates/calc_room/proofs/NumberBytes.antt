-- How many classes and how many bytes a Number has at most.
use Rattle.calc_room.proofs.Shared.{◌≡◌, ℕ, suc, ◌+◌, ◌*◌, ◌^◌, ◌≤◌, ◌<◌, ◌⊎◌, inl, inr, List, [], ◌∷◌, length, Bool, true, false, refl, sym, ap, ◌∙◌, subst, arith, ⊤, nat_le, if◌then◌else◌, pow_pos}
use Rattle.calc_room.proofs.Shared.{Fraction, num_most, Tree, num, add, Trees, none, more, count, size, sizes, IsNumber, IsTerm, AreTerms, IsBelowAll, Rises, value, classes, term_of, terms_of}
use Rattle.calc_room.proofs.Shared.{are_alike, radicands, Same, Term, Surd, term_proper, terms_proper, value_rises, one_apart_from_clean, AsTerm, as_term, AsNumber, as_number, root_terms, Spans}
use Rattle.calc_room.proofs.{SpanLaws.{one_spanned}, NumberSpans.{spans_same_terms}, Classes.{NoneAlike, AreApart, AreSpanned, few_spanned}}

-- ---- bytes of terms

-- the one place that knows the bytes of a rational
pub num_bytes : (q : Fraction) → size (num q) ≤ 40
num_bytes q = num_most q

rational_bytes : (t : Tree) (q : Fraction) → t ≡ num q → size t ≤ 40
rational_bytes t q e = subst (λ x. size x ≤ 40) (sym e) (num_bytes q)

term_bytes_by : (t : Tree) → AsTerm t → size t ≤ 96
term_bytes_by t h = grind arith

pub term_bytes : (t : Tree) → IsTerm t → size t ≤ 96
term_bytes t h = term_bytes_by t (as_term t h)

rational_by : (t : Tree) → AsTerm t → (term_of t).radicand ≡ 1 → size t ≤ 40
rational_by t h e = grind arith

pub rational_term_bytes : (t : Tree) → IsTerm t → (term_of t).radicand ≡ 1 → size t ≤ 40
rational_term_bytes t h e = rational_by t (as_term t h) e

-- a radicand of 2 or more is not alike with 1
apart_by : (t : Tree) → AsTerm t → 2 ≤ (term_of t).radicand → are_alike 1 (term_of t).radicand ≡ false
apart_by t h l = grind (arith, one_apart_from_clean)

-- ---- lists of terms

-- each radicand is 2 or more
abbrev AreRoots : Surd → Type 0
AreRoots [] = ⊤
AreRoots (t ∷ v) = (2 ≤ t.radicand) × AreRoots v

roots_above : (t : Term) (v : Surd) → 0 < t.radicand → IsBelowAll t v → AreRoots v
roots_above t [] h b = tt
roots_above t (u ∷ v) h (l, a, b) = (omega arith, roots_above t v h b)

pub roots_bytes : (ts : Trees) → AreTerms ts → sizes ts ≤ 96 * count ts
roots_bytes none h = omega arith
roots_bytes (more t ts) (h, hs) = let a : size t ≤ 96 = term_bytes t h in let b : sizes ts ≤ 96 * count ts = roots_bytes ts hs in omega arith

apart_from_one : (ts : Trees) → AreTerms ts → AreRoots (terms_of ts) → NoneAlike 1 (radicands (terms_of ts))
apart_from_one none h r = tt
apart_from_one (more t ts) (h, hs) (r, rs) = (apart_by t (as_term t h) r, apart_from_one ts hs rs)

none_alike : (t : Term) (v : Surd) → IsBelowAll t v → NoneAlike t.radicand (radicands v)
none_alike t [] h = tt
none_alike t (u ∷ v) (l, a, h) = (a, none_alike t v h)

pub rises_apart : (v : Surd) → Rises v → AreApart (radicands v)
rises_apart [] h = tt
rises_apart (t ∷ v) (h, hs) = (none_alike t v h, rises_apart v hs)

pub spans_each : (gs : List ℕ) (v : Surd) → Spans gs v → AreSpanned gs (radicands v)
spans_each gs [] h = tt
spans_each gs (t ∷ v) (h, hs) = (h, spans_each gs v hs)

pub radicands_length : (v : Surd) → length (radicands v) ≡ length v
radicands_length [] = refl
radicands_length (t ∷ v) = ap suc (radicands_length v)

pub count_terms : (ts : Trees) → length (terms_of ts) ≡ count ts
count_terms none = refl
count_terms (more t ts) = ap suc (count_terms ts)

-- no two alike, so at most as many as there are choices of the list
pub few_terms : (gs : List ℕ) (v : Surd) → Rises v → Spans gs v → length v ≤ 2 ^ length gs
few_terms gs v r s = subst (λ n. n ≤ 2 ^ length gs) (radicands_length v) (few_spanned gs (radicands v) (rises_apart v r) (spans_each gs v s))

-- roots leave a choice to the rational
few_roots : (gs : List ℕ) (ts : Trees) → AreTerms ts → AreRoots (terms_of ts) → Rises (terms_of ts) → Spans gs (terms_of ts) → suc (count ts) ≤ 2 ^ length gs
few_roots gs ts h r k s =
    let v : Surd = terms_of ts in
    subst (λ n. suc n ≤ 2 ^ length gs) (radicands_length v ∙ count_terms ts)
    (few_spanned gs (1 ∷ radicands v) (apart_from_one ts h r, rises_apart v k) (one_spanned gs, spans_each gs v s))

-- the first term is rational, or all are roots
record Headed (ts : Trees) (m : ℕ) : Type 0 where
  bytes : sizes ts + 56 ≤ 96 * m
  roots : root_terms (terms_of ts) + 1 ≤ m

root_terms_at_most : (v : Surd) → root_terms v ≤ length v
root_terms_at_most [] = omega arith
root_terms_at_most (t ∷ v) = by (nat_le 2 t.radicand) (root_terms_at_most v)
  where
    by : (b : Bool) → root_terms v ≤ length v → (if b then 1 else 0) + root_terms v ≤ suc (length v)
    by true h = omega arith
    by false h = omega arith

rational_first : (s c r l m : ℕ) (u : ℕ) → u ≤ 40 → s ≤ 96 * c → r ≤ l → l ≡ c → suc c ≤ m → (u + s + 56 ≤ 96 * m) × ((0 + r) + 1 ≤ m)
rational_first s c r l m u a b d e f = (omega arith, omega arith)

all_roots : (s c r l m : ℕ) → s ≤ 96 * c → r ≤ l → l ≡ c → suc c ≤ m → (s + 56 ≤ 96 * m) × (r + 1 ≤ m)
all_roots s c r l m b d e f = (omega arith, omega arith)

one_or_more : (n : ℕ) → 0 < n → (n ≡ 1) ⊎ (2 ≤ n)
one_or_more n h = grind arith

headed : (gs : List ℕ) (ts : Trees) → AreTerms ts → Rises (terms_of ts) → Spans gs (terms_of ts) → Headed ts (2 ^ length gs)
headed gs none h r s = let p : 0 < 2 ^ length gs = pow_pos (length gs) in record { bytes = omega arith; roots = omega arith }
headed gs (more t us) (h, hs) (r, rs) (s, ss) = by (one_or_more (term_of t).radicand (term_proper t h).positive)
  where
    m : ℕ
    m = 2 ^ length gs

    above : AreRoots (terms_of us)
    above = roots_above (term_of t) (terms_of us) (term_proper t h).positive r

    by : ((term_of t).radicand ≡ 1) ⊎ (2 ≤ (term_of t).radicand) → Headed (more t us) m
    by (inl e) =
        let l : suc (length (terms_of us)) ≤ m = few_terms gs (terms_of (more t us)) (r, rs) (s, ss) in
        let (a, b) = rational_first (sizes us) (count us) (root_terms (terms_of us)) (length (terms_of us)) m (size t)
        (rational_term_bytes t h e) (roots_bytes us hs) (root_terms_at_most (terms_of us)) (count_terms us) (subst (λ n. suc n ≤ m) (count_terms us) l) in
        record { bytes = a; roots = subst (λ n. ((if nat_le 2 n then 1 else 0) + root_terms (terms_of us)) + 1 ≤ m) (sym e) b }
    by (inr l) =
        let (a, b) = all_roots (sizes (more t us)) (count (more t us)) (root_terms (terms_of (more t us))) (length (terms_of (more t us))) m
        (roots_bytes (more t us) (h, hs)) (root_terms_at_most (terms_of (more t us))) (count_terms (more t us)) (few_roots gs (more t us) (h, hs) (l, above) (r, rs) (s, ss)) in
        record { bytes = a; roots = b }

pub sum_bytes : (gs : List ℕ) (ts : Trees) → AreTerms ts → Rises (terms_of ts) → Spans gs (terms_of ts) → sizes ts + 56 ≤ 96 * 2 ^ length gs
sum_bytes gs ts h r s = (headed gs ts h r s).bytes

-- ---- Numbers

pub number_classes : (gs : List ℕ) (t : Tree) → IsNumber t → Spans gs (value t) → classes t ≤ 2 ^ length gs
number_classes gs t h s = few_terms gs (value t) (value_rises t h) s

single_bytes : (u m : ℕ) → u + 0 + 56 ≤ 96 * m → u + 48 ≤ 96 * m
single_bytes u m h = omega arith

zero_bytes : (m u : ℕ) → 0 < m → u ≤ 40 → u + 48 ≤ 96 * m
zero_bytes m u p h = omega arith

bytes_by : (gs : List ℕ) (t : Tree) → AsNumber t → Rises (value t) → Spans gs (value t) → (size t + 48 ≤ 96 * 2 ^ length gs) × (root_terms (value t) + 1 ≤ 2 ^ length gs)
bytes_by gs t (inl a) r s =
    let p : 0 < 2 ^ length gs = pow_pos (length gs) in
    (zero_bytes (2 ^ length gs) (size t) p (rational_bytes t _ a.is), subst (λ v. root_terms v + 1 ≤ 2 ^ length gs) (sym a.value_is) (omega arith))
bytes_by gs t (inr (inl a)) r s =
    let k : Headed (more t none) (2 ^ length gs) = headed gs (more t none) (a.one, tt) (subst Rises a.value_is r) (subst (Spans gs) a.value_is s) in
    (single_bytes (size t) (2 ^ length gs) k.bytes, subst (λ v. root_terms v + 1 ≤ 2 ^ length gs) (sym a.value_is) k.roots)
bytes_by gs t (inr (inr a)) r s =
    let k : Headed a.ts (2 ^ length gs) = headed gs a.ts a.are (subst Rises a.value_is r) (subst (Spans gs) a.value_is s) in
    (subst (λ x. size x + 48 ≤ 96 * 2 ^ length gs) (sym a.is) (let l : sizes a.ts + 56 ≤ 96 * 2 ^ length gs = k.bytes in omega arith), subst (λ v. root_terms v + 1 ≤ 2 ^ length gs) (sym a.value_is) k.roots)

pub number_bytes : (gs : List ℕ) (t : Tree) → IsNumber t → Spans gs (value t) → size t + 48 ≤ 96 * 2 ^ length gs
number_bytes gs t h s = (bytes_by gs t (as_number t h) (value_rises t h) s).0

pub number_roots : (gs : List ℕ) (t : Tree) → IsNumber t → Spans gs (value t) → root_terms (value t) + 1 ≤ 2 ^ length gs
number_roots gs t h s = (bytes_by gs t (as_number t h) (value_rises t h) s).1

-- ---- sums of any number of terms

pub partial_bytes : (gs : List ℕ) (ts : Trees) (v : Surd) → AreTerms ts → Rises (terms_of ts) → Same (terms_of ts) v → Spans gs v → size (add ts) + 48 ≤ 96 * 2 ^ length gs
partial_bytes gs ts v h r e s = grind (arith, sum_bytes, spans_same_terms, terms_proper)
