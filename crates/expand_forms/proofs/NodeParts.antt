-- The parts and the factors of a node over expanded children.
use Rattle.expand_forms.proofs.Shared.{◌≡◌, ◌≢◌, ◌<◌, ◌≤◌, ◌+◌, ◌*◌, ℕ, zero, suc, negsuc, Bool, List, [], ◌∷◌, ◌++◌, true, false, drop, take, length, append_assoc, refl, sym, ap, ◌∙◌, subst, arith}
use Rattle.expand_forms.proofs.Shared.{append-nil, if◌then◌else◌, AreExpanded, AreExpandedFrom, AreHeldTogether, Fraction, HasFewTerms, HasNoNewName, IsExpanded, IsHeld, IsTerm, Polynomial, Tree}
use Rattle.expand_forms.proofs.Shared.{Trees, Within, add, bits_of, children_of, count, div, divisor_of, exponent_of, high, inverse, inverse_times_itself, is_divisor, is_num, is_one_fraction}
use Rattle.expand_forms.proofs.Shared.{is_polynomial, is_zero_fraction, low, minus_one_fraction, more, mult, names, names_of, neg, no_new_name, no_zero, none, nth, num, one_fraction, polynomial_of}
use Rattle.expand_forms.proofs.Shared.{power, product, product_of, raised, root_kind, scaled, sub, sum_of, times, whole_numerator, within_both, within_left, within_none, within_of, within_same}
use Rattle.expand_forms.proofs.Shared.{within_trans, zero_fraction, zero_times, one_not_zero, int_is_zero, normal, Part, each_once, has_factors, has_parts, multiplied, part, part_factor, parts_of}
use Rattle.expand_forms.proofs.Shared.{repeated, total, constant, summand, row, few_names, IsGathered, gathered_is, gathered_products, gathered_trans, are_named, product_named, constant_product}
use Rattle.expand_forms.proofs.{Shared.{scaled_one}, Expansions.{constant_is_expanded}, NodeBits.{difference_over, few_bits, opposite_over, power_over, product_over, quotient_over, sum_over}}
use Rattle.expand_forms.proofs.{NodeRooms.{names_from, nth_names}, Nodes.{from}}
use Rattle.calc_terms.proofs.FractionFacts.{zero_test as is_nonzero}
use Rattle.calc_terms.specs.declared.kind.Kind.TheVariants as kind

-- ---- how many parts there are

once_number : (ts : Trees) → length (each_once ts) ≡ count ts
once_number none = refl
once_number (more t ts) = ap suc (once_number ts)

pub part_number : (t : Tree) → has_parts t ≡ true → (kind.Div ≡ root_kind t → ⊥) → count (children_of t) ≡ length (parts_of t)
part_number t h k = grind (arith, once_number)

pub one_part : (t : Tree) → kind.Div ≡ root_kind t → 1 ≡ length (parts_of t)
one_part t k = grind arith

pub parts_within : (t : Tree) (n : ℕ) → n < length (parts_of t) → n < count (children_of t)
parts_within t n l = grind (arith, once_number)

-- ---- the part at a place

once_next : (n : ℕ) (ts : Trees) → n < length (each_once ts) → drop n (each_once ts) ≡ part one_fraction (nth n ts) ∷ drop (suc n) (each_once ts)
once_next n none l = absurd (omega (arith, l))
once_next zero (more t ts) l = refl
once_next (suc n) (more t ts) l = once_next n ts (omega (arith, l))

at_next : (t : Tree) (n : ℕ) → n < length (parts_of t) → drop n (parts_of t) ≡ part (part_factor t n) (nth n (children_of t)) ∷ drop (suc n) (parts_of t)
at_next (add ts) n l = once_next n ts l
at_next (neg a) zero l = refl
at_next (neg a) (suc n) l = absurd (omega (arith, l))
at_next (sub a b) zero l = refl
at_next (sub a b) (suc zero) l = refl
at_next (sub a b) (suc (suc n)) l = absurd (omega (arith, l))
at_next (div a c) zero l = refl
at_next (div a c) (suc n) l = absurd (omega (arith, l))
at_next t n l = absurd (omega (arith, l))

pub part_next : (t u : Tree) (n : ℕ) (q : Fraction) → n < length (parts_of t) → q ≡ part_factor t n → u ≡ nth n (children_of t) → drop n (parts_of t) ≡ part q u ∷ drop (n + 1) (parts_of t)
part_next t u n q l e f = at_next t n l ∙ (λ i. part (sym e i) (sym f i) ∷ drop ((let o : suc n ≡ n + 1 = omega arith in o) i) (parts_of t))

-- ---- by what it is multiplied

pub factor_opposite : (t : Tree) (n : ℕ) → kind.Neg ≡ root_kind t → minus_one_fraction ≡ part_factor t n
factor_opposite t n k = grind arith

factor_first : (t : Tree) (n : ℕ) → kind.Sub ≡ root_kind t → n ≡ 0 → one_fraction ≡ part_factor t n
factor_first t n k e = grind arith

factor_second : (t : Tree) (n : ℕ) → kind.Sub ≡ root_kind t → (n ≡ 0 → ⊥) → minus_one_fraction ≡ part_factor t n
factor_second t zero k e = absurd (e refl)
factor_second t (suc n) k e = grind arith

pub factor_sign : (t : Tree) (n : ℕ) (q : Fraction) → kind.Sub ≡ root_kind t → (n ≡ 0 → q ≡ one_fraction) → ((n ≡ 0 → ⊥) → q ≡ minus_one_fraction) → q ≡ part_factor t n
factor_sign t zero q k f g = f refl ∙ factor_first t 0 k refl
factor_sign t (suc n) q k f g = g (λ e. omega (arith, e)) ∙ factor_second t (suc n) k (λ e. omega (arith, e))

pub factor_quotient : (t : Tree) (n : ℕ) → kind.Div ≡ root_kind t → inverse (divisor_of (nth 1 (children_of t))) ≡ part_factor t n
factor_quotient t n k = grind arith

pub factor_other : (t : Tree) (n : ℕ) → (kind.Neg ≡ root_kind t → ⊥) → (kind.Sub ≡ root_kind t → ⊥) → (kind.Div ≡ root_kind t → ⊥) → one_fraction ≡ part_factor t n
factor_other t n a b d = grind arith

pub minus_nonzero : is_zero_fraction minus_one_fraction ≡ false
minus_nonzero = ap int_is_zero (whole_numerator (negsuc 0))

divisor_not_zero : (d : Tree) → is_num d ≡ true → is_divisor d ≡ true → divisor_of d ≢ zero_fraction
divisor_not_zero (num q) e h = no_zero q h
divisor_not_zero d e h = absurd cc

pub inverse_nonzero : (d : Tree) → is_num d ≡ true → is_divisor d ≡ true → is_zero_fraction (inverse (divisor_of d)) ≡ false
inverse_nonzero d e h =
    let q = divisor_of d in
    is_nonzero (inverse q) (λ z. one_not_zero (sym (inverse_times_itself q (divisor_not_zero d e h)) ∙ ap (λ x. times x q) z ∙ zero_times q))

-- ---- the sum of the parts

total_once : (ts : Trees) → total (each_once ts) ≡ sum_of ts
total_once none = refl
total_once (more t ts) = λ i. scaled_one (polynomial_of t) i ++ total_once ts i

pub total_parts : (t : Tree) → has_parts t ≡ true → total (parts_of t) ≡ polynomial_of t
total_parts (add ts) h = total_once ts
total_parts (neg a) h = append-nil (scaled minus_one_fraction (polynomial_of a))
total_parts (sub a b) h = λ i. scaled_one (polynomial_of a) i ++ append-nil (scaled minus_one_fraction (polynomial_of b)) i
total_parts (div a c) h = append-nil (scaled (inverse (divisor_of c)) (polynomial_of a))
total_parts t h = absurd cc

-- the sum of the first n
taken : (n : ℕ) (ps : List Part) (p : Part) (rest : List Part) → drop n ps ≡ p ∷ rest → take (n + 1) ps ≡ take n ps ++ p ∷ []
taken n [] p rest e = absurd (none n e)
  where
    none : (n : ℕ) → drop n [] ≡ p ∷ rest → ⊥
    none zero e = cc
    none (suc n) e = cc
taken zero (x ∷ ps) p rest e = ap (take 1) e
taken (suc n) (x ∷ ps) p rest e = ap (λ k. take k (x ∷ ps)) (let f : suc n + 1 ≡ suc (n + 1) = omega arith in f) ∙ ap (λ (l : List Part). x ∷ l) (taken n ps p rest e)

total_append : (ps qs : List Part) → total (ps ++ qs) ≡ total ps ++ total qs
total_append [] qs = refl
total_append (p ∷ ps) qs = ap (λ (v : Polynomial). scaled p.factor (polynomial_of p.tree) ++ v) (total_append ps qs) ∙ sym (append_assoc (scaled p.factor (polynomial_of p.tree)) (total ps) (total qs))

pub total_more : (n : ℕ) (ps : List Part) (q : Fraction) (u : Tree) → drop n ps ≡ part q u ∷ drop (n + 1) ps → total (take n ps) ++ scaled q (polynomial_of u) ≡ total (take (n + 1) ps)
total_more n ps q u e =
    ap (λ (v : Polynomial). total (take n ps) ++ v) (sym (append-nil (scaled q (polynomial_of u)))) ∙ sym (total_append (take n ps) (part q u ∷ []))
    ∙ ap total (sym (taken n ps (part q u) (drop (n + 1) ps) e))

-- the term 1
pub one_term : (t : Tree) → t ≡ num one_fraction → IsTerm t
one_term t e = record { summand = summand one_fraction []; nonzero = one_not_zero; monomial = tt; tree = e ∙ by (is_one_fraction one_fraction) }
  where
    by : (b : Bool) → num one_fraction ≡ (if b then num one_fraction else num one_fraction)
    by true = refl
    by false = refl

-- a part as a row of products with 1
pub part_row : (q : Fraction) (one u : Tree) → is_zero_fraction q ≡ false → one ≡ num one_fraction → IsExpanded u → IsGathered (scaled q (polynomial_of u)) (row q one 0 u)
part_row q one u h e x =
    let v = polynomial_of u in
    let constant_itself : normal (constant q) ≡ constant q = rw h refl in
    gathered_trans (gathered_is (sym (constant_product q v))) (gathered_trans (gathered_products (num q) u (constant_is_expanded q) x)
    (gathered_is (ap (λ (w : Polynomial). product w (normal v)) constant_itself ∙ sym (λ i. row q (e i) 0 u))))

-- ---- factors

repeated_number : (n : ℕ) (t : Tree) → count (repeated n t) ≡ n
repeated_number zero t = refl
repeated_number (suc n) t = ap suc (repeated_number n t)

repeated_nth : (n m : ℕ) (t : Tree) → n < count (repeated m t) → nth n (repeated m t) ≡ t
repeated_nth n zero t l = absurd (omega (arith, l))
repeated_nth zero (suc m) t l = refl
repeated_nth (suc n) (suc m) t l = repeated_nth n m t (omega (arith, l))

pub power_number : (t : Tree) → kind.Pow ≡ root_kind t → exponent_of (nth 1 (children_of t)) ≡ count (multiplied t)
power_number t k = grind (arith, repeated_number)

pub product_number : (t : Tree) → has_factors t ≡ true → (kind.Pow ≡ root_kind t → ⊥) → count (children_of t) ≡ count (multiplied t)
product_number t h k = grind arith

pub power_factor : (t : Tree) (n : ℕ) → kind.Pow ≡ root_kind t → n < count (multiplied t) → nth 0 (children_of t) ≡ nth n (multiplied t)
power_factor t n k l = grind (arith, repeated_nth)

pub product_factor : (t : Tree) (n : ℕ) → (kind.Pow ≡ root_kind t → ⊥) → n < count (multiplied t) → (n < count (children_of t)) × (nth n (children_of t) ≡ nth n (multiplied t))
product_factor (mult ts) n k l = (l, refl)
product_factor (power b e) n k l = absurd (k refl)
product_factor t n k l = absurd (omega (arith, l))

repeated_expanded : (n : ℕ) (t : Tree) → IsExpanded t → AreExpanded (repeated n t)
repeated_expanded zero t h = tt
repeated_expanded (suc n) t h = (h, repeated_expanded n t h)

pub multiplied_expanded : (t : Tree) → AreExpanded (children_of t) → AreExpanded (multiplied t)
multiplied_expanded (mult ts) h = h
multiplied_expanded (power b e) h = repeated_expanded (exponent_of e) b h.0
multiplied_expanded t h = tt

repeated_product : (n : ℕ) (t : Tree) → product_of (repeated n t) ≡ raised (polynomial_of t) n
repeated_product zero t = refl
repeated_product (suc n) t = ap (product (polynomial_of t)) (repeated_product n t)

pub multiplied_product : (t : Tree) → has_factors t ≡ true → product_of (multiplied t) ≡ polynomial_of t
multiplied_product (mult ts) h = refl
multiplied_product (power b e) h = repeated_product (exponent_of e) b
multiplied_product t h = absurd cc

-- ---- their names

repeated_names : (n : ℕ) (t : Tree) → Within (names t) (names_of (repeated n t))
repeated_names zero t = within_none (names t)
repeated_names (suc n) t = within_both (names t) (names t) (names_of (repeated n t)) (within_same (names t)) (repeated_names n t)

pub multiplied_names : (t : Tree) → Within (names t) (names_of (multiplied t))
multiplied_names (mult ts) = within_same (names_of ts)
multiplied_names (power b e) = within_trans (within_left (names b) (names e)) (repeated_names (exponent_of e) b)
multiplied_names t = within_none (names t)

pub few_rest : {whole t : Tree} (n : ℕ) → HasNoNewName whole t → HasFewTerms (names whole) (length (product_of (from n (multiplied t)))) (product_of (from n (multiplied t)))
few_rest {whole} {t} n h =
    let ts = from n (multiplied t) in
    record { named = are_named (names whole) (product_of ts) (product_named (names whole) ts (within_trans (within_of h) (within_trans (multiplied_names t) (names_from n (multiplied t))))); few = omega arith }

pub few_factor : {whole t u : Tree} (n : ℕ) → HasNoNewName whole t → u ≡ nth n (multiplied t) → HasFewTerms (names whole) (length (polynomial_of u)) (polynomial_of u)
few_factor {whole} {t} {u} n h e =
    few_names whole u (length (polynomial_of u))
    (subst (HasNoNewName whole) (sym e) (no_new_name (within_trans (within_of h) (within_trans (multiplied_names t) (nth_names n (multiplied t)))))) (omega arith)

-- ---- by what bits they are held

held_repeated : (n : ℕ) (t : Tree) {h l : ℕ} → IsHeld (polynomial_of t) h l → AreHeldTogether (repeated n t) (n * h) (n * l)
held_repeated zero t x = tt
held_repeated (suc n) t {h} {l} x = (h, l, n * h, n * l, x, held_repeated n t x, omega arith, omega arith)

pub factors_over : (w u : Tree) → root_kind u ≡ root_kind w → has_factors u ≡ true → is_polynomial w ≡ true → AreExpandedFrom (children_of w) (children_of u) → bits_of w ≤ 124
    → (h : ℕ) × (l : ℕ) × AreHeldTogether (multiplied u) h l × (h + l < 127)
factors_over w (mult us) k q p e few = (high w, low w, product_over w (mult us) k p e, few_bits w few)
factors_over w (power c y) k q p e few =
    let (h, l, held, less) = power_over w (power c y) k refl p e few in
    let n = exponent_of y in
    (n * h, n * l, held_repeated n c held, omega (arith, less))
factors_over w u k q p e few = absurd cc

pub parts_over : (w u : Tree) → root_kind u ≡ root_kind w → has_parts u ≡ true → is_polynomial w ≡ true → AreExpandedFrom (children_of w) (children_of u) → IsHeld (polynomial_of u) (high w) (low w)
parts_over w (add us) k q p e = sum_over w (add us) k refl p e
parts_over w (neg a) k q p e = opposite_over w (neg a) k refl p e
parts_over w (sub a b) k q p e = difference_over w (sub a b) k refl p e
parts_over w (div a c) k q p e = quotient_over w (div a c) k refl p e
parts_over w u k q p e = absurd cc
