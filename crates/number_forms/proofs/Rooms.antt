-- How many bytes stand while Numbers are added, multiplied and raised, and for how few at hand a call is refused.
use Rattle.number_forms.proofs.Shared.{◌≡◌, ℕ, zero, suc, ◌+◌, ◌*◌, ◌^◌, ◌<◌, ◌≤◌, List, length, [], ◌∷◌, ◌++◌, true, Some, Result, sym, ap, ◌∙◌, subst, arith, IfOk, IfErr, slice_get, pow_pos}
use Rattle.number_forms.proofs.Shared.{Fraction, plus, times, negative, zero_fraction, one_fraction, plus_comm, plus_assoc, times_comm, times_plus, zero_plus, zero_times, one_times, plus_negative}
use Rattle.number_forms.proofs.Shared.{Tree, add, size, sizes, is_number, value, terms_of, classes, Same, Term, Surd, surd_scale, surd_times, surd_power, terms_proper, number_words, Same-Agree}
use Rattle.number_forms.proofs.Shared.{Agree-Same, class_coefficient-append, class_coefficient-surd_scale, sum_need, product_need, power_need, inverse_need, IsSpanned, Spans, SpansTree, spans_append}
use Rattle.number_forms.proofs.Shared.{spans_scale, spans_same_terms, value_spanned, sum_spanned, product_spanned, power_spanned, inverse_spanned, State, free_of, Full, IsNumberOf, inverse_trees}
use Rattle.number_forms.proofs.Shared.{IsInverseOf, LacksInverse, OfFull, terms_from, joining_need, raising_need, IsSum, IsSumOf, replaced_free, children_of, Forest, tree_of, IsHanded, Gives, Stands}
use Rattle.number_forms.proofs.{Shared.{forest, NumberFault, given_told, number_bytes, partial_bytes, joint_need, Joint}, Worth.{some_term}, LastSums.{sum_is}, Loops.{IsSumWith, IsJoined}}
use Rattle.number_forms.proofs.{Placings.{lacking_below}, SumChanges.{sum_value}}
use Rattle.number_forms.specs.declared.calculating.Joint.TheVariants as joint

-- ---- facts of a refusal

pub full_as : {P Q : Full → Type 0} (e : NumberFault) → OfFull P e → ((f : Full) → P f → Q f) → OfFull Q e
full_as e p k = grind arith

pub refusal_as : {A E : Type 0} {P Q : E → Type 0} (r : Result A E) → IfErr r P → ((e : E) → P e → Q e) → IfErr r Q
refusal_as r p k = grind arith

-- ---- sums under way

abbrev minus_one : Fraction
minus_one = negative one_fraction

opposite : (a : Fraction) → plus a (times minus_one a) ≡ zero_fraction
opposite a =
    let one : a ≡ times a one_fraction = sym (one_times a) ∙ times_comm one_fraction a in
    (λ i. plus (one i) (times_comm minus_one a i)) ∙ sym (times_plus a one_fraction minus_one) ∙ ap (times a) (plus_negative one_fraction) ∙ times_comm a zero_fraction ∙ zero_times a

-- what is taken off again
taken_off : (x a : Fraction) → plus (plus x a) (times minus_one a) ≡ x
taken_off x a = plus_assoc x a (times minus_one a) ∙ ap (plus x) (opposite a) ∙ plus_comm x zero_fraction ∙ zero_plus x

-- the sum so far is the whole without what is left
without_rest : (t left whole : Surd) → Same (t ++ left) whole → Same t (whole ++ surd_scale minus_one left)
without_rest t left whole h = grind (arith, Agree-Same, class_coefficient-append, Same-Agree, class_coefficient-surd_scale, taken_off)

pub spans_from : (gs : List ℕ) (v : Surd) (n : ℕ) → Spans gs v → Spans gs (terms_from n v)
spans_from gs v zero h = h
spans_from gs [] (suc n) h = tt
spans_from gs (x ∷ v) (suc n) (h, hs) = spans_from gs v n hs

pub spans_nth : (gs : List ℕ) (v : Surd) (n : ℕ) (x : Term) → slice_get v n ≡ Some x → Spans gs v → IsSpanned gs x.radicand
spans_nth gs [] n x e h = absurd cc
spans_nth gs (y ∷ v) zero x e (h, hs) = subst (λ (t : Term). IsSpanned gs t.radicand) (some_term e) h
spans_nth gs (y ∷ v) (suc n) x e (h, hs) = spans_nth gs v n x e hs

pub sum_parts : (t : Tree) → IsSum t → IsSum (add (children_of t))
sum_parts t h = subst IsSum (sum_is t h) h

pub partial_spanned : (gs : List ℕ) (left whole : Surd) (t : Tree) → IsSumWith left whole t → Spans gs whole → Spans gs left → Spans gs (value t)
partial_spanned gs left whole t h w l =
    let p = sum_parts t h.sum in
    let same = subst (λ (v : Surd). Same v (whole ++ surd_scale minus_one left)) (sum_value t h.sum) (without_rest (value t) left whole h.worth) in
    subst (Spans gs) (sym (sum_value t h.sum))
    (spans_same_terms gs (terms_of (children_of t)) _ (terms_proper (children_of t) p.0) p.1 same (spans_append gs whole (surd_scale minus_one left) w (spans_scale gs minus_one left l)))

partial_size : (gs : List ℕ) (left whole : Surd) (t : Tree) → IsSumWith left whole t → Spans gs whole → Spans gs left → size t + 48 ≤ 96 * 2 ^ length gs
partial_size gs left whole t h w l =
    let p = sum_parts t h.sum in
    let same = subst (λ (v : Surd). Same v (whole ++ surd_scale minus_one left)) (sum_value t h.sum) (without_rest (value t) left whole h.worth) in
    let bytes : size (add (children_of t)) + 48 ≤ 96 * 2 ^ length gs =
    partial_bytes gs (children_of t) _ p.0 p.1 same (spans_append gs whole (surd_scale minus_one left) w (spans_scale gs minus_one left l)) in
    omega (arith, ap size (sum_is t h.sum), bytes)

-- a term found no room beside the sum so far
pub term_lacks : (gs : List ℕ) {i : ℕ} {left whole : Surd} {old now : State} → IsJoined i left whole old now → Stands old → IsHanded i (forest old) → Spans gs whole → Spans gs left
    → free_of now < 96 → free_of old + size (tree_of i old) < joining_need * 2 ^ length gs
term_lacks gs {i} {left} {whole} {old} {now} j st o w l few =
    let bytes = partial_size gs left whole (tree_of i now) (given_told j.gives) w l in omega (arith, replaced_free st j.stands j.kept o j.gives, bytes, few)

-- a row of products found none
pub row_lacks : (gs : List ℕ) {i : ℕ} {left whole : Surd} {old now : State} → IsJoined i left whole old now → Stands old → IsHanded i (forest old)
    → free_of now + size (tree_of i now) < joining_need * 2 ^ length gs → free_of old + size (tree_of i old) < joining_need * 2 ^ length gs
row_lacks gs j st o few = omega (arith, replaced_free st j.stands j.kept o j.gives, few)

-- ---- Numbers

pub number_size : (gs : List ℕ) (t : Tree) → is_number t ≡ true → SpansTree gs t → size t + 48 ≤ 96 * 2 ^ length gs
number_size gs t h s = number_bytes gs t (number_words t h) (value_spanned gs t (number_words t h) s)

pub number_spans : (gs : List ℕ) (t : Tree) → is_number t ≡ true → SpansTree gs t → Spans gs (value t)
number_spans gs t h s = value_spanned gs t (number_words t h) s

-- as a sum of its terms
pub sum_spans_same : (gs : List ℕ) (a t : Tree) → is_number a ≡ true → IsSumOf (value a) t → SpansTree gs a → Spans gs (value t)
sum_spans_same gs a t h k s =
    let p = sum_parts t k.sum in
    let same = subst (λ (v : Surd). Same v (value a)) (sum_value t k.sum) k.worth in
    subst (Spans gs) (sym (sum_value t k.sum)) (spans_same_terms gs (terms_of (children_of t)) (value a) (terms_proper (children_of t) p.0) p.1 same (number_spans gs a h s))

pub sum_spans : (gs : List ℕ) (a b t : Tree) → is_number a ≡ true → is_number b ≡ true → IsNumberOf (value a ++ value b) t → SpansTree gs a → SpansTree gs b → SpansTree gs t
sum_spans gs a b t h k n = sum_spanned gs a b t (number_words a h) (number_words b k) (number_words t n.number) n.worth

pub product_spans : (gs : List ℕ) (a b t : Tree) → is_number a ≡ true → is_number b ≡ true → IsNumberOf (surd_times (value a) (value b)) t → SpansTree gs a → SpansTree gs b → SpansTree gs t
product_spans gs a b t h k n = product_spanned gs a b t (number_words a h) (number_words b k) (number_words t n.number) n.worth

pub power_spans : (gs : List ℕ) (a t : Tree) (n : ℕ) → is_number a ≡ true → IsNumberOf (surd_power (value a) n) t → SpansTree gs a → SpansTree gs t
power_spans gs a t n h k = power_spanned gs a t n (number_words a h) (number_words t k.number) k.worth

pub inverse_spans : (gs : List ℕ) (a t : Tree) → is_number a ≡ true → classes a ≤ 2 → IsInverseOf (value a) t → SpansTree gs a → SpansTree gs t
inverse_spans gs a t h c k = inverse_spanned gs a t (number_words a h) (number_words t k.number) c k.inverts

-- the answer of a call
pub answer_spans : (gs : List ℕ) {P : Tree → Type 0} (r : Result ℕ NumberFault) (g : Forest) (s : State) → IfOk r (λ h. Gives g (forest s) h P) → ((t : Tree) → P t → SpansTree gs t)
    → IfOk r (λ h. SpansTree gs (tree_of h s))
answer_spans gs r g s e k = grind (arith, given_told)

-- ---- bytes at hand

pub sum_lacks_two : (gs : List ℕ) (free : ℕ) (a b : Tree) → is_number a ≡ true → is_number b ≡ true → SpansTree gs a → SpansTree gs b → free < 8
    → free + size a + size b < sum_need * 2 ^ length gs
sum_lacks_two gs free a b h k s t l = omega (arith, number_size gs a h s, number_size gs b k t, pow_pos (length gs))

pub sum_lacks : (gs : List ℕ) (bytes : ℕ) (b : Tree) → is_number b ≡ true → SpansTree gs b → bytes < joining_need * 2 ^ length gs → bytes + size b < sum_need * 2 ^ length gs
sum_lacks gs bytes b k t l = omega (arith, number_size gs b k t, pow_pos (length gs))

pub product_lacks : (gs : List ℕ) (free : ℕ) (a b : Tree) → is_number a ≡ true → is_number b ≡ true → SpansTree gs a → SpansTree gs b → free < joining_need * 2 ^ length gs
    → free + size a + size b < product_need * 2 ^ length gs
product_lacks gs free a b h k s t l = omega (arith, number_size gs a h s, number_size gs b k t, pow_pos (length gs))

pub step_lacks : (gs : List ℕ) (free left : ℕ) (t : Tree) → is_number t ≡ true → SpansTree gs t → free ≡ left + size t → left < joining_need * 2 ^ length gs
    → free < raising_need * 2 ^ length gs
step_lacks gs free left t h s e l = omega (arith, number_size gs t h s, pow_pos (length gs))

pub power_lacks : (gs : List ℕ) (free : ℕ) (a : Tree) → is_number a ≡ true → SpansTree gs a → free < raising_need * 2 ^ length gs → free + size a < power_need * 2 ^ length gs
power_lacks gs free a h s l = omega (arith, number_size gs a h s, pow_pos (length gs))

-- no rational is larger
pub few_for : (gs : List ℕ) (bytes : ℕ) → bytes < 40 → bytes < 40 * 2 ^ length gs
few_for gs bytes l = omega (arith, pow_pos (length gs))

pub few_for_sum : (gs : List ℕ) (bytes : ℕ) → bytes < 40 → bytes < sum_need * 2 ^ length gs
few_for_sum gs bytes l = omega (arith, few_for gs bytes l)

pub few_for_joint : (j : Joint) (gs : List ℕ) (bytes : ℕ) → bytes < 40 → bytes < joint_need j * 2 ^ length gs
few_for_joint joint.Sum gs bytes l = omega (arith, few_for gs bytes l)
few_for_joint joint.Product gs bytes l = omega (arith, few_for gs bytes l)

-- ---- inverses

inverse_bytes : (v : Surd) → sizes (inverse_trees v) ≤ 200
inverse_bytes v = grind arith

pub inverse_lacks : (gs : List ℕ) (v : Surd) (bytes : ℕ) (full : Full) → LacksInverse v bytes full → bytes < inverse_need * 2 ^ length gs
inverse_lacks gs v bytes full l = omega (arith, lacking_below bytes (inverse_trees v) full l.lacks, inverse_bytes v, pow_pos (length gs))
