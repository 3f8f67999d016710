-- What spans the terms of a sum spans what they are collected to, and each power in that is a part of one of them.
use Rattle.sum_reduce.proofs.Shared.{arith, ◌≡◌, ℕ, List, true, Tree, num, mult, root, Trees, none, more, is_add, value, split_product, num_one, number_words, term_words, Spans, SpansRoot, SpansTree}
use Rattle.sum_reduce.proofs.Shared.{SpansTrees, coefficient_of, IsNumberOf, sum_spans, children_of, sum_of_coefficients, Collects, written_tree, IsPowerOf, HasPowersOf, spans_append, spans_same}
use Rattle.sum_reduce.proofs.{Shared.{term_spanned, tree_spanned, value_spanned, number_powers, own_powers_of}, CollectedParts.{collected_parts, written_parts}, Splits.{split_cases}}

split_spans : (gs : List ℕ) (ts : Trees) → SpansTrees gs ts → Spans gs (value (split_product ts).coefficient)
split_spans gs ts =
    split_cases (λ ts c us. SpansTrees gs ts → Spans gs (value c)) (λ ts h. value_spanned gs num_one tt tt) (λ t ts n h. value_spanned gs t (number_words t n) h.0)
    (λ q r ts e h. (term_spanned gs (root (num r)) (term_words (root (num r)) e) h.1.0, tt)) ts

coefficient_spans : (gs : List ℕ) (t : Tree) → SpansTree gs t → Spans gs (value (coefficient_of t))
coefficient_spans gs (mult ts) h = split_spans gs ts h.1
coefficient_spans gs t h = value_spanned gs num_one tt tt

coefficients_span : (gs : List ℕ) (us : Trees) → SpansTrees gs us → Spans gs (sum_of_coefficients us)
coefficients_span gs none h = tt
coefficients_span gs (more t us) h = spans_append gs (value (coefficient_of t)) (sum_of_coefficients us) (coefficient_spans gs t h.0) (coefficients_span gs us h.1)

pub total_spans : (gs : List ℕ) (us : Trees) (c : Tree) → SpansTrees gs us → IsNumberOf (sum_of_coefficients us) c → SpansTree gs c
total_spans gs us c h k =
    let n = number_words c k.number in
    tree_spanned gs c n (spans_same gs c (sum_of_coefficients us) n k.worth (coefficients_span gs us h))

pub spans_collected : (gs : List ℕ) (ts us : Trees) → Collects ts us → SpansTrees gs ts → SpansTrees gs us
spans_collected gs ts us k h = collected_parts (SpansRoot gs) (λ q. tt) (λ vs. tt) (λ vs. tt) (λ a b n x y s t m. sum_spans gs a b n x y m s t) (total_spans gs) k h

pub spans_written : (gs : List ℕ) (ts : Trees) → SpansTrees gs ts → SpansTree gs (written_tree ts)
spans_written gs ts h = written_parts (SpansRoot gs) (λ q. tt) (λ vs. tt) (λ vs. tt) ts h

pub spans_terms : (gs : List ℕ) (t : Tree) → is_add t ≡ true → SpansTree gs t → SpansTrees gs (children_of t)
spans_terms gs t e h = grind arith

pub collected_powers : (ts us : Trees) → Collects ts us → HasPowersOf ts (written_tree us)
collected_powers ts us k =
    written_parts (IsPowerOf ts) (λ q. tt) (λ vs. tt) (λ vs. tt) us
    (collected_parts (IsPowerOf ts) (λ q. tt) (λ vs. tt) (λ vs. tt) (λ a b n x y s t m. number_powers ts n (number_words n m.number))
    (λ vs c s m. number_powers ts c (number_words c m.number)) k (own_powers_of ts ts (λ p h. h)))
