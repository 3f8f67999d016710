-- A text reads as at most one tree, and what is written is read again.
use Rattle.calc_language.proofs.Shared.{ℕ, ◌≡◌, List, [], ◌∷◌, Bool, true, false, ◌==◌, ◌||◌, nat_le, Some, None, arith, refl, sym, ap, ◌∙◌, subst, as_tree, single, IsSum, Reads, text, IsWritable}
use Rattle.calc_language.proofs.Shared.{admits, first_of_sum, later_of_sum, first_of_product, left_of_quotient, base, Token, token_at, is_blank, Scans, at_end, at_blank, at_token, Tree, IsComplete}
use Rattle.calc_language.proofs.{Shared.{eqb-true, admits_signed}, ReaderComplete.{one_sum}, Spelled.{spelled, in_text, text_spelled, tree_scanned}, Written.{Brackets, IsReadable, binding, is_signed}}
use Rattle.calc_language.proofs.Written.{sum_so_far, product_so_far, tokens, reads_again}

-- no token begins with a blank
pub blank_no_token : (b : ℕ) (bs : List ℕ) → is_blank b ≡ true → token_at (b ∷ bs) ≡ None
blank_no_token b bs h = by (b == 32) refl h
  where
    by : (x : Bool) → (b == 32) ≡ x → (x || (b == 9)) ≡ true → token_at (b ∷ bs) ≡ None
    by true e k = ap (λ n. token_at (n ∷ bs)) (eqb-true b 32 e)
    by false e k = ap (λ n. token_at (n ∷ bs)) (eqb-true b 9 k)

at_end_only : {us : List Token} → Scans [] us → [] ≡ us
at_end_only h = grind arith

after_blank : {b : ℕ} {bs : List ℕ} {ts us : List Token} → is_blank b ≡ true → ((us : List Token) → Scans bs us → ts ≡ us) → Scans (b ∷ bs) us → ts ≡ us
after_blank h k l = grind arith

some_is : (p q : Token × List ℕ) → Some p ≡ Some q → p ≡ q
some_is p q e = cc

after_token : {bs rest : List ℕ} {t : Token} {ts us : List Token} → token_at bs ≡ Some (t, rest) → ((us : List Token) → Scans rest us → ts ≡ us) → Scans bs us → t ∷ ts ≡ us
after_token e go at_end = cc
after_token e go (at_blank {b} {bs} k d) = let f : token_at (b ∷ bs) ≡ None = blank_no_token b bs k in cc
after_token {bs} {rest} {t} {ts} e go (at_token {rest = rest'} {t = t'} {ts = ts'} e' d) =
    let f = some_is (t, rest) (t', rest') (sym e ∙ e') in
    let g : t ≡ t' = ap (λ p. p.0) f in
    let h : rest' ≡ rest = ap (λ p. p.1) (sym f) in
    let k : ts ≡ ts' = go ts' (subst (λ r. Scans r ts') h d) in
    λ i. g i ∷ k i

-- a text is cut into tokens in one way
pub one_scan : {bs : List ℕ} {ts us : List Token} → Scans bs ts → Scans bs us → ts ≡ us
one_scan at_end e = at_end_only e
one_scan (at_blank h d) e = after_blank h (λ us e'. one_scan d e') e
one_scan (at_token h d) e = after_token h (λ us e'. one_scan d e') e

-- tokens are a sum with at most one tree
pub one_sum_tree : (ts : List Token) (t u : Tree) → IsSum ts t → IsSum ts u → t ≡ u
one_sum_tree ts t u (s, d, e) (r, c, f) = sym e ∙ ap as_tree (one_sum d c) ∙ f

-- a text reads as at most one tree
pub one_tree : (bs : List ℕ) (t u : Tree) → Reads bs t → Reads bs u → t ≡ u
one_tree bs t u (ts, a, d) (us, b, c) =
    let same : us ≡ ts = one_scan b a in
    one_sum_tree ts t u d (subst (λ x. IsSum x u) same c)

-- what a format writes of a tree reads as that tree
pub format_reads : (s : Brackets) → IsReadable s → (u : Tree) (bytes : List ℕ) → IsComplete u → IsWritable u → bytes ≡ spelled (tokens s u) → Reads bytes u
format_reads s r u bytes f w e = (tokens s u, tree_scanned s u bytes w e, reads_again s r u f)

readable_text : IsReadable in_text
readable_text = record {
  first_of_sum = by_sum;
  later_of_sum = by_term;
  first_of_product = by_product;
  later_of_product = by_factor;
  left_of_quotient = by_dividend;
  right_of_quotient = by_factor;
  base = by_base;
  exponent = by_factor;
}
  where
    by_sum : (t : Tree) → admits first_of_sum t ≡ true → sum_so_far t ≡ single t
    by_sum t h = grind arith

    by_term : (t : Tree) → admits later_of_sum t ≡ true → nat_le 1 (binding in_text t) ≡ true
    by_term t h = grind arith

    by_product : (t : Tree) → admits first_of_product t ≡ true → (nat_le 2 (binding in_text t) ≡ true) × (product_so_far t ≡ single t)
    by_product t h = grind arith

    by_factor : (t : Tree) → admits_signed t ≡ true → is_signed in_text t ≡ true
    by_factor t h = grind arith

    by_dividend : (t : Tree) → admits left_of_quotient t ≡ true → nat_le 2 (binding in_text t) ≡ true
    by_dividend t h = grind arith

    by_base : (t : Tree) → admits base t ≡ true → nat_le 4 (binding in_text t) ≡ true
    by_base t h = grind arith

-- the text of a tree reads as that tree
pub text_reads : (u : Tree) → IsComplete u → IsWritable u → Reads (text u) u
text_reads u f w = format_reads in_text readable_text u (text u) f w (text_spelled u)
