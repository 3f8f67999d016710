-- Terms of lists, placed one by one.
use Rattle.expand_forms.proofs.Shared.{◌≡◌, ℕ, ℤ, pos, zero, suc, ◌+◌, ◌<◌, ◌≤◌, List, [], ◌∷◌, ◌++◌, length, get_or, drop, take, refl, sym, ap, ◌∙◌, subst, arith, append-nil, append_assoc, to_z}
use Rattle.expand_forms.proofs.Shared.{of_z, told, length-take-le, take_more, name_of, Ratio, whole, Name, w128, Rat, lowest, ratio_of, value_of, length-append, num, zero_fraction, AddsTrees}
use Rattle.expand_forms.proofs.Shared.{AreMonomials, AreNamed, AreRead, Forest, Gives, IsRead, Monomial, Polynomial, Trees, add, append, count, factor, more, sizes, sum_tree, term_bytes, term_tree}
use Rattle.expand_forms.proofs.{Shared.{term_trees, terms_bytes, factors_of, monomial_of, Term}, AddedTrees.{adds_more}, FactorLists.{read_more}}
use Rattle.expansions.proofs.{AllMonomials.{AllHave}, FewTerms.{named_monomials}, OrderedTerms.{named_term, named_terms}, TermBytes.{IsNamedMonomial, terms_most, terms_rise}, Widths.{few_factors}}
use Rattle.expansions.specs.Named.{named, names_of}
use Rattle.expand_forms.specs.declared.factors.Factor.{Factor as Read}

-- ---- factors of a packed monomial

-- those of the first i names are listed
pub record IsListedTo (ns : List (List ℕ)) (es : List ℕ) (i : ℕ) (xs : List Read) : Type 0 where
  pub done : Monomial
  pub read : AreRead xs done
  pub split : done ++ factors_of (drop i ns) (drop i es) ≡ factors_of ns es
  pub few : length xs ≤ i

pub listed_none : (ns : List (List ℕ)) (es : List ℕ) → IsListedTo ns es 0 []
listed_none ns es = record { done = []; read = tt; split = refl; few = omega arith }

from_place : (i : ℕ) (xs : List Name) (es : List ℕ) (d : Name) → i < length xs → i < length es
    → factors_of (drop i (names_of xs)) (drop i es) ≡ factors_of (name_of (get_or xs i d) ∷ drop (suc i) (names_of xs)) (get_or es i 0 ∷ drop (suc i) es)
from_place i [] es d l m = absurd (omega (arith, l))
from_place i (x ∷ xs) [] d l m = absurd (omega (arith, m))
from_place zero (x ∷ xs) (e ∷ es) d l m = refl
from_place (suc i) (x ∷ xs) (e ∷ es) d l m = from_place i xs es d (omega (arith, l)) (omega (arith, m))

without_first : (x : List ℕ) (ns : List (List ℕ)) (e : ℕ) (es : List ℕ) → e ≡ 0 → factors_of (x ∷ ns) (e ∷ es) ≡ factors_of ns es
without_first x ns e es h = ap (λ (k : ℕ). factors_of (x ∷ ns) (k ∷ es)) h

with_first : (x : List ℕ) (ns : List (List ℕ)) (e : ℕ) (es : List ℕ) → (e ≡ 0 → ⊥) → factors_of (x ∷ ns) (e ∷ es) ≡ factor x e ∷ factors_of ns es
with_first x ns zero es h = absurd (h refl)
with_first x ns (suc e) es h = refl

next_place : {ns : List (List ℕ)} {es : List ℕ} {xs : List Read} (i : ℕ) → IsListedTo ns es (suc i) xs → IsListedTo ns es (i + 1) xs
next_place {ns} {es} {xs} i h = let e : suc i ≡ i + 1 = omega arith in subst (λ (k : ℕ). IsListedTo ns es k xs) e h

pub listed_skip : {i : ℕ} {xs : List Read} (ns : List Name) (es : List ℕ) (d : Name) → IsListedTo (names_of ns) es i xs → i < length ns → i < length es → get_or es i 0 ≡ 0
    → IsListedTo (names_of ns) es (i + 1) xs
listed_skip {i} ns es d h l m z = next_place i (record {
  done = h.done;
  read = h.read;
  split = ap (λ (m : Monomial). h.done ++ m) (sym (from_place i ns es d l m ∙ without_first (name_of (get_or ns i d)) (drop (suc i) (names_of ns)) (get_or es i 0) (drop (suc i) es) z)) ∙ h.split;
  few = omega (arith, h.few);
})

pub listed_push : {i : ℕ} {xs : List Read} (ns : List Name) (es : List ℕ) (d : Name) (r : Read) → IsListedTo (names_of ns) es i xs → i < length ns → i < length es → (get_or es i 0 ≡ 0 → ⊥)
    → IsRead r (factor (name_of (get_or ns i d)) (get_or es i 0)) → IsListedTo (names_of ns) es (i + 1) (xs ++ r ∷ [])
listed_push {i} {xs} ns es d r h l m z q =
    let f = factor (name_of (get_or ns i d)) (get_or es i 0) in
    let rest = factors_of (drop (suc i) (names_of ns)) (drop (suc i) es) in
    next_place i (record {
      done = h.done ++ f ∷ [];
      read = read_more xs h.done r f h.read q;
      split = append_assoc h.done (f ∷ []) rest ∙ ap (λ (m : Monomial). h.done ++ m)
          (sym (from_place i ns es d l m ∙ with_first (name_of (get_or ns i d)) (drop (suc i) (names_of ns)) (get_or es i 0) (drop (suc i) es) z)) ∙ h.split;
      few = omega (arith, h.few, length-append xs (r ∷ []));
    })

none_left : (i : ℕ) (ns : List (List ℕ)) (es : List ℕ) → length ns ≤ i → factors_of (drop i ns) es ≡ []
none_left zero [] es l = refl
none_left zero (x ∷ ns) es l = absurd (omega (arith, l))
none_left (suc i) [] es l = refl
none_left (suc i) (x ∷ ns) es l = none_left i ns es (omega (arith, l))

pub listed_all : {i : ℕ} {ns : List (List ℕ)} {es : List ℕ} {xs : List Read} → IsListedTo ns es i xs → length ns ≤ i → AreRead xs (factors_of ns es)
listed_all {i} {ns} {es} {xs} h l = subst (AreRead xs) (sym (append-nil h.done) ∙ ap (λ (m : Monomial). h.done ++ m) (sym (none_left i ns (drop i es) l)) ∙ h.split) h.read

pub whole_read : (r : Rat) (n : ℕ) (z : ℤ) → ratio_of r ≡ whole z → z ≡ pos n → value_of r ≡ lowest (pos n) 1
whole_read r n z e h = ap (λ (x : Ratio). lowest x.num x.den) (e ∙ ap whole h)

-- of eight bits
pub small_told : (z : ℤ) (n : ℕ) → z ≡ pos n → n < 256 → to_z w128 (of_z w128 z) ≡ pos n
small_told z n e l = ap (λ (y : ℤ). to_z w128 (of_z w128 y)) e ∙ told (pos n) (omega (arith, l))

-- ---- terms

terms_append : (v w : Polynomial) → append (term_trees v) (term_trees w) ≡ term_trees (v ++ w)
terms_append [] w = refl
terms_append (s ∷ v) w = ap (more (term_tree s)) (terms_append v w)

named_append : (ns : List (List ℕ)) (ts us : List Term) → named_terms ns ts ++ named_terms ns us ≡ named_terms ns (ts ++ us)
named_append ns [] us = refl
named_append ns (t ∷ ts) us = ap (λ (v : Polynomial). named_term ns t ∷ v) (named_append ns ts us)

pub named_length : (ns : List (List ℕ)) (ts : List Term) → length (named_terms ns ts) ≡ length ts
named_length ns [] = refl
named_length ns (t ∷ ts) = ap suc (named_length ns ts)

pub count_terms : (v : Polynomial) → count (term_trees v) ≡ length v
count_terms [] = refl
count_terms (s ∷ v) = ap suc (count_terms v)

-- one more of them is placed
pub placed_more : {i p : ℕ} {f g h : Forest} (ns : List (List ℕ)) (ts : List Term) (t : Term) → t ≡ get_or ts i t → i < length ts → AddsTrees (term_trees (named_terms ns (take i ts))) f g
    → Gives g h p (λ u. u ≡ term_tree (named_term ns t))
    → AddsTrees (term_trees (named_terms ns (take (i + 1) ts))) f h
placed_more {i} {f = f} {h = h} ns ts t e l a p =
    let next : take (i + 1) ts ≡ take i ts ++ t ∷ [] = take_more ts i t l ∙ ap (λ (u : Term). take i ts ++ u ∷ []) (sym e) in
    let all = terms_append (named_terms ns (take i ts)) (named_term ns t ∷ []) ∙ ap term_trees (named_append ns (take i ts) (t ∷ []) ∙ ap (named_terms ns) (sym next)) in
    subst (λ (us : Trees). AddsTrees us f h) all (adds_more a p)

-- ---- how many bytes they take

take_have : (P : Monomial → Type 0) (ns : List (List ℕ)) (i : ℕ) (ts : List Term) → AllHave P (named_terms ns ts) → AllHave P (named_terms ns (take i ts))
take_have P ns zero [] h = tt
take_have P ns (suc i) [] h = tt
take_have P ns zero (t ∷ ts) h = tt
take_have P ns (suc i) (t ∷ ts) h = (h.0, take_have P ns i ts h.1)

at_have : (P : Monomial → Type 0) (ns : List (List ℕ)) (i : ℕ) (ts : List Term) (d : Term) → i < length ts → AllHave P (named_terms ns ts) → P (named ns (monomial_of (get_or ts i d).monomial))
at_have P ns i [] d l h = absurd (omega (arith, l))
at_have P ns zero (t ∷ ts) d l h = h.0
at_have P ns (suc i) (t ∷ ts) d l h = at_have P ns i ts d (omega (arith, l)) h.1

more_bytes : (ns : List (List ℕ)) (i : ℕ) → terms_bytes ns i + terms_bytes ns 1 ≡ terms_bytes ns (i + 1)
more_bytes ns i = omega arith

-- the next term finds no place only where all of them do not
pub next_lacks : {i : ℕ} (ms ns : List (List ℕ)) (ts : List Term) (t : Term) (free left : ℕ) → AreMonomials (named_terms ms ts) → AreNamed ns (named_terms ms ts) → i < length ts → t ≡ get_or ts i t
    → free ≡ left + sizes (term_trees (named_terms ms (take i ts))) → left < term_bytes (length (named ms (monomial_of t.monomial))) → free < terms_bytes ns (length ts)
next_lacks {i} ms ns ts t free left m h l e f b =
    let all = named_monomials ns (named_terms ms ts) m h in
    let few = terms_most ns (named_terms ms (take i ts)) (take_have (IsNamedMonomial ns) ms i ts all) in
    let one = subst (λ (u : Term). IsNamedMonomial ns (named ms (monomial_of u.monomial))) (sym e) (at_have (IsNamedMonomial ns) ms i ts t l all) in
    let size : length (named_terms ms (take i ts)) ≡ i = named_length ms (take i ts) ∙ length-take-le i ts (omega (arith, l)) in
    omega (arith, f, b, few, ap (terms_bytes ns) size, few_factors ns (named ms (monomial_of t.monomial)) one.monomial one.named, more_bytes ns i, terms_rise ns (i + 1) (length ts) (omega (arith, l)))

-- ---- their sum

pub sum_one : (ns : List (List ℕ)) (ts : List Term) (t : Term) → length ts ≡ 1 → t ≡ get_or ts 0 t → sum_tree (term_trees (named_terms ns ts)) ≡ term_tree (named_term ns t)
sum_one ns [] t l e = absurd (omega (arith, l))
sum_one ns (u ∷ []) t l e = ap (λ (s : Term). term_tree (named_term ns s)) (sym e)
sum_one ns (u ∷ w ∷ ts) t l e = absurd (omega (arith, l))

pub sum_more : (ns : List (List ℕ)) (ts : List Term) → (length ts ≡ 0 → ⊥) → (length ts ≡ 1 → ⊥) → add (term_trees (named_terms ns ts)) ≡ sum_tree (term_trees (named_terms ns ts))
sum_more ns [] n o = absurd (n refl)
sum_more ns (t ∷ []) n o = absurd (o refl)
sum_more ns (t ∷ u ∷ ts) n o = refl

pub sum_none : (ns : List (List ℕ)) (ts : List Term) → length ts ≡ 0 → num zero_fraction ≡ sum_tree (term_trees (named_terms ns ts))
sum_none ns [] l = refl
sum_none ns (t ∷ ts) l = absurd (omega (arith, l))

pub all_count : (ns : List (List ℕ)) (ts : List Term) → length ts ≡ count (term_trees (named_terms ns ts))
all_count ns ts = sym (count_terms (named_terms ns ts) ∙ named_length ns ts)
