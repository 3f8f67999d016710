-- The nodes of what a sum or a product has made so far.
use Rattle.calc_parser.proofs.Shared.{ℕ, ◌+◌, ◌≡◌, ◌≤◌, List, [], ◌∷◌, ◌++◌, refl, sym, ap, ◌∙◌, arith, append_assoc, append-nil, Kind, Token, Tree, add, mult, Trees, none, more, append, count, SoFar}
use Rattle.calc_parser.proofs.Shared.{single, summed, multiplied, as_tree, plus_term, times_factor, joined_tree, Sum, plus_more, Product, times_more, Node, parent, postfix, postfixes, gathered}
use Rattle.calc_terms.specs.declared.kind.Kind.TheVariants as kind

pub postfixes-append : (ts us : Trees) → postfixes (append ts us) ≡ postfixes ts ++ postfixes us
postfixes-append none us = refl
postfixes-append (more t ts) us = ap (λ o. postfix t ++ o) (postfixes-append ts us) ∙ sym (append_assoc (postfix t) (postfixes ts) (postfixes us))

pub postfixes-one_more : (ts : Trees) (u : Tree) → postfixes (append ts (more u none)) ≡ postfixes ts ++ postfix u
postfixes-one_more ts u = postfixes-append ts (more u none) ∙ ap (λ o. postfixes ts ++ o) (append-nil (postfix u))

pub count-one_more : (ts : Trees) (u : Tree) → count (append ts (more u none)) ≡ count ts + 1
count-one_more none u = refl
count-one_more (more t ts) u = let h : count (append ts (more u none)) ≡ count ts + 1 = count-one_more ts u in omega arith

pub gathered_many : (k : Kind) (n : ℕ) → 2 ≤ n → gathered k n ≡ parent k n ∷ []
gathered_many k n h = grind arith

pub alone_nodes : (o : List Node) → o ≡ o ++ []
alone_nodes o = sym (append-nil o)

-- nodes regrouped, by what the last two lists make
pub grouped : (o m g : List Node) {w : List Node} → w ≡ m ++ g → (o ++ m) ++ g ≡ o ++ w
grouped o m g e = append_assoc o m g ∙ ap (λ n. o ++ n) (sym e)

pub joined_nodes : (ts : Trees) → postfix (joined_tree ts) ≡ postfixes ts ++ gathered kind.Mult (count ts)
joined_nodes ts = grind (arith, alone_nodes, gathered_many)

abbrev pub product_nodes : SoFar → List Node
product_nodes (multiplied ts) = postfixes ts
product_nodes p = postfix (as_tree p)

abbrev pub product_count : SoFar → ℕ
product_count (multiplied ts) = count ts
product_count p = 1

abbrev pub HasFactors : SoFar → Type 0
HasFactors (multiplied ts) = 2 ≤ count ts
HasFactors p = Unit {0}

abbrev pub sum_nodes_of : SoFar → List Node
sum_nodes_of (summed ts) = postfixes ts
sum_nodes_of p = postfix (as_tree p)

abbrev pub sum_count : SoFar → ℕ
sum_count (summed ts) = count ts
sum_count p = 1

abbrev pub HasTerms : SoFar → Type 0
HasTerms (summed ts) = 2 ≤ count ts
HasTerms p = Unit {0}

pub whole_product : (p : SoFar) → HasFactors p → postfix (as_tree p) ≡ product_nodes p ++ gathered kind.Mult (product_count p)
whole_product p h = grind (arith, alone_nodes, gathered_many)

pub whole_sum : (p : SoFar) → HasTerms p → postfix (as_tree p) ≡ sum_nodes_of p ++ gathered kind.Add (sum_count p)
whole_sum p h = grind (arith, alone_nodes, gathered_many)

pub times_nodes : (p : SoFar) (u : Tree) → product_nodes (times_factor p u) ≡ product_nodes p ++ postfix u
times_nodes (single t) u = ap (λ o. postfix t ++ o) (append-nil (postfix u))
times_nodes (summed ts) u = ap (λ o. postfix (add ts) ++ o) (append-nil (postfix u))
times_nodes (multiplied ts) u = postfixes-one_more ts u

pub times_count : (p : SoFar) (u : Tree) → product_count (times_factor p u) ≡ product_count p + 1
times_count p u = grind (arith, count-one_more)

pub plus_nodes : (p : SoFar) (u : Tree) → sum_nodes_of (plus_term p u) ≡ sum_nodes_of p ++ postfix u
plus_nodes (single t) u = ap (λ o. postfix t ++ o) (append-nil (postfix u))
plus_nodes (multiplied ts) u = ap (λ o. postfix (mult ts) ++ o) (append-nil (postfix u))
plus_nodes (summed ts) u = postfixes-one_more ts u

pub plus_count : (p : SoFar) (u : Tree) → sum_count (plus_term p u) ≡ sum_count p + 1
plus_count p u = grind (arith, count-one_more)

pub times_has : (p : SoFar) (u : Tree) → HasFactors p → HasFactors (times_factor p u)
times_has p u h = grind (arith, count-one_more)

pub plus_has : (p : SoFar) (u : Tree) → HasTerms p → HasTerms (plus_term p u)
plus_has p u h = grind (arith, count-one_more)

pub has_factors : {a : List Token} {p : SoFar} → Product a p → HasFactors p
has_factors (times_more {s = p} {u} d e) = times_has p u (has_factors d)
has_factors _ = tt

pub has_terms : {a : List Token} {p : SoFar} → Sum a p → HasTerms p
has_terms (plus_more {s = p} {u} d e) = plus_has p u (has_terms d)
has_terms _ = tt
