-- What is a sum is read, and its nodes in postfix order are found.
use Rattle.calc_parser.proofs.Shared.{joins_before, arith, ℕ, ◌+◌, ◌≡◌, List, [], ◌∷◌, ◌++◌, Bool, true, false, Option, Some, None, refl, sym, ap, ◌∙◌, append_assoc, append-nil, Token, name}
use Rattle.calc_parser.proofs.Shared.{undef_mark, root_mark, plus_mark, minus_mark, times_mark, slash_mark, caret_mark, left_mark, right_mark, Tree, Trees, count, IsSum, SoFar, as_tree, joined_tree}
use Rattle.calc_parser.proofs.Shared.{joins, Sum, first_term, plus_more, minus_more, Signed, minus_signed, plain_signed, Product, first_factor, times_more, over_more, Right, minus_right, plain_right}
use Rattle.calc_parser.proofs.Shared.{Joined, one_power, another_power, Power, plain_power, raised_power, Exponent, minus_exponent, plain_exponent, Primary, parenthesized, a_root, Open, Operand}
use Rattle.calc_parser.proofs.Shared.{Operator, Node, parent, postfix, postfixes, state, Ended, ended, gathered, end_power, end_factor, end_term, sum_nodes, minus_in, leave_parentheses, step}
use Rattle.calc_parser.proofs.{Shared.{when_closed, finish, then_run, run, start}, Contexts.{begins_sum, begins_term, begins_right, begins_exponent, begins_factor, sum_alone, term_alone}}
use Rattle.calc_parser.proofs.{Contexts.{factor_alone, term_factor, sum_term, right_factor}, Made.{postfixes-one_more, count-one_more, alone_nodes, joined_nodes, product_nodes, product_count}}
use Rattle.calc_parser.proofs.Made.{sum_nodes_of, sum_count, whole_product, whole_sum, times_nodes, times_count, plus_nodes, plus_count, has_factors, has_terms, grouped}
use Rattle.calc_terms.specs.declared.kind.Kind.TheVariants as kind
use Rattle.calc_parser.specs.declared.nesting.Open.TheVariants as opened

-- ---- what goes on behind a part

abbrev pub sum_on : Ended → List Token → Option (List Node)
sum_on e [] = when_closed e
sum_on e (plus_mark ∷ c) = run (state Operand (opened.Sum e.count ∷ e.nesting) e.nodes) c
sum_on e (minus_mark ∷ c) = run (state Operand (opened.Difference ∷ e.nesting) (sum_nodes e)) c
sum_on e (right_mark ∷ c) = then_run (leave_parentheses e.nesting (sum_nodes e)) (λ st. run st c)
sum_on e c = None

abbrev pub product_on : Ended → List Token → Option (List Node)
product_on e (times_mark ∷ c) = run (state Operand (opened.Product e.count ∷ e.nesting) e.nodes) c
product_on e (slash_mark ∷ c) = run (state Operand (opened.Quotient ∷ e.nesting) (e.nodes ++ gathered kind.Mult e.count)) c
product_on e c = sum_on (end_term e.nesting (e.nodes ++ gathered kind.Mult e.count)) c

abbrev pub joined_on : Ended → List Token → Option (List Node)
joined_on e (name x ∷ c) = run (state Operand (opened.Joined e.count ∷ e.nesting) e.nodes) (name x ∷ c)
joined_on e (undef_mark ∷ c) = run (state Operand (opened.Joined e.count ∷ e.nesting) e.nodes) (undef_mark ∷ c)
joined_on e (left_mark ∷ c) = run (state Operand (opened.Joined e.count ∷ e.nesting) e.nodes) (left_mark ∷ c)
joined_on e (root_mark ∷ c) = run (state Operand (opened.Joined e.count ∷ e.nesting) e.nodes) (root_mark ∷ c)
joined_on e c = product_on (end_factor e.nesting (e.nodes ++ gathered kind.Mult e.count)) c

-- ---- what may come behind
abbrev pub ends_power : List Token → Bool
ends_power (caret_mark ∷ c) = false
ends_power _ = true

abbrev pub ends_joined : List Token → Bool
ends_joined (caret_mark ∷ c) = false
ends_joined (name x ∷ c) = false
ends_joined (undef_mark ∷ c) = false
ends_joined (left_mark ∷ c) = false
ends_joined (root_mark ∷ c) = false
ends_joined _ = true

abbrev pub ends_product : List Token → Bool
ends_product (times_mark ∷ c) = false
ends_product (slash_mark ∷ c) = false
ends_product c = ends_joined c

joined_power : (c : List Token) → ends_joined c ≡ true → ends_power c ≡ true
joined_power (caret_mark ∷ c) e = e
joined_power _ e = refl

product_joined : (c : List Token) → ends_product c ≡ true → ends_joined c ≡ true
product_joined c e = grind (arith)

joins_power : (b c : List Token) → joins b ≡ true → ends_power (b ++ c) ≡ true
joins_power b c e = grind (arith)

-- behind an operand, but for `^`
after_operand : (s : List Open) (o : List Node) (c : List Token) → ends_power c ≡ true → run (state Operator s o) c ≡ joined_on (end_power s o) c
unfolding run step finish
after_operand s o c e = grind (arith)

-- ---- the grammar, rule by rule

-- behind powers side by side, at the end of a joined product
joined_end : (e : Ended) (c : List Token) → ends_joined c ≡ true → joined_on e c ≡ product_on (end_factor e.nesting (e.nodes ++ gathered kind.Mult e.count)) c
joined_end e c h = grind (arith)

joined_next : (e : Ended) (c : List Token) → joins c ≡ true → joined_on e c ≡ run (state Operand (opened.Joined e.count ∷ e.nesting) e.nodes) c
joined_next e c h = grind (arith)

product_end : (e : Ended) (c : List Token) → ends_product c ≡ true → product_on e c ≡ sum_on (end_term e.nesting (e.nodes ++ gathered kind.Mult e.count)) c
product_end e c h = grind (arith)

-- a minus sign before an exponent, a factor, a term
minus_exponent_in : (s : List Open) → begins_exponent s ≡ true → minus_in s ≡ opened.NegatedExponent
minus_exponent_in s h = grind (arith)

minus_factor_in : (s : List Open) → begins_right s ≡ true → minus_in s ≡ opened.NegatedFactor
minus_factor_in s h = grind (arith)

minus_term_in : (s : List Open) → begins_term s ≡ true → minus_in s ≡ opened.NegatedTerm
minus_term_in s h = grind (arith)

run_minus : (s : List Open) (o : List Node) (x : Open) (c : List Token) → minus_in s ≡ x → run (state Operand s o) (minus_mark ∷ c) ≡ run (state Operand (x ∷ s) o) c
unfolding run step
run_minus s o x c e = ap (λ x. run (state Operand (x ∷ s) o) c) e

-- one child more, with its nodes
more_ended : (s : List Open) (o m u : List Node) (k : ℕ) {w : List Node} {n : ℕ} → w ≡ m ++ u → n ≡ k + 1 → ended s ((o ++ m) ++ u) (k + 1) ≡ ended s (o ++ w) n
more_ended s o m u k {w} e f = ap (λ x. ended s x (k + 1)) (grouped o m u e) ∙ ap (ended s (o ++ w)) (sym f)

binary_nodes : (o m g w u l : List Node) → w ≡ m ++ g → (((o ++ m) ++ g) ++ u) ++ l ≡ o ++ ((w ++ u) ++ l)
binary_nodes o m g w u l e = rw e (simp append_assoc)

unary_nodes : (o m g w l : List Node) → w ≡ m ++ g → ((o ++ m) ++ g) ++ l ≡ o ++ (w ++ l)
unary_nodes o m g w l e = rw e (simp append_assoc)

mutual
  unfolding run step

  pub sum_runs : {a : List Token} {p : SoFar} → Sum a p → (s : List Open) (o : List Node) (c : List Token) → begins_sum s ≡ true → ends_product c ≡ true
      → run (state Operand s o) (a ++ c) ≡ sum_on (ended s (o ++ sum_nodes_of p) (sum_count p)) c
  sum_runs (first_term {a} {t} d) s o c h e =
      signed_runs d s o c (sum_term s h) e ∙ ap (λ x. sum_on x c) (sum_alone s (o ++ postfix t) h)
  sum_runs (plus_more {a} {b} {s = p} {u} d d') s o c h e =
      ap (run (state Operand s o)) (append_assoc a (plus_mark ∷ b) c)
      ∙ sum_runs d s o (plus_mark ∷ b ++ c) h refl
      ∙ signed_runs d' (opened.Sum (sum_count p) ∷ s) (o ++ sum_nodes_of p) c refl e
      ∙ ap (λ x. sum_on x c) (more_ended s o (sum_nodes_of p) (postfix u) (sum_count p) (plus_nodes p u) (plus_count p u))
  sum_runs (minus_more {a} {b} {s = p} {u} d d') s o c h e =
      ap (run (state Operand s o)) (append_assoc a (minus_mark ∷ b) c)
      ∙ sum_runs d s o (minus_mark ∷ b ++ c) h refl
      ∙ signed_runs d' (opened.Difference ∷ s) ((o ++ sum_nodes_of p) ++ gathered kind.Add (sum_count p)) c refl e
      ∙ ap (λ n. sum_on (ended s n 1) c) (binary_nodes o (sum_nodes_of p) (gathered kind.Add (sum_count p)) (postfix (as_tree p)) (postfix u) (parent kind.Sub 2 ∷ []) (whole_sum p (has_terms d)))

  signed_runs : {a : List Token} {t : Tree} → Signed a t → (s : List Open) (o : List Node) (c : List Token) → begins_term s ≡ true → ends_product c ≡ true
      → run (state Operand s o) (a ++ c) ≡ sum_on (end_term s (o ++ postfix t)) c
  signed_runs (minus_signed {a} {t} d) s o c h e =
      run_minus s o opened.NegatedTerm (a ++ c) (minus_term_in s h)
      ∙ signed_runs d (opened.NegatedTerm ∷ s) o c refl e
      ∙ ap (λ n. sum_on (end_term s n) c) (append_assoc o (postfix t) (parent kind.Neg 1 ∷ []))
  signed_runs (plain_signed {a} {s = p} d) s o c h e =
      product_runs d s o c h (product_joined c e) ∙ product_end (ended s (o ++ product_nodes p) (product_count p)) c e
      ∙ ap (λ n. sum_on (end_term s n) c) (grouped o (product_nodes p) (gathered kind.Mult (product_count p)) (whole_product p (has_factors d)))

  product_runs : {a : List Token} {p : SoFar} → Product a p → (s : List Open) (o : List Node) (c : List Token) → begins_term s ≡ true → ends_joined c ≡ true
      → run (state Operand s o) (a ++ c) ≡ product_on (ended s (o ++ product_nodes p) (product_count p)) c
  product_runs (first_factor {a} {ts} d) s o c h e =
      joined_runs d s o c (term_factor s h) (joined_power c e) ∙ joined_end (ended s (o ++ postfixes ts) (count ts)) c e
      ∙ ap (λ x. product_on x c) (ap (end_factor s) (grouped o (postfixes ts) (gathered kind.Mult (count ts)) (joined_nodes ts)) ∙ term_alone s (o ++ postfix (joined_tree ts)) h)
  product_runs (times_more {a} {b} {s = p} {u} d d') s o c h e =
      ap (run (state Operand s o)) (append_assoc a (times_mark ∷ b) c)
      ∙ product_runs d s o (times_mark ∷ b ++ c) h refl
      ∙ right_runs d' (opened.Product (product_count p) ∷ s) (o ++ product_nodes p) c refl e
      ∙ ap (λ x. product_on x c) (more_ended s o (product_nodes p) (postfix u) (product_count p) (times_nodes p u) (times_count p u))
  product_runs (over_more {a} {b} {s = p} {u} d d') s o c h e =
      ap (run (state Operand s o)) (append_assoc a (slash_mark ∷ b) c)
      ∙ product_runs d s o (slash_mark ∷ b ++ c) h refl
      ∙ right_runs d' (opened.Quotient ∷ s) ((o ++ product_nodes p) ++ gathered kind.Mult (product_count p)) c refl e
      ∙ ap (λ n. product_on (ended s n 1) c) (binary_nodes o (product_nodes p) (gathered kind.Mult (product_count p)) (postfix (as_tree p)) (postfix u) (parent kind.Div 2 ∷ []) (whole_product p (has_factors d)))

  right_runs : {a : List Token} {t : Tree} → Right a t → (s : List Open) (o : List Node) (c : List Token) → begins_right s ≡ true → ends_joined c ≡ true
      → run (state Operand s o) (a ++ c) ≡ product_on (end_factor s (o ++ postfix t)) c
  right_runs (minus_right {a} {t} d) s o c h e =
      run_minus s o opened.NegatedFactor (a ++ c) (minus_factor_in s h)
      ∙ right_runs d (opened.NegatedFactor ∷ s) o c refl e
      ∙ ap (λ n. product_on (end_factor s n) c) (append_assoc o (postfix t) (parent kind.Neg 1 ∷ []))
  right_runs (plain_right {a} {ts} d) s o c h e =
      joined_runs d s o c (right_factor s h) (joined_power c e) ∙ joined_end (ended s (o ++ postfixes ts) (count ts)) c e
      ∙ ap (λ n. product_on (end_factor s n) c) (grouped o (postfixes ts) (gathered kind.Mult (count ts)) (joined_nodes ts))

  joined_runs : {a : List Token} {ts : Trees} → Joined a ts → (s : List Open) (o : List Node) (c : List Token) → begins_factor s ≡ true → ends_power c ≡ true
      → run (state Operand s o) (a ++ c) ≡ joined_on (ended s (o ++ postfixes ts) (count ts)) c
  joined_runs (one_power {a} {t} d) s o c h e =
      power_runs d s o c e ∙ ap (λ x. joined_on x c) (factor_alone s (o ++ postfix t) h ∙ ap (λ n. ended s (o ++ n) 1) (alone_nodes (postfix t)))
  joined_runs (another_power {a} {b} {ts} {u} d d' j) s o c h e =
      ap (run (state Operand s o)) (append_assoc a b c)
      ∙ joined_runs d s o (b ++ c) h (joins_power b c j)
      ∙ joined_next (ended s (o ++ postfixes ts) (count ts)) (b ++ c) (joins_before b c j)
      ∙ power_runs d' (opened.Joined (count ts) ∷ s) (o ++ postfixes ts) c e
      ∙ ap (λ x. joined_on x c) (more_ended s o (postfixes ts) (postfix u) (count ts) (postfixes-one_more ts u) (count-one_more ts u))

  power_runs : {a : List Token} {t : Tree} → Power a t → (s : List Open) (o : List Node) (c : List Token) → ends_power c ≡ true
      → run (state Operand s o) (a ++ c) ≡ joined_on (end_power s (o ++ postfix t)) c
  power_runs (plain_power {a} {t} d) s o c e = primary_runs d s o c ∙ after_operand s (o ++ postfix t) c e
  power_runs (raised_power {a} {b} {t} {e = x} d d') s o c e =
      ap (run (state Operand s o)) (append_assoc a (caret_mark ∷ b) c)
      ∙ primary_runs d s o (caret_mark ∷ b ++ c)
      ∙ exponent_runs d' (opened.Power ∷ s) (o ++ postfix t) c refl e
      ∙ ap (λ n. joined_on (end_power s n) c) (ap (λ n. n ++ parent kind.Pow 2 ∷ []) (append_assoc o (postfix t) (postfix x)) ∙ append_assoc o (postfix t ++ postfix x) (parent kind.Pow 2 ∷ []))

  exponent_runs : {a : List Token} {t : Tree} → Exponent a t → (s : List Open) (o : List Node) (c : List Token) → begins_exponent s ≡ true → ends_power c ≡ true
      → run (state Operand s o) (a ++ c) ≡ joined_on (end_power s (o ++ postfix t)) c
  exponent_runs (minus_exponent {a} {t} d) s o c h e =
      run_minus s o opened.NegatedExponent (a ++ c) (minus_exponent_in s h)
      ∙ exponent_runs d (opened.NegatedExponent ∷ s) o c refl e
      ∙ ap (λ n. joined_on (end_power s n) c) (append_assoc o (postfix t) (parent kind.Neg 1 ∷ []))
  exponent_runs (plain_exponent d) s o c h e = power_runs d s o c e

  primary_runs : {a : List Token} {t : Tree} → Primary a t → (s : List Open) (o : List Node) (c : List Token) → run (state Operand s o) (a ++ c) ≡ run (state Operator s (o ++ postfix t)) c
  primary_runs (parenthesized {a} {s = p} d) s o c =
      ap (run (state Operand (opened.Parentheses ∷ s) o)) (append_assoc a (right_mark ∷ []) c)
      ∙ sum_runs d (opened.Parentheses ∷ s) o (right_mark ∷ c) refl refl
      ∙ ap (λ n. run (state Operator s n) c) (grouped o (sum_nodes_of p) (gathered kind.Add (sum_count p)) (whole_sum p (has_terms d)))
  primary_runs (a_root {a} {s = p} d) s o c =
      ap (run (state Operand (opened.Root ∷ s) o)) (append_assoc a (right_mark ∷ []) c)
      ∙ sum_runs d (opened.Root ∷ s) o (right_mark ∷ c) refl refl
      ∙ ap (λ n. run (state Operator s n) c) (unary_nodes o (sum_nodes_of p) (gathered kind.Add (sum_count p)) (postfix (as_tree p)) (parent kind.Root 1 ∷ []) (whole_sum p (has_terms d)))
  primary_runs _ s o c = refl

-- the nodes of a sum are found
pub sum_found : {a : List Token} {p : SoFar} → Sum a p → run start a ≡ Some (postfix (as_tree p))
sum_found {a} {p} d =
    ap (run start) (sym (append-nil a)) ∙ sum_runs d [] [] [] refl refl ∙ ap Some (sym (whole_sum p (has_terms d)))

pub sum_is_read : (ts : List Token) (t : Tree) → IsSum ts t → run start ts ≡ Some (postfix t)
sum_is_read ts t (p, d, e) = sum_found d ∙ ap (λ t. Some (postfix t)) e
