-- Tokens that leave something open, and the parts that end with them.
use Rattle.calc_parser.proofs.Shared.{ℕ, ◌≡◌, List, [], ◌∷◌, ◌++◌, Bool, true, false, arith, refl, sym, ap, ◌∙◌, subst, append_assoc, Token, root_mark, plus_mark, minus_mark, times_mark, slash_mark}
use Rattle.calc_parser.proofs.Shared.{caret_mark, left_mark, Tree, power, neg, Trees, none, more, append, count, SoFar, single, as_tree, plus_term, minus_term, times_factor, over_factor, joined_tree}
use Rattle.calc_parser.proofs.Shared.{joins, Sum, first_term, plus_more, minus_more, Signed, minus_signed, plain_signed, Product, first_factor, times_more, over_more, Right, minus_right, plain_right}
use Rattle.calc_parser.proofs.Shared.{Joined, one_power, another_power, Power, raised_power, Exponent, minus_exponent, plain_exponent, Primary, Open, Node, parent, postfix, postfixes, Ended, ended}
use Rattle.calc_parser.proofs.{Shared.{gathered, end_power, end_factor, end_term, sum_nodes, joins_before}, Contexts.{begins_sum, begins_term, begins_right, begins_exponent, begins_factor, sum_alone}}
use Rattle.calc_parser.proofs.{Contexts.{term_alone}, Made.{postfixes-one_more, count-one_more, alone_nodes, joined_nodes, product_nodes, product_count, sum_nodes_of, sum_count, whole_product}}
use Rattle.calc_parser.proofs.Made.{whole_sum, times_nodes, times_count, plus_nodes, plus_count, has_factors, has_terms, grouped}
use Rattle.calc_terms.specs.declared.kind.Kind.TheVariants as kind
use Rattle.calc_parser.specs.declared.nesting.Open.TheVariants as opened

-- is the part that begins here joined to powers before it
abbrev pub is_joined : List Open → Bool
is_joined (opened.Joined k ∷ s) = true
is_joined s = false

-- a part that is joined begins as such a part does
abbrev pub JoinsWhere : List Open → List Token → Type 0
JoinsWhere s c = is_joined s ≡ true → joins c ≡ true

-- the tokens so far, what they leave open, and the nodes: a part comes next
pub data Spot : List Token → List Open → List Node → Type 0 where
  at_start : Spot [] [] []
  in_parentheses : {a : List Token} {s : List Open} {o : List Node} → Spot a s o → Spot (a ++ left_mark ∷ []) (opened.Parentheses ∷ s) o
  in_root : {a : List Token} {s : List Open} {o : List Node} → Spot a s o → Spot (a ++ root_mark ∷ left_mark ∷ []) (opened.Root ∷ s) o
  behind_plus : {a b : List Token} {s : List Open} {o : List Node} {p : SoFar} → Spot a s o → begins_sum s ≡ true → Sum b p → Spot (a ++ b ++ plus_mark ∷ []) (opened.Sum (sum_count p) ∷ s) (o ++ sum_nodes_of p)
  behind_minus : {a b : List Token} {s : List Open} {o : List Node} {p : SoFar} → Spot a s o → begins_sum s ≡ true → Sum b p → Spot (a ++ b ++ minus_mark ∷ []) (opened.Difference ∷ s) (o ++ postfix (as_tree p))
  behind_term_sign : {a : List Token} {s : List Open} {o : List Node} → Spot a s o → begins_term s ≡ true → Spot (a ++ minus_mark ∷ []) (opened.NegatedTerm ∷ s) o
  behind_times : {a b : List Token} {s : List Open} {o : List Node} {p : SoFar} → Spot a s o → begins_term s ≡ true → Product b p → Spot (a ++ b ++ times_mark ∷ []) (opened.Product (product_count p) ∷ s) (o ++ product_nodes p)
  behind_slash : {a b : List Token} {s : List Open} {o : List Node} {p : SoFar} → Spot a s o → begins_term s ≡ true → Product b p → Spot (a ++ b ++ slash_mark ∷ []) (opened.Quotient ∷ s) (o ++ postfix (as_tree p))
  behind_factor_sign : {a : List Token} {s : List Open} {o : List Node} → Spot a s o → begins_right s ≡ true → Spot (a ++ minus_mark ∷ []) (opened.NegatedFactor ∷ s) o
  behind_powers : {a b : List Token} {s : List Open} {o : List Node} {ts : Trees} → Spot a s o → begins_factor s ≡ true → Joined b ts → Spot (a ++ b) (opened.Joined (count ts) ∷ s) (o ++ postfixes ts)
  behind_base : {a b : List Token} {s : List Open} {o : List Node} {t : Tree} → Spot a s o → Primary b t → JoinsWhere s b → Spot (a ++ b ++ caret_mark ∷ []) (opened.Power ∷ s) (o ++ postfix t)
  behind_exponent_sign : {a : List Token} {s : List Open} {o : List Node} → Spot a s o → begins_exponent s ≡ true → Spot (a ++ minus_mark ∷ []) (opened.NegatedExponent ∷ s) o

-- ---- parts that have ended

-- a part of a level ends the tokens: where it begins, what it derives, its nodes so far, and how many children they are
pub record PartAt (M : Type 0) (begins : List Open → Bool) (Derives : List Token → M → Type 0) (nodes_of : M → List Node) (count_of : M → ℕ) (a : List Token) (e : Ended) : Type 0 where
  pub before : List Token
  pub last : List Token
  pub nodes : List Node
  pub made : M
  pub split : a ≡ before ++ last
  pub spot : Spot before e.nesting nodes
  pub place : begins e.nesting ≡ true
  pub derives : Derives last made
  pub nodes_are : e.nodes ≡ nodes ++ nodes_of made
  pub count_is : e.count ≡ count_of made

-- powers side by side, a product, a sum
abbrev pub JoinedAt : List Token → Ended → Type 0
JoinedAt = PartAt Trees begins_factor Joined postfixes count

abbrev pub ProductAt : List Token → Ended → Type 0
ProductAt = PartAt SoFar begins_term Product product_nodes product_count

abbrev pub SumAt : List Token → Ended → Type 0
SumAt = PartAt SoFar begins_sum Sum sum_nodes_of sum_count

-- the same, of equal tokens and nodes
pub part_as : (At : List Token → Ended → Type 0) (f : List Node → Ended) {a b : List Token} {m n : List Node} → a ≡ b → m ≡ n → At a (f m) → At b (f n)
part_as At f {a} {b} {m} {n} e g j = subst (λ x. At x (f n)) e (subst (λ x. At a (f x)) g j)

-- a power with nothing beside it
pub power_alone : {b c : List Token} {s : List Open} {o : List Node} {t : Tree} → Spot b s o → begins_factor s ≡ true → Power c t → JoinedAt (b ++ c) (ended s (o ++ postfix t) 1)
power_alone {b} {c} {s} {o} {t} spot place d =
    record { before = b; last = c; nodes = o; made = more t none; split = refl; spot = spot; place = place; derives = one_power d; nodes_are = ap (λ n. o ++ n) (alone_nodes (postfix t)); count_is = refl }

-- tokens with a mark between them, and nodes, regrouped
pub mark_between : (a b : List Token) (m : Token) (c : List Token) → a ++ (b ++ m ∷ c) ≡ ((a ++ b) ++ m ∷ []) ++ c
mark_between a b m c = sym (append_assoc (a ++ b) (m ∷ []) c ∙ append_assoc a b (m ∷ c))

pub mark_before : (a : List Token) (m : Token) (c : List Token) → a ++ m ∷ c ≡ (a ++ m ∷ []) ++ c
mark_before a m c = sym (append_assoc a (m ∷ []) c)

pub unary_group : (o x l : List Node) → o ++ (x ++ l) ≡ (o ++ x) ++ l
unary_group o x l = sym (append_assoc o x l)

pub binary_group : (o x y l : List Node) → o ++ ((x ++ y) ++ l) ≡ ((o ++ x) ++ y) ++ l
binary_group o x y l = sym (append_assoc (o ++ x) y l ∙ append_assoc o x (y ++ l) ∙ ap (λ n. o ++ n) (sym (append_assoc x y l)))

-- what a power, an exponent that comes last makes of what is open
pub record PowerEnds (b : List Token) (s : List Open) (o : List Node) : Type 0 where
  pub powers : (c : List Token) (t : Tree) → Power c t → JoinsWhere s c → JoinedAt (b ++ c) (end_power s (o ++ postfix t))
  pub exponents : (c : List Token) (t : Tree) → Exponent c t → begins_exponent s ≡ true → JoinedAt (b ++ c) (end_power s (o ++ postfix t))

-- where a part stands by itself
pub alone_ends : {b : List Token} {s : List Open} {o : List Node} → Spot b s o → begins_factor s ≡ true → begins_exponent s ≡ false
    → ((n : List Node) → end_power s n ≡ ended s n 1) → PowerEnds b s o
alone_ends q h k f = grind (arith, power_alone)

pub only_exponents : {b : List Token} {s : List Open} {o : List Node} → ((c : List Token) (t : Tree) → Exponent c t → JoinedAt (b ++ c) (end_power s (o ++ postfix t))) → PowerEnds b s o
only_exponents f = record { powers = λ c t d j. f c t (plain_exponent d); exponents = λ c t d e. f c t d }

pub base_ends : {a b : List Token} {s : List Open} {o : List Node} {base : Tree} → Primary b base → JoinsWhere s b → PowerEnds a s o → PowerEnds ((a ++ b) ++ caret_mark ∷ []) (opened.Power ∷ s) (o ++ postfix base)
base_ends {a} {b} {s} {o} {base} x i r = only_exponents (λ c t d.
    part_as JoinedAt (end_power s) (mark_between a b caret_mark c) (binary_group o (postfix base) (postfix t) (parent kind.Pow 2 ∷ []))
    (r.powers (b ++ caret_mark ∷ c) (power base t) (raised_power x d) (λ k. joins_before b (caret_mark ∷ c) (i k))))

pub exponent_sign_ends : {a : List Token} {s : List Open} {o : List Node} → begins_exponent s ≡ true → PowerEnds a s o → PowerEnds (a ++ minus_mark ∷ []) (opened.NegatedExponent ∷ s) o
exponent_sign_ends {a} {s} {o} k r = only_exponents (λ c t d.
    part_as JoinedAt (end_power s) (mark_before a minus_mark c) (unary_group o (postfix t) (parent kind.Neg 1 ∷ []))
    (r.exponents (minus_mark ∷ c) (neg t) (minus_exponent d) k))

pub power_ends : {b : List Token} {s : List Open} {o : List Node} → Spot b s o → PowerEnds b s o
power_ends (behind_powers {a} {b} {s} {o} {ts} q h x) = record {
  powers = λ c t d j. record {
    before = a;
    last = b ++ c;
    nodes = o;
    made = append ts (more t none);
    split = append_assoc a b c;
    spot = q;
    place = h;
    derives = another_power x d (j refl);
    nodes_are = grouped o (postfixes ts) (postfix t) (postfixes-one_more ts t);
    count_is = sym (count-one_more ts t);
  };
  exponents = λ c t d e. cc;
}
power_ends (behind_base q x i) = base_ends x i (power_ends q)
power_ends (behind_exponent_sign q k) = exponent_sign_ends k (power_ends q)
power_ends q = alone_ends q refl refl (λ n. refl)

-- ---- factors and terms

-- what a part that comes last makes of what is open
pub record PartEnds (At : List Token → Ended → Type 0) (Derives : List Token → Tree → Type 0) (begins : List Open → Bool) (end : List Open → List Node → Ended) (b : List Token) (s : List Open) (o : List Node) : Type 0 where
  pub each : (c : List Token) (t : Tree) → Derives c t → begins s ≡ true → At (b ++ c) (end s (o ++ postfix t))

abbrev pub FactorEnds : List Token → List Open → List Node → Type 0
FactorEnds = PartEnds ProductAt Right begins_right end_factor

abbrev pub TermEnds : List Token → List Open → List Node → Type 0
TermEnds = PartEnds SumAt Signed begins_term end_term

pub no_right : {b : List Token} {s : List Open} {o : List Node} → begins_right s ≡ false → FactorEnds b s o
no_right k = record { each = λ c t d e. cc }

pub no_term : {b : List Token} {s : List Open} {o : List Node} → begins_term s ≡ false → TermEnds b s o
no_term k = record { each = λ c t d e. cc }

-- a part behind a mark
behind_mark : {M : Type 0} {begins : List Open → Bool} {Derives : List Token → M → Type 0} {nodes_of : M → List Node} {count_of : M → ℕ} {a : List Token} {s : List Open} {o n : List Node} {k : ℕ} (b : List Token) (m : Token) (c : List Token) (made : M)
    → Spot a s o → begins s ≡ true → Derives (b ++ m ∷ c) made → n ≡ o ++ nodes_of made → k ≡ count_of made → PartAt M begins Derives nodes_of count_of (((a ++ b) ++ m ∷ []) ++ c) (ended s n k)
behind_mark {a = a} {o = o} b m c made q h d n k =
    record { before = a; last = b ++ m ∷ c; nodes = o; made = made; split = sym (mark_between a b m c); spot = q; place = h; derives = d; nodes_are = n; count_is = k }

pub times_ends : {a b : List Token} {s : List Open} {o : List Node} {p : SoFar} → Spot a s o → begins_term s ≡ true → Product b p → FactorEnds ((a ++ b) ++ times_mark ∷ []) (opened.Product (product_count p) ∷ s) (o ++ product_nodes p)
times_ends {b = b} {o = o} {p = p} q h x = record { each = λ c t d e. behind_mark b times_mark c (times_factor p t) q h (times_more x d) (grouped o (product_nodes p) (postfix t) (times_nodes p t)) (sym (times_count p t)) }

pub slash_ends : {a b : List Token} {s : List Open} {o : List Node} {p : SoFar} → Spot a s o → begins_term s ≡ true → Product b p → FactorEnds ((a ++ b) ++ slash_mark ∷ []) (opened.Quotient ∷ s) (o ++ postfix (as_tree p))
slash_ends {b = b} {o = o} {p = p} q h x = record { each = λ c t d e. behind_mark b slash_mark c (over_factor p t) q h (over_more x d) (sym (binary_group o (postfix (as_tree p)) (postfix t) (parent kind.Div 2 ∷ []))) refl }

pub factor_sign_ends : {a : List Token} {s : List Open} {o : List Node} → begins_right s ≡ true → FactorEnds a s o → FactorEnds (a ++ minus_mark ∷ []) (opened.NegatedFactor ∷ s) o
factor_sign_ends {a} {s} {o} k r = record {
  each = λ c t d e. part_as ProductAt (end_factor s) (mark_before a minus_mark c) (unary_group o (postfix t) (parent kind.Neg 1 ∷ [])) (r.each (minus_mark ∷ c) (neg t) (minus_right d) k);
}

pub factor_ends : {b : List Token} {s : List Open} {o : List Node} → Spot b s o → FactorEnds b s o
factor_ends (behind_times q h x) = times_ends q h x
factor_ends (behind_slash q h x) = slash_ends q h x
factor_ends (behind_factor_sign q k) = factor_sign_ends k (factor_ends q)
factor_ends _ = no_right refl

pub term_place : (s : List Open) → begins_factor s ≡ true → begins_right s ≡ false → begins_term s ≡ true
term_place s h k = grind arith

-- powers side by side end a factor
pub powers_end : (a : List Token) (e : Ended) → JoinedAt a e → ProductAt a (end_factor e.nesting (e.nodes ++ gathered kind.Mult e.count))
powers_end a e j = by (begins_right e.nesting) refl
  where
    nodes : e.nodes ++ gathered kind.Mult e.count ≡ j.nodes ++ postfix (joined_tree j.made)
    nodes = (λ i. j.nodes_are i ++ gathered kind.Mult (j.count_is i)) ∙ grouped j.nodes (postfixes j.made) (gathered kind.Mult (count j.made)) (joined_nodes j.made)

    by : (x : Bool) → begins_right e.nesting ≡ x → ProductAt a (end_factor e.nesting (e.nodes ++ gathered kind.Mult e.count))
    by true h = part_as ProductAt (end_factor e.nesting) (sym j.split) (sym nodes) ((factor_ends j.spot).each j.last (joined_tree j.made) (plain_right j.derives) h)
    by false h =
        let place : begins_term e.nesting ≡ true = term_place e.nesting j.place h in
        subst (ProductAt a) (sym (term_alone e.nesting (e.nodes ++ gathered kind.Mult e.count) place))
        (record { before = j.before; last = j.last; nodes = j.nodes; made = single (joined_tree j.made); split = j.split; spot = j.spot; place = place; derives = first_factor j.derives; nodes_are = nodes; count_is = refl })

pub first_ends : {b : List Token} {s : List Open} {o : List Node} → Spot b s o → begins_sum s ≡ true → TermEnds b s o
first_ends {b} {s} {o} q h = record {
  each = λ c t d e. subst (SumAt (b ++ c)) (sym (sum_alone s (o ++ postfix t) h))
      (record { before = b; last = c; nodes = o; made = single t; split = refl; spot = q; place = h; derives = first_term d; nodes_are = refl; count_is = refl });
}

pub plus_ends : {a b : List Token} {s : List Open} {o : List Node} {p : SoFar} → Spot a s o → begins_sum s ≡ true → Sum b p → TermEnds ((a ++ b) ++ plus_mark ∷ []) (opened.Sum (sum_count p) ∷ s) (o ++ sum_nodes_of p)
plus_ends {b = b} {o = o} {p = p} q h x = record { each = λ c t d e. behind_mark b plus_mark c (plus_term p t) q h (plus_more x d) (grouped o (sum_nodes_of p) (postfix t) (plus_nodes p t)) (sym (plus_count p t)) }

pub minus_ends : {a b : List Token} {s : List Open} {o : List Node} {p : SoFar} → Spot a s o → begins_sum s ≡ true → Sum b p → TermEnds ((a ++ b) ++ minus_mark ∷ []) (opened.Difference ∷ s) (o ++ postfix (as_tree p))
minus_ends {b = b} {o = o} {p = p} q h x = record { each = λ c t d e. behind_mark b minus_mark c (minus_term p t) q h (minus_more x d) (sym (binary_group o (postfix (as_tree p)) (postfix t) (parent kind.Sub 2 ∷ []))) refl }

pub term_sign_ends : {a : List Token} {s : List Open} {o : List Node} → begins_term s ≡ true → TermEnds a s o → TermEnds (a ++ minus_mark ∷ []) (opened.NegatedTerm ∷ s) o
term_sign_ends {a} {s} {o} k r = record {
  each = λ c t d e. part_as SumAt (end_term s) (mark_before a minus_mark c) (unary_group o (postfix t) (parent kind.Neg 1 ∷ [])) (r.each (minus_mark ∷ c) (neg t) (minus_signed d) k);
}

pub term_ends : {b : List Token} {s : List Open} {o : List Node} → Spot b s o → TermEnds b s o
term_ends at_start = first_ends at_start refl
term_ends (in_parentheses q) = first_ends (in_parentheses q) refl
term_ends (in_root q) = first_ends (in_root q) refl
term_ends (behind_plus q h x) = plus_ends q h x
term_ends (behind_minus q h x) = minus_ends q h x
term_ends (behind_term_sign q k) = term_sign_ends k (term_ends q)
term_ends _ = no_term refl

-- a product ends a term
pub product_whole : (a : List Token) (e : Ended) (p : ProductAt a e) → e.nodes ++ gathered kind.Mult e.count ≡ p.nodes ++ postfix (as_tree p.made)
product_whole a e p = grind (arith, append_assoc, whole_product, has_factors)

pub product_end : (a : List Token) (e : Ended) → ProductAt a e → SumAt a (end_term e.nesting (e.nodes ++ gathered kind.Mult e.count))
product_end a e p =
    part_as SumAt (end_term e.nesting) (sym p.split) (sym (product_whole a e p)) ((term_ends p.spot).each p.last (as_tree p.made) (plain_signed p.derives) p.place)

pub sum_whole : (a : List Token) (e : Ended) (p : SumAt a e) → sum_nodes e ≡ p.nodes ++ postfix (as_tree p.made)
sum_whole a e p = grind (arith, append_assoc, whole_sum, has_terms)
