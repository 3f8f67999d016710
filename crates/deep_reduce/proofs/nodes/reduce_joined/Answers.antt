use Rattle.deep_reduce.proofs.Shared.{ℕ, ℤ, rules, ◌≡◌, ◌+◌, ◌≤◌, ◌<◌, ◌^◌, length, ap, ◌∙◌, sym, refl, subst, arith, IfErr, plain_value, Tree, count, num, whole_fraction, is_add, is_mult, tree_of}
use Rattle.deep_reduce.proofs.Shared.{children_of, expression, seen, sum_words, KeepsSumBounds, LacksBelow, free_of, size, joined_by, joined_room, Connective, product_fits, as_overflow, holds_as, pow_pos}
use Rattle.deep_reduce.proofs.{Shared.{some_factors}, Connected.{empty_answer, empty_room, neutral_told}, Lacking.{result_lacks, short_within}, Results.{answered, answer_as, overflow_as, overflowed_defined, with_facts}}
use Rattle.deep_reduce.proofs.{Told.{sum_told, product_told}, nodes.reduce_joined.Goals.{After-children}}
use Rattle.tree_handles.proofs.SmallLaws.{mult_is as product_words}
use Rattle.deep_reduce.proofs.nodes.reduce_joined.Goals as goal

many : (c : After-children) → c.children.result ≡ count (children_of (tree_of c.args.node c.args.pool.now))
many c = c.children.ensures.plain (expression c.id.ensures c.requires.stands c.requires.handed) ∙ ap (λ (t : Tree). count (children_of t)) (seen c.id.ensures c.requires.stands c.requires.handed)

pub returns-then-children-eq0 : goal.returns-then-children-eq0
returns-then-children-eq0 c =
    let t : Tree = tree_of c.args.node c.args.pool.now in
    let none = sym (many (goal.at.returns-then-children-eq0 c).After-children) ∙ c.if-children-eq0.true in
    let x = c.whole.ensures in
    record {
      ok = answer_as _ _ c.whole.new.pool _ _ _ x.ok refl
          (λ u e. empty_answer c.args.connective t u c.requires.joined none (e ∙ ap (λ (n : ℤ). num (whole_fraction n)) (neutral_told c.args.connective c.neutral.result c.neutral.ensures)));
      overflow = overflow_as _ _ _ x.overflow (λ o h. absurd h);
      front = x.front;
      room = λ gs ns k s. result_lacks c.whole.result x.room (λ l. short_within (empty_room c.args.connective (children_of t) (2 ^ length gs) (pow_pos (length gs)) none) l);
      bits = λ h l k few. x.overflow;
      leaves = x.leaves;
    }

-- ---- a sum

pub reduce_sum-requires : goal.reduce_sum-requires
reduce_sum-requires c =
    let t : Tree = tree_of c.args.node c.args.pool.now in
    record {
      stands = search rules;
      handed = search rules;
      sum = ap is_add (c.requires.joined ∙ ap (λ (k : Connective). joined_by k (children_of t)) c.in-Sum.is);
      some = omega (arith, many (goal.at.reduce_sum-requires c).After-children, c.if-children-eq0.false);
      reduced = search rules;
    }

pub returns-in-Sum : goal.returns-in-Sum
returns-in-Sum c =
    let t : Tree = tree_of c.args.node c.args.pool.now in
    let new = c.reduce_sum.new.pool in
    let sum = ap is_add (c.requires.joined ∙ ap (λ (k : Connective). joined_by k (children_of t)) c.in-Sum.is) in
    record {
      ok =
          answered _ (plain_value t) new _ _ _ (with_facts _ new _ _ (KeepsSumBounds (children_of t)) c.reduce_sum.ensures.ok c.reduce_sum.ensures.bounds) c.reduce_sum.ensures.rationals
          (λ u a p. sum_told t u sum a.0 a.1 p);
      overflow = overflowed_defined (plain_value t) new _ _ c.reduce_sum.ensures.rationals c.reduce_sum.ensures.defined (λ o d h. record { defined = d; rational = h });
      front = c.reduce_sum.ensures.front;
      room = λ gs ns k s.
          subst (λ (k : Connective). IfErr c.reduce_sum.result (LacksBelow (joined_room k (children_of t) (2 ^ length gs)) (free_of c.args.pool.now + size t))) (sym c.in-Sum.is)
          (c.reduce_sum.ensures.room gs s);
      bits = λ h l k few.
          as_overflow c.reduce_sum.result
          (product_fits (children_of t) c.reduce_sum.result (λ d. c.reduce_sum.ensures.bits h l (holds_as h l (sum_words t sum) (k d)) few) c.reduce_sum.ensures.defined);
      leaves = record { kept = c.reduce_sum.ensures.kept; faults = c.reduce_sum.ensures.faults; caused = c.reduce_sum.ensures.caused; stands = c.reduce_sum.ensures.stands };
    }

-- ---- a product

pub reduce_product-requires : goal.reduce_product-requires
reduce_product-requires c =
    let t : Tree = tree_of c.args.node c.args.pool.now in
    record {
      stands = search rules;
      handed = search rules;
      product = ap is_mult (c.requires.joined ∙ ap (λ (k : Connective). joined_by k (children_of t)) c.in-Product.is);
      some = omega (arith, many (goal.at.reduce_product-requires c).After-children, c.if-children-eq0.false);
      reduced = search rules;
    }

pub returns-in-Product : goal.returns-in-Product
returns-in-Product c =
    let t : Tree = tree_of c.args.node c.args.pool.now in
    let new = c.reduce_product.new.pool in
    let product = ap is_mult (c.requires.joined ∙ ap (λ (k : Connective). joined_by k (children_of t)) c.in-Product.is) in
    let some : 1 ≤ count (children_of t) = omega (arith, many (goal.at.returns-in-Product c).After-children, c.if-children-eq0.false) in
    record {
      ok = answered _ (plain_value t) new _ _ _ c.reduce_product.ensures.ok c.reduce_product.ensures.rationals (λ u a p. product_told t u product a p);
      overflow = overflowed_defined (plain_value t) new _ _ c.reduce_product.ensures.rationals c.reduce_product.ensures.defined (λ o d h. record { defined = d; rational = h });
      front = c.reduce_product.ensures.front;
      room = λ gs ns k s.
          subst (λ (k : Connective). IfErr c.reduce_product.result (LacksBelow (joined_room k (children_of t) (2 ^ length gs)) (free_of c.args.pool.now + size t))) (sym c.in-Product.is)
          (result_lacks c.reduce_product.result (c.reduce_product.ensures.room gs ns k s) (λ l. subst (λ (n : ℕ). free_of c.args.pool.now + size t < n) (sym (some_factors (children_of t) (2 ^ length gs) some)) l));
      bits = λ h l k few.
          as_overflow c.reduce_product.result (product_fits (children_of t) c.reduce_product.result
          (λ d. c.reduce_product.ensures.bits h l (holds_as h l (product_words t product) (k d)) few) c.reduce_product.ensures.defined);
      leaves = record { kept = c.reduce_product.ensures.kept; faults = c.reduce_product.ensures.faults; caused = c.reduce_product.ensures.caused; stands = c.reduce_product.ensures.stands };
    }
