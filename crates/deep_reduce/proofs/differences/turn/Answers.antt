use Rattle.deep_reduce.proofs.Shared.{false, rules, length, negsuc, ◌<◌, ◌+◌, ◌^◌, ◌≡◌, true, refl, sym, ap, ◌∙◌, subst, arith, IfErr, Connective, turned, turned_room, SpansTree, factors_room}
use Rattle.deep_reduce.proofs.Shared.{IsCalmAtZero, whole_power_room, LacksBelow, counted, HoldsNode, has_undef, free_of, both_replaced_free, given_free, whole_is, minus_one_fraction, plain_value}
use Rattle.deep_reduce.proofs.Shared.{is_reduced, is_whole_num, are_reduced, Tree, num, mult, neg, power, size, base_in, exponent_in, are_rationals, children_of, tree_of, behind_first, behind_new}
use Rattle.deep_reduce.proofs.Shared.{ℕ, ◌≤◌, front_after, front_same, front_end, front_after_two, gives_as, given_handed, given_told, given_other, given_rest, given_without, given_apart, without_root, number_reduced}
use Rattle.deep_reduce.proofs.Shared.{Fraction, fraction_fits, Gives, forest, passed_on, rational, ratio_of, value_of, refused_below, product_fits, as_overflow, holds_as, only_undef, opposite_factors}
use Rattle.deep_reduce.proofs.Shared.{power_node_fits, second_side, opposite_calm, opposite_spans, opposite_fits, inverse_calm, inverse_spans, needs_most, num_bytes, number_refused}
use Rattle.deep_reduce.proofs.{Connected.{turning_lacks}, Lacking.{leaves_after, result_lacks, short_below, short_over}, Results.{answered, answer_as, overflow_as, overflowed_defined}, Sides.{IsPaired, apart_second, beside_new, new_first}}
use Rattle.deep_reduce.proofs.{Sides.{new_second, reduced_front}, Steps.{neg_answer, neg_overflow}, Told.{answer_at, overflow_at, minus_one_value, power_told, power_words, power_sides, two_reduced}}
use Rattle.deep_reduce.proofs.{Told.{inverse_no_half}, differences.turn.Goals.{In_ok-minus_one, In_ok-product-in-Sum}}
use Rattle.reduce_walk.proofs.HeldRationals.{root_fits}
use Rattle.tree_handles.specs.declared.fault.NumberFault.TheVariants as fault
use Rattle.calc_terms.specs.declared.kind.Kind.TheVariants as kind
use Rattle.deep_reduce.proofs.differences.turn.Goals as goal

-- the new number, and the node over it and the side
made : (c : In_ok-minus_one) → Gives (forest c.args.pool.now) (forest c.number.new.pool) c.in_ok-minus_one.minus_one (λ t. t ≡ num minus_one_fraction)
made c = gives_as c.in_ok-minus_one.ensures.given refl (λ t e. e ∙ minus_one_value c.whole.result c.whole.ensures)

product : (c : In_ok-product-in-Sum)
    → IsPaired kind.Mult c.in_ok-product-in-Sum.product (num minus_one_fraction) (tree_of c.args.side c.args.pool.now) (without_root c.args.side (forest c.args.pool.now)) (forest c.node_over_two.new.pool)
product c = new_first {k = kind.Mult} (gives_as c.in_ok-minus_one.ensures.given refl (λ t e. e ∙ minus_one_value c.whole.result c.whole.ensures)) c.requires.handed c.in_ok-product-in-Sum.ensures.ok

-- ---- the opposite

pub node_over_two-requires-clause-second : goal.node_over_two-requires-clause-second
node_over_two-requires-clause-second c = given_other c.in_ok-minus_one.ensures.given c.requires.handed

pub reduce_joined-requires : goal.reduce_joined-requires
reduce_joined-requires c =
    let p = product (goal.at.reduce_joined-requires c).In_ok-product-in-Sum in
    record {
      stands = search rules;
      handed = p.handed;
      joined = p.tree ∙ ap (λ (t : Tree). mult (children_of t)) (sym p.tree);
      reduced = ap (λ (t : Tree). are_reduced (children_of t)) p.tree ∙ two_reduced (num minus_one_fraction) _ (number_reduced minus_one_fraction) c.requires.reduced;
    }

pub returns-in_ok-product-in-Sum : goal.returns-in_ok-product-in-Sum
returns-in_ok-product-in-Sum c =
    let a : Tree = tree_of c.args.side c.args.pool.now in
    let g = c.in_ok-minus_one.ensures.given in
    let p = product (goal.at.returns-in_ok-product-in-Sum c).In_ok-product-in-Sum in
    let fit : (q : Fraction) → a ≡ num q → fraction_fits q ≡ true = λ q e. root_fits c.args.side c.args.pool.now q c.requires.stands c.requires.handed.root e in
    let is : neg a ≡ turned c.args.connective a = ap (λ (k : Connective). turned k a) (sym c.in-Sum.is) in
    record {
      ok = answer_as _ _ c.reduce_joined.new.pool _ _ _ c.reduce_joined.ensures.ok p.rest (λ t h. answer_at t is (neg_answer a t fit (answer_at t p.tree h)));
      overflow = overflow_as _ _ _ c.reduce_joined.ensures.overflow (λ o h. overflow_at o is (neg_overflow a a fit o (overflow_at o p.tree h)));
      front =
          reduced_front (front_after_two (behind_new g.ends front_same) behind_first (front_end g.ends front_same) c.node_over_two.ensures.front)
          c.in_ok-product-in-Sum.ensures.ok (ap (without_root c.args.side) (given_rest g)) c.reduce_joined.ensures.front;
      room = λ gs ns k s.
          let free = given_free c.requires.stands c.in_ok-minus_one.ensures.stands c.in_ok-minus_one.ensures.kept g in
          let both = both_replaced_free c.in_ok-minus_one.ensures.stands c.in_ok-product-in-Sum.ensures.stands c.in_ok-product-in-Sum.ensures.kept (given_apart g c.requires.handed) (given_handed g) (given_other g c.requires.handed) c.in_ok-product-in-Sum.ensures.ok in
          let same = ap size (beside_new c.args.side g c.requires.handed) in
          let w : Tree = tree_of c.in_ok-product-in-Sum.product c.node_over_two.new.pool in
          subst (λ (k : Connective). IfErr c.reduce_joined.result (LacksBelow (turned_room k (counted a) (2 ^ length gs)) (free_of c.args.pool.now + size a))) (sym c.in-Sum.is)
          (result_lacks c.reduce_joined.result
          (c.reduce_joined.ensures.room gs ns (subst (IsCalmAtZero ns) (sym p.tree) (opposite_calm a k)) (subst (SpansTree gs) (sym p.tree) (opposite_spans gs a s)))
          (λ l. short_over (free_of c.args.pool.now) (free_of c.number.new.pool) _ _ (free_of c.node_over_two.new.pool) (size w) free both same (opposite_fits a (2 ^ length gs))
          (subst (λ (x : Tree). free_of c.node_over_two.new.pool + size w < factors_room (children_of x) (2 ^ length gs)) p.tree l)));
      bits = λ h l k few.
          c.reduce_joined.ensures.bits h l (λ d. subst (λ (x : Tree). HoldsNode x h l) (sym p.tree)
          (opposite_factors a (holds_as h l (sym is) (k (ap (λ (x : Tree). has_undef (children_of x)) (sym is) ∙ only_undef a (second_side (num minus_one_fraction) a (sym (ap (λ (x : Tree). has_undef (children_of x)) p.tree) ∙ d))))))) few;
      leaves = leaves_after c.reduce_joined.result _ _ _ c.in_ok-minus_one.ensures.kept (leaves_after c.reduce_joined.result _ _ _ c.in_ok-product-in-Sum.ensures.kept c.reduce_joined.ensures.leaves);
    }

-- ---- the inverse

pub node_over_two-requires-in-Product-clause-first : goal.node_over_two-requires-in-Product-clause-first
node_over_two-requires-in-Product-clause-first c = given_other c.in_ok-minus_one.ensures.given c.requires.handed

pub reduce_power-requires : goal.reduce_power-requires
reduce_power-requires c =
    let p = new_second {k = kind.Pow} (made (goal.at.reduce_power-requires c).In_ok-minus_one) c.requires.handed c.in_ok-power-in-Product.ensures.ok in
    record {
      stands = search rules;
      handed = p.handed;
      power = power_words _ _ (num minus_one_fraction) p.tree;
      base = ap (λ (t : Tree). is_reduced (base_in t)) p.tree ∙ c.requires.reduced;
      exponent = ap (λ (t : Tree). is_reduced (exponent_in t)) p.tree ∙ number_reduced minus_one_fraction;
    }

pub returns-in_ok-power-in-Product : goal.returns-in_ok-power-in-Product
returns-in_ok-power-in-Product c =
    let b : Tree = tree_of c.args.side c.args.pool.now in
    let g = c.in_ok-minus_one.ensures.given in
    let p = new_second {k = kind.Pow} (made (goal.at.returns-in_ok-power-in-Product c).In_ok-minus_one) c.requires.handed c.in_ok-power-in-Product.ensures.ok in
    let w : Tree = tree_of c.in_ok-power-in-Product.power c.node_over_two-in-Product.new.pool in
    let words = power_words w _ (num minus_one_fraction) p.tree in
    let is : power b (num minus_one_fraction) ≡ turned c.args.connective b = ap (λ (k : Connective). turned k b) (sym c.in-Product.is) in
    let rationals = λ (h : are_rationals (children_of w) ≡ true). c.reduce_power.ensures.rationals (power_sides w words h).0 (power_sides w words h).1 (inverse_no_half w _ p.tree) in
    record {
      ok =
          answer_as _ _ c.reduce_power.new.pool _ _ _ (answered _ (plain_value w) c.reduce_power.new.pool _ _ _ c.reduce_power.ensures.ok rationals
          (λ t a q. power_told w t words a q)) p.rest (λ t h. answer_at t (p.tree ∙ is) h);
      overflow =
          overflowed_defined (plain_value w) c.reduce_power.new.pool _ _ rationals c.reduce_power.ensures.defined (λ o d h. overflow_at o (p.tree ∙ is) (record { defined = d; rational = h }));
      front =
          reduced_front (front_after_two behind_first (behind_new g.ends front_same) (front_end g.ends front_same) c.node_over_two-in-Product.ensures.front)
          c.in_ok-power-in-Product.ensures.ok (given_without g c.requires.handed) c.reduce_power.ensures.front;
      room = λ gs ns k s.
          let free = given_free c.requires.stands c.in_ok-minus_one.ensures.stands c.in_ok-minus_one.ensures.kept g in
          let both = both_replaced_free c.in_ok-minus_one.ensures.stands c.in_ok-power-in-Product.ensures.stands c.in_ok-power-in-Product.ensures.kept (apart_second g c.requires.handed) (given_other g c.requires.handed) (given_handed g) c.in_ok-power-in-Product.ensures.ok in
          let same = ap size (beside_new c.args.side g c.requires.handed) in
          subst (λ (k : Connective). IfErr c.reduce_power.result (LacksBelow (turned_room k (counted b) (2 ^ length gs)) (free_of c.args.pool.now + size b))) (sym c.in-Product.is)
          (result_lacks c.reduce_power.result (c.reduce_power.ensures.room gs ns (subst (IsCalmAtZero ns) (sym p.tree) (inverse_calm b k)) (subst (SpansTree gs) (sym p.tree) (inverse_spans gs b s))
          (ap (λ (x : Tree). is_whole_num (exponent_in x)) p.tree ∙ whole_is (negsuc 0)))
          (λ l. short_below (free_of c.args.pool.now) (free_of c.number.new.pool) _ _ (free_of c.node_over_two-in-Product.new.pool) (size w) free both same (needs_most b (2 ^ length gs))
          (subst (λ (x : Tree). free_of c.node_over_two-in-Product.new.pool + size w < whole_power_room (base_in x) (2 ^ length gs)) p.tree l)));
      bits = λ h l k few.
          let held = subst (λ (x : Tree). has_undef (children_of x) ≡ false → HoldsNode x h l) (sym (p.tree ∙ is)) k in
          as_overflow c.reduce_power.result (product_fits (children_of w) c.reduce_power.result
          (λ d. power_node_fits (base_in w) (exponent_in w) c.reduce_power.result h l
          (holds_as h l words (held d)) few c.reduce_power.ensures.bits c.reduce_power.ensures.root_bits c.reduce_power.ensures.others)
          c.reduce_power.ensures.defined);
      leaves = leaves_after c.reduce_power.result _ _ _ c.in_ok-minus_one.ensures.kept (leaves_after c.reduce_power.result _ _ _ c.in_ok-power-in-Product.ensures.kept
          (record { kept = c.reduce_power.ensures.kept; faults = c.reduce_power.ensures.faults; caused = c.reduce_power.ensures.caused; stands = c.reduce_power.ensures.stands }));
    }

-- ---- bytes at hand

fewer : {n : ℕ} → n < 40 → n < 48
fewer l = omega (arith, l)

beside : (now : ℕ) {old a b : ℕ} → now < 8 → old ≡ now + a → a ≡ b → b ≤ 40 → old < 48
beside now l e f h = omega (arith, l, e, f, h)

few_left : (c : In_ok-minus_one) → free_of c.number.new.pool < 8 → free_of c.args.pool.now < 48
few_left c l =
    let g = c.in_ok-minus_one.ensures.given in
    beside (free_of c.number.new.pool) l (given_free c.requires.stands c.in_ok-minus_one.ensures.stands c.in_ok-minus_one.ensures.kept g) (ap size (given_told g)) (num_bytes (value_of c.whole.result))

pub returns-in_err-minus_one : goal.returns-in_err-minus_one
returns-in_err-minus_one c =
    let f = c.from_residual in
    record {
      ok = search rules;
      overflow = search rules;
      front = front_after front_same c.number.ensures.front;
      room = λ gs ns k s. passed_on f.result (fault.Full c.in_err-minus_one.field-0.0) _ f.ensures.0 f.ensures.1
          (turning_lacks c.args.connective gs _ (free_of c.args.pool.now) c.requires.reduced s (fewer (number_refused (rational (ratio_of c.whole.result)) c.in_err-minus_one.ensures.full)));
      bits = λ h l k few. search rules;
      leaves = search rules;
    }

pub returns-in_err-product-in-Sum : goal.returns-in_err-product-in-Sum
returns-in_err-product-in-Sum c =
    let g = c.in_ok-minus_one.ensures.given in
    let f = c.from_residual-in_err-product-in-Sum in
    record {
      ok = search rules;
      overflow = search rules;
      front = front_after_two (behind_new g.ends front_same) behind_first (front_end g.ends front_same) c.node_over_two.ensures.front;
      room = λ gs ns k s. passed_on f.result (fault.Full c.in_err-product-in-Sum.field-0.0) _ f.ensures.0 f.ensures.1
          (turning_lacks c.args.connective gs _ (free_of c.args.pool.now) c.requires.reduced s
          (few_left (goal.at.returns-in_err-product-in-Sum c).In_ok-minus_one (refused_below c.in_err-product-in-Sum.ensures.full)));
      bits = λ h l k few. search rules;
      leaves = search rules;
    }

pub returns-in_err-power-in-Product : goal.returns-in_err-power-in-Product
returns-in_err-power-in-Product c =
    let g = c.in_ok-minus_one.ensures.given in
    let f = c.from_residual-in_err-power-in-Product in
    record {
      ok = search rules;
      overflow = search rules;
      front = front_after_two behind_first (behind_new g.ends front_same) (front_end g.ends front_same) c.node_over_two-in-Product.ensures.front;
      room = λ gs ns k s. passed_on f.result (fault.Full c.in_err-power-in-Product.field-0.0) _ f.ensures.0 f.ensures.1
          (turning_lacks c.args.connective gs _ (free_of c.args.pool.now) c.requires.reduced s
          (few_left (goal.at.returns-in_err-power-in-Product c).In_ok-minus_one (refused_below c.in_err-power-in-Product.ensures.full)));
      bits = λ h l k few. search rules;
      leaves = search rules;
    }
