use Rattle.deep_reduce.proofs.Shared.{rules, ap, subst, Bool, Kind, true, false, ◌≡◌, ◌^◌, ℕ, List, length, refl, sym, ◌∙◌, IsNodeAnswer, plain_value, Tree, root_kind, tree_of, keeps_none, front_same, gives}
use Rattle.deep_reduce.proofs.Shared.{represents_handed, kind_of_root, pow_pos, SpansTree, value, int_is_negative, base_in, exponent_in, argument_of, IfRational, IsNoLargerThanRoot, children_of}
use Rattle.deep_reduce.proofs.Shared.{free_of, sum_kind, product_kind, sum_words, product_fits, as_overflow, power_node_fits, root_node_fits, measured_facts, holds_as, factors_fit, root_result}
use Rattle.deep_reduce.proofs.{Shared.{no_half_power, node_spans, root_is}, Folded.{number_needs}, Lacking.{result_lacks, power_result, short_within}, Results.{answered, answer_as, overflow_as, overflowed_defined}}
use Rattle.deep_reduce.proofs.{Results.{with_facts, span_facts}, Told.{power_kind, root_kind_is, neg_kind, sub_is, div_is, power_told, power_sides, IsRationalPower, rational_answer}}
use Rattle.deep_reduce.proofs.{Told.{rational_overflow, power_reduced, root_told, root_overflow, argument_reduced, leaf_told, node_fits}, nodes.reduce_node.Goals.{After-kind}}
use Rattle.node_bounds.proofs.NodeBytes.{sum_fits, power_fits, half_fits}
use Rattle.tree_handles.proofs.SmallLaws.{mult_is as product_words}
use Rattle.calc_terms.specs.declared.kind.Kind.TheVariants as kind
use Rattle.deep_reduce.proofs.nodes.reduce_node.Goals as goal

-- what the readers tell
kind-is : (c : After-kind) → c.kind.result ≡ root_kind (tree_of c.args.tree c.args.pool.now)
kind-is c = kind_of_root c.id.ensures c.requires.stands c.requires.handed c.kind.ensures.plain

-- kinds that are none of these
abbrev is_power_kind : Kind → Bool
is_power_kind kind.Pow = true
is_power_kind k = false

no_power : {k : Kind} → is_power_kind k ≡ false → kind.Pow ≡ k → ⊥
no_power h e = let no : true ≡ false = ap is_power_kind e ∙ h in cc

abbrev is_root_kind : Kind → Bool
is_root_kind kind.Root = true
is_root_kind k = false

no_root : {k : Kind} → is_root_kind k ≡ false → kind.Root ≡ k → ⊥
no_root h e = let no : true ≡ false = ap is_root_kind e ∙ h in cc

pub reduce_joined-requires-clause-joined : goal.reduce_joined-requires-clause-joined
reduce_joined-requires-clause-joined c =
    let t : Tree = tree_of c.args.tree c.args.pool.now in
    sum_words t (sum_kind t (sym c.in-Add.is ∙ kind-is (goal.at.reduce_joined-requires-clause-joined c).After-kind))

pub reduce_joined-requires-in-Mult-clause-joined : goal.reduce_joined-requires-in-Mult-clause-joined
reduce_joined-requires-in-Mult-clause-joined c =
    let t : Tree = tree_of c.args.tree c.args.pool.now in
    product_words t (product_kind t (sym c.in-Mult.is ∙ kind-is (goal.at.reduce_joined-requires-in-Mult-clause-joined c).After-kind))

pub negate-requires-clause-opposite : goal.negate-requires-clause-opposite
negate-requires-clause-opposite c = neg_kind (tree_of c.args.tree c.args.pool.now) (sym c.in-Neg.is ∙ kind-is (goal.at.negate-requires-clause-opposite c).After-kind)

pub reduce_sides-requires-clause-sides : goal.reduce_sides-requires-clause-sides
reduce_sides-requires-clause-sides c = sub_is (tree_of c.args.tree c.args.pool.now) (sym c.in-Sub.is ∙ kind-is (goal.at.reduce_sides-requires-clause-sides c).After-kind)

pub reduce_sides-requires-in-Div-clause-sides : goal.reduce_sides-requires-in-Div-clause-sides
reduce_sides-requires-in-Div-clause-sides c = div_is (tree_of c.args.tree c.args.pool.now) (sym c.in-Div.is ∙ kind-is (goal.at.reduce_sides-requires-in-Div-clause-sides c).After-kind)

pub reduce_root-requires : goal.reduce_root-requires
reduce_root-requires c =
    let t : Tree = tree_of c.args.tree c.args.pool.now in
    let is = root_kind_is t (sym c.in-Root.is ∙ kind-is (goal.at.reduce_root-requires c).After-kind) in
    record { stands = search rules; handed = search rules; root = is; reduced = argument_reduced t is c.requires.reduced }

pub returns-in-Root : goal.returns-in-Root
returns-in-Root c =
    let t : Tree = tree_of c.args.tree c.args.pool.now in
    let new = c.reduce_root.new.pool in
    let own = sym c.in-Root.is ∙ kind-is (goal.at.returns-in-Root c).After-kind in
    let is = root_kind_is t own in
    let named = overflow_as _ _ _ c.reduce_root.ensures.named (λ o h. root_overflow t o is h) in
    record {
      ok =
          answer_as _ _ new _ _ _ (with_facts _ new _ _ (λ u. IfRational (argument_of t) (λ q. int_is_negative q.num ≡ false → IsNoLargerThanRoot q (value u)))
          (with_facts _ new _ _ (λ u. (gs : List ℕ) → SpansTree gs t → SpansTree gs u) c.reduce_root.ensures.ok (span_facts t new _ c.reduce_root.ensures.spanned))
          (measured_facts (argument_of t) (λ i. tree_of i new) c.reduce_root.result c.reduce_root.ensures.measured)) refl
          (λ u h. root_told t u is (argument_reduced t is c.requires.reduced) h.0.0 h.0.1 h.1);
      overflow = named;
      front = c.reduce_root.ensures.front;
      room = λ gs ns n h k s. root_result gs t (free_of c.args.pool.now) n c.reduce_root.result is h c.reduce_root.ensures.full_of_a_rational c.reduce_root.ensures.full_below_96_bytes;
      root_room = λ gs n h z s. no_half_power t own (no_power refl) z;
      bits = λ h l k few.
          node_fits t c.reduce_root.result named (λ d. as_overflow c.reduce_root.result
          (root_node_fits (argument_of t) c.reduce_root.result c.reduce_root.ensures.bits c.reduce_root.ensures.overflows.0 (holds_as h l (root_is t is) (k d)).0 few));
      leaves = search rules;
    }

pub reduce_power-requires : goal.reduce_power-requires
reduce_power-requires c =
    let t : Tree = tree_of c.args.tree c.args.pool.now in
    let is = power_kind t (sym c.in-Pow.is ∙ kind-is (goal.at.reduce_power-requires c).After-kind) in
    let sides = power_reduced t is c.requires.reduced in
    record { stands = search rules; handed = search rules; power = is; base = sides.0; exponent = sides.1 }

pub returns-in-Pow : goal.returns-in-Pow
returns-in-Pow c =
    let t : Tree = tree_of c.args.tree c.args.pool.now in
    let new = c.reduce_power.new.pool in
    let own = sym c.in-Pow.is ∙ kind-is (goal.at.returns-in-Pow c).After-kind in
    let is = power_kind t own in
    let rationals = λ (h : IsRationalPower t). c.reduce_power.ensures.rationals (power_sides t is h.rationals).0 (power_sides t is h.rationals).1 h.no_half in
    record {
      ok = answered {C = IsRationalPower t} _ (plain_value t) new _ _ _ c.reduce_power.ensures.ok rationals (λ u a p. power_told t u is a (rational_answer t u is p));
      overflow =
          overflowed_defined {C = IsRationalPower t} (plain_value t) new _ _ rationals c.reduce_power.ensures.defined (λ o d h. record { defined = d; rational = rational_overflow t o is h });
      front = c.reduce_power.ensures.front;
      room = λ gs ns n h k s.
          power_result _ _ t c.reduce_power.result is k
          (λ w. result_lacks c.reduce_power.result (c.reduce_power.ensures.room gs ns k (node_spans gs t own (no_root refl) s) w) (λ l. short_within (power_fits t n (2 ^ length gs) is h) l))
          (λ w z. c.reduce_power.ensures.others w z);
      root_room = λ gs n h z s. result_lacks c.reduce_power.result (c.reduce_power.ensures.root_room gs z s) (λ l. short_within (half_fits t n (2 ^ length gs) is h) l);
      bits = λ h l k few.
          as_overflow c.reduce_power.result (product_fits (children_of t) c.reduce_power.result
          (λ d. power_node_fits (base_in t) (exponent_in t) c.reduce_power.result h l
          (holds_as h l is (k d)) few c.reduce_power.ensures.bits c.reduce_power.ensures.root_bits c.reduce_power.ensures.others)
          c.reduce_power.ensures.defined);
      leaves = record { kept = c.reduce_power.ensures.kept; faults = c.reduce_power.ensures.faults; caused = c.reduce_power.ensures.caused; stands = c.reduce_power.ensures.stands };
    }

pub returns-in_default-kind : goal.returns-in_default-kind
returns-in_default-kind c =
    let t : Tree = tree_of c.args.tree c.args.pool.now in
    let is = kind-is (goal.at.returns-in_default-kind c).After-kind in
    record {
      ok = gives c.requires.last (represents_handed c.requires.handed)
          (leaf_told t (λ e. c.in_default-kind.not-Add (is ∙ sym e)) (λ e. c.in_default-kind.not-Mult (is ∙ sym e)) (λ e. c.in_default-kind.not-Pow (is ∙ sym e))
          (λ e. c.in_default-kind.not-Root (is ∙ sym e))
          (λ e. c.in_default-kind.not-Neg (is ∙ sym e)) (λ e. c.in_default-kind.not-Sub (is ∙ sym e)) (λ e. c.in_default-kind.not-Div (is ∙ sym e)));
      overflow = tt;
      front = front_same;
      room = λ gs ns n h k s. tt;
      root_room = λ gs n h z s. tt;
      bits = λ h l k few. tt;
      leaves = record { kept = keeps_none c.args.pool.now; faults = tt; caused = tt; stands = c.requires.stands };
    }

-- ---- the other kinds

pub returns-in-Add : goal.returns-in-Add
returns-in-Add c =
    let t : Tree = tree_of c.args.tree c.args.pool.now in
    let own = sym c.in-Add.is ∙ kind-is (goal.at.returns-in-Add c).After-kind in
    let x = c.reduce_joined.ensures in
    record {
      ok = x.ok;
      overflow = x.overflow;
      front = x.front;
      room = λ gs ns n h k s. result_lacks c.reduce_joined.result (x.room gs ns k (node_spans gs t own (no_root refl) s)) (λ l. short_within (sum_fits t n (2 ^ length gs) (sum_kind t own) h) l);
      root_room = λ gs n h z s. no_half_power t own (no_power refl) z;
      bits = x.bits;
      leaves = x.leaves;
    }

pub returns-in-Mult : goal.returns-in-Mult
returns-in-Mult c =
    let t : Tree = tree_of c.args.tree c.args.pool.now in
    let own = sym c.in-Mult.is ∙ kind-is (goal.at.returns-in-Mult c).After-kind in
    let is = product_kind t own in
    let x = c.reduce_joined-in-Mult.ensures in
    record {
      ok = x.ok;
      overflow = x.overflow;
      front = x.front;
      room = λ gs ns n h k s.
          result_lacks c.reduce_joined-in-Mult.result (x.room gs ns k (node_spans gs t own (no_root refl) s)) (λ l. short_within (factors_fit t n (2 ^ length gs) (pow_pos (length gs)) is h) l);
      root_room = λ gs n h z s. no_half_power t own (no_power refl) z;
      bits = x.bits;
      leaves = x.leaves;
    }

pub returns-in-Neg : goal.returns-in-Neg
returns-in-Neg c =
    let t : Tree = tree_of c.args.tree c.args.pool.now in
    let own = sym c.in-Neg.is ∙ kind-is (goal.at.returns-in-Neg c).After-kind in
    let x = c.negate.ensures in
    record {
      ok = x.ok;
      overflow = x.overflow;
      front = x.front;
      room = λ gs ns n h k s. x.room gs ns n h k (node_spans gs t own (no_root refl) s);
      root_room = λ gs n h z s. no_half_power t own (no_power refl) z;
      bits = x.bits;
      leaves = x.leaves;
    }

pub returns-in-Sub : goal.returns-in-Sub
returns-in-Sub c =
    let t : Tree = tree_of c.args.tree c.args.pool.now in
    let own = sym c.in-Sub.is ∙ kind-is (goal.at.returns-in-Sub c).After-kind in
    let x = c.reduce_sides.ensures in
    record {
      ok = x.ok;
      overflow = x.overflow;
      front = x.front;
      room = λ gs ns n h k s. x.room gs ns n h k (node_spans gs t own (no_root refl) s);
      root_room = λ gs n h z s. no_half_power t own (no_power refl) z;
      bits = x.bits;
      leaves = x.leaves;
    }

pub returns-in-Div : goal.returns-in-Div
returns-in-Div c =
    let t : Tree = tree_of c.args.tree c.args.pool.now in
    let own = sym c.in-Div.is ∙ kind-is (goal.at.returns-in-Div c).After-kind in
    let x = c.reduce_sides-in-Div.ensures in
    record {
      ok = x.ok;
      overflow = x.overflow;
      front = x.front;
      room = λ gs ns n h k s. x.room gs ns n h k (node_spans gs t own (no_root refl) s);
      root_room = λ gs n h z s. no_half_power t own (no_power refl) z;
      bits = x.bits;
      leaves = x.leaves;
    }

-- ---- rationals

pub returns-in-Some : goal.returns-in-Some
returns-in-Some c =
    let t : Tree = tree_of c.args.tree c.args.pool.now in
    let x = c.put.ensures in
    record {
      ok = answer_as _ _ c.put.new.pool _ _ _ x.ok refl (λ u e. subst (IsNodeAnswer t) (sym e) c.in-Some.ensures);
      overflow = overflow_as _ _ _ x.overflow (λ o h. absurd h);
      front = x.front;
      room = λ gs ns n h k s. result_lacks c.put.result x.room (λ l. short_within (number_needs t n (2 ^ length gs) h (pow_pos (length gs))) l);
      root_room = λ gs n h z s. result_lacks c.put.result x.room (λ l. short_within (number_needs t n (2 ^ length gs) h (pow_pos (length gs))) l);
      bits = λ h l k few. x.overflow;
      leaves = x.leaves;
    }
