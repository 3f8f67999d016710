use Rattle.coefficients.proofs.Shared.{rules, ◌≡◌, ℕ, ◌∙◌, ap, refl, sym, subst, arith, root, Fraction, Split, is_reduced, num_one, Trees, num, is_mult, Forest, kids, Represents, Gives, root_tree}
use Rattle.coefficients.proofs.Shared.{forest, behind_first, front_end, front_put, front_same, gives_as, put-same, LeavesRest, keeps_after, IsOver, over_product, children_in, expression, seen, if_map}
use Rattle.coefficients.proofs.{Shared.{refusal_as, first_handed, given_handed, pair_apart, pair_rest, front_after_two, behind_new}, Bytes.{none_bytes, one_bytes, two_bytes, pair_free, always}}
use Rattle.coefficients.proofs.{Bytes.{no_bytes, as_bytes, short, result_short}, Lengths.{long, measured}, Steps.{IsFirstTaken, IsPairTaken, length_seen, leaves_one, first_taken, pair_taken}}
use Rattle.coefficients.proofs.{Steps.{pair_front, one_value, one_size, pair_tree}, taking.take_leading.Goals.{After-take_child-root}}
use Rattle.calc_terms.specs.declared.kind.Kind.TheVariants as kind
use Rattle.coefficients.proofs.taking.take_leading.Goals as goal

pub coefficient_length-length-requires : goal.coefficient_length-length-requires
coefficient_length-length-requires c = record {
  stands = search rules;
  expression = expression c.id.ensures c.requires.stands c.requires.handed;
  product = ap is_mult (seen c.id.ensures c.requires.stands c.requires.handed) ∙ c.requires.product;
  reduced = ap is_reduced (seen c.id.ensures c.requires.stands c.requires.handed) ∙ c.requires.reduced;
}

as_none : (i : ℕ) (old new : Forest) (h : ℕ) (ts : Trees) (s : Split) (q : Fraction) → IsOver kind.Mult i ts old → s.coefficient ≡ num_one → s.factors ≡ ts → num q ≡ num_one
    → Gives old new h (λ t. t ≡ num q) → LeavesRest i old new h s.coefficient s.factors
as_none i old new h ts s q o c f e g = record {
  kids = kids (root_tree i old);
  rest-are = subst (λ (us : Trees). Represents (kids (root_tree i old)) us) (sym f) o.kids;
  given = gives_as g (sym (put-same i old)) (λ t k. k ∙ e ∙ sym c);
}

pub returns-then-length-eq0-clause-ok : goal.returns-then-length-eq0-clause-ok
returns-then-length-eq0-clause-ok c =
    let m = measured _ c.requires.product c.requires.reduced in
    let s = m.none_led (length_seen c.id.ensures c.requires.stands c.requires.handed c.coefficient_length-length.ensures ∙ c.if-length-eq0.true) in
    if_map c.number.result _ _ c.number.ensures.given
    (λ h g. as_none c.args.product.now _ _ h _ _ _ (over_product c.requires.handed c.requires.product) (ap (λ (x : Split). x.coefficient) s) (ap (λ (x : Split). x.factors) s)
    (ap num (one_value c.whole.result c.whole.ensures)) g)

pub take_child-requires-clause-within : goal.take_child-requires-clause-within
take_child-requires-clause-within c = omega (arith, children_in c.requires.stands (over_product c.requires.handed c.requires.product), (long _ c.requires.product c.requires.reduced).two)

pub returns-then-length-eq1-clause-ok : goal.returns-then-length-eq1-clause-ok
returns-then-length-eq1-clause-ok c =
    let m = measured _ c.requires.product c.requires.reduced in
    let w = m.one_led (length_seen c.id.ensures c.requires.stands c.requires.handed c.coefficient_length-length.ensures ∙ c.if-length-eq1.true) in
    leaves_one (subst (λ (ts : Trees). IsOver kind.Mult c.args.product.now ts (forest c.args.pool.now)) w (over_product c.requires.handed c.requires.product))
    (c.take_child.ensures.last c.requires.handed.root)

pub returns-then-length-eq1-clause-front : goal.returns-then-length-eq1-clause-front
returns-then-length-eq1-clause-front c = front_end (c.take_child.ensures.last c.requires.handed.root) (front_put _ behind_first front_same)

pub take_child-rational-requires-clause-within : goal.take_child-rational-requires-clause-within
take_child-rational-requires-clause-within c = omega (arith, children_in c.requires.stands (over_product c.requires.handed c.requires.product), (long _ c.requires.product c.requires.reduced).two)

pub take_child-root-requires-clause-within : goal.take_child-root-requires-clause-within
take_child-root-requires-clause-within c =
    let t = first_taken c.id.ensures c.requires.stands c.requires.handed c.requires.product c.requires.reduced c.coefficient_length-length.ensures c.if-length-eq0.false c.if-length-eq1.false
    (c.take_child-rational.ensures.last c.requires.handed.root) in
    omega (arith, children_in c.take_child-rational.ensures.stands t.over)

-- the two factors that make the coefficient are taken
pair : (c : After-take_child-root) → (t : IsFirstTaken c.args.product.now c.args.pool.now (forest c.take_child-rational.new.pool))
    × IsPairTaken c.args.product.now (num t.led.q) (root (num t.led.r)) t.led.factors (forest c.args.pool.now) (forest c.take_child-root.new.pool) c.take_child-rational.result c.take_child-root.result
pair c =
    let t = first_taken c.id.ensures c.requires.stands c.requires.handed c.requires.product c.requires.reduced c.coefficient_length-length.ensures c.if-length-eq0.false c.if-length-eq1.false
    (c.take_child-rational.ensures.last c.requires.handed.root) in
    (t, pair_taken t.start (c.take_child-rational.ensures.last c.requires.handed.root) (c.take_child-root.ensures.last t.over.root))

pub node_over_two-requires : goal.node_over_two-requires
node_over_two-requires c =
    let d = (pair (goal.at.node_over_two-requires c).After-take_child-root).1 in
    record {
      stands = search rules;
      takes = refl;
      first = first_handed d.first d.second;
      second = given_handed d.second;
      apart = pair_apart c.take_child-rational.result c.take_child-root.result d.first d.second;
    }

pub returns-clause-ok : goal.returns-clause-ok
returns-clause-ok c =
    let d = pair (goal.at.returns-clause-ok c).After-take_child-root in
    if_map c.node_over_two.result _ _ c.node_over_two.ensures.ok (λ h g. record {
      kids = d.1.now;
      rest-are = subst (Represents d.1.now) (sym (ap (λ (s : Split). s.factors) d.0.led.is)) d.1.kids;
      given = gives_as g (pair_rest d.1.first d.1.second) (λ u e. e ∙ pair_tree d.1 ∙ sym (ap (λ (s : Split). s.coefficient) d.0.led.is));
    })

pub returns-clause-front : goal.returns-clause-front
returns-clause-front c =
    let d = (pair (goal.at.returns-clause-front c).After-take_child-root).1 in
    let first = front_put d.now behind_first front_same in
    front_after_two (behind_new d.first.ends first) (behind_new d.second.ends (front_end d.first.ends first)) (pair_front d) c.node_over_two.ensures.front

pub returns-then-length-eq0-clause-full : goal.returns-then-length-eq0-clause-full
returns-then-length-eq0-clause-full c =
    let n = length_seen c.id.ensures c.requires.stands c.requires.handed c.coefficient_length-length.ensures ∙ c.if-length-eq0.true in
    result_short _ c.args.pool.now c.number.new.pool c.number.result (none_bytes _ n ∙ one_size c.whole.result c.whole.ensures) c.number.ensures.full

pub returns-then-length-eq0-clause-exactly : goal.returns-then-length-eq0-clause-exactly
returns-then-length-eq0-clause-exactly c =
    let n = length_seen c.id.ensures c.requires.stands c.requires.handed c.coefficient_length-length.ensures ∙ c.if-length-eq0.true in
    as_bytes (none_bytes _ n ∙ one_size c.whole.result c.whole.ensures) c.number.ensures.exactly

pub returns-then-length-eq1-clause-exactly : goal.returns-then-length-eq1-clause-exactly
returns-then-length-eq1-clause-exactly c =
    let n = length_seen c.id.ensures c.requires.stands c.requires.handed c.coefficient_length-length.ensures ∙ c.if-length-eq1.true in
    always (one_bytes _ n) no_bytes

pub returns-clause-full : goal.returns-clause-full
returns-clause-full c =
    let d = pair (goal.at.returns-clause-full c).After-take_child-root in
    let len = length_seen c.id.ensures c.requires.stands c.requires.handed c.coefficient_length-length.ensures in
    let kept = keeps_after _ _ _ c.take_child-rational.ensures.kept c.take_child-root.ensures.kept in
    refusal_as c.node_over_two.result c.node_over_two.ensures.full
    (λ full r. short kept (pair_free c.requires.stands c.take_child-root.ensures.stands kept d.0.start d.1)
    (two_bytes _ (λ x. c.if-length-eq0.false (sym len ∙ x)) (λ x. c.if-length-eq1.false (sym len ∙ x))) r)

pub returns-clause-exactly : goal.returns-clause-exactly
returns-clause-exactly c =
    let d = pair (goal.at.returns-clause-exactly c).After-take_child-root in
    let len = length_seen c.id.ensures c.requires.stands c.requires.handed c.coefficient_length-length.ensures in
    let free = pair_free c.requires.stands c.take_child-root.ensures.stands (keeps_after _ _ _ c.take_child-rational.ensures.kept c.take_child-root.ensures.kept) d.0.start d.1 in
    as_bytes (two_bytes _ (λ x. c.if-length-eq0.false (sym len ∙ x)) (λ x. c.if-length-eq1.false (sym len ∙ x)))
    (λ o. omega (arith, free, c.node_over_two.ensures.exactly.0 o), λ l. c.node_over_two.ensures.exactly.1 (omega (arith, free, l)))
