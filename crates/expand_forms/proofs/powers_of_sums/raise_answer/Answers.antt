use Rattle.expand_forms.proofs.Shared.{expression, ◌∙◌, ◌≡◌, true, refl, sym, ap, arith, free_of, front_same, gives, gives_as, if_map, kept_same, own_bits, represents_handed, seen, tree_of}
use Rattle.expand_forms.proofs.{Shared.{is_power_of_sum, refused_as}, OverAnswers.{children_expanded, expanded_from, few_bytes, polynomial_root}}
use Rattle.expand_forms.proofs.{PowersOfSums.{answer_expanded, answer_over, lacks, over_ready}, powers_of_sums.raise_answer.Goals.{Then-is_power_of_sum}}
use Rattle.number_forms.proofs.Safety.{answered}
use Rattle.expand_forms.proofs.powers_of_sums.raise_answer.Goals as goal

-- the tree is a power of a sum
power : (c : Then-is_power_of_sum) → is_power_of_sum (tree_of c.args.answer c.args.pool.now) ≡ true
power c = ap is_power_of_sum (sym (seen c.id.ensures c.requires.stands c.requires.handed)) ∙ sym c.is_power_of_sum.ensures ∙ c.if-is_power_of_sum.true

pub is_power_of_sum-requires-clause-expression : goal.is_power_of_sum-requires-clause-expression
is_power_of_sum-requires-clause-expression c = expression c.id.ensures c.requires.stands c.requires.handed

pub expand_node-requires : goal.expand_node-requires
expand_node-requires c =
    let u = tree_of c.args.answer c.args.pool.now in
    let (whole, p, r) = c.requires.ready in
    let o = answer_over p r (power (goal.at.expand_node-requires c).Then-is_power_of_sum) in
    record { stands = c.requires.stands; handed = c.requires.handed; polynomial = polynomial_root whole u o p; children = children_expanded whole u o p }

pub returns-then-is_power_of_sum : goal.returns-then-is_power_of_sum
returns-then-is_power_of_sum c =
    let u = tree_of c.args.answer c.args.pool.now in
    let h = power (goal.at.returns-then-is_power_of_sum c).Then-is_power_of_sum in
    let r = c.expand_node.result in
    let free = free_of c.args.pool.now in
    record {
      ok = λ whole p x. if_map r _ _ c.expand_node.ensures.ok (λ i g. gives_as g refl (λ t e. expanded_from whole u (answer_over p x h) p t e p));
      safe = c.expand_node.ensures.safe;
      fits = λ whole p x. refused_as r (c.expand_node.ensures.fits whole (answer_over p x h) p) (λ v l. omega (arith, l, own_bits whole));
      room = λ whole p x. let o = answer_over p x h in lacks whole u (over_ready o) p r free (few_bytes whole u o p r free c.expand_node.ensures.room);
    }

pub returns : goal.returns
returns c = let h = ap is_power_of_sum (sym (seen c.id.ensures c.requires.stands c.requires.handed)) ∙ sym c.is_power_of_sum.ensures ∙ c.if-is_power_of_sum.false in record {
  ok = λ whole p x. gives c.requires.last (represents_handed c.requires.handed) (answer_expanded p x h);
  safe = answered front_same (kept_same c.args.pool.now) c.requires.stands;
  fits = λ whole p x. tt;
  room = λ whole p x. tt;
}
