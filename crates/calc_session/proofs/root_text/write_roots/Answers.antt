use Rattle.std.proofs.Common.{◌≡◌, ◌<◌, ◌∙◌, List, length, map, ap, arith}
use Rattle.calc_session.proofs.{Shared.{Fraction, name_of, num}, RootLemmas.{pair_told, rationals_told, texts_of}}
use Rattle.calc_session.proofs.root_text.write_roots.Goals.{In_ok-write_rationals}
use Rattle.equation_roots.specs.{Pairs.{beside_of, middle_of, radicand_of}, Roots.{rationals_in, rest_in}}
use Rattle.calc_session.proofs.root_text.write_roots.Goals as goal

rationals_first : (c : In_ok-write_rationals) → c.write_rationals.new.text.bytes ≡ texts_of (name_of c.args.name) (map num (rationals_in c.args.roots.now))
rationals_first c = c.in_ok-write_rationals.ensures.told ∙ ap (λ (qs : List Fraction). texts_of (name_of c.args.name) (map num qs)) c.rationals-rationals.ensures

pub returns-in-Some-clause-told : goal.returns-in-Some-clause-told
returns-in-Some-clause-told c =
    pair_told (name_of c.args.name) c.write_pair.result (rationals_in c.args.roots.now) (rest_in c.args.roots.now) (middle_of c.in-Some.pair) (beside_of c.in-Some.pair) (radicand_of c.in-Some.pair) c.len.result c.write_rationals.new.text c.write_pair.new.text
    c.in-Some.ensures (c.len.ensures.value ∙ ap length c.rationals-rationals.ensures) (rationals_first (goal.at.returns-in-Some-clause-told c).In_ok-write_rationals) c.write_pair.ensures.told

pub returns-else-len-eq0-clause-told : goal.returns-else-len-eq0-clause-told
returns-else-len-eq0-clause-told c =
    let some : 0 < length (rationals_in c.args.roots.now) = omega (arith, c.if-len-eq0.false, c.len-in-None.ensures.value, ap length c.rationals-rationals.ensures) in
    rationals_told (name_of c.args.name) (rationals_in c.args.roots.now) (rest_in c.args.roots.now) c.write_rationals.new.text c.in-None.ensures some (rationals_first (goal.at.returns-else-len-eq0-clause-told c).In_ok-write_rationals)
