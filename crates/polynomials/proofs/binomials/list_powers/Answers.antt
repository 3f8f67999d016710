use Rattle.polynomials.proofs.{Shared.{◌≡◌, [], ◌∷◌, ◌++◌, ◌*◌, List, get_or, le_refl, ap, ◌∙◌, subst, arith, Term, summand_of}, PowerLists.{listed_exponents, powers_more, powers_none}}
use Rattle.polynomials.proofs.Products.{within}
use Rattle.polynomials.proofs.binomials.list_powers.Goals as goal

pub loop-k-init : goal.loop-k-init
loop-k-init c =
    let one : c.push.new.list.items ≡ c.constant.result ∷ [] = c.in_ok-push.ensures.ok ∙ ap (λ (l : List Term). l ++ c.constant.result ∷ []) c.clear.ensures.items in
    record { powers = powers_none (summand_of c.args.term) c.push.new.list.items c.constant.result c.whole.result one c.whole.ensures c.constant.ensures; room-kept = omega arith }

pub times-requires : goal.times-requires
times-requires c =
    let x = c.requires.exponents in
    let k = c.loop-k.k in
    let last : c.index-last.result.now ≡ get_or c.loop-k.powers.items k c.index-last.result.now =
    subst (λ j. c.index-last.result.now ≡ get_or c.loop-k.powers.items j c.index-last.result.now) c.from.ensures c.index-last.ensures in
    record {
      exponents = (
        x.0,
        k * x.0,
        within (x.0) k c.args.greatest c.loop-k-test.true (x.1),
        x.2,
        listed_exponents (x.0) k k (summand_of c.args.term) c.loop-k.powers.items c.index-last.result.now c.loop-k.invariant.powers (le_refl k) last (x.2),
      );
    }

pub loop-k-preserved : goal.loop-k-preserved
loop-k-preserved c =
    let k = c.loop-k.k in
    let last : c.index-last.result.now ≡ get_or c.loop-k.powers.items k c.index-last.result.now =
    subst (λ j. c.index-last.result.now ≡ get_or c.loop-k.powers.items j c.index-last.result.now) c.from.ensures c.index-last.ensures in
    record {
      powers = powers_more (summand_of c.args.term) k c.loop-k.powers.items c.push-in-loop-k.new.list.items c.index-last.result.now c.in_ok-times.field-0 c.loop-k.invariant.powers last
          c.in_ok-times.ensures.product c.in_ok-push-2.ensures.ok;
      room-kept = omega arith;
    }
