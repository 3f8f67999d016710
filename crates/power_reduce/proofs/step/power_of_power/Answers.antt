use Rattle.power_reduce.proofs.{Shared.{sym, ◌∙◌, refl, tree_of, base_in, exponent_in}, Cases.{again, inside_other, sealed_kept}}
use Rattle.power_reduce.proofs.step.power_of_power.Goals as goal

pub kept_power-requires : goal.kept_power-requires
kept_power-requires c =
    let t = tree_of c.args.power c.args.pool.now in
    record {
      stands = c.requires.stands;
      handed = c.requires.handed;
      sides = c.requires.sides;
      exponent = inside_other (exponent_in t) c.requires.inside;
      number = c.requires.number;
      kept = sealed_kept (base_in t) (exponent_in t) c.requires.base c.requires.inside (sym c.first_exponent_is_opaque.ensures ∙ c.if-first_exponent_is_opaque.true);
    }

pub returns-then-first_exponent_is_opaque : goal.returns-then-first_exponent_is_opaque
returns-then-first_exponent_is_opaque c =
    let k = c.kept_power.ensures in
    record { ok = k.step; overflow = tt; front = k.front; kept = k.kept; faults = tt; caused = tt; answered = refl; stands = k.stands }

pub join_exponents-requires : goal.join_exponents-requires
join_exponents-requires c = record {
  stands = c.requires.stands;
  handed = c.requires.handed;
  sides = c.requires.sides;
  inside = c.requires.inside;
  base = c.requires.base;
  transparent = sym c.first_exponent_is_opaque.ensures ∙ c.if-first_exponent_is_opaque.false;
}

pub returns : goal.returns
returns c =
    let j = c.join_exponents.ensures in
    record {
      ok = again (tree_of c.args.power c.args.pool.now) c.requires.sides.power j.gives;
      overflow = tt;
      front = j.front;
      kept = j.kept;
      faults = tt;
      caused = tt;
      answered = refl;
      stands = j.stands;
    }
