use Rattle.power_reduce.proofs.Shared.{refl, sym, ap, ◌∙◌, subst, arith, IfOk, SpansTree, replaced_free, num, is_num, one_value, if_map, behind_first, behind_new, front_same, front_without}
use Rattle.power_reduce.proofs.{Shared.{front_after_one, gives_as, given_rest, given_told, refused_as, IsNumberPower, base_in, tree_of, told, is_number, given_handed}, Rooms.{lacks_as}}
use Rattle.power_reduce.proofs.{Misfits.{positive_misfit}, NumberPowers.{irrational_power, zero_answer, one_answer, power_answer}, HeldPowers.{zero_power, one_power, positive_power}}
use Rattle.power_reduce.proofs.{Powers.{one_room}, RationalPowers.{zero_bits, no_zero_bits, not_below}, Whole.{one_bits, no_one_bits}}
use Rattle.power_reduce.proofs.numbers.irrational_power.Goals as goal

pub returns-then-n-eq0-clause-ok : goal.returns-then-n-eq0-clause-ok
returns-then-n-eq0-clause-ok c =
    gives_as c.with_number.ensures.gives refl (λ t u. zero_answer _ _ c.args.n t c.requires.exponent (zero_bits c.args.n c.requires.fits c.if-n-eq0.true)
    (irrational_power _ _ c.requires.number c.requires.base c.requires.sides.exponent_defined) (u ∙ ap num (one_value c.whole.result c.whole.ensures)))

pub with_number-requires-clause-room : goal.with_number-requires-clause-room
with_number-requires-clause-room c = one_room (tree_of c.args.power c.args.pool.now) _ _ c.requires.sides.power c.requires.exponent (one_value c.whole.result c.whole.ensures)

pub returns-then-n-eq1-clause-ok : goal.returns-then-n-eq1-clause-ok
returns-then-n-eq1-clause-ok c =
    gives_as c.take_base.ensures.gives refl (λ t u. one_answer _ _ c.args.n t c.requires.exponent (one_bits c.args.n c.requires.fits c.if-n-eq1.true) c.requires.sides.base c.requires.sides.base_defined
    (irrational_power _ _ c.requires.number c.requires.base c.requires.sides.exponent_defined) u)

pub power_number-requires-clause-handed : goal.power_number-requires-clause-handed
power_number-requires-clause-handed c = given_handed c.take_base-base.ensures.gives

pub power_number-requires-clause-number : goal.power_number-requires-clause-number
power_number-requires-clause-number c = ap is_number (given_told c.take_base-base.ensures.gives) ∙ c.requires.number

pub returns-clause-ok : goal.returns-clause-ok
returns-clause-ok c =
    let g = c.take_base-base.ensures.gives in
    if_map c.power_number.result _ _ c.power_number.ensures.ok (λ h k. gives_as k (given_rest g) (λ t n.
    power_answer _ _ _ t _ c.args.n c.requires.exponent (not_below c.args.n c.requires.fits c.if-n-lt0.false (no_zero_bits c.args.n c.if-n-eq0.false)) (no_one_bits c.args.n c.if-n-eq1.false) c.requires.number
    (irrational_power _ _ c.requires.number c.requires.base c.requires.sides.exponent_defined) (given_told g) (told c.args.n c.requires.fits) n))

pub returns-clause-front : goal.returns-clause-front
returns-clause-front c = front_after_one (behind_new c.take_base-base.ensures.gives.ends (front_without behind_first front_same)) c.take_base-base.ensures.front c.power_number.ensures.front

pub returns-clause-overflow : goal.returns-clause-overflow
returns-clause-overflow c =
    let g = c.take_base-base.ensures.gives in
    refused_as c.power_number.result (c.power_number.ensures.overflow (ap is_num (given_told g) ∙ c.requires.base))
    (λ o h. positive_misfit _ _ _ _ c.args.n o c.requires.exponent (not_below c.args.n c.requires.fits c.if-n-lt0.false (no_zero_bits c.args.n c.if-n-eq0.false)) c.requires.number c.requires.base (given_told g) (told c.args.n c.requires.fits) h)

pub returns-clause-room : goal.returns-clause-room
returns-clause-room c = λ gs s.
    let g = c.take_base-base.ensures.gives in
    lacks_as gs c.power_number.result (sym (replaced_free c.requires.stands c.take_base-base.ensures.stands c.take_base-base.ensures.kept c.requires.handed g)) (omega arith)
    (c.power_number.ensures.room gs (subst (SpansTree gs) (sym (given_told g)) s))

-- ---- what holds it

pub returns-then-n-eq0-clause-held : goal.returns-then-n-eq0-clause-held
returns-then-n-eq0-clause-held c = λ k. zero_power c.args.n _ _ (given_told c.with_number.ensures.gives ∙ ap num (one_value c.whole.result c.whole.ensures))

pub returns-then-n-eq1-clause-held : goal.returns-then-n-eq1-clause-held
returns-then-n-eq1-clause-held c = λ k. one_power c.args.n _ _ (one_bits c.args.n c.requires.fits c.if-n-eq1.true) (given_told c.take_base.ensures.gives)

pub returns-clause-held : goal.returns-clause-held
returns-clause-held c =
    if_map c.power_number.result _ _ c.power_number.ensures.measured (λ h m k. positive_power c.args.n _ _ _ _ (not_below c.args.n c.requires.fits c.if-n-lt0.false (no_zero_bits c.args.n c.if-n-eq0.false)) (told c.args.n c.requires.fits) (given_told c.take_base-base.ensures.gives) m)

pub returns-then-n-lt0-clause-held : goal.returns-then-n-lt0-clause-held
returns-then-n-lt0-clause-held c =
    subst (λ z. IfOk c.negative_power.result (λ h. IsNumberPower z (base_in (tree_of c.args.power c.args.pool.now)) (tree_of h c.negative_power.new.pool))) (told c.args.n c.requires.fits) c.negative_power.ensures.held
