use Rattle.power_reduce.proofs.Shared.{◌≡◌, ℤ, Bool, true, false, sym, ap, ◌∙◌, subst, ◌<◌, ◌^◌, arith, nat_abs, IfOk, SpansTree, is_number, IsNumberPower, IfDone, whole_fraction, is_whole_num, Tree}
use Rattle.power_reduce.proofs.{Shared.{num, told, tree_of, gives_as, given_told, base_in, exponent_in, refused_as, counted, counts_one, is_half_num}, Exponents.{whole_no_half}}
use Rattle.power_reduce.proofs.{HeldPowers.{if_step_held, no_undef}, Written.{whole_numbers}, Whole.{whole_is}, Cases.{HasUndef, undef_base, undef_exponent, undef_kept, undef_answer}}
use Rattle.power_reduce.proofs.{Cases.{defined_rationals}, step.power_step.Goals.{Joined-then-is_undefined, then-is_undefined-via-then-is_undefined}}
use Rattle.power_reduce.proofs.{step.power_step.Goals.{then-is_undefined-via-else-is_undefined+then-is_undefined-2}, Counted.{if_step_counts}, WithinBits.{within_bits}, Spanned.{if_step_spans}}
use Rattle.power_reduce.proofs.step.power_step.Goals as goal

pub whole_power-requires-clause-exponent : goal.whole_power-requires-clause-exponent
whole_power-requires-clause-exponent c = sym c.exponent_id-exponent.ensures.tree ∙ c.in-Some.ensures.value ∙ ap (λ z. num (whole_fraction z)) (sym (told c.in-Some.n c.in-Some.ensures.fits))

pub whole_power-requires-clause-fits : goal.whole_power-requires-clause-fits
whole_power-requires-clause-fits c = subst (λ z. nat_abs z < 2 ^ 127) (sym (told c.in-Some.n c.in-Some.ensures.fits)) c.in-Some.ensures.fits

undef : (c : Joined-then-is_undefined) → HasUndef (base_in (tree_of c.args.power c.args.pool.now)) (exponent_in (tree_of c.args.power c.args.pool.now))
undef c = grind (arith, undef_base, undef_exponent)

pub returns-then-is_undefined-clause-ok : goal.returns-then-is_undefined-clause-ok
returns-then-is_undefined-clause-ok c = grind (arith, undef, undef_kept, gives_as, undef_answer)

pub returns-then-is_undefined-clause-rationals : goal.returns-then-is_undefined-clause-rationals
returns-then-is_undefined-clause-rationals c = λ b e. defined_rationals (base_in (tree_of c.args.power c.args.pool.now)) (exponent_in (tree_of c.args.power c.args.pool.now)) (undef (goal.at.returns-then-is_undefined-clause-rationals c).Joined-then-is_undefined) b e

pub returns-in-None-clause-overflow : goal.returns-in-None-clause-overflow
returns-in-None-clause-overflow c = refused_as c.other_power.result c.other_power.ensures.overflow (λ o x. absurd x)

-- ---- bytes at hand

whole_exponent : (e : Tree) (z : ℤ) → e ≡ num (whole_fraction z) → is_whole_num e ≡ true
whole_exponent e z h = ap is_whole_num h ∙ whole_is z

contrary : {A : Type 0} (b : Bool) → b ≡ true → b ≡ false → A
contrary b h k = absurd (cc (h, k))

pub returns-in-Some-clause-room : goal.returns-in-Some-clause-room
returns-in-Some-clause-room c = λ gs s w. c.whole_power.ensures.room gs s

pub returns-in-None-clause-room : goal.returns-in-None-clause-room
returns-in-None-clause-room c = λ gs s w. contrary (is_whole_num (exponent_in (tree_of c.args.power c.args.pool.now))) w (sym (ap is_whole_num c.exponent_id-exponent.ensures.tree) ∙ c.in-None.ensures.value)

pub returns-in-Some-clause-root_room : goal.returns-in-Some-clause-root_room
returns-in-Some-clause-root_room c = λ h.
    let e : Tree = exponent_in (tree_of c.args.power c.args.pool.now) in
    contrary (is_half_num e) h (whole_no_half e (whole_exponent e c.in-Some.n (sym c.exponent_id-exponent.ensures.tree ∙ c.in-Some.ensures.value)))

pub returns-in-Some-clause-others : goal.returns-in-Some-clause-others
returns-in-Some-clause-others c = λ w h.
    let e : Tree = exponent_in (tree_of c.args.power c.args.pool.now) in
    contrary (is_whole_num e) (whole_exponent e c.in-Some.n (sym c.exponent_id-exponent.ensures.tree ∙ c.in-Some.ensures.value)) w

-- ---- what counts, and what spans

pub returns-then-is_undefined-clause-counted : goal.returns-then-is_undefined-clause-counted
returns-then-is_undefined-clause-counted c = omega (arith, ap counted (given_told c.undefined.ensures.gives), counts_one (tree_of c.args.power c.args.pool.now))

pub returns-in-Some-clause-counted : goal.returns-in-Some-clause-counted
returns-in-Some-clause-counted c = if_step_counts (tree_of c.args.power c.args.pool.now) _ c.whole_power.new.pool c.whole_power.result c.requires.power c.whole_power.ensures.ok

pub returns-in-None-clause-counted : goal.returns-in-None-clause-counted
returns-in-None-clause-counted c = if_step_counts (tree_of c.args.power c.args.pool.now) _ c.other_power.new.pool c.other_power.result c.requires.power c.other_power.ensures.ok

pub returns-then-is_undefined-clause-spanned : goal.returns-then-is_undefined-clause-spanned
returns-then-is_undefined-clause-spanned c = λ gs s h. subst (SpansTree gs) (sym (given_told c.undefined.ensures.gives)) tt

-- ---- bits

pub returns-in-Some-clause-spanned : goal.returns-in-Some-clause-spanned
returns-in-Some-clause-spanned c = λ gs s h. if_step_spans gs (tree_of c.args.power c.args.pool.now) _ c.whole_power.new.pool c.whole_power.result c.requires.power h c.whole_power.ensures.ok s

pub returns-in-None-clause-spanned : goal.returns-in-None-clause-spanned
returns-in-None-clause-spanned c = λ gs s h. if_step_spans gs (tree_of c.args.power c.args.pool.now) _ c.other_power.new.pool c.other_power.result c.requires.power h c.other_power.ensures.ok s

pub returns-then-is_undefined-clause-held : goal.returns-then-is_undefined-clause-held
returns-then-is_undefined-clause-held c = λ n e u. no_undef _ (given_told c.undefined.ensures.gives) u

pub returns-in-Some-clause-held : goal.returns-in-Some-clause-held
returns-in-Some-clause-held c = λ n e.
    let t : Tree = tree_of c.args.power c.args.pool.now in
    let same = told c.in-Some.n c.in-Some.ensures.fits ∙ whole_numbers (sym (sym c.exponent_id-exponent.ensures.tree ∙ c.in-Some.ensures.value) ∙ e) in
    if_step_held t _ c.whole_power.new.pool c.whole_power.result n e c.whole_power.ensures.ok
    (subst (λ z. is_number (base_in t) ≡ true → IfOk c.whole_power.result (λ s. IfDone s (λ h. IsNumberPower z (base_in t) (tree_of h c.whole_power.new.pool)))) same c.whole_power.ensures.held)

pub returns-in-None-clause-held : goal.returns-in-None-clause-held
returns-in-None-clause-held c = λ n e. contrary (is_whole_num (exponent_in (tree_of c.args.power c.args.pool.now))) (whole_exponent (exponent_in (tree_of c.args.power c.args.pool.now)) n e) (sym (ap is_whole_num c.exponent_id-exponent.ensures.tree) ∙ c.in-None.ensures.value)

pub returns-in-Some-clause-bits : goal.returns-in-Some-clause-bits
returns-in-Some-clause-bits c = λ n e h l k few. within_bits (base_in (tree_of c.args.power c.args.pool.now)) (exponent_in (tree_of c.args.power c.args.pool.now)) n h l c.whole_power.result e k few c.whole_power.ensures.overflow
