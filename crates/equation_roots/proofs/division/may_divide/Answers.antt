use Rattle.std.proofs.Common.{◌+◌, ◌<◌, ◌≡◌, ◌^◌, nat_abs, pos, [], ◌∷◌, length, None, Option, Some, ℤ, is_some, false, refl, sym, ◌∙◌, arith}
use Rattle.equation_roots.specs.{Told.{wholes_of}, Wholes.{read}}
use Rattle.equation_roots.proofs.{Dividing.{read_length, started_more, started_none, started_stops}, Wide.{fits_of, stopped, went_on}}
use Rattle.equation_roots.proofs.division.may_divide.Goals as goal

no_some : (o : Option ℤ) → is_some o ≡ false → o ≡ None
no_some None h = refl
no_some (Some x) h = cc

zero_fits : nat_abs (pos 0) < 2 ^ 127
zero_fits = omega arith

pub returns-in_ok-second-in-Some-clause-none : goal.returns-in_ok-second-in-Some-clause-none
returns-in_ok-second-in-Some-clause-none c = λ no.
    let r = read c.args.backward (wholes_of c.args.p.now) in
    let l = read_length c.args.backward (wholes_of c.args.p.now) in
    let n : 0 + 1 < length r = omega (arith, l, c.requires.some) in
    let m : 0 + 1 + 1 < length r = omega (arith, l, c.requires.some) in
    let f = fits_of c.in_ok-first.field-0 c.in-Some.first c.in_ok-first.ensures.fits c.in-Some.is in
    let e = went_on c.in_ok-first.field-0 c.entry.result c.args.a (pos 0) c.args.b c.in-Some.first c.entry.ensures.fits c.requires.first zero_fits c.requires.second c.in_ok-first.ensures.exact c.in-Some.is in
    let s = started_more c.args.a c.args.b r [] (pos 0) 0 (started_none c.args.a c.args.b r) c.in-Some.first c.requires.not_zero n (e ∙ c.entry.ensures.value) in
    started_stops c.args.a c.args.b r (c.in-Some.first ∷ []) c.in-Some.first 1 s m
    (λ x g. stopped c.in_ok-second-in-Some.second c.entry-in-Some.result c.args.a c.in-Some.first c.args.b c.entry-in-Some.ensures.fits c.requires.first f c.requires.second c.in_ok-second-in-Some.ensures.exact
    (no_some c.in_ok-second-in-Some.second (sym c.is_some.ensures ∙ no)) x (g ∙ sym c.entry-in-Some.ensures.value))

pub returns-in-None-clause-none : goal.returns-in-None-clause-none
returns-in-None-clause-none c = λ no.
    let r = read c.args.backward (wholes_of c.args.p.now) in
    let n : 0 + 1 < length r = omega (arith, read_length c.args.backward (wholes_of c.args.p.now), c.requires.some) in
    started_stops c.args.a c.args.b r [] (pos 0) 0 (started_none c.args.a c.args.b r) n
    (λ x e. stopped c.in_ok-first.field-0 c.entry.result c.args.a (pos 0) c.args.b c.entry.ensures.fits c.requires.first zero_fits c.requires.second c.in_ok-first.ensures.exact c.in-None.is x (e ∙ sym c.entry.ensures.value))
