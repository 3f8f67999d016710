-- Slopes of products, quotients, powers and roots, up to equality at every number.
use Rattle.dual_diff.proofs.Shared.{◌≡◌, [], ◌++◌, refl, ◌∙◌, arith, append-nil, pos, Fraction, times, minus_one_fraction, quotient, whole_fraction, times_lowest, same_lowest, Surd, surd_of, surd_one}
use Rattle.dual_diff.proofs.Shared.{surd_scale, surd_times, Inverts, Inverts-sym, Inverts-surd_of, Inverts-surd_times, Same-Agree, Agree, Agree-refl, Agree-sym, Agree-trans, Agree-eq, Agree-append}
use Rattle.dual_diff.proofs.Shared.{Agree-surd_scale, Agree-surd_times, Agree-surd_times_right, append_comm, surd_times-append, surd_times-nil, surd_times-one, surd_times_assoc, surd_times_comm}
use Rattle.dual_diff.proofs.Shared.{surd_times_left_comm, surd_times_exchange, surd_times-surd_of, Agree-zero_term, zero_fraction, one_fraction}

-- ---- zero

pub zero_append : {u v : Surd} → Agree u [] → Agree v [] → Agree (u ++ v) []
zero_append {u} {v} a b = Agree-append {v' = []} a b

pub zero_right : {u v : Surd} → Agree v [] → Agree (u ++ v) u
zero_right {u} {v} b = Agree-trans (Agree-append (Agree-refl u) b) (Agree-eq (append-nil u))

pub zero_scale : (c : Fraction) {u : Surd} → Agree u [] → Agree (surd_scale c u) []
zero_scale c {u} a = Agree-surd_scale c {w = []} a

pub zero_times : (u : Surd) {v : Surd} → Agree v [] → Agree (surd_times u v) []
zero_times u {v} b = Agree-trans (Agree-surd_times_right u b) (Agree-eq (surd_times-nil u))

pub times_zero : {u : Surd} (v : Surd) → Agree u [] → Agree (surd_times u v) []
times_zero {u} v a = Agree-surd_times {v' = []} a (Agree-refl v)

pub zero_number : Agree [] (surd_of (whole_fraction (pos 0)))
unfolding zero_fraction
zero_number = Agree-sym (Agree-zero_term 1)

-- ---- products with sums and with multiples

pub times_append : (u v w : Surd) → Agree (surd_times u (v ++ w)) (surd_times u v ++ surd_times u w)
times_append u v w =
    Agree-trans (surd_times_comm u (v ++ w)) (Agree-trans (Agree-eq (surd_times-append v w u)) (Agree-append (surd_times_comm v u) (surd_times_comm w u)))

pub scale_left : (c : Fraction) (u v : Surd) → Agree (surd_times (surd_scale c u) v) (surd_scale c (surd_times u v))
scale_left c u v =
    Agree-trans (Agree-surd_times (Agree-sym (surd_times-surd_of c u)) (Agree-refl v))
    (Agree-trans (Agree-eq (surd_times_assoc (surd_of c) u v)) (surd_times-surd_of c (surd_times u v)))

pub scale_right : (c : Fraction) (u v : Surd) → Agree (surd_times u (surd_times (surd_of c) v)) (surd_scale c (surd_times u v))
scale_right c u v = Agree-trans (surd_times_left_comm u (surd_of c) v) (surd_times-surd_of c (surd_times u v))

-- ---- one factor after another

-- p(ab' + a'b) as the product with a' in the place of a, and the later ones
pub product_slope : (p a a' b b' e : Surd) → Agree e (surd_times (surd_times p a) b') → Agree (surd_times p (surd_times a' b) ++ e) (surd_times p (surd_times a b' ++ surd_times a' b))
product_slope p a a' b b' e h =
    let first = surd_times p (surd_times a' b) in
    let later = surd_times p (surd_times a b') in
    Agree-trans (Agree-append (Agree-refl first) (Agree-trans h (Agree-eq (surd_times_assoc p a b'))))
    (Agree-trans (append_comm first later) (Agree-sym (times_append p (surd_times a b') (surd_times a' b))))

-- where a' is 0
pub product_still : (p a a' b b' e : Surd) → Agree a' [] → Agree e (surd_times (surd_times p a) b') → Agree e (surd_times p (surd_times a b' ++ surd_times a' b))
product_still p a a' b b' e z h = grind (arith, Agree-trans, Agree-eq, surd_times_assoc, Agree-surd_times_right, Agree-sym, zero_right, times_zero)

-- ---- quotients

-- (w'u - wu')yy is w'y - w(u'yy), where y inverts u
pub quotient_slope : (w w' u u' y : Surd) → Inverts y u
    → Agree (surd_times w' y ++ surd_scale minus_one_fraction (surd_times w (surd_times u' (surd_times y y))))
    (surd_times (surd_times w' u ++ surd_scale minus_one_fraction (surd_times w u')) (surd_times y y))
quotient_slope w w' u u' y i =
    let yy = surd_times y y in
    let one : Agree (surd_times u y) surd_one = Same-Agree (Inverts-sym y u i) in
    let first : Agree (surd_times (surd_times w' u) yy) (surd_times w' y) =
    Agree-trans (surd_times_exchange w' u y y) (Agree-trans (Agree-surd_times_right (surd_times w' y) one) (surd_times-one (surd_times w' y))) in
    let second : Agree (surd_times (surd_scale minus_one_fraction (surd_times w u')) yy) (surd_scale minus_one_fraction (surd_times w (surd_times u' yy))) =
    Agree-trans (scale_left minus_one_fraction (surd_times w u') yy) (Agree-surd_scale minus_one_fraction (Agree-eq (surd_times_assoc w u' yy))) in
    Agree-sym (Agree-trans (Agree-eq (surd_times-append (surd_times w' u) (surd_scale minus_one_fraction (surd_times w u')) yy)) (Agree-append first second))

-- where u' is 0
pub quotient_still : (w w' u' y : Surd) → Agree u' []
    → Agree (surd_times w' y ++ surd_scale minus_one_fraction (surd_times w (surd_times u' (surd_times y y)))) (surd_times w' y)
quotient_still w w' u' y z = zero_right (zero_scale minus_one_fraction (zero_times w (times_zero (surd_times y y) z)))

-- ---- roots

half_of_two : times (quotient 1 2) (whole_fraction (pos 2)) ≡ one_fraction
unfolding one_fraction
half_of_two = times_lowest (pos 1) (pos 2) 2 1 (omega arith) (omega arith) ∙ same_lowest (pos 2) (pos 1) 2 1 (omega arith) (omega arith) refl

-- y/2 inverts 2v, where y inverts v
pub half_inverts : (y v : Surd) → Inverts y v → Inverts (surd_times (surd_of (quotient 1 2)) y) (surd_times (surd_of (whole_fraction (pos 2))) v)
half_inverts y v i = Inverts-surd_times (surd_of (quotient 1 2)) (surd_of (whole_fraction (pos 2))) y v (Inverts-surd_of (whole_fraction (pos 2)) (quotient 1 2) half_of_two) i
