-- Identities of fractions.
use Rattle.linear_solve.proofs.Shared.{plus_both, plus_zero, ◌≡◌, sym, ap, ◌∙◌, negative_times, times_zero, times_comm, times_assoc, times_plus, zero_plus, one_times, plus_negative, Fraction, plus}
use Rattle.linear_solve.proofs.Shared.{times, negative, zero_fraction, one_fraction, plus_comm, plus_assoc}

pub plus_exchange : (a b c d : Fraction) → plus (plus a b) (plus c d) ≡ plus (plus a c) (plus b d)
plus_exchange a b c d =
    plus_assoc a b (plus c d)
    ∙ ap (plus a) (sym (plus_assoc b c d) ∙ ap (λ x. plus x d) (plus_comm b c) ∙ plus_assoc c b d)
    ∙ sym (plus_assoc a c (plus b d))

pub plus_times : (a b c : Fraction) → times (plus a b) c ≡ plus (times a c) (times b c)
plus_times a b c = times_comm (plus a b) c ∙ times_plus c a b ∙ plus_both (times_comm c a) (times_comm c b)

pub negative_is : (a : Fraction) → negative a ≡ times (negative one_fraction) a
negative_is a = sym (negative_times one_fraction a ∙ ap negative (one_times a))

pub times_negative : (a b : Fraction) → times a (negative b) ≡ negative (times a b)
times_negative a b = times_comm a (negative b) ∙ negative_times b a ∙ ap negative (times_comm b a)

pub negative_plus : (a b : Fraction) → negative (plus a b) ≡ plus (negative a) (negative b)
negative_plus a b =
    negative_is (plus a b) ∙ times_plus (negative one_fraction) a b ∙ plus_both (sym (negative_is a)) (sym (negative_is b))

pub negative_zero : negative zero_fraction ≡ zero_fraction
negative_zero = negative_is zero_fraction ∙ times_zero (negative one_fraction)

pub negative_plus_self : (a : Fraction) → plus (negative a) a ≡ zero_fraction
negative_plus_self a = plus_comm (negative a) a ∙ plus_negative a

-- what adds up to 0 is the opposite
pub opposite_is : (a b : Fraction) → plus a b ≡ zero_fraction → b ≡ negative a
opposite_is a b e =
    sym (zero_plus b) ∙ ap (λ x. plus x b) (sym (negative_plus_self a)) ∙ plus_assoc (negative a) a b ∙ ap (plus (negative a)) e ∙ plus_zero (negative a)

pub negative_twice : (a : Fraction) → negative (negative a) ≡ a
negative_twice a = sym (opposite_is (negative a) a (negative_plus_self a))

-- one entry of a combined row times its coordinate, with the rest
pub combined_entry : (k a b v w u : Fraction) → plus (times (plus a (times k b)) v) (plus w (times k u)) ≡ plus (plus (times a v) w) (times k (plus (times b v) u))
combined_entry k a b v w u =
    ap (λ x. plus x (plus w (times k u))) (plus_times a (times k b) v ∙ ap (plus (times a v)) (times_assoc k b v))
    ∙ plus_exchange (times a v) (times k (times b v)) w (times k u)
    ∙ ap (plus (plus (times a v) w)) (sym (times_plus k (times b v) u))

pub scaled_entry : (k a v w : Fraction) → plus (times (times k a) v) (times k w) ≡ times k (plus (times a v) w)
scaled_entry k a v w = ap (λ x. plus x (times k w)) (times_assoc k a v) ∙ sym (times_plus k (times a v) w)
