-- A monic polynomial of degree 2 is the product of its linear factors, by Vieta.
use Rattle.std.proofs.Common.{ℕ, ◌≡◌, [], ◌∷◌, ◌++◌, sym, ap, ◌∙◌}
use Rattle.calc_terms.specs.FractionLaws.{one_times, times_plus, plus_negative, zero_plus}
use Rattle.calc_terms.specs.Fractions.{Fraction, plus, times, negative, zero_fraction, one_fraction, plus_assoc, plus_comm}
use Rattle.calc_terms.proofs.{SmallFractions.{plus_zero}, SmallLaws.{plus_both}}
use Rattle.calc_algebra.specs.{SquareClasses.{Same, class_coefficient}, Surds.{Surd, surd_of, surd_scale, surd_times}}
use Rattle.calc_algebra.proofs.{InverseLaws.{negative_times}, SquareClassLaws.{Same-Agree}}
use Rattle.calc_algebra.proofs.SurdLaws.{Agree, Agree-eq, Agree-sym, Agree-trans, Agree-Same, class_coefficient-append, class_coefficient-surd_scale, surd_times-append, Agree-surd_times_right}
use Rattle.calc_algebra.proofs.SurdLaws.{surd_times_comm, surd_times-nil, surd_times-one, surd_times_left_comm, surd_times-surd_of}
use Rattle.equation_roots.specs.{Coefficients.{worth}, Factorings.{IsPair, dense_of, less, lower, pair, upper}}

-- ---- fractions

pub negative_is : (a : Fraction) → times (negative one_fraction) a ≡ negative a
negative_is a = negative_times one_fraction a ∙ ap negative (one_times a)

pub negative_plus_self : (a : Fraction) → plus (negative a) a ≡ zero_fraction
negative_plus_self a = plus_comm (negative a) a ∙ plus_negative a

pub negative_twice : (a : Fraction) → negative (negative a) ≡ a
negative_twice a =
    sym (plus_zero (negative (negative a))) ∙ ap (plus (negative (negative a))) (sym (negative_plus_self a))
    ∙ sym (plus_assoc (negative (negative a)) (negative a) a) ∙ ap (λ x. plus x a) (negative_plus_self (negative a)) ∙ zero_plus a

quadratic : (k x v r q b : Fraction) → plus r q ≡ times (negative b) x
    → plus k (plus (times b x) v) ≡ plus (plus v (times (negative one_fraction) q)) (times (negative one_fraction) (plus r (times (negative one_fraction) k)))
quadratic k x v r q b e =
    sym (plus_assoc k (times b x) v) ∙ ap (λ y. plus y v) (plus_comm k (times b x)) ∙ plus_comm (plus (times b x) k) v
    ∙ ap (λ y. plus v (plus y k)) (sym together) ∙ ap (plus v) (plus_assoc (n q) (n r) k) ∙ sym (plus_assoc v (n q) (plus (n r) k))
    ∙ ap (plus (plus v (n q))) (sym (times_plus (negative one_fraction) r (n k) ∙ ap (plus (n r)) twice))
  where
    n : Fraction → Fraction
    n a = times (negative one_fraction) a

    twice : n (n k) ≡ k
    twice = ap n (negative_is k) ∙ negative_is (negative k) ∙ negative_twice k

    together : plus (n q) (n r) ≡ times b x
    together = sym (times_plus (negative one_fraction) q r) ∙ ap n (plus_comm q r ∙ e ∙ negative_times b x) ∙ negative_is (negative (times b x)) ∙ negative_twice (times b x)

-- ---- products at a number

pub product_right : (u v w : Surd) (s : ℕ) → class_coefficient (surd_times u (v ++ w)) s ≡ plus (class_coefficient (surd_times u v) s) (class_coefficient (surd_times u w) s)
product_right u v w s =
    (surd_times_comm u (v ++ w)).at s ∙ ap (λ x. class_coefficient x s) (surd_times-append v w u) ∙ class_coefficient-append (surd_times v u) (surd_times w u) s
    ∙ plus_both ((surd_times_comm v u).at s) ((surd_times_comm w u).at s)

pub product_left : (u v w : Surd) (s : ℕ) → class_coefficient (surd_times (u ++ v) w) s ≡ plus (class_coefficient (surd_times u w) s) (class_coefficient (surd_times v w) s)
product_left u v w s = ap (λ x. class_coefficient x s) (surd_times-append u v w) ∙ class_coefficient-append (surd_times u w) (surd_times v w) s

pub scaled_right : (u : Surd) (c : Fraction) (v : Surd) (s : ℕ) → class_coefficient (surd_times u (surd_scale c v)) s ≡ times c (class_coefficient (surd_times u v) s)
scaled_right u c v s =
    (Agree-surd_times_right u (Agree-sym (surd_times-surd_of c v))).at s ∙ (surd_times_left_comm u (surd_of c) v).at s
    ∙ (surd_times-surd_of c (surd_times u v)).at s ∙ class_coefficient-surd_scale c (surd_times u v) s

scaled_left : (u : Surd) (c : Fraction) (v : Surd) (s : ℕ) → class_coefficient (surd_times (surd_scale c u) v) s ≡ times c (class_coefficient (surd_times u v) s)
scaled_left u c v s = (surd_times_comm (surd_scale c u) v).at s ∙ scaled_right v c u s ∙ ap (times c) ((surd_times_comm v u).at s)

pub by_rational : (u : Surd) (c : Fraction) (s : ℕ) → class_coefficient (surd_times u (surd_of c)) s ≡ times c (class_coefficient u s)
by_rational u c s = (surd_times_comm u (surd_of c)).at s ∙ (surd_times-surd_of c u).at s ∙ class_coefficient-surd_scale c u s

-- ---- both sides

pub highest : (v : Surd) → Agree (surd_times v (surd_of one_fraction ++ surd_times v [])) v
highest v = Agree-trans (Agree-eq (ap (λ x. surd_times v (surd_of one_fraction ++ x)) (surd_times-nil v))) (surd_times-one v)

module _ (b c : Fraction) (v r q : Surd) (sum : Same (r ++ q) (surd_of (negative b))) (multiplied : Same (surd_times r q) (surd_of c)) where
  at_number : (s : ℕ) → class_coefficient (worth (c ∷ b ∷ one_fraction ∷ []) v) s ≡ class_coefficient (surd_times (less v r) (less v q)) s
  at_number s = left ∙ quadratic _ _ _ _ _ b vieta ∙ sym right
    where
      left : class_coefficient (worth (c ∷ b ∷ one_fraction ∷ []) v) s ≡ plus (class_coefficient (surd_of c) s) (plus (times b (class_coefficient v s)) (class_coefficient (surd_times v v) s))
      left = class_coefficient-append (surd_of c) _ s ∙ ap (plus (class_coefficient (surd_of c) s))
          (product_right v (surd_of b) _ s ∙ plus_both (by_rational v b s) ((Agree-surd_times_right v (highest v)).at s))

      vieta : plus (class_coefficient (surd_times v r) s) (class_coefficient (surd_times v q) s) ≡ times (negative b) (class_coefficient v s)
      vieta = sym (product_right v r q s) ∙ (Agree-surd_times_right v (Same-Agree sum)).at s ∙ by_rational v (negative b) s

      right : class_coefficient (surd_times (less v r) (less v q)) s ≡ plus (plus (class_coefficient (surd_times v v) s) (times (negative one_fraction) (class_coefficient (surd_times v q) s)))
          (times (negative one_fraction) (plus (class_coefficient (surd_times v r) s) (times (negative one_fraction) (class_coefficient (surd_of c) s))))
      right = product_left v _ (less v q) s ∙ plus_both
          (product_right v v _ s ∙ ap (plus (class_coefficient (surd_times v v) s)) (scaled_right v (negative one_fraction) q s))
          (scaled_left r (negative one_fraction) (less v q) s ∙ ap (times (negative one_fraction))
          (product_right r v _ s ∙ plus_both ((surd_times_comm r v).at s) (scaled_right r (negative one_fraction) q s ∙ ap (times (negative one_fraction)) ((Same-Agree multiplied).at s))))

pub linear_factors : (b c m s : Fraction) (t : ℕ) (v : Surd) → IsPair b c m s t → Same (worth (dense_of (pair b c m s t)) v) (surd_times (less v (lower m s t)) (less v (upper m s t)))
linear_factors b c m s t v h = Agree-Same (record { at = at_number b c v (lower m s t) (upper m s t) h.sum h.product })
