-- Numbers that are the same as a surd or as a power of one are no larger; and lists that are the same, with more terms behind.
use Rattle.calc_bits.proofs.Shared.{◌≡◌, ℕ, zero, suc, ◌+◌, ◌*◌, ◌^◌, ◌≤◌, ◌++◌, true, subst, arith, ◌∙◌, pow-suc, Rises, is_number, value, Same, Surd, surd_power, AreProper, value_proper}
use Rattle.calc_bits.proofs.Shared.{value_rises, number_words, IsNoLarger, IsNoLargerThanPower, SharesPowers, Parts, SharesDenominators, mass_from, mass, IsHeld, Tree}
use Rattle.calc_bits.proofs.{Held.{parts_power, mass_power, power_bound, low_power}, MassLaws.{mass-append}, Parts.{parts_left, mass_of_same, held_same, held_same_by_one, same_without}}

pub no_larger : (t : Tree) (v : Surd) → is_number t ≡ true → Same (value t) v → SharesDenominators v (value t) → IsNoLarger v (value t)
no_larger t v n s f = grind (arith, mass_of_same, value_proper, number_words, value_rises, held_same, held_same_by_one)

-- ---- powers

power_mass : (t : Tree) (v : Surd) (n m e : ℕ) → is_number t ≡ true → Same (value t) (surd_power v n) → SharesPowers v n (value t) → Parts e v → mass_from (m ^ n) (e ^ n) (value t) ≤ mass_from m e v ^ n
power_mass t v n m e is s f p =
    let a : mass_from (m ^ n) (e ^ n) (value t) ≤ mass_from (m ^ n) (e ^ n) (surd_power v n) = mass_of_same (m ^ n) (e ^ n) (value t) (surd_power v n) (value_proper t (number_words t is)) (value_rises t (number_words t is)) s (parts_power e v n p) (f e p) in
    let b : mass_from (m ^ n) (e ^ n) (surd_power v n) ≤ mass_from m e v ^ n = mass_power m e v n p in
    omega arith

zero_power : (n : ℕ) → 1 ≤ n → 0 ^ n ≡ 0
zero_power zero l = absurd (omega arith)
zero_power (suc n) l = pow-suc 0 n ∙ omega arith

pub no_larger_power : (t : Tree) (v : Surd) (n : ℕ) → 1 ≤ n → is_number t ≡ true → Same (value t) (surd_power v n) → SharesPowers v n (value t) → IsNoLargerThanPower v n (value t)
no_larger_power t v n l is s f = record {
  parts = f;
  mass = λ m e. power_mass t v n m e is s f;
  held = λ h k a. record {
    denominator = a.denominator ^ n;
    parts = f a.denominator a.parts;
    low = low_power a.denominator k n a.low;
    scale = a.scale ^ n;
    scaled = f a.scale a.scaled;
    high =
        let x : mass_from (a.scale ^ n) (a.scale ^ n) (value t) ≤ mass a.scale v ^ n = power_mass t v n a.scale a.scale is s f a.scaled in
        let y : mass a.scale v ^ n ≤ a.scale ^ n * 2 ^ (n * h) = power_bound (mass a.scale v) a.scale h n a.high in
        omega arith;
  };
  by_one = λ h k a. record {
    denominator = a.denominator ^ n;
    parts = f a.denominator a.parts;
    low = low_power a.denominator k n a.low;
    high =
        let x : mass_from 0 (a.denominator ^ n) (value t) ≤ mass_from 0 a.denominator v ^ n = subst (λ m. mass_from m (a.denominator ^ n) (value t) ≤ mass_from 0 a.denominator v ^ n) (zero_power n l) (power_mass t v n 0 a.denominator is s f a.parts) in
        let y : mass_from 0 a.denominator v ^ n ≤ a.denominator ^ n * 2 ^ (n * h) = power_bound (mass_from 0 a.denominator v) a.denominator h n a.high in
        omega arith;
  };
}

-- ---- with more terms behind, over the common denominators of the whole

pub held_so_far : (p v w : Surd) (h l : ℕ) → AreProper p → Rises p → Same (p ++ w) (v ++ w) → SharesDenominators (v ++ w) (p ++ w) → IsHeld (v ++ w) h l → IsHeld (p ++ w) h l
held_so_far p v w h l a r s f k = record {
  denominator = k.denominator;
  parts = f k.denominator k.parts;
  low = k.low;
  scale = k.scale;
  scaled = f k.scale k.scaled;
  high =
      let x : mass k.scale (p ++ w) ≡ mass k.scale p + mass k.scale w = mass-append k.scale k.scale p w in
      let y : mass k.scale (v ++ w) ≡ mass k.scale v + mass k.scale w = mass-append k.scale k.scale v w in
      let z : mass k.scale p ≤ mass k.scale v = mass_of_same k.scale k.scale p v a r (same_without p v w s) (parts_left k.scale v w k.scaled) (parts_left k.scale p w (f k.scale k.scaled)) in
      let t : mass k.scale (v ++ w) ≤ k.scale * 2 ^ h = k.high in
      omega arith;
}
