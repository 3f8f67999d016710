-- Where what holds the factors one by one is little, a coefficient goes into the terms of a sum without an overflow.
use Rattle.product_reduce.proofs.Shared.{◌≡◌, ◌+◌, ℕ, List, [], true, false, sym, subst, arith, append-nil, IfErr, Tree, num, add, Trees, none, more, has_undef, value, are_reduced, IsHeld, NamesPut}
use Rattle.product_reduce.proofs.Shared.{State, Overflow, Addend, IsPartHeld, OfOverflow, NumberFault, AreOthers, AreFactorsHeld, opened, others_in, IsCoefficient, SpreadingOverflows, AreFewBits}
use Rattle.product_reduce.proofs.{Shared.{IsSumHeld, IsCaused, Overflows, rational_fits}, GatheredCounts.{single_monic}, HeldFactors.{AreHeldApart}, HeldProducts.{apart, sum_addends}}
use Rattle.product_reduce.proofs.Stepped.{others_are}
use Rattle.std.proofs.Common.{Result}
use Rattle.calc_algebra.proofs.NumberClasses as numbers

none_spreads : (ts : Trees) (e : Tree) (o : Overflow) (h l : ℕ) → are_reduced ts ≡ true → has_undef ts ≡ false → AreFactorsHeld ts h l → AreFewBits h l → IsCoefficient e (opened ts)
    → SpreadingOverflows e (others_in (opened ts)) o → Overflows o → ⊥
none_spreads ts e o h l r d a few k x n = by e x.sum x.named (subst AreOthers x.alone (others_are ts r d)) (k.held s.p s.q s.numbers) (subst (λ (us : Trees). IsPartHeld us s.k s.n) x.alone s.others)
  where
    s : AreHeldApart (opened ts) h l
    s = apart ts r d a

    by : (e sum : Tree) → NamesPut e sum o → AreOthers (more sum none) → IsHeld (value e) s.p s.q → IsPartHeld (more sum none) s.k s.n → ⊥
    by (num q) (add us) m p v b =
        rational_fits q us [] (s.p + s.k) (s.q + s.n) o (single_monic (add us) p) m n
        (subst (λ (xs : List Addend). IsSumHeld xs (s.p + s.k) (s.q + s.n)) (sym (append-nil _)) (sum_addends (value (num q)) us p.no_number.0 v b))
        (omega (arith, s.high, s.low, few))
    by e sum m p v b = absurd m

-- a refusal for it is none
pub no_spreading : {A : Type 0} (r : Result A NumberFault) (new : State) (ts : Trees) (e : Tree) (h l : ℕ) → are_reduced ts ≡ true → has_undef ts ≡ false → AreFactorsHeld ts h l → AreFewBits h l
    → IsCoefficient e (opened ts) → IfErr r (OfOverflow (SpreadingOverflows e (others_in (opened ts)))) → IfErr r (IsCaused new) → IfErr r (OfOverflow (λ o. ⊥))
no_spreading r new ts e h l k d a m n s p = grind (arith, none_spreads)
