-- The root of a rational, as the Number that it is.
use Rattle.radical_forms.proofs.Shared.{◌≡◌, ℕ, suc, ◌*◌, ◌≤◌, zero, ℤ, pos, negsuc, Bool, true, false, [], ◌∷◌, refl, ap, ◌∙◌, arith, Same-times_zero, Same-sym, number_zero, number_short}
use Rattle.radical_forms.proofs.Shared.{number_words, number_value, root_squared, root_zero, surd_of_zero, zero_surd_of, Same-trans, Same-refl, Same-eq, IsRootOf, IsRoot, IsNumber, value, classes}
use Rattle.radical_forms.proofs.Shared.{Same, Surd, term, surd_of, zero_is, whole_numerator, Fraction, lowest, zero_fraction, is_zero_fraction, int_is_negative, int_is_zero, Tree, num, IsRootAnswer}
use Rattle.calc_terms.proofs.SmallLaws.{zero_is_zero as zero_test}
use Rattle.std.proofs.Common.{if◌then◌else◌, length}

root_value : (z : ℤ) (d : ℕ) → int_is_negative z ≡ false → (v : Surd) × IsRootOf z d v × (length v ≤ 2)
root_value (pos zero) d h = ([], Same-refl [], omega arith)
root_value (pos (suc p)) d h = (term (lowest (pos 1) d) (suc p * d) ∷ [], Same-refl (term (lowest (pos 1) d) (suc p * d) ∷ []), omega arith)
root_value (negsuc p) d h = cc

-- what is known of the Number that it is
pub record IsOfRoot (p : Fraction) (r : Tree) : Type 0 where
  pub few : classes r ≤ 2
  pub zero_of_zero : is_zero_fraction p ≡ true → r ≡ num zero_fraction
  pub zero_only : r ≡ num zero_fraction → is_zero_fraction p ≡ true

zero_value : value (num zero_fraction) ≡ []
zero_value = ap (λ (b : Bool). if b then [] else surd_of zero_fraction) zero_test

pub of_root : (p : Fraction) (r : Tree) → int_is_negative p.num ≡ false → IsRootAnswer (num p) r → IsNumber r → IsOfRoot p r
of_root p r n a h =
    let (v, o, l) = root_value p.num p.den n in
    let root_of : IsRoot (surd_of p) v = (p, Same-refl (surd_of p), o) in
    let same : Same v (value r) = number_value [] tt r v h (a.reduces.meanings.means [] tt v (surd_of p, Same-refl (surd_of p), root_of)) in record {
      few = number_short r v h (Same-sym same) l;
      zero_of_zero = λ z. number_zero r h (Same-trans (Same-sym same) (root_zero (surd_of p) v root_of (zero_surd_of p (zero_is p z))));
      zero_only = λ e.
          let none : Same v [] = Same-trans same (Same-eq (ap value e ∙ zero_value)) in
          ap is_zero_fraction (surd_of_zero p (Same-trans (Same-sym (root_squared (surd_of p) v root_of)) (Same-times_zero v v none))) ∙ zero_test;
    }

pub root_of_zero : (p : Fraction) (r : Tree) → int_is_negative p.num ≡ false → IsRootAnswer (num p) r → is_zero_fraction p ≡ true → r ≡ num zero_fraction
root_of_zero p r n a z = (of_root p r n a (number_words r (a.number refl n))).zero_of_zero z
