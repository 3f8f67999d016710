-- Numbers that are answered as they stand.
use Rattle.number_forms.proofs.Shared.{arith, ◌≡◌, ℕ, [], ◌∷◌, true, false, eqb, ◌∙◌, subst, is_number, value, is_num_one, Surd, surd_one, surd_times, Agree-sym, Agree-Same, surd_times-one}
use Rattle.number_forms.proofs.Shared.{surd_times-surd_one, Same-eq, Parts, AreWholeOver, one_not_zero, one_is, zero_test, one_times, times_comm, Fraction, one_fraction, times, Tree, is_num}
use Rattle.number_forms.proofs.Shared.{IsNumberOver, is_zero, plain, Forest, IsHanded, Ends, Gives, root_tree, without_root, gives_as, handed_at, handed_beside, represents_handed, tree-without, both}
use Rattle.number_forms.proofs.{Shared.{is_neutral, Joint, ◌∣◌}, Denominators.{shares_eq}, Rows.{nothing_more}}
use Rattle.number_forms.specs.declared.calculating.Joint.TheVariants as joint

-- ---- one is released, and another moved to the end

pub kept_last : {j : ℕ} {f g h : Forest} (i : ℕ) → eqb i j ≡ false → IsHanded j f → g ≡ without_root i f → Ends j (root_tree j g) (without_root j g) h
    → Gives (without_root j (without_root i f)) h j (λ t. t ≡ plain (root_tree j f))
kept_last i h k l m = grind (arith, tree-without, gives_as, represents_handed, handed_at, handed_beside)

-- ---- nothing is added

pub zero_value : (t : Tree) → is_zero t ≡ true → value t ≡ []
zero_value t h = grind arith

pub no_zero : (t : Tree) → is_num t ≡ false → is_zero t ≡ false
no_zero t h = grind arith

-- ---- 1 times a Number

pub one_value : (t : Tree) → is_num_one t ≡ true → value t ≡ surd_one
one_value t h = grind (arith, one_is, zero_test, one_not_zero)

whole_by_one : (d : ℕ) (v : Surd) → Parts d (surd_times v surd_one) → AreWholeOver d v
whole_by_one d [] p = tt
whole_by_one d (x ∷ v) p =
    let own : times x.coefficient one_fraction ≡ x.coefficient = times_comm x.coefficient one_fraction ∙ one_times x.coefficient in
    (subst (λ (q : Fraction). q.den ∣ d) own p.whole.0, whole_by_one d v (record { positive = p.positive; whole = p.whole.1 }))

-- ---- with a rational that leaves each Number as it is

pub neutral_with : (j : Joint) (a b t : Tree) → is_neutral j a ≡ true → is_number b ≡ true → t ≡ b → IsNumberOver (both j (value a) (value b)) t
neutral_with joint.Sum a b t h k e = grind arith
neutral_with joint.Product a b t h k e = grind (arith, one_value, surd_times-surd_one, Same-eq, shares_eq)

pub with_neutral : (j : Joint) (a b t : Tree) → is_neutral j b ≡ true → is_number a ≡ true → t ≡ a → IsNumberOver (both j (value a) (value b)) t
with_neutral joint.Sum a b t h k e = grind (arith, zero_value, nothing_more, Same-eq, shares_eq)
with_neutral joint.Product a b t h k e = grind (arith, one_value, Agree-Same, Agree-sym, surd_times-one, whole_by_one)

pub no_neutral : (j : Joint) (t : Tree) → is_num t ≡ false → is_neutral j t ≡ false
no_neutral joint.Sum t h = no_zero t h
no_neutral joint.Product t h = grind arith
