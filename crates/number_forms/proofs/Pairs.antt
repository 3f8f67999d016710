-- Two trees that were made one after the other.
use Rattle.number_forms.proofs.Shared.{◌≡◌, ℕ, [], ◌∷◌, more, none, eqb, true, false, ap, ◌∙◌, Fraction, is_number, is_term, Tree, num, number_test, term_words, other_plain, plain, Forest, IsHanded}
use Rattle.number_forms.proofs.Shared.{Gives, root_tree, without_root, given_handed, given_root, given_told, given_other, given_apart, given_rest, given_without, eqb-sym, front_after, front_after_two}
use Rattle.number_forms.proofs.{Shared.{front_same, behind_new, KeepsFront, IsNumberOf, Surd, IfOk, Result}, TermTrees.{if_given}}

pub first_handed : {f g h : Forest} {a b : ℕ} {P Q : Tree → Type 0} → Gives f g a P → Gives g h b Q → IsHanded a h
first_handed x y = given_other y (given_handed x)

pub pair_apart : {f g h : Forest} {P Q : Tree → Type 0} (a b : ℕ) → Gives f g a P → Gives g h b Q → eqb a b ≡ false
pair_apart a b x y = eqb-sym b a (given_apart y (given_handed x))

pub first_told : {f g h : Forest} {a b : ℕ} {P Q : Tree → Type 0} → Gives f g a P → Gives g h b Q → is_number (plain (root_tree a h)) ≡ is_number (plain (root_tree a g))
first_told {a = a} x y = ap is_number (other_plain a y (given_root x))

pub pair_rest : {f g h : Forest} {a b : ℕ} {P Q : Tree → Type 0} → Gives f g a P → Gives g h b Q → without_root b (without_root a h) ≡ f
pair_rest x y = given_without y (given_handed x) ∙ given_rest x

-- what a node over them stands over
pub pair_trees : {f g h : Forest} {x y : Tree} (a b : ℕ) → Gives f g a (λ t. t ≡ x) → Gives g h b (λ t. t ≡ y)
    → more (plain (root_tree a h)) (more (plain (root_tree b h)) none) ≡ more x (more y none)
pair_trees a b p q = λ i. more ((other_plain a q (given_root p) ∙ given_told p) i) (more (given_told q i) none)

pub pair_front : {f g h n : Forest} {a b : ℕ} {P Q : Tree → Type 0} → Gives f g a P → Gives g h b Q → KeepsFront [] f g → KeepsFront [] g h → KeepsFront (a ∷ b ∷ []) h n → KeepsFront [] f n
pair_front p q k l m = front_after_two (behind_new p.ends front_same) (behind_new q.ends k) (front_after k l) m

pub rational_test : (t : Tree) (q : Fraction) → t ≡ num q → is_number t ≡ true
rational_test t q e = ap is_number e ∙ number_test (num q) tt

-- ---- Numbers that were made one after the other

pub number_made : {f g : Forest} {a : ℕ} → Gives f g a (λ t. is_number t ≡ true) → is_number (plain (root_tree a g)) ≡ true
number_made x = given_told x

pub number_of_made : {f g : Forest} {a : ℕ} (v : Surd) → Gives f g a (IsNumberOf v) → is_number (plain (root_tree a g)) ≡ true
number_of_made v x = (given_told x).number

pub first_number : {f g h : Forest} {a b : ℕ} {Q : Tree → Type 0} → Gives f g a (λ t. is_number t ≡ true) → Gives g h b Q → is_number (plain (root_tree a h)) ≡ true
first_number x y = first_told x y ∙ number_made x

-- what is given is a Number
pub number_given : {E : Type 0} (r : Result ℕ E) (v : Surd) (f g h : Forest) → IfOk r (λ i. Gives f g i (IsNumberOf v)) → f ≡ h → IfOk r (λ i. Gives h g i (λ t. is_number t ≡ true))
number_given r v f g h e q = if_given f g h (IsNumberOf v) (λ t. is_number t ≡ true) r e q (λ t k. k.number)

-- what calls on such Numbers ask for, and what they give
pub ruleset made = (given_handed, given_rest, number_made, number_of_made, pair_apart, pair_rest, first_number, number_given)
