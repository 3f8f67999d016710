-- What spans the root of a reduced tree spans what it reduces to.
use Rattle.radical_forms.proofs.Shared.{◌≡◌, ◌*◌, ◌<◌, ℕ, ℤ, pos, ◌<ℤ◌, List, [], ◌∷◌, false, sym, subst, arith, IfOk, Fraction, mul_pos, den_pos, Tree, num, root, natural_of, number_words}
use Rattle.radical_forms.proofs.Shared.{undef_words, SpansTree, root_spanned, spanned_itself, State, has_no_root, IsRootAnswer, Forest, tree_of, Gives, forest, NumberFault, given_told}
use Rattle.std.proofs.Common.{Result}

with_root : (gs : List ℕ) (a t : Tree) → IsRootAnswer a t → has_no_root a ≡ false → SpansTree gs (root a) → SpansTree gs t
with_root gs a t h e s = grind (arith, root_spanned, number_words)

answer_spanned : (gs : List ℕ) (a t : Tree) → IsRootAnswer a t → SpansTree gs (root a) → SpansTree gs t
answer_spanned gs a t h s = grind (arith, undef_words, with_root)

pub spans_answer : (gs : List ℕ) (a u : Tree) (r : Result ℕ NumberFault) (g : Forest) (s : State) → IfOk r (λ h. Gives g (forest s) h (IsRootAnswer a)) → u ≡ root a → SpansTree gs u
    → IfOk r (λ h. SpansTree gs (tree_of h s))
spans_answer gs a u r g s e q l = grind (arith, answer_spanned, given_told)

-- p * q spans the root of p/q
above_zero : (z : ℤ) → pos 0 <ℤ z → 0 < natural_of z
above_zero z h = grind arith

pub spans_root_of : (q : Fraction) (a : Tree) → a ≡ num q → pos 0 <ℤ q.num → SpansTree (natural_of q.num * q.den ∷ []) (root a)
spans_root_of q a e h =
    let alone : SpansTree (natural_of q.num * q.den ∷ []) (root (num q)) = (spanned_itself (natural_of q.num * q.den) (mul_pos (natural_of q.num) q.den (above_zero q.num h) (den_pos q)), tt) in
    subst (λ (t : Tree). SpansTree (natural_of q.num * q.den ∷ []) (root t)) (sym e) alone
