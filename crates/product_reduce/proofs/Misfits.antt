-- Which operation of a product does not fit, from the call that was refused.
use Rattle.product_reduce.proofs.Shared.{arith, ◌≡◌, ℕ, ◌&&◌, false, Ok, Err, IfErr, IsErrAnd, Permuted, permuted_none, permuted_more, permuted_swap, permuted_trans, value, product_tree}
use Rattle.product_reduce.proofs.Shared.{IsPlainOverflow, calculated, mul_op, Fraction, Tree, num, Trees, none, more, is_num, NamesPut, State, AnswersRationals, OfOverflow, NamesProduct}
use Rattle.product_reduce.proofs.{Shared.{SpreadingOverflows, Overflow, NumberFault, Full, ProductOverflows}, LastSteps.{permuted_none_is}}
use Rattle.std.proofs.Common.{Result}
use Rattle.tree_handles.specs.declared.fault.NumberFault.TheVariants as fault

-- ---- two Numbers

names_product : (a b : Tree) (o : Overflow) → ((p q : Fraction) → a ≡ num p → b ≡ num q → IsPlainOverflow (calculated mul_op p q) o)
    → ((is_num a && is_num b) ≡ false → ProductOverflows (value a) (value b) o) → NamesProduct a b o
names_product a b o h k = grind arith

pub product_named : (a b : Tree) (new : State) (r : Result ℕ NumberFault) → ((p q : Fraction) → a ≡ num p → b ≡ num q → AnswersRationals (calculated mul_op p q) new r)
    → ((is_num a && is_num b) ≡ false → IfErr r (OfOverflow (ProductOverflows (value a) (value b)))) → IfErr r (OfOverflow (NamesProduct a b))
product_named a b new (Ok x) h k = tt
product_named a b new (Err (fault.Full full)) h k = tt
product_named a b new (Err (fault.Overflow o)) h k = names_product a b o h k

-- ---- a coefficient and a sum

pub permuted_one_is : {ts us : Trees} (x : Tree) → Permuted ts us → ts ≡ more x none → us ≡ more x none
permuted_one_is x permuted_none e = cc
permuted_one_is x (permuted_more {t} {ts} {us} h) e = grind (arith, permuted_none_is)
permuted_one_is x permuted_swap e = grind arith
permuted_one_is x (permuted_trans h k) e = permuted_one_is x k (permuted_one_is x h e)

pub put_alone : (c : Tree) (ts : Trees) (o : Overflow) → NamesPut c (product_tree ts) o → SpreadingOverflows c ts o
put_alone c ts o h = grind arith

-- ---- results

-- bytes that are lacking
pub none_named : {A : Type 0} (r : Result A NumberFault) (f : Full) (P : Overflow → Type 0) → IsErrAnd r (λ e. e ≡ fault.Full f) → IfErr r (OfOverflow P)
none_named r f P h = grind arith
