-- From the handed product to its other factors, and from one answer to another.
use Rattle.product_reduce.proofs.Shared.{arith, ℕ, ◌≡◌, true, false, refl, ap, ◌∙◌, IfOk, Tree, mult, Trees, none, more, is_mult, has_undef, are_rationals, are_reduced, NumberFault, plain}
use Rattle.product_reduce.proofs.Shared.{children_of, Forest, IsHanded, root_tree, Joining, AreOthers, IfFinished, IfJoined, opened, others_in, IsProduct, factors_in, AllPartsOf, HasForm}
use Rattle.product_reduce.proofs.{Shared.{parts_defined, formed_reduced, reduced_formed}, Finished.{opened_rationals, rationals_alone}, Forms.{others_no_numbers, others_none, opened_flat}}
use Rattle.product_reduce.proofs.Forms.{opened_parts, others_parts}
use Rattle.tree_handles.proofs.SmallLaws.{mult_is as mult_words}
use Rattle.std.proofs.Common.{Result}

-- ---- the handed product

pub handed_product : {i : ℕ} {f : Forest} → IsHanded i f → is_mult (plain (root_tree i f)) ≡ true → IsProduct i f (factors_in i f)
handed_product {i = i} {f = f} h m = record { handed = h; tree = mult_words (plain (root_tree i f)) m }

-- ---- the other factors

formed_defined : (ts : Trees) → AllPartsOf HasForm ts → has_undef ts ≡ false
formed_defined none h = refl
formed_defined (more t ts) h = rw (parts_defined t h.0, formed_defined ts h.1) refl

pub others_are : (ts : Trees) → are_reduced ts ≡ true → has_undef ts ≡ false → AreOthers (others_in (opened ts))
others_are ts r d =
    let f = reduced_formed ts r d in
    let g = others_parts HasForm (opened ts) (opened_parts HasForm ts f) in
    record {
      reduced = formed_reduced _ g;
      defined = formed_defined _ g;
      no_number = others_no_numbers (opened ts);
      no_product = others_none is_mult (opened ts) (opened_flat ts f);
    }

-- the opened rationals are the rationals
pub opened_value : (ts us : Trees) → are_rationals ts ≡ true → us ≡ opened ts → us ≡ ts
opened_value ts us r e = e ∙ opened_rationals ts r

pub none_beside : (ts : Trees) → are_rationals ts ≡ true → others_in (opened ts) ≡ none
none_beside ts r = ap others_in (opened_rationals ts r) ∙ rationals_alone ts r

-- ---- what is made of the product, in other words

pub finished_map : {P Q : ℕ → Type 0} (r : Result Joining NumberFault) → IfOk r (λ s. IfFinished s P) → ((h : ℕ) → P h → Q h) → IfOk r (λ s. IfFinished s Q)
finished_map r p f = grind arith

pub joined_map : {P Q : ℕ → ℕ → Type 0} (r : Result Joining NumberFault) → IfOk r (λ s. IfJoined s P) → ((h at : ℕ) → P h at → Q h at) → IfOk r (λ s. IfJoined s Q)
joined_map r p f = grind arith
