-- Rationals that a pool holds as roots fit.
use Rattle.reduce_walk.proofs.Shared.{◌≡◌, ℕ, true, refl, arith, eqb, cond, subst, fraction_fits, Fraction, IsPayload, num, AreNodes-right, AreNodes, State, parts_themselves, parts_fit, by_test}
use Rattle.reduce_walk.proofs.Shared.{plain, Forest, empty, tree, flatten, root_payload, tree_of, has_root, root_tree, Stands, forest}

-- what a root holds is valid
valid_root : (i : ℕ) (f : Forest) → AreNodes (flatten f) → has_root i f ≡ true → IsPayload (root_payload (root_tree i f))
valid_root i empty h r = cc
valid_root i (tree l k f) h r =
    by_test (λ t. eqb l.id i ≡ t → cond t true (has_root i f) ≡ true → IsPayload (root_payload (cond t (tree l k empty) (root_tree i f)))) (eqb l.id i) (λ e q s. h.0.payload)
    (λ e q s. valid_root i f (AreNodes-right (flatten k) (flatten f) h.1) s) refl r

tree_fits : (q : Fraction) (t : Forest) → IsPayload (root_payload t) → plain t ≡ num q → fraction_fits q ≡ true
tree_fits q t h k = grind (arith, parts_fit, parts_themselves)

-- a rational that a pool holds as a root
pub root_fits : (i : ℕ) (s : State) (q : Fraction) → Stands s → has_root i (forest s) ≡ true → tree_of i s ≡ num q → fraction_fits q ≡ true
root_fits i s q st h e = tree_fits q (root_tree i (forest s)) (valid_root i (forest s) (subst AreNodes st.flat st.pool.nodes) h) e
