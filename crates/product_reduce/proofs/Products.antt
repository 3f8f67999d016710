-- Roots that are products.
use Rattle.product_reduce.proofs.Shared.{ℕ, ◌<◌, ◌≡◌, eqb, true, false, refl, ap, ◌∙◌, subst, arith, removed, mult, Trees, count, is_mult, IsOver, over_product, over_put, over_handed, over_plain}
use Rattle.product_reduce.proofs.Shared.{without_put, once_count, nth, plain, inserted, children_of, IsExpression, Forest, arity, kids, root_count, tree_nth, merged_nth, Represents, root_tree}
use Rattle.product_reduce.proofs.Shared.{without_root, put, all-tree_nth, arity-tree_nth, behind_first, front_same, front_put, front_at, front_after_one, handed_at, handed_beside, holds, tree_at}
use Rattle.product_reduce.proofs.Shared.{kids_of, Stands, forest, State, kids_of_root, plain_root, expression_root, root_held, tree-without, represents_merged, factors_in, IsProduct, Becomes}
use Rattle.product_reduce.proofs.Shared.{represents_count}
use Rattle.calc_terms.specs.declared.kind.Kind.TheVariants as kind

-- ---- a root with other children

pub product_over : {i : ℕ} {f : Forest} {ts : Trees} → IsProduct i f ts → IsOver kind.Mult i ts f
product_over {i = i} {f = f} h = subst (λ (us : Trees). IsOver kind.Mult i us f) (ap children_of h.tree) (over_product h.handed (ap is_mult h.tree))

pub product_kids : {i : ℕ} {f : Forest} {ts : Trees} → IsProduct i f ts → Represents (kids (root_tree i f)) ts
product_kids h = (product_over h).kids

product_put : {i : ℕ} {f n : Forest} {ts us : Trees} → IsProduct i f ts → Represents n us → IsProduct i (put i n f) us
product_put {n = n} h r = let o = over_put n (product_over h) r in record { handed = over_handed o refl; tree = over_plain o refl }

pub product_at : {i : ℕ} {f g : Forest} {ts us : Trees} → IsProduct i f ts → g ≡ f → ts ≡ us → IsProduct i g us
product_at {i = i} h e q = record { handed = handed_at h.handed e; tree = ap (λ (x : Forest). plain (root_tree i x)) e ∙ h.tree ∙ ap mult q }

pub becomes_put : {i : ℕ} {f g n : Forest} {ts us : Trees} → IsProduct i f ts → Represents n us → g ≡ put i n f → Becomes i f g us
becomes_put {i = i} {f = f} {n = n} h r e = record {
  product = product_at (product_put h r) e refl;
  others = ap (without_root i) e ∙ without_put i n f;
  front = front_at (front_put n behind_first front_same) e;
}

pub product_arity : {i : ℕ} {f : Forest} {ts : Trees} → IsProduct i f ts → arity (kids (root_tree i f)) ≡ count ts
product_arity h = represents_count (product_kids h)

pub factors_are : {i : ℕ} {f : Forest} {ts : Trees} → IsProduct i f ts → factors_in i f ≡ ts
factors_are h = ap children_of h.tree

-- ---- change after change

pub becomes_after : {i : ℕ} {f g h : Forest} {ts us : Trees} → Becomes i f g ts → Becomes i g h us → Becomes i f h us
becomes_after a b = record { product = b.product; others = b.others ∙ a.others; front = front_after_one behind_first a.front b.front }

-- ---- what the readers see of it

pub product_within : {i : ℕ} {s : State} {ts : Trees} (n : ℕ) → Stands s → IsProduct i (forest s) ts → n < count ts → n < arity (kids_of i (forest s))
product_within {i =
    i} {s = s} n st h l = let a = product_arity h in let k : arity (kids_of i (forest s)) ≡ arity (kids (root_tree i (forest s))) = ap arity (kids_of_root i st h.handed.root) in omega (arith, a, k)

pub product_live : {i : ℕ} {f : Forest} {ts : Trees} → IsProduct i f ts → holds i f ≡ true
product_live {i = i} {f = f} h = root_held i f h.handed.root

pub product_expression : {i : ℕ} {s : State} {ts : Trees} → Stands s → IsProduct i (forest s) ts → IsExpression i (forest s)
product_expression st h = expression_root st h.handed

pub product_children : {i : ℕ} {s : State} {ts : Trees} → Stands s → IsProduct i (forest s) ts → children_of (plain (tree_at i (forest s))) ≡ ts
product_children {i = i} st h = ap children_of (plain_root i st h.handed.root ∙ h.tree)

-- the parts of a product are held once
pub product_once : {i : ℕ} {s : State} {ts : Trees} (n : ℕ) → Stands s → IsProduct i (forest s) ts → n < count ts → root_count (tree_nth n (kids_of i (forest s))) ≡ 1
product_once n h k l = grind (arith, kids_of_root, once_count, arity-tree_nth, product_arity, all-tree_nth)

pub becomes_merged : {i : ℕ} {f g : Forest} {ts : Trees} (n : ℕ) → IsProduct i f ts → n < count ts → g ≡ put i (merged_nth n (kids (root_tree i f))) f
    → Becomes i f g (inserted n (children_of (nth n ts)) (removed n ts))
becomes_merged n h l e = becomes_put h (represents_merged n (rw (product_arity h) l) (product_kids h)) e

pub becomes_as : {i : ℕ} {f g : Forest} {ts us : Trees} → Becomes i f g ts → ts ≡ us → Becomes i f g us
becomes_as b e = record { product = product_at b.product refl e; others = b.others; front = b.front }

-- beside a root that goes
pub product_beside : {i : ℕ} {f : Forest} {ts : Trees} (j : ℕ) → eqb j i ≡ false → IsProduct i f ts → IsProduct i (without_root j f) ts
product_beside {i = i} {f = f} j d h = record { handed = handed_beside j d h.handed; tree = ap plain (tree-without j i f d) ∙ h.tree }

pub becomes_at : {i : ℕ} {f g : Forest} {ts : Trees} → IsProduct i f ts → g ≡ f → Becomes i f g ts
becomes_at {i = i} h e = record { product = product_at h e refl; others = ap (without_root i) e; front = front_at front_same e }
