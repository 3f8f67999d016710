-- Two trees taken from a node, or made, and put under a new one.
use Rattle.deep_reduce.proofs.Shared.{rules, ◌≡◌, ℕ, eqb, false, [], ◌∷◌, ap, ◌∙◌, ◌+◌, arith, Tree, Trees, Kind, GivesSides, behind_first, behind_later, behind_new, front_same, front_at, front_end}
use Rattle.deep_reduce.proofs.Shared.{front_without, front_after_one, front_after_two, given_handed, given_told, given_rest, given_same, given_apart, given_without, handed_at, eqb-sym, nth, plain}
use Rattle.deep_reduce.proofs.Shared.{compound, Forest, IsHanded, Gives, KeepsFront, root_tree, without_root, size, bytes_in, bytes_in-join, size-plain, last_tree, State, Stands, forest}
use Rattle.deep_reduce.proofs.{Shared.{KeepsRefusals, free_of, tree_of, used_forest, handed_bytes}, Steps.{two}}
use Rattle.tree_handles.proofs.FreeBytes.{last_bytes as given_bytes}

-- ---- a new tree and one that was handed

-- beside the new tree the other is as it was
pub beside_new : {i : ℕ} {f g : Forest} {Told : Tree → Type 0} (j : ℕ) → Gives f g i Told → IsHanded j f → plain (root_tree j g) ≡ plain (root_tree j f)
beside_new j g h = ap plain (given_same j g h.root)

pub record IsPaired (k : Kind) (p : ℕ) (t u : Tree) (others new : Forest) : Type 0 where
  pub handed : IsHanded p new
  pub tree : plain (root_tree p new) ≡ compound k (two t u)
  pub rest : without_root p new ≡ others

-- the new tree comes first
pub new_first : {f g h : Forest} {i j p : ℕ} {t : Tree} {k : Kind} → Gives f g i (λ u. u ≡ t) → IsHanded j f
    → Gives (without_root j (without_root i g)) h p (λ u. u ≡ compound k (two (plain (root_tree i g)) (plain (root_tree j g))))
    → IsPaired k p t (plain (root_tree j f)) (without_root j f) h
new_first {j = j} {k = k} n o g = record {
  handed = given_handed g;
  tree = given_told g ∙ (λ x. compound k (two (given_told n x) (beside_new j n o x)));
  rest = given_rest g ∙ ap (without_root j) (given_rest n);
}

-- the new tree comes second
pub new_second : {f g h : Forest} {i j p : ℕ} {t : Tree} {k : Kind} → Gives f g i (λ u. u ≡ t) → IsHanded j f
    → Gives (without_root i (without_root j g)) h p (λ u. u ≡ compound k (two (plain (root_tree j g)) (plain (root_tree i g))))
    → IsPaired k p (plain (root_tree j f)) t (without_root j f) h
new_second {j = j} {k = k} n o g = record {
  handed = given_handed g;
  tree = given_told g ∙ (λ x. compound k (two (beside_new j n o x) (given_told n x)));
  rest = given_rest g ∙ given_without n o;
}

pub apart_second : {f g : Forest} {i j : ℕ} {Told : Tree → Type 0} → Gives f g i Told → IsHanded j f → eqb j i ≡ false
apart_second {i = i} {j = j} n o = eqb-sym i j (given_apart n o)

-- ---- two sides, the right of which was rewritten

-- the left behind what is made of the right
pub record IsBeside (ts : Trees) (left made : ℕ) (others new : Forest) : Type 0 where
  pub handed : IsHanded left (without_root made new)
  pub tree : plain (root_tree left new) ≡ nth 0 ts
  pub rest : without_root made (without_root left new) ≡ others

pub left_beside : {ts : Trees} {others f g : Forest} {left right made : ℕ} {Told : Tree → Type 0} → GivesSides ts others f left right → Gives (without_root right f) g made Told
    → IsBeside ts left made others g
left_beside {left = left} s m =
    let rest = given_rest s.right-given in
    let there = handed_at (given_handed s.left-given) rest in
    record {
      handed = handed_at there (given_rest m);
      tree = beside_new left m there ∙ ap (λ (x : Forest). plain (root_tree left x)) rest ∙ given_told s.left-given;
      rest = given_without m there ∙ ap (without_root left) rest ∙ given_rest s.left-given;
    }

-- ---- what stood first

-- once the right was rewritten
pub rewritten_front : {ts : Trees} {old f g : Forest} {i left right : ℕ} → GivesSides ts (without_root i old) f left right → KeepsFront (right ∷ []) f g → KeepsFront (i ∷ []) old g
rewritten_front s k = search (rules, behind_first, behind_new, front_same, front_end, front_without, front_after_one)

-- and both were put under a new node
pub paired_front : {ts : Trees} {old f g h : Forest} {i left right made : ℕ} {Told : Tree → Type 0} → GivesSides ts (without_root i old) f left right → KeepsFront (right ∷ []) f g
    → Gives (without_root right f) g made Told
    → KeepsFront (left ∷ made ∷ []) g h → KeepsFront (i ∷ []) old h
paired_front s k m l = search (rules, behind_first, behind_new, front_same, front_at, front_end, front_without, front_after_two, given_rest, rewritten_front)

-- and the new node was reduced
pub reduced_front : {old h end : Forest} {i p : ℕ} {Told : Tree → Type 0} {others : Forest} → KeepsFront (i ∷ []) old h → Gives others h p Told → others ≡ without_root i old
    → KeepsFront (p ∷ []) h end → KeepsFront (i ∷ []) old end
reduced_front k g e l = front_after_one (behind_new g.ends (front_at (front_without behind_first front_same) e)) k l

-- ---- a left side and the last tree

without_both : {f : Forest} {left made : ℕ} → KeepsFront (left ∷ made ∷ []) f (without_root made (without_root left f))
without_both = front_without (behind_later behind_first) (front_without behind_first front_same)

-- both were put under a new node, which was reduced
pub joined_front : {f h end : Forest} {left made p : ℕ} {Told : Tree → Type 0} → KeepsFront (left ∷ made ∷ []) f h → Gives (without_root made (without_root left f)) h p Told
    → KeepsFront (p ∷ []) h end → KeepsFront (left ∷ made ∷ []) f end
joined_front k g l = front_after_one (behind_new g.ends without_both) k l

-- ---- bytes

-- both sides stand by themselves
pub sides_free : {s t : State} {i h j : ℕ} {ts : Trees} → Stands s → Stands t → KeepsRefusals s t → IsHanded i (forest s) → GivesSides ts (without_root i (forest s)) (forest t) h j
    → free_of t + size (nth 0 ts) + size (nth 1 ts) ≡ free_of s + size (tree_of i s)
sides_free {s = s} {t = t} {i = i} st su k h g =
    omega (
      arith,
      used_forest s st,
      used_forest t su,
      k.size,
      st.pool.fits,
      su.pool.fits,
      handed_bytes i (forest s) h,
      given_bytes g.left-given,
      given_bytes g.right-given,
      ap size (given_told g.left-given),
      ap size (given_told g.right-given),
    )
