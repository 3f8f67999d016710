-- The factors of a product are raised to an exponent, one by one.
use Rattle.power_reduce.proofs.Shared.{◌≡◌, ℕ, ◌+◌, ◌<◌, [], ◌∷◌, eqb, refl, sym, ap, ◌∙◌, subst, arith, false, Tree, mult, power, Trees, none, more, count, raised, plain, children_of}
use Rattle.power_reduce.proofs.Shared.{compound, nth, Forest, Gives, KeepsFront, root_tree, without_root, given_rest, given_same, given_told, behind_first, behind_later, front_after_one, front_same}
use Rattle.power_reduce.proofs.Shared.{front_without, tree-without, ChangesTree, IsHole, changes_as, changes_beside, changes_front, changes_same, eqb-sym, hole_beside, hole_stays, mapped, set_child}
use Rattle.power_reduce.proofs.Shared.{IsAsBefore, Place, IsPart, part_all, part_next, part_nth}
use Rattle.calc_terms.specs.declared.kind.Kind.TheVariants as kind

abbrev pub to_power : Tree → Tree → Tree
to_power e t = power t e

raised_mapped : (e : Tree) (ts : Trees) → mapped (to_power e) ts ≡ raised ts e
raised_mapped e none = refl
raised_mapped e (more t ts) = ap (more (power t e)) (raised_mapped e ts)

-- ---- one factor

-- the power is over both
pub power_told : {j h k : ℕ} {t : Tree} {old mid others new : Forest} → IsAsBefore j h old mid → plain (root_tree h mid) ≡ t → Gives others new k (λ u. u ≡ compound kind.Pow (more (plain (root_tree h mid)) (more (plain (root_tree j mid)) none))) → plain (root_tree k new) ≡ power t (plain (root_tree j old))
power_told b e two = given_told two ∙ (λ x. power (e x) (b.same x))

-- and fills the hole beside which the exponent stood
pub hole_of_power : {p : Place} {i n k : ℕ} {old others new : Forest} {Told : Tree → Type 0} (j : ℕ) → IsHole p i n old others → eqb i j ≡ false → Gives (without_root j others) new k Told → IsHole p i n (without_root j old) (without_root k new)
hole_of_power j h d two = hole_stays two (hole_beside j d h)

pub raised_one : {i : ℕ} {u v : Tree} {new : Forest} (j n : ℕ) (old : Forest) → eqb i j ≡ false → ChangesTree i (set_child n u (plain (root_tree i (without_root j old)))) (without_root j old) new → u ≡ v → ChangesTree i (set_child n v (plain (root_tree i old))) (without_root j old) new
raised_one {i = i} j n old d a e = changes_as a (λ x. set_child n (e x) (plain (tree-without j i old (eqb-sym i j d) x)))

pub raised_front : {i j : ℕ} {t : Tree} {old new : Forest} → ChangesTree i t (without_root j old) new → KeepsFront (i ∷ j ∷ []) old new
raised_front a = front_after_one behind_first (front_without (behind_later behind_first) front_same) (changes_front a)

-- ---- factor by factor

-- the product, where one more tree stands behind it
pub product_behind : {e : Tree} {i n c : ℕ} {ts : Trees} {f now g : Forest} {Told : Tree → Type 0} → IsPart mult (to_power e) i n ts f now → Gives now g c Told → plain (root_tree i g) ≡ plain (root_tree i now)
product_behind {i = i} p g = ap plain (given_same i g p.now.handed.root)

-- one more is raised, to a copy of the exponent
pub next_raised : {e x : Tree} {i n c : ℕ} {ts : Trees} {f now g new : Forest} → IsPart mult (to_power e) i n ts f now → Gives now g c (λ u. u ≡ x) → x ≡ e → n < count ts
    → ChangesTree i (set_child n (power (nth n (children_of (plain (root_tree i g)))) (plain (root_tree c g))) (plain (root_tree i g))) (without_root c g) new → IsPart mult (to_power e) i (n + 1) ts f new
next_raised {e = e} {i = i} {n = n} {now = now} {new = new} p k w l r =
    let same = product_behind p k in
    let Raised : Forest → Type 0 = λ (y : Forest). ChangesTree i (set_child n (power (nth n (children_of (plain (root_tree i now)))) e) (plain (root_tree i now))) y new in
    part_next p (subst Raised (given_rest k) (changes_as r (λ x. set_child n (power (nth n (children_of (same x))) ((given_told k ∙ w) x)) (same x)))) (ap (to_power e) (part_nth p)) l

-- the last one, to the exponent itself
pub all_raised : {e : Tree} {i n : ℕ} {ts : Trees} {f now new : Forest} (j m : ℕ) → IsPart mult (to_power e) i n ts f now → eqb i j ≡ false → plain (root_tree j f) ≡ e → m ≡ n → m + 1 ≡ count ts
    → ChangesTree i (set_child m (power (nth m (children_of (plain (root_tree i now)))) (plain (root_tree j now))) (plain (root_tree i now))) (without_root j now) new → ChangesTree i (mult (raised ts e)) (without_root j f) new
all_raised {e = e} {i = i} {ts = ts} {f = f} {now = now} j m p d w q l r =
    let at : IsPart mult (to_power e) i m ts f now = subst (λ (x : ℕ). IsPart mult (to_power e) i x ts f now) (sym q) p in
    let part : IsPart mult (to_power e) i m ts (without_root j f) (without_root j now) = record { row = at.row; now = changes_beside j d at.now } in
    let same = ap plain (sym (tree-without j i now (eqb-sym i j d))) in
    let own = ap plain (changes_same j p.now d) ∙ w in
    let b = changes_as r (λ x. set_child m (power (nth m (children_of (same x))) (own x)) (same x)) in
    changes_as (part_all (part_next part b (ap (to_power e) (part_nth part)) (omega (arith, l))) (omega (arith, l))) (ap mult (raised_mapped e ts))
