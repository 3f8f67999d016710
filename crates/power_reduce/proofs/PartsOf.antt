-- The parts of a product: its coefficient, where it is not 1, before its factors.
use Rattle.power_reduce.proofs.Shared.{◌≡◌, ℕ, ◌≤◌, true, false, Some, refl, sym, ap, ◌∙◌, subst, arith, is_number, is_reduced, is_num_one, split_product, Tree, mult, Trees, more, count, is_mult}
use Rattle.power_reduce.proofs.Shared.{GivesTwo, seen, State, goes_inside, parts_of, raised, rewritten, plain, children_of, Forest, IsHanded, Gives, tree_at, root_tree, Stands, forest, given_handed}
use Rattle.power_reduce.proofs.Shared.{given_other, given_root, given_same, given_told, some_factors}

-- with a coefficient 1, and with another
pub led_by_one : (ts : Trees) → is_num_one (split_product ts).coefficient ≡ true → parts_of ts ≡ (split_product ts).factors
led_by_one ts h = rw h refl

pub led_by_other : (ts : Trees) → is_num_one (split_product ts).coefficient ≡ false → parts_of ts ≡ more (split_product ts).coefficient (split_product ts).factors
led_by_other ts h = rw h refl

-- ---- two trees that were given

pub first_handed : {others : Forest} {i j : ℕ} {t u : Tree} (f : Forest) → GivesTwo others f i j (λ x. x ≡ t) (λ x. x ≡ u) → IsHanded i f
first_handed f g = given_other g.second-given (given_handed g.first-given)

pub first_tree : {others : Forest} {i j : ℕ} {t u : Tree} (f : Forest) → GivesTwo others f i j (λ x. x ≡ t) (λ x. x ≡ u) → plain (root_tree i f) ≡ t
first_tree {i = i} f g = ap plain (given_same i g.second-given (given_root g.first-given)) ∙ given_told g.first-given

-- as it is read
pub first_seen : {others : Forest} {i j k : ℕ} {t u : Tree} (s : State) → k ≡ i → Stands s → GivesTwo others (forest s) i j (λ x. x ≡ t) (λ x. x ≡ u) → plain (tree_at k (forest s)) ≡ t
first_seen s e st g = seen e st (first_handed (forest s) g) ∙ first_tree (forest s) g

pub gives_at : {others f new : Forest} {i : ℕ} {P : Tree → Type 0} → Gives others f i P → new ≡ f → Gives others new i P
gives_at {others = others} {i = i} {P = P} g e = subst (λ (x : Forest). Gives others x i P) (sym e) g

-- ---- there are parts

many_parts : (ts : Trees) → 1 ≤ count (split_product ts).factors → 1 ≤ count (parts_of ts)
many_parts ts h = grind arith

pub some_parts : (t : Tree) → is_mult t ≡ true → is_reduced t ≡ true → is_number t ≡ false → 1 ≤ count (parts_of (children_of t))
some_parts t m h n = many_parts (children_of t) (some_factors t m h n)

pub powers_as : (b e t u x a : Tree) → is_mult b ≡ true → is_number b ≡ false → goes_inside e ≡ true → t ≡ mult (raised (children_of u) x) → u ≡ mult (parts_of (children_of a)) → a ≡ b → x ≡ e → rewritten b e ≡ Some t
powers_as b e t u x a m n i h p q r = grind arith
