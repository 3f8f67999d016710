-- Steps of calls on a root that is a product or a sum: a child is taken out, put in, and the root goes last.
pub use Rattle.calc_terms.proofs.SmallFractions.{one_value}
use Rattle.coefficients.proofs.Shared.{◌≡◌, ℕ, ◌≤◌, ◌∷◌, refl, sym, ap, ◌∙◌, subst, arith, true, [], pos, product_tree, is_reduced, num_one, Tree, num, mult, root, Trees, none, more, count, is_mult}
use Rattle.coefficients.proofs.Shared.{size, State, tree_of, IsHanded, Represents, Ends, Gives, KeepsFront, plain, children_of, Forest, kids, tree_nth, without_nth, tree_at, root_tree, without_root}
use Rattle.coefficients.proofs.Shared.{put, Stands, forest, behind_first, front_same, front_end, front_put, gives_as, given_told, given_root, ends_as, ends_at, ends_without, put-put, Rat, Fraction}
use Rattle.coefficients.proofs.Shared.{ratio_of, value_of, whole, factors_of, coefficient_length, GivesTwo, LeavesRest, over_product, IsOver, taken, over_put, over_end, over_handed, over_gives}
use Rattle.coefficients.proofs.{Shared.{without_put, gives_put, gives_without, seen, other_plain}, Lengths.{measured, IsPairLed}}
use Rattle.calc_terms.specs.declared.kind.Kind.TheVariants as kind

pub product_factors : (t : Tree) → is_mult t ≡ true → t ≡ mult (factors_of t)
product_factors t h = grind arith

pub one_tree_of : (ts : Trees) → count ts ≡ 1 → ts ≡ more (product_tree ts) none
one_tree_of ts e = grind arith

pub many_factors : (t : Tree) → is_mult t ≡ true → 1 ≤ count (children_of t) → (count (children_of t) ≡ 1 → ⊥) → t ≡ product_tree (children_of t)
many_factors t m l h = grind arith

-- the factor stands last, and the product is empty
pub record IsEmptied (i : ℕ) (t : Tree) (old new : Forest) (h : ℕ) : Type 0 where
  pub handed : IsHanded i new
  pub released : {end : Forest} → end ≡ without_root i new → Gives (without_root i old) end h (λ u. u ≡ t)

pub only_taken : {i h : ℕ} {ts : Trees} {f new : Forest} → IsOver kind.Mult i ts f → count ts ≡ 1
    → Ends h (tree_nth 0 (kids (root_tree i f))) (put i (without_nth 0 (kids (root_tree i f))) f) new → IsEmptied i (product_tree ts) f new h
only_taken {i = i} {h = h} {ts = ts} {f = f} {new = new} o e d =
    let t = taken 0 none (product_tree ts) none (subst (λ (us : Trees). IsOver kind.Mult i us f) (one_tree_of ts e) o) refl d in
    record {
      handed = over_handed t.over refl;
      released = λ {end} k.
          let g = t.gives in
          record {
            tree = g.tree;
            ends = ends_as (ends_at (ends_without i g.ends (over_put t.now o t.kids).root) k) refl (without_put i t.now f);
            once = g.once;
            whole = g.whole;
            told = g.told;
          };
    }

-- ---- beside a root that goes

-- a child was taken, and then the root goes last
pub leaves_two : {i h : ℕ} {us ts : Trees} {t : Tree} {old f new : Forest} → IsOver kind.Mult i us old → LeavesRest i old f h t ts → Ends i (root_tree i f) (without_root i f) new
    → GivesTwo (without_root i old) new h i (λ u. u ≡ t) (λ u. u ≡ mult ts)
leaves_two {i = i} {old = old} {f = f} o l e =
    let now = over_put l.kids o l.rest-are in
    record {
      between = without_root i f;
      first-given = gives_as (gives_without i l.given now.root refl) (without_put i l.kids old) (λ t x. x);
      second-given = over_gives (over_end now l.given.ends) refl e refl;
    }

-- the two first children are taken
pub record IsPairTaken (i : ℕ) (t u : Tree) (ts : Trees) (old new : Forest) (h k : ℕ) : Type 0 where
  pub now : Forest
  pub kids : Represents now ts
  pub between : Forest
  pub first : Gives (put i now old) between h (λ x. x ≡ t)
  pub second : Gives between new k (λ x. x ≡ u)

pub pair_taken : {i h k : ℕ} {t u : Tree} {ts : Trees} {old f new : Forest} → IsOver kind.Mult i (more t (more u ts)) old
    → Ends h (tree_nth 0 (kids (root_tree i old))) (put i (without_nth 0 (kids (root_tree i old))) old) f
    → Ends k (tree_nth 0 (kids (root_tree i f))) (put i (without_nth 0 (kids (root_tree i f))) f) new → IsPairTaken i t u ts old new h k
pair_taken {i = i} {t = t} {u = u} {ts = ts} {old = old} {f = f} o d e =
    let a = taken 0 none t (more u ts) o refl d in
    let b = taken 0 none u ts a.over refl e in
    record {
      now = b.now;
      kids = b.kids;
      between = put i b.now f;
      first = gives_as (gives_put i b.now a.gives (over_put a.now o a.kids).root) (put-put i b.now a.now old) (λ x y. y);
      second = b.gives;
    }

pub pair_front : {i h k : ℕ} {t u : Tree} {ts : Trees} {old new : Forest} → IsPairTaken i t u ts old new h k → KeepsFront (i ∷ []) old new
pair_front p = front_end p.second.ends (front_end p.first.ends (front_put p.now behind_first front_same))

pub one_size : (r : Rat) → ratio_of r ≡ whole (pos 1) → size num_one ≡ size (num (value_of r))
one_size r e = ap (λ (q : Fraction). size (num q)) (sym (one_value r e))

pub length_seen : {s : State} {i j n : ℕ} → j ≡ i → Stands s → IsHanded i (forest s) → n ≡ coefficient_length (children_of (plain (tree_at j (forest s))))
    → coefficient_length (children_of (tree_of i s)) ≡ n
length_seen e st h k = ap (λ (t : Tree). coefficient_length (children_of t)) (sym (seen e st h)) ∙ sym k

-- a root whose one child was taken
pub leaves_one : {i h : ℕ} {t : Tree} {ts : Trees} {old new : Forest} → IsOver kind.Mult i (more t ts) old
    → Ends h (tree_nth 0 (kids (root_tree i old))) (put i (without_nth 0 (kids (root_tree i old))) old) new → LeavesRest i old new h t ts
leaves_one {t = t} {ts = ts} o d = let a = taken 0 none t ts o refl d in record { kids = a.now; rest-are = a.kids; given = a.gives }

-- a product of them
pub pair_tree : {i h k : ℕ} {t u : Tree} {ts : Trees} {old new : Forest} → IsPairTaken i t u ts old new h k
    → mult (more (plain (root_tree h new)) (more (plain (root_tree k new)) none)) ≡ mult (more t (more u none))
pair_tree {h = h} p = λ i. mult (more ((other_plain h p.second (given_root p.first) ∙ given_told p.first) i) (more (given_told p.second i) none))

-- the first child of a spliced coefficient was taken
pub record IsFirstTaken (i : ℕ) (s : State) (f : Forest) : Type 0 where
  pub led : IsPairLed (children_of (tree_of i s))
  pub start : IsOver kind.Mult i (more (num led.q) (more (root (num led.r)) led.factors)) (forest s)
  pub over : IsOver kind.Mult i (more (root (num led.r)) led.factors) f

pub first_taken : {i h j n : ℕ} {s : State} {f : Forest} → j ≡ i → Stands s → IsHanded i (forest s) → is_mult (tree_of i s) ≡ true → is_reduced (tree_of i s) ≡ true
    → n ≡ coefficient_length (children_of (plain (tree_at j (forest s)))) → (n ≡ 0 → ⊥) → (n ≡ 1 → ⊥)
    → Ends h (tree_nth 0 (kids (root_tree i (forest s)))) (put i (without_nth 0 (kids (root_tree i (forest s)))) (forest s)) f → IsFirstTaken i s f
first_taken {i = i} {s = s} e st hand m r len no_zero no_one d =
    let l = length_seen e st hand len in
    let w = (measured (tree_of i s) m r).two_led (λ x. no_zero (sym l ∙ x)) (λ x. no_one (sym l ∙ x)) in
    let o = subst (λ (ts : Trees). IsOver kind.Mult i ts (forest s)) w.whole (over_product hand m) in
    record { led = w; start = o; over = (taken 0 none (num w.q) (more (root (num w.r)) w.factors) o refl d).over }
