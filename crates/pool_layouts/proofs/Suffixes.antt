-- The trees whose nodes stand behind a number of nodes in prefix order.
use Rattle.pool_layouts.proofs.Shared.{◌≡◌, ◌∙◌, ℕ, zero, suc, ◌<◌, ◌≤◌, length, drop, refl, sym, ap, arith, add-one, length-drop, drop-drop, Label, Forest, empty, tree}
use Rattle.pool_layouts.proofs.Shared.{join, flatten, bytes_in, AllNodes, flatten-join, bytes_in-join, all-join}

abbrev pub behind_node : Forest → Forest
behind_node empty = empty
behind_node (tree l k r) = join k r

abbrev pub after : ℕ → Forest → Forest
after zero f = f
after (suc n) f = behind_node (after n f)

behind_flat : (f : Forest) → flatten (behind_node f) ≡ drop 1 (flatten f)
behind_flat f = grind (arith, flatten-join)

pub after_flat : (n : ℕ) (f : Forest) → flatten (after n f) ≡ drop n (flatten f)
after_flat zero f = refl
after_flat (suc n) f = behind_flat (after n f) ∙ ap (drop 1) (after_flat n f) ∙ drop-drop 1 n (flatten f) ∙ ap (λ (m : ℕ). drop m (flatten f)) (add-one n)

behind_all : (P : Label → ℕ → Type 0) (f : Forest) → AllNodes P f → AllNodes P (behind_node f)
behind_all P f h = grind (arith, all-join)

pub after_all : (P : Label → ℕ → Type 0) (n : ℕ) (f : Forest) → AllNodes P f → AllNodes P (after n f)
after_all P zero f h = h
after_all P (suc n) f h = behind_all P (after n f) (after_all P n f h)

behind_bytes : (f : Forest) → bytes_in (behind_node f) ≤ bytes_in f
behind_bytes f = grind (arith, bytes_in-join)

pub after_bytes : (n : ℕ) (f : Forest) → bytes_in (after n f) ≤ bytes_in f
after_bytes zero f = omega arith
after_bytes (suc n) f = omega (arith, behind_bytes (after n f), after_bytes n f)

-- some node is left
pub record IsLeft (n : ℕ) (f : Forest) : Type 0 where
  pub label : Label
  pub below : Forest
  pub others : Forest
  pub here : after n f ≡ tree label below others
  pub next : after (suc n) f ≡ join below others

pub left_at : (n : ℕ) (f : Forest) → n < length (flatten f) → IsLeft n f
left_at n f h = by (after n f) refl
  where
    by : (g : Forest) → after n f ≡ g → IsLeft n f
    by empty e = absurd (omega (arith, ap length (sym (after_flat n f) ∙ ap flatten e), length-drop n (flatten f), h))
    by (tree l k r) e = record { label = l; below = k; others = r; here = e; next = ap behind_node e }

pub none_after : (n : ℕ) (f : Forest) → length (flatten f) ≤ n → after n f ≡ empty
none_after n f h = by (after n f) refl
  where
    by : (g : Forest) → after n f ≡ g → after n f ≡ empty
    by empty e = e
    by (tree l k r) e = absurd (omega (arith, ap length (sym (after_flat n f) ∙ ap flatten e), length-drop n (flatten f), h))
