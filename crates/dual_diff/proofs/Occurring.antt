-- Where a name occurs.
use Rattle.dual_diff.proofs.Shared.{one_of, nobody, ◌≡◌, ℕ, List, [], ◌∷◌, ◌++◌, Bool, true, false, subst, inl, inr, arith, ◌||◌, ◌↔◌, Contains, IsTrue, Tree, symbol, add, mult, power, root, neg, sub}
use Rattle.dual_diff.proofs.Shared.{div, Trees, none, more, names, names_of, occurs, occurs_in, or_left, or_right, Contains-append_left, Contains-append_right, Contains-append_cases}
use Rattle.dual_diff.proofs.Shared.{Contains-push, bytes_eq-Decides}
use Rattle.calc_terms.proofs.SmallLaws.{only_one as alone}

pub neither : (a b : Bool) → a ≡ false → b ≡ false → (a || b) ≡ false
neither a b h k = grind arith

-- in one of two lists, as it occurs in one of two trees
either : (a b : Bool) (xs ys : List (List ℕ)) (x : List ℕ) → (a ≡ true) ↔ Contains xs x → (b ≡ true) ↔ Contains ys x → ((a || b) ≡ true) ↔ Contains (xs ++ ys) x
either a b xs ys x f g = (there, λ h. elim (Contains-append_cases xs ys x h) [ inl p ↦ or_left a b (f.1 p) | inr q ↦ or_right a b (g.1 q) ])
  where
    there : (a || b) ≡ true → Contains (xs ++ ys) x
    there h = elim (one_of a b h) [ inl p ↦ Contains-append_left xs ys x (f.0 p) | inr q ↦ Contains-append_right xs ys x (g.0 q) ]

mutual
  pub names_occur : (x : List ℕ) (t : Tree) → (occurs x t ≡ true) ↔ Contains (names t) x
  names_occur x (symbol y) = (λ h. subst (λ (z : List ℕ). Contains (y ∷ []) z) ((bytes_eq-Decides y x).0 h) (Contains-push [] y), λ h. (bytes_eq-Decides y x).1 (alone y x h))
  names_occur x (add ts) = names_occur_in x ts
  names_occur x (mult ts) = names_occur_in x ts
  names_occur x (power b e) = either (occurs x b) (occurs x e) (names b) (names e) x (names_occur x b) (names_occur x e)
  names_occur x (root a) = names_occur x a
  names_occur x (neg a) = names_occur x a
  names_occur x (sub a b) = either (occurs x a) (occurs x b) (names a) (names b) x (names_occur x a) (names_occur x b)
  names_occur x (div a b) = either (occurs x a) (occurs x b) (names a) (names b) x (names_occur x a) (names_occur x b)
  names_occur x t = (λ h. absurd cc, λ h. absurd (nobody x h))

  names_occur_in : (x : List ℕ) (ts : Trees) → (occurs_in x ts ≡ true) ↔ Contains (names_of ts) x
  names_occur_in x none = (λ h. absurd cc, λ h. absurd (nobody x h))
  names_occur_in x (more t ts) = either (occurs x t) (occurs_in x ts) (names t) (names_of ts) x (names_occur x t) (names_occur_in x ts)

-- what a reader tells of a name
pub told : (b c : Bool) (P : Type 0) → (IsTrue b ↔ P) → ((c ≡ true) ↔ P) → b ≡ c
told b c P h k = grind arith
