-- Names in the order of their bytes.
use Rattle.std.specs.{Cmp.Lexicographic.{slice_cmp}, Ordering.{is_lt, nat_cmp}, Prelude.{ℕ, ◌≡◌, ◌⊎◌, ◌<◌, ◌↔◌, Bool, true, false, List, [], ◌∷◌, ◌++◌, length, All, Contains, ⊤}}
use Rattle.calc_terms.specs.Trees.{names}
use Rattle.linear_solve.specs.Equations.{AreDistinct, Equation}
use Rattle.tree_handles.specs.{Expressions.{plain}, Forest.{Forest}, Inside.{tree_at}}

abbrev pub is_before : List ℕ → List ℕ → Bool
is_before x y = is_lt (slice_cmp nat_cmp x y)

-- each is before all behind it
abbrev pub Rises : List (List ℕ) → Type 0
Rises [] = ⊤
Rises (x ∷ xs) = All (λ y. is_before x y ≡ true) xs × Rises xs

-- a side of one of the equations holds the name
abbrev pub IsNameIn : List Equation → List ℕ → Type 0
IsNameIn [] x = ⊥
IsNameIn (e ∷ es) x = (Contains (names e.left) x ⊎ Contains (names e.right) x) ⊎ IsNameIn es x

-- the names of the equations, each once, rising
pub record AreNamesOf (es : List Equation) (xs : List (List ℕ)) : Type 0 where
  pub rising : Rises xs
  pub all : (x : List ℕ) → Contains xs x ↔ IsNameIn es x

-- the equations hold over six names
pub record HoldOverSixNames (es : List Equation) : Type 0 where
  pub some : List (List ℕ)
  pub distinct : AreDistinct some
  pub many : 6 < length some
  pub held : (x : List ℕ) → Contains some x → IsNameIn es x

-- the names of the trees with these roots
abbrev pub names_at : Forest → List ℕ → List (List ℕ)
names_at f [] = []
names_at f (i ∷ is) = names (plain (tree_at i f)) ++ names_at f is

-- Names were included among others: all that were there are there, no others, and, as is told, each of them is there; or there are six, and one of them is not among these.
pub record Includes (more old new : List (List ℕ)) (told : Bool) : Type 0 where
  pub kept : (x : List ℕ) → Contains old x → Contains new x
  pub only : (x : List ℕ) → Contains new x → Contains old x ⊎ Contains more x
  pub all : told ≡ true → (x : List ℕ) → Contains more x → Contains new x
  pub lacks : told ≡ false → (length new ≡ 6) × (x : List ℕ) × Contains more x × ¬ (Contains new x)
