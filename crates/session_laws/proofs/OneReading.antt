-- Equations are read and built in one way.
use Rattle.session_laws.proofs.Shared.{◌≡◌, ◌∙◌, ℕ, List, [], ◌∷◌, refl, sym, subst, AllZip, Tree, Equation, NamedTree, Filling, fills, IsNoExpression, Piece, Pieces, Unmade, made, Reason, AreUnmade}
use Rattle.session_laws.proofs.Shared.{Become, IsNoEquation, ReadsEquation, ReadsSide, equation, nothing, one_text, read_at_all}
use Rattle.calc_session.proofs.CountingLemmas.{left_is as filled_left, tree_is as filled_tree}

-- ---- the sides are read

one_side : (p : Piece) (t u : Tree) → ReadsSide p t → ReadsSide p u → t ≡ u
one_side p t u (ts, r) (us, s) = (one_text p.text r s).trees

pub read_once : (ps : List Pieces) (es fs : List Equation) → AllZip ReadsEquation ps es → AllZip ReadsEquation ps fs → es ≡ fs
read_once [] [] [] h k = refl
read_once [] [] (f ∷ fs) h k = absurd k
read_once [] (e ∷ es) fs h k = absurd h
read_once (p ∷ ps) [] fs h k = absurd h
read_once (p ∷ ps) (e ∷ es) [] h k = absurd k
read_once (p ∷ ps) (e ∷ es) (f ∷ fs) h k =
    let l = one_side p.left e.left f.left h.0.left k.0.left in
    let r = one_side p.right e.right f.right h.0.right k.0.right in
    let rest = read_once ps es fs h.1 k.1 in
    (λ i. record { left = l i; right = r i } ∷ rest i)

side_read : (p : Piece) (t : Tree) (n : ℕ) (reason : Reason) → ReadsSide p t → IsNoExpression n p.text reason → ⊥
side_read p t n reason (ts, r) h = read_at_all p.text r h

pub all_read : {ps : List Pieces} {reason : Reason} (es : List Equation) → AllZip ReadsEquation ps es → IsNoEquation ps reason → ⊥
all_read [] h n = absurd (none_read h n)
  where
    none_read : {ps : List Pieces} {reason : Reason} → AllZip ReadsEquation ps [] → IsNoEquation ps reason → ⊥
    none_read h (IsNoEquation.at_left n) = absurd h
    none_read h (IsNoEquation.at_right r n) = absurd h
    none_read h (IsNoEquation.later r n) = absurd h
all_read (e ∷ es) h (IsNoEquation.at_left {p = p} {reason = reason} n) = side_read p.left e.left p.left.before reason h.0.left n
all_read (e ∷ es) h (IsNoEquation.at_right {p = p} {reason = reason} r n) = side_read p.right e.right p.right.before reason h.0.right n
all_read (e ∷ es) h (IsNoEquation.later r n) = all_read es h.1 n

-- ---- they are built

module _ (vs : List NamedTree) where
  made_once : (free l m : ℕ) (t a b : Tree) → made free vs t ≡ fills l a → made free vs t ≡ fills m b → (l ≡ m) × (a ≡ b)
  made_once free l m t a b h k = (filled_left l m a b (sym h ∙ k), filled_tree l m a b (sym h ∙ k))

  made_at_all : (free l : ℕ) (t a : Tree) (reason : Reason) → made free vs t ≡ fills l a → Unmade (made free vs t) reason → ⊥
  made_at_all free l t a reason h u = subst (λ (f : Filling). Unmade f reason) h u

  pub become_once : (free l m : ℕ) (es fs gs : List Equation) → Become vs free es l fs → Become vs free es m gs → fs ≡ gs
  become_once free l m [] [] [] nothing nothing = refl
  become_once free l m [] [] (g ∷ gs) h k = elim k [ ]
  become_once free l m [] (f ∷ fs) gs h k = elim h [ ]
  become_once free l m (e ∷ es) [] gs h k = elim h [ ]
  become_once free l m (e ∷ es) (f ∷ fs) [] h k = elim k [ ]
  become_once free l m (e ∷ es) (f ∷ fs) (g ∷ gs) (equation {between = n} {behind = o} {l = a} {r = b} h k rest) (equation {between = n'} {behind = o'} {l = a'} {r = b'} h' k' rest') =
      let p = made_once free n n' e.left a a' h h' in
      let q = made_once n o o' e.right b b' k (subst (λ f. made f vs e.right ≡ fills o' b') (sym p.0) k') in
      let r = become_once o l m es fs gs rest (subst (λ f. Become vs f es m gs) (sym q.0) rest') in
      (λ i. record { left = p.1 i; right = q.1 i } ∷ r i)

  pub become_at_all : (free l : ℕ) (es fs : List Equation) {reason : Reason} → Become vs free es l fs → AreUnmade vs free es reason → ⊥
  become_at_all free l [] fs h u = elim u [ ]
  become_at_all free l (e ∷ es) fs {reason} (equation {between = n} {behind = o} {l = a} {r = b} h k rest) (AreUnmade.at_left u) = made_at_all free n e.left a reason h u
  become_at_all free l (e ∷ es) fs {reason} (equation {between = n} {behind = o} {l = a} {r = b} h k rest) (AreUnmade.at_right {between = n'} {l = a'} h' u) =
      let p = made_once free n n' e.left a a' h h' in
      made_at_all n o e.right b reason k (subst (λ f. Unmade (made f vs e.right) reason) (sym p.0) u)
  become_at_all free l (e ∷ es) (f ∷ fs) {reason} (equation {between = n} {behind = o} {l = a} {r = b} h k rest) (AreUnmade.later {between = n'} {behind = o'} {l = a'} {r = b'} h' k' u) =
      let p = made_once free n n' e.left a a' h h' in
      let q = made_once n o o' e.right b b' k (subst (λ f. made f vs e.right ≡ fills o' b') (sym p.0) k') in
      become_at_all o l es fs rest (subst (λ f. AreUnmade vs f es reason) (sym q.0) u)
