-- What stands first stays first.
use Rattle.tree_handles.proofs.Shared.{◌≡◌, ℕ, List, [], ◌∷◌, ap, ◌∙◌, arith, false, Forest, join, Ends, Starts, AreNoRoots, KeepsFront, has_root, without_root, put}
use Rattle.tree_handles.proofs.{Forests.join_assoc, Roots.{root-left, without-right, put-right}}

pub starts_same : (p f g : Forest) → g ≡ f → Starts p f → Starts p g
starts_same p f g e s = record { behind = s.behind; whole = e ∙ s.whole }

pub starts_join : (p f g : Forest) → Starts p f → Starts p (join f g)
starts_join p f g s = record { behind = join s.behind g; whole = ap (λ (x : Forest). join x g) s.whole ∙ join_assoc p s.behind g }

pub starts_without : (i : ℕ) (p f : Forest) → has_root i p ≡ false → Starts p f → Starts p (without_root i f)
starts_without i p f h s = record { behind = without_root i s.behind; whole = ap (without_root i) s.whole ∙ without-right i p s.behind h }

pub starts_put : (i : ℕ) (n p f : Forest) → has_root i p ≡ false → Starts p f → Starts p (put i n f)
starts_put i n p f h s = record { behind = put i n s.behind; whole = ap (put i n) s.whole ∙ put-right i n p s.behind h }

pub starts_end : (i : ℕ) (t g p f : Forest) → Ends i t g f → Starts p g → Starts p f
starts_end i t g p f h s = starts_same p (join g t) f h.whole (starts_join p g t s)

-- a tree that is not among the others is not among those that stand first
pub not_first : (i : ℕ) (p g : Forest) → Starts p g → has_root i g ≡ false → has_root i p ≡ false
not_first i p g s h = grind (arith, root-left)

-- ---- from call to call

-- the tree is none of those that stand first
pub record IsBehind (i : ℕ) (handed : List ℕ) (f : Forest) : Type 0 where
  pub clear : (p : Forest) → Starts p f → AreNoRoots handed p → has_root i p ≡ false

-- since it was handed
pub behind_first : {i : ℕ} {handed : List ℕ} {f : Forest} → IsBehind i (i ∷ handed) f
behind_first = record { clear = λ p s n. n.0 }

pub behind_later : {i j : ℕ} {handed : List ℕ} {f : Forest} → IsBehind i handed f → IsBehind i (j ∷ handed) f
behind_later h = record { clear = λ p s n. h.clear p s n.1 }

-- since it is new
pub behind_new : {i : ℕ} {handed : List ℕ} {t f g h : Forest} → Ends i t g h → KeepsFront handed f g → IsBehind i handed f
behind_new {g = g} e k = record { clear = λ p s n. not_first _ p g (k.keeps p s n) e.clear }

pub front_same : {handed : List ℕ} {f : Forest} → KeepsFront handed f f
front_same = record { keeps = λ p s n. s }

pub front_at : {handed : List ℕ} {f g h : Forest} → KeepsFront handed f g → h ≡ g → KeepsFront handed f h
front_at {g = g} {h = h} k e = record { keeps = λ p s n. starts_same p g h e (k.keeps p s n) }

pub front_end : {handed : List ℕ} {i : ℕ} {t f g h : Forest} → Ends i t g h → KeepsFront handed f g → KeepsFront handed f h
front_end {i = i} {t = t} {g = g} {h = h} e k = record { keeps = λ p s n. starts_end i t g p h e (k.keeps p s n) }

pub front_without : {handed : List ℕ} {i : ℕ} {f g : Forest} → IsBehind i handed f → KeepsFront handed f g → KeepsFront handed f (without_root i g)
front_without {i = i} {g = g} b k = record { keeps = λ p s n. starts_without i p g (b.clear p s n) (k.keeps p s n) }

pub front_put : {handed : List ℕ} {i : ℕ} {f g : Forest} (new : Forest) → IsBehind i handed f → KeepsFront handed f g → KeepsFront handed f (put i new g)
front_put {i = i} {g = g} new b k = record { keeps = λ p s n. starts_put i new p g (b.clear p s n) (k.keeps p s n) }

-- after a call that was handed no tree, one, two, or three
pub front_after : {handed : List ℕ} {f g h : Forest} → KeepsFront handed f g → KeepsFront [] g h → KeepsFront handed f h
front_after k c = record { keeps = λ p s n. c.keeps p (k.keeps p s n) tt }

pub front_after_one : {handed : List ℕ} {i : ℕ} {f g h : Forest} → IsBehind i handed f → KeepsFront handed f g → KeepsFront (i ∷ []) g h → KeepsFront handed f h
front_after_one a k c = record { keeps = λ p s n. c.keeps p (k.keeps p s n) (a.clear p s n, tt) }

pub front_after_two : {handed : List ℕ} {i j : ℕ} {f g h : Forest} → IsBehind i handed f → IsBehind j handed f → KeepsFront handed f g → KeepsFront (i ∷ j ∷ []) g h → KeepsFront handed f h
front_after_two a b k c = record { keeps = λ p s n. c.keeps p (k.keeps p s n) (a.clear p s n, (b.clear p s n, tt)) }
