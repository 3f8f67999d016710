-- Lists of what is still to be written.
use Rattle.beautify.proofs.Shared.{◌≡◌, ◌∙◌, ℕ, ◌+◌, ◌*◌, ◌≤◌, List, [], ◌∷◌, ◌++◌, length, refl, sym, ap, subst, arith, Tree, Trees, none, AllParts, plain, IsExpression, Forest, join, tree_at}
use Rattle.beautify.proofs.Shared.{IsShowable, Form, Pending, Divisor, Part, Over, One, Owes, AreReady, IsReady, IsReadyPart, TakesForm, with_next, owed_before, next_room, form_room, rooms}
use Rattle.beautify.proofs.Shared.{least_size, holds-left, tree_at-join_left}

owed-append : (ps qs : List Pending) (f : Forest) (us : Trees) → owed_before (ps ++ qs) f us ≡ owed_before qs f (owed_before ps f us)
owed-append [] qs f us = refl
owed-append (p ∷ ps) qs f us = owed-append ps qs f (with_next p f us)

ready-append : (ps qs : List Pending) (f : Forest) (us : Trees) → AreReady ps f us → AreReady qs f (owed_before ps f us) → AreReady (ps ++ qs) f us
ready-append [] qs f us h k = k
ready-append (p ∷ ps) qs f us h k = (h.0, ready-append ps qs f (with_next p f us) h.1 k)

ready_parts : (ps qs : List Pending) (f : Forest) (us : Trees) → AreReady (ps ++ qs) f us → AreReady ps f us × AreReady qs f (owed_before ps f us)
ready_parts [] qs f us h = (tt, h)
ready_parts (p ∷ ps) qs f us h = let r = ready_parts ps qs f (with_next p f us) h.1 in ((h.0, r.0), r.1)

rooms-append : (ps qs : List Pending) (f : Forest) → rooms (ps ++ qs) f ≡ rooms ps f + rooms qs f
rooms-append [] qs f = omega arith
rooms-append (p ∷ ps) qs f = omega (arith, rooms-append ps qs f)

-- ---- one more, and one less

pub owes_none : (f : Forest) → Owes [] f none 0
owes_none f = record { trees = refl; ready = tt; bytes = omega arith }

pub pushed : {ps : List Pending} {f : Forest} {us : Trees} {r : ℕ} (p : Pending) → Owes ps f us r → IsReady p f us → Owes (ps ++ p ∷ []) f (with_next p f us) (r + next_room p f)
pushed {ps = ps} {f = f} p o h = record {
  trees = owed-append ps (p ∷ []) f none ∙ ap (with_next p f) o.trees;
  ready = ready-append ps (p ∷ []) f none o.ready (subst (IsReady p f) (sym o.trees) h, tt);
  bytes = omega (arith, rooms-append ps (p ∷ []) f, o.bytes);
}

-- what comes first, and what is owed behind it
pub record IsFirst (p : Pending) (ps : List Pending) (f : Forest) (us : Trees) (r : ℕ) : Type 0 where
  pub behind-it : Trees
  pub rest : Owes ps f behind-it (rooms ps f)
  pub is : us ≡ with_next p f behind-it
  pub ready : IsReady p f behind-it
  pub bytes : rooms ps f + next_room p f ≤ r

pub popped : {ps xs : List Pending} {f : Forest} {us : Trees} {r : ℕ} (p : Pending) → Owes xs f us r → xs ≡ ps ++ p ∷ [] → IsFirst p ps f us r
popped {ps = ps} {xs = xs} {f = f} {us = us} {r = r} p o e =
    let w : Owes (ps ++ p ∷ []) f us r = subst (λ (ys : List Pending). Owes ys f us r) e o in
    let k = ready_parts ps (p ∷ []) f none w.ready in
    record {
      behind-it = owed_before ps f none;
      rest = record { trees = refl; ready = k.0; bytes = omega arith };
      is = sym w.trees ∙ owed-append ps (p ∷ []) f none;
      ready = k.1.0;
      bytes = omega (arith, rooms-append ps (p ∷ []) f, w.bytes);
    }

-- the same list, with more room
pub owes_as : {ps : List Pending} {f : Forest} {us vs : Trees} {r s : ℕ} → Owes ps f us r → us ≡ vs → r ≤ s → Owes ps f vs s
owes_as o e h = record { trees = o.trees ∙ e; ready = o.ready; bytes = omega (arith, o.bytes, h) }

-- ---- bytes

pub some_room : (form : Form) (t : Tree) → 8 ≤ form_room form t
some_room Divisor t = omega arith
some_room _ t = omega (arith, least_size t)

pub eight_next : (p : Pending) (f : Forest) → 8 ≤ next_room p f
eight_next (Part form i) f = some_room form (plain (tree_at i f))
eight_next _ f = omega arith

pub eight_each : (ps : List Pending) (f : Forest) → 8 * length ps ≤ rooms ps f
eight_each [] f = omega arith
eight_each (p ∷ ps) f = omega (arith, eight_next p f, eight_each ps f)

pub rooms-snoc : (ps : List Pending) (p : Pending) (f : Forest) → rooms (ps ++ p ∷ []) f ≡ rooms ps f + next_room p f
rooms-snoc ps p f = omega (arith, rooms-append ps (p ∷ []) f)

-- ---- with trees behind the forest

still : (i : ℕ) (f g : Forest) → IsExpression i f → tree_at i (join f g) ≡ tree_at i f
still i f g e = tree_at-join_left i f g e.live

still_expression : (i : ℕ) (f g : Forest) → IsExpression i f → IsExpression i (join f g)
still_expression i f g e = grind (arith, still, holds-left)

record IsSame (p : Pending) (f g : Forest) (us : Trees) : Type 0 where
  trees : with_next p (join f g) us ≡ with_next p f us
  ready : IsReady p (join f g) us
  bytes : next_room p (join f g) ≡ next_room p f

same_part : (form : Form) (i : ℕ) (f g : Forest) (us : Trees) → IsReadyPart form i f → IsSame (Part form i) f g us
same_part form i f g us h =
    let e = still i f g h.expression in
    record {
      trees = rw e refl;
      ready = record { expression = still_expression i f g h.expression; showable = subst (λ (x : Forest). AllParts IsShowable (plain x)) (sym e) h.showable; takes-it = subst (λ (x : Forest). TakesForm form (plain x)) (sym e) h.takes-it };
      bytes = ap (λ (x : Forest). form_room form (plain x)) e;
    }

same_next : (p : Pending) (f g : Forest) (us : Trees) → IsReady p f us → IsSame p f g us
same_next (Part form i) f g us h = same_part form i f g us h
same_next (Over k n) f g us h = record { trees = refl; ready = h; bytes = refl }
same_next One f g us h = record { trees = refl; ready = tt; bytes = refl }
same_next p f g us h = grind (arith, still, still_expression)

record AreSame (ps : List Pending) (f g : Forest) (us : Trees) : Type 0 where
  trees : owed_before ps (join f g) us ≡ owed_before ps f us
  ready : AreReady ps (join f g) us
  bytes : rooms ps (join f g) ≡ rooms ps f

all_same : (ps : List Pending) (f g : Forest) (us : Trees) → AreReady ps f us → AreSame ps f g us
all_same [] f g us h = record { trees = refl; ready = tt; bytes = refl }
all_same (p ∷ ps) f g us h =
    let s = same_next p f g us h.0 in
    let r = all_same ps f g (with_next p f us) h.1 in
    record {
      trees = ap (owed_before ps (join f g)) s.trees ∙ r.trees;
      ready = (s.ready, subst (AreReady ps (join f g)) (sym s.trees) r.ready);
      bytes = omega (arith, s.bytes, r.bytes);
    }

pub owes_still : {ps : List Pending} {f h : Forest} {us : Trees} {r : ℕ} (g : Forest) → Owes ps f us r → h ≡ join f g → Owes ps h us r
owes_still {ps = ps} {f = f} {us = us} {r = r} g o e =
    let s = all_same ps f g none o.ready in
    subst (λ (x : Forest). Owes ps x us r) (sym e) (record { trees = s.trees ∙ o.trees; ready = s.ready; bytes = omega (arith, s.bytes, o.bytes) })

pub rooms_still : {ps : List Pending} {f h : Forest} {us : Trees} {r : ℕ} (g : Forest) → Owes ps f us r → h ≡ join f g → rooms ps h ≡ rooms ps f
rooms_still {ps = ps} {f = f} g o e = ap (rooms ps) e ∙ (all_same ps f g none o.ready).bytes

pub owes_own : {ps : List Pending} {f : Forest} {us : Trees} {r : ℕ} → Owes ps f us r → Owes ps f us (rooms ps f)
owes_own o = record { trees = o.trees; ready = o.ready; bytes = omega arith }
