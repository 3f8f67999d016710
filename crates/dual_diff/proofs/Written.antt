-- What follows of trees that are written one behind another.
use Rattle.dual_diff.proofs.Shared.{◌≡◌, ℕ, suc, ◌+◌, ◌-◌, ◌<◌, ◌≤◌, List, refl, sym, ap, ◌∙◌, subst, arith, true, false, Kind, bare, size_of_payload, Tree, Trees, none, append, count, size, sizes}
use Rattle.dual_diff.proofs.Shared.{State, IsExpression, takes_kind, Stands, forest, HasDerivative, derivative, occurs, nth, with_derivative, behind, first, CanCopy, CanDerive, CanGather, IsWriting}
use Rattle.dual_diff.proofs.{Shared.{one, tree_of, count_append, used}, Slices.{slice_first}, Forms.{append_one, first_behind, first_next, sizes_append}}
use Rattle.dual_diff.proofs.Products.{AreMade, made_more, made_none, made_same, with_factors}

-- products of the first factors were written, and these factors have so many bytes
pub record AreWritten {W : Type 0} (Writes : W → State → W → State → Trees → Type 0) (x : List ℕ) (at many seen : ℕ) (w : W) (s : State) (v : W) (t : State) (ts : Trees) : Type 0 where
  pub made : Trees
  pub is : AreMade x at made ts
  pub written : Writes w s v t made
  pub many-is : many ≡ count made
  pub few : many ≤ at
  pub seen-is : seen ≡ sizes (first at ts)

-- the bytes of the first factors, with one more, and those of the others
pub record IsSeen (n seen whole : ℕ) (ts : Trees) : Type 0 where
  pub seen-is : seen ≡ sizes (first n ts)
  pub later : whole - seen ≡ sizes (behind n ts)
  pub fits : seen ≤ whole

pub seen_more : {seen bytes whole : ℕ} (n : ℕ) (ts : Trees) → n < count ts → seen ≡ sizes (first n ts) → bytes ≡ size (nth n ts) → whole ≡ sizes ts → IsSeen (n + 1) (seen + bytes) whole ts
seen_more {seen} {bytes} n ts l e b w =
    let next : n + 1 ≡ suc n = omega arith in
    let now : seen + bytes ≡ sizes (first (n + 1) ts) = omega (arith, e, b, ap (λ k. sizes (first k ts)) next, ap sizes (first_next n ts l), sizes_append (first n ts) (one (nth n ts))) in
    let all : sizes (first (n + 1) ts) + sizes (behind (n + 1) ts) ≡ sizes ts = sym (sizes_append (first (n + 1) ts) (behind (n + 1) ts)) ∙ ap sizes (first_behind (n + 1) ts) in
    record { seen-is = now; later = omega arith; fits = omega arith }

pub written_as : {W : Type 0} {Writes : W → State → W → State → Trees → Type 0} {HasRoom : State → ℕ → Type 0} → IsWriting Writes HasRoom
    → {w v : W} {s t : State} {ts us : Trees} → Writes w s v t ts → ts ≡ us → Writes w s v t us
written_as {Writes = Writes} L {w} {v} {s} {t} a e = subst (Writes w s v t) e a

module _ {W : Type 0} {Writes : W → State → W → State → Trees → Type 0} {HasRoom : State → ℕ → Type 0} (L : IsWriting Writes HasRoom) where
  -- a tree made of one that stood before the others were written
  pub added : {w v u : W} {s t r : State} {ts : Trees} {i : ℕ} (F : Tree → Tree) → Writes w s v t ts → IsExpression i (forest s) → Writes v t u r (one (F (tree_of i t)))
      → Writes w s u r (append ts (one (F (tree_of i s))))
  added {i = i} F a e b = L.joined a (written_as L b (ap (λ y. one (F y)) ((L.keeps a).same i e)))

  -- the same, told of what was written behind the first of them
  pub added_behind : {w v u y : W} {s t r z : State} {ts us : Trees} {i : ℕ} (F : Tree → Tree) → Writes w s v t ts → Writes v t u r us → IsExpression i (forest s)
      → Writes u r y z (one (F (tree_of i r)))
      → Writes v t y z (append us (one (F (tree_of i s))))
  added_behind {i = i} F a b e c = L.joined b (written_as L c (ap (λ y. one (F y)) ((L.keeps (L.joined a b)).same i e)))

  pub still : {x : List ℕ} {w v : W} {s t : State} {ts : Trees} {i : ℕ} → Writes w s v t ts → CanDerive x i s → CanDerive x i t
  still {x} {i = i} a d =
      let k = L.keeps a in
      record { stands = k.stands; expression = k.expressions i d.expression; derivable = subst (HasDerivative x) (sym (k.same i d.expression)) d.derivable }

  pub room_for : {w v : W} {s t : State} {ts : Trees} {n i : ℕ} (F : Tree → Tree) → Writes w s v t ts → IsExpression i (forest s) → HasRoom s n
      → sizes ts + size (F (tree_of i s)) ≤ n → HasRoom t (size (F (tree_of i t)))
  room_for {i = i} F a e r l = L.room a r (omega (arith, l, ap (λ y. size (F y)) ((L.keeps a).same i e)))

  -- what `copy` requires
  pub can_copy : {w v : W} {s t : State} {ts : Trees} {n i : ℕ} → Writes w s v t ts → IsExpression i (forest s) → HasRoom s n → sizes ts + size (tree_of i s) ≤ n → CanCopy HasRoom i t
  can_copy {i = i} a e r l = record { stands = (L.keeps a).stands; expression = (L.keeps a).expressions i e; room = room_for (λ y. y) a e r l }

  pub gather : {w v : W} {s t : State} {ts : Trees} {k : Kind} {n m begin : ℕ} → Writes w s v t ts → count ts ≡ n → begin ≡ used s.nodes → takes_kind k n ≡ true → HasRoom s m
      → sizes ts + size_of_payload (bare k) ≤ m → CanGather Writes HasRoom k n begin v t
  gather {w} {s = s} {ts = ts} a c b takes r l =
      record { writer = w; start = s; trees = ts; written = a; counted = c; from-begin = b; takes = takes; room = L.room a r l }

  -- the same behind other trees
  pub gather_behind : {w v u : W} {s t r : State} {ts us : Trees} {k : Kind} {n m begin : ℕ} → Writes w s v t ts → Writes v t u r us → count us ≡ n → begin ≡ used t.nodes
      → takes_kind k n ≡ true → HasRoom s m
      → sizes ts + (sizes us + size_of_payload (bare k)) ≤ m → CanGather Writes HasRoom k n begin u r
  gather_behind {us = us} {k} a b c f takes r l = gather b c f takes (L.room {m = sizes us + size_of_payload (bare k)} a r l) (omega arith)

  -- ---- products

  -- the factors as far as the one that is derived
  pub factors_through : {w v u : W} {s t r : State} {i : ℕ} (x : List ℕ) (n : ℕ) (ts : Trees) → Writes w s v t (first (n - 0) (behind 0 ts)) → IsExpression i (forest s)
      → tree_of i s ≡ nth n ts → Writes v t u r (one (derivative x (tree_of i t)))
      → Writes w s u r (append (first n ts) (one (derivative x (nth n ts))))
  factors_through x n ts a e is b =
      written_as L (added (derivative x) (written_as L a (slice_first n ts)) e b) (ap (λ y. append (first n ts) (one (derivative x y))) is)

  pub all_factors : {w v u : W} {s t r : State} {us : Trees} (x : List ℕ) (n : ℕ) (ts : Trees) → Writes w s v t (append (first n ts) (one (derivative x (nth n ts))))
      → Writes v t u r us → us ≡ behind (n + 1) ts → Writes w s u r (with_factors x n ts)
  all_factors x n ts a b e = written_as L (L.joined a (written_as L b e)) (append_one (first n ts) (derivative x (nth n ts)) (behind (n + 1) ts))

  pub written_none : (x : List ℕ) {w : W} {s : State} (ts : Trees) → Stands s → AreWritten Writes x 0 0 0 w s w s ts
  written_none x ts h = record { made = none; is = made_none x ts; written = L.nothing h; many-is = refl; few = omega arith; seen-is = refl }

  pub written_more : {x : List ℕ} {n many seen bytes : ℕ} {w v u : W} {s t r : State} {ts : Trees} → n < count ts → occurs x (nth n ts) ≡ true → AreWritten Writes x n many seen w s v t ts
      → bytes ≡ size (nth n ts) → Writes v t u r (one (with_derivative x n ts)) → AreWritten Writes x (n + 1) (many + 1) (seen + bytes) w s u r ts
  written_more {x} {n} {ts = ts} l o p b a =
      let next : n + 1 ≡ suc n = omega arith in
      let us = append p.made (one (with_derivative x n ts)) in
      record {
        made = us;
        is = subst (λ k. AreMade x k us ts) (sym next) (made_more x n p.made ts l o p.is);
        written = L.joined p.written a;
        many-is = omega (arith, p.many-is, count_append p.made (one (with_derivative x n ts)));
        few = omega (arith, p.few);
        seen-is = (seen_more n ts l p.seen-is b refl).seen-is;
      }

pub written_same : {W : Type 0} {Writes : W → State → W → State → Trees → Type 0} {HasRoom : State → ℕ → Type 0} → IsWriting Writes HasRoom
    → {x : List ℕ} {n many seen bytes : ℕ} {w v : W} {s t : State} {ts : Trees} → n < count ts → occurs x (nth n ts) ≡ false → AreWritten Writes x n many seen w s v t ts
    → bytes ≡ size (nth n ts) → AreWritten Writes x (n + 1) many (seen + bytes) w s v t ts
written_same L {x} {n} {ts = ts} l o p b =
    let next : n + 1 ≡ suc n = omega arith in
    record {
      made = p.made;
      is = subst (λ k. AreMade x k p.made ts) (sym next) (made_same x n p.made ts l o p.is);
      written = p.written;
      many-is = p.many-is;
      few = omega (arith, p.few);
      seen-is = (seen_more n ts l p.seen-is b refl).seen-is;
    }
