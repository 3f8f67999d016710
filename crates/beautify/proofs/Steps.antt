-- A face under way: what is written, and what is still owed.
use Rattle.beautify.proofs.Shared.{◌≡◌, ◌∙◌, ℕ, ◌+◌, ◌-◌, ◌*◌, ◌<◌, ◌≤◌, List, [], ◌∷◌, ◌++◌, length, refl, sym, ap, subst, arith, eqb, cond, pos, Payload, rational, Ratio, whole, whole_size, One}
use Rattle.beautify.proofs.Shared.{Tree, Trees, none, more, count, size, AllParts, grown, plain, IsExpression, State, free_of, Full, used, Forest, empty, tree, join, arity, bytes_in, tree_at, holds}
use Rattle.beautify.proofs.Shared.{one_tree, Ends, Starts, KeepsRefusals, IsRefused, Stands, forest, face, IsShowable, Form, Face, Pending, Part, Noted, Owes, IsNode, IsReady, IsReadyPart, IsWritten}
use Rattle.beautify.proofs.Shared.{in_form, with_next, next_room, form_room, rooms, children_taken, IsDraft, first, behind, by_test, one_at, alone_in, least_size, used_forest, kids, nodes_in}
use Rattle.beautify.proofs.Shared.{children_of, few_in, size-plain, bytes_in-join, keeps_after, join_assoc, join-empty, expression_children, Result, Ok, Err, IfOk, IfErr, size_of_payload}
use Rattle.beautify.proofs.{Drafting.{written, no_nodes}, Pushing.{popped, owes_none, owes_still, owes_as, owes_own, eight_each, eight_next, some_room, rooms_still, rooms-snoc}}
use Rattle.tree_handles.proofs.ForestLists.{kids_below as kids_nodes}

-- ---- bytes

tree_bytes : (i : ℕ) (f : Forest) → bytes_in (tree_at i f) ≤ bytes_in f
tree_bytes i empty = omega arith
tree_bytes i (tree l k r) =
    by_test (λ t. bytes_in (cond t (tree l k empty) (cond (holds i k) (tree_at i k) (tree_at i r))) ≤ bytes_in (tree l k r)) (eqb l.id i) (λ e. omega arith)
    (λ e. by_test (λ t. bytes_in (cond t (tree_at i k) (tree_at i r)) ≤ bytes_in (tree l k r)) (holds i k) (λ q. omega (arith, tree_bytes i k)) (λ q. omega (arith, tree_bytes i r)))

-- a tree has no more bytes than the pool
pub few_bytes : (i : ℕ) (s : State) → Stands s → IsExpression i (forest s) → size (plain (tree_at i (forest s))) ≤ s.size
few_bytes i s st e = let fits : used s.nodes ≤ s.size = st.pool.fits in omega (arith, tree_bytes i (forest s), size-plain (tree_at i (forest s)) (one_at i (forest s) e.live) e.whole, used_forest s st, fits)

-- where trees come behind others, no more bytes are free
pub free_less : (s t : State) → Stands s → Stands t → KeepsRefusals s t → Starts (forest s) (forest t) → free_of t ≤ free_of s
free_less s t st su k b = omega (arith, used_forest s st, used_forest t su, ap bytes_in b.whole, bytes_in-join (forest s) b.behind, k.size)

-- a new node
pub node_bytes : {i : ℕ} {x : Payload} (s t : State) → Stands s → Stands t → KeepsRefusals s t → Ends i (one_tree i x empty) (forest s) (forest t) → free_of s ≡ free_of t + size_of_payload x
node_bytes {i = i} {x = x} s t st su k e =
    let fits : used t.nodes ≤ t.size = su.pool.fits in
    omega (arith, used_forest s st, used_forest t su, ap bytes_in e.whole, bytes_in-join (forest s) (one_tree i x empty), k.size, fits)

-- ---- one node is placed

pub behind_none : {n : ℕ} {s t : State} {full : Full} → IsRefused n s t full → Starts (forest s) (forest t)
behind_none {s = s} r = record { behind = empty; whole = r.same ∙ sym (join-empty (forest s)) }

-- the number 1
one_bytes : size_of_payload (rational (whole (pos 1))) ≡ 16
one_bytes = whole_size 1 (omega arith)

one_written : (f : Forest) → IsWritten One f (rational (whole (pos 1)))
one_written f = record { takes-them = λ us h. (refl, omega arith); least = omega (arith, one_bytes); most = omega (arith, one_bytes); grows = λ us. refl }

pub one_placed : (f g : Forest) (p : Pending) (y : Ratio) → p ≡ One → y ≡ whole (pos 1) → (r : Result ℕ Full) → IfOk r (λ h. Ends h (one_tree h (rational y) empty) f g) → IfOk r (λ h. (x : Payload) × IsWritten p f x × Ends h (one_tree h x empty) f g)
one_placed f g p y e q (Ok h) k = (rational y, subst (λ (o : Pending). IsWritten o f (rational y)) (sym e) (subst (λ (z : Ratio). IsWritten One f (rational z)) (sym q) (one_written f)), k)
one_placed f g p y e q (Err x) k = tt

pub one_refused : (s t : State) (p : Pending) (y : Ratio) → p ≡ One → y ≡ whole (pos 1) → (r : Result ℕ Full) → IfErr r (IsRefused (size_of_payload (rational y)) s t) → IfErr r (λ full. (n : ℕ) × IsRefused n s t full × (n ≤ next_room p (forest s)))
one_refused s t p y e q (Ok h) k = tt
one_refused s t p y e q (Err x) k = (size_of_payload (rational y), k, omega (arith, ap (λ (z : Ratio). size_of_payload (rational z)) q, one_bytes, ap (λ (o : Pending). next_room o (forest s)) e))

-- the draft with it
pub with_node : {base : Forest} {ts us : Trees} {notes new : List Noted} {s t : State} {i n : ℕ} {x : Payload} {p : Pending} → IsReady p (forest s) us → IsDraft base ts (with_next p (forest s) us) notes s → IsWritten p (forest s) x → Ends i (one_tree i x empty) (forest s) (forest t) → n ≡ children_taken p
    → new ≡ notes ++ (record { node = i; children = n }) ∷ [] → IsDraft base ts us new t
with_node {base = base} {ts = ts} {us = us} {notes = notes} {s = s} {t = t} {i = i} {n = n} {x = x} {p = p} r d w e m q =
    let k = w.takes-them us r in
    let here : IsDraft base ts (more (grown x (first (children_taken p) us)) (behind (children_taken p) us)) notes s = subst (λ (vs : Trees). IsDraft base ts vs notes s) (w.grows us) d in
    subst (λ (ns : List Noted). IsDraft base ts us ns t) (sym (q ∙ ap (λ (j : ℕ). notes ++ (record { node = i; children = j }) ∷ []) m)) (written (children_taken p) here e k.0 k.1)

-- ---- the face of a tree under way

pub record IsWriting (first : State) (t : Tree) (s : State) (notes : List Noted) (pending : List Pending) : Type 0 where
  pub us : Trees
  pub draft : IsDraft (forest first) (more (face t) none) us notes s
  pub owes : Owes pending (forest s) us (rooms pending (forest s))
  pub room : free_of first + rooms pending (forest s) < free_of s + 4 * size t
  pub kept : KeepsRefusals first s

pub started : {i : ℕ} (s : State) (new : List Pending) → IsExpression i (forest s) → AllParts IsShowable (plain (tree_at i (forest s)))
    → ((f : Forest) (us : Trees) (r : ℕ) → Owes [] f us r → IsReady (Part Face i) f us → Owes new f (with_next (Part Face i) f us) (r + next_room (Part Face i) f)) → IsWriting s (plain (tree_at i (forest s))) s [] new
started {i = i} s new x h p =
    let o = p (forest s) none 0 (owes_none (forest s)) (record { expression = x; showable = h; takes-it = tt }) in
    record {
      us = more (face (plain (tree_at i (forest s)))) none;
      draft = no_nodes s (more (face (plain (tree_at i (forest s)))) none);
      owes = owes_own o;
      room = omega (arith, o.bytes, least_size (plain (tree_at i (forest s))));
      kept = record { size = refl; refusals = refl; last_refused = refl };
    }

-- all that was placed stands behind what stood
pub stands_first : {first s : State} {t : Tree} {notes : List Noted} {pending : List Pending} → IsWriting first t s notes pending → Starts (forest first) (forest s)
stands_first w = record { behind = alone_in w.draft.nodes; whole = w.draft.stand }

-- a tree in a form comes next
pub record IsResolved (first : State) (t : Tree) (s : State) (notes : List Noted) (xs ys : List Pending) (form : Form) (i : ℕ) : Type 0 where
  pub ready : IsReadyPart form i (forest s)
  pub room : 8 * length ys + form_room form (plain (tree_at i (forest s))) ≤ rooms xs (forest s)
  pub most : rooms xs (forest s) ≤ 4 * size t
  pub next : (zs : List Pending) → ((us : Trees) (r : ℕ) → Owes ys (forest s) us r → Owes zs (forest s) (more (in_form form (plain (tree_at i (forest s)))) us) (r + form_room form (plain (tree_at i (forest s))) - 1)) → IsWriting first t s notes zs
  pub less : (zs : List Pending) → ((us : Trees) (r : ℕ) → Owes ys (forest s) us r → Owes zs (forest s) (more (in_form form (plain (tree_at i (forest s)))) us) (r + form_room form (plain (tree_at i (forest s))) - 1)) → rooms zs (forest s) < rooms xs (forest s)

pub resolved : {first s : State} {t : Tree} {notes : List Noted} {xs ys : List Pending} {form : Form} {i : ℕ} → Stands first → Stands s → IsWriting first t s notes xs → xs ≡ ys ++ Part form i ∷ [] → IsResolved first t s notes xs ys form i
resolved {first = start} {s = s} {t = t} {notes = notes} {xs = xs} {ys = ys} {form = form} {i = i} st su w e =
    let p = popped (Part form i) w.owes e in
    let all : rooms xs (forest s) ≡ rooms ys (forest s) + form_room form (plain (tree_at i (forest s))) = ap (λ (zs : List Pending). rooms zs (forest s)) e ∙ rooms-snoc ys (Part form i) (forest s) in
    let some = some_room form (plain (tree_at i (forest s))) in
    let o = λ (zs : List Pending) (h : (us : Trees) (r : ℕ) → Owes ys (forest s) us r → Owes zs (forest s) (more (in_form form (plain (tree_at i (forest s)))) us) (r + form_room form (plain (tree_at i (forest s))) - 1)). h p.behind-it (rooms ys (forest s)) p.rest in
    record {
      ready = p.ready;
      room = omega (arith, all, eight_each ys (forest s));
      most = omega (arith, w.room, free_less start s st su w.kept (stands_first w));
      next = λ zs h. record {
        us = w.us;
        draft = w.draft;
        owes = owes_own {r = rooms xs (forest s)} (owes_as {s = rooms xs (forest s)} (o zs h) (sym p.is) (omega (arith, all)));
        room = omega (arith, (o zs h).bytes, all, w.room, some);
        kept = w.kept;
      };
      less = λ zs h. omega (arith, (o zs h).bytes, all, some);
    }

-- a node comes next
pub record IsPlacing (first : State) (t : Tree) (s : State) (notes : List Noted) (xs ys : List Pending) (p : Pending) : Type 0 where
  pub us : Trees
  pub ready : IsReady p (forest s) us
  pub draft : IsDraft (forest first) (more (face t) none) (with_next p (forest s) us) notes s
  pub short : free_of s < next_room p (forest s) → free_of first < 4 * size t
  pub next : (new : State) (ns : List Noted) → IsDraft (forest first) (more (face t) none) us ns new → KeepsRefusals s new → Starts (forest s) (forest new) → free_of s ≤ free_of new + next_room p (forest s) → IsWriting first t new ns ys
  pub less : (new : State) → Starts (forest s) (forest new) → rooms ys (forest new) < rooms xs (forest s)

pub placing : {first s : State} {t : Tree} {notes : List Noted} {xs ys : List Pending} (p : Pending) → IsWriting first t s notes xs → xs ≡ ys ++ p ∷ [] → IsPlacing first t s notes xs ys p
placing {first = start} {s = s} {t = t} {notes = notes} {xs = xs} {ys = ys} p w e =
    let k = popped p w.owes e in
    let all : rooms xs (forest s) ≡ rooms ys (forest s) + next_room p (forest s) = ap (λ (zs : List Pending). rooms zs (forest s)) e ∙ rooms-snoc ys p (forest s) in
    record {
      us = k.behind-it;
      ready = k.ready;
      draft = subst (λ (vs : Trees). IsDraft (forest start) (more (face t) none) vs notes s) k.is w.draft;
      short = λ h. omega (arith, h, all, w.room);
      next = λ new ns d q b c.
          let same : rooms ys (forest new) ≡ rooms ys (forest s) = rooms_still b.behind k.rest b.whole in
          record {
            us = k.behind-it;
            draft = d;
            owes = owes_own (owes_still b.behind k.rest b.whole);
            room = omega (arith, same, c, all, w.room);
            kept = keeps_after start s new w.kept q;
          };
      less = λ new b. omega (arith, rooms_still b.behind k.rest b.whole, all, eight_next p (forest s));
    }

-- nothing is owed
pub all_written : {first s : State} {t : Tree} {notes : List Noted} {xs : List Pending} → IsWriting first t s notes xs → length xs ≡ 0 → IsDraft (forest first) (more (face t) none) none notes s
all_written {first = start} {s = s} {t = t} {notes = notes} {xs = xs} w z = by xs w.owes z
  where
    by : (ps : List Pending) → Owes ps (forest s) w.us (rooms xs (forest s)) → length ps ≡ 0 → IsDraft (forest start) (more (face t) none) none notes s
    by [] o z = subst (λ (vs : Trees). IsDraft (forest start) (more (face t) none) vs notes s) (sym o.trees) w.draft
    by (p ∷ ps) o z = absurd (omega (arith, z))

-- ---- a node's children are few

pub few_children : (i : ℕ) (s : State) → Stands s → IsExpression i (forest s) → count (children_of (plain (tree_at i (forest s)))) ≤ 65535
few_children i s st e = omega (arith, few_in i s st, kids_nodes (tree_at i (forest s)), expression_children i (forest s) e)

-- ---- what comes next

pub is_node : (p : Pending) → ((form : Form) (i : ℕ) → p ≡ Part form i → ⊥) → IsNode p
is_node (Part form i) h = absurd (h form i refl)
is_node _ h = tt

pub stands_after : {f g h : Forest} → Starts f g → Starts g h → Starts f h
stands_after {f = f} a b = record { behind = join a.behind b.behind; whole = b.whole ∙ ap (λ (x : Forest). join x b.behind) a.whole ∙ join_assoc f a.behind b.behind }
