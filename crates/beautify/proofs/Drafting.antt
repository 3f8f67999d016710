-- Nodes that are written one behind another, and become one tree.
use Rattle.beautify.proofs.Shared.{adopted_there, inl, inr, ◌≡◌, ◌∙◌, ℕ, suc, ◌≤◌, List, [], ◌∷◌, ◌++◌, length, Option, None, Some, refl, sym, ap, subst, arith, true, false, Bool, cond, eqb}
use Rattle.beautify.proofs.Shared.{length-append, eq-eqb, Payload, Tree, Trees, none, more, count, grown, takes, plains, State, Forest, Label, empty, tree, join, arity, first_trees, rest_trees}
use Rattle.beautify.proofs.Shared.{one_tree, root_id, Ends, Gives, Represents, has_root, join_assoc, all-first_trees, all-rest_trees, gives, forest, IsDraft, Written, Noted, AreNew, AreFound}
use Rattle.beautify.proofs.Shared.{alone_in, notes_of, spelled, with_written, first, behind, by_test, IsWhole, IsOnce, join-empty, count-plains, IfSome, ◌⊎◌, behind_there, arity-first_trees}
use Rattle.beautify.proofs.Shared.{root-left, root-right, adopted, behind_root}

-- one more node
pub written : {base : Forest} {ts us : Trees} {notes : List Noted} {s t : State} {i : ℕ} {x : Payload} (n : ℕ) → IsDraft base ts (more (grown x (first n us)) (behind n us)) notes s → Ends i (one_tree i x empty) (forest s) (forest t) → takes x n ≡ true → n ≤ count us
    → IsDraft base ts us (notes ++ (record { node = i; children = n }) ∷ []) t
written {base = base} {i = i} {x = x} n d e t m = record {
  nodes = (record { id = i; payload = x; children = n }) ∷ d.nodes;
  notes-are = ap (λ (ns : List Noted). ns ++ (record { node = i; children = n }) ∷ []) d.notes-are;
  stand = e.whole ∙ ap (λ (f : Forest). join f (one_tree i x empty)) d.stand ∙ join_assoc base (alone_in d.nodes) (one_tree i x empty);
  new = (subst (λ (f : Forest). has_root i f ≡ false) d.stand e.clear, d.new);
  found = (t, m, d.found);
  spells = d.spells;
}

pub no_nodes : (s : State) (ts : Trees) → IsDraft (forest s) ts ts [] s
no_nodes s ts = record { nodes = []; notes-are = refl; stand = sym (join-empty (forest s)); new = tt; found = tt; spells = refl }

-- ---- they take their children

plains-first : (n : ℕ) (f : Forest) → plains (first_trees n f) ≡ first n (plains f)
plains-first (suc n) (tree l k r) = ap (more (grown l.payload (plains k))) (plains-first n r)
plains-first n f = refl

plains-rest : (n : ℕ) (f : Forest) → plains (rest_trees n f) ≡ behind n (plains f)
plains-rest (suc n) (tree l k r) = plains-rest n r
plains-rest n f = refl

-- the first nodes stand alone, and the others are trees already, the first of which has this root
pub record IsJoining (base : Forest) (ts : Trees) (notes : List Noted) (f : Forest) (root : Option ℕ) : Type 0 where
  pub nodes : List Written
  pub us : Trees
  pub made : Forest
  pub notes-are : notes ≡ notes_of nodes
  pub stand : f ≡ join base (join (alone_in nodes) made)
  pub new : AreNew nodes base
  pub found : AreFound nodes us
  pub spells : spelled nodes us ≡ ts
  pub trees : Represents made us
  pub top : IfSome root (λ i. (root_id made ≡ i) × (has_root i base ≡ false))
  pub some : arity made ≡ 0 ⊎ (i : ℕ) × (root ≡ Some i)

pub started : {base : Forest} {ts : Trees} {notes : List Noted} {s : State} → IsDraft base ts none notes s → IsJoining base ts notes (forest s) None
started {base = base} d = record {
  nodes = d.nodes;
  us = none;
  made = empty;
  notes-are = d.notes-are;
  stand = d.stand ∙ ap (join base) (sym (join-empty (alone_in d.nodes)));
  new = d.new;
  found = d.found;
  spells = d.spells;
  trees = record { once = tt; whole = tt; plain_trees = refl };
  top = tt;
  some = inl refl;
}

snoc_same : (xs ys : List Noted) (x y : Noted) → xs ++ x ∷ [] ≡ ys ++ y ∷ [] → (xs ≡ ys) × (x ≡ y)
snoc_same [] [] x y e = (refl, cc)
snoc_same (a ∷ xs) (b ∷ ys) x y e =
    let tails : xs ++ x ∷ [] ≡ ys ++ y ∷ [] = cc in
    let heads : a ≡ b = cc in
    let same = snoc_same xs ys x y tails in
    (ap (λ (z : Noted). z ∷ xs) heads ∙ ap (λ (zs : List Noted). b ∷ zs) same.0, same.1)
snoc_same xs ys x y e = absurd (omega (arith, ap length e, length-append xs (x ∷ []), length-append ys (y ∷ [])))

no_root : (i : ℕ) (f g : Forest) → has_root i (join f g) ≡ false → has_root i f ≡ false
no_root i f g h = by_test (λ (t : Bool). has_root i f ≡ t → t ≡ false) (has_root i f) (λ e q. absurd (cc (root-left i f g q, h))) (λ e q. refl) refl

-- the last of the nodes that stand alone
pub record IsLastAlone (base : Forest) (ts : Trees) (ys : List Noted) (n : Noted) (f : Forest) : Type 0 where
  pub root : has_root n.node f ≡ true
  pub within : n.children ≤ arity (behind_root n.node f)
  pub next : IsJoining base ts ys (adopted n.node n.children f) (Some n.node)

joined_one : (base : Forest) (ts us : Trees) (ys : List Noted) (n : Noted) (f made : Forest) (w : Written) (ws : List Written) → notes_of (w ∷ ws) ≡ ys ++ n ∷ [] → f ≡ join base (join (alone_in (w ∷ ws)) made) → AreNew (w ∷ ws) base → AreFound (w ∷ ws) us → spelled (w ∷ ws) us ≡ ts → Represents made us
    → IsLastAlone base ts ys n f
joined_one base ts us ys n f made w ws e p new found spells r =
    let same = snoc_same (notes_of ws) ys (record { node = w.id; children = w.children }) n e in
    let id-is : w.id ≡ n.node = ap (λ (y : Noted). y.node) same.1 in
    let many : w.children ≡ n.children = ap (λ (y : Noted). y.children) same.1 in
    let l : Label = record { id = w.id; count = 1; payload = w.payload } in
    let before = join base (alone_in ws) in
    let whole : f ≡ join before (tree l empty made) = p ∙ ap (join base) (join_assoc (alone_in ws) (one_tree w.id w.payload empty) made) ∙ sym (join_assoc base (alone_in ws) (tree l empty made)) in
    let clear : has_root n.node before ≡ false = subst (λ (i : ℕ). has_root i before ≡ false) id-is new.0 in
    let fits : w.children ≤ arity made = omega (arith, found.1, ap count r.plain_trees, count-plains made) in
    let next-made = tree l (first_trees n.children made) (rest_trees n.children made) in
    record {
      root = ap (has_root n.node) whole ∙ root-right n.node before (tree l empty made) clear ∙ ap (λ (t : Bool). cond t true (has_root n.node made)) (eq-eqb w.id n.node id-is);
      within = omega (arith, fits, many, ap arity (ap (behind_root n.node) whole ∙ behind_there n.node before made empty l clear id-is));
      next = record {
        nodes = ws;
        us = with_written w us;
        made = next-made;
        notes-are = sym same.0;
        stand = ap (adopted n.node n.children) whole ∙ adopted_there n.node n.children before made empty l clear id-is ∙ join_assoc base (alone_in ws) next-made;
        new = new.1;
        found = found.2;
        spells = spells;
        trees = record {
          once = (refl, all-first_trees IsOnce n.children made r.once, all-rest_trees IsOnce n.children made r.once);
          whole = (subst (λ (k : ℕ). takes w.payload k ≡ true) (omega (arith, many, arity-first_trees n.children made (omega (arith, fits, many)))) found.0, all-first_trees IsWhole n.children made r.whole, all-rest_trees IsWhole n.children made r.whole);
          plain_trees = rw (plains-first, plains-rest, ← many, r.plain_trees) refl;
        };
        top = (id-is, no_root n.node base (alone_in ws) clear);
        some = inr (n.node, refl);
      };
    }

pub joined : {base : Forest} {ts : Trees} {xs ys : List Noted} {f : Forest} {root : Option ℕ} (n : Noted) → IsJoining base ts xs f root → xs ≡ ys ++ n ∷ [] → IsLastAlone base ts ys n f
joined {base = base} {ts = ts} {xs = xs} {ys = ys} {f = f} n j e = by j.nodes (sym j.notes-are ∙ e) j.stand j.new j.found j.spells
  where
    by : (ws : List Written) → notes_of ws ≡ ys ++ n ∷ [] → f ≡ join base (join (alone_in ws) j.made) → AreNew ws base → AreFound ws j.us → spelled ws j.us ≡ ts → IsLastAlone base ts ys n f
    by [] q p new found spells = absurd (omega (arith, ap length q, length-append ys (n ∷ [])))
    by (w ∷ ws) q p new found spells = joined_one base ts j.us ys n f j.made w ws q p new found spells j.trees

-- all are one tree
pub record IsJoined (base : Forest) (t : Tree) (f : Forest) (root : Option ℕ) : Type 0 where
  pub id : ℕ
  pub root-is : root ≡ Some id
  pub gives-it : Gives base f id (λ u. u ≡ t)

pub all_joined : {base : Forest} {t : Tree} {xs : List Noted} {f : Forest} {root : Option ℕ} → IsJoining base (more t none) xs f root → length xs ≡ 0 → IsJoined base t f root
all_joined {base = base} {t = t} {xs = xs} {f = f} {root = root} j z = by j.nodes j.notes-are j.stand j.spells
  where
    one : (us : Trees) → us ≡ more t none → Represents j.made us → arity j.made ≡ 1
    one us e r = omega (arith, count-plains j.made, ap count r.plain_trees, ap count e)

    end : j.us ≡ more t none → f ≡ join base j.made → (arity j.made ≡ 0 ⊎ (i : ℕ) × (root ≡ Some i)) → IsJoined base t f root
    end e p (inl n) = absurd (omega (arith, one j.us e j.trees, n))
    end e p (inr s) =
        let top = subst (λ (o : Option ℕ). IfSome o (λ i. (root_id j.made ≡ i) × (has_root i base ≡ false))) s.1 j.top in
        record {
          id = s.0;
          root-is = s.1;
          gives-it = gives (record { whole = p; alone = one j.us e j.trees; root = top.0; clear = top.1 }) (subst (Represents j.made) e j.trees) refl;
        }

    by : (ws : List Written) → xs ≡ notes_of ws → f ≡ join base (join (alone_in ws) j.made) → spelled ws j.us ≡ more t none → IsJoined base t f root
    by [] n p e = end e p j.some
    by (w ∷ ws) n p e = absurd (omega (arith, ap length n, length-append (notes_of ws) ((record { node = w.id; children = w.children }) ∷ []), z))
