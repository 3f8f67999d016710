-- What is stored, in lines that store it again.
use Rattle.std.proofs.Common.{◌≡◌, ◌∙◌, ◌≤◌, ◌<◌, ◌+◌, ◌*◌, ◌++◌, ◌∷◌, [], ℕ, zero, suc, List, Some, true, length, take, get_or, slice_get, refl, sym, ap, subst, arith, cond, codes}
use Rattle.std.proofs.lemmas.List.{length-append, length-map, take_all}
use Rattle.calc_commands.proofs.HelpLines.{three, told_line}
use Rattle.calc_commands.specs.Words.{newline_before, with_newlines}
use Rattle.calc_language.specs.{Texts.{AreWritable, IsWritable, text}, Tokens.{arrow_sign}}
use Rattle.calc_session.specs.Naming.{names_told, store_line, store_lines}
use Rattle.calc_terms.specs.Trees.{Tree, size}
use Rattle.line_text.proofs.{Fitting.{fitting}, Lengths.{short}}
use Rattle.line_text.specs.Content.{Content, extended}
use Rattle.name_table.proofs.Apart.{held_apart}
use Rattle.name_table.specs.{Filling.{value_in}, Held.{AreRoots, IsHeld, bytes_held}, Tables.{Entry, Table}}
use Rattle.node_pool.specs.State.{State as PoolState}
use Rattle.tree_handles.proofs.{Counted.{all-root_tree}, Lasts.{plain_root, tree_of_root}, Outcomes.{by_test}, Places.{used_forest}, Plains.{size-plain}, Roots.{root_arity, root_held}}
use Rattle.tree_handles.specs.{Expressions.{AllExpressions, IsExpression, IsWhole, plain, plains}, Forest.{Forest, bytes_in, empty, tree}, Inside.{tree_at}, Roots.{has_root, root_tree}, Standing.{Stands, forest}}
use Rattle.std.proofs.Common.{eqb}

-- ---- the tree of a root

writable_root : (i : ℕ) (f : Forest) → has_root i f ≡ true → AreWritable (plains f) → IsWritable (plain (root_tree i f))
writable_root i empty h w = absurd cc
writable_root i (tree l k r) h w = by_test (λ t. cond t true (has_root i r) ≡ true → IsWritable (plain (cond t (tree l k empty) (root_tree i r)))) (eqb l.id i) (λ p q. w.0) (λ p q. writable_root i r q w.1) h

module _ (s : PoolState) (i : ℕ) (st : Stands s) (root : has_root i (forest s) ≡ true) (whole : AllExpressions (forest s)) where
  pub root_expression : IsExpression i (forest s)
  root_expression = record { live = root_held i (forest s) root; whole = subst AllExpressions (sym (tree_of_root i st root)) (all-root_tree IsWhole i (forest s) whole) }

  pub root_bytes : size (plain (tree_at i (forest s))) ≡ bytes_in (root_tree i (forest s))
  root_bytes = ap size (plain_root i st root) ∙ size-plain (root_tree i (forest s)) (root_arity i (forest s) root) (all-root_tree IsWhole i (forest s) whole)

  pub root_writable : AreWritable (plains (forest s)) → IsWritable (plain (tree_at i (forest s)))
  root_writable w = subst IsWritable (sym (plain_root i st root)) (writable_root i (forest s) root w)

  pub root_short : AreWritable (plains (forest s)) → length (text (plain (tree_at i (forest s)))) ≤ 2 * bytes_in (root_tree i (forest s))
  root_short w = omega (arith, short (plain (tree_at i (forest s))) (root_writable w) (fitting i s st (root_held i (forest s) root)), root_bytes)

  -- the line is written
  pub line_written : (old a b d : Content) (x : List ℕ) → a ≡ extended old (text (plain (tree_at i (forest s)))) → b ≡ extended a arrow_sign → d ≡ extended b x → d ≡ extended old (store_line (value_in (forest s) (record { name = x; tree = i })))
  line_written old a b d x p q r = three old a b d (text (plain (tree_at i (forest s)))) arrow_sign x p q r ∙ ap (λ (t : Tree). extended old (text t ++ (arrow_sign ++ x))) (plain_root i st root)

  pub line_short : (old a b d : Content) (x : List ℕ) → AreWritable (plains (forest s)) → length x ≤ 7 → a ≡ extended old (text (plain (tree_at i (forest s)))) → b ≡ extended a arrow_sign → d ≡ extended b x → length d.bytes ≤ length old.bytes + (2 * bytes_in (root_tree i (forest s)) + 10)
  line_short old a b d x w l p q r =
      omega (arith, root_short w, l, ap (λ (c : Content). length c.bytes) p, ap (λ (c : Content). length c.bytes) q, ap (λ (c : Content). length c.bytes) r, length-append old.bytes (text (plain (tree_at i (forest s)))), length-append a.bytes arrow_sign, length-append b.bytes x)

-- ---- the entries

pub root_at : (n : ℕ) (es : List Entry) (f : Forest) (d : Entry) → slice_get es n ≡ Some d → AreRoots es f → has_root d.tree f ≡ true
root_at n [] f d e r = absurd cc
root_at zero (x ∷ es) f d e r = let same : x ≡ d = cc in subst (λ (y : Entry). has_root y.tree f ≡ true) same r.0
root_at (suc n) (x ∷ es) f d e r = root_at n es f d e r.1

line_at : (n : ℕ) (es : List Entry) (f : Forest) (d : Entry) → slice_get es n ≡ Some d → store_line (value_in f d) ≡ get_or (store_lines f es) n []
line_at n [] f d e = absurd cc
line_at zero (x ∷ es) f d e = let same : x ≡ d = cc in ap (λ (y : Entry). store_line (value_in f y)) (sym same)
line_at (suc n) (x ∷ es) f d e = line_at n es f d e

front_bytes : (n : ℕ) (es : List Entry) (f : Forest) (d : Entry) → slice_get es n ≡ Some d → bytes_held (take n es) f + bytes_in (root_tree d.tree f) ≤ bytes_held es f
front_bytes n [] f d e = absurd cc
front_bytes zero (x ∷ es) f d e = let same : x ≡ d = cc in omega (arith, ap (λ (y : Entry). bytes_in (root_tree y.tree f)) same)
front_bytes (suc n) (x ∷ es) f d e = omega (arith, front_bytes n es f d e)

next_bytes : (n : ℕ) (es : List Entry) (f : Forest) (d : Entry) → slice_get es n ≡ Some d → bytes_held (take (suc n) es) f ≡ bytes_held (take n es) f + bytes_in (root_tree d.tree f)
next_bytes n [] f d e = absurd cc
next_bytes zero (x ∷ es) f d e = let same : x ≡ d = cc in omega (arith, ap (λ (y : Entry). bytes_in (root_tree y.tree f)) same)
next_bytes (suc n) (x ∷ es) f d e = omega (arith, next_bytes n es f d e)

-- ---- while the lines are written

pub record AreNamesWritten (s : PoolState) (t : Table) (old : Content) (at : ℕ) (now : Content) : Type 0 where
  pub text : now.bytes ≡ with_newlines (take at (store_lines (forest s) t.stored))
  pub capacity : now.capacity ≡ old.capacity
  pub short : length now.bytes ≤ 2 * bytes_held (take at t.stored) (forest s) + 11 * at

module _ (s : PoolState) (t : Table) (st : Stands s) (held : IsHeld t (forest s)) (old : Content) (at : ℕ) (a : Content) (w : AreNamesWritten s t old at a) (within : at < length t.stored) (d : Entry) (e : slice_get t.stored at ≡ Some d) (room : 2 * s.size + 768 ≤ old.capacity) where
  pub line_room : length a.bytes + 2 * bytes_in (root_tree d.tree (forest s)) + 11 ≤ a.capacity
  line_room =
      omega (arith, w.short, w.capacity, room, held.few, within, front_bytes at t.stored (forest s) d e, (held_apart t (forest s) held).within, used_forest s st, st.pool.fits)

  pub names_next : (b c : Content) (newline : List ℕ) → b ≡ extended a newline → newline ≡ newline_before at → length newline ≤ 1 → c ≡ extended b (store_line (value_in (forest s) d)) → length c.bytes ≤ length b.bytes + (2 * bytes_in (root_tree d.tree (forest s)) + 10)
      → AreNamesWritten s t old (at + 1) c
  names_next b c newline p is one q l =
      let next : at + 1 ≡ suc at = omega arith in
      record {
        text = told_line [] (store_lines (forest s) t.stored) at (store_line (value_in (forest s) d)) newline a b c (omega (arith, within, length-map t.stored (λ (y : Entry). store_line (value_in (forest s) y)))) (line_at at t.stored (forest s) d e) w.text p is q;
        capacity = ap (λ (x : Content). x.capacity) q ∙ ap (λ (x : Content). x.capacity) p ∙ w.capacity;
        short =
            omega (arith, w.short, l, one, ap (λ (x : Content). length x.bytes) p, length-append a.bytes newline, next_bytes at t.stored (forest s) d e, ap (λ (n : ℕ). bytes_held (take n t.stored) (forest s)) next);
      }

some_told : (ts : List (List ℕ)) → 0 < length ts → names_told ts ≡ with_newlines ts
some_told [] h = absurd (omega (arith, h))
some_told (t ∷ ts) h = refl

pub names_all : (s : PoolState) (t : Table) (old now : Content) (at : ℕ) → AreNamesWritten s t old at now → length t.stored ≤ at → 0 < length t.stored → now.bytes ≡ names_told (store_lines (forest s) t.stored)
names_all s t old now at w l some =
    let many = length-map t.stored (λ (y : Entry). store_line (value_in (forest s) y)) in
    w.text ∙ ap with_newlines (take_all at (store_lines (forest s) t.stored) (omega (arith, l, many))) ∙ sym (some_told (store_lines (forest s) t.stored) (omega (arith, some, many)))

pub none_told : (f : Forest) (es : List Entry) → length es ≡ 0 → names_told (store_lines f es) ≡ codes "no names"
none_told f [] h = refl
none_told f (e ∷ es) h = absurd (omega (arith, h))
