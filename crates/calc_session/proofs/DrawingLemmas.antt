-- Lemmas on the layout of the last answer, and on the rows of its picture.
use Rattle.calc_session.proofs.Shared.{◌*◌, ◌≡◌, ◌∙◌, zero, suc, [], ◌∷◌, ◌++◌, encode_utf8_all, Bool, true, false, nat_le, refl, sym, ap, subst, arith, append-nil, length-append, encodes-append}
use Rattle.calc_session.proofs.Shared.{Appends-trans, leb-true, leb-false, Appends, IsHeld, Table, Full, free_of, GivesLayout, IsLayout, drawing, given_drawing, Block, before_cut, cut, picture}
use Rattle.calc_session.proofs.Shared.{IsExpression, plain, bytes_in, tree_at, Stands, forest, tree_of_root, root_held, Content, extended, IsDrawn, IsDrawnInPart, first_rows, row_text, told_at}
use Rattle.calc_session.proofs.Shared.{AppendsPart, AppendsPart-after, AppendsPart-more, laying, Layout, row_room, all-root_tree}
use Rattle.std.proofs.Common.{ℕ, ◌+◌, ◌≤◌, List, length, Option, Result, Ok, Err, append_assoc}
use Rattle.node_pool.specs.State.{State as PoolState}
use Rattle.pool_layouts.specs.Layouts.{layout}

-- ---- the last answer

pub answer_expression : {t : Table} {s : PoolState} → Stands s → IsHeld t (forest s) → IsExpression t.ans (forest s)
answer_expression {t = t} {s = s} st h = grind (arith, root_held, tree_of_root, all-root_tree)

-- ---- what is told of a layout

pub told_where : (told : Layout → List ℕ) (i : ℕ) (p : PoolState) (left : ℕ) → laying (free_of p) (layout (plain (tree_at i (forest p)))) ≡ Ok left → told_at told i p ≡ Ok (told (layout (plain (tree_at i (forest p)))))
told_where told i p left e = ap (λ (r : Result ℕ Full). elim r [ Ok left ↦ Ok (told (layout (plain (tree_at i (forest p))))) | Err full ↦ Err full ]) e

pub lacks_where : (told : Layout → List ℕ) (i : ℕ) (p : PoolState) (full : Full) → laying (free_of p) (layout (plain (tree_at i (forest p)))) ≡ Err full → told_at told i p ≡ Err full
lacks_where told i p full e = ap (λ (r : Result ℕ Full). elim r [ Ok left ↦ Ok (told (layout (plain (tree_at i (forest p))))) | Err full ↦ Err full ]) e

pub drawn_all : (r : Result (List ℕ) Full) (rows : List ℕ) (a b : Option (List ℕ)) → r ≡ Ok rows → Appends a b rows → IsDrawn r a b
drawn_all r rows a b e h = subst (λ x. IsDrawn x a b) (sym e) h

pub drawn_in_part : (r : Result (List ℕ) Full) (rows : List ℕ) (a b : Option (List ℕ)) → r ≡ Ok rows → AppendsPart a b rows → IsDrawnInPart r a b
drawn_in_part r rows a b e h = subst (λ x. IsDrawnInPart x a b) (sym e) h

-- ---- rows

-- the first of more rows
pub rows_front : (b : Block) (m n : ℕ) → m ≤ n → (rest : List ℕ) × (first_rows b n ≡ first_rows b m ++ rest)
rows_front b m zero h = let none : m ≡ 0 = omega (arith, h) in ([], subst (λ k. [] ≡ first_rows b k ++ []) (sym none) refl)
rows_front b m (suc n) h = by (nat_le m n) refl (rows_front b m n)
  where
    by : (t : Bool) → nat_le m n ≡ t → (m ≤ n → (rest : List ℕ) × (first_rows b n ≡ first_rows b m ++ rest)) → (rest : List ℕ) × (first_rows b (suc n) ≡ first_rows b m ++ rest)
    by true e front = let (rest, is) = front (leb-true m n e) in (rest ++ row_text b n, ap (λ x. x ++ row_text b n) is ∙ append_assoc (first_rows b m) rest (row_text b n))
    by false e front = let same : m ≡ suc n = omega (arith, h, leb-false m n e) in ([], subst (λ k. first_rows b (suc n) ≡ first_rows b k ++ []) (sym same) (sym (append-nil (first_rows b (suc n)))))

-- one row more
pub rows_more : (b : Block) (y : ℕ) (x u v : Option (List ℕ)) (written : List ℕ) → Appends x u (first_rows b y) → written ≡ row_text b y → Appends u v written → Appends x v (first_rows b (y + 1))
rows_more b y x u v written h e k = grind (arith, Appends-trans)

-- a row is cut off
pub rows_cut : (b : Block) (y n : ℕ) (x u v : Option (List ℕ)) (written : List ℕ) → suc y ≤ n → Appends x u (first_rows b y) → written ≡ row_text b y → AppendsPart u v written → AppendsPart x v (first_rows b n)
rows_cut b y n x u v written more before e h =
    let (rest, is) = rows_front b (suc y) n more in
    subst (AppendsPart x v) (sym is) (AppendsPart-more x v (first_rows b (suc y)) rest (AppendsPart-after x u v (first_rows b y) (row_text b y) before (subst (AppendsPart u v) e h)))

-- cutting takes no bytes in
bytes_cons : (c : ℕ) (cs : List ℕ) → length (encode_utf8_all (c ∷ cs)) ≡ length (encode_utf8_all (c ∷ [])) + length (encode_utf8_all cs)
bytes_cons c cs = ap length (encodes-append (c ∷ []) cs) ∙ length-append (encode_utf8_all (c ∷ [])) (encode_utf8_all cs)

cut_before : (c : ℕ) (cs : List ℕ) → length (encode_utf8_all (before_cut c cs)) ≤ length (encode_utf8_all (c ∷ [])) + length (encode_utf8_all cs)
cut_before c cs = grind (arith, bytes_cons)

cut_bytes : (cs : List ℕ) → length (encode_utf8_all (cut cs)) ≤ length (encode_utf8_all cs)
cut_bytes [] = omega arith
cut_bytes (c ∷ cs) = omega (arith, cut_before c (cut cs), cut_bytes cs, bytes_cons c cs)

-- a row and its newline have room
pub row_fits : (s : PoolState) (i y : ℕ) → Stands s → IsLayout i (forest s) → length (encode_utf8_all (cut ((picture (drawing (tree_at i (forest s)))).line y))) ≤ 2 * bytes_in (tree_at i (forest s))
row_fits s i y st x =
    let whole = row_room s i y (record { bytes = []; capacity = 2 * bytes_in (tree_at i (forest s)) }) st x (omega arith) in
    omega (arith, whole, cut_bytes ((picture (drawing (tree_at i (forest s)))).line y))

-- the text of a row: it was empty, the row was appended, and then a newline
pub row_written : (old clear row new : Content) (line : List ℕ) (more : List ℕ) → clear ≡ record old { bytes = [] } → row ≡ extended clear line → new ≡ extended row more → new.bytes ≡ line ++ more
row_written old clear row new line more e f h = grind arith

-- ---- a layout that was given, or refused

module _ (told : Layout → List ℕ) (i : ℕ) (p q : PoolState) where
  pub given_told : (h j left : ℕ) → Stands q → GivesLayout (forest p) (forest q) h (layout (plain (tree_at i (forest p)))) → j ≡ h → laying (free_of p) (layout (plain (tree_at i (forest p)))) ≡ Ok left
      → told_at told i p ≡ Ok (told (drawing (tree_at j (forest q))))
  given_told h j left st g same fits = told_where told i p left fits ∙ ap (λ (l : Layout). Ok (told l)) (sym (ap (λ k. drawing (tree_at k (forest q))) same ∙ given_drawing st g))
