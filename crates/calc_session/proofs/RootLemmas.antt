-- Lemmas on the texts of roots.
use Rattle.calc_session.proofs.Shared.{◌≡◌, ◌∙◌, suc, ◌*◌, [], ◌∷◌, ◌++◌, length-append, map, codes, inl, inr, true, false, refl, sym, ap, subst, arith, cases_lt, length-map, is_reduced, face, HasNames, IsWritable, text}
use Rattle.calc_session.proofs.Shared.{Bool, Fraction, is_zero_fraction, num, add, append, none, more, Tree, Forest, root_tree, last_tree, adds_tree, KeepsRefusals, Full, sum_of_trees, is_undef, size, Adds, adds_free, adds_one, Content, extended, free_of, IsExpression, plain, Gives, tree_of, tree_at, without_root, Stands, forest, given_rest, given_told, gives_as, face_written}
use Rattle.calc_session.proofs.{EvaluationLemmas.{last_nodes}, SessionLemmas.{face_expression, face_tree}, SolutionLemmas.{short_there}, StoredTrees.{named_tree}}
use Rattle.calc_algebra.specs.Surds.{term}
use Rattle.calc_session.proofs.Shared.{◌≢◌, get_or, take, take_all, int_is_zero, no_zero, zero_fraction}
use Rattle.calc_terms.proofs.SmallLaws.{negative_not_zero}
use Rattle.calc_terms.specs.Fractions.{negative}
use Rattle.equation_roots.specs.{Factorings.{IsAboveZero, Rest, nothing, pair, rootless, surds_of}, Rests.{pair_of}}
use Rattle.std.proofs.{Math.Seq.{take-suc}, lemmas.List.{length-take, map-append}}
use Rattle.number_forms.specs.Shapes.{term_tree}
use Rattle.std.specs.Prelude.{not, if◌then◌else◌, Result, Ok, Err, IfOk, OnOk}
use Rattle.std.proofs.Common.{ℕ, ◌+◌, ◌<◌, ◌≤◌, List, append_assoc, length}
use Rattle.node_pool.specs.State.{State}
use Rattle.calc_session.specs.RootTexts.{next_text, root_room, root_text, root_trees, roots_text, semicolon_before, surd_tree, with_semicolons}

-- ---- what calls place

no_constant : (m s : Fraction) (t : ℕ) → is_zero_fraction m ≡ true → term_tree (term s t) ≡ surd_tree m s t
no_constant m s t e = sym (ap (λ (b : Bool). sum_of_trees (append (if b then none else more (num m) none) (more (term_tree (term s t)) none))) e)

pub with_constant : (m s : Fraction) (t : ℕ) → is_zero_fraction m ≡ false → add (more (num m) (more (term_tree (term s t)) none)) ≡ surd_tree m s t
with_constant m s t e = sym (ap (λ (b : Bool). sum_of_trees (append (if b then none else more (num m) none) (more (term_tree (term s t)) none))) e)

-- what is told of the last tree, as it stands there
pub gives_tree : {others f : Forest} {h : ℕ} {Told : Tree → Type 0} (u : Tree) → Gives others f h Told → plain (root_tree h f) ≡ u → Gives others f h (λ w. w ≡ u)
gives_tree u g e = record { tree = g.tree; ends = g.ends; once = g.once; whole = g.whole; told = sym (ap plain (last_tree g.ends)) ∙ e }

pub surd_alone : (Told : Tree → Type 0) (r : Result ℕ Full) (p q : State) (m s : Fraction) (t : ℕ) → is_zero_fraction m ≡ true → IfOk r (λ h. Gives (forest p) (forest q) h Told) → IfOk r (λ h. tree_of h q ≡ term_tree (term s t)) → OnOk r (KeepsRefusals p q) → Stands q
    → IfOk r (λ h. Adds p q (surd_tree m s t) h)
surd_alone Told (Ok h) p q m s t z g e k st = adds_tree (record { gives = gives_tree (term_tree (term s t)) g e; kept = k; stands = st }) (no_constant m s t z)
surd_alone Told (Err f) p q m s t z g e k st = tt

-- ---- a tree that was placed

module _ (v : Tree) {s t : State} {h : ℕ} (a : Adds s t v h) where
  pub placed_told : tree_of h t ≡ v
  placed_told = given_told a.gives

  pub placed_reduced : is_reduced v ≡ true → is_reduced (tree_of h t) ≡ true
  placed_reduced e = ap is_reduced placed_told ∙ e

  pub placed_defined : is_undef v ≡ false → is_undef (tree_of h t) ≡ false
  placed_defined e = ap is_undef placed_told ∙ e

  names_there : HasNames v
  names_there = subst HasNames a.gives.told (named_tree a.gives.tree (last_nodes a.stands a.gives))

  pub face_is_writable : is_reduced v ≡ true → IsWritable (face v)
  face_is_writable e = face_written v e names_there

  -- its face takes its place
  pub face_behind : (u : State) {i : ℕ} → Gives (without_root h (forest t)) (forest u) i (λ w. w ≡ face (tree_of h t)) → Gives (forest s) (forest u) i (λ w. w ≡ face v)
  face_behind u g = gives_as g (given_rest a.gives) (λ w e. e ∙ ap face placed_told)

  -- the tree and four times its bytes fit where 720 are free
  pub face_room : Stands s → size v ≤ 144 → root_room ≤ free_of s → 4 * size (tree_of h t) ≤ free_of t
  face_room st few room = omega (arith, room, few, adds_free st (adds_one st a), ap size placed_told)

-- what does not fit lacks bytes
pub lacks_room : (n : ℕ) → (root_room ≤ n → ⊥) → n < root_room
lacks_room n h = elim (cases_lt n root_room) [ inl l ↦ l | inr b ↦ absurd (h b) ]

-- ---- the text of a face that stands last

module _ (v : Tree) {s t u : State} {h i : ℕ} (id : ℕ) (a : Adds s t v h) (g : Gives (without_root h (forest t)) (forest u) i (λ w. w ≡ face (tree_of h t))) (st : Stands u) (e : id ≡ i) where
  shown_tree : plain (tree_at id (forest u)) ≡ face v
  shown_tree = face_tree u (forest s) i id (face v) st (face_behind v a u g) e

  pub shown_expression : IsExpression id (forest u)
  shown_expression = face_expression u (forest s) i id (face v) st (face_behind v a u g) e

  pub shown_writable : is_reduced v ≡ true → IsWritable (plain (tree_at id (forest u)))
  shown_writable reduced = subst IsWritable (sym shown_tree) (face_is_writable v a reduced)

  pub shown_room : 2 * size (plain (tree_at id (forest u))) ≤ 2 * size (face v)
  shown_room = omega (arith, ap size shown_tree)

  pub shown_text : (old new : Content) → new ≡ extended old (text (plain (tree_at id (forest u)))) → new ≡ extended old (text (face v))
  shown_text old new e = e ∙ ap (λ (w : Tree). extended old (text w)) shown_tree

  pub shown_short : (old new : Content) → is_reduced v ≡ true → new ≡ extended old (text (plain (tree_at id (forest u)))) → length new.bytes ≤ length old.bytes + 2 * size (face v)
  shown_short old new reduced e =
      let l = short_there u id (face v) st shown_expression shown_tree (face_is_writable v a reduced) in
      let n : length new.bytes ≡ length old.bytes + length (text (face v)) = ap (λ (c : Content). length c.bytes) (shown_text old new e) ∙ length-append old.bytes (text (face v)) in
      omega (arith, l, n)

-- ---- a root other than 0

pub above_not_zero : (s : Fraction) → IsAboveZero s → s ≢ zero_fraction
above_not_zero s (n, h) = no_zero s (ap (λ z. not (int_is_zero z)) h)

pub below_not_zero : (s r : Fraction) → IsAboveZero s → r ≡ negative s → r ≢ zero_fraction
below_not_zero s r h e z = negative_not_zero s (above_not_zero s h) (sym e ∙ z)

-- ---- texts with semicolons between them

semicolons_next : (ts : List (List ℕ)) (t : List ℕ) → with_semicolons (ts ++ t ∷ []) ≡ with_semicolons ts ++ (semicolon_before (length ts) ++ t)
semicolons_next [] t = refl
semicolons_next (u ∷ []) t = refl
semicolons_next (u ∷ v ∷ ts) t =
    let before : List ℕ = with_semicolons (v ∷ ts) in
    ap (λ (r : List ℕ). u ++ (codes ";" ++ r)) (semicolons_next (v ∷ ts) t)
    ∙ ap (λ (r : List ℕ). u ++ r) (sym (append_assoc (codes ";") before (codes ";" ++ t))) ∙ sym (append_assoc u (codes ";" ++ before) (codes ";" ++ t))

module _ (x : List ℕ) where
  abbrev pub texts_of : List Tree → List ℕ
  texts_of ts = with_semicolons (map (root_text x) ts)

  -- one more root
  root_next : (ts : List Tree) (t : Tree) (n : ℕ) → n ≡ length ts → texts_of (ts ++ t ∷ []) ≡ texts_of ts ++ next_text x n t
  root_next ts t n e =
      ap with_semicolons (map-append (root_text x) ts (t ∷ [])) ∙ semicolons_next (map (root_text x) ts) (root_text x t)
      ∙ ap (λ (m : ℕ). texts_of ts ++ (semicolon_before m ++ root_text x t)) (length-map ts (root_text x) ∙ sym e)

  -- two more
  root_pair : (ts : List Tree) (t u : Tree) (n : ℕ) → n ≡ length ts → texts_of (ts ++ t ∷ u ∷ []) ≡ texts_of ts ++ (next_text x n t ++ next_text x (n + 1) u)
  root_pair ts t u n e =
      ap texts_of (sym (append_assoc ts (t ∷ []) (u ∷ []))) ∙ root_next (ts ++ t ∷ []) u (n + 1) (omega (arith, e, length-append ts (t ∷ [])))
      ∙ ap (λ (r : List ℕ). r ++ next_text x (n + 1) u) (root_next ts t n e) ∙ append_assoc (texts_of ts) (next_text x n t) (next_text x (n + 1) u)

  -- the next of the rationals
  pub rational_next : (qs : List Fraction) (n : ℕ) (q : Fraction) (a b : Content) → n < length qs → q ≡ get_or qs n zero_fraction → a.bytes ≡ texts_of (map num (take n qs)) → b ≡ extended a (next_text x n (num q))
      → b.bytes ≡ texts_of (map num (take (n + 1) qs))
  rational_next qs n q a b l e p is =
      let one : n + 1 ≡ suc n = omega arith in
      let long : n ≡ length (map num (take n qs)) = omega (arith, l, length-map (take n qs) num, length-take n qs) in
      ap (λ (c : Content). c.bytes) is ∙ ap (λ (r : List ℕ). r ++ next_text x n (num q)) p ∙ sym (root_next (map num (take n qs)) (num q) n long)
      ∙ ap texts_of (sym (map-append num (take n qs) (q ∷ []))) ∙ ap (λ (w : Fraction). texts_of (map num (take n qs ++ w ∷ []))) e
      ∙ ap (λ (ws : List Fraction). texts_of (map num ws)) (sym (take-suc qs n zero_fraction l)) ∙ ap (λ (m : ℕ). texts_of (map num (take m qs))) (sym one)

  pub all_rationals : (qs : List Fraction) (n : ℕ) (a : Content) → length qs ≤ n → a.bytes ≡ texts_of (map num (take n qs)) → a.bytes ≡ texts_of (map num qs)
  all_rationals qs n a l p = p ∙ ap (λ (ws : List Fraction). texts_of (map num ws)) (take_all n qs l)

  roots_are : (ts : List Tree) → 0 < length ts → texts_of ts ≡ roots_text x ts
  roots_are [] l = absurd (omega (arith, l))
  roots_are (t ∷ ts) l = refl

  -- after the rationals the two others
  roots_told : (qs : List Fraction) (rest : Rest) (m s : Fraction) (t n : ℕ) (a b : Content) → rest ≡ pair_of m s t → n ≡ length qs → a.bytes ≡ texts_of (map num qs)
      → b ≡ extended a (next_text x n (surd_tree m (negative s) t) ++ next_text x (n + 1) (surd_tree m s t)) → b.bytes ≡ roots_text x (root_trees qs rest)
  roots_told qs rest m s t n a b r e p is =
      let lower = surd_tree m (negative s) t in
      let upper = surd_tree m s t in
      ap (λ (c : Content). c.bytes) is ∙ ap (λ (w : List ℕ). w ++ (next_text x n lower ++ next_text x (n + 1) upper)) p
      ∙ sym (root_pair (map num qs) lower upper n (e ∙ sym (length-map qs num)))
      ∙ roots_are (map num qs ++ lower ∷ upper ∷ []) (omega (arith, length-append (map num qs) (lower ∷ upper ∷ []))) ∙ ap (λ (w : Rest). roots_text x (root_trees qs w)) (sym r)

  pub pair_told : {A E : Type 0} (r : Result A E) (qs : List Fraction) (rest : Rest) (m s : Fraction) (t n : ℕ) (a b : Content) → rest ≡ pair_of m s t → n ≡ length qs → a.bytes ≡ texts_of (map num qs)
      → OnOk r (b ≡ extended a (next_text x n (surd_tree m (negative s) t) ++ next_text x (n + 1) (surd_tree m s t))) → OnOk r (b.bytes ≡ roots_text x (root_trees qs rest))
  pair_told (Ok u) qs rest m s t n a b r e p is = roots_told qs rest m s t n a b r e p is
  pair_told (Err f) qs rest m s t n a b r e p is = tt

  -- the rationals alone
  no_others : (qs : List Fraction) (rest : Rest) → surds_of rest ≡ [] → root_trees qs rest ≡ map num qs
  no_others qs nothing e = refl
  no_others qs (rootless h c) e = refl
  no_others qs (pair b c m s t) e = absurd (omega (arith, ap length e))

  pub rationals_told : (qs : List Fraction) (rest : Rest) (a : Content) → surds_of rest ≡ [] → 0 < length qs → a.bytes ≡ texts_of (map num qs) → a.bytes ≡ roots_text x (root_trees qs rest)
  rationals_told qs rest a e l p = p ∙ roots_are (map num qs) (omega (arith, l, length-map qs num)) ∙ ap (roots_text x) (sym (no_others qs rest e))
