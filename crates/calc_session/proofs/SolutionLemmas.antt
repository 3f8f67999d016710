-- Lemmas on the texts of solutions.
use Rattle.calc_session.proofs.Shared.{◌≡◌, ◌≢◌, ◌⊎◌, ◌∙◌, zero, suc, ◌*◌, [], ◌∷◌, ◌++◌, length-append, take, map, get_or, codes, inl, inr, Bool, true, false, refl, sym, ap, subst, arith, take_all}
use Rattle.calc_session.proofs.Shared.{zip, cases_lt, get_or-map, length-map, is_reduced, face, HasNames, IsWritable, text, Fraction, is_zero_fraction, zero_fraction, no_zero, zero_is, Name, name_of}
use Rattle.calc_session.proofs.Shared.{Tree, more, count, is_undef, size, Adds, adds_free, adds_one, Content, extended, Line, form_told, Form, free, bound, HoldLaterFreeNames, multiple_in, free_of}
use Rattle.calc_session.proofs.Shared.{IsExpression, plain, Gives, tree_of, tree_at, without_root, Stands, forest, given_rest, given_told, gives_as, IsSmall, IsSmallForm, form_room, operand_text}
use Rattle.calc_session.proofs.Shared.{Rises, comma_before, form_tree, line_text, line_texts, lines_text, multiple_of, multiples, with_commas, HasFittingNumbers, fitting, short, face_written}
use Rattle.calc_session.proofs.{EvaluationLemmas.{last_nodes}, FormFaces.{face_of_form, form_defined, size_of_form}, FormLemmas.{form_reduced}, PlacingLemmas.{multiples_few, name_there}}
use Rattle.calc_session.proofs.{SessionLemmas.{face_expression, face_tree}, StoredTrees.{named_tree}}
use Rattle.std.proofs.Common.{ℕ, ◌+◌, ◌<◌, ◌≤◌, List, append_assoc, length}
use Rattle.std.specs.Prelude.{if◌then◌else◌, not, Result, Ok, Err, OnErr, OnOk}
use Rattle.node_pool.specs.State.{State}

-- ---- a form that was placed

module _ (xs : List (List ℕ)) (q : Fraction) (qs : List Fraction) {s t : State} {h : ℕ} (a : Adds s t (form_tree xs q qs) h) where
  pub placed_told : tree_of h t ≡ form_tree xs q qs
  placed_told = given_told a.gives

  pub placed_reduced : Rises xs → is_reduced (tree_of h t) ≡ true
  placed_reduced rises = ap is_reduced placed_told ∙ form_reduced xs q qs rises

  pub placed_defined : is_undef (tree_of h t) ≡ false
  placed_defined = ap is_undef placed_told ∙ form_defined xs q qs

  names_there : HasNames (form_tree xs q qs)
  names_there = subst HasNames a.gives.told (named_tree a.gives.tree (last_nodes a.stands a.gives))

  pub face_is_writable : Rises xs → IsWritable (face (form_tree xs q qs))
  face_is_writable rises = face_written (form_tree xs q qs) (form_reduced xs q qs rises) names_there

  -- its face takes its place
  pub face_behind : (u : State) {i : ℕ} → Gives (without_root h (forest t)) (forest u) i (λ w. w ≡ face (tree_of h t)) → Gives (forest s) (forest u) i (λ w. w ≡ face (form_tree xs q qs))
  face_behind u g = gives_as g (given_rest a.gives) (λ w e. e ∙ ap face placed_told)

  -- the tree and four times its bytes fit where 2,048 are free
  pub face_room : Stands s → IsSmall xs qs → form_room ≤ free_of s → 4 * size (tree_of h t) ≤ free_of t
  face_room st few room = omega (arith, room, adds_free st (adds_one st a), size_of_form xs q qs few, ap size placed_told)

-- ---- texts

-- a text of a tree in the pool is at most twice its bytes
pub short_there : (s : State) (i : ℕ) (t : Tree) → Stands s → IsExpression i (forest s) → plain (tree_at i (forest s)) ≡ t → IsWritable t → length (text t) ≤ 2 * size t
short_there s i t st e same w = omega (arith, short t w (subst (λ (u : Tree). HasFittingNumbers u) same (fitting i s st e.live)))

-- what does not fit lacks bytes
pub lacks_room : (n : ℕ) → (form_room ≤ n → ⊥) → n < form_room
lacks_room n h = elim (cases_lt n form_room) [ inl l ↦ l | inr b ↦ absurd (h b) ]

-- ---- the text of a face that stands last

module _ (xs : List (List ℕ)) (q : Fraction) (qs : List Fraction) {s t u : State} {h i : ℕ} (id : ℕ) (a : Adds s t (form_tree xs q qs) h) (g : Gives (without_root h (forest t)) (forest u) i (λ w. w ≡ face (tree_of h t))) (st : Stands u) (e : id ≡ i) where
  shown_tree : plain (tree_at id (forest u)) ≡ face (form_tree xs q qs)
  shown_tree = face_tree u (forest s) i id (face (form_tree xs q qs)) st (face_behind xs q qs a u g) e

  pub shown_expression : IsExpression id (forest u)
  shown_expression = face_expression u (forest s) i id (face (form_tree xs q qs)) st (face_behind xs q qs a u g) e

  pub shown_writable : Rises xs → IsWritable (plain (tree_at id (forest u)))
  shown_writable rises = subst IsWritable (sym shown_tree) (face_is_writable xs q qs a rises)

  pub shown_room : IsSmall xs qs → 2 * size (plain (tree_at id (forest u))) ≤ 1392
  shown_room few = omega (arith, ap size shown_tree, face_of_form xs q qs few)

  pub shown_text : (old new : Content) → new ≡ extended old (text (plain (tree_at id (forest u)))) → new ≡ extended old (text (face (form_tree xs q qs)))
  shown_text old new e = e ∙ ap (λ (w : Tree). extended old (text w)) shown_tree

  pub shown_short : (old new : Content) → Rises xs → IsSmall xs qs → new ≡ extended old (text (plain (tree_at id (forest u)))) → length new.bytes ≤ length old.bytes + 1392
  shown_short old new rises few e =
      let l = short_there u id (face (form_tree xs q qs)) st shown_expression shown_tree (face_is_writable xs q qs a rises) in
      let n : length new.bytes ≡ length old.bytes + length (text (face (form_tree xs q qs))) = ap (λ (c : Content). length c.bytes) (shown_text old new e) ∙ length-append old.bytes (text (face (form_tree xs q qs))) in
      omega (arith, l, n, face_of_form xs q qs few)

-- ---- texts with commas between them

pub comma_short : (at : ℕ) → length (comma_before at) ≤ 1
comma_short at = grind arith

commas_next : (n : ℕ) (ts : List (List ℕ)) → n < length ts → with_commas (take (suc n) ts) ≡ with_commas (take n ts) ++ (comma_before n ++ get_or ts n [])
commas_next n [] l = absurd (omega (arith, l))
commas_next zero (t ∷ ts) l = refl
commas_next (suc zero) (t ∷ []) l = absurd (omega (arith, l))
commas_next (suc zero) (t ∷ u ∷ ts) l = refl
commas_next (suc (suc n)) (t ∷ []) l = absurd (omega (arith, l))
commas_next (suc (suc n)) (t ∷ u ∷ ts) l =
    let before : List ℕ = with_commas (u ∷ take n ts) in
    let last : List ℕ = codes "," ++ get_or ts n [] in
    ap (λ (r : List ℕ). t ++ (codes "," ++ r)) (commas_next (suc n) (u ∷ ts) (omega (arith, l)))
    ∙ ap (λ (r : List ℕ). t ++ r) (sym (append_assoc (codes ",") before last)) ∙ sym (append_assoc t (codes "," ++ before) last)

-- the next of the texts, behind its comma
pub text_next : (head : List ℕ) (ts : List (List ℕ)) (n : ℕ) (t : List ℕ) → n < length ts → t ≡ get_or ts n [] → ((head ++ with_commas (take n ts)) ++ comma_before n) ++ t ≡ head ++ with_commas (take (n + 1) ts)
text_next head ts n t l e =
    let one : n + 1 ≡ suc n = omega arith in
    let w : List ℕ = with_commas (take n ts) in
    ap (λ (u : List ℕ). ((head ++ w) ++ comma_before n) ++ u) e ∙ append_assoc (head ++ w) (comma_before n) (get_or ts n []) ∙ append_assoc head w (comma_before n ++ get_or ts n [])
    ∙ ap (λ (u : List ℕ). head ++ u) (sym (commas_next n ts l)) ∙ ap (λ (m : ℕ). head ++ with_commas (take m ts)) (sym one)

pub line_at : (xs ys : List (List ℕ)) (forms : List Form) (n : ℕ) → n < length ys → length forms ≡ length ys → get_or (map (λ (p : List ℕ × Form). line_text xs p.0 p.1) (zip ys forms)) n [] ≡ line_text xs (get_or ys n []) (get_or forms n free)
line_at xs [] forms n l e = absurd (omega (arith, l))
line_at xs (y ∷ ys) [] n l e = absurd (omega (arith, e))
line_at xs (y ∷ ys) (form ∷ forms) zero l e = refl
line_at xs (y ∷ ys) (form ∷ forms) (suc n) l e = line_at xs ys forms n (omega (arith, l)) (omega (arith, e))

pub lines_long : (xs ys : List (List ℕ)) (forms : List Form) → length forms ≡ length ys → length (map (λ (p : List ℕ × Form). line_text xs p.0 p.1) (zip ys forms)) ≡ length ys
lines_long xs [] [] e = refl
lines_long xs [] (form ∷ forms) e = refl
lines_long xs (y ∷ ys) [] e = absurd (omega (arith, e))
lines_long xs (y ∷ ys) (form ∷ forms) e = ap suc (lines_long xs ys forms (omega (arith, e)))

pub all_taken : (n : ℕ) (ts : List (List ℕ)) → length ts ≤ n → with_commas (take n ts) ≡ with_commas ts
all_taken n ts l = ap with_commas (take_all n ts l)

pub lines_are : (xs : List (List ℕ)) (forms : List Form) → 0 < length xs → lines_text xs forms ≡ with_commas (line_texts xs forms)
lines_are xs forms h = grind arith

-- ---- multiples that are small

fewer : (xs : List (List ℕ)) (qs : List Fraction) (i : ℕ) → i < length xs → get_or qs i zero_fraction ≡ zero_fraction → count (multiples xs qs) < length xs
unfolding zero_fraction
fewer [] qs i l z = absurd (omega (arith, l))
fewer (x ∷ xs) [] i l z = omega arith
fewer (x ∷ xs) (q ∷ qs) zero l z = by (is_zero_fraction q) refl
  where
    by : (b : Bool) → is_zero_fraction q ≡ b → count (if b then multiples xs qs else more (multiple_of q x) (multiples xs qs)) < suc (length xs)
    by true e = omega (arith, multiples_few xs qs)
    by false e = absurd (no_zero q (ap not e) z)
fewer (x ∷ xs) (q ∷ qs) (suc i) l z = by (is_zero_fraction q) (fewer xs qs i (omega (arith, l)) z)
  where
    by : (b : Bool) → count (multiples xs qs) < length xs → count (if b then multiples xs qs else more (multiple_of q x) (multiples xs qs)) < suc (length xs)
    by true h = omega (arith, h)
    by false h = omega (arith, h)

-- a form holds no multiple of its own name
pub form_small : (xs : List (List ℕ)) (forms : List Form) (i : ℕ) → length xs ≤ 6 → length forms ≡ length xs → i < length forms → HoldLaterFreeNames forms → IsSmallForm xs (get_or forms i free)
form_small xs forms i few many l later = by (get_or forms i free) refl
  where
    by : (form : Form) → get_or forms i free ≡ form → IsSmallForm xs form
    by free e = tt
    by (bound q qs) e = elim (cases_zero (get_or qs i zero_fraction)) [
      | inl z ↦ omega (arith, few, many, l, fewer xs qs i (omega (arith, many, l)) z)
      | inr n ↦ let (a, b, c) = later i i l (λ z. n (sym (ap (λ (form : Form). multiple_in form i) e) ∙ z)) in absurd (omega (arith, a))
    ]
      where
        cases_zero : (p : Fraction) → (p ≡ zero_fraction) ⊎ (p ≢ zero_fraction)
        cases_zero p = each (is_zero_fraction p) refl
          where
            each : (b : Bool) → is_zero_fraction p ≡ b → (p ≡ zero_fraction) ⊎ (p ≢ zero_fraction)
            each true e = inl (zero_is p e)
            each false e = inr (no_zero p (ap not e))

-- ---- one more text is written

pub told_next : (head : List ℕ) (ts : List (List ℕ)) (n : ℕ) (t comma : List ℕ) (a b d : Content) → n < length ts → t ≡ get_or ts n [] → a.bytes ≡ head ++ with_commas (take n ts) → b ≡ extended a comma → comma ≡ comma_before n → d ≡ extended b t
    → d.bytes ≡ head ++ with_commas (take (n + 1) ts)
told_next head ts n t comma a b d l e h p k q = grind (arith, text_next)

pub long_next : (t comma : List ℕ) (a b d : Content) (n : ℕ) → b ≡ extended a comma → comma ≡ comma_before n → length b.bytes ≤ length a.bytes + 1
long_next t comma a b d n p is = omega (arith, ap (λ (x : Content). length x.bytes) p, length-append a.bytes comma, ap length is, comma_short n)

pub operand_there : (qs : List Fraction) (n : ℕ) (q : Fraction) → n < length qs → q ≡ get_or qs n zero_fraction → operand_text q ≡ get_or (map operand_text qs) n []
operand_there qs n q l e = ap operand_text e ∙ sym (get_or-map operand_text qs n zero_fraction [] l)

pub line_there : (ns : List Name) (lines : List Line) (n : ℕ) (name : Name) (line : Line) → n < length ns → length lines ≡ length ns → name ≡ get_or ns n name → line ≡ get_or lines n line
    → line_text (map name_of ns) (name_of name) (form_told line) ≡ get_or (line_texts (map name_of ns) (map form_told lines)) n []
line_there ns lines n name line l e p q =
    let many = length-map ns name_of in
    let forms = length-map lines form_told in
    (λ i. line_text (map name_of ns) (name_there ns n name l p i) ((ap form_told q ∙ sym (get_or-map form_told lines n line free (omega (arith, l, e)))) i))
    ∙ sym (line_at (map name_of ns) (map name_of ns) (map form_told lines) n (omega (arith, l, many)) (omega (arith, e, many, forms)))

pub many_lines : (ns : List Name) (lines : List Line) → length lines ≡ length ns → length (line_texts (map name_of ns) (map form_told lines)) ≡ length ns
many_lines ns lines e =
    let many = length-map ns name_of in
    let forms = length-map lines form_told in
    lines_long (map name_of ns) (map name_of ns) (map form_told lines) (omega (arith, e, many, forms)) ∙ many

pub line_small : (ns : List Name) (lines : List Line) (k : ℕ) (d : Line) → length ns ≤ 6 → (length (map form_told lines) ≡ length ns) × HoldLaterFreeNames (map form_told lines) → k < length lines → IsSmallForm (map name_of ns) (form_told (get_or lines k d))
line_small ns lines k d few h l =
    let many = length-map ns name_of in
    let forms = length-map lines form_told in
    subst (IsSmallForm (map name_of ns)) (get_or-map form_told lines k d free l) (form_small (map name_of ns) (map form_told lines) k (omega (arith, few, many)) (h.0 ∙ sym many) (omega (arith, l, forms)) h.1)

pub on_err : {A E : Type 0} (r : Result A E) (P : Type 0) → P → OnErr r P
on_err r P p = grind arith

-- ---- one piece behind two others

behind_one : (old a b : Content) (x y : List ℕ) → a ≡ extended old x → b ≡ extended a y → b ≡ extended old (x ++ y)
behind_one old a b x y p q = q ∙ ap (λ (c : Content). extended c y) p ∙ ap (λ (bytes : List ℕ). record old { bytes = bytes }) (append_assoc old.bytes x y)

module _ {A E : Type 0} (old a b new : Content) (x y : List ℕ) (p : a ≡ extended old x) (q : b ≡ extended a y) where
  pub behind_two : (r : Result A E) (t : List ℕ) → OnOk r (new ≡ extended b t) → OnOk r (new ≡ extended old (x ++ (y ++ t)))
  behind_two (Ok u) t e = behind_one old b new (x ++ y) t (behind_one old a b x y p q) e ∙ ap (extended old) (append_assoc x y t)
  behind_two (Err f) t e = tt

  pub short_behind : (r : Result A E) → length x ≤ 7 → length y ≤ 1 → OnOk r (length new.bytes ≤ length b.bytes + 1392) → OnOk r (length new.bytes ≤ length old.bytes + 1407)
  short_behind (Ok u) l m e = omega (arith, l, m, e, ap (λ (c : Content). length c.bytes) (behind_one old a b x y p q), length-append old.bytes (x ++ y), length-append x y)
  short_behind (Err f) l m e = tt

pub behind_words : (old a b : Content) (x y : List ℕ) → a ≡ extended old x → b ≡ extended a y → length x ≤ 7 → length y ≤ 5 → (b ≡ extended old (x ++ y)) × (length b.bytes ≤ length old.bytes + 1407)
behind_words old a b x y p q l m =
    let e = behind_one old a b x y p q in
    (e, omega (arith, l, m, ap (λ (c : Content). length c.bytes) e, length-append old.bytes (x ++ y), length-append x y))

-- the text where there are no names
pub true_alone : (ns : List Name) (forms : List Form) (old new : Content) → length ns ≡ 0 → old.bytes ≡ [] → new ≡ extended old (codes "true") → new.bytes ≡ lines_text (map name_of ns) forms
true_alone [] forms old new none empty e = ap (λ (c : Content). c.bytes) e ∙ ap (λ (b : List ℕ). b ++ codes "true") empty
true_alone (n ∷ ns) forms old new none empty e = absurd (omega (arith, none))
