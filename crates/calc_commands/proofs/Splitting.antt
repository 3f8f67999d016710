-- How a text is split into equations.
use Rattle.calc_commands.proofs.Shared.{◌≡◌, ◌∙◌, inl, inr, ℕ, suc, ◌+◌, ◌<◌, ◌≤◌, List, [], ◌∷◌, ◌++◌, length, map, take, drop, get_or, Bool, true, false, refl, sym, ap, subst, arith, append_assoc}
use Rattle.calc_commands.proofs.Shared.{drop-cons, length-append, length-drop, both_ways, cases_lt, eq-eqb, eqb-true, lt-leb, le-leb, drop-drop, drop-take, get_or-take, get_or_default, length-map}
use Rattle.calc_commands.proofs.Shared.{map-append, take-append-drop, take-take, take_all, All-append, All-cons, All-drop, All-head, All-nil, All-push, All-tail, All-take, join_with_byte-slice_split}
use Rattle.calc_commands.proofs.Shared.{length-slice_split, slice_split_at, slice_split_first, slice_split_none, fails_before_first, passes_at_first, All, Contains, join_with_byte, position_or_len}
use Rattle.calc_commands.proofs.Shared.{slice_split, by_test, AreSides, Sides, Splits, all_placed, cut_at, placed, written, written_all, are_blanks, AreSplit, IsWithin, between, pieces_at}
use Rattle.calc_commands.proofs.Shared.{pieces_from, sides_at, EquationRange}
use Rattle.std.proofs.Common.{append-nil, ◌-◌, eqb, length-take}

-- ---- bytes other than one

abbrev pub Lacks : ℕ → List ℕ → Type 0
Lacks c xs = All (λ b. eqb b c ≡ false) xs

pub lacks : (c : ℕ) (xs : List ℕ) → ¬ (Contains xs c) → Lacks c xs
lacks c xs h k d l = by_test (λ b. b ≡ false) (eqb (get_or xs k d) c) (λ e. absurd (h (k, l, get_or_here xs k d l (eqb-true _ _ e)))) (λ e. refl)
  where
    get_or_here : (xs : List ℕ) (k d : ℕ) → k < length xs → get_or xs k d ≡ c → get_or xs k c ≡ c
    get_or_here xs k d l e = grind (arith, get_or_default)

pub lacking : (c : ℕ) (xs : List ℕ) → Lacks c xs → ¬ (Contains xs c)
lacking c xs h (k, l, e) = both_ways _ (h k c l) (eq-eqb _ _ e)

abbrev first : ℕ → List ℕ → ℕ
first c xs = position_or_len (λ b. eqb b c) xs

module _ (c n : ℕ) (xs : List ℕ) (is : n ≡ first c xs) where
  -- those before the first are others
  pub lacks_before : Lacks c (take n xs)
  lacks_before k d l = grind (arith, length-take, get_or-take, fails_before_first)

  pub lacks_all : length xs ≤ n → Lacks c xs
  lacks_all h = subst (Lacks c) (take_all n xs h) lacks_before

  module _ (l : n < length xs) where
    byte_there : get_or xs n c ≡ c
    byte_there = ap (λ m. get_or xs m c) is ∙ eqb-true _ _ (passes_at_first (λ b. eqb b c) xs c (omega (arith, l, is)))

    pub first_there : Contains xs c
    first_there = (n, l, byte_there)

    pub drop_first : drop n xs ≡ c ∷ drop (n + 1) xs
    drop_first = let one : suc n ≡ n + 1 = omega arith in drop-cons xs n c l ∙ (λ i. byte_there i ∷ drop (one i) xs)

-- ---- one equation

sides_cut : (e : Sides) → AreSides e → slice_split (λ b. eqb b 61) (written e) ≡ e.left ∷ e.right ∷ []
sides_cut e h = grind (arith, slice_split_at, lacks, slice_split_none)

no_semicolon : (e : Sides) → AreSides e → Lacks 59 (written e)
no_semicolon e h =
    All-append (λ b. eqb b 59 ≡ false) e.left (61 ∷ e.right) (lacks 59 e.left h.left.no_semicolon)
    (All-cons (λ b. eqb b 59 ≡ false) 61 e.right refl (lacks 59 e.right h.right.no_semicolon))

same_written : (e f : Sides) → AreSides e → AreSides f → written e ≡ written f → e ≡ f
same_written e f h k w =
    let cut : e.left ∷ e.right ∷ [] ≡ f.left ∷ f.right ∷ [] = sym (sides_cut e h) ∙ ap (slice_split (λ b. eqb b 61)) w ∙ sides_cut f k in
    (λ i. record { left = head_is cut i; right = head_is (tail_is cut) i })
  where
    head_is : {x y : List ℕ} {xs ys : List (List ℕ)} → x ∷ xs ≡ y ∷ ys → x ≡ y
    head_is e = cc

    tail_is : {x y : List ℕ} {xs ys : List (List ℕ)} → x ∷ xs ≡ y ∷ ys → xs ≡ ys
    tail_is e = cc

-- a piece that is an equation has its sides before and behind the first `=`
module _ (piece : List ℕ) (e : Sides) (h : AreSides e) (is : piece ≡ written e) where
  two_parts : slice_split (λ b. eqb b 61) piece ≡ e.left ∷ e.right ∷ []
  two_parts = ap (slice_split (λ b. eqb b 61)) is ∙ sides_cut e h

  pub has_sign : length piece ≤ first 61 piece → ⊥
  has_sign l = let one : piece ∷ [] ≡ e.left ∷ e.right ∷ [] = sym (slice_split_none (λ b. eqb b 61) piece (lacks_all 61 (first 61 piece) piece refl l)) ∙ two_parts in cc

  module _ (n : ℕ) (is_first : n ≡ first 61 piece) (l : n < length piece) where
    cut_there : take n piece ∷ slice_split (λ b. eqb b 61) (drop (n + 1) piece) ≡ e.left ∷ e.right ∷ []
    cut_there =
        ap (λ m. take m piece ∷ slice_split (λ b. eqb b 61) (drop (m + 1) piece)) is_first
        ∙ sym (slice_split_first (λ b. eqb b 61) piece 61 (omega (arith, is_first, l))) ∙ two_parts

    pub left_there : take n piece ≡ e.left
    left_there = let c = cut_there in cc

    pub right_there : drop (n + 1) piece ≡ e.right
    right_there =
        let c = cut_there in
        let rest : slice_split (λ b. eqb b 61) (drop (n + 1) piece) ≡ e.right ∷ [] = cc in
        sym (join_with_byte-slice_split 61 (drop (n + 1) piece)) ∙ ap (join_with_byte 61) rest

-- the sides around a sign
pub sides_there : (n : ℕ) (piece : List ℕ) → n ≡ first 61 piece → ¬ (Contains piece 59) → are_blanks (take n piece) ≡ false → are_blanks (drop (n + 1) piece) ≡ false
    → length (drop (n + 1) piece) ≤ first 61 (drop (n + 1) piece) → AreSides (cut_at n piece)
sides_there n piece is none left right one = record {
  left = record { some = left; no_semicolon = lacking 59 _ (All-take (λ b. eqb b 59 ≡ false) n piece (lacks 59 piece none)); no_equals = lacking 61 _ (lacks_before 61 n piece is) };
  right = record { some = right; no_semicolon = lacking 59 _ (All-drop (λ b. eqb b 59 ≡ false) (n + 1) piece (lacks 59 piece none)); no_equals = lacking 61 _ (lacks_all 61 _ (drop (n + 1) piece) refl one) };
}

-- ---- the equations of a text

written_pieces : (es : List Sides) → All AreSides es → 0 < length es → slice_split (λ b. eqb b 59) (written_all es) ≡ map written es
written_pieces [] h l = absurd (omega (arith, l))
written_pieces (e ∷ []) h l = slice_split_none (λ b. eqb b 59) (written e) (no_semicolon e (All-head AreSides e [] h))
written_pieces (e ∷ f ∷ es) h l =
    slice_split_at (λ b. eqb b 59) (written e) 59 (written_all (f ∷ es)) (no_semicolon e (All-head AreSides e (f ∷ es) h)) refl
    ∙ ap (λ ts. written e ∷ ts) (written_pieces (f ∷ es) (All-tail AreSides e (f ∷ es) h) (omega arith))

whole_from : (text : List ℕ) → pieces_from 0 text ≡ slice_split (λ b. eqb b 59) text
whole_from text = rw (le-leb 0 (length text) (omega arith)) refl

pub its_pieces : {text : List ℕ} {es : List Sides} → Splits text es → pieces_from 0 text ≡ map written es
its_pieces {text = text} {es = es} s = whole_from text ∙ ap (slice_split (λ b. eqb b 59)) s.whole ∙ written_pieces es s.sides s.some

written_joined : (es : List Sides) → join_with_byte 59 (map written es) ≡ written_all es
written_joined [] = refl
written_joined (e ∷ []) = refl
written_joined (e ∷ f ∷ es) = ap (λ t. written e ++ 59 ∷ t) (written_joined (f ∷ es))

same_equations : (es fs : List Sides) → All AreSides es → All AreSides fs → map written es ≡ map written fs → es ≡ fs
same_equations [] [] h k e = refl
same_equations [] (f ∷ fs) h k e = absurd cc
same_equations (e ∷ es) [] h k m = absurd cc
same_equations (e ∷ es) (f ∷ fs) h k m =
    let first_is : written e ≡ written f = cc in
    let rest_are : map written es ≡ map written fs = cc in
    (λ i. same_written e f (All-head AreSides e es h) (All-head AreSides f fs k) first_is i ∷ same_equations es fs (All-tail AreSides e es h) (All-tail AreSides f fs k) rest_are i)

pub split_once : {text : List ℕ} {es fs : List Sides} → Splits text es → Splits text fs → es ≡ fs
split_once {es = es} {fs = fs} s t = same_equations es fs s.sides t.sides (sym (its_pieces s) ∙ its_pieces t)

-- ---- the equation at a place

module _ (begin : ℕ) (text : List ℕ) (l : begin ≤ length text) where
  -- the first piece from there on, and the others
  pub first_piece : (end : ℕ) → end ≡ first 59 (drop begin text) → end ≤ length (drop begin text) → pieces_from begin text ≡ take end (drop begin text) ∷ pieces_from (begin + end + 1) text
  first_piece end is within = rw (le-leb begin (length text) l) (elim (cases_lt end (length (drop begin text))) [
    | inl m ↦
        subst (λ n. slice_split (λ b. eqb b 59) (drop begin text) ≡ take n (drop begin text) ∷ pieces_from (begin + n + 1) text) (sym is)
        (rw (le-leb (begin + first 59 (drop begin text) + 1) (length text) (omega (arith, m, is, length-drop begin text)))
        (slice_split_first (λ b. eqb b 59) (drop begin text) 59 (omega (arith, m, is)) ∙ ap (λ t. take (first 59 (drop begin text)) (drop begin text) ∷ slice_split (λ b. eqb b 59) t) (drop-drop (first 59 (drop begin text) + 1) begin text ∙ ap (λ n. drop n text) (next begin (first 59 (drop begin text))))))
    | inr m ↦
        rw (lt-leb (begin + end + 1) (length text) (omega (arith, m, length-drop begin text, l)))
        (slice_split_none (λ b. eqb b 59) (drop begin text) (lacks_all 59 end (drop begin text) is m) ∙ ap (λ t. t ∷ []) (sym (take_all end (drop begin text) m)))
  ])
    where
      next : (m n : ℕ) → m + (n + 1) ≡ m + n + 1
      next m n = omega arith

  module _ (end sign : ℕ) (within : end ≤ length (drop begin text)) (there : drop sign (take end (drop begin text)) ≡ 61 ∷ drop (sign + 1) (take end (drop begin text))) where
    abbrev pub range : EquationRange
    range = record { begin = begin; sign = begin + sign; end = begin + end }

    sign_before : sign < end
    sign_before = omega (arith, ap length there, length-drop sign (take end (drop begin text)), length-take end (drop begin text), within)

    cut_is : sides_at text range ≡ cut_at sign (take end (drop begin text))
    cut_is =
        let a : begin + sign - begin ≡ sign = omega arith in
        let b : begin + end - (begin + sign + 1) ≡ end - (sign + 1) = omega arith in
        let c : begin + sign + 1 ≡ begin + (sign + 1) = omega arith in
        let d : sign + 1 + (end - (sign + 1)) ≡ end = omega (arith, sign_before) in
        let left : between begin (begin + sign) text ≡ take sign (take end (drop begin text)) = ap (λ n. take n (drop begin text)) a ∙ sym (take-take sign end (drop begin text) (omega (arith, sign_before))) in
        let right : between (begin + sign + 1) (begin + end) text ≡ drop (sign + 1) (take end (drop begin text))
        = (λ i. take (b i) (drop (c i) text)) ∙ ap (take (end - (sign + 1))) (sym (drop-drop (sign + 1) begin text)) ∙ sym (drop-take (sign + 1) (end - (sign + 1)) (drop begin text)) ∙ ap (λ n. drop (sign + 1) (take n (drop begin text))) d in
        (λ i. record { left = left i; right = right i })

    pub written_is : written (sides_at text range) ≡ take end (drop begin text)
    written_is = ap written cut_is ∙ ap (λ t. take sign (take end (drop begin text)) ++ t) (sym there) ∙ take-append-drop sign (take end (drop begin text))

    pub within_is : IsWithin text range
    within_is = record {
      begin = omega arith;
      sign = omega (arith, sign_before);
      end_is = omega (arith, l, within, length-drop begin text);
      equals = (drop (suc sign) (drop begin text), sym (drop-drop sign begin text) ∙ drop-cons (drop begin text) sign 61 (omega (arith, sign_before, within)) ∙ ap (λ b. b ∷ drop (suc sign) (drop begin text)) (sym (get_or-take end (drop begin text) sign 61 sign_before) ∙ byte_is));
    }
      where
        byte_is : get_or (take end (drop begin text)) sign 61 ≡ 61
        byte_is = let e = sym (drop-cons (take end (drop begin text)) sign 61 (omega (arith, sign_before, within, length-take end (drop begin text)))) ∙ there in cc

    pub sides_are : AreSides (cut_at sign (take end (drop begin text))) → AreSides (sides_at text range)
    sides_are h = subst AreSides (sym cut_is) h

-- ---- while the equations are found

-- how many bytes equations take, each with a byte behind it
abbrev pub span : List Sides → ℕ
span [] = 0
span (e ∷ es) = length (written e) + 1 + span es

span-push : (es : List Sides) (e : Sides) → span (es ++ e ∷ []) ≡ span es + length (written e) + 1
span-push [] e = omega arith
span-push (f ∷ es) e = omega (arith, span-push es e)

placed-push : (before : ℕ) (es : List Sides) (e : Sides) → all_placed before (es ++ e ∷ []) ≡ all_placed before es ++ placed (before + span es) e ∷ []
placed-push before [] e = let same : before ≡ before + 0 = omega arith in ap (λ n. placed n e ∷ []) same
placed-push before (f ∷ es) e =
    let same : before + length (written f) + 1 + span es ≡ before + span (f ∷ es) = omega arith in
    ap (λ ps. placed before f ∷ ps) (placed-push (before + length (written f) + 1) es e ∙ ap (λ n. all_placed (before + length (written f) + 1) es ++ placed n e ∷ []) same)

length-placed : (before : ℕ) (es : List Sides) → length (all_placed before es) ≡ length es
length-placed before [] = refl
length-placed before (e ∷ es) = ap suc (length-placed (before + length (written e) + 1) es)

pieces_there : (before : ℕ) (text : List ℕ) (r : EquationRange) → IsWithin text r → pieces_at before text r ≡ placed (before + r.begin) (sides_at text r)
pieces_there before text r w = grind (arith, length-take, length-drop)

written_long : (text : List ℕ) (r : EquationRange) → IsWithin text r → r.begin + length (written (sides_at text r)) ≡ r.end
written_long text r w = grind (arith, length-append, length-take, length-drop)

pub record IsSplitting (text : List ℕ) (begin : ℕ) (many : Bool) (rs : List EquationRange) : Type 0 where
  pub equations : List Sides
  pub sides : All AreSides equations
  pub whole : pieces_from 0 text ≡ map written equations ++ pieces_from begin text
  pub begin_is : begin ≡ span equations
  pub few : many ≡ false → (length equations ≤ 6) × ((before : ℕ) → map (pieces_at before text) rs ≡ all_placed before equations) × All (IsWithin text) rs
  pub over : many ≡ true → (length rs ≡ 6) × (6 < length equations)

pub split_start : (text : List ℕ) → IsSplitting text 0 false []
split_start text = record { equations = []; sides = All-nil AreSides; whole = refl; begin_is = refl; few = λ e. (omega arith, (λ before. refl), All-nil (IsWithin text)); over = λ e. absurd cc }

-- a range was pushed, or there was no room for it
pub data Pushes (old : List EquationRange) (r : EquationRange) : List EquationRange → Bool → Type 0 where
  pushed : length old < 6 → Pushes old r (old ++ r ∷ []) false
  no_room : length old ≡ 6 → Pushes old r old true

module _ (text : List ℕ) (begin : ℕ) (many : Bool) (rs : List EquationRange) (s : IsSplitting text begin many rs) (r : EquationRange) (at_is : r.begin ≡ begin) (w : IsWithin text r) (h : AreSides (sides_at text r)) (piece : pieces_from begin text ≡ written (sides_at text r) ∷ pieces_from (r.end + 1) text) where
  longer : length (s.equations ++ sides_at text r ∷ []) ≡ length s.equations + 1
  longer = length-append s.equations (sides_at text r ∷ [])

  as_many : (before : ℕ) → map (pieces_at before text) rs ≡ all_placed before s.equations → length rs ≡ length s.equations
  as_many before e = sym (length-map rs (pieces_at before text)) ∙ ap length e ∙ length-placed before s.equations

  placed_more : (before : ℕ) → map (pieces_at before text) rs ≡ all_placed before s.equations → map (pieces_at before text) (rs ++ r ∷ []) ≡ all_placed before (s.equations ++ sides_at text r ∷ [])
  placed_more before e =
      map-append (pieces_at before text) rs (r ∷ []) ∙ (λ i. e i ++ pieces_there before text r w i ∷ [])
      ∙ ap (λ n. all_placed before s.equations ++ placed (before + n) (sides_at text r) ∷ []) (at_is ∙ s.begin_is) ∙ sym (placed-push before s.equations (sides_at text r))

  over_next : (b : Bool) → many ≡ b → length rs ≡ 6 → 6 < length (s.equations ++ sides_at text r ∷ [])
  over_next true e m = omega (arith, longer, (s.over e).1)
  over_next false e m = let (a, b, c) = s.few e in omega (arith, longer, as_many 0 (b 0), m)

  few_next : (b : Bool) → many ≡ b → length rs < 6 → (length (s.equations ++ sides_at text r ∷ []) ≤ 6) × ((before : ℕ) → map (pieces_at before text) (rs ++ r ∷ []) ≡ all_placed before (s.equations ++ sides_at text r ∷ [])) × All (IsWithin text) (rs ++ r ∷ [])
  few_next true e m = absurd (omega (arith, (s.over e).0, m))
  few_next false e m = let (a, b, c) = s.few e in (omega (arith, longer, as_many 0 (b 0), m), (λ before. placed_more before (b before)), All-push (IsWithin text) rs r c w)

  pub split_next : {rs' : List EquationRange} {many' : Bool} → Pushes rs r rs' many' → IsSplitting text (r.end + 1) many' rs'
  split_next p = record {
    equations = s.equations ++ sides_at text r ∷ [];
    sides = All-push AreSides s.equations (sides_at text r) s.sides h;
    whole = s.whole ∙ ap (λ ts. map written s.equations ++ ts) piece ∙ sym (append_assoc (map written s.equations) (written (sides_at text r) ∷ []) (pieces_from (r.end + 1) text))
        ∙ ap (λ ts. ts ++ pieces_from (r.end + 1) text) (sym (map-append written s.equations (sides_at text r ∷ [])));
    begin_is = omega (arith, span-push s.equations (sides_at text r), s.begin_is, at_is, written_long text r w);
    few = by_few p;
    over = by_over p;
  }
    where
      by_few : {rs' : List EquationRange} {many' : Bool} → Pushes rs r rs' many' → many' ≡ false → (length (s.equations ++ sides_at text r ∷ []) ≤ 6) × ((before : ℕ) → map (pieces_at before text) rs' ≡ all_placed before (s.equations ++ sides_at text r ∷ [])) × All (IsWithin text) rs'
      by_few (pushed m) e = few_next many refl m
      by_few (no_room m) e = absurd cc

      by_over : {rs' : List EquationRange} {many' : Bool} → Pushes rs r rs' many' → many' ≡ true → (length rs' ≡ 6) × (6 < length (s.equations ++ sides_at text r ∷ []))
      by_over (pushed m) e = absurd cc
      by_over (no_room m) e = (m, over_next many refl m)

module _ {text : List ℕ} {begin : ℕ} {many : Bool} {rs : List EquationRange} (s : IsSplitting text begin many rs) where
  pub all_split : length text < begin → Splits text s.equations
  all_split l =
      let rest : map written s.equations ++ pieces_from begin text ≡ map written s.equations = rw (lt-leb begin (length text) l) (append-nil (map written s.equations)) in
      record {
        some = at_least s.equations s.begin_is;
        whole = sym (join_with_byte-slice_split 59 text) ∙ ap (join_with_byte 59) (sym (whole_from text) ∙ s.whole ∙ rest) ∙ written_joined s.equations;
        sides = s.sides;
      }
    where
      at_least : (es : List Sides) → begin ≡ span es → 0 < length es
      at_least [] e = absurd (omega (arith, e, l))
      at_least (e ∷ es) is = omega arith

  -- where no equation begins there, the text is not split
  pub unwritten : ((e : Sides) (others : List (List ℕ)) → AreSides e → pieces_from begin text ≡ written e ∷ others → ⊥) → begin ≤ length text → (es : List Sides) → Splits text es → ⊥
  unwritten none l es t = left_over s.equations es s.sides t.sides (sym s.whole ∙ its_pieces t)
    where
      nothing_from : slice_split (λ b. eqb b 59) (drop begin text) ≡ [] → ⊥
      nothing_from e = omega (arith, length-slice_split (λ b. eqb b 59) (drop begin text), ap length e)

      left_over : (fs es : List Sides) → All AreSides fs → All AreSides es → map written fs ++ pieces_from begin text ≡ map written es → ⊥
      left_over [] [] h k e = nothing_from (sym (rw (le-leb begin (length text) l) refl) ∙ e)
      left_over [] (f ∷ es) h k e = none f (map written es) (All-head AreSides f es k) e
      left_over (f ∷ fs) [] h k e = absurd cc
      left_over (f ∷ fs) (g ∷ es) h k e = let rest : map written fs ++ pieces_from begin text ≡ map written es = cc in left_over fs es (All-tail AreSides f fs h) (All-tail AreSides g es k) rest

pub split_end : {text : List ℕ} {begin : ℕ} {rs : List EquationRange} → IsSplitting text begin false rs → length text < begin → AreSplit text rs
split_end s l = let (few, placed_are, within) = s.few refl in record { equations = s.equations; splits = all_split s l; few = few; placed_are = placed_are; within = within }
