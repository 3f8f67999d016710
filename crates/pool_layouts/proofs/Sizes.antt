-- The bytes that a layout's nodes take one after another.
use Rattle.pool_layouts.proofs.Shared.{◌≡◌, ◌∙◌, if◌then◌else◌, ℕ, suc, ◌+◌, ◌-◌, ◌≤◌, List, [], ◌∷◌, ◌++◌, nat_le, nat_eq, Bool, true, Option, Some, None, Result, Ok, Err, refl, sym, ap, arith}
use Rattle.pool_layouts.proofs.Shared.{append_assoc, append-nil, eqb-true, le-leb, Kind, Payload, bare, size_of_payload, Full, taking, Forest, empty, tree, join, arity, Place, part_sizes, parts_sizes}
use Rattle.pool_layouts.proofs.Shared.{composed, drawn, drawings, composes, composes_kind, Layout, Layouts, nothing, beside, one_part, join_parts, around_sizes, IsAround, mark_before, marks, within}
use Rattle.calc_terms.specs.declared.kind.Kind.TheVariants as kind

pub join_parts-nothing : (ls : Layouts) → join_parts ls nothing ≡ ls
join_parts-nothing nothing = refl
join_parts-nothing (beside l ls) = ap (beside l) (join_parts-nothing ls)

pub join_parts-assoc : (a b c : Layouts) → join_parts (join_parts a b) c ≡ join_parts a (join_parts b c)
join_parts-assoc nothing b c = refl
join_parts-assoc (beside l a) b c = ap (beside l) (join_parts-assoc a b c)

pub drawings-join : (f g : Forest) → drawings (join f g) ≡ join_parts (drawings f) (drawings g)
drawings-join empty g = refl
drawings-join (tree l k r) g = ap (beside (drawn l.payload (drawings k))) (drawings-join r g)

-- how many parts
abbrev pub count_parts : Layouts → ℕ
count_parts nothing = 0
count_parts (beside l ls) = suc (count_parts ls)

pub count-drawings : (f : Forest) → count_parts (drawings f) ≡ arity f
count-drawings empty = refl
count-drawings (tree l k r) = ap suc (count-drawings r)

pub count-join : (a b : Layouts) → count_parts (join_parts a b) ≡ count_parts a + count_parts b
count-join nothing b = omega arith
count-join (beside l a) b = omega (arith, count-join a b)

pub sizes-join : (a b : Layouts) → parts_sizes (join_parts a b) ≡ parts_sizes a ++ parts_sizes b
sizes-join nothing b = refl
sizes-join (beside l a) b = ap (λ (x : List ℕ). part_sizes l ++ x) (sizes-join a b) ∙ sym (append_assoc (part_sizes l) (parts_sizes a) (parts_sizes b))

pub sizes-marks : (p : Place) → parts_sizes (marks (mark_before p)) ≡ around_sizes (mark_before p)
sizes-marks p = grind arith

none_of : (ls : Layouts) (size : ℕ) → nat_eq (count_parts ls) 0 ≡ true → size ∷ [] ≡ parts_sizes ls ++ size ∷ []
none_of nothing size h = refl
none_of (beside l ls) size h = absurd (omega (arith, eqb-true (count_parts (beside l ls)) 0 h))

one_of : (ls : Layouts) (size : ℕ) (part : Layout) → nat_eq (count_parts ls) 1 ≡ true → ((l : Layout) → ls ≡ one_part l → part_sizes part ≡ part_sizes l ++ size ∷ [])
    → part_sizes part ≡ parts_sizes ls ++ size ∷ []
one_of (beside l nothing) size part h e = e l refl ∙ ap (λ (x : List ℕ). x ++ size ∷ []) (sym (append-nil (part_sizes l)))
one_of ls size part h e = absurd (omega (arith, eqb-true (count_parts ls) 1 h))

fraction_of : (ls : Layouts) → nat_eq (count_parts ls) 2 ≡ true → part_sizes (composed kind.Fraction ls) ≡ parts_sizes ls ++ size_of_payload (bare kind.Fraction) ∷ []
fraction_of (beside l (beside m nothing)) h = ap (λ (x : List ℕ). (part_sizes l ++ x) ++ size_of_payload (bare kind.Fraction) ∷ []) (sym (append-nil (part_sizes m)))
fraction_of ls h = absurd (omega (arith, eqb-true (count_parts ls) 2 h))

composed_sizes : (k : Kind) (ls : Layouts) → composes_kind k (count_parts ls) ≡ true → part_sizes (composed k ls) ≡ parts_sizes ls ++ size_of_payload (bare k) ∷ []
composed_sizes k ls h = grind (arith, none_of, fraction_of, one_of)

pub drawn_sizes : (x : Payload) (ls : Layouts) → composes x (count_parts ls) ≡ true → part_sizes (drawn x ls) ≡ parts_sizes ls ++ size_of_payload x ∷ []
drawn_sizes x ls h = grind (arith, none_of, composed_sizes)

pub within_sizes : (around : Option Kind) (l : Layout) → IsAround around → part_sizes (within around l) ≡ part_sizes l ++ around_sizes around
within_sizes None l h = sym (append-nil (part_sizes l))
within_sizes (Some k) l h = composed_sizes k (one_part l) h.1 ∙ ap (λ (x : List ℕ). x ++ size_of_payload (bare k) ∷ []) (append-nil (part_sizes l))

-- ---- placings one after another

abbrev pub taking_if : Bool → ℕ → ℕ → List ℕ → Result ℕ Full
taking_if b free m ms = if b then taking (free - m) ms else Err (record { needed = m; free = free })

taken_by : (t : Bool) (free left m : ℕ) (ms ns : List ℕ) → taking_if t free m ms ≡ Ok left → (taking (free - m) ms ≡ Ok left → taking (free - m) (ms ++ ns) ≡ taking left ns)
    → taking_if t free m (ms ++ ns) ≡ taking left ns
taken_by t free left m ms ns e h = grind arith

pub taken_first : (free left : ℕ) (ms ns : List ℕ) → taking free ms ≡ Ok left → taking free (ms ++ ns) ≡ taking left ns
taken_first free left [] ns e = ap (λ (n : ℕ). taking n ns) (let same : free ≡ left = cc in same)
taken_first free left (m ∷ ms) ns e = taken_by (nat_le m free) free left m ms ns e (taken_first (free - m) left ms ns)

refused_by : (t : Bool) (free : ℕ) (full : Full) (m : ℕ) (ms ns : List ℕ) → taking_if t free m ms ≡ Err full
    → (taking (free - m) ms ≡ Err full → taking (free - m) (ms ++ ns) ≡ Err full) → taking_if t free m (ms ++ ns) ≡ Err full
refused_by t free full m ms ns e h = grind arith

pub refused_first : (free : ℕ) (full : Full) (ms ns : List ℕ) → taking free ms ≡ Err full → taking free (ms ++ ns) ≡ Err full
refused_first free full [] ns e = absurd (cc e)
refused_first free full (m ∷ ms) ns e = refused_by (nat_le m free) free full m ms ns e (refused_first (free - m) full ms ns)

-- one placing
pub takes_one : (free n : ℕ) → n ≤ free → taking free (n ∷ []) ≡ Ok (free - n)
takes_one free n h = ap (λ (b : Bool). if b then taking (free - n) [] else Err (record { needed = n; free = free })) (le-leb n free h)
