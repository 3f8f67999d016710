-- The square of a sum of terms, in which each mixed product stands once: what it is worth, how large it is and what spans it.
use Rattle.number_forms.proofs.Shared.{◌≡◌, ℕ, ◌+◌, ◌*◌, ◌^◌, ◌≤◌, List, [], ◌∷◌, ◌++◌, map, ap, ◌∙◌, arith, append_assoc, Same, Term, Surd, term, term_times, surd_times, Agree, Agree-refl}
use Rattle.number_forms.proofs.Shared.{Agree-trans, Agree-eq, Agree-append, Agree-Same, surd_times_comm, Parts, SharesDenominators, term_mass, mass_from, mass, IsHeld, mass-append, parts_append}
use Rattle.number_forms.proofs.Shared.{parts_left, parts_right, IsSpanned, Spans, spans_append, spans_row, times_comm, twice, square_row, square_terms, mul_comm}
use Rattle.number_forms.proofs.Twice.{twice_agrees, whole_twice, twice_mass}

-- ---- worth

agrees : (v : Surd) → Agree (square_terms v) (surd_times v v)
agrees [] = Agree-refl []
agrees (x ∷ w) =
    let p : Surd = map (term_times x) w in
    let rest : Surd = surd_times w w in
    let own : Surd = term_times x x ∷ [] in
    let once : Agree (square_terms (x ∷ w)) ((own ++ (p ++ p)) ++ rest) = Agree-append (Agree-append (Agree-refl own) (twice_agrees x w)) (agrees w) in
    let moved : (own ++ (p ++ p)) ++ rest ≡ (own ++ p) ++ (p ++ rest) = append_assoc own (p ++ p) rest ∙ ap (λ (u : Surd). own ++ u) (append_assoc p p rest) in
    Agree-trans once (Agree-trans (Agree-eq moved) (Agree-append (Agree-refl (own ++ p)) (surd_times_comm (x ∷ w) w)))

pub square_same : (v : Surd) → Same (square_terms v) (surd_times v v)
square_same v = Agree-Same (agrees v)

-- ---- common denominators

-- without the first of each row
whole_rows : (d : ℕ) (u : Surd) (x : Term) (w : Surd) → Parts d (surd_times u (x ∷ w)) → Parts d (surd_times u w)
whole_rows d [] x w p = p
whole_rows d (y ∷ u) x w p =
    let row : Parts d (term_times y x ∷ map (term_times y) w) = parts_left d (term_times y x ∷ map (term_times y) w) (surd_times u (x ∷ w)) p in
    parts_append d (map (term_times y) w) (surd_times u w) (record { positive = p.positive; whole = row.whole.1 }) (whole_rows d u x w (parts_right d (term_times y x ∷ map (term_times y) w) (surd_times u (x ∷ w)) p))

pub square_parts : (v : Surd) → SharesDenominators (surd_times v v) (square_terms v)
square_parts [] d p = p
square_parts (x ∷ w) d p =
    let row : Parts d (term_times x x ∷ map (term_times x) w) = parts_left d (term_times x x ∷ map (term_times x) w) (surd_times w (x ∷ w)) p in
    parts_append d (square_row x w) (square_terms w) (record { positive = p.positive; whole = (row.whole.0, whole_twice d x w row.whole.1) })
    (square_parts w d (whole_rows d w x w (parts_right d (term_times x x ∷ map (term_times x) w) (surd_times w (x ∷ w)) p)))

-- ---- bits

turned : (x y : Term) → term_times y x ≡ term_times x y
turned x y = λ i. term (times_comm y.coefficient x.coefficient i) (mul_comm y.radicand x.radicand i)

-- the first of each row by themselves
rows_mass : (m e : ℕ) (u : Surd) (x : Term) (w : Surd) → mass_from m e (surd_times u (x ∷ w)) ≡ mass_from m e (map (term_times x) u) + mass_from m e (surd_times u w)
rows_mass m e [] x w = omega arith
rows_mass m e (y ∷ u) x w =
    let a : mass_from m e ((term_times y x ∷ map (term_times y) w) ++ surd_times u (x ∷ w)) ≡ mass_from m e (term_times y x ∷ map (term_times y) w) + mass_from m e (surd_times u (x ∷ w)) =
    mass-append m e (term_times y x ∷ map (term_times y) w) (surd_times u (x ∷ w)) in
    let b : mass_from m e (map (term_times y) w ++ surd_times u w) ≡ mass_from m e (map (term_times y) w) + mass_from m e (surd_times u w) =
    mass-append m e (map (term_times y) w) (surd_times u w) in
    let c : mass_from m e (surd_times u (x ∷ w)) ≡ mass_from m e (map (term_times x) u) + mass_from m e (surd_times u w) = rows_mass m e u x w in
    let t : term_mass m e (term_times y x) ≡ term_mass m e (term_times x y) = ap (term_mass m e) (turned x y) in
    omega arith

square_mass : (m e : ℕ) (v : Surd) → Parts e (surd_times v v) → mass_from m e (square_terms v) ≤ mass_from m e (surd_times v v)
square_mass m e [] p = omega arith
square_mass m e (x ∷ w) p =
    let q : Parts e (surd_times w (x ∷ w)) = parts_right e (term_times x x ∷ map (term_times x) w) (surd_times w (x ∷ w)) p in
    let row : Parts e (term_times x x ∷ map (term_times x) w) = parts_left e (term_times x x ∷ map (term_times x) w) (surd_times w (x ∷ w)) p in
    let a : mass_from m e (square_row x w ++ square_terms w) ≡ mass_from m e (square_row x w) + mass_from m e (square_terms w) = mass-append m e (square_row x w) (square_terms w) in
    let b : mass_from m e (map (term_times (twice x)) w) ≤ 2 * mass_from m e (map (term_times x) w) = twice_mass m e x w row.whole.1 in
    let c : mass_from m e (square_terms w) ≤ mass_from m e (surd_times w w) = square_mass m e w (whole_rows e w x w q) in
    let f : mass_from m e ((term_times x x ∷ map (term_times x) w) ++ surd_times w (x ∷ w)) ≡ mass_from m e (term_times x x ∷ map (term_times x) w) + mass_from m e (surd_times w (x ∷ w)) =
    mass-append m e (term_times x x ∷ map (term_times x) w) (surd_times w (x ∷ w)) in
    let g : mass_from m e (surd_times w (x ∷ w)) ≡ mass_from m e (map (term_times x) w) + mass_from m e (surd_times w w) = rows_mass m e w x w in
    omega arith

pub square_held : (v : Surd) (h l : ℕ) → IsHeld (surd_times v v) h l → IsHeld (square_terms v) h l
square_held v h l k = record {
  denominator = k.denominator;
  parts = square_parts v k.denominator k.parts;
  low = k.low;
  scale = k.scale;
  scaled = square_parts v k.scale k.scaled;
  high = let a : mass k.scale (square_terms v) ≤ mass k.scale (surd_times v v) = square_mass k.scale k.scale v k.scaled in
      let b : mass k.scale (surd_times v v) ≤ k.scale * 2 ^ h = k.high in
      omega arith;
}

-- a term in front of others
pub held_front : (p : Surd) (a : Term) (q : Surd) (h l : ℕ) → IsHeld (p ++ (a ∷ q)) h l → IsHeld ((a ∷ p) ++ q) h l
held_front p a q h l k = record {
  denominator = k.denominator;
  parts = moved k.denominator k.parts;
  low = k.low;
  scale = k.scale;
  scaled = moved k.scale k.scaled;
  high =
      let x : mass k.scale (p ++ (a ∷ q)) ≡ mass k.scale p + mass k.scale (a ∷ q) = mass-append k.scale k.scale p (a ∷ q) in
      let y : mass k.scale (p ++ q) ≡ mass k.scale p + mass k.scale q = mass-append k.scale k.scale p q in
      let z : mass k.scale (p ++ (a ∷ q)) ≤ k.scale * 2 ^ h = k.high in
      omega arith;
}
  where
    moved : (d : ℕ) → Parts d (p ++ (a ∷ q)) → Parts d ((a ∷ p) ++ q)
    moved d r =
        let s : Parts d (a ∷ q) = parts_right d p (a ∷ q) r in
        parts_append d (a ∷ p) q (record { positive = r.positive; whole = (s.whole.0, (parts_left d p (a ∷ q) r).whole) }) (record { positive = r.positive; whole = s.whole.1 })

-- ---- what spans it

pub spans_square_row : (gs : List ℕ) (x : Term) (w : Surd) → IsSpanned gs x.radicand → Spans gs w → Spans gs (square_row x w)
spans_square_row gs x w h k = ((spans_row gs x (x ∷ []) h (h, tt)).0, spans_row gs (twice x) w h k)

pub spans_square : (gs : List ℕ) (v : Surd) → Spans gs v → Spans gs (square_terms v)
spans_square gs [] h = h
spans_square gs (x ∷ w) (h, k) = spans_append gs (square_row x w) (square_terms w) (spans_square_row gs x w h k) (spans_square gs w k)
