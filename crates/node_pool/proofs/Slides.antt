-- Bytes that move or go.
use Rattle.node_pool.proofs.Shared.{List, ap, append_assoc, arith, drop, length, refl, replicate, sym, take, ℕ, ◌++◌, ◌+◌, ◌-◌, ◌∙◌, ◌≡◌, ◌≤◌, drop-drop, drop_at}
use Rattle.node_pool.proofs.Shared.{length-append, length-take-le, take-append-drop, take-take, take_at, cleared, put, rotated, slid, switched}

-- a part goes, what is behind it closes up, and zeros come to the end
pub closed_up : (a b c z store s1 : List ℕ) (i len j : ℕ) → store ≡ a ++ (b ++ (c ++ z)) → length a ≡ i → length b ≡ len → length c ≡ j → s1 ≡ slid store (i + len) i j
    → cleared s1 (i + j) (i + len + j) ≡ (a ++ c) ++ (replicate len 0 ++ z)
closed_up a b c z store s1 i len j e ha hb hc q =
    let front : take i store ≡ a = ap (take i) e ∙ take_at a (b ++ (c ++ z)) i ha in
    let at-c : drop (i + len) store ≡ c ++ z = sym (drop-drop len i store) ∙ ap (λ (x : List ℕ). drop len x) (ap (drop i) e ∙ drop_at a (b ++ (c ++ z)) i ha) ∙ drop_at b (c ++ z) len hb in
    let piece : take j (drop (i + len) store) ≡ c = ap (take j) at-c ∙ take_at c z j hc in
    let d = drop (i + j) store in
    let now : s1 ≡ (a ++ c) ++ d = q ∙ rw (front, piece) (sym (append_assoc a c d)) in
    let ac : length (a ++ c) ≡ i + j = omega (arith, length-append a c) in
    let kept : take (i + j) s1 ≡ a ++ c = ap (take (i + j)) now ∙ take_at (a ++ c) d (i + j) ac in
    let over : drop (i + len + j) s1 ≡ z =
    ap (λ (n : ℕ). drop n s1) (omega arith) ∙ sym (drop-drop len (i + j) s1) ∙ ap (λ (x : List ℕ). drop len x) (ap (drop (i + j)) now ∙ drop_at (a ++ c) d (i + j) ac)
    ∙ drop-drop len (i + j) store ∙ ap (λ (n : ℕ). drop n store) (omega arith) ∙ sym (drop-drop j (i + len) store) ∙ ap (λ (x : List ℕ). drop j x) at-c ∙ drop_at c z j hc in
    let gap : i + len + j - (i + j) ≡ len = omega arith in
    rw (kept, gap, over) refl

-- a part moves up by eight bytes, and others fill the gap
pub opened_up : (a b g w z store s1 : List ℕ) (i j : ℕ) → store ≡ a ++ (b ++ (g ++ z)) → length a ≡ i → length b ≡ j → length g ≡ 8 → length w ≡ 8 → s1 ≡ slid store i (i + 8) j → put s1 i w ≡ a ++ (w ++ (b ++ z))
opened_up a b g w z store s1 i j e ha hb hg hw q =
    let at-b : drop i store ≡ b ++ (g ++ z) = ap (drop i) e ∙ drop_at a (b ++ (g ++ z)) i ha in
    let piece : take j (drop i store) ≡ b = ap (take j) at-b ∙ take_at b (g ++ z) j hb in
    let at-z : drop (i + 8 + j) store ≡ z =
    ap (λ (n : ℕ). drop n store) (omega arith) ∙ sym (drop-drop (j + 8) i store) ∙ ap (λ (x : List ℕ). drop (j + 8) x) (at-b ∙ sym (append_assoc b g z)) ∙ drop_at (b ++ g) z (j + 8) (omega (arith, length-append b g)) in
    let t = take (i + 8) store in
    let now : s1 ≡ t ++ (b ++ z) = q ∙ rw (piece, at-z) refl in
    let long : length t ≡ i + 8 = length-take-le (i + 8) store (omega (arith, ap length e, length-append a (b ++ (g ++ z)), length-append b (g ++ z), length-append g z)) in
    let kept : length (take i t) ≡ i = length-take-le i t (omega (arith, long)) in
    let split : s1 ≡ take i t ++ (drop i t ++ (b ++ z)) = now ∙ ap (λ (x : List ℕ). x ++ (b ++ z)) (sym (take-append-drop i t)) ∙ append_assoc (take i t) (drop i t) (b ++ z) in
    let front : take i s1 ≡ a = ap (take i) split ∙ take_at (take i t) (drop i t ++ (b ++ z)) i kept ∙ take-take i (i + 8) store (omega arith) ∙ ap (take i) e ∙ take_at a (b ++ (g ++ z)) i ha in
    let behind : drop (i + length w) s1 ≡ b ++ z = ap (λ (n : ℕ). drop (i + n) s1) hw ∙ ap (drop (i + 8)) now ∙ drop_at t (b ++ z) (i + 8) long in
    rw (front, behind) refl

pub turned : (a x y d store : List ℕ) (i j k : ℕ) → store ≡ a ++ (x ++ (y ++ d)) → length a ≡ i → length x ≡ j - i → length y ≡ k - j → i ≤ j → j ≤ k → rotated store i j k ≡ a ++ ((y ++ x) ++ d)
turned a x y d store i j k e ha hx hy h1 h2 =
    let front : take i store ≡ a = ap (take i) e ∙ take_at a (x ++ (y ++ d)) i ha in
    let at-x : drop i store ≡ x ++ (y ++ d) = ap (drop i) e ∙ drop_at a (x ++ (y ++ d)) i ha in
    let at-y : drop j store ≡ y ++ d = ap (λ (n : ℕ). drop n store) (omega arith) ∙ sym (drop-drop (j - i) i store) ∙ ap (λ (t : List ℕ). drop (j - i) t) at-x ∙ drop_at x (y ++ d) (j - i) hx in
    let at-d : drop k store ≡ d = ap (λ (n : ℕ). drop n store) (omega arith) ∙ sym (drop-drop (k - j) j store) ∙ ap (λ (t : List ℕ). drop (k - j) t) at-y ∙ drop_at y d (k - j) hy in
    let one : take (k - j) (drop j store) ≡ y = ap (take (k - j)) at-y ∙ take_at y d (k - j) hy in
    let two : take (j - i) (drop i store) ≡ x = ap (take (j - i)) at-x ∙ take_at x (y ++ d) (j - i) hx in
    rw (front, one, two, at-d) refl

-- two parts of one length change places
pub switched_parts : (a x y z d store : List ℕ) (i k len : ℕ) → store ≡ a ++ (x ++ (y ++ (z ++ d))) → length a ≡ i → length x ≡ len → length y ≡ k - (i + len) → length z ≡ len → i + len ≤ k → switched store i k len ≡ a ++ (z ++ (y ++ (x ++ d)))
switched_parts a x y z d store i k len e ha hx hy hz h =
    let front : take i store ≡ a = ap (take i) e ∙ take_at a (x ++ (y ++ (z ++ d))) i ha in
    let at-x : drop i store ≡ x ++ (y ++ (z ++ d)) = ap (drop i) e ∙ drop_at a (x ++ (y ++ (z ++ d))) i ha in
    let at-y : drop (i + len) store ≡ y ++ (z ++ d) = sym (drop-drop len i store) ∙ ap (λ (t : List ℕ). drop len t) at-x ∙ drop_at x (y ++ (z ++ d)) len hx in
    let at-z : drop k store ≡ z ++ d = ap (λ (n : ℕ). drop n store) (omega arith) ∙ sym (drop-drop (k - (i + len)) (i + len) store) ∙ ap (λ (t : List ℕ). drop (k - (i + len)) t) at-y ∙ drop_at y (z ++ d) (k - (i + len)) hy in
    let at-d : drop (k + len) store ≡ d = sym (drop-drop len k store) ∙ ap (λ (t : List ℕ). drop len t) at-z ∙ drop_at z d len hz in
    let one : take len (drop k store) ≡ z = ap (take len) at-z ∙ take_at z d len hz in
    let two : take (k - (i + len)) (drop (i + len) store) ≡ y = ap (take (k - (i + len))) at-y ∙ take_at y (z ++ d) (k - (i + len)) hy in
    let three : take len (drop i store) ≡ x = ap (take len) at-x ∙ take_at x (y ++ (z ++ d)) len hx in
    rw (front, one, two, three, at-d) refl
