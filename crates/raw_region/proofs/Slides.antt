-- Bytes that move in parts.
use Rattle.raw_region.proofs.Shared.{List, ap, append_assoc, arith, length, refl, sym, take, ℕ, ◌++◌, ◌+◌, ◌-◌, ◌∙◌, ◌≡◌, ◌≤◌, take-add, drop-drop, drop-take}
use Rattle.raw_region.proofs.{Shared.{drop_at, length-append, length-drop, length-take-le, take-append-drop, take-take, take_at, put, slid}, Puts.{length-put, put-put}}
use Rattle.std.proofs.Common.{drop}

length-run : (xs : List ℕ) (a n : ℕ) → a + n ≤ length xs → length (take n (drop a xs)) ≡ n
length-run xs a n h = length-take-le n (drop a xs) (omega (arith, length-drop a xs))

slid_put : (xs : List ℕ) (a b n : ℕ) → a + n ≤ length xs → slid xs a b n ≡ put xs b (take n (drop a xs))
slid_put xs a b n h = ap (λ (m : ℕ). take b xs ++ (take n (drop a xs) ++ drop (b + m) xs)) (sym (length-run xs a n h))

pub length-slid : (xs : List ℕ) (a b n : ℕ) → a + n ≤ length xs → b + n ≤ length xs → length (slid xs a b n) ≡ length xs
length-slid xs a b n h k = grind (arith, length-run, slid_put, length-put)

-- what stands behind a part that moved down is as it was
behind : (xs ys : List ℕ) (a b k : ℕ) → b ≤ a → a + k ≤ length xs → ys ≡ slid xs a b k → drop (a + k) ys ≡ drop (a + k) xs
behind xs ys a b k le h e =
    let p = take k (drop a xs) in
    let over : drop (b + k) ys ≡ drop (b + k) xs = ap (drop (b + k)) (e ∙ sym (append_assoc (take b xs) p (drop (b + k) xs)))
    ∙ drop_at (take b xs ++ p) (drop (b + k) xs) (b + k) (omega (arith, length-append (take b xs) p, length-take-le b xs (omega arith), length-run xs a k h)) in
    let split = λ (l : List ℕ). let step : drop (a - b) (drop (b + k) l) ≡ drop (a + k) l = drop-drop (a - b) (b + k) l ∙ ap (λ (n : ℕ). drop n l) (omega arith) in step in
    sym (split ys) ∙ ap (drop (a - b)) over ∙ split xs

-- n bytes more have moved down
pub slid_more : (xs ys zs run : List ℕ) (a b k n : ℕ) → b ≤ a → a + (k + n) ≤ length xs → ys ≡ slid xs a b k → run ≡ take n (drop (a + k) ys) → zs ≡ put ys (b + k) run → zs ≡ slid xs a b (k + n)
slid_more xs ys zs run a b k n le h e r q = grind (arith, behind, drop-drop, take-add, slid_put, put-put, length-run)

pub slid_after : (xs ys : List ℕ) (a b k n : ℕ) → b ≤ a → a + (k + n) ≤ length xs → ys ≡ slid xs a b k → slid ys (a + k) (b + k) n ≡ slid xs a b (k + n)
slid_after xs ys a b k n le h e = grind (arith, length-slid, slid_more, slid_put)

-- n bytes more have moved up, and m of them all have not
pub slid_less : (xs ys zs run : List ℕ) (a b len left m n : ℕ) → a ≤ b → b + len ≤ length xs → left ≤ len → left ≡ m + n → ys ≡ slid xs (a + left) (b + left) (len - left) → run ≡ take n (drop (a + m) ys) → zs ≡ put ys (b + m) run
    → zs ≡ slid xs (a + m) (b + m) (len - m)
slid_less xs ys zs run a b len left m n le h k s e r q =
    let front = take (b + left) xs in
    let rest = take (len - left) (drop (a + left) xs) in
    let d = drop (b + left + (len - left)) xs in
    let long : length front ≡ b + left = length-take-le (b + left) xs (omega arith) in
    let below : take (b + left) ys ≡ front = ap (take (b + left)) e ∙ take_at front (rest ++ d) (b + left) long in
    let above : drop (b + left) ys ≡ rest ++ d = ap (drop (b + left)) e ∙ drop_at front (rest ++ d) (b + left) long in
    let near = λ (i : ℕ) (i_le : i ≤ b + left). let step : take i ys ≡ take i xs = sym (take-take i (b + left) ys i_le) ∙ ap (λ (l : List ℕ). take i l) below ∙ take-take i (b + left) xs i_le in step in
    let cut = λ (l : List ℕ). let step : take n (drop (a + m) l) ≡ drop (a + m) (take (a + left) l) = sym (drop-take (a + m) n l) ∙ ap (λ (i : ℕ). drop (a + m) (take i l)) (omega arith) in step in
    let next : run ≡ take n (drop (a + m) xs) = r ∙ cut ys ∙ ap (λ (l : List ℕ). drop (a + m) l) (near (a + left) (omega arith)) ∙ sym (cut xs) in
    let count : length run ≡ n = ap length next ∙ length-run xs (a + m) n (omega arith) in
    let over : drop (b + m + length run) ys ≡ rest ++ d = ap (λ (i : ℕ). drop i ys) (omega (arith, count)) ∙ above in
    let joined : take n (drop (a + m) xs) ++ rest ≡ take (len - m) (drop (a + m) xs) =
    ap (λ (l : List ℕ). take n (drop (a + m) xs) ++ take (len - left) l) (sym (drop-drop n (a + m) xs ∙ ap (λ (i : ℕ). drop i xs) (omega arith))) ∙ sym (take-add n (len - left) (drop (a + m) xs)) ∙ ap (λ (i : ℕ). take i (drop (a + m) xs)) (omega arith) in
    let last : d ≡ drop (b + m + (len - m)) xs = ap (λ (i : ℕ). drop i xs) (omega arith) in
    q ∙ ap (λ (l : List ℕ). l ++ (run ++ drop (b + m + length run) ys)) (near (b + m) (omega arith))
    ∙ ap (λ (l : List ℕ). take (b + m) xs ++ (run ++ l)) over ∙ ap (λ (l : List ℕ). take (b + m) xs ++ (l ++ (rest ++ d))) next
    ∙ ap (λ (l : List ℕ). take (b + m) xs ++ l) (sym (append_assoc (take n (drop (a + m) xs)) rest d) ∙ ap (λ (l : List ℕ). l ++ d) joined ∙ ap (λ (l : List ℕ). take (len - m) (drop (a + m) xs) ++ l) last)

pub slid_before : (xs ys : List ℕ) (a b len left m : ℕ) → a ≤ b → b + len ≤ length xs → left ≤ len → m ≤ left → ys ≡ slid xs (a + left) (b + left) (len - left) → slid ys (a + m) (b + m) (left - m) ≡ slid xs (a + m) (b + m) (len - m)
slid_before xs ys a b len left m le h k s e =
    let long : length ys ≡ length xs = ap length e ∙ length-slid xs (a + left) (b + left) (len - left) (omega arith) (omega arith) in
    slid_less xs ys (slid ys (a + m) (b + m) (left - m)) (take (left - m) (drop (a + m) ys)) a b len left m (left - m) le h k (omega arith) e refl (slid_put ys (a + m) (b + m) (left - m) (omega arith))

-- nothing moves
pub slid_none : (xs : List ℕ) (a b len : ℕ) → len ≡ 0 → xs ≡ slid xs a b len
slid_none xs a b len e = grind (arith, take-append-drop)

-- ---- both ends at once

-- a run over the end of another
pub put_over : (xs ys zs first last : List ℕ) (at k : ℕ) → k ≤ length first → length first ≤ k + length last → at + (k + length last) ≤ length xs → ys ≡ put xs at first → zs ≡ put ys (at + k) last
    → zs ≡ put xs at (take k first ++ last)
put_over xs ys zs first last at k h1 h2 fits e q =
    let front = take at xs in
    let kept = take k first in
    let d = drop (at + length first) xs in
    let long : length front ≡ at = length-take-le at xs (omega arith) in
    let some : length kept ≡ k = length-take-le k first h1 in
    let split : ys ≡ (front ++ kept) ++ (drop k first ++ d) = e ∙ ap (λ (l : List ℕ). front ++ (l ++ d)) (sym (take-append-drop k first)) ∙ simp append_assoc in
    let below : take (at + k) ys ≡ front ++ kept = ap (take (at + k)) split ∙ take_at (front ++ kept) (drop k first ++ d) (at + k) (omega (arith, length-append front kept)) in
    let whole : ys ≡ (front ++ first) ++ d = e ∙ sym (append_assoc front first d) in
    let reach : at + length first + (k + length last - length first) ≡ at + k + length last = omega arith in
    let far = λ (l : List ℕ). let step : drop (k + length last - length first) (drop (at + length first) l) ≡ drop (at + k + length last) l = drop-drop (k + length last - length first) (at + length first) l ∙ ap (λ (n : ℕ). drop n l) reach in step in
    let over : drop (at + length first) ys ≡ d = ap (drop (at + length first)) whole ∙ drop_at (front ++ first) d (at + length first) (omega (arith, length-append front first)) in
    let above : drop (at + k + length last) ys ≡ drop (at + k + length last) xs = sym (far ys) ∙ ap (λ (l : List ℕ). drop (k + length last - length first) l) over ∙ far xs in
    let end : at + length (kept ++ last) ≡ at + k + length last = omega (arith, length-append kept last) in
    let rest = drop (at + k + length last) xs in
    let same : (front ++ kept) ++ (last ++ rest) ≡ front ++ ((kept ++ last) ++ rest) = simp append_assoc in
    q ∙ ap (λ (l : List ℕ). l ++ (last ++ drop (at + k + length last) ys)) below ∙ ap (λ (l : List ℕ). (front ++ kept) ++ (last ++ l)) above
    ∙ same ∙ ap (λ (n : ℕ). front ++ ((kept ++ last) ++ drop n xs)) (sym end)

pub slid_ends : (xs ys zs first last : List ℕ) (a b len n : ℕ) → n ≤ len → len ≤ n + n → a + len ≤ length xs → b + len ≤ length xs
    → first ≡ take n (drop a xs) → last ≡ take n (drop (a + (len - n)) xs) → ys ≡ put xs b first → zs ≡ put ys (b + (len - n)) last → zs ≡ slid xs a b len
slid_ends xs ys zs first last a b len n h k source target e1 e2 e q =
    let m : ℕ = len - n in
    let l = drop a xs in
    let one : length first ≡ n = ap length e1 ∙ length-run xs a n (omega arith) in
    let two : length last ≡ n = ap length e2 ∙ length-run xs (a + m) n (omega arith) in
    let kept : take m first ≡ take m l = ap (take m) e1 ∙ take-take m n l (omega arith) in
    let rest : last ≡ take n (drop m l) = e2 ∙ ap (take n) (sym (drop-drop m a xs ∙ ap (λ (i : ℕ). drop i xs) (omega arith))) in
    let all : m + n ≡ len = omega arith in
    let run : take m first ++ last ≡ take len l = rw (kept, rest) (sym (take-add m n l) ∙ ap (λ (i : ℕ). take i l) all) in
    put_over xs ys zs first last b m (omega (arith, one)) (omega (arith, one, two)) (omega (arith, two, target)) e q ∙ ap (put xs b) run ∙ sym (slid_put xs a b len source)
