-- Parts of a list that change places.
use Rattle.raw_region.proofs.Shared.{List, ap, append_assoc, arith, length, refl, replicate, sym, take, ℕ, ◌++◌, ◌+◌, ◌-◌, ◌∙◌, ◌≡◌, ◌≤◌, drop-drop, drop-take, drop_at, length-append, length-drop}
use Rattle.raw_region.proofs.{Shared.{length-take-le, take-take, take_at, put, slid, length-replicate, replicate-append-replicate, take-replicate, cleared, rotated, switched}, Slides.{put_over}}
use Rattle.std.proofs.Common.{drop}

pub rotated_is : (xs ys : List ℕ) (a b c : ℕ) → a ≤ b → b ≤ c → ys ≡ drop (b - a) (take (c - a) (drop a xs)) ++ take (b - a) (take (c - a) (drop a xs)) → take a xs ++ (ys ++ drop (c - a) (drop a xs)) ≡ rotated xs a b c
rotated_is xs ys a b c h k e =
    let whole : c - a ≡ (b - a) + (c - b) = omega arith in
    let first : drop (b - a) (take (c - a) (drop a xs)) ≡ take (c - b) (drop b xs) =
    ap (λ (n : ℕ). drop (b - a) (take n (drop a xs))) whole ∙ drop-take (b - a) (c - b) (drop a xs) ∙ ap (take (c - b)) (drop-drop (b - a) a xs) ∙ ap (λ (n : ℕ). take (c - b) (drop n xs)) (omega arith) in
    let second : take (b - a) (take (c - a) (drop a xs)) ≡ take (b - a) (drop a xs) = take-take (b - a) (c - a) (drop a xs) (omega arith) in
    let third : drop (c - a) (drop a xs) ≡ drop c xs = drop-drop (c - a) a xs ∙ ap (λ (n : ℕ). drop n xs) (omega arith) in
    rw (e, first, second, third) refl

pub switched_is : (bytes front back one two : List ℕ) (low high len : ℕ) → low + len ≤ high → front ≡ take high bytes → back ≡ drop high bytes → one ≡ take len back → two ≡ take (low + len - low) (drop low front)
    → (take low front ++ (one ++ drop (low + len - low) (drop low front))) ++ (two ++ drop len back) ≡ switched bytes low high len
switched_is bytes front back one two low high len h ef eb e1 e2 =
    let n : low + len - low ≡ len = omega arith in
    let rest : drop low front ≡ take (high - low) (drop low bytes) = ap (drop low) (ef ∙ ap (λ (k : ℕ). take k bytes) (omega arith)) ∙ drop-take low (high - low) bytes in
    let start : take low front ≡ take low bytes = ap (take low) ef ∙ take-take low high bytes (omega arith) in
    let first : two ≡ take len (drop low bytes) = e2 ∙ ap (λ (k : ℕ). take k (drop low front)) n ∙ ap (take len) rest ∙ take-take len (high - low) (drop low bytes) (omega arith) in
    let second : one ≡ take len (drop high bytes) = e1 ∙ ap (take len) eb in
    let middle : drop (low + len - low) (drop low front) ≡ take (high - (low + len)) (drop (low + len) bytes) =
    ap (λ (k : ℕ). drop k (drop low front)) n ∙ ap (λ (t : List ℕ). drop len t) (rest ∙ ap (λ (k : ℕ). take k (drop low bytes)) (omega arith)) ∙ drop-take len (high - (low + len)) (drop low bytes) ∙ ap (take (high - (low + len))) (drop-drop len low bytes) in
    let last : drop len back ≡ drop (high + len) bytes = ap (λ (t : List ℕ). drop len t) eb ∙ drop-drop len high bytes in
    rw (start, first, second, middle, last) (simp append_assoc)

-- the second part moves down over the first, which comes behind it
pub rotated_down : (xs x : List ℕ) (a b c : ℕ) → a ≤ b → b ≤ c → c ≤ length xs → x ≡ take (b - a) (drop a xs) → put (slid xs b a (c - b)) (c - (b - a)) x ≡ rotated xs a b c
rotated_down xs x a b c h k fits e =
    let s = slid xs b a (c - b) in
    let front = take a xs in
    let second = take (c - b) (drop b xs) in
    let d = drop (a + (c - b)) xs in
    let count : length x ≡ b - a = ap length e ∙ length-take-le (b - a) (drop a xs) (omega (arith, length-drop a xs)) in
    let long : length (front ++ second) ≡ c - (b - a) = omega (arith, length-append front second, length-take-le a xs (omega arith), length-take-le (c - b) (drop b xs) (omega (arith, length-drop b xs))) in
    let grouped : s ≡ (front ++ second) ++ d = sym (append_assoc front second d) in
    let first : take (c - (b - a)) s ≡ front ++ second = ap (take (c - (b - a))) grouped ∙ take_at (front ++ second) d (c - (b - a)) long in
    let one : drop (b - a) (drop (c - (b - a)) s) ≡ drop (c - (b - a) + length x) s = drop-drop (b - a) (c - (b - a)) s ∙ ap (λ (n : ℕ). drop n s) (omega arith) in
    let two : drop (b - a) d ≡ drop c xs = drop-drop (b - a) (a + (c - b)) xs ∙ ap (λ (n : ℕ). drop n xs) (omega arith) in
    let over : drop (c - (b - a) + length x) s ≡ drop c xs = sym one ∙ ap (λ (l : List ℕ). drop (b - a) l) (ap (drop (c - (b - a))) grouped ∙ drop_at (front ++ second) d (c - (b - a)) long) ∙ two in
    rw (first, over, e) (append_assoc front second (take (b - a) (drop a xs) ++ drop c xs) ∙ ap (λ (l : List ℕ). front ++ l) (sym (append_assoc second (take (b - a) (drop a xs)) (drop c xs))))

-- the same, by what the room held
pub rotated_by : (xs s z room rest : List ℕ) (a b c : ℕ) → a ≤ b → b ≤ c → c ≤ length xs → s ≡ slid xs b a (c - b) → room ≡ take (b - a) (drop a xs) → z ≡ put s (c - (b - a)) (take (b - a) (room ++ rest)) → z ≡ rotated xs a b c
rotated_by xs s z room rest a b c h k fits e r q = grind (arith, length-take-le, length-drop, rotated_down, take_at)

-- zeros at both ends of a part that they cover
pub cleared_ends : (xs ys zs : List ℕ) (a b n : ℕ) → a + n ≤ b → b ≤ a + n + n → b ≤ length xs → ys ≡ put xs a (replicate n 0) → zs ≡ put ys (b - n) (replicate n 0) → zs ≡ cleared xs a b
cleared_ends xs ys zs a b n h k fits e q =
    let z : List ℕ = replicate n 0 in
    let m : ℕ = b - n - a in
    let count : length z ≡ n = length-replicate {A = ℕ} n 0 in
    let all : take m z ++ z ≡ replicate (b - a) 0 = ap (λ (l : List ℕ). l ++ z) (take-replicate m n 0 (omega arith)) ∙ replicate-append-replicate m n 0 ∙ ap (λ (i : ℕ). replicate i 0) (omega arith) in
    put_over xs ys zs z z a m (omega (arith, count)) (omega (arith, count)) (omega (arith, count)) e (q ∙ ap (λ (i : ℕ). put ys i z) (omega arith)) ∙ ap (put xs a) all
    ∙ ap (λ (i : ℕ). take a xs ++ (replicate (b - a) 0 ++ drop i xs)) (omega (arith, length-replicate {A = ℕ} (b - a) 0))
