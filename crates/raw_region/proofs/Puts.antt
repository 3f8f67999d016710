-- Writing one list after another.
use Rattle.raw_region.proofs.Shared.{List, [], ap, append_assoc, arith, length, sym, take, ℕ, ◌++◌, ◌+◌, ◌∙◌, ◌≡◌, ◌≤◌, drop-drop, drop_at, length-append, length-drop, take-append-drop, take_at, put}
use Rattle.std.proofs.{Common.drop, lemmas.List.length-take}

pub length-put : (xs : List ℕ) (at : ℕ) (ys : List ℕ) → at + length ys ≤ length xs → length (put xs at ys) ≡ length xs
length-put xs at ys h = omega (arith, length-append (take at xs) (ys ++ drop (at + length ys) xs), length-append ys (drop (at + length ys) xs), length-take at xs, length-drop (at + length ys) xs)

pub put-nil : (xs : List ℕ) (at : ℕ) → xs ≡ put xs at []
put-nil xs at = let e : at + 0 ≡ at = omega arith in rw e (sym (take-append-drop at xs))

pub put-put : (xs : List ℕ) (at : ℕ) (ys : List ℕ) (next : ℕ) (zs : List ℕ) → next ≡ at + length ys → at ≤ length xs → put (put xs at ys) next zs ≡ put xs at (ys ++ zs)
put-put xs at ys next zs e h =
    let a = take at xs in
    let d = drop (at + length ys) xs in
    let len : length (a ++ ys) ≡ next = omega (arith, length-append a ys, length-take at xs) in
    let grouped : put xs at ys ≡ (a ++ ys) ++ d = sym (append_assoc a ys d) in
    let first : take next (put xs at ys) ≡ a ++ ys = ap (take next) grouped ∙ take_at (a ++ ys) d next len in
    let over : drop (next + length zs) (put xs at ys) ≡ drop (at + length (ys ++ zs)) xs =
    sym (drop-drop (length zs) next (put xs at ys)) ∙ ap (λ (x : List ℕ). drop (length zs) x) (ap (drop next) grouped ∙ drop_at (a ++ ys) d next len)
    ∙ drop-drop (length zs) (at + length ys) xs ∙ ap (λ (n : ℕ). drop n xs) (omega (arith, length-append ys zs)) in
    rw (first, over) (append_assoc a ys (zs ++ drop (at + length (ys ++ zs)) xs) ∙ ap (λ (x : List ℕ). a ++ x) (sym (append_assoc ys zs (drop (at + length (ys ++ zs)) xs))))
