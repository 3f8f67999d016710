-- Lists of bytes in which parts are written, moved and cleared.
use Rattle.std.specs.Prelude.{ℕ, ◌+◌, ◌-◌, List, ◌++◌, length, take, drop, replicate}

-- ys in place of what stood at a place
abbrev pub put : List ℕ → ℕ → List ℕ → List ℕ
put xs at ys = take at xs ++ (ys ++ drop (at + length ys) xs)

-- what stood in len places from a on stands from b on too
abbrev pub slid : List ℕ → ℕ → ℕ → ℕ → List ℕ
slid xs a b len = take b xs ++ (take len (drop a xs) ++ drop (b + len) xs)

-- zeros from a to before b
abbrev pub cleared : List ℕ → ℕ → ℕ → List ℕ
cleared xs a b = take a xs ++ (replicate (b - a) 0 ++ drop b xs)

-- what stands from b to before c, and then what stands from a to before b
abbrev pub rotated : List ℕ → ℕ → ℕ → ℕ → List ℕ
rotated xs a b c = take a xs ++ ((take (c - b) (drop b xs) ++ take (b - a) (drop a xs)) ++ drop c xs)

-- the len bytes from a on and those from b on change places
abbrev pub switched : List ℕ → ℕ → ℕ → ℕ → List ℕ
switched xs a b len = take a xs ++ (take len (drop b xs) ++ (take (b - (a + len)) (drop (a + len) xs) ++ (take len (drop a xs) ++ drop (b + len) xs)))
