use Rattle.std.proofs.{Common.{◌≡◌, ℕ, ◌≤◌, List, ◌++◌, Result, Ok, Err, IfOk, length, take, drop, min, arith, sym, ap, ◌∙◌, append_assoc}, lemmas.List.{drop-append-le, take-append-drop}}
use Rattle.calc_edges.proofs.mem_source.MemSourceSource.read.Goals as goal

-- what stands behind n elements stands there in the first k of them, and then behind those
drop_in_parts : (n k : ℕ) (xs : List ℕ) → n ≤ length (take k xs) → drop n (take k xs) ++ drop k xs ≡ drop n xs
drop_in_parts n k xs within =
    sym (drop-append-le n (take k xs) (drop k xs) within) ∙ ap (drop n) (take-append-drop k xs)

-- a read into the first k bytes of xs leaves the others
read_into_front : {E : Type 0} (r : Result ℕ E) (left xs new : List ℕ) (k m : ℕ) → r ≡ Ok (min (length (take k xs)) m)
    → IfOk r (λ n. new ≡ take n left ++ drop n (take k xs)) → IfOk r (λ n. new ++ drop k xs ≡ take n left ++ drop n xs)
read_into_front (Ok n) left xs new k m count copied =
    let same : n ≡ min (length (take k xs)) m = cc in
    ap (λ l. l ++ drop k xs) copied ∙ append_assoc (take n left) _ _ ∙ ap (λ l. take n left ++ l) (drop_in_parts n k xs (omega arith))
read_into_front (Err e) left xs new k m count copied = tt

pub returns-clause-copied : goal.returns-clause-copied
returns-clause-copied c = read_into_front c.read.result _ _ _ _ _ c.read.ensures.count (rw (← c.self.view_is) c.read.ensures.copied)
