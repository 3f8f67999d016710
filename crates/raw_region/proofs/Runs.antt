-- Runs of bytes, byte by byte.
use Rattle.raw_region.proofs.Shared.{◌≡◌, ℕ, ◌+◌, ◌<◌, ◌≤◌, List, [], ◌∷◌, ◌++◌, length, take, sym, ap, ◌∙◌, arith, drop-drop, length-drop, take-append-drop, take-add, put}
use Rattle.std.proofs.{Math.ListN.set, Common.{drop, get_or, drop-cons}, lemmas.List.{drop-set-add, drop-set-lt, length-set, take-set-le, take_all, take_more_set}}

-- one byte more of a list
more_of : (xs : List ℕ) (i : ℕ) → i < length xs → take (i + 1) xs ≡ take i xs ++ get_or xs i 0 ∷ []
more_of xs i h = take-add i 1 xs ∙ ap (λ (l : List ℕ). take i xs ++ take 1 l) (drop-cons xs i 0 h)

-- i bytes of a run are written from a place on
pub record IsStored (i at : ℕ) (run old new : List ℕ) : Type 0 where
  pub before : take at new ≡ take at old
  pub put_there : take i (drop at new) ≡ take i run
  pub behind : drop (at + i) new ≡ drop (at + i) old
  pub same : length new ≡ length old

pub stored_more : (i at x : ℕ) (run old new : List ℕ) → i < length run → at + length run ≤ length old → x ≡ get_or run i 0 → IsStored i at run old new → IsStored (i + 1) at run old (set new (at + i) x)
stored_more i at x run old new h k e s =
    let one : drop at (set new (at + i) x) ≡ set (drop at new) i x = drop-set-add at new i x in
    let next = λ (l : List ℕ). let step : drop 1 (drop (at + i) l) ≡ drop (at + (i + 1)) l = drop-drop 1 (at + i) l ∙ ap (λ (n : ℕ). drop n l) (omega arith) in step in
    record {
      before = take-set-le at new (at + i) x (omega arith) ∙ s.before;
      put_there =
          ap (take (i + 1)) one ∙ take_more_set (drop at new) i x (omega (arith, length-drop at new, s.same)) ∙ ap (λ (l : List ℕ). l ++ x ∷ []) s.put_there ∙ ap (λ (y : ℕ). take i run ++ y ∷ []) e
          ∙ sym (more_of run i h);
      behind = drop-set-lt (at + (i + 1)) new (at + i) x (omega arith) ∙ sym (next new) ∙ ap (drop 1) s.behind ∙ next old;
      same = length-set new (at + i) x ∙ s.same;
    }

pub stored_all : (i at : ℕ) (run old new : List ℕ) → length run ≡ i → at + i ≤ length old → IsStored i at run old new → new ≡ put old at run
stored_all i at run old new n h s =
    let whole : take i run ≡ run = take_all i run (omega arith) in
    let rest : drop at new ≡ run ++ drop (at + length run) old =
    sym (take-append-drop i (drop at new)) ∙ ap (λ (l : List ℕ). l ++ drop i (drop at new)) (s.put_there ∙ whole)
    ∙ ap (λ (l : List ℕ). run ++ l) (drop-drop i at new ∙ s.behind ∙ ap (λ (m : ℕ). drop (at + m) old) (sym n)) in
    sym (take-append-drop at new) ∙ ap (λ (l : List ℕ). l ++ drop at new) s.before ∙ ap (λ (l : List ℕ). take at old ++ l) rest
