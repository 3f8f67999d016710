-- Lemmas on equations by where they stand in a text, from left to right.
use Rattle.std.proofs.{Common.{◌≡◌, ◌∙◌, ℕ, zero, suc, ◌+◌, ◌<◌, List, [], ◌∷◌, ◌++◌, length, get_or, map, take, drop, refl, sym, ap, subst, arith}, lemmas.Grind.{take_at_read}}
use Rattle.std.proofs.lemmas.List.{map-append}
use Rattle.calc_session.proofs.Shared.{AllZip, Equation, EquationRange, Pieces, pieces_at, Reason, IsNoEquation, ReadsEquation}
use Rattle.calc_session.specs.Solving.{later as later_unread}

module _ (n : ℕ) (text : List ℕ) where
  pub pieces_behind : (k : ℕ) (rs : List EquationRange) (d : EquationRange) → k < length rs → drop k (map (pieces_at n text) rs) ≡ pieces_at n text (get_or rs k d) ∷ drop (suc k) (map (pieces_at n text) rs)
  pieces_behind k [] d l = absurd (omega (arith, l))
  pieces_behind zero (q ∷ qs) d l = refl
  pieces_behind (suc k) (q ∷ qs) d l = pieces_behind k qs d (omega (arith, l))

  pieces_parts : (k : ℕ) (rs : List EquationRange) (d : EquationRange) → k < length rs
      → map (pieces_at n text) rs ≡ map (pieces_at n text) (take k rs) ++ pieces_at n text (get_or rs k d) ∷ map (pieces_at n text) (drop (suc k) rs)
  pieces_parts k [] d l = absurd (omega (arith, l))
  pieces_parts zero (q ∷ qs) d l = refl
  pieces_parts (suc k) (q ∷ qs) d l = ap (λ ps. pieces_at n text q ∷ ps) (pieces_parts k qs d (omega (arith, l)))

  -- ---- they are read

  read_last : (ps : List Pieces) (es : List Equation) (p : Pieces) (e : Equation) → AllZip ReadsEquation ps es → ReadsEquation p e → AllZip ReadsEquation (ps ++ p ∷ []) (es ++ e ∷ [])
  read_last [] [] p e h r = (r, tt)
  read_last (q ∷ ps) (f ∷ es) p e h r = (h.0, read_last ps es p e h.1 r)
  read_last _ _ p e h r = absurd h

  abbrev pub AreReadUpTo : List EquationRange → ℕ → Type 0
  AreReadUpTo rs k = (es : List Equation) × AllZip ReadsEquation (map (pieces_at n text) (take k rs)) es

  pub read_more : (k : ℕ) (rs : List EquationRange) (d : EquationRange) (e : Equation) → k < length rs → AreReadUpTo rs k → ReadsEquation (pieces_at n text (get_or rs k d)) e → AreReadUpTo rs (k + 1)
  read_more k rs d e l (es, h) r = (
    es ++ e ∷ [],
    subst (λ ps. AllZip ReadsEquation ps (es ++ e ∷ [])) (sym (ap (map (pieces_at n text)) (take_at_read rs k d l).1 ∙ map-append (pieces_at n text) (take k rs) (get_or rs k d ∷ [])))
        (read_last (map (pieces_at n text) (take k rs)) es (pieces_at n text (get_or rs k d)) e h r),
  )

  unread_behind : (ps qs : List Pieces) (es : List Equation) (reason : Reason) → AllZip ReadsEquation ps es → IsNoEquation qs reason → IsNoEquation (ps ++ qs) reason
  unread_behind [] qs [] reason h k = k
  unread_behind (p ∷ ps) qs (e ∷ es) reason h k = later_unread h.0 (unread_behind ps qs es reason h.1 k)
  unread_behind _ qs _ reason h k = absurd h

  -- where one is not
  pub unread_at : (rs : List EquationRange) (k : ℕ) (d : EquationRange) (reason : Reason) → AreReadUpTo rs k → k < length rs → ((qs : List Pieces) → IsNoEquation (pieces_at n text (get_or rs k d) ∷ qs) reason)
      → IsNoEquation (map (pieces_at n text) rs) reason
  unread_at rs k d reason (es, h) l unread =
      let behind = map (pieces_at n text) (drop (suc k) rs) in
      subst (λ ps. IsNoEquation ps reason) (sym (pieces_parts k rs d l)) (unread_behind (map (pieces_at n text) (take k rs)) (pieces_at n text (get_or rs k d) ∷ behind) es reason h (unread behind))

  -- what is read at a place
  pub reads_at : (k : ℕ) (rs : List EquationRange) (d : EquationRange) (es : List Equation) → AllZip ReadsEquation (map (pieces_at n text) rs) es → k < length rs → (e : Equation) × ReadsEquation (pieces_at n text (get_or rs k d)) e
  reads_at k [] d es h l = absurd (omega (arith, l))
  reads_at k (q ∷ qs) d [] h l = absurd h
  reads_at zero (q ∷ qs) d (f ∷ es) h l = (f, h.0)
  reads_at (suc k) (q ∷ qs) d (f ∷ es) h l = reads_at k qs d es h.1 (omega (arith, l))

pub reads_many : (n : ℕ) (text : List ℕ) (rs : List EquationRange) (es : List Equation) → AllZip ReadsEquation (map (pieces_at n text) rs) es → length es ≡ length rs
reads_many n text [] [] h = refl
reads_many n text (r ∷ rs) (e ∷ es) h = ap suc (reads_many n text rs es h.1)
reads_many n text _ _ h = absurd h
