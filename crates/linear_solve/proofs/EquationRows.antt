-- The rows of equations, one after another.
use Rattle.linear_solve.proofs.Shared.{◌≡◌, ◌<◌, ◌≤◌, ℕ, ◌+◌, List, [], ◌∷◌, ◌++◌, length, take, get_or, Ok, Err, sym, ap, ◌∙◌, arith, zero-add, zip, enumerate_from, length-map, get_or-map}
use Rattle.linear_solve.proofs.Shared.{get_or-enumerate_from, length-enumerate_from, get_or-zip, length-zip, difference_of, equation_row, equation_rows, unit, Equation, equation_at, equations_in}
use Rattle.linear_solve.proofs.{Shared.{Misfit, each, Row, Names, Forest}, Calculations.{each_all, each_more, each_stops, then_err, then_ok}, Theorem.{no_equation}}

pub equations_long : (f : Forest) (ls rs : List ℕ) → length rs ≡ length ls → length (equations_in f ls rs) ≡ length ls
equations_long f ls rs e = length-map (zip ls rs) _ ∙ length-zip ls rs ∙ omega (arith, e)

-- the equation of two roots that are read
pub equation_here : (f : Forest) (ls rs : List ℕ) (i l r : ℕ) → i < length ls → length rs ≡ length ls → l ≡ get_or ls i l → r ≡ get_or rs i r
    → get_or (equations_in f ls rs) i no_equation ≡ equation_at f l r
equation_here f ls rs i l r h e p q =
    get_or-map (λ (p : ℕ × ℕ). equation_at f p.0 p.1) (zip ls rs) i (l, r) no_equation (omega (arith, length-zip ls rs, e))
    ∙ ap (λ (p : ℕ × ℕ). equation_at f p.0 p.1) (get_or-zip ls rs i (l, r) h (omega (arith, e)))
    ∙ (λ j. equation_at f (sym p j) (sym q j))

module _ (xs : Names) (es : List Equation) where
  pub numbered : (i : ℕ) (e : Equation) → i < length es → get_or es i no_equation ≡ e → get_or (enumerate_from 0 es) i (0, no_equation) ≡ (i, e)
  numbered i e l p = get_or-enumerate_from 0 es i (0, no_equation) l ∙ (λ j. (zero-add i j, p j))

  pub next_equation : (i n : ℕ) (e : Equation) (rows : List Row) (d row : Row) → n ≡ length es → i < length es → get_or es i no_equation ≡ e → difference_of xs e ≡ Ok d → row ≡ d ++ unit n i
      → each (λ (p : ℕ × Equation). equation_row xs (length es) p.0 p.1) (take i (enumerate_from 0 es)) ≡ Ok rows → each (λ (p : ℕ × Equation). equation_row xs (length es) p.0 p.1)
      (take (i + 1) (enumerate_from 0 es)) ≡ Ok (rows ++ row ∷ [])
  next_equation i n e rows d row en l p m k made =
      each_more (λ (p : ℕ × Equation). equation_row xs (length es) p.0 p.1) (enumerate_from 0 es) i (0, no_equation) rows row (omega (arith, length-enumerate_from 0 es)) made
      (ap (λ (p : ℕ × Equation). equation_row xs (length es) p.0 p.1) (numbered i e l p) ∙ then_ok (difference_of xs e) (λ d. Ok (d ++ unit (length es) i)) d m ∙ ap Ok
      (sym (k ∙ ap (λ n. d ++ unit n i) en)))

  pub broken_equation : (i : ℕ) (e : Equation) (rows : List Row) (m : Misfit) → i < length es → get_or es i no_equation ≡ e → difference_of xs e ≡ Err m
      → each (λ (p : ℕ × Equation). equation_row xs (length es) p.0 p.1) (take i (enumerate_from 0 es)) ≡ Ok rows → equation_rows xs es ≡ Err m
  broken_equation i e rows m l p h made =
      each_stops (λ (p : ℕ × Equation). equation_row xs (length es) p.0 p.1) (enumerate_from 0 es) i (0, no_equation) rows m (omega (arith, length-enumerate_from 0 es)) made
      (ap (λ (p : ℕ × Equation). equation_row xs (length es) p.0 p.1) (numbered i e l p) ∙ then_err (difference_of xs e) (λ d. Ok (d ++ unit (length es) i)) m h)

  pub all_equations : (i : ℕ) (rows : List Row) → length es ≤ i → each (λ (p : ℕ × Equation). equation_row xs (length es) p.0 p.1) (take i (enumerate_from 0 es)) ≡ Ok rows
      → equation_rows xs es ≡ Ok rows
  all_equations i rows l made = each_all (λ (p : ℕ × Equation). equation_row xs (length es) p.0 p.1) (enumerate_from 0 es) i (Ok rows) (omega (arith, length-enumerate_from 0 es)) made
