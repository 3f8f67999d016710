-- The bytes of new nodes, and those that are free once children were taken out of a root.
use Rattle.coefficients.proofs.Shared.{◌↔◌, Result, IsOk, IsErr, IsErrAnd, IfErr, ◌≡◌, ℕ, ◌≤◌, ◌==◌, true, false, if◌then◌else◌, refl, sym, ap, subst, arith, bare, size_of_payload, Tree, Trees, more}
use Rattle.coefficients.proofs.Shared.{size, is_mult, num_one, coefficient_length, IsOver, Full, State, free_of, children_of, Stands, forest, KeepsRefusals, IsRefused, bytes_in-join, used_forest}
use Rattle.coefficients.proofs.{Shared.{sizes-plains, size-plain, bytes_as_product, bytes_of_coefficient, bytes_of_taking, IsShort, bytes_put}, Steps.{IsPairTaken}}
use Rattle.calc_terms.specs.declared.kind.Kind.TheVariants as kind

-- ---- new nodes

pub product_bytes : (t : Tree) → is_mult t ≡ true → bytes_as_product t ≡ 0
product_bytes t m = grind arith

pub other_bytes : (t : Tree) → is_mult t ≡ false → bytes_as_product t ≡ size_of_payload (bare kind.Mult)
other_bytes t m = grind arith

pub taking_product : (t : Tree) → is_mult t ≡ true → bytes_of_taking t ≡ bytes_of_coefficient (children_of t)
taking_product t m = grind arith

pub taking_other : (t : Tree) → is_mult t ≡ false → bytes_of_taking t ≡ size num_one
taking_other t m = grind arith

by_length : ℕ → ℕ
by_length n = if n == 0 then size num_one else (if n == 1 then 0 else size_of_payload (bare kind.Mult))

pub none_bytes : (ts : Trees) → coefficient_length ts ≡ 0 → bytes_of_coefficient ts ≡ size num_one
unfolding by_length
none_bytes ts e = ap by_length e

pub one_bytes : (ts : Trees) → coefficient_length ts ≡ 1 → bytes_of_coefficient ts ≡ 0
unfolding by_length
one_bytes ts e = ap by_length e

pub two_bytes : (ts : Trees) → (coefficient_length ts ≡ 0 → ⊥) → (coefficient_length ts ≡ 1 → ⊥) → bytes_of_coefficient ts ≡ size_of_payload (bare kind.Mult)
two_bytes ts h k = grind arith

-- ---- free bytes

-- two first children of a root stand by themselves, with the bytes that they had
pub pair_free : {s t : State} {i h k : ℕ} {a b : Tree} {ts : Trees} → Stands s → Stands t → KeepsRefusals s t → IsOver kind.Mult i (more a (more b ts)) (forest s)
    → IsPairTaken i a b ts (forest s) (forest t) h k → free_of t ≡ free_of s
pair_free h k r o p = grind (arith, used_forest, bytes_in-join, size-plain, bytes_put, sizes-plains)

-- ---- calls that are refused exactly where bytes are lacking

pub no_bytes : {n : ℕ} → 0 ≤ n
no_bytes = omega arith

pub always : {n m k : ℕ} → n ≡ m → m ≤ k → (true ≡ true) ↔ (n ≤ k)
always e l = (λ q. omega (arith, e, l), λ q. refl)

pub never : {A E : Type 0} {n m k : ℕ} (r : Result A E) → IsErr r → n ≡ m → (m ≤ k → ⊥) → IsOk r ↔ (n ≤ k)
never r h e l = grind arith

pub refused_once : false ≡ true → ⊥
refused_once e = cc

pub as_bytes : {A : Type 0} {n m k : ℕ} → n ≡ m → A ↔ (m ≤ k) → A ↔ (n ≤ k)
as_bytes e h = (λ a. omega (arith, e, h.0 a), λ l. h.1 (omega (arith, e, l)))

-- what a refused call leaves, where the trees before it have the same bytes
pub short : {m n : ℕ} {s t u : State} {full : Full} → KeepsRefusals s t → free_of t ≡ free_of s → n ≡ m → IsRefused m t u full → IsShort n s u full
short k f e r = grind arith

pub short_as : {m n : ℕ} {s u : State} {full : Full} → n ≡ m → IsShort m s u full → IsShort n s u full
short_as {s = s} {full = full} e r = record { told = subst (λ (x : ℕ). full ≡ record { needed = x; free = free_of s }) (sym e) r.told; refuses = r.refuses; lacks = r.lacks }

pub passed_short : {A : Type 0} {n : ℕ} {s u : State} (r : Result A Full) (full : Full) → IsErrAnd r (λ e. e ≡ full) → IsShort n s u full → IfErr r (IsShort n s u)
passed_short r full h p = grind arith

pub result_short : {A : Type 0} {n : ℕ} (m : ℕ) (s u : State) (r : Result A Full) → n ≡ m → IfErr r (IsRefused m s u) → IfErr r (IsShort n s u)
result_short m s u r e h = grind arith
