-- Small laws that several crates above cite.
use Rattle.calc_algebra.proofs.Shared.{◌≡◌, Bool, arith, ◌<◌, [], ap, false, Some, None, Fraction, whole_fraction, num, Tree, names, AllParts, is_add, HasNoNewName, KeepsMeanings, HasForm, IsTerm}
use Rattle.calc_algebra.proofs.NumberRewrites.{fraction_whole}
use Rattle.std.specs.Prelude.{◌==◌, if◌then◌else◌, ℤ, length}

pub whole_by : (b : Bool) (q : Fraction) (n : ℤ) → (q.den == 1) ≡ b → (if b then Some q.num else None) ≡ Some n → q ≡ whole_fraction n
whole_by b q n d h = grind (arith, fraction_whole)

pub no_names : (t u : Tree) → names u ≡ [] → HasNoNewName t u
no_names t u e = record { name = λ x c. absurd (let f : length (names u) ≡ 0 = ap length e in let k : c.0 < length (names u) = c.1 in omega arith) }

pub own_form : (t : Tree) → AllParts HasForm t → HasForm t
own_form t h = grind arith

pub term_no_sum : (t : Tree) → IsTerm t → is_add t ≡ false
term_no_sum t h = grind arith

pub keeps : {t u : Tree} → KeepsMeanings t u → KeepsMeanings t u
keeps h = h
