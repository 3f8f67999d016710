-- A power of a root, once the root is reduced.
use Rattle.std.specs.Prelude.{ℕ, List, ◌≡◌, false}
use Rattle.calc_algebra.specs.Numbers.{value}
use Rattle.calc_room.specs.Spans.{SpansTree}
use Rattle.calc_terms.specs.{Integers.{int_is_negative}, Trees.{Tree, power}}
use Rattle.power_reduce.specs.PowerAnswers.{base_in, exponent_in}
use Rattle.surd_bits.specs.Rooted.{IsNoLargerThanRoot}
use Rattle.radical_forms.specs.RootAnswers.{argument_of, IfRational, IsRootAnswer}

pub record IsRooted (t u : Tree) : Type 0 where
  pub root : Tree
  pub answer : IsRootAnswer (argument_of (base_in t)) root
  pub spanned : (gs : List ℕ) → SpansTree gs (base_in t) → SpansTree gs root
  pub measured : IfRational (argument_of (base_in t)) (λ q. int_is_negative q.num ≡ false → IsNoLargerThanRoot q (value root))
  pub is : u ≡ power root (exponent_in t)
