-- What is answered where it is known whether a tree without symbols has a value.
use Rattle.std.specs.Prelude.{◌≡◌, ◌↔◌, true, false}
use Rattle.calc_algebra.specs.{BadAndEasy.{IsBad, IsEasy, HasValue}, Numbers.{is_number, value}}
use Rattle.calc_terms.specs.Trees.{Tree, undef, is_undef, IsPart}

-- the answer is Undef exactly where the tree is Bad, and else a Number whose value is a meaning of the tree
pub record Evaluates (t answer : Tree) : Type 0 where
  pub undefined : (answer ≡ undef) ↔ IsBad t
  pub number : is_undef answer ≡ false → is_number answer ≡ true
  pub value : is_undef answer ≡ false → HasValue t (value answer)

-- some part is Easy and Bad
pub record HasEasyBadPart (t : Tree) : Type 0 where
  pub part : Tree
  pub inside : IsPart part t
  pub easy : IsEasy part
  pub bad : IsBad part
