-- What is written to a page.
use Rattle.std.specs.Prelude.{◌≡◌, ℕ, List, ◌++◌}
use Rattle.poincare_held.specs.declared.page.Page.{Page}

-- all bytes that it was given
abbrev pub told_on : Page → List ℕ
told_on p = p.told.bytes

-- it is given these bytes, and is lent the same memory as before
pub record Writes (old : Page) (bytes : List ℕ) (new : Page) : Type 0 where
  pub told : told_on new ≡ told_on old ++ bytes
  pub lent : new.out.ghost_name ≡ old.out.ghost_name
