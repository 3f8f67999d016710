-- Command lines begin with a colon, and blank ones do not.
use Rattle.calc_commands.proofs.Shared.{◌≡◌, ℕ, List, [], ◌∷◌, ◌++◌, true, false, refl, arith, list_all, is_blank, Asked, IsCommandLine, is_command}

colon_behind : (before rest : List ℕ) → list_all is_blank before ≡ true → is_command (before ++ (58 ∷ rest)) ≡ true
colon_behind [] rest h = refl
colon_behind (b ∷ before) rest h = grind (arith, colon_behind before rest)

pub asks_colon : {line : List ℕ} {a : Asked} → IsCommandLine line a → is_command line ≡ true
asks_colon h = grind (arith, colon_behind)

pub blank_line : (line : List ℕ) → list_all is_blank line ≡ true → is_command line ≡ false
blank_line [] h = refl
blank_line (b ∷ line) h = grind (arith, blank_line line)
