-- Lemmas on command lines that calculate.
use Rattle.calc_commands.specs.Commands.{asks_roots, roots}
use Rattle.std.proofs.Common.{◌≤◌, List, ℕ, ◌++◌, length, length-append, Option, arith}
use Rattle.calc_session.proofs.Shared.{HasText, IsCommandLine, asks_decimals, asks_diff, asks_solve, asks_expand, asks_sign, decimals, diff, most_places, sign, solve, expand, Full, CountsRefusal, IsCountedBut, Seen, Counts, pool_of}

-- a text that is calculated with stands in its line
within : {line word text : List ℕ} → HasText line word text → length text ≤ length line
within {line} {word} {text} h = grind (arith, length-append)

pub text_within : {line x text : List ℕ} → IsCommandLine line (diff x text) → length text ≤ length line
text_within (asks_diff {name = name} {gap = gap} {text = text} h n b) = let all = within h in let a = length-append gap text in let c = length-append name (gap ++ text) in omega (arith, all, a, c)

pub rooted_within : {line x text : List ℕ} → IsCommandLine line (roots x text) → length text ≤ length line
rooted_within (asks_roots {name = name} {gap = gap} {text = text} h n b) = let all = within h in let a = length-append gap text in let c = length-append name (gap ++ text) in omega (arith, all, a, c)

pub equations_within : {line text : List ℕ} → IsCommandLine line (solve text) → length text ≤ length line
equations_within (asks_solve h) = within h

pub expression_within : {line text : List ℕ} → IsCommandLine line (expand text) → length text ≤ length line
expression_within (asks_expand h) = within h

pub rounded_within : {line text : List ℕ} {places : ℕ} → IsCommandLine line (decimals places text) → length text ≤ length line
rounded_within (asks_decimals digits {gap = gap} {text = text} h v l b) = let all = within h in let a = length-append gap text in let c = length-append digits (gap ++ text) in omega (arith, all, a, c)

pub places_within : {line text : List ℕ} {places : ℕ} → IsCommandLine line (decimals places text) → places ≤ most_places
places_within (asks_decimals digits h v l b) = l

pub signed_within : {line text : List ℕ} → IsCommandLine line (sign text) → length text ≤ length line
signed_within (asks_sign h) = within h

-- ---- as a session is seen

pub counted_seen : (Known : Full → Type 0) (old new : Seen) (r : Option Full) → IsCountedBut Known (λ y. CountsRefusal y (pool_of old) (pool_of new)) r → IsCountedBut Known (λ y. Counts y old new) r
counted_seen Known old new r h = grind arith
