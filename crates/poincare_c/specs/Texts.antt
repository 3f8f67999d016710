-- Whole texts of lines.
use Rattle.std.specs.Prelude.{ℕ, List, length}
use Rattle.node_pool.specs.State.{IsPoolSize}
use Rattle.poincare_held.specs.Answering.{AreAnswered}
use Rattle.poincare_c.specs.Codes.{bad_pool, code_of_count, no_memory}

-- The lines were answered from the beginning on, and their answers stand at the front of the memory, as far as there is room. Or it says why not, and all is as before.
pub data IsAnsweredText (pool : ℕ) (lines memory : List ℕ) (count : ℕ) : ℕ → List ℕ → ℕ → Type 0 where
  is_answered : {memory' : List ℕ} {count' : ℕ} → AreAnswered pool lines count' memory' → IsAnsweredText pool lines memory count (code_of_count count' (length memory')) memory' count'
  has_bad_size : ¬ IsPoolSize pool → IsAnsweredText pool lines memory count bad_pool memory count
  has_no_memory : IsPoolSize pool → IsAnsweredText pool lines memory count no_memory memory count
