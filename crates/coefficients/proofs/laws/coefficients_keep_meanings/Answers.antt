use Rattle.coefficients.proofs.{Shared.{number_words, keeps}, Coefficients.{put_reduces}, Keeps.{coefficient_keeps}}
use Rattle.coefficients.proofs.laws.coefficients_keep_meanings.Goals as goal

pub returns : goal.returns
returns c = record { any = λ a p. keeps (coefficient_keeps a p); reduced = λ a p h m. put_reduces a p (number_words a h) m }
