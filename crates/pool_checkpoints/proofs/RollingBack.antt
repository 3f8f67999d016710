-- The trees below a mark, from call to call.
use Rattle.pool_checkpoints.proofs.Shared.{◌≡◌, ℕ, List, sym, Forest, empty, bytes_in, AreNoRoots, KeepsFront, join-empty, IsBelow}

-- what stood when the mark was opened is below it
pub all_below : {mark : ℕ} {f : Forest} → mark ≡ bytes_in f → IsBelow mark f f
all_below {f = f} e = record { starts = record { behind = empty; whole = sym (join-empty f) }; bytes = e }

-- and stays below it as long as what stands first stays first
pub still_below : {mark : ℕ} {handed : List ℕ} {first old new : Forest} → IsBelow mark first old → KeepsFront handed old new → AreNoRoots handed first → IsBelow mark first new
still_below {first = first} b k n = record { starts = k.keeps first b.starts n; bytes = b.bytes }
