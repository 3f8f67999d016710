-- The bytes in use, and their text.
use Rattle.calc_commands.proofs.Shared.{◌≡◌, ◌∙◌, ℕ, ◌<◌, ◌≤◌, List, [], ◌∷◌, ◌++◌, length, get_or, take, sym, ap, arith, append-nil, length-encodings, extended, entries, ◌+◌, ◌*◌, replicate}
use Rattle.calc_commands.proofs.Shared.{append_assoc, length-append, take_at, take_more, used, encodings, State, IsPool, bytes_of, free_of, Content, parting, byte_text, entry, dump_of}
use Rattle.std.proofs.lemmas.List.{length-take}

-- the bytes in use are those of the nodes
pub used_bytes : (s : State) → IsPool s → take (used s.nodes) (bytes_of s) ≡ encodings s.nodes
used_bytes s p = take_at (encodings s.nodes) (replicate (free_of s) 0) (used s.nodes) (length-encodings s.nodes p.nodes)

pub used_there : (s : State) (n : ℕ) (bytes : List ℕ) → IsPool s → n ≡ used s.nodes → bytes ≡ bytes_of s → take n bytes ≡ encodings s.nodes
used_there s n bytes p e q = ap (λ k. take k bytes) e ∙ ap (take (used s.nodes)) q ∙ used_bytes s p

-- ---- entries

parting_len : (at : ℕ) → length (parting at) ≤ 1
parting_len at = grind arith

pub entry_len : (at b : ℕ) → length (entry at b) ≤ 3
entry_len at b = omega (arith, length-append (parting at) (byte_text b), parting_len at)

pub entries_len : (at : ℕ) (bytes : List ℕ) → length (entries at bytes) ≤ 3 * length bytes
entries_len at [] = omega arith
entries_len at (b ∷ bytes) = omega (arith, length-append (entry at b) (entries (at + 1) bytes), entry_len at b, entries_len (at + 1) bytes)

pub entries-append : (at : ℕ) (a b : List ℕ) → entries at (a ++ b) ≡ entries at a ++ entries (at + length a) b
entries-append at [] b = ap (λ k. entries k b) (omega arith)
entries-append at (x ∷ a) b =
    let place : at + 1 + length a ≡ at + length (x ∷ a) = omega arith in
    ap (λ y. entry at x ++ y) (entries-append (at + 1) a b ∙ ap (λ k. entries (at + 1) a ++ entries k b) place) ∙ sym (append_assoc (entry at x) (entries (at + 1) a) (entries (at + length (x ∷ a)) b))

-- one byte more
pub one_more : (bytes : List ℕ) (at : ℕ) → at < length bytes → entries 0 (take (at + 1) bytes) ≡ entries 0 (take at bytes) ++ entry at (get_or bytes at 0)
one_more bytes at h =
    let place : 0 + length (take at bytes) ≡ at = omega (arith, length-take at bytes) in
    ap (entries 0) (take_more bytes at 0 h) ∙ entries-append 0 (take at bytes) (get_or bytes at 0 ∷ []) ∙ ap (λ k. entries 0 (take at bytes) ++ (entry k (get_or bytes at 0) ++ [])) place ∙ ap (λ y. entries 0 (take at bytes) ++ y) (append-nil (entry at (get_or bytes at 0)))

-- the text so far
pub record IsWritten (old : Content) (bytes : List ℕ) (at : ℕ) (now : Content) : Type 0 where
  pub text : now ≡ extended old (entries 0 (take at bytes))
  pub short : length now.bytes ≤ length old.bytes + 3 * at

pub written_more : (old now then : Content) (bytes : List ℕ) (at b : ℕ) → IsWritten old bytes at now → at < length bytes → b ≡ get_or bytes at 0 → then ≡ extended now (entry at b) → IsWritten old bytes (at + 1) then
written_more old now then bytes at b w h e q = grind (arith, append_assoc, one_more, length-append, entry_len)

pub dump_short : (s : State) → IsPool s → length (dump_of s) ≤ 3 * used s.nodes
dump_short s p = omega (arith, entries_len 0 (encodings s.nodes), length-encodings s.nodes p.nodes)
