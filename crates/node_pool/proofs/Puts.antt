-- Writing one list after another.
use Rattle.node_pool.proofs.Shared.{List, [], ap, arith, length, ℕ, ◌%◌, ◌/◌, ◌^◌, ◌++◌, ◌+◌, ◌<◌, ◌∙◌, ◌∷◌, ◌≡◌, ◌≤◌, code_of, encoding}
use Rattle.node_pool.proofs.Shared.{form_of, fresh, header_bytes, header_of, low_bytes, payload_bytes, Payload, Header, length-header_bytes, length-low_bytes, put, put-put}

-- one write more
pub then_put : (s0 s1 s2 : List ℕ) (at : ℕ) (ys : List ℕ) (next : ℕ) (zs : List ℕ) → at ≤ length s0 → next ≡ at + length ys → s1 ≡ put s0 at ys → s2 ≡ put s1 next zs → s2 ≡ put s0 at (ys ++ zs)
then_put s0 s1 s2 at ys next zs h e p q = q ∙ ap (λ (s : List ℕ). put s next zs) p ∙ put-put s0 at ys next zs e h

pub header_put : (s0 s1 : List ℕ) (at k f : ℕ) (h : Header) → k ≡ code_of h.kind → k < 256 → f ≡ form_of h.short → f < 256 → h.id < 2 ^ 16 → h.count < 2 ^ 16 → h.children < 2 ^ 16
    → s1 ≡ put s0 at (k ∷ f ∷ h.id % 256 ∷ h.id / 256 ∷ h.count % 256 ∷ h.count / 256 ∷ h.children % 256 ∷ h.children / 256 ∷ []) → s1 ≡ put s0 at (header_bytes h)
unfolding header_bytes low_bytes
header_put s0 s1 at k f h hk byte hf form small few many e =
    let kind : code_of h.kind % 256 ≡ k = omega arith in
    let short : form_of h.short % 256 ≡ f = omega arith in
    let id : h.id / 256 % 256 ≡ h.id / 256 = omega arith in
    let count : h.count / 256 % 256 ≡ h.count / 256 = omega arith in
    let children : h.children / 256 % 256 ≡ h.children / 256 = omega arith in
    rw (kind, short, id, count, children) e

pub rational_put : (s0 s1 s2 : List ℕ) (at a b p q : ℕ) → at + 32 ≤ length s0 → p ≡ a → q ≡ b → s1 ≡ put s0 at (low_bytes 16 p) → s2 ≡ put s1 (at + 16) (low_bytes 16 q) → s2 ≡ put s0 at (low_bytes 16 a ++ low_bytes 16 b)
rational_put s0 s1 s2 at a b p q h k l m n = grind (arith, then_put, length-low_bytes)

pub node_put : (s0 s1 s2 : List ℕ) (at id : ℕ) (x : Payload) (h : Header) → at + 8 ≤ length s0 → h ≡ header_of (fresh id x)
    → s1 ≡ put s0 at (header_bytes h) → s2 ≡ put s1 (at + 8) (payload_bytes x) → s2 ≡ put s0 at (encoding (fresh id x))
unfolding encoding
node_put s0 s1 s2 at id x h k e l m = grind (arith, then_put, length-header_bytes)
