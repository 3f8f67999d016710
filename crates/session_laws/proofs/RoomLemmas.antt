-- In a session of the program, a line whose room is free is not refused for the pool.
use Rattle.session_laws.proofs.Shared.{◌≡◌, ◌∙◌, ℕ, ◌+◌, ◌*◌, ◌^◌, ◌≤◌, List, [], ◌∷◌, Bool, true, false, cond, Option, Some, ap, arith, mul-le, pow_pos, Reply, circular, shown, stored, forgot, full}
use Rattle.session_laws.proofs.Shared.{refused, State, free_bytes, Leaves, Full, first_moment, options_of, bits, Chain, LineStep, Moment, room, Turn, Options, all_simple, roots, IsAnswered}
use Rattle.session_laws.proofs.{Shared.{ReadsFilled, of_its_nodes, Tree, depth, nodes, depth_limit, one_node, TripsWithin, options_are_asked}, EnoughLemmas.{answered, not_full}}
use Rattle.breakers.specs.State.{State as Breaker}
use Rattle.calc_measures.specs.Measures.{bits as bits_of, room as room_of}

-- ---- the capacity stays

left_size : (reply : Reply) (old new : State) → Leaves reply old new → new.size ≡ old.size
left_size (shown t) old new h = h.size
left_size (stored t x) old new h = h.size
left_size (forgot x) old new h = h.size
left_size _ old new h = ap (λ s. s.size) h

chain_size : (lines : List (List ℕ)) (old : Moment) (turns : List Turn) (new : Moment) → Chain old lines turns new → new.state.size ≡ old.state.size
chain_size [] old turns new h = ap (λ (m : Moment). m.state.size) h.1
chain_size (line ∷ lines) old turns new (turn, rest, step, is, h) = chain_size lines turn.after rest new h ∙ left_size turn.reply old.state turn.after.state step.step.state_is

-- ---- the room of a tree is more than its nodes take

simple_room : (t : Tree) (free : ℕ) → 1024 * nodes t * 2 ^ roots t ≤ free → 40 * nodes t + 16 ≤ free
simple_room t free h =
    let least : 1024 * nodes t * 1 ≤ 1024 * nodes t * 2 ^ roots t = mul-le (1024 * nodes t) 1 (1024 * nodes t) (2 ^ roots t) (omega arith) (pow_pos (roots t)) in
    omega (arith, h, least, one_node t)

room_suffices : (t : Tree) (free : ℕ) → free ≤ 524280 → room_of t ≤ free → 40 * nodes t + 16 ≤ free
room_suffices t free small h = by (all_simple t) h
  where
    by : (b : Bool) → cond b (1024 * nodes t * 2 ^ roots t) 4294967295 ≤ free → 40 * nodes t + 16 ≤ free
    by true k = simple_room t free k
    by false k = absurd (omega (arith, k, small))

-- the bytes of its nodes are free in every moment of a session
nodes_free : (words : List (List ℕ)) (options : Options) (breakers : List Breaker) (lines : List (List ℕ)) (turns : List Turn) (now : Moment) (t : Tree)
    → options_of words ≡ Some options → Chain (first_moment options breakers) lines turns now → room_of t ≤ free_bytes now.state → 40 * nodes t + 16 ≤ free_bytes now.state
nodes_free words options breakers lines turns now t asked chain roomy =
    let most = ((options_are_asked words options).0 asked).size_fits.most in
    let size = chain_size lines (first_moment options breakers) turns now chain in
    let small : free_bytes now.state ≤ 524280 = omega (arith, most, size) in
    room_suffices t (free_bytes now.state) small roomy

pub never_full : (words : List (List ℕ)) (options : Options) (breakers : List Breaker) (lines : List (List ℕ)) (turns : List Turn) (now next : Moment) (line : List ℕ) (reply : Reply) (store : Option (List ℕ)) (t : Tree)
    → options_of words ≡ Some options → Chain (first_moment options breakers) lines turns now → LineStep now line reply next → ReadsFilled now.state line store t → room_of t ≤ free_bytes now.state → (refusal : Full) → reply ≡ refused (full refusal) → ⊥
never_full words options breakers lines turns now next line reply store t asked chain step reads roomy =
    not_full room bits now.state now.breakers step.checked line store t reads (of_its_nodes (nodes_free words options breakers lines turns now t asked chain roomy)) (λ beyond. omega (arith, roomy, beyond)) reply step.step.reply_is

pub answered_line : (words : List (List ℕ)) (options : Options) (breakers : List Breaker) (lines : List (List ℕ)) (turns : List Turn) (now next : Moment) (line : List ℕ) (reply : Reply) (store : Option (List ℕ)) (t : Tree) (step : LineStep now line reply next)
    → options_of words ≡ Some options → Chain (first_moment options breakers) lines turns now → ReadsFilled now.state line store t → depth t ≤ depth_limit → room_of t ≤ free_bytes now.state → bits_of t ≤ 124
    → ((place : ℕ) → TripsWithin (nodes t) now.breakers step.checked place → ⊥) → ((x : List ℕ) → reply ≡ refused (circular x) → ⊥) → IsAnswered reply
answered_line words options breakers lines turns now next line reply store t step asked chain reads shallow roomy few calm clear =
    answered room bits now.state now.breakers step.checked line store t reads (of_its_nodes (nodes_free words options breakers lines turns now t asked chain roomy)) (λ beyond. omega (arith, roomy, beyond)) shallow (λ beyond. omega (arith, few, beyond)) calm reply clear step.step.reply_is
