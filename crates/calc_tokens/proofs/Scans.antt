-- A line's tokens up to a rest, one token further at a time.
use Rattle.calc_tokens.proofs.Shared.{ℕ, suc, ◌+◌, ◌≡◌, ◌≤◌, ◌<◌, List, [], ◌∷◌, ◌++◌, length, true, sym, ap, subst, arith, Token, is_blank, Placed, Leads, nothing, blank, token, BeginsToken, place}
use Rattle.calc_tokens.proofs.{Shared.{length-append}, Shorter.{token_shorter}}

-- the loop came to this rest, and has no more tokens than bytes
pub record Reached (line : List ℕ) (tokens : List Placed) (rest : List ℕ) : Type 0 where
  pub leads : Leads line line tokens rest
  pub room : length tokens + length rest ≤ length line

leads_blank : {line bytes : List ℕ} {ts : List Placed} (b : ℕ) (rest : List ℕ) {all : List ℕ} → all ≡ b ∷ rest → is_blank b ≡ true → Leads line bytes ts all → Leads line bytes ts rest
leads_blank {line} b rest e h nothing = subst (λ r. Leads line r [] rest) (sym e) (blank h nothing)
leads_blank b rest e h (blank k d) = blank k (leads_blank b rest e h d)
leads_blank b rest e h (token t d) = token t (leads_blank b rest e h d)

leads_token : {line bytes rest : List ℕ} {ts : List Placed} (t : Token) (behind : List ℕ) → BeginsToken rest t behind → Leads line bytes ts rest
    → Leads line bytes (ts ++ record { token = t; at = place line rest } ∷ []) behind
leads_token t behind b nothing = token b nothing
leads_token t behind b (blank k d) = blank k (leads_token t behind b d)
leads_token t behind b (token c d) = token c (leads_token t behind b d)

pub reached_start : (line : List ℕ) (tokens : List Placed) → tokens ≡ [] → Reached line tokens line
reached_start line tokens e = rw e (record { leads = nothing; room = omega arith })

pub reached_blank : (line : List ℕ) (tokens : List Placed) (all : List ℕ) (b : ℕ) (rest : List ℕ) → all ≡ b ∷ rest → is_blank b ≡ true → Reached line tokens all → Reached line tokens rest
reached_blank line tokens all b rest e h r = record { leads = leads_blank b rest e h r.leads; room = let same : length all ≡ suc (length rest) = ap length e in omega (arith, r.room) }

pub reached_token : (line rest behind : List ℕ) (old new : List Placed) (t : Token) (at : ℕ) → new ≡ old ++ record { token = t; at = at } ∷ [] → at ≡ place line rest → BeginsToken rest t behind → Reached line old rest → Reached line new behind
reached_token line rest behind old new t at e f b r =
    let fewer : length behind < length rest = token_shorter rest t behind b.longest in
    let long : length new ≡ length (old ++ record { token = t; at = at } ∷ []) = ap length e in
    let plus : length (old ++ record { token = t; at = at } ∷ []) ≡ length old + 1 = length-append old (record { token = t; at = at } ∷ []) in
    record {
      leads = rw (e, f) (leads_token t behind b r.leads);
      room = omega (arith, r.room);
    }
