-- Tokens with their places, and the tokens of the language.
use Rattle.calc_tokens.proofs.Shared.{ℕ, ◌≡◌, List, [], ◌∷◌, Bool, true, false, refl, ap, Token, Placed, Leads, nothing, blank, token, begins_wide, AreTokensOf, IsFirstWide, place, ◌⊎◌, inl, inr}
use Rattle.calc_tokens.proofs.Shared.{Scans, at_end, at_blank, at_token, bare}

scans : {line bytes rest : List ℕ} {ts : List Placed} → rest ≡ [] → Leads line bytes ts rest → Scans bytes (bare ts)
scans {rest} e nothing = by rest e
  where
    by : (r : List ℕ) → r ≡ [] → Scans r []
    by [] e = at_end
    by (b ∷ r) e = cc
scans e (blank h d) = at_blank h (scans e d)
scans e (token b d) = at_token b.longest (scans e d)

pub only_tokens : (line : List ℕ) (ts : List Placed) → AreTokensOf ts line → Scans line (bare ts)
only_tokens line ts d = scans refl d

-- the tokens with places of bytes that scan, up to a literal that is too wide
pub record Placing (line bytes : List ℕ) (us : List Token) : Type 0 where
  pub tokens : List Placed
  pub leads : Leads line bytes tokens []
  pub same : bare tokens ≡ us

pub record Widening (line bytes : List ℕ) : Type 0 where
  pub tokens : List Placed
  pub rest : List ℕ
  pub leads : Leads line bytes tokens rest
  pub wide : begins_wide rest ≡ true

places : (line : List ℕ) {bytes : List ℕ} {us : List Token} → Scans bytes us → Placing line bytes us ⊎ Widening line bytes
places line at_end = inl (record { tokens = []; leads = nothing; same = refl })
places line (at_blank {b} {bs} {ts} h d) = by (places line d)
  where
    by : Placing line bs ts ⊎ Widening line bs → Placing line (b ∷ bs) ts ⊎ Widening line (b ∷ bs)
    by (inl p) = inl (record { tokens = p.tokens; leads = blank h p.leads; same = p.same })
    by (inr w) = inr (record { tokens = w.tokens; rest = w.rest; leads = blank h w.leads; wide = w.wide })
places line (at_token {bs} {rest} {t} {ts} e d) = by (begins_wide bs) refl (places line d)
  where
    by : (x : Bool) → begins_wide bs ≡ x → Placing line rest ts ⊎ Widening line rest → Placing line bs (t ∷ ts) ⊎ Widening line bs
    by true f r = inr (record { tokens = []; rest = bs; leads = nothing; wide = f })
    by false f (inl p) = inl (record { tokens = record { token = t; at = place line bs } ∷ p.tokens; leads = token (record { longest = e; fits = f }) p.leads; same = ap (λ us. t ∷ us) p.same })
    by false f (inr w) = inr (record { tokens = record { token = t; at = place line bs } ∷ w.tokens; rest = w.rest; leads = token (record { longest = e; fits = f }) w.leads; wide = w.wide })

pub all_tokens : (line : List ℕ) (us : List Token) → Scans line us → ((ts : List Placed) × AreTokensOf ts line × (bare ts ≡ us)) ⊎ ((at : ℕ) × IsFirstWide line at)
all_tokens line us d = by (places line d)
  where
    by : Placing line line us ⊎ Widening line line → ((ts : List Placed) × AreTokensOf ts line × (bare ts ≡ us)) ⊎ ((at : ℕ) × IsFirstWide line at)
    by (inl p) = inl (p.tokens, p.leads, p.same)
    by (inr w) = inr (place line w.rest, record { tokens = w.tokens; rest = w.rest; before = w.leads; here = w.wide; place_is = refl })
