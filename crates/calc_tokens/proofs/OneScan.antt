-- A line has one list of tokens, or one first fault.
use Rattle.calc_tokens.proofs.Shared.{some_is, ℕ, ◌≡◌, List, [], ◌∷◌, Bool, true, false, ◌==◌, Some, None, refl, sym, ap, ◌∙◌, subst, arith, Token, is_blank, token_at, Placed, Leads, nothing, blank}
use Rattle.calc_tokens.proofs.Shared.{token, begins_wide, BeginsToken, IsFirstCharacter, IsFirstWide, AreTokensOf, place, ◌||◌, blank_no_token, begins_blank, BeginsNoToken}

-- where the tokens end: at the end of the line, or at a fault
pub record Stops (rest : List ℕ) : Type 0 where
  pub no_blank : begins_blank rest ≡ false
  pub no_token : (t : Token) (behind : List ℕ) → BeginsToken rest t behind → ⊥

clash : (b : Bool) → b ≡ true → b ≡ false → ⊥
clash b e f = cc

pub stops_at_end : Stops []
stops_at_end = record { no_blank = refl; no_token = λ t behind b. let e : token_at [] ≡ Some (t, behind) = b.longest in cc }

pub stops_at_none : (rest : List ℕ) → BeginsNoToken rest → Stops rest
stops_at_none rest h = record { no_blank = h.no_blank; no_token = λ t behind b. let e : None ≡ Some (t, behind) = sym h.no_token ∙ b.longest in cc }

wide_no_blank : (rest : List ℕ) → begins_wide rest ≡ true → begins_blank rest ≡ false
wide_no_blank rest h = grind arith

pub stops_at_wide : (rest : List ℕ) → begins_wide rest ≡ true → Stops rest
stops_at_wide rest h = record { no_blank = wide_no_blank rest h; no_token = λ t behind b. clash (begins_wide rest) h b.fits }

-- two scans of the same bytes
pub record Same (ts us : List Placed) (r s : List ℕ) : Type 0 where
  pub tokens : ts ≡ us
  pub rests : r ≡ s

module _ {line : List ℕ} where
  from_stop : {r s : List ℕ} {us : List Placed} → Stops r → Leads line r us s → Same [] us r s
  from_stop h nothing = record { tokens = refl; rests = refl }
  from_stop h (blank {b} k d) = absurd (clash (is_blank b) k h.no_blank)
  from_stop h (token b d) = absurd (h.no_token _ _ b)

  from_blank : {b : ℕ} {bytes r s : List ℕ} {ts us : List Placed} → is_blank b ≡ true → ((us : List Placed) → Leads line bytes us s → Same ts us r s) → Stops s → Leads line (b ∷ bytes) us s → Same ts us r s
  from_blank k h l m = grind arith

  from_token : {bytes behind r s : List ℕ} {t : Token} {ts us : List Placed} → BeginsToken bytes t behind → ((us : List Placed) → Leads line behind us s → Same ts us r s) → Stops s → Leads line bytes us s
      → Same (record { token = t; at = place line bytes } ∷ ts) us r s
  from_token c go h nothing = absurd (h.no_token _ _ c)
  from_token {behind = behind} {t = t} c go h (blank {b} {bytes} k d) = absurd (none_some (blank_no_token b bytes k) c.longest)
    where
      none_some : token_at (b ∷ bytes) ≡ None → token_at (b ∷ bytes) ≡ Some (t, behind) → ⊥
      none_some e f = cc
  from_token {bytes} {behind} {r} {s} {t} {ts} c go h (token {behind = behind'} {t = t'} {ts = us} c' d) =
      let same : (t, behind) ≡ (t', behind') = some_is (t, behind) (t', behind') (sym c.longest ∙ c'.longest) in
      let more : Same ts us r s = go us (subst (λ x. Leads line x us s) (ap (λ p. p.1) (sym same)) d) in
      let tokens : t ≡ t' = ap (λ p. p.0) same in
      record {
        tokens = ap (λ x. record { token = x; at = place line bytes } ∷ ts) tokens ∙ ap (λ x. record { token = t'; at = place line bytes } ∷ x) more.tokens;
        rests = more.rests;
      }

  -- what leads to a stop is one
  pub one_front : {bytes r s : List ℕ} {ts us : List Placed} → Leads line bytes ts r → Stops r → Leads line bytes us s → Stops s → Same ts us r s
  one_front nothing h e k = from_stop h e
  one_front (blank b d) h e k = from_blank b (λ us e'. one_front d h e' k) k e
  one_front (token b d) h e k = from_token b (λ us e'. one_front d h e' k) k e

-- ---- the three outcomes exclude each other
-- what a scan has found of the line
abbrev pub Outcome : List ℕ → List Placed → List ℕ → Type 0
Outcome line tokens rest = Leads line line tokens rest × Stops rest

pub one_rest : (line : List ℕ) (ts us : List Placed) (r s : List ℕ) → Outcome line ts r → Outcome line us s → r ≡ s
one_rest line ts us r s (d, h) (e, k) = (one_front d h e k).rests

pub at_character : {line : List ℕ} {at : ℕ} (f : IsFirstCharacter line at) → Outcome line f.tokens f.rest
at_character f = (f.before, stops_at_none f.rest f.here)

pub at_wide : {line : List ℕ} {at : ℕ} (f : IsFirstWide line at) → Outcome line f.tokens f.rest
at_wide f = (f.before, stops_at_wide f.rest f.here)

pub at_all : (line : List ℕ) (ts : List Placed) → AreTokensOf ts line → Outcome line ts []
at_all line ts d = (d, stops_at_end)

pub character_or_all : (line : List ℕ) (at : ℕ) (ts : List Placed) → IsFirstCharacter line at → AreTokensOf ts line → ⊥
character_or_all line at ts f d = grind (arith, one_rest, at_all, at_character, clash)

pub wide_or_all : (line : List ℕ) (at : ℕ) (ts : List Placed) → IsFirstWide line at → AreTokensOf ts line → ⊥
wide_or_all line at ts f d = grind (arith, one_rest, at_all, at_wide, clash)

wide_token : (rest : List ℕ) → begins_wide rest ≡ true → token_at rest ≡ None → ⊥
wide_token rest h e = grind arith

pub character_or_wide : (line : List ℕ) (at at' : ℕ) → IsFirstCharacter line at → IsFirstWide line at' → ⊥
character_or_wide line at at' f g = grind (arith, one_rest, at_character, at_wide, wide_token)

pub one_character : (line : List ℕ) (at at' : ℕ) → IsFirstCharacter line at → IsFirstCharacter line at' → at ≡ at'
one_character line at at' f g = grind (arith, one_rest, at_character)

pub one_wide : (line : List ℕ) (at at' : ℕ) → IsFirstWide line at → IsFirstWide line at' → at ≡ at'
one_wide line at at' f g = grind (arith, one_rest, at_wide)

pub one_list : (line : List ℕ) (ts us : List Placed) → AreTokensOf ts line → AreTokensOf us line → ts ≡ us
one_list line ts us d e = (one_front d stops_at_end e stops_at_end).tokens
