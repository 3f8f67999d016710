-- Functions that read a text, for examples that compute.
use Rattle.calc_language.proofs.{Shared.{refl, subst, Token, arrow_mark, name, token_at, is_blank, Scans, at_end, at_blank, at_token, SoFar, as_tree, Reads, Stores}, ReaderSound.{some_is, reads-Sum}}
use Rattle.calc_language.proofs.Reader.{sum_at}
use Rattle.std.proofs.Common.{◌≡◌, ℕ, zero, suc, List, [], ◌∷◌, ◌++◌, Bool, true, false, Option, Some, None}

abbrev before : Token → Option (List Token) → Option (List Token)
before t None = None
before t (Some ts) = Some (t ∷ ts)

-- the tokens of a text, within a number of steps
unfoldable pub scan_in : ℕ → List ℕ → Option (List Token)
scan_in zero bs = None
scan_in (suc k) [] = Some []
scan_in (suc k) (b ∷ bs) = elim (is_blank b) [
  | true ↦ scan_in k bs
  | false ↦ elim (token_at (b ∷ bs)) [ Some p ↦ before p.0 (scan_in k p.1) | None ↦ None ]
]

pub scan_sound : (k : ℕ) (bs : List ℕ) (ts : List Token) → scan_in k bs ≡ Some ts → Scans bs ts
unfolding scan_in
scan_sound zero bs ts e = cc
scan_sound (suc k) [] ts e = subst (Scans []) (some_is [] ts e) at_end
scan_sound (suc k) (b ∷ bs) ts e = by (is_blank b) refl (token_at (b ∷ bs)) refl e (λ bs' ts'. scan_sound k bs' ts')
  where
    rest : (t : Token) (r : List ℕ) (o : Option (List Token)) → scan_in k r ≡ o → token_at (b ∷ bs) ≡ Some (t, r) → before t o ≡ Some ts
        → ((bs' : List ℕ) (ts' : List Token) → scan_in k bs' ≡ Some ts' → Scans bs' ts') → Scans (b ∷ bs) ts
    rest t r None g h e go = cc
    rest t r (Some us) g h e go = subst (Scans (b ∷ bs)) (some_is (t ∷ us) ts e) (at_token h (go r us g))

    by : (x : Bool) → is_blank b ≡ x → (o : Option (Token × List ℕ)) → token_at (b ∷ bs) ≡ o
        → ◌≡◌ {A = Option (List Token)} (elim x [ true ↦ scan_in k bs | false ↦ elim o [ Some p ↦ before p.0 (scan_in k p.1) | None ↦ None ] ]) (Some ts)
        → ((bs' : List ℕ) (ts' : List Token) → scan_in k bs' ≡ Some ts' → Scans bs' ts') → Scans (b ∷ bs) ts
    by true g o h e go = at_blank g (go bs ts e)
    by false g None h e go = cc
    by false g (Some p) h e go = rest p.0 p.1 (scan_in k p.1) refl h e go

-- a text that is scanned and read within some steps reads as that tree
pub reads : (k : ℕ) (bs : List ℕ) (ts : List Token) (s : SoFar) → scan_in k bs ≡ Some ts → sum_at k ts ≡ Some (s, []) → Reads bs (as_tree s)
reads k bs ts s e f = (ts, scan_sound k bs ts e, (s, reads-Sum ts s k f, refl))

pub stores : (k : ℕ) (bs : List ℕ) (us : List Token) (s : SoFar) (x : List ℕ) → scan_in k bs ≡ Some (us ++ arrow_mark ∷ name x ∷ []) → sum_at k us ≡ Some (s, []) → Stores bs (as_tree s) x
stores k bs us s x e f = (us ++ arrow_mark ∷ name x ∷ [], scan_sound k bs _ e, (us, refl, (s, reads-Sum us s k f, refl)))
