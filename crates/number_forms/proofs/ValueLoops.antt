-- Lists to which terms are joined one by one.
use Rattle.number_forms.proofs.Shared.{◌≡◌, ℕ, zero, suc, ◌+◌, ◌<◌, ◌≤◌, List, [], ◌∷◌, ◌++◌, length, get_or, drop, refl, sym, ap, ◌∙◌, arith, add-one, Same, SharesDenominators, Surd, Term, term_of}
use Rattle.number_forms.proofs.{Shared.{AreListed, AreTermsOf}, Denominators.{parts_behind, parts_end, parts_part}, Worth.{join_end, part_step, same_behind}}
use Rattle.number_forms.specs.Values.{surd_of}
use Rattle.surd_terms.specs.declared.term.Term.{Term as CodeTerm}

-- with what is left, terms are worth the whole, over the common denominators of the whole
pub record AreTermsWith (left whole : Surd) (ts : List CodeTerm) : Type 0 where
  pub listed : AreListed ts
  pub worth : Same (surd_of ts ++ left) whole
  pub parts : SharesDenominators whole (surd_of ts ++ left)

pub with_part : {left rest whole : Surd} {ts us : List CodeTerm} (row : Surd) → left ≡ row ++ rest → AreTermsOf (surd_of ts ++ row) us → AreTermsWith left whole ts → AreTermsWith rest whole us
with_part {left} {rest} {whole} {ts} {us} row e h k = record {
  listed = h.listed;
  worth = part_step (surd_of ts) (surd_of us) left row rest whole e h.worth k.worth;
  parts = parts_part (surd_of ts) (surd_of us) left row rest whole e h.parts k.parts;
}

pub with_step : {left rest whole : Surd} {ts us : List CodeTerm} (y : Term) → left ≡ y ∷ rest → AreTermsOf (y ∷ surd_of ts) us → AreTermsWith left whole ts → AreTermsWith rest whole us
with_step {ts = ts} {us = us} y e h k = with_part (y ∷ []) e (record { listed = h.listed; worth = same_behind (surd_of ts) (surd_of us) y h.worth; parts = parts_behind (surd_of ts) (surd_of us) y h.parts }) k

pub with_none : {left whole : Surd} {ts : List CodeTerm} → left ≡ [] → AreTermsWith left whole ts → AreTermsOf whole ts
with_none {left} {whole} {ts} e k = record { listed = k.listed; worth = join_end (surd_of ts) left whole e k.worth; parts = parts_end (surd_of ts) left whole k.parts }

-- ---- what is left of a list

pub left_next : (ts : List CodeTerm) (n : ℕ) (t : CodeTerm) → n < length ts → t ≡ get_or ts n t → surd_of (drop n ts) ≡ term_of t ∷ surd_of (drop (n + 1) ts)
left_next ts n t l e = by ts n l e ∙ ap (λ (k : ℕ). term_of t ∷ surd_of (drop k ts)) (sym (add-one n))
  where
    by : (xs : List CodeTerm) (k : ℕ) → k < length xs → t ≡ get_or xs k t → surd_of (drop k xs) ≡ term_of t ∷ surd_of (drop (suc k) xs)
    by [] k l e = absurd (omega arith)
    by (x ∷ xs) zero l e = ap (λ (y : CodeTerm). term_of y ∷ surd_of xs) (sym e)
    by (x ∷ xs) (suc k) l e = by xs k (omega arith) e

pub left_none : (ts : List CodeTerm) (n : ℕ) → length ts ≤ n → surd_of (drop n ts) ≡ []
left_none [] zero l = refl
left_none [] (suc n) l = refl
left_none (t ∷ ts) zero l = absurd (omega arith)
left_none (t ∷ ts) (suc n) l = left_none ts n (omega arith)
