-- Which operation does not fit, from call to call.
use Rattle.coefficients.proofs.Shared.{Result, IfErr, IsErrAnd, arith, ◌≡◌, inl, inr, true, sym, ap, subst, Fraction, value_of, Rat, is_number, Tree, num, add, mult, Trees, none, more, append}
use Rattle.coefficients.proofs.Shared.{is_add, is_mult, Leads, LeadsIn, LeadsTerm, IsMultiple, NamesPut, OfOverflow, children_of, NumberFault, Mul, Overflow}
use Rattle.tree_handles.specs.declared.fault.NumberFault.TheVariants as fault

-- ---- results

pub named : {A : Type 0} (r : Result A NumberFault) (o : Overflow) (P : Overflow → Type 0) → IsErrAnd r (λ e. e ≡ fault.Overflow o) → P o → IfErr r (OfOverflow P)
named r o P h k = grind arith

pub fault_named : (f : NumberFault) (P Q : Overflow → Type 0) → OfOverflow P f → ((o : Overflow) → P o → Q o) → OfOverflow Q f
fault_named f P Q h k = grind arith

pub result_named : {A : Type 0} (r : Result A NumberFault) (P Q : Overflow → Type 0) → IfErr r (OfOverflow P) → ((o : Overflow) → P o → Q o) → IfErr r (OfOverflow Q)
result_named r P Q h k = grind arith

-- what a `?` passes on
pub passed_named : {A : Type 0} (r : Result A NumberFault) (f : NumberFault) (P Q : Overflow → Type 0) → IsErrAnd r (λ e. e ≡ f) → OfOverflow P f → ((o : Overflow) → P o → Q o)
    → IfErr r (OfOverflow Q)
passed_named r f P Q h p k = grind arith

-- ---- what leads

pub multiple_of : {q : Fraction} {L M : Fraction → Type 0} → ((c : Fraction) → L c → M c) → (o : Overflow) → IsMultiple q L o → IsMultiple q M o
multiple_of f o m = record { product = m.product; first = m.first; second = f _ m.second }

pub leads_behind : (L : Fraction → Tree → Type 0) (c : Fraction) (done : Trees) (t : Tree) (rest : Trees) → L c t → LeadsIn L c (append done (more t rest))
leads_behind L c none t rest h = inl h
leads_behind L c (more u done) t rest h = inr (leads_behind L c done t rest h)

pub leads_number : (c d : Fraction) (t : Tree) → t ≡ num d → d ≡ c → Leads c t
leads_number c d t e h = subst (Leads c) (sym e) h

pub leads_coefficient : (c : Fraction) (t : Tree) (us ts : Trees) → t ≡ mult (more (add us) ts) → is_number (add us) ≡ true → LeadsIn Leads c us → LeadsTerm c t
leads_coefficient c t us ts e n h = subst (LeadsTerm c) (sym e) (n, h)

pub names_sum : (q : Fraction) (t : Tree) → is_add t ≡ true → (o : Overflow) → IsMultiple q (λ c. LeadsIn LeadsTerm c (children_of t)) o → NamesPut (num q) t o
names_sum q t m o h = grind arith

pub multiple_named : {q b : Rat} (L : Fraction → Type 0) (o : Overflow) → o ≡ record { op = Mul; a = q; b = b } → L (value_of b) → IsMultiple (value_of q) L o
multiple_named L o e h = record { product = ap (λ (x : Overflow). x.op) e; first = ap (λ (x : Overflow). value_of x.a) e; second = subst L (sym (ap (λ (x : Overflow). value_of x.b) e)) h }

pub leads_children : (c : Fraction) (t : Tree) (rest : Trees) → is_mult t ≡ true → children_of t ≡ more (num c) rest → Leads c t
leads_children c t rest m e = grind arith

pub put_as : {c d p q : Tree} (o : Overflow) → c ≡ d → p ≡ q → NamesPut c p o → NamesPut d q o
put_as {c = c} {d = d} {p = p} {q = q} o e f h = subst (λ (x : Tree). NamesPut x q o) e (subst (λ (x : Tree). NamesPut c x o) f h)
