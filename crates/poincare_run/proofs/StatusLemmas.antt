-- Lemmas on the status of the program, and what it says.
use Rattle.poincare_run.proofs.Shared.{subst, ◌≡◌, ◌≢◌, ◌∙◌, ◌⊎◌, ℕ, ◌≤◌, List, [], ◌∷◌, ◌++◌, length, Bool, Option, Some, None, Contains, inl, inr, refl, sym, ap, arith, length-append}
use Rattle.poincare_run.proofs.Shared.{append_cancel_right, Consumes, SourceBytes, StopsKeeping, State, Beginning, reads, generates, IfReads, IfGenerates, Moment, session_limit, ReadsAll, ReadsPart, ReadsLimit, WriteStops}
use Rattle.poincare_run.proofs.Shared.{SumsUp, SumsUpInPart, EndsAs, EndsFrom, IfNoMemory, IsSummed, StopsReading, StopsWriting, SumsUpAs, status, IsCalm, Rose, StopsAtFailedRead, StopsAtFailure, Failures, Ending}
use Rattle.poincare_run.proofs.Shared.{ReadToEnd, ReadFailed, WriteFailed, LimitReached, NoMemory}
use Rattle.breakers.specs.State.{State as Breaker}

-- what was consumed is known where the source tells its bytes
consumed : (t u : Option (List ℕ)) (bytes input rest : List ℕ) → Consumes t u bytes → t ≡ Some (input ++ rest) → u ≡ Some rest → length input ≡ length bytes
consumed t u bytes input rest h before after = grind (arith, append_cancel_right)

-- nothing was read
pub nothing_read : (t : Option (List ℕ)) (input rest : List ℕ) (status : ℕ) → t ≡ Some (input ++ rest) → t ≡ Some rest → (length input ≤ session_limit) × (length input ≡ session_limit → (status ≡ 6) ⊎ (status ≡ 4))
nothing_read t input rest status before after =
    let same : input ++ rest ≡ rest = cc in
    let none : length input ≡ 0 = omega (arith, length-append input rest, ap length same) in
    (omega arith, λ all. absurd (omega arith))

pub not_there : {X : Type 0} (o : Option X) (x : X) → o ≡ Some x → o ≡ None → ⊥
not_there o x e none = cc

pub is_no_memory : Contains {X = ℕ} (0 ∷ 2 ∷ 3 ∷ 4 ∷ 5 ∷ 6 ∷ []) 5
is_no_memory = (4, omega arith, refl)

pub is_status : (ending : Ending) → Contains (0 ∷ 2 ∷ 3 ∷ 4 ∷ 5 ∷ 6 ∷ []) (status ending)
is_status ReadToEnd = (0, omega arith, refl)
is_status ReadFailed = (2, omega arith, refl)
is_status WriteFailed = (3, omega arith, refl)
is_status LimitReached = (5, omega arith, refl)
is_status NoMemory = (4, omega arith, refl)

same_ending : (a b : Ending) → status a ≡ status b → a ≡ b
same_ending a b e = grind arith

pub no_usage : (ending : Ending) → status ending ≡ 2 → ⊥
no_usage ending e = grind arith

-- what holds where there was no memory
pub early : (ending : Ending) (P : Type 0) → (status ending ≡ 2) ⊎ (status ending ≡ 5) → IfNoMemory ending P → P
early ending P e h = grind arith

module _ (start : Moment) (t t' : SourceBytes) (k k' : Option (List ℕ)) where
  pub all_read : (ending : Ending) → EndsAs ending start t t' k k' → status ending ≡ 0 → ReadsAll start t t' k k'
  all_read ending h e = subst (λ (x : Ending). EndsAs x start t t' k k') (same_ending ending ReadToEnd e) h

  pub read_in_part : (ending : Ending) → EndsAs ending start t t' k k' → status ending ≡ 3 → ReadsPart start t t' k k'
  read_in_part ending h e = subst (λ (x : Ending). EndsAs x start t t' k k') (same_ending ending ReadFailed e) h

  pub written_in_part : (ending : Ending) → EndsAs ending start t t' k k' → status ending ≡ 4 → WriteStops start t t' k k'
  written_in_part ending h e = subst (λ (x : Ending). EndsAs x start t t' k k') (same_ending ending WriteFailed e) h

  pub limit_reached : (ending : Ending) → EndsAs ending start t t' k k' → status ending ≡ 6 → ReadsLimit start t t' k k'
  limit_reached ending h e = subst (λ (x : Ending). EndsAs x start t t' k k') (same_ending ending LimitReached e) h

  pub within_limit : (ending : Ending) → EndsAs ending start t t' k k' → (input rest : List ℕ) → t.left ≡ Some (input ++ rest) → t'.left ≡ Some rest
      → (length input ≤ session_limit) × (length input ≡ session_limit → (status ending ≡ 6) ⊎ (status ending ≡ 4))
  within_limit ReadToEnd h input rest before after =
      let same = consumed t.left t'.left h.input input rest h.read.left before after in
      (omega (arith, h.within), λ all. absurd (omega (arith, h.within)))
  within_limit ReadFailed h input rest before after =
      let same = consumed t.left t'.left h.input input rest h.read.left before after in
      (omega (arith, h.within), λ all. absurd (omega (arith, h.within)))
  within_limit WriteFailed h input rest before after =
      let same = consumed t.left t'.left h.input input rest h.read.left before after in
      (omega (arith, h.within), λ all. inr refl)
  within_limit LimitReached h input rest before after =
      let same = consumed t.left t'.left h.input input rest h.read.left before after in
      (omega (arith, h.all), λ all. inl refl)
  within_limit NoMemory h input rest before after = nothing_read t.left input rest 5 before (ap (λ (b : SourceBytes). b.left) (sym h.0) ∙ after)

-- ---- what failed, and what did not

module _ {X : Type 0} (bytes : X → SourceBytes) (faults : X → Failures) (old new : X) where
  pub read_stops : (ending : Ending) → StopsReading ending bytes faults old new → status ending ≡ 3 → StopsAtFailedRead bytes faults old new
  read_stops ending h e = grind arith

  pub reads_calm : (ending : Ending) → StopsReading ending bytes faults old new → status ending ≢ 3 → IsCalm (faults old) (faults new)
  reads_calm ending h e = grind arith

module _ {X : Type 0} (bytes : X → Option (List ℕ)) (faults : X → Failures) (old new : X) where
  pub write_stops : (ending : Ending) → StopsWriting ending bytes faults old new → status ending ≡ 4 → StopsAtFailure bytes faults old new
  write_stops ending h e = grind arith

  pub writes_calm : (ending : Ending) → StopsWriting ending bytes faults old new → status ending ≢ 4 → IsCalm (faults old) (faults new)
  writes_calm ending h e = grind arith

module _ {X Y : Type 0} (IsKept : Y → Y → Type 0) (bytes : X → Y) (faults : X → Failures) (old new : X) where
  pub stopped_rose : StopsKeeping IsKept bytes faults old new → Rose (faults old) (faults new)
  stopped_rose h = grind (arith, h.calm, h.once)

-- ---- generated sessions

module _ (start : Moment) (number : ℕ) (k k' : Option (List ℕ)) where
  pub summed_up : (ending : Ending) → SumsUpAs ending start number k k' → status ending ≡ 0 → SumsUp start number k k'
  summed_up ending h e = subst (λ (x : Ending). SumsUpAs x start number k k') (same_ending ending ReadToEnd e) h

  pub summed_up_in_part : (ending : Ending) → SumsUpAs ending start number k k' → status ending ≡ 4 → SumsUpInPart start number k k'
  summed_up_in_part ending h e = subst (λ (x : Ending). SumsUpAs x start number k k') (same_ending ending WriteFailed e) h

-- a generated session ends in none of the ways of reading
not_read : (ending : Ending) → IsSummed ending → (status ending ≢ 3) × (status ending ≢ 6)
not_read ending h = grind arith

module _ (o : Option Beginning) (b : Beginning) (is : o ≡ Some b) (ending : Ending) (t t' : SourceBytes) (k k' : Option (List ℕ)) (h : EndsFrom ending b t t' k k') where
  if_reads : (P : Moment → Type 0) → ((start : Moment) → EndsAs ending start t t' k k' → P start) → IfReads o P
  if_reads P f = grind (arith)

  if_generates : (P : Moment → ℕ → Type 0) → ((start : Moment) (n : ℕ) → SumsUpAs ending start n k k' → IsSummed ending → P start n) → IfGenerates o P
  if_generates P f = grind (arith)

  pub all_read_if : status ending ≡ 0 → IfReads o (λ start. ReadsAll start t t' k k')
  all_read_if s = if_reads (λ start. ReadsAll start t t' k k') (λ start e. all_read start t t' k k' ending e s)

  pub read_in_part_if : status ending ≡ 3 → IfReads o (λ start. ReadsPart start t t' k k')
  read_in_part_if s = if_reads (λ start. ReadsPart start t t' k k') (λ start e. read_in_part start t t' k k' ending e s)

  pub written_in_part_if : status ending ≡ 4 → IfReads o (λ start. WriteStops start t t' k k')
  written_in_part_if s = if_reads (λ start. WriteStops start t t' k k') (λ start e. written_in_part start t t' k k' ending e s)

  pub limit_reached_if : status ending ≡ 6 → IfReads o (λ start. ReadsLimit start t t' k k')
  limit_reached_if s = if_reads (λ start. ReadsLimit start t t' k k') (λ start e. limit_reached start t t' k k' ending e s)

  pub summed_up_if : status ending ≡ 0 → IfGenerates o (λ start n. SumsUp start n k k')
  summed_up_if s = if_generates (λ start n. SumsUp start n k k') (λ start n e _. summed_up start n k k' ending e s)

  pub summed_up_in_part_if : status ending ≡ 4 → IfGenerates o (λ start n. SumsUpInPart start n k k')
  summed_up_in_part_if s = if_generates (λ start n. SumsUpInPart start n k k') (λ start n e _. summed_up_in_part start n k k' ending e s)

  pub unread_if : (P : Type 0) → IfGenerates (Some b) (λ start n. P) → IfGenerates o (λ start n. P × (status ending ≢ 3) × (status ending ≢ 6))
  unread_if P p = grind (arith, not_read)

  pub within_limit_if : (input rest : List ℕ) → t.left ≡ Some (input ++ rest) → t'.left ≡ Some rest → (length input ≤ session_limit) × (length input ≡ session_limit → (status ending ≡ 6) ⊎ (status ending ≡ 4))
  within_limit_if input rest before after = by b h
    where
      by : (c : Beginning) → EndsFrom ending c t t' k k' → (length input ≤ session_limit) × (length input ≡ session_limit → (status ending ≡ 6) ⊎ (status ending ≡ 4))
      by (reads start) e = within_limit start t t' k k' ending e input rest before after
      by (generates start n) e = nothing_read t.left input rest (status ending) before (ap (λ (b : SourceBytes). b.left) (sym e.1) ∙ after)

pub begins_at : (m : Moment) (s : State) (bs : List Breaker) (draws : Bool) → m.state ≡ s → m.breakers ≡ bs → m.draws ≡ draws → record { state = s; breakers = bs; draws = draws } ≡ m
begins_at m s bs draws e f g = grind (arith)

pub never_early : (ending : Ending) (P : Type 0) → IfNoMemory ending ⊥ → IfNoMemory ending P
never_early ending P h = grind arith

pub early_too : (ending : Ending) (P Q : Type 0) → P → IfNoMemory ending Q → IfNoMemory ending (P × Q)
early_too ending P Q p h = grind arith

pub nothing_stops : {X : Type 0} (bytes : X → SourceBytes) (faults : X → Failures) (x : X) (ending : Ending) → IsSummed ending → StopsReading ending bytes faults x x
nothing_stops bytes faults x ending h = grind arith

pub summed_ends : (start : Moment) (number : ℕ) (t : SourceBytes) (ending : Ending) (k k' : Option (List ℕ)) → SumsUpAs ending start number k k' → IsSummed ending → EndsFrom ending (generates start number) t t k k'
summed_ends start number t ending k k' sums summed = (sums, refl, summed)
