-- Lemmas on what calls do to slots.
use Rattle.poincare_c.proofs.Shared.{◌≡◌, ◌↔◌, ℕ, ◌%◌, ◌≤◌, List, [], length, nat_le, Bool, true, false, arith, refl, sym, ap, subst, leb-false, leb-true, ⊤, TripsRose, Answers, Blank, Draw, LineAnswer, Refused}
use Rattle.poincare_c.proofs.Shared.{Interrupted, IsPoolSize, bits, room, AreAnswered, over, IsAnsweredWithin, IsDrawnOn, breakers_in, pool_use_in, state_in, text_in, Drawn, Held, OpenFault, PoolSize}
use Rattle.poincare_c.proofs.Shared.{NoMemory, PoolUse, Stopper, code_of_answer, code_of_count, code_of_fault, AnswersIn, AnswersWithinIn, Draws, IsAnswered, IsAnsweredUnder, IsOpening}
use Rattle.poincare_c.proofs.Shared.{IsOpeningStopper, IsPictured, IsTold, IsUsed, OpensStanding, OpensStopperStanding, PoolIn, TextIn, has_bad_size, has_no_memory, Changes, is_open, Slot, Standing}
use Rattle.poincare_c.proofs.Shared.{New, Open, Closed}
use Rattle.poincare_held.specs.declared.held.Drawn.TheVariants as drawn
use Rattle.poincare_c.specs.Texts as texts

-- ---- what is open stays open

module _ (old : Slot) (held : Held) (e : old.standing ≡ Open held) where
  pub tells : (out out' : List ℕ) (count count' code : ℕ) → code ≡ code_of_count count' (length out') → count' ≡ length (text_in held) → out' ≡ over (text_in held) out
      → TextIn old out count code out' count' (record { standing = Open held })
  tells out out' count count' code a b d =
      subst (λ (s : Standing Held). Changes s code (Open held) (IsTold out out' count' code) ((out' ≡ out) × (count' ≡ count))) (sym e)
      (held, refl, record { same = refl; code_is = a; count_is = b; out_is = d })

  pub uses : (used left : ℕ) (told : PoolUse) → told ≡ pool_use_in held → PoolIn old used left 0 told.used told.free (record { standing = Open held })
  uses used left told a =
      subst (λ (s : Standing Held). Changes s 0 (Open held) (IsUsed told.used told.free 0) ((told.used ≡ used) × (told.free ≡ left))) (sym e)
      (held, refl, record { same = refl; code_is = refl; used_is = ap (λ (u : PoolUse). u.used) a; left_is = ap (λ (u : PoolUse). u.free) a })

  module _ (now : Held) where
    pub answers : (line : List ℕ) (answer : LineAnswer) (code : ℕ) → Answers room bits (state_in held) (breakers_in held) line answer (text_in now) (state_in now) (breakers_in now)
        → ((place : ℕ) → (answer ≡ Refused (Interrupted place)) ↔ TripsRose (breakers_in held) (breakers_in now) place)
        → (answer ≡ Blank → text_in now ≡ []) → (answer ≡ Draw → text_in now ≡ []) → code ≡ code_of_answer answer
        → AnswersIn old line code (record { standing = Open now })
    answers line answer code a b blank draw d =
        subst (λ (s : Standing Held). Changes s code (Open now) (IsAnswered line code) ⊤) (sym e)
        (now, refl, record { answer = answer; step = a; interrupted = b; silent = record { blank = blank; draw = draw }; code_is = d })

    pub answers_within : (line : List ℕ) (checks : ℕ) (answer : LineAnswer) (code : ℕ) → IsAnsweredWithin checks held line answer now → code ≡ code_of_answer answer
        → AnswersWithinIn old line checks code (record { standing = Open now })
    answers_within line checks answer code a d =
        subst (λ (s : Standing Held). Changes s code (Open now) (IsAnsweredUnder line checks code) ⊤) (sym e)
        (now, refl, record { answer = answer; within = a; code_is = d })

    module _ (d : Drawn) (out out' : List ℕ) (count bytes : ℕ) (is : IsDrawnOn (state_in held) d out') (same : state_in now ≡ state_in held) (none : text_in now ≡ []) (kept : breakers_in now ≡ breakers_in held) where
      pub pictures : (code : ℕ) → d ≡ drawn.Picture bytes → code ≡ code_of_count bytes (length out') → Draws old out count code out' bytes (record { standing = Open now })
      pictures code was a =
          subst (λ (s : Standing Held). Changes s code (Open now) (IsPictured out' bytes code) ((out' ≡ out) × (bytes ≡ count))) (sym e)
          (now, refl, record { drawn = drawn.Picture bytes; is_drawn = subst (λ (x : Drawn). IsDrawnOn (state_in held) x out') was is; count_is = refl; code_is = a; state = same; text = none; breakers = kept })

      pub finds_no_room : d ≡ drawn.Full bytes → Draws old out count 108 out' bytes (record { standing = Open now })
      finds_no_room was =
          subst (λ (s : Standing Held). Changes s 108 (Open now) (IsPictured out' bytes 108) ((out' ≡ out) × (bytes ≡ count))) (sym e)
          (now, refl, record { drawn = drawn.Full bytes; is_drawn = subst (λ (x : Drawn). IsDrawnOn (state_in held) x out') was is; count_is = refl; code_is = refl; state = same; text = none; breakers = kept })

-- ---- what is opened

pub opening : (old : Standing Held) (pool code : ℕ) (new : Standing Held) → is_open old ≡ false → IsOpening pool old code new → OpensStanding old pool code new
opening New pool code new e h = h
opening Closed pool code new e h = h
opening (Open held) pool code new e h = let f : true ≡ false = e in absurd cc

pub opening_stopper : (old : Standing Stopper) (session : Standing Held) (code : ℕ) (new : Standing Stopper) → is_open old ≡ false → IsOpeningStopper old session code new → OpensStopperStanding old session code new
opening_stopper New session code new e h = h
opening_stopper Closed session code new e h = h
opening_stopper (Open stopper) session code new e h = let f : true ≡ false = e in absurd cc

-- ---- sizes of pools

stable_le : (a b : ℕ) → ((a ≤ b → ⊥) → ⊥) → a ≤ b
stable_le a b n = by (nat_le a b) refl
  where
    by : (t : Bool) → nat_le a b ≡ t → a ≤ b
    by true e = leb-true a b e
    by false e = absurd (n (λ h. let below = leb-false a b e in omega arith))

stable_size : (size : ℕ) → ((IsPoolSize size → ⊥) → ⊥) → IsPoolSize size
stable_size size n = record {
  least = stable_le 64 size (λ h. n (λ s. h s.least));
  most = stable_le size 524280 (λ h. n (λ s. h s.most));
  eights = let none : size % 8 ≤ 0 = stable_le (size % 8) 0 (λ h. n (λ s. h (let eights = s.eights in omega arith))) in omega arith;
}

-- a size that is refused is none of a pool, and a pool has the other
of_size : (size : ℕ) → (NoMemory ≡ PoolSize) ↔ (IsPoolSize size → ⊥) → IsPoolSize size
of_size size w = stable_size size (λ h. let f : NoMemory ≡ PoolSize = w.1 h in cc)

pub refuses : (pool : ℕ) (old : Standing Held) (fault : OpenFault) (code : ℕ) → (fault ≡ PoolSize) ↔ (IsPoolSize pool → ⊥) → code ≡ code_of_fault fault → IsOpening pool old code old
refuses pool old PoolSize code w e = subst (λ (k : ℕ). IsOpening pool old k old) (sym e) (has_bad_size (w.0 refl))
refuses pool old NoMemory code w e = subst (λ (k : ℕ). IsOpening pool old k old) (sym e) (has_no_memory (of_size pool w))

-- ---- whole texts

module _ (pool : ℕ) (lines memory : List ℕ) (count : ℕ) where
  pub answered : (memory' : List ℕ) (count' code : ℕ) → AreAnswered pool lines count' memory' → code ≡ code_of_count count' (length memory') → texts.IsAnsweredText pool lines memory count code memory' count'
  answered memory' count' code a e = subst (λ (k : ℕ). texts.IsAnsweredText pool lines memory count k memory' count') (sym e) (texts.is_answered a)

  unanswered_here : (fault : OpenFault) → (fault ≡ PoolSize) ↔ (IsPoolSize pool → ⊥) → texts.IsAnsweredText pool lines memory count (code_of_fault fault) memory count
  unanswered_here PoolSize w = texts.has_bad_size (w.0 refl)
  unanswered_here NoMemory w = texts.has_no_memory (of_size pool w)

  pub unanswered : (memory' : List ℕ) (fault : OpenFault) (code : ℕ) → (fault ≡ PoolSize) ↔ (IsPoolSize pool → ⊥) → code ≡ code_of_fault fault → memory' ≡ memory → texts.IsAnsweredText pool lines memory count code memory' count
  unanswered memory' fault code w e same =
      subst (λ (m : List ℕ). texts.IsAnsweredText pool lines memory count code m count) (sym same)
      (subst (λ (k : ℕ). texts.IsAnsweredText pool lines memory count k memory count) (sym e) (unanswered_here fault w))
