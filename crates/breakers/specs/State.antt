-- What a clause sees of a breaker, and what its calls do to that.
use Rattle.std.specs.Prelude.{◌≡◌, ℕ, zero, suc, ◌+◌, ◌-◌, ◌^◌, ◌<◌, ◌≤◌, Bool, true, false, nat_lt, if◌then◌else◌}
use Rattle.breakers.specs.{declared.breaker.Plan.{Plan}, declared.breaker.Plan.TheVariants.{Untold, Idle, After}}

-- how often a breaker was polled, how often it tripped, when it will trip, and whether it can be armed
pub record State : Type 0 where
  pub polls : ℕ
  pub trips : ℕ
  pub plan : Plan
  pub can_be_armed : Bool

-- the state of a breaker that has neither been polled nor armed
abbrev pub fresh : Bool → State
fresh can_be_armed = record { polls = 0; trips = 0; plan = Idle; can_be_armed = can_be_armed }

-- where a count of polls or trips stops
abbrev pub largest_count : ℕ
largest_count = 2 ^ 64 - 1

-- a count after one more, which stops at the largest
abbrev pub count_on : ℕ → ℕ
count_on n = if nat_lt n largest_count then n + 1 else n

-- what one poll makes of a plan, and what it answers
abbrev pub StepsPlan : Plan → Plan → Bool → Type 0
StepsPlan Untold after answer = after ≡ Untold
StepsPlan Idle after answer = (after ≡ Idle) × (answer ≡ false)
StepsPlan (After zero) after answer = (after ≡ Idle) × (answer ≡ true)
StepsPlan (After (suc k)) after answer = (after ≡ After k) × (answer ≡ false)

-- one poll leads from the first state to the second, and gives this answer
pub record Polls (before after : State) (answer : Bool) : Type 0 where
  pub polls_count_on : after.polls ≡ count_on before.polls
  pub trips_rise_with_the_answer : after.trips ≡ (if answer then before.trips + 1 else before.trips)
  pub plan_steps : before.trips < largest_count → StepsPlan before.plan after.plan answer
  pub last_trip_is_the_end : largest_count ≤ before.trips → (after.plan ≡ before.plan) × (answer ≡ false)
  pub arms_as_before : after.can_be_armed ≡ before.can_be_armed

-- the plan of a breaker that is armed: one that tells nothing goes on telling nothing
abbrev pub planned_after : ℕ → Plan → Plan
planned_after k Untold = Untold
planned_after k Idle = After k
planned_after k (After j) = After k

-- a breaker that is to trip after k more polls, or the breaker as it is where it cannot be armed
abbrev pub armed_after : ℕ → State → State
armed_after k b = if b.can_be_armed then record b { plan = planned_after k b.plan } else b
