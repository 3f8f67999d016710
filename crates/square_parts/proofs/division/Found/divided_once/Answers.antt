use Rattle.square_parts.proofs.{Shared.{◌≡◌, ℕ, true, false, ◌*◌, ◌/◌, refl, arith}, Steps.{IsStep, square_found, clean_found}, division.Found.divided_once.Goals.{Then-divides, Else-divides}}
use Rattle.square_parts.proofs.division.Found.divided_once.Goals as goal

-- the steps, at what the quotients and the cast give
squared : (c : Then-divides) (d' rest : ℕ) → d' ≡ c.args.d → rest ≡ c.quotient-once.result / c.args.d → IsStep c.args.self (record { root = c.args.self.root * d'; clean = c.args.self.clean; rest = rest }) c.args.d
squared c d' rest d-is rest-is = square_found c.args.self c.args.d d' c.quotient-once.result rest c.requires.found c.requires.below c.requires.at_least_two c.requires.within c.requires.divides c.quotient-once.ensures (c.if-divides.ensures.0 refl) d-is rest-is

cleaned : (c : Else-divides) (d' : ℕ) → d' ≡ c.args.d → IsStep c.args.self (record { root = c.args.self.root; clean = c.args.self.clean * d'; rest = c.quotient-once.result }) c.args.d
cleaned c d' d-is =
    clean_found c.args.self c.args.d d' c.quotient-once.result c.requires.found c.requires.below c.requires.at_least_two c.requires.within c.requires.divides c.quotient-once.ensures
    (λ z. let is : false ≡ true = c.if-divides.ensures.1 z in cc) d-is

pub overflow_mul-result : goal.overflow_mul-result
overflow_mul-result c = omega (arith, (squared (goal.at.overflow_mul-result c).Then-divides c.from.result _ c.from.ensures refl).root_fits)

pub overflow_mul-result-else-divides : goal.overflow_mul-result-else-divides
overflow_mul-result-else-divides c = omega (arith, (cleaned (goal.at.overflow_mul-result-else-divides c).Else-divides c.from-else-divides.result c.from-else-divides.ensures).clean_fits)

pub returns-then-divides : goal.returns-then-divides
returns-then-divides c =
    let step = squared (goal.at.returns-then-divides c).Then-divides c.from.result c.quotient.result c.from.ensures c.quotient.ensures in
    record { same = step.same; found = step.found; below = step.below; less = step.less }

pub returns-else-divides : goal.returns-else-divides
returns-else-divides c =
    let step = cleaned (goal.at.returns-else-divides c).Else-divides c.from-else-divides.result c.from-else-divides.ensures in
    record { same = step.same; found = step.found; below = step.below; less = step.less }
